-- A call of the running judge that nothing of the profile refuses: by 10, or not at all.
use mathlib.Core.Path.{◌≡◌, refl, sym, ◌∙◌}
use mathlib.Core.Bool.{Bool, true, false}
use mathlib.Core.List.Memᴰ
use mathlib.Core.List.{List, [], ◌∷◌, ◌++◌}
use mathlib.Core.Option.{none, some}
use Prim.Native.Nat.{ℕ, ◌*◌, ◌≤◌}
use native.Mathlib.Omega.{arith}
use borrow.Author.Tests.{ltb-false}
use lib.Dec.{ltb}
use Rattle.profile.specs.Automata.{Profile}
use Rattle.profile.specs.Tables.{capacity, layout}
use Rattle.profile.specs.Refusals.{lowest, profile_refusals}
use Rattle.profile.specs.declared.Refusal.{Refusal}
use Rattle.profile.specs.declared.Refusal.TheVariants.{FullTable}
use Rattle.theory.proofs.Refusals.{GoodProfile, lowest_append, lowest_none, profile_at}

-- the condition of 10 alone
pub full_last : (p : Profile) (b : Bool) → lowest (profile_refusals p) ≡ none → b ≡ true → some FullTable ≡ lowest (profile_refusals p ++ ((b, FullTable) ∷ []))
full_last p b e q = sym (lowest_append (profile_refusals p) ((b, FullTable) ∷ []) e ∙ rw (q, lowest))

pub full_none : (p : Profile) (b : Bool) → lowest (profile_refusals p) ≡ none → b ≡ false → none ≡ lowest (profile_refusals p ++ ((b, FullTable) ∷ []))
full_none p b e q = sym (lowest_append (profile_refusals p) ((b, FullTable) ∷ []) e ∙ rw (q, lowest))

-- where 10 does not apply, the records fit
pub fits_of : (p : Profile) (room n m : ℕ) → room ≡ capacity layout m → none ≡ lowest (profile_refusals p ++ ((ltb room n, FullTable) ∷ [])) → 10 * n ≤ m
fits_of p room n m e q =
    let h = (lowest_none (profile_refusals p ++ ((ltb room n, FullTable) ∷ []))).0 (sym q) (ltb room n, FullTable) (Memᴰ.append_right (profile_refusals p) (Memᴰ.head refl)) in
    omega (arith, ltb-false room n h, e)

-- nothing of the profile is refused
pub good_of : (p : Profile) (l : List (Bool × Refusal)) → none ≡ lowest (profile_refusals p ++ l) → GoodProfile p
good_of p l q = profile_at p ((lowest_none (profile_refusals p)).1 (λ c m. (lowest_none (profile_refusals p ++ l)).0 (sym q) c (Memᴰ.append_left l m)))
