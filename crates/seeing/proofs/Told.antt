-- What an answer says of its refusal and of P.
use mathlib.Core.Path.{◌≡◌, refl, sym, ◌∙◌, ap, ap₂}
use mathlib.Core.List.{List}
use Rattle.std.specs.Prelude.{Result}
use mathlib.Core.Option.{Option, none, some, some-injective}
use Prim.Native.Nat.{ℕ, ◌*◌, ◌≤◌}
use native.Mathlib.Omega.{arith}
use lib.ListN.{length}
use Rattle.profile.specs.Traces.{independent}
use Rattle.profile.specs.Automata.{Profile, automaton}
use Rattle.profile.specs.Orders.{accepted_order}
use Rattle.profile.specs.Prefixes.{looks, prefix_count}
use Rattle.profile.specs.Tables.{layout, record_length, table_of}
use Rattle.profile.specs.Refusals.{lowest}
use Rattle.profile.specs.declared.Refusal.{Refusal}
use Rattle.profile.specs.Refusals.{refused_by}
use Rattle.verdict.specs.declared.Judged.{Judged}
use Rattle.verdict.proofs.Promises.{told_prefixes}
use Rattle.views.specs.Views.{buffer_refusals}
use Rattle.hulls.specs.Hulls.{hulled}
use Rattle.cleared.specs.Cleared.{Clean, answer, table_as, table_left, told_as}
use Rattle.seeing.specs.Seeing.{hulled_left}
use Rattle.cleared.proofs.Cleared.{ten_not}

pub refused_told : (o : Option Refusal) (v : Option (List ℕ)) (P n : ℕ) → refused_by (told_as o v P n) ≡ o
refused_told (some r) v P n = refl
refused_told none none P n = refl
refused_told none (some v) P n = refl

pub prefixes_told : (v : Option (List ℕ)) (P n : ℕ) → told_prefixes (told_as none v P n) ≡ some P
prefixes_told none P n = refl
prefixes_told (some v) P n = refl

module _ (q : Profile) (u order t R : List ℕ) (clean : Clean q u) (fits : length u ≤ length order) (j : Result Judged Refusal) (e : j ≡ answer q (automaton q) u (length order) (length t)) where
  abbrev v : Option (List ℕ)
  v = accepted_order (independent q.masks) (λ a. a) (automaton q) u

  abbrev Q : ℕ
  Q = prefix_count (independent q.masks) (λ a. a) q.k u

  abbrev L : ℕ
  L = looks (independent q.masks) (λ a. a) q.k u

  abbrev filled : List ℕ
  filled = table_of layout (independent q.masks) (λ a. a) (automaton q) q.k u t

  refusal_of : lowest (buffer_refusals q u (length order) (length t)) ≡ refused_by j
  refusal_of = sym (refused_told (lowest (buffer_refusals q u (length order) (length t))) v Q L) ∙ ap refused_by (sym e)

  pub other_table : {r : Refusal} → refused_by j ≡ some r → (T : List ℕ) → T ≡ table_left q (automaton q) u (length order) t → T ≡ hulled_left q R u (length order) t
  other_table h T d =
      d ∙ ap (λ o. table_as o filled t) (refusal_of ∙ h) ∙ sym (ap (λ o. table_as o (hulled q.s R Q filled) t) (refusal_of ∙ h))

  module _ (h : refused_by j ≡ none) (P : ℕ) (k : told_prefixes j ≡ some P) where
    prefixes_are : P ≡ Q
    prefixes_are = sym (some-injective Q P (sym (prefixes_told v Q L) ∙ ap (λ o. told_prefixes (told_as o v Q L)) (sym (refusal_of ∙ h)) ∙ ap told_prefixes (sym e) ∙ k))

    pub hulls_fit : record_length layout * P ≤ length t
    hulls_fit = omega (arith, prefixes_are, ten_not q (automaton q) u clean (length order) (length t) fits (refusal_of ∙ h))

    pub hulls_table : (T H : List ℕ) → T ≡ table_left q (automaton q) u (length order) t → H ≡ hulled q.s R P T → H ≡ hulled_left q R u (length order) t
    hulls_table T H d c =
        c ∙ ap₂ (λ n x. hulled q.s R n x) prefixes_are (d ∙ ap (λ o. table_as o filled t) (refusal_of ∙ h)) ∙ sym (ap (λ o. table_as o (hulled q.s R Q filled) t) (refusal_of ∙ h))
