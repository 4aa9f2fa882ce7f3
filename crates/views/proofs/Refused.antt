-- The refusals of a view: the profile for the visible letters and the visible part pass every check that the profile and the log pass.
use mathlib.Core.Path.{◌≡◌, refl, sym, ◌∙◌, ap, subst}
use mathlib.Core.Bool.{Bool, false, not, ◌||◌}
use mathlib.Core.Logic.{⊎_elim}
use mathlib.Core.List.Memᴰ
use mathlib.Core.List.{List, [], ◌∷◌, ◌++◌, map}
use mathlib.Core.Option.{none}
use Prim.Native.Nat.{ℕ, ◌*◌, ◌/◌, ◌%◌, ◌≤◌, ◌<◌}
use native.Mathlib.Omega.{arith}
use borrow.Author.Tests.{le-ltb}
use lib.Dec.{T, not_T, eqb, leb, ltb}
use lib.ListN.{length}
use Rattle.profile.specs.Lists.{Mem, any, below, filter}
use Rattle.profile.specs.Traces.{bit}
use Rattle.profile.specs.Automata.{Profile}
use Rattle.profile.specs.Refusals.{bit_from, judge_refusal, letters_out_of_range, log_refusals, lowest, mask_bit, profile_out_of_range, profile_refusals, state_bit}
use Rattle.profile.specs.declared.Refusal.{Refusal}
use Rattle.profile.specs.declared.Refusal.TheVariants.{BadLetter, MaskBit, OutOfRange, ViewBit}
use Rattle.profile.proofs.Lists.{any_at, any_of, filter_at, filter_no, filter_yes, is_false, test}
use Rattle.theory.proofs.Counting.{length_range}
use Rattle.theory.proofs.Refusals.{GoodProfile, bit_from_at, log_at, lowest_append, lowest_none, profile_at}
use Rattle.views.specs.Views.{buffer_refusals, entry_refusals, finals_late, late, leads_late, seen, view_refusal}
use Rattle.views.proofs.Late.{leads_inside}
use Rattle.views.proofs.Paths.{view_ends_at}

any_false : {A : Type 0} (t : A → Bool) (l : List A) → ((a : A) → Mem a l → T (t a) → ⊥) → any t l ≡ false
any_false t l h = is_false (any t l) (not_T (any t l) (λ m. let n = any_at t l m in h n.0 n.1 n.2))

not_any : {A : Type 0} (t : A → Bool) {l : List A} → any t l ≡ false → (a : A) → Mem a l → T (t a) → ⊥
not_any t e a m h = rw e at (any_of t m h)

filter_length : (q : ℕ → Bool) (l : List ℕ) → length (filter q l) ≤ length l
filter_length q [] = omega arith
filter_length q (a ∷ l) =
    ⊎_elim (λ t. omega (arith, ap length (filter_yes q a l t), filter_length q l)) (λ t. omega (arith, ap length (filter_no q a l t), filter_length q l)) (test (q a))

pub seen_length : (visible : ℕ) (w : List ℕ) → length (seen visible w) ≤ length w
seen_length visible w = filter_length (bit visible) w

-- the visible part passes 7 and 8 where the log does
pub seen_passes : (k visible : ℕ) (w : List ℕ) → lowest (log_refusals k w) ≡ none → lowest (log_refusals k (seen visible w)) ≡ none
seen_passes k visible w e = (lowest_none (log_refusals k (seen visible w))).1 go
  where
    h : (c : Bool × Refusal) → Mem c (log_refusals k w) → c.0 ≡ false
    h = (lowest_none (log_refusals k w)).0 e

    go : (c : Bool × Refusal) → Mem c (log_refusals k (seen visible w)) → c.0 ≡ false
    go c (Memᴰ.head q) = ap (λ (y : Bool × Refusal). y.0) q ∙ le-ltb 4000 (length (seen visible w)) (omega (arith, seen_length visible w, (log_at k w e).short))
    go c (Memᴰ.tail (Memᴰ.head q)) = ap (λ (y : Bool × Refusal). y.0) q
        ∙ any_false (leb k) (seen visible w) (λ a m. not_any (leb k) (h (any (leb k) w, BadLetter _) (Memᴰ.tail (Memᴰ.head refl))) a (filter_at (bit visible) w m).0)
    go c (Memᴰ.tail (Memᴰ.tail n)) = elim n [ ]

module _ (p : Profile) (visible : ℕ) (clean : lowest (profile_refusals p) ≡ none) where
  good : GoodProfile p
  good = profile_at p clean

  late_length : length (late p visible).moves ≡ p.s * p.k
  late_length = length_range (λ j. leads_late p visible (j / p.k) (j % p.k)) (p.s * p.k) 0

  inside : (S : ℕ) → ((r : ℕ) → T (bit S r) → r < p.s) → T (bit_from p.s S) → ⊥
  inside S h t = let n = (bit_from_at p.s S).0 t in omega (arith, n.1, h n.0 n.2)

  late_states : state_bit (late p visible) ≡ false
  late_states = neither (bit_from p.s (finals_late p visible)) (any (bit_from p.s) (late p visible).moves)
      (is_false (bit_from p.s (finals_late p visible)) (not_T (bit_from p.s (finals_late p visible)) (inside (finals_late p visible) (λ r t. (view_ends_at p good visible r t).0))))
      (any_false (bit_from p.s) (late p visible).moves (λ a m t. mapped (below (p.s * p.k)) a m t))
    where
      neither : (x y : Bool) → x ≡ false → y ≡ false → (x || y) ≡ false
      neither x y e f = rw (e, f) refl

      mapped : (l : List ℕ) (a : ℕ) → Mem a (map (λ j. leads_late p visible (j / p.k) (j % p.k)) l) → T (bit_from p.s a) → ⊥
      mapped (j ∷ l) a (Memᴰ.head q) t = inside a (λ r b. leads_inside p good visible (j / p.k) (j % p.k) r (subst (λ z. T (bit z r)) q b)) t
      mapped (j ∷ l) a (Memᴰ.tail m) t = mapped l a m t
      mapped [] a m t = elim m [ ]

  -- the profile for the visible letters passes 2, 4 and 6
  pub late_passes : lowest (profile_refusals (late p visible)) ≡ none
  late_passes = (lowest_none (profile_refusals (late p visible))).1 go
    where
      h : (c : Bool × Refusal) → Mem c (profile_refusals p) → c.0 ≡ false
      h = (lowest_none (profile_refusals p)).0 clean

      go : (c : Bool × Refusal) → Mem c (profile_refusals (late p visible)) → c.0 ≡ false
      go c (Memᴰ.head q) = ap (λ (y : Bool × Refusal). y.0) q
          ∙ ap (λ n. letters_out_of_range p.k p.masks || (ltb p.s 1 || (ltb 32 p.s || (leb p.s p.start || not (eqb n (p.s * p.k)))))) (late_length ∙ sym good.long)
          ∙ h (profile_out_of_range p, OutOfRange) (Memᴰ.head refl)
      go c (Memᴰ.tail (Memᴰ.head q)) = ap (λ (y : Bool × Refusal). y.0) q ∙ h (mask_bit p.k p.masks, MaskBit) (Memᴰ.tail (Memᴰ.head refl))
      go c (Memᴰ.tail (Memᴰ.tail (Memᴰ.head q))) = ap (λ (y : Bool × Refusal). y.0) q ∙ late_states
      go c (Memᴰ.tail (Memᴰ.tail (Memᴰ.tail n))) = elim n [ ]

-- ---- what is known where 2, 4, 6, 20, 7 and 8 hold of none

module _ (p : Profile) (visible : ℕ) (w : List ℕ) (e : lowest (entry_refusals p visible w) ≡ none) where
  entry : (c : Bool × Refusal) → Mem c (entry_refusals p visible w) → c.0 ≡ false
  entry = (lowest_none (entry_refusals p visible w)).0 e

  pub entry_profile : lowest (profile_refusals p) ≡ none
  entry_profile = (lowest_none (profile_refusals p)).1 (λ c m. entry c (Memᴰ.append_left ((bit_from p.k visible, ViewBit) ∷ log_refusals p.k w) m))

  pub entry_log : lowest (log_refusals p.k w) ≡ none
  entry_log = (lowest_none (log_refusals p.k w)).1 (λ c m. entry c (Memᴰ.append_right (profile_refusals p) (Memᴰ.tail m)))

  pub entry_mask : bit_from p.k visible ≡ false
  entry_mask = entry (bit_from p.k visible, ViewBit) (Memᴰ.append_right (profile_refusals p) (Memᴰ.head refl))

  -- 9 and 10 are left
  pub view_buffers : (n m : ℕ) → view_refusal p visible w n m ≡ lowest (buffer_refusals p (seen visible w) n m)
  view_buffers n m = lowest_append (entry_refusals p visible w) (buffer_refusals p (seen visible w) n m) e

  pub judge_buffers : (n m : ℕ) → judge_refusal (late p visible) (seen visible w) n m ≡ lowest (buffer_refusals p (seen visible w) n m)
  judge_buffers n m =
      lowest_append (profile_refusals (late p visible)) (log_refusals p.k (seen visible w) ++ buffer_refusals p (seen visible w) n m) (late_passes p visible entry_profile)
      ∙ lowest_append (log_refusals p.k (seen visible w)) (buffer_refusals p (seen visible w) n m) (seen_passes p.k visible w entry_log)
