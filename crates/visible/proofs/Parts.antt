-- The visible part, letter by letter; a part that is cleared.
use mathlib.Core.Path.{◌≡◌, sym, ◌∙◌, ap, ap₂}
use mathlib.Core.Logic.{⊎_elim}
use mathlib.Core.List.{List, [], ◌∷◌, ◌++◌, append-nil}
use Prim.Native.Nat.{ℕ, suc, ◌+◌, ◌≤◌, ◌<◌}
use native.Mathlib.Numerals.{add-one}
use native.Mathlib.Omega.{arith}
use lib.Dec.{ltb, ltb→lt}
use lib.ListN.{length, get_or, take, set, length-append}
use lib.Seq.{take-set-le, take-suc, take-suc-set}
use Rattle.profile.specs.Traces.{bit}
use Rattle.profile.proofs.Lists.{all_at, filter_append, filter_no, filter_yes, mem_getd, test}
use Rattle.theory.proofs.Refusals.{GoodLog}
use Rattle.views.specs.Views.{seen}
use Rattle.views.proofs.Refused.{seen_length}

-- the letters of a log that is not refused
pub good_letter : (k : ℕ) (w : List ℕ) (i : ℕ) → k ≤ 16 → GoodLog k w → i < length w → get_or w i 0 < 16
good_letter k w i h g l = omega (arith, ltb→lt (get_or w i 0) k (all_at (λ a. ltb a k) g.letters (mem_getd w i 0 l)))

-- one letter more
module _ (visible : ℕ) (w part : List ℕ) (i n : ℕ) (h : i < length w) (l : n < length part) (e : n ≡ length (seen visible (take i w))) (f : take n part ≡ seen visible (take i w)) where
  last : seen visible (take (i + 1) w) ≡ seen visible (take i w) ++ seen visible (get_or w i 0 ∷ [])
  last = ap (λ m. seen visible (take m w)) (add-one i) ∙ ap (seen visible) (take-suc w i 0 h) ∙ filter_append (bit visible) (take i w) (get_or w i 0 ∷ [])

  pub seen_place : n + length (seen visible (get_or w i 0 ∷ [])) ≡ length (seen visible (take (i + 1) w))
  seen_place = sym (ap length last ∙ length-append (seen visible (take i w)) (seen visible (get_or w i 0 ∷ [])) ∙ ap (λ m. m + length (seen visible (get_or w i 0 ∷ []))) (sym e))

  pub seen_part : take (n + length (seen visible (get_or w i 0 ∷ []))) (set part n (get_or w i 0)) ≡ seen visible (take (i + 1) w)
  seen_part = ⊎_elim
      (λ t.
      let y = filter_yes (bit visible) (get_or w i 0) [] t in
      let m : n + length (seen visible (get_or w i 0 ∷ [])) ≡ suc n = omega (arith, ap length y) in
      ap (λ z. take z (set part n (get_or w i 0))) m ∙ take-suc-set part n (get_or w i 0) l ∙ ap₂ (λ a b. a ++ b) f (sym y) ∙ sym last)
      (λ t.
      let y = filter_no (bit visible) (get_or w i 0) [] t in
      let m : n + length (seen visible (get_or w i 0 ∷ [])) ≡ n = omega (arith, ap length y) in
      let le : n ≤ n = omega arith in
      ap (λ z. take z (set part n (get_or w i 0))) m ∙ take-set-le n part n (get_or w i 0) le ∙ f ∙ sym (append-nil (seen visible (take i w))) ∙ ap (λ z. seen visible (take i w) ++ z) (sym y) ∙ sym last)
      (test (bit visible (get_or w i 0)))

-- one letter has at most one visible letter
pub seen_one : (visible a : ℕ) → length (seen visible (a ∷ [])) ≤ 1
seen_one visible a = seen_length visible (a ∷ [])
