-- How many members a set of letters has.
use mathlib.Core.Path.{◌≡◌, refl, sym, ◌∙◌, ap}
use mathlib.Core.Bool.{Bool, true, false, cond}
use mathlib.Core.List.{List, [], ◌∷◌, ◌++◌}
use Prim.Native.Nat.{ℕ, zero, suc, ◌+◌, ◌*◌, ◌^◌, ◌<◌}
use native.Mathlib.Nat.{one-mul}
use native.Mathlib.Numerals.{add-one}
use native.Mathlib.Omega.{arith}
use lib.Bits.{bit_or, or_shifted_r}
use lib.Count.{ones, ones_cat}
use lib.Dec.{T}
use lib.ListN.{length, length-append}
use Rattle.profile.specs.Automata.{union}
use Rattle.profile.specs.Lists.{below, filter}
use Rattle.profile.proofs.Lists.{below_suc, filter_last_no, filter_last_yes}
use Rattle.profile.proofs.Sets.{union_last}
use Rattle.theory.proofs.SetLoops.{passing_below}

-- the numbers below k that pass a test, as a set and as a list
pub passing_ones : (p : ℕ → Bool) (k : ℕ) → ones (union (λ x. 2 ^ x) (filter p (below k))) ≡ length (filter p (below k))
unfolding ones
passing_ones p zero = refl
passing_ones p (suc k) = go (p k) refl (passing_ones p k)
  where
    S : ℕ
    S = union (λ x. 2 ^ x) (filter p (below k))

    go : (c : Bool) → p k ≡ c → ones S ≡ length (filter p (below k)) → ones (union (λ x. 2 ^ x) (filter p (below (suc k)))) ≡ length (filter p (below (suc k)))
    go true e ih =
        let l : filter p (below (suc k)) ≡ filter p (below k) ++ (k ∷ []) = ap (filter p) (below_suc k) ∙ filter_last_yes p (below k) k (rw e tt) in
        let m : bit_or S (2 ^ k) ≡ 1 * 2 ^ k + S = ap (bit_or S) (sym (one-mul (2 ^ k))) ∙ or_shifted_r 1 k S (passing_below p k) in
        ap (λ r. ones (union (λ x. 2 ^ x) r)) l ∙ ap ones (union_last (λ x. 2 ^ x) (filter p (below k)) k ∙ m) ∙ ones_cat k 1 S (passing_below p k)
        ∙ omega (arith, ih, ap length l, length-append (filter p (below k)) (k ∷ []))
    go false e ih =
        let l : filter p (below (suc k)) ≡ filter p (below k) = ap (filter p) (below_suc k) ∙ filter_last_no p (below k) k (rw e tt) in
        ap (λ r. ones (union (λ x. 2 ^ x) r)) l ∙ ih ∙ ap length (sym l)
