-- A union over a set of letters, in a loop that takes the lowest letter out of those that are left.
use mathlib.Core.Path.{◌≡◌, sym, ◌∙◌, ap}
use Prim.Native.Nat.{ℕ, ◌-◌, ◌^◌, ◌≤◌, ◌<◌}
use lib.Bits.{bit_and, bit_or, or_zero_r}
use lib.Count.{count_trailing_zeros}
use Rattle.profile.specs.Automata.{union}
use Rattle.profile.specs.Lists.{below, filter}
use Rattle.profile.specs.Traces.{bit}
use Rattle.profile.proofs.Sets.{not_in_none, or_assoc}
use Rattle.theory.proofs.SetLoops.{lowest}
use Rattle.theory.proofs.Unions.{union_in, union_none, union_out}

module _ (f : ℕ → ℕ) (k : ℕ) where
  -- over the letters of G
  abbrev pub over : ℕ → ℕ
  over G = union f (filter (bit G) (below k))

  pub over_none : (o : ℕ) → bit_or o (over 0) ≡ o
  over_none o = ap (bit_or o) (union_none f (bit 0) (below k) not_in_none) ∙ or_zero_r o

  module _ (n : ℕ) (some : 0 < n) (small : n < 2 ^ 32) where
    -- the lowest letter is below k, and its set is united; or it is not
    pub over_taken : (o : ℕ) → count_trailing_zeros 32 n < k → bit_or (bit_or o (f (count_trailing_zeros 32 n))) (over (bit_and n (n - 1))) ≡ bit_or o (over n)
    over_taken o h =
        let x = count_trailing_zeros 32 n in
        let r = bit_and n (n - 1) in
        or_assoc o (f x) (over r) ∙ ap (bit_or o) (sym (union_in f x r k h) ∙ ap over (lowest 32 n some small))

    pub over_left : k ≤ count_trailing_zeros 32 n → over (bit_and n (n - 1)) ≡ over n
    over_left h = sym (union_out f (count_trailing_zeros 32 n) (bit_and n (n - 1)) k h) ∙ ap over (lowest 32 n some small)
