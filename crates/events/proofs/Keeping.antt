-- The letters that keep a letter from coming next, as a set that a loop goes through: those that are left have not been tested yet.
use mathlib.Core.Path.{◌≡◌, sym, ◌∙◌, ap, subst}
use mathlib.Core.Bool.{Bool, ◌||◌}
use mathlib.Core.Logic.{◌⊎◌, inl, inr, ⊎_elim}
use Prim.Native.Nat.{ℕ, ◌+◌, ◌-◌, ◌^◌, ◌≤◌, ◌<◌}
use native.Mathlib.Omega.{arith}
use lib.Bits.{bit_and, and_le_r}
use lib.Count.{count_trailing_zeros}
use lib.Pow.{pow_mono}
use lib.Dec.{T, T_not, eqb, ltb, ltb→lt, lt→ltb}
use Rattle.profile.specs.Limits.{most_letters}
use Rattle.profile.specs.Lists.{all, below}
use Rattle.profile.specs.Prefixes.{at}
use Rattle.profile.specs.Traces.{bit}
use Rattle.profile.proofs.Lists.{all_at, all_of, below_at, below_of, either, or_left, or_right, test}
use Rattle.profile.proofs.Sets.{bit_below, not_in_none}
use Rattle.theory.proofs.Counting.{at_map}
use Rattle.theory.proofs.SetLoops.{passing_below, passing_bit, rest_first, rest_in, rest_other}
use Rattle.events.specs.Events.{all_keepers, keepers, keeps?, lets_by?}

module _ (may : ℕ → ℕ → Bool) (k x : ℕ) where
  -- the set of letter x among those of all letters
  pub keepers_own : x < most_letters → at (all_keepers may k) x ≡ keepers may k x
  unfolding all_keepers
  keepers_own h = let e : 0 + x ≡ x = omega arith in at_map (keepers may k) most_letters 0 x h ∙ ap (keepers may k) e

  keeper_at : (y : ℕ) → T (bit (keepers may k x) y) → (y < k) × T (keeps? may x y)
  keeper_at y t =
      let h : y < k = bit_below k (keepers may k x) y (passing_below (keeps? may x) k) t in
      (h, subst T (passing_bit (keeps? may x) k y h) t)

  module _ (next : ℕ → ℕ) where
    -- the set `rest` has letters that keep x only, and every other letter lets x by
    pub record Left (rest : ℕ) : Type 0 where
      pub small : rest < 2 ^ 32
      pub keep : (y : ℕ) → T (bit rest y) → (y < k) × T (keeps? may x y)
      pub others : (y : ℕ) → y < k → T (bit rest y) ⊎ T (lets_by? may next x y)

    pub left_first : k ≤ most_letters → Left (keepers may k x)
    left_first h = record {
      small = omega (arith, passing_below (keeps? may x) k, pow_mono h);
      keep = keeper_at;
      others = λ y l. ⊎_elim
          (λ t. inr (⊎_elim (or_left (eqb y x) (may y x || ltb (next x) (next y)))
          (λ m. or_right (eqb y x) (may y x || ltb (next x) (next y)) (or_left (may y x) (ltb (next x) (next y)) m))
          (either (eqb y x) (may y x) t)))
          (λ t. inl (subst T (sym (passing_bit (keeps? may x) k y l)) t))
          (test (eqb y x || may y x));
    }

    module _ (rest : ℕ) (some : 0 < rest) (left : Left rest) where
      abbrev lowest : ℕ
      lowest = count_trailing_zeros 32 rest

      -- the lowest letter that is left has no later event
      pub left_stops : next lowest ≤ next x → T (all (lets_by? may next x) (below k)) → ⊥
      left_stops h t =
          let n = left.keep lowest (rest_first rest some left.small) in
          let u = all_at (lets_by? may next x) t (below_of k lowest n.0) in
          ⊎_elim (λ e. T_not (eqb lowest x || may lowest x) n.1 (or_left (eqb lowest x) (may lowest x) e))
          (λ v. ⊎_elim (λ m. T_not (eqb lowest x || may lowest x) n.1 (or_right (eqb lowest x) (may lowest x) m))
          (λ l. omega (arith, ltb→lt (next x) (next lowest) l))
          (either (may lowest x) (ltb (next x) (next lowest)) v))
          (either (eqb lowest x) (may lowest x || ltb (next x) (next lowest)) u)

      -- it has a later event, and is taken out
      pub left_next : next x < next lowest → Left (bit_and rest (rest - 1))
      left_next h = record {
        small = omega (arith, and_le_r rest (rest - 1), left.small);
        keep = λ y m. left.keep y (rest_in rest some left.small y m);
        others = λ y l. ⊎_elim
            (λ m. ⊎_elim
            (λ e. inr (subst (λ z. T (lets_by? may next x z)) e
            (or_right (eqb lowest x) (may lowest x || ltb (next x) (next lowest)) (or_right (may lowest x) (ltb (next x) (next lowest)) (lt→ltb (next x) (next lowest) h)))))
            inl (rest_other rest some left.small y m))
            inr (left.others y l);
      }

    -- none is left
    pub left_none : Left 0 → T (all (lets_by? may next x) (below k))
    left_none left = all_of (lets_by? may next x) (below k) (λ y m. ⊎_elim (λ t. absurd (not_in_none y t)) (λ t. t) (left.others y (below_at k y m)))
