-- A set that is added to the sets of the names in another, one name after the other.
use mathlib.Core.Path.{◌≡◌, sym, subst}
use mathlib.Core.Logic.{◌⊎◌, inl, inr, ⊎_elim, ◌≢◌}
use mathlib.Core.List.{List}
use Prim.Native.Nat.{ℕ, ◌-◌, ◌^◌, ◌<◌}
use lib.Bits.{bit_and, bit_or}
use lib.Count.{count_trailing_zeros}
use lib.Dec.{T, T_not, eqb, eqb→eq, eqb_refl}
use lib.ListN.{get_or, length, set}
use lib.Seq.{get_or-set_same, get_or-set_other}
use Rattle.profile.specs.Traces.{bit}
use Rattle.profile.proofs.Lists.{either, or_left, or_right, test}
use Rattle.profile.proofs.Sets.{bit_below, bit_of_or, not_in_none}
use Rattle.theory.proofs.SetLoops.{rest_first, rest_in, rest_other}
use Rattle.rulesets.specs.Rulesets.{Spread}

-- the names of `rest` are still to come
pub record Spreading (x y : ℕ) (before after : List ℕ) (rest : ℕ) : Type 0 where
  pub given : (l r : ℕ) → T (bit (get_or after l 0) r) → T (bit (get_or before l 0) r) ⊎ (T (bit x l) × T (bit y r))
  pub kept : (l r : ℕ) → T (bit (get_or before l 0) r) → T (bit (get_or after l 0) r)
  pub added : (l r : ℕ) → T (bit x l) → T (bit y r) → T (bit rest l) ⊎ T (bit (get_or after l 0) r)
  pub left : (l : ℕ) → T (bit rest l) → T (bit x l)

module _ (x y : ℕ) (before : List ℕ) where
  pub spread_start : Spreading x y before before x
  spread_start = record { given = λ l r t. inl t; kept = λ l r t. t; added = λ l r a b. inl a; left = λ l t. t }

  pub spread_end : {after : List ℕ} {rest : ℕ} → rest ≡ 0 → Spreading x y before after rest → Spread x y before after
  spread_end {after} {rest} e s = record {
    given = s.given;
    kept = s.kept;
    added = λ l r a b. ⊎_elim (λ t. absurd (not_in_none l (subst (λ n. T (bit n l)) e t))) (λ t. t) (s.added l r a b);
  }

  module _ (after : List ℕ) (n : ℕ) (p : 0 < n) (h : n < 2 ^ 32) (s : Spreading x y before after n) where
    abbrev lowest : ℕ
    lowest = count_trailing_zeros 32 n

    abbrev others : ℕ
    others = bit_and n (n - 1)

    -- it is a name
    pub lowest_name : x < 2 ^ 16 → lowest < 16
    lowest_name k = bit_below 16 x lowest k (s.left lowest (rest_first n p h))

    -- the lowest name is taken
    pub spread_more : lowest < length after → Spreading x y before (set after lowest (bit_or (get_or after lowest 0) y)) others
    spread_more lt = record {
      given = λ l r t. ⊎_elim
          (λ e. ⊎_elim (s.given l r)
          (λ b. inr (subst (λ m. T (bit x m)) e (s.left lowest (rest_first n p h)), b))
          (either (bit (get_or after l 0) r) (bit y r) (subst T (bit_of_or (get_or after l 0) y r) (subst (λ m. T (bit m r)) (at_same l e) t))))
          (λ ne. s.given l r (subst (λ m. T (bit m r)) (at_other l ne) t)) (same_or l);
      kept = λ l r t. keep l r (s.kept l r t);
      added = λ l r a b. ⊎_elim
          (λ t. ⊎_elim (λ e. inr (subst (λ m. T (bit m r)) (sym (at_same l e)) (subst T (sym (bit_of_or (get_or after l 0) y r)) (or_right (bit (get_or after l 0) r) (bit y r) b)))) inl (rest_other n p h l t))
          (λ t. inr (keep l r t)) (s.added l r a b);
      left = λ l t. s.left l (rest_in n p h l t);
    }
      where
        same_or : (l : ℕ) → (lowest ≡ l) ⊎ (l ≢ lowest)
        same_or l = ⊎_elim (λ t. inl (eqb→eq lowest l t)) (λ t. inr (λ e. T_not (eqb lowest l) t (subst (λ m. T (eqb lowest m)) (sym e) (eqb_refl lowest)))) (test (eqb lowest l))

        at_same : (l : ℕ) → lowest ≡ l → get_or (set after lowest (bit_or (get_or after lowest 0) y)) l 0 ≡ bit_or (get_or after l 0) y
        at_same l e = subst (λ m. get_or (set after lowest (bit_or (get_or after lowest 0) y)) m 0 ≡ bit_or (get_or after m 0) y) e
            (get_or-set_same after lowest (bit_or (get_or after lowest 0) y) 0 lt)

        at_other : (l : ℕ) → l ≢ lowest → get_or (set after lowest (bit_or (get_or after lowest 0) y)) l 0 ≡ get_or after l 0
        at_other l ne = get_or-set_other after lowest l (bit_or (get_or after lowest 0) y) 0 ne

        keep : (l r : ℕ) → T (bit (get_or after l 0) r) → T (bit (get_or (set after lowest (bit_or (get_or after lowest 0) y)) l 0) r)
        keep l r t = ⊎_elim
            (λ e. subst (λ m. T (bit m r)) (sym (at_same l e)) (subst T (sym (bit_of_or (get_or after l 0) y r)) (or_left (bit (get_or after l 0) r) (bit y r) t)))
            (λ ne. subst (λ m. T (bit m r)) (sym (at_other l ne)) t) (same_or l)
