-- 18 in the paper's words: the test holds exactly when the groups break a rule.
use mathlib.Core.Path.{◌≡◌, refl}
use mathlib.Core.Bool.{Bool, true, false, not, ◌&&◌, ◌||◌, true≢false}
use mathlib.Core.Logic.{⊎_elim, ◌↔◌}
use mathlib.Core.List.{List}
use Prim.Native.Nat.{ℕ, ◌<◌}
use native.Mathlib.Omega.{arith}
use borrow.Author.Tests.{le-ltb, ltb-false}
use lib.Dec.{T, T_not, not_T, ltb}
use lib.ListN.{get_or, length, get_or-eq_default}
use Rattle.profile.specs.Automata.{meets}
use Rattle.profile.specs.Lists.{Mem, any, below}
use Rattle.profile.specs.Refusals.{bit_from}
use Rattle.profile.specs.Traces.{bit, independent}
use Rattle.profile.proofs.Lists.{any_at, any_of, below_at, below_of, both, either, fst_of, is_false, lt_or_le, or_left, or_right, snd_of, test}
use Rattle.profile.proofs.Sets.{meets_at, meets_of, not_in_none}
use Rattle.theory.proofs.Refusals.{bit_from_at}
use Rattle.ceilings.specs.Ceilings.{GoodGroups, bad_groups, exchanges, group_bad, lacks_letter, most_groups}

-- two letters of the group may be exchanged, as a test
pub exchanges_exactly : (masks : List ℕ) (g : ℕ) → T (exchanges masks g) ↔ ((x y : ℕ) × T (bit g x) × T (bit g y) × T (independent masks x y))
exchanges_exactly masks g = (
  λ t.
      let n = any_at pair (below (length masks)) t in
      let m = meets_at (get_or masks n.0 0) g (snd_of (bit g n.0) (meets (get_or masks n.0 0) g) n.2) in
      (n.0, m.0, fst_of (bit g n.0) (meets (get_or masks n.0 0) g) n.2, m.2, m.1),
  λ n.
      let x = n.0 in
      let y = n.1 in
      any_of pair (below_of (length masks) x (place x y n.4)) (both (bit g x) (meets (get_or masks x 0) g) n.2 (meets_of (get_or masks x 0) g y n.4 n.3)),
)
  where
    pair : ℕ → Bool
    pair x = bit g x && meets (get_or masks x 0) g

    place : (x y : ℕ) → T (independent masks x y) → x < length masks
    place x y t = ⊎_elim (λ h. h) (λ h. absurd (not_in_none y (rw (get_or-eq_default masks 0 {n = x} h) at t))) (lt_or_le x (length masks))

-- neither test holds
neither : (x y : Bool) → (x || y) ≡ false → (x ≡ false) × (y ≡ false)
neither true y e = absurd (true≢false e)
neither false y e = (refl, e)

-- a test that is false does not hold
fails : (p : Bool) → p ≡ false → T p → ⊥
fails p e t = rw e at t

module _ (k : ℕ) (masks groups : List ℕ) where
  -- where 18 does not apply the groups keep the rules
  pub good_groups : bad_groups k masks groups ≡ false → GoodGroups k masks groups
  good_groups e =
      let n = neither (ltb (length groups) 1) (ltb most_groups (length groups) || (any (group_bad k masks) groups || lacks_letter k groups)) e in
      let m = neither (ltb most_groups (length groups)) (any (group_bad k masks) groups || lacks_letter k groups) n.1 in
      let q = neither (any (group_bad k masks) groups) (lacks_letter k groups) m.1 in
      record {
        number = (ltb-false (length groups) 1 n.0, ltb-false most_groups (length groups) m.0);
        inside = λ g i x t. ⊎_elim (λ h. h)
            (λ h. absurd (fails (any (group_bad k masks) groups) q.0 (any_of (group_bad k masks) i (or_left (bit_from k g) (exchanges masks g) ((bit_from_at k g).1 (x, h, t))))))
            (lt_or_le x k);
        together = λ x h. any_at (λ g. bit g x) groups (not-not (any (λ g. bit g x) groups) (λ t.
            fails (lacks_letter k groups) q.1 (any_of (λ x. not (any (λ g. bit g x) groups)) (below_of k x h) t)));
        apart = λ g i x y s t u. fails (any (group_bad k masks) groups) q.0
            (any_of (group_bad k masks) i (or_right (bit_from k g) (exchanges masks g) ((exchanges_exactly masks g).1 (x, y, s, t, u))));
      }
    where
      not-not : (p : Bool) → (T (not p) → ⊥) → T p
      not-not p h = ⊎_elim (λ t. t) (λ t. absurd (h t)) (test p)

  -- and where they keep them 18 does not apply
  pub groups_good : GoodGroups k masks groups → bad_groups k masks groups ≡ false
  groups_good h = is_false (bad_groups k masks groups) (not_T (bad_groups k masks groups) (λ t. ⊎_elim
      (λ a. fails (ltb (length groups) 1) (le-ltb (length groups) 1 h.number.0) a)
      (λ a. ⊎_elim
      (λ b. fails (ltb most_groups (length groups)) (le-ltb most_groups (length groups) h.number.1) b)
      (λ b. ⊎_elim (λ c. one-bad (any_at (group_bad k masks) groups c)) (λ c. one-lacks (any_at lacked (below k) c))
      (either (any (group_bad k masks) groups) (lacks_letter k groups) b))
      (either (ltb most_groups (length groups)) (any (group_bad k masks) groups || lacks_letter k groups) a))
      (either (ltb (length groups) 1) (ltb most_groups (length groups) || (any (group_bad k masks) groups || lacks_letter k groups)) t)))
    where
      lacked : ℕ → Bool
      lacked x = not (any (λ g. bit g x) groups)

      one-bad : (g : ℕ) × Mem g groups × T (group_bad k masks g) → ⊥
      one-bad n = ⊎_elim
          (λ t. let j = (bit_from_at k n.0).0 t in let l = h.inside n.0 n.1 j.0 j.2 in omega (arith, j.1))
          (λ t. let j = (exchanges_exactly masks n.0).0 t in h.apart n.0 n.1 j.0 j.1 j.2 j.3 j.4)
          (either (bit_from k n.0) (exchanges masks n.0) n.2)

      one-lacks : (x : ℕ) × Mem x (below k) × T (lacked x) → ⊥
      one-lacks n =
          let g = h.together n.0 (below_at k n.0 n.1) in
          T_not (any (λ g. bit g n.0) groups) n.2 (any_of (λ g. bit g n.0) g.1 g.2)

  -- 18 applies exactly when the groups break a rule
  pub groups_exactly : (bad_groups k masks groups ≡ false) ↔ GoodGroups k masks groups
  groups_exactly = (good_groups, groups_good)
