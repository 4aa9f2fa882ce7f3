-- Unions over the members below s of a set: none, or one member beside a set.
use mathlib.Core.Path.{◌≡◌, sym, ◌∙◌, ap, subst}
use mathlib.Core.Bool.{Bool, false}
use mathlib.Core.Logic.{⊎_elim}
use mathlib.Core.List.{List}
use Prim.Native.Nat.{ℕ, ◌^◌, ◌≤◌, ◌<◌}
use native.Mathlib.Omega.{arith}
use lib.Bits.{bit_or}
use lib.Dec.{T, not_T}
use Rattle.profile.specs.Automata.{union}
use Rattle.profile.specs.Lists.{below, filter}
use Rattle.profile.specs.Traces.{bit}
use Rattle.profile.proofs.Lists.{below_at, below_of, either, filter_agree, filter_at, filter_none, filter_of, is_false, or_left, or_right}
use Rattle.profile.proofs.Sets.{bit_of_or, bit_self, bit_single, sets_eq, union_at, union_of}

-- no number passes the test
pub union_none : (f : ℕ → ℕ) (p : ℕ → Bool) (l : List ℕ) → ((q : ℕ) → T (p q) → ⊥) → union f (filter p l) ≡ 0
union_none f p l h = ap (union f) (filter_none p l (λ q m. h q))

-- the union over t and the set R
module _ (f : ℕ → ℕ) (t R s : ℕ) where
  pub union_in : t < s → union f (filter (bit (bit_or (2 ^ t) R)) (below s)) ≡ bit_or (f t) (union f (filter (bit R) (below s)))
  union_in h = sets_eq (union f (filter S (below s))) (bit_or (f t) rest) into from
    where
      S : ℕ → Bool
      S = bit (bit_or (2 ^ t) R)

      rest : ℕ
      rest = union f (filter (bit R) (below s))

      into : (q : ℕ) → T (bit (union f (filter S (below s))) q) → T (bit (bit_or (f t) rest) q)
      into q m =
          let n = union_at f (filter S (below s)) q m in
          let w = filter_at S (below s) n.1 in
          rw (bit_of_or (f t) rest q) (⊎_elim
          (λ a. or_left (bit (f t) q) (bit rest q) (subst (λ z. T (bit (f z) q)) (sym (bit_single t n.0 a)) n.2))
          (λ a. or_right (bit (f t) q) (bit rest q) (union_of f q (filter_of (bit R) w.0 a) n.2))
          (either (bit (2 ^ t) n.0) (bit R n.0) (rw (bit_of_or (2 ^ t) R n.0) at w.1)))

      from : (q : ℕ) → T (bit (bit_or (f t) rest) q) → T (bit (union f (filter S (below s))) q)
      from q m = ⊎_elim
          (λ a. union_of f q (filter_of S (below_of s t h) (rw (bit_of_or (2 ^ t) R t) (or_left (bit (2 ^ t) t) (bit R t) (bit_self t)))) a)
          (λ a.
          let n = union_at f (filter (bit R) (below s)) q a in
          let w = filter_at (bit R) (below s) n.1 in
          union_of f q (filter_of S w.0 (rw (bit_of_or (2 ^ t) R n.0) (or_right (bit (2 ^ t) n.0) (bit R n.0) w.1))) n.2)
          (either (bit (f t) q) (bit rest q) (rw (bit_of_or (f t) rest q) at m))

  pub union_out : s ≤ t → union f (filter (bit (bit_or (2 ^ t) R)) (below s)) ≡ union f (filter (bit R) (below s))
  union_out h = ap (union f) (filter_agree (bit (bit_or (2 ^ t) R)) (bit R) (below s) (λ q m.
      let none : bit (2 ^ t) q ≡ false = is_false (bit (2 ^ t) q) (not_T (bit (2 ^ t) q) (λ a. let e = bit_single t q a in let l = below_at s q m in omega arith)) in
      bit_of_or (2 ^ t) R q ∙ rw none))
