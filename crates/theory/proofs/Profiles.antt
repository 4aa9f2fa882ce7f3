-- A profile's numbers give a relation without own pairs, and a lawful automaton.
use mathlib.Core.Path.{subst}
use mathlib.Core.List.{List}
use mathlib.Core.Logic.{◌≢◌}
use Prim.Native.Nat.{ℕ, ◌^◌, ◌<◌}
use lib.Dec.{T, ltb, ltb→lt, lt→ltb}
use Rattle.profile.specs.Lists.{below, filter}
use Rattle.profile.specs.Traces.{bit, independent}
use Rattle.profile.specs.Automata.{Profile, automaton, meets, row}
use Rattle.theory.proofs.Automata.{Lawful}
use Rattle.profile.proofs.Lists.{below_at, below_of, both, filter_at, filter_of, fst_of, snd_of}
use Rattle.profile.proofs.Sets.{bit_self, bit_single, meets_at, meets_of, union_at, union_of}

-- where no mask has its own bit, letters that may be exchanged are different
pub distinct : (masks : List ℕ) → ((i : ℕ) → T (independent masks i i) → ⊥) → (a b : ℕ) → T (independent masks a b) → a ≢ b
distinct masks own a b t e = own b (subst (λ i. T (independent masks i b)) e t)

-- the states to which letter x leads from state q
abbrev to : Profile → ℕ → ℕ → ℕ
to p x q = row p.k p.moves q x

-- step and back of a profile are what its moves say
pub lawful : (p : Profile) → Lawful (automaton p)
lawful p = record {
  step_of = λ S x q r h m.
      union_of (to p x) r
      (filter_of (bit S) (below_of p.s q (ltb→lt q p.s (fst_of (ltb q p.s) (bit (to p x q) r) m))) h) (snd_of (ltb q p.s) (bit (to p x q) r) m);
  step_at = λ S x r h.
      let n = union_at (to p x) (filter (bit S) (below p.s)) r h in
      let m = filter_at (bit S) (below p.s) n.1 in
      (n.0, m.1, both (ltb n.0 p.s) (bit (to p x n.0) r) (lt→ltb n.0 p.s (below_at p.s n.0 m.0)) n.2);
  back_of = λ R x q r h m.
      union_of (λ q. 2 ^ q) q
      (filter_of (λ q. meets (to p x q) R) (below_of p.s q (ltb→lt q p.s (fst_of (ltb q p.s) (bit (to p x q) r) m)))
      (meets_of (to p x q) R r (snd_of (ltb q p.s) (bit (to p x q) r) m) h))
      (bit_self q);
  back_at = λ R x q h.
      let n = union_at (λ q. 2 ^ q) (filter (λ q. meets (to p x q) R) (below p.s)) q h in
      let m = filter_at (λ q. meets (to p x q) R) (below p.s) n.1 in
      let e = bit_single n.0 q n.2 in
      let r = meets_at (to p x q) R (subst (λ y. T (meets (to p x y) R)) e m.1) in
      (r.0, r.2, both (ltb q p.s) (bit (to p x q) r.0) (lt→ltb q p.s (subst (λ y. y < p.s) e (below_at p.s n.0 m.0))) r.1);
}
