use mathlib.Core.Path.{◌≡◌, sym, ◌∙◌, ap, ap₂, subst}
use mathlib.Core.Bool.{not}
use mathlib.Core.List.{List, [], ◌∷◌, ◌++◌}
use Prim.Native.Nat.{ℕ, ◌*◌, ◌%◌, ◌^◌}
use native.Mathlib.Nat.{one-mul}
use native.Mathlib.Omega.{arith}
use lib.Bits.{bit_or}
use lib.Dec.{T}
use lib.ListN.{length, drop, replicate, length-append}
use lib.Pow.{shl_exact}
use Rattle.profile.specs.Limits.{most_letters}
use Rattle.profile.specs.Automata.{union}
use Rattle.profile.specs.Lists.{below, filter}
use Rattle.profile.specs.Traces.{independent}
use Rattle.profile.proofs.Sets.{union_last}
use Rattle.counts.specs.Counts.{words}
use Rattle.events.specs.Events.{comes_next?}
use Rattle.letters.specs.Letters.{letters_by, next_by}
use Rattle.letters.proofs.Additions.{below_no, below_yes, letters_first}
use Rattle.letters.proofs.ByPlacesFinder.addable.Goals as goal
use Rattle.letters.proofs.ByPlacesFinder.addable.Goals.{else-comes_next, then-comes_next}

pub loop-x-preserved : goal.loop-x-preserved
loop-x-preserved c =
    let l = c.loop-x in
    let a = c.args in
    let p = comes_next? (independent a.self.now.keepers.now.masks.now) a.self.now.keepers.now.k a.self.now.n c.next_places.new.next in
    let e : c.comes_next.result ≡ p l.x = c.comes_next.ensures in
    let bit-x : 1 * 2 ^ l.x % 2 ^ 32 ≡ 2 ^ l.x = shl_exact {a = 1} 1 l.x 32 (omega arith) (omega arith) ∙ one-mul (2 ^ l.x) in
    let done = filter p (below l.x) in
    (elim c.if-comes_next.branch [
      | then-comes_next v ↦ let f = below_yes p l.x (subst T (sym v.if-comes_next.true ∙ e) tt) in (
        omega arith,
        omega (arith, v.number-is),
        v.set-is ∙ ap₂ bit_or l.invariant.2 bit-x ∙ sym (ap (union (λ y. 2 ^ y)) f ∙ union_last (λ y. 2 ^ y) done l.x),
        v.number-is ∙ omega (arith, l.invariant.3, ap length f, length-append done (l.x ∷ [])),
      )
      | else-comes_next v ↦ let f = below_no p l.x (subst (λ b. T (not b)) (sym v.if-comes_next.false ∙ e) tt) in
          (omega arith, omega (arith, v.number-is), v.set-is ∙ l.invariant.2 ∙ sym (ap (union (λ y. 2 ^ y)) f), v.number-is ∙ l.invariant.3 ∙ sym (ap length f))
    ])

pub returns : goal.returns
returns c =
    let a = c.args in
    let l = c.loop-x in
    let e : l.x ≡ a.self.now.keepers.now.k = omega arith in
    let may = independent a.self.now.keepers.now.masks.now in
    let places : ℕ → List ℕ = λ n. next_by n a.self.now.placed.now.starts.now a.self.now.placed.now.places.now (words a.c) ++ drop n (replicate most_letters 0) in
    let f : filter (comes_next? may a.self.now.keepers.now.k a.self.now.n c.next_places.new.next) (below l.x)
    ≡ letters_by may a.self.now.keepers.now.k a.self.now.n a.self.now.placed.now.starts.now a.self.now.placed.now.places.now (words a.c) =
    ap₂ (λ m x. filter (comes_next? may a.self.now.keepers.now.k a.self.now.n m) (below x)) (c.next_places.ensures ∙ ap places l.invariant.0) e
    ∙ letters_first may a.self.now.keepers.now.k a.self.now.n a.self.now.placed.now.starts.now a.self.now.placed.now.places.now (words a.c) (drop a.self.now.keepers.now.k (replicate most_letters 0)) in
    (l.invariant.2 ∙ ap (union (λ y. 2 ^ y)) f, l.invariant.3 ∙ ap length f)
