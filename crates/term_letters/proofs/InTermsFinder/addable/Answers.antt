use mathlib.Core.Path.{◌≡◌, sym, ◌∙◌, ap, ap₂, subst}
use mathlib.Core.Bool.{not}
use mathlib.Core.List.{List, [], ◌∷◌, ◌++◌}
use Prim.Native.Nat.{ℕ, ◌*◌, ◌%◌, ◌^◌}
use native.Mathlib.Nat.{one-mul}
use native.Mathlib.Omega.{arith}
use lib.Bits.{bit_or}
use lib.Dec.{T}
use lib.ListN.{length, drop, replicate, length-append}
use lib.Pow.{shl_exact}
use Rattle.profile.specs.Limits.{most_letters}
use Rattle.profile.specs.Automata.{union}
use Rattle.profile.specs.Lists.{below, filter}
use Rattle.profile.specs.Traces.{independent}
use Rattle.profile.proofs.Sets.{union_last}
use Rattle.counts.specs.Counts.{words}
use Rattle.letters.specs.Letters.{next_by}
use Rattle.term_letters.specs.Letters.{letters_in_terms}
use Rattle.letters.proofs.Additions.{below_no, below_yes}
use Rattle.term_letters.proofs.Terms.{terms_first}
use Rattle.term_letters.proofs.InTermsFinder.addable.Invariants.{passes}
use Rattle.term_letters.proofs.InTermsFinder.addable.Goals as goal
use Rattle.term_letters.proofs.InTermsFinder.addable.Goals.{else-comes_in_term, then-comes_in_term}

pub loop-x-preserved : goal.loop-x-preserved
loop-x-preserved c =
    let l = c.loop-x in
    let a = c.args in
    let p = passes (independent a.self.now.keepers.now.masks.now) a.self.now.keepers.now.k a.self.now.n c.next_places.new.next c.next_places-2.new.next in
    let e : c.comes_in_term.result ≡ p l.x = c.comes_in_term.ensures in
    let bit-x : 1 * 2 ^ l.x % 2 ^ 32 ≡ 2 ^ l.x = shl_exact {a = 1} 1 l.x 32 (omega arith) (omega arith) ∙ one-mul (2 ^ l.x) in
    let done = filter p (below l.x) in
    (elim c.if-comes_in_term.branch [
      | then-comes_in_term v ↦ let f = below_yes p l.x (subst T (sym v.if-comes_in_term.true ∙ e) tt) in (
        omega (arith, v.number-is),
        v.set-is ∙ ap₂ bit_or l.invariant.1 bit-x ∙ sym (ap (union (λ y. 2 ^ y)) f ∙ union_last (λ y. 2 ^ y) done l.x),
        v.number-is ∙ omega (arith, l.invariant.2, ap length f, length-append done (l.x ∷ [])),
      )
      | else-comes_in_term v ↦ let f = below_no p l.x (subst (λ b. T (not b)) (sym v.if-comes_in_term.false ∙ e) tt) in
          (omega (arith, v.number-is), v.set-is ∙ l.invariant.1 ∙ sym (ap (union (λ y. 2 ^ y)) f), v.number-is ∙ l.invariant.2 ∙ sym (ap length f))
    ])

pub returns : goal.returns
returns c =
    let a = c.args in
    let l = c.loop-x in
    let e : l.x ≡ a.self.now.keepers.now.k = omega arith in
    let may = independent a.self.now.keepers.now.masks.now in
    let nx = c.next_places in
    let af = c.next_places-2 in
    let z : List ℕ = drop a.self.now.keepers.now.k (replicate most_letters 0) in
    let en : nx.new.next ≡ next_by a.self.now.keepers.now.k a.self.now.placed.now.starts.now a.self.now.placed.now.places.now (words a.c) ++ z =
    nx.ensures in
    let ea : af.new.next ≡ next_by a.self.now.keepers.now.k a.self.now.placed.now.starts.now a.self.now.turns.now (words a.c) ++ z =
    af.ensures in
    let f : filter (passes may a.self.now.keepers.now.k a.self.now.n nx.new.next af.new.next) (below l.x) ≡ letters_in_terms may a.self.now.keepers.now.k a.self.now.n a.self.now.placed.now.starts.now a.self.now.placed.now.places.now a.self.now.turns.now (words a.c) =
    ap (λ x. filter (passes may a.self.now.keepers.now.k a.self.now.n nx.new.next af.new.next) (below x)) e
    ∙ ap₂ (λ u v. filter (passes may a.self.now.keepers.now.k a.self.now.n u v) (below a.self.now.keepers.now.k)) en ea
    ∙ terms_first a.self.now.keepers.now.masks.now a.self.now.keepers.now.k a.self.now.n a.self.now.placed.now.starts.now a.self.now.placed.now.places.now a.self.now.turns.now (words a.c) z z in
    (l.invariant.1 ∙ ap (union (λ y. 2 ^ y)) f, l.invariant.2 ∙ ap length f)
