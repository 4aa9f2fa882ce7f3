use mathlib.Core.Path.{sym, ◌∙◌, ap, subst, subst₂}
use Prim.Native.Nat.{◌+◌}
use native.Mathlib.Omega.{arith}
use lib.ListN.{length, get_or}
use Rattle.scanner.proofs.Scans.{Filled, filled_end, filled_few, filled_no, filled_start, filled_yes, letter_byte}
use Rattle.scanner.proofs.letter_sets.Goals as goal
use Rattle.scanner.proofs.letter_sets.Goals.{then-is_letter, else-is_letter}

pub loop-c-init : goal.loop-c-init
loop-c-init c =
    let S = c in
    subst (λ z. Filled S.args.k S.args.text.now z 1 0) (sym S.requires.2) (filled_start S.args.k S.args.text.now)

pub overflow_add-n : goal.overflow_add-n
overflow_add-n c =
    let S = c in
    let l = c.loop-c in
    omega (arith, l.invariant.numbers, S.requires.1)

pub shape_of-sets : goal.shape_of-sets
shape_of-sets c =
    let S = c in
    c.loop-c.invariant.long ∙ ap length (sym S.requires.2)

pub add_number-requires : goal.add_number-requires
add_number-requires c =
    let S = c in
    let l = c.loop-c in
    let u = S.args.text.now in
    let q = sym c.is_letter.ensures ∙ c.if-is_letter.true in
    let b = letter_byte S.args.k (get_or u l.c-index 0) S.requires.0 q in
    (b.0, omega (arith, b.1, l.invariant.long), filled_few S.args.k u l.sets l.n l.c-index (omega arith) l.invariant q S.requires.1)

pub loop-c-preserved : goal.loop-c-preserved
loop-c-preserved c =
    let S = c in
    let l = c.loop-c in
    let u = S.args.text.now in
    let f = c.is_letter in
    elim c.if-is_letter.branch [
      | then-is_letter w ↦
          let q = sym f.ensures ∙ w.if-is_letter.true in
          let b = letter_byte S.args.k (get_or u l.c-index 0) S.requires.0 q in
          subst₂ (λ s n. Filled S.args.k u s n (l.c-index + 1)) (sym (w.sets-is ∙ w.add_number.ensures)) (sym w.n-is) (filled_yes S.args.k u l.sets l.n l.c-index (omega arith) l.invariant q b.1)
      | else-is_letter w ↦
          subst₂ (λ s n. Filled S.args.k u s n (l.c-index + 1)) (sym w.sets-is) (sym w.n-is) (filled_no S.args.k u l.sets l.n l.c-index (omega arith) l.invariant (sym f.ensures ∙ w.if-is_letter.false))
    ]

pub returns : goal.returns
returns c =
    let S = c in
    let l = c.loop-c in
    filled_end S.args.k S.args.text.now l.sets l.n l.c-index (omega arith) l.invariant
