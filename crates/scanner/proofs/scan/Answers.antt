use mathlib.Core.Path.{subst}
use native.Mathlib.Omega.{arith}
use lib.ListN.{get_or, length}
use Rattle.std.proofs.Common.{◌≡◌}
use Rattle.std.specs.Prelude.{Err}
use Rattle.scanner.specs.Scan.{scanned}
use Rattle.scanner.proofs.Scans.{at_most_one, passed_open, passed_right, passed_start, passed_wanting}
use Rattle.scanner.proofs.scan.Goals as goal

pub loop-i-init : goal.loop-i-init
loop-i-init c = passed_start c.args.k c.args.text.now

pub overflow_add-letters : goal.overflow_add-letters
overflow_add-letters c =
    let S = c in
    let l = c.loop-i in
    omega (arith, l.invariant.typed, c.letters_in-letters.ensures, at_most_one S.args.k (get_or S.args.text.now l.i 0))

pub returns-then-want : goal.returns-then-want
returns-then-want c =
    let S = c in
    let l = c.loop-i in
    let e : l.i ≡ length S.args.text.now = omega arith in
    subst (λ j. Err j ≡ scanned S.args.k S.args.text.now) e (passed_wanting S.args.k S.args.text.now l.want l.depth l.deepest l.letters l.i l.invariant (omega arith) c.if-want.true)

pub returns-then-depth-ne0 : goal.returns-then-depth-ne0
returns-then-depth-ne0 c =
    let S = c in
    let l = c.loop-i in
    let e : l.i ≡ length S.args.text.now = omega arith in
    subst (λ j. Err j ≡ scanned S.args.k S.args.text.now) e (passed_open S.args.k S.args.text.now l.want l.depth l.deepest l.letters l.i l.invariant (omega arith) c.if-want.false c.if-depth-ne0.true)

pub returns : goal.returns
returns c =
    let S = c in
    let l = c.loop-i in
    passed_right S.args.k S.args.text.now l.want l.depth l.deepest l.letters l.i l.invariant (omega arith) c.if-want.false c.if-depth-ne0.false
