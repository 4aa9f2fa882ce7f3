use mathlib.Core.Path.{◌≡◌, sym, subst}
use lib.ListN.{get_or}
use Rattle.pairs.specs.Pairs.{Meets}
use Rattle.parts.proofs.Fits.{none_fits, some_fits}
use mathlib.Core.Path.{subst₂}
use mathlib.Core.Logic.{⊎_elim}
use lib.Dec.{T}
use Rattle.profile.specs.Traces.{bit}
use Rattle.profile.proofs.Lists.{lt_or_le}
use Rattle.grammars.specs.Grammars.{grammar_of}
use native.Mathlib.Omega.{arith}
use Rattle.parts.proofs.meeting.Goals as goal

pub loop-m-init : goal.loop-m-init
loop-m-init c = λ i l r h k. absurd (omega arith)

pub returns-in-Some : goal.returns-in-Some
returns-in-Some c =
    let a = c.args in
    let l = c.loop-m in
    let x = get_or a.row.now l.m 0 in
    let y = get_or a.column.now l.m 0 in
    let i = c.in-Some.r in
    let s = some_fits a.rules.now a.n x y i c.in-Some.ensures in
    (omega arith, omega arith, subst₂ (λ f g. T ((grammar_of a.rules.now).two a.n f g) × T (bit x f) × T (bit y g)) (sym c.first.ensures) (sym c.second.ensures) s)

pub loop-m-preserved : goal.loop-m-preserved
loop-m-preserved c =
    let a = c.args in
    let l = c.loop-m in
    λ i l' r h k m. ⊎_elim (λ lt. l.invariant i l' r h lt m)
    (λ le.
    let e : i ≡ l.m = omega arith in
    let m' = subst (λ j. Meets a.rules.now a.row.now a.column.now a.n j l' r) e m in
    none_fits a.rules.now a.n (get_or a.row.now l.m 0) (get_or a.column.now l.m 0) l' r c.in_default.ensures m'.0 m'.1 m'.2) (lt_or_le i l.m)

pub returns : goal.returns
returns c =
    let a = c.args in
    let l = c.loop-m in
    let e : l.m ≡ a.to = omega arith in
    let w = c.requires.2 in
    absurd (l.invariant w.0 w.1 w.2 w.3 (omega (arith, w.4)) w.5)
