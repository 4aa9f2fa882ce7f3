use mathlib.Core.Path.{refl, sym, ◌∙◌, ap, subst}
use Rattle.std.specs.Prelude.{Some}
use Prim.Native.Nat.{◌+◌}
use native.Mathlib.Omega.{arith}
use lib.ListN.{replicate}
use Rattle.profile.specs.Limits.{most_letters}
use Rattle.terms.specs.Coded.{rules_of}
use Rattle.profile.specs.Automata.{lent}
use Rattle.forward.specs.Forward.{Ready}
use Rattle.forward.specs.Merging.{Steps}
use Rattle.forward.proofs.Fills.{Filling, filling_done, filling_few, filling_merging, filling_next, filling_start}
use Rattle.forward.proofs.fill_total.Goals as goal
use Rattle.forward.proofs.fill_total.Goals.{In-Some}

pub loop-n-init : goal.loop-n-init
loop-n-init g c =
    let a = c.args in
    let h = c.requires in
    subst (Filling (rules_of (lent a.pass.now.rows.now.profile) g.F.Finder.termed) a.pass.now.log.now a.table.now a.table.now a.pass.now.room a.part.t a.part.first 0 0) (sym c.first_cursors-cursors.ensures) (filling_start h.0 h.1 (replicate most_letters 0) refl)

pub merge_next-requires : goal.merge_next-requires
merge_next-requires g c =
    let a = c.args in
    let h = c.requires in
    let f = c.loop-n.invariant in (subst (λ m. Ready (rules_of (lent a.pass.now.rows.now.profile) g.F.Finder.termed) a.pass.now.log.now m a.pass.now.room (g.F.Finder.found a.pass.now.finder.now)) (sym f.kept) h.0, filling_merging h.0 h.1 f)

pub returns : goal.returns
returns g c =
    let a = c.args in
    let h = c.requires in
    let l = c.loop-n in
    let x = c.merge_next in
    let s = subst (Steps (rules_of (lent a.pass.now.rows.now.profile) g.F.Finder.termed) a.pass.now.log.now a.pass.now.room a.part.t a.part.first l.j l.table x.new.table x.new.cursors) (c.in_ok-n.was ∙ ap Some c.in_default.is) x.ensures in
    filling_done h.0 h.1 l.invariant x.new.table x.new.cursors s

pub returns-in_err-n : goal.returns-in_err-n
returns-in_err-n g c =
    let a = c.args in
    let l = c.loop-n in
    let x = c.merge_next in
    rw c.from_residual.ensures (subst (Steps (rules_of (lent a.pass.now.rows.now.profile) g.F.Finder.termed) a.pass.now.log.now a.pass.now.room a.part.t a.part.first l.j l.table x.new.table x.new.cursors) c.in_err-n.was x.ensures)

-- the invariant behind an iteration that puts a record
further : (g : _) (c : In-Some g)
    → Filling (rules_of (lent c.args.pass.now.rows.now.profile) g.F.Finder.termed) c.args.pass.now.log.now c.args.table.now
    c.merge_next.new.table c.args.pass.now.room c.args.part.t c.args.part.first (c.loop-n.j + 1) (c.loop-n.pairs + c.in-Some.n) c.merge_next.new.cursors
further g c =
    let a = c.args in
    let h = c.requires in
    let l = c.loop-n in
    let x = c.merge_next in
    let s = subst (Steps (rules_of (lent a.pass.now.rows.now.profile) g.F.Finder.termed) a.pass.now.log.now a.pass.now.room a.part.t a.part.first l.j l.table x.new.table x.new.cursors) (c.in_ok-n.was ∙ ap Some c.in-Some.is) x.ensures in
    filling_next h.0 h.1 l.invariant c.in-Some.n x.new.table x.new.cursors s x.auto.table x.auto.cursors

pub loop-n-preserved : goal.loop-n-preserved
loop-n-preserved g c = further g (goal.at.loop-n-preserved g c).In-Some

pub overflow_add-pairs : goal.overflow_add-pairs
overflow_add-pairs g c = let h = c.requires in omega (arith, filling_few h.0 h.1 (further g (goal.at.overflow_add-pairs g c).In-Some), h.0.few)

pub overflow_add-j : goal.overflow_add-j
overflow_add-j g c = omega (arith, (further g (goal.at.overflow_add-j g c).In-Some).inside, c.requires.0.few)

pub loop-n-smaller : goal.loop-n-smaller
loop-n-smaller g c = omega (arith, (further g (goal.at.loop-n-smaller g c).In-Some).inside)
