use mathlib.Core.Path.{◌≡◌, refl, ◌∙◌, ap, ap₂}
use mathlib.Core.List.{◌++◌, map}
use native.Mathlib.Omega.{arith}
use lib.ListN.{length, drop, get_or, set, length-set}
use Rattle.profile.specs.Lists.{below}
use Rattle.theory.proofs.Fronts.{front_put}
use Rattle.dates.proofs.Codes.{code_at, codes_are, letter_small}
use Rattle.terms.specs.Coded.{code}
use Rattle.terms.proofs.Logs.{term_small}
use Rattle.dates.proofs.code_events.Goals as goal

pub loop-i-init : goal.loop-i-init
loop-i-init c = (refl, refl)

pub overflow_cast-t : goal.overflow_cast-t
overflow_cast-t c =
    let s = c in
    let i = c.loop-i.i in
    omega (arith, c.term_of-t.ensures, term_small s.args.calendar.now.terms.now (get_or s.args.calendar.now.days.now i 0) s.requires.few)

pub overflow_mul-codes : goal.overflow_mul-codes
overflow_mul-codes c =
    let s = c in
    let i = c.loop-i.i in
    omega (arith, letter_small s.args.log.now i s.requires.letters (omega arith))

pub overflow_add-codes : goal.overflow_add-codes
overflow_add-codes c =
    let s = c in
    let i = c.loop-i.i in
    omega (arith, letter_small s.args.log.now i s.requires.letters (omega arith), c.term_of-t.ensures, term_small s.args.calendar.now.terms.now (get_or s.args.calendar.now.days.now i 0) s.requires.few)

pub bounds-codes-i : goal.bounds-codes-i
bounds-codes-i c = let s = c in omega (arith, c.loop-i.invariant.0, s.requires.room)

pub loop-i-preserved : goal.loop-i-preserved
loop-i-preserved c =
    let s = c in
    let a = s.args in
    let l = c.loop-i in
    let i = l.i in (
      length-set l.codes i (code (get_or a.log.now i 0) c.term_of-t.result) ∙ l.invariant.0,
      ap₂ (λ cs v. set cs i (code (get_or a.log.now i 0) v)) l.invariant.1 c.term_of-t.ensures
          ∙ front_put (code_at a.log.now a.calendar.now.days.now a.calendar.now.terms.now) a.codes.now i (omega (arith, s.requires.room)),
    )

pub returns : goal.returns
returns c =
    let s = c in
    let a = s.args in
    let l = c.loop-i in
    let e : l.i ≡ length a.log.now = omega arith in
    l.invariant.1 ∙ ap (λ m. map (code_at a.log.now a.calendar.now.days.now a.calendar.now.terms.now) (below m) ++ drop m a.codes.now) e
    ∙ ap (λ t. t ++ drop (length a.log.now) a.codes.now) (codes_are a.log.now a.calendar.now.days.now a.calendar.now.terms.now s.requires.many s.requires.short)
