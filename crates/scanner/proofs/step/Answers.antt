-- `scanner::step` meets its contract.
use mathlib.Core.Path.{sym, ◌∙◌, ap, ap₂}
use mathlib.Core.Bool.{true}
use native.Mathlib.Omega.{arith}
use native.Mathlib.Numerals.{add-one}
use Rattle.expressions.specs.Passes.{after, next, sign}
use Rattle.expressions.proofs.Passes.{sign_bar}
use Rattle.scanner.proofs.Scans.{closes_none, closes_some, next_wanting, sign_letter, sign_other}
use Rattle.scanner.proofs.step.Goals as goal

pub returns-then-is_letter : goal.returns-then-is_letter
returns-then-is_letter c =
    let a = c.args in
    sym (ap (λ g. next g a.want a.depth) (sign_letter a.k a.c (sym c.is_letter.ensures ∙ c.if-is_letter.true)))

pub returns-then-c-eq40 : goal.returns-then-c-eq40
returns-then-c-eq40 c =
    let a = c.args in
    ap (after true) (add-one a.depth) ∙ sym (ap (λ g. next g a.want a.depth) (ap (sign a.k) c.if-c-eq40.true))

pub returns-then-want : goal.returns-then-want
returns-then-want c =
    let a = c.args in
    let e = sym c.is_letter.ensures ∙ c.if-is_letter.false in
    sym (ap (λ w. next (sign a.k a.c) w a.depth) c.if-want.true ∙ next_wanting a.k a.c a.depth e c.if-c-eq40.false)

pub returns-then-depth-eq0 : goal.returns-then-depth-eq0
returns-then-depth-eq0 c =
    let a = c.args in
    sym (ap₂ (λ g w. next g w a.depth) (ap (sign a.k) c.if-c-eq41.true) c.if-want.false ∙ closes_none a.depth c.if-depth-eq0.true)

pub returns-then-c-eq41 : goal.returns-then-c-eq41
returns-then-c-eq41 c =
    let a = c.args in
    sym (ap₂ (λ g w. next g w a.depth) (ap (sign a.k) c.if-c-eq41.true) c.if-want.false ∙ closes_some a.depth c.if-depth-eq0.false)

pub returns-then-c-eq42 : goal.returns-then-c-eq42
returns-then-c-eq42 c =
    let a = c.args in
    sym (ap₂ (λ g w. next g w a.depth) (ap (sign a.k) c.if-c-eq42.true) c.if-want.false)

pub returns-then-c-eq124 : goal.returns-then-c-eq124
returns-then-c-eq124 c =
    let a = c.args in
    sym (ap₂ (λ g w. next g w a.depth) (ap (sign a.k) c.if-c-eq124.true ∙ sign_bar a.k (omega (arith, c.requires))) c.if-want.false)

pub returns : goal.returns
returns c =
    let a = c.args in
    let e = sym c.is_letter.ensures ∙ c.if-is_letter.false in
    sym (ap (λ g. next g a.want a.depth) (sign_other a.k a.c e c.if-c-eq40.false c.if-c-eq41.false c.if-c-eq42.false c.if-c-eq124.false))
