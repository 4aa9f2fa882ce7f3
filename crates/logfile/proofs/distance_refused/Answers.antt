-- `logfile::distance_refused` meets its contract, section by section.
use mathlib.Core.Path.{◌≡◌, sym, ◌∙◌, ap, ap₂}
use mathlib.Core.Bool.{◌||◌}
use Prim.Native.Nat.{◌*◌, ◌≤◌}
use native.Mathlib.Omega.{arith}
use native.Mathlib.Nat.{mul-le-mul}
use Rattle.profile.specs.Limits.{letters_byte, log_byte, masks_byte, most_letters, most_states, moves_byte, states_byte}
use Rattle.logfile.specs.Files.{field, log_length, outside}
use Rattle.logfile.proofs.Sections.{numbers_in}
use Rattle.logfile.proofs.distance_refused.Goals as goal
use Rattle.logfile.proofs.distance_refused.Goals.{After-length_at-n, After-outside_at, After-outside_at-2}

-- k and s are in range
small : (c : After-length_at-n) → (c.field_at-k.result ≤ most_letters) × (c.field_at-s.result ≤ most_states)
small c =
    let n = numbers_in c.args.f.now c.requires in
    omega (arith, n, c.field_at-k.ensures, c.field_at-s.ensures)

-- what the first two tests tell
first : (c : After-outside_at) → let f = c.args.f.now in outside f masks_byte (2 * field f letters_byte) ≡ c.outside_at.result
first c =
    let f = c.args.f.now in
    sym (c.outside_at.ensures ∙ ap (λ k. outside f masks_byte (2 * k)) c.field_at-k.ensures)

second : (c : After-outside_at-2) → let f = c.args.f.now in outside f moves_byte (4 * (field f states_byte * field f letters_byte)) ≡ c.outside_at-2.result
second c =
    let b = c in
    let f = b.args.f.now in
    sym (c.outside_at-2.ensures ∙ ap₂ (λ s k. outside f moves_byte (4 * (s * k))) b.field_at-s.ensures b.field_at-k.ensures)

pub overflow_mul-k : goal.overflow_mul-k
overflow_mul-k c = omega (arith, small (goal.at.overflow_mul-k c).After-length_at-n)

pub returns-then-outside_at : goal.returns-then-outside_at
returns-then-outside_at c =
    let f = c.args.f.now in
    sym (ap (λ t. t || (outside f moves_byte (4 * (field f states_byte * field f letters_byte)) || outside f log_byte (log_length f))) (first (goal.at.returns-then-outside_at c).After-outside_at ∙ c.if-outside_at.true))

pub overflow_mul-s : goal.overflow_mul-s
overflow_mul-s c =
    let n = small (goal.at.overflow_mul-s c).After-length_at-n in
    omega (arith, mul-le-mul n.1 n.0)

pub overflow_mul-s-2 : goal.overflow_mul-s-2
overflow_mul-s-2 c =
    let n = small (goal.at.overflow_mul-s-2 c).After-length_at-n in
    omega (arith, mul-le-mul n.1 n.0)

pub returns-then-outside_at-2 : goal.returns-then-outside_at-2
returns-then-outside_at-2 c =
    let f = c.args.f.now in
    sym (ap₂ (λ t u. t || (u || outside f log_byte (log_length f))) (first (goal.at.returns-then-outside_at-2 c).After-outside_at ∙ c.if-outside_at.false) (second (goal.at.returns-then-outside_at-2 c).After-outside_at-2 ∙ c.if-outside_at-2.true))

pub returns : goal.returns
returns c =
    let b = c in
    let f = b.args.f.now in
    c.outside_at-3.ensures ∙ ap (outside f log_byte) b.length_at-n.ensures
    ∙ sym (ap₂ (λ t u. t || (u || outside f log_byte (log_length f))) (first (goal.at.returns c).After-outside_at ∙ c.if-outside_at.false) (second (goal.at.returns c).After-outside_at-2 ∙ c.if-outside_at-2.false))
