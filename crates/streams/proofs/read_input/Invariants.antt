-- Before each call of `streams::read_input` the bytes read are within the buffer.
use Rattle.std.proofs.Common.{length, ◌≤◌, ◌≡◌}
use Rattle.streams.proofs.read_input.Given as goal

abbrev pub invariant-loop : goal.invariant-loop
invariant-loop g l = (l.done ≤ length l.buf) × (length l.buf ≡ length l.initial.buf)
