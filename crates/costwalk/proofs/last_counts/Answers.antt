-- `costwalk::last_counts` meets its contract.
use mathlib.Core.Path.{◌∙◌, ap}
use Prim.Native.Nat.{◌-◌}
use Rattle.records.specs.Records.{counts_at}
use Rattle.costwalk.proofs.last_counts.Goals as goal

pub returns : goal.returns
returns c = c.numbers.ensures ∙ c.counts_at.ensures ∙ ap (λ n. counts_at c.args.t.now (n - 1)) c.records_in.ensures
