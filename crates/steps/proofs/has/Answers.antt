-- `steps::has` meets its contract.
use Rattle.profile.proofs.Sets.{shift_mask}
use Rattle.steps.proofs.has.Goals as goal

pub returns : goal.returns
returns c = shift_mask c.args.set c.args.x
