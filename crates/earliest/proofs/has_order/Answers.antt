-- `earliest::has_order` meets its contract: the first record is that of the empty prefix.
use mathlib.Core.Path.{sym, ◌∙◌, ap₂}
use native.Mathlib.Omega.{arith}
use Rattle.profile.specs.Automata.{meets}
use Rattle.earliest.proofs.Records.{first_record}
use Rattle.earliest.proofs.Extraction.{found_first, start_set}
use Rattle.earliest.proofs.has_order.Goals as goal

pub last_at-backward-requires : goal.last_at-backward-requires
last_at-backward-requires g c = omega (arith, (first_record c.requires).0)

pub returns : goal.returns
returns g c =
    let tab = c.requires in
    c.meet.ensures ∙ ap₂ meets (start_set tab) c.last_at-backward.ensures ∙ sym (found_first tab)
