-- `dates::is_outside` meets its contract: by the first term that the day is in.
use mathlib.Core.Path.{◌∙◌, ap}
use lib.Dec.{leb}
use Rattle.terms.specs.Terms.{in_term?, term_count}
use Rattle.dates.proofs.Firsts.{stands}
use Rattle.dates.proofs.is_outside.Goals as goal

pub returns : goal.returns
returns c =
    let terms = c.args.terms.now in
    ap (leb (term_count terms)) c.term_of.ensures ∙ stands (in_term? terms c.args.d) (term_count terms)
