-- `counts::word_before` meets its contract: the order of the counts is the order of their ranks.
use Rattle.std.proofs.Common.{ltb, sym, ◌∙◌, ap₂}
use Rattle.profile.specs.Tables.{layout}
use Rattle.counts.proofs.Order.{before_words}
use Rattle.counts.proofs.word_before.Goals as goal

pub returns : goal.returns
returns c = let a = c.args in ap₂ ltb c.reversed.ensures c.reversed-2.ensures ∙ sym (before_words layout a.v a.w)
