-- `running::question` meets its contract.
use mathlib.Core.Path.{◌∙◌, ap}
use mathlib.Core.List.{[], ◌∷◌, ◌++◌}
use lib.Dec.{ltb}
use Rattle.profile.specs.Automata.{lent}
use Rattle.profile.specs.Refusals.{lowest, profile_refusals}
use Rattle.profile.specs.declared.Refusal.TheVariants.{FullTable}
use Rattle.running.proofs.Verdicts.{question_told}
use Rattle.running.proofs.question.Goals as goal

pub returns : goal.returns
returns c =
    let a = c.args in
    question_told (lent a.profile.now) a.held a.table.now c.verdict_at-verdict.result (c.in_ok-check_question.ensures ∙ ap (λ n. lowest (profile_refusals (lent a.profile.now) ++ ((ltb n a.held.prefixes, FullTable) ∷ []))) c.capacity.ensures)
    c.verdict_at-verdict.ensures
