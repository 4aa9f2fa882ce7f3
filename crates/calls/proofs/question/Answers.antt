-- `calls::question` meets its contract. The answer for a refusal stays written out: no refusal of a question has a place but 0, so the search would pass
-- the place told as the verdict too.
use Rattle.std.proofs.Common.{◌≡◌, sym, ◌∙◌, ap, subst, ◌∷◌, ◌-◌, length, replicate, rules}
use Rattle.profile.specs.Automata.{lent}
use Rattle.profile.specs.Refusals.{refusal_place}
use Rattle.running.specs.Running.{QuestionPromise, question_code, question_told}
use Rattle.calls.proofs.question.Goals as goal

pub returns-in-Err : goal.returns-in-Err
returns-in-Err c =
    let four : length c.args.told.now ≡ 4 = search rules in
    record {
      answer = c.question.result;
      promise = subst (λ h. QuestionPromise (lent c.args.profile.now) h c.args.table.now c.question.result) c.from.ensures c.question.ensures;
      code_is = c.refuse.ensures.number ∙ sym (ap question_code c.in-Err.is);
      told_is = c.refuse.ensures.told ∙ ap (λ n. refusal_place c.in-Err.unasked ∷ replicate (n - 1) 0) four ∙ sym (ap question_told c.in-Err.is);
    }
