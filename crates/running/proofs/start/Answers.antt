-- `running::start` meets its contract.
use mathlib.Core.Path.{refl, ◌∙◌, ap}
use mathlib.Core.List.{[], ◌∷◌, ◌++◌}
use native.Mathlib.Omega.{arith}
use lib.Dec.{ltb}
use lib.ListN.{length}
use Rattle.profile.specs.Automata.{lent}
use Rattle.profile.specs.Refusals.{lowest, profile_refusals}
use Rattle.profile.specs.Tables.{layout, packed}
use Rattle.profile.specs.declared.Refusal.TheVariants.{FullTable}
use Rattle.running.proofs.Refusing.{fits_of}
use Rattle.running.proofs.Starting.{first_put}
use Rattle.running.proofs.start.Goals as goal

pub returns : goal.returns
returns c =
    let a = c.args in
    let e = c.in_ok-check_question.ensures in
    record {
      refused = e ∙ ap (λ n. lowest (profile_refusals (lent a.profile.now) ++ ((ltb n 1, FullTable) ∷ []))) c.capacity-room.ensures;
      left = (
        refl,
        c.put_empty.ensures ∙ first_put (lent a.profile.now) a.table.now (packed layout []) _ _ refl refl refl (omega (arith, fits_of (lent a.profile.now) c.capacity-room.result 1 (length a.table.now) c.capacity-room.ensures e)),
      );
    }
