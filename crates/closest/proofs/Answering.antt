-- The answer of the call from the promises of the table and of the answer over it: the refusals before 17 are the judge's.
use Rattle.std.specs.Prelude.{Result, Ok, Err}
use mathlib.Core.Path.{◌≡◌, refl, sym, ◌∙◌}
use mathlib.Core.Bool.{true}
use mathlib.Core.List.{List, [], ◌∷◌, ◌++◌}
use mathlib.Core.Option.{some}
use Prim.Native.Nat.{ℕ, ◌≤◌, ◌<◌}
use lib.ListN.{length}
use Rattle.profile.specs.Automata.{Profile}
use Rattle.profile.specs.Rules.{plain}
use Rattle.profile.specs.Refusals.{judge_refusals, log_refusals, lowest, profile_refusals}
use Rattle.profile.specs.declared.Refusal.{Refusal}
use Rattle.profile.specs.declared.Refusal.TheVariants.{ShortBuffer}
use Rattle.table.specs.Table as Built
use Rattle.table.proofs.Filling.{spared_same}
use Rattle.table.specs.declared.Filled.{Filled}
use Rattle.verdict.proofs.Judging.{order_fits, order_short}
use Rattle.closestanswer.specs.Answers.{Promise}
use Rattle.closestanswer.specs.declared.Closest.{Closest}
use Rattle.closestfilled.specs.Answered.{answered}
use Rattle.closestfilled.proofs.Answering as filled

module _ (p : Profile) (w : List ℕ) (B : ℕ) (order table costs : List ℕ) where
  pub told_short : {r : Refusal} → length order < length w
      → some r ≡ lowest (profile_refusals p ++ (log_refusals p.k w ++ ((true, ShortBuffer) ∷ []))) → Promise p w B order order table table costs costs (Err r)
  told_short h e = filled.refused_before (plain p) w B order table costs (judge_refusals p w (length order) (length table)) (order_short p w (length order) (length table) h e) table (λ ne. refl) (spared_same table)

  module _ (fits : length w ≤ length order) (table' : List ℕ) where
    pub told_refused : (r : Refusal) → Built.Promise p w table table' (Err r) → Promise p w B order order table table' costs costs (Err r)
    told_refused r h =
        filled.refused_before (plain p) w B order table costs (judge_refusals p w (length order) (length table))
        (h.refused ∙ sym (order_fits p w (length order) (length table) fits)) table' h.table.0 h.table.1

    pub told_answer : (made : Filled) → Built.Promise p w table table' (Ok made) → (order' costs' : List ℕ) (r : Result Closest Refusal)
        → answered (plain p) w B made.prefixes made.looks order order' costs costs' r → Promise p w B order order' table table' costs costs' r
    told_answer made h = filled.told_answer (plain p) w B order table costs (judge_refusals p w (length order) (length table)) table' made
        (h.refused ∙ sym (order_fits p w (length order) (length table) fits)) h.table
