-- Document 01: "A log is **admitted** when no refusal save 10 applies to the call, one added by a later paper included." The refusals of a call are a list,
-- each with its condition.
use Rattle.std.specs.Prelude.{Bool, not, ◌||◌, List, ℕ, ◌≤◌, T, eqb}
use Rattle.profile.specs.Lists.{all}
use Rattle.profile.specs.Automata.{Profile}
use Rattle.profile.specs.Refusals.{judge_refusals, refusal_number}
use Rattle.profile.specs.Rules.{plain, prefixes_by}
use Rattle.profile.specs.Tables.{capacity, layout}
use Rattle.profile.specs.declared.Refusal.{Refusal}
use Rattle.table.specs.Table.{build_refusals}

abbrev pub ten? : Refusal → Bool
ten? r = eqb (refusal_number r) 10

-- a refusal that is 10 or does not apply
abbrev pub passes? : Bool × Refusal → Bool
passes? c = ten? c.1 || not c.0

-- no refusal save 10 applies
abbrev pub admitted? : List (Bool × Refusal) → Bool
admitted? l = all passes? l

abbrev pub Admitted : List (Bool × Refusal) → Type 0
Admitted l = T (admitted? l)

-- demand 3: "with which the log is admitted and its prefixes fit the table", P of them and a table of m numbers
pub record AdmittedAndFits (l : List (Bool × Refusal)) (P m : ℕ) : Type 0 where
  pub admitted : Admitted l
  pub fits : P ≤ capacity layout m

-- a call of the judge with n places for the order and a table of m numbers; a call of `table::build`
abbrev pub Judgeable : Profile → List ℕ → ℕ → ℕ → Type 0
Judgeable p w n m = AdmittedAndFits (judge_refusals p w n m) (prefixes_by (plain p) w) m

abbrev pub Buildable : Profile → List ℕ → ℕ → Type 0
Buildable p w m = AdmittedAndFits (build_refusals p w m) (prefixes_by (plain p) w) m
