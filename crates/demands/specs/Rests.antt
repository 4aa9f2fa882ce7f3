-- Avellone and Goldwurm (1998), beside `InTrace` (V_t): the states from which a trace leads to a final state.
use Rattle.std.specs.Prelude.{Bool, List, ℕ, T}
use Rattle.profile.specs.Traces.{bit}
use Rattle.profile.specs.Automata.{Automaton, PathOf}
use Rattle.profile.specs.Source.{Congruent}

-- some word of [y] leads from state q to a final state
pub record LeadsToFinal (may : ℕ → ℕ → Bool) (letter : ℕ → ℕ) (M : Automaton) (y : List ℕ) (q : ℕ) : Type 0 where
  pub word : List ℕ
  pub same : Congruent may y word
  pub to : ℕ
  pub leads : PathOf M letter q word to
  pub ends : T (bit M.final to)
