-- The moves by letter: the row of a letter holds, for each state, the states to which the letter may lead from it, so that a step reads numbers that stand in a row.
use Rattle.std.specs.Prelude.{cond, List, ◌++◌, map, ℕ, ◌+◌, ◌*◌, ◌/◌, ◌%◌, ◌^◌, ltb, drop, get_or, replicate}
use Rattle.profile.specs.Limits.{most_moves, most_states}
use Rattle.profile.specs.Automata.{meets, row, union}
use Rattle.profile.specs.Lists.{below, filter}
use Rattle.profile.specs.Traces.{bit}

-- number i: the states to which letter i / 32 may lead from state i % 32, none where this is no state
abbrev pub led : ℕ → ℕ → List ℕ → ℕ → ℕ
led k s moves i = cond (ltb (i % most_states) s) (row k moves (i % most_states) (i / most_states)) 0

-- the rows of k letters, and 0 behind them
unfoldable pub by_letter : ℕ → ℕ → List ℕ → List ℕ
by_letter k s moves = map (led k s moves) (below (most_states * k)) ++ drop (most_states * k) (replicate most_moves 0)

-- the number of letter a and state q
abbrev pub led_by : List ℕ → ℕ → ℕ → ℕ
led_by rows a q = get_or rows (most_states * a + q) 0

-- a step by the rows
abbrev pub forward_by : ℕ → List ℕ → ℕ → ℕ → ℕ
forward_by s rows S a = union (led_by rows a) (filter (bit S) (below s))

abbrev pub backward_by : ℕ → List ℕ → ℕ → ℕ → ℕ
backward_by s rows R a = union (λ q. 2 ^ q) (filter (λ q. meets (led_by rows a q) R) (below s))
