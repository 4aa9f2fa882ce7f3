-- The records of a table with hidden letters behind the last letter of each forward set.
use Rattle.std.specs.Prelude.{List, ℕ, zero, suc, ◌+◌, ◌*◌, get_or, set}
use Rattle.profile.specs.Automata.{forward_step}
use Rattle.profile.specs.Tables.{layout, record_length}

-- the forward numbers of the first records of t, each replaced by what hidden letters reach from its states: `reach` has one number for each state, as
-- the moves of a profile of one letter
abbrev pub hulled : ℕ → List ℕ → ℕ → List ℕ → List ℕ
hulled s reach zero t = t
hulled s reach (suc j) t =
    set (hulled s reach j t) (record_length layout * j + layout.numbers) (forward_step 1 s reach (get_or (hulled s reach j t) (record_length layout * j + layout.numbers) 0) 0)
