-- The table of a visible part, made by the judge.
use Rattle.std.specs.Prelude.{List, ℕ, length}
use Rattle.profile.specs.Traces.{independent}
use Rattle.profile.specs.Automata.{Profile, automaton}
use Rattle.profile.specs.Prefixes.{prefix_count}
use Rattle.profile.specs.Tables.{layout, table_of}
use Rattle.profile.specs.Refusals.{lowest}
use Rattle.views.specs.Views.{buffer_refusals}
use Rattle.hulls.specs.Hulls.{hulled}
use Rattle.cleared.specs.Cleared.{table_as}

-- the table after the judge with the profile p, hidden letters put behind the forward sets of its records
abbrev pub hulled_left : Profile → List ℕ → List ℕ → ℕ → List ℕ → List ℕ
hulled_left p reach u n before = table_as (lowest (buffer_refusals p u n (length before)))
    (hulled p.s reach (prefix_count (independent p.masks) (λ a. a) p.k u) (table_of layout (independent p.masks) (λ a. a) (automaton p) p.k u before)) before
