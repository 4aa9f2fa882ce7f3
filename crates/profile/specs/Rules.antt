-- The rules of a call, as the definitions of prefixes, tables and orders take them: its profile, which events may be exchanged, and the letter of an
-- event. A call on a log is its rules and its list of events.
use Rattle.std.specs.Prelude.{Bool, List, ℕ}
use Rattle.std.proofs.Math.Option.{Option}
use Rattle.profile.specs.Traces.{independent}
use Rattle.profile.specs.Automata.{Profile, automaton}
use Rattle.profile.specs.Prefixes.{looks, prefix_count}
use Rattle.profile.specs.Tables.{layout, table_of}
use Rattle.profile.specs.Orders.{accepted_order}

pub record Rules : Type 0 where
  pub profile : Profile
  pub may : ℕ → ℕ → Bool
  pub letter : ℕ → ℕ

-- document 01: an event is its letter, and the masks say which may be exchanged
abbrev pub plain : Profile → Rules
plain p = record { profile = p; may = independent p.masks; letter = λ a. a }

module _ (r : Rules) (w : List ℕ) where
  -- "P", "looks", the order of verdict 1, and what the table `before` becomes, of the events w
  abbrev pub prefixes_by : ℕ
  prefixes_by = prefix_count r.may r.letter r.profile.k w

  abbrev pub looks_by : ℕ
  looks_by = looks r.may r.letter r.profile.k w

  abbrev pub order_by : Option (List ℕ)
  order_by = accepted_order r.may r.letter (automaton r.profile) w

  abbrev pub table_by : List ℕ → List ℕ
  table_by before = table_of layout r.may r.letter (automaton r.profile) r.profile.k w before
