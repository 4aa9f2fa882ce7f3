-- Paper 7: an event that only 10 can refuse, by the table alone.
use Rattle.std.specs.Prelude.{◌≡◌, Result, Ok, Err, List, ℕ, ◌+◌, ◌<◌, ◌≤◌, length}
use Rattle.profile.specs.Traces.{independent}
use Rattle.profile.specs.Automata.{Profile}
use Rattle.profile.specs.declared.Refusal.{Refusal}
use Rattle.profile.specs.declared.Refusal.TheVariants.{FullTable}
use Rattle.newcomers.specs.Newcomers.{Brought, joining}
use Rattle.running.specs.declared.Running.{Running}

-- how many records the event a joins
abbrev pub new_records : Profile → ℕ → Running → List ℕ → ℕ
new_records p a r t = length (joining (independent p.masks) p.k t r.prefixes a)

-- refused where the new records do not fit, or there is no record at all; else the records are put and the record counts them
abbrev pub Took : Profile → ℕ → Running → Running → ℕ → List ℕ → List ℕ → Result Unit Refusal → Type 0
Took p a r r' room t t' (Err x) = (x ≡ FullTable) × (r' ≡ r) × (t' ≡ t) × (0 < r.prefixes → room < r.prefixes + new_records p a r t)
Took p a r r' room t t' (Ok u) = (0 < r.prefixes) × (r.prefixes + new_records p a r t ≤ room)
    × (r' ≡ record { prefixes = r.prefixes + new_records p a r t; taken = r.taken + 1 }) × Brought p r.prefixes a t t'
