-- Paper 7 over numbers: "every list of events and questions after a start that is not refused, with the same profile and with the record and the table lent each
-- time as the last call left them". Of `fumarehi_run_start` and `fumarehi_run_event`, a question changing nothing: w are the events taken, l the two numbers of
-- the record, t the table.
use Rattle.std.specs.Prelude.{◌≡◌, false, List, [], ◌∷◌, ◌++◌, ℕ, suc, ◌*◌, length, take}
use Rattle.profile.specs.Automata.{Profile}
use Rattle.profile.specs.Refusals.{full_table}
use Rattle.profile.specs.Tables.{layout, record_length}
use Rattle.calls.specs.Calls.{Starting, Stepping, held_of}

pub data Called (p : Profile) : List ℕ → List ℕ → List ℕ → Type 0 where
  start_called : {l l' t t' told : List ℕ} → Starting p l l' t t' 0 told → Called p [] l' t'
  event_taken : {w l l' t t' told : List ℕ} {a : ℕ} → Called p w l t → Stepping p a l l' t t' 0 told → Called p (w ++ (a ∷ [])) l' t'
  event_refused : {w l l' t t' told : List ℕ} {a n : ℕ} → Called p w l t → Stepping p a l l' t t' (suc n) told → Called p w l' t'
  -- another table, as a longer one, that has its first P records as they were left
  table_changed : {w l t t' : List ℕ} → Called p w l t → full_table (held_of l).prefixes (length t') ≡ false
      → take (record_length layout * (held_of l).prefixes) t' ≡ take (record_length layout * (held_of l).prefixes) t → Called p w l t'
