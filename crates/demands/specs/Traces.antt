-- Demand 2, "prefix tables … agree with the trace languages of Avellone and Goldwurm (1998)": what is asked of a table that holds P records for a log.
use Rattle.std.specs.Prelude.{◌≡◌, ◌↔◌, List, ℕ, ◌+◌, ◌*◌, ◌<◌, T, drop, get_or}
use Rattle.profile.specs.Limits.{most_letters}
use Rattle.profile.specs.Traces.{bit, independent}
use Rattle.profile.specs.Automata.{Profile, automaton}
use Rattle.profile.specs.Prefixes.{count}
use Rattle.profile.specs.Source.{Congruent, InTrace, TracePrefix}
use Rattle.profile.specs.Tables.{count_field, layout, record_length}
use Rattle.demands.specs.Rests.{LeadsToFinal}

-- record r of the table t has each letter's count in x
abbrev pub HasCounts : List ℕ → ℕ → List ℕ → Type 0
HasCounts t r x = (a : ℕ) → a < most_letters → count_field layout (drop (record_length layout * r) t) a ≡ count (λ a. a) x a

-- its forward and backward
abbrev pub forward_at : List ℕ → ℕ → ℕ
forward_at t r = get_or t (record_length layout * r + layout.numbers) 0

abbrev pub backward_at : List ℕ → ℕ → ℕ
backward_at t r = get_or t (record_length layout * r + (layout.numbers + 1)) 0

-- x is a word of a prefix of [w], and record r has its counts
pub record RecordOf (p : Profile) (w t : List ℕ) (P r : ℕ) (x : List ℕ) : Type 0 where
  pub placed : r < P
  pub prefix : TracePrefix (independent p.masks) w x
  pub counts : HasCounts t r x

pub record HoldsTraces (p : Profile) (w t : List ℕ) (P : ℕ) : Type 0 where
  -- each record is a prefix of [w], and one only
  pub has_prefix : (r : ℕ) → r < P → (x : List ℕ) × RecordOf p w t P r x
  pub one_prefix : (r : ℕ) (x y : List ℕ) → RecordOf p w t P r x → RecordOf p w t P r y → Congruent (independent p.masks) x y
  -- each prefix of [w] has a record, and one only
  pub has_record : (x : List ℕ) → TracePrefix (independent p.masks) w x → (r : ℕ) × RecordOf p w t P r x
  pub one_record : (r r' : ℕ) (x y : List ℕ) → RecordOf p w t P r x → RecordOf p w t P r' y → Congruent (independent p.masks) x y → r ≡ r'
  -- forward is V_t, t the prefix
  pub forward : (r : ℕ) (x : List ℕ) → RecordOf p w t P r x → (q : ℕ)
      → T (bit (forward_at t r) q) ↔ InTrace (independent p.masks) (λ a. a) (automaton p) x q
  -- backward: some word of the rest's trace leads from q to a final state
  pub backward : (r : ℕ) (x : List ℕ) (h : RecordOf p w t P r x) → (q : ℕ)
      → T (bit (backward_at t r) q) ↔ LeadsToFinal (independent p.masks) (λ a. a) (automaton p) h.prefix.rest q
