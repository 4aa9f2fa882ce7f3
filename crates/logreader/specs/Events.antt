-- Document 01, "Comparison, first order, log files": the log reader, which keeps the log part together with the place of its next event.
use Rattle.std.specs.Prelude.{ℕ, ◌+◌, List, Bool, true, false, cond, length, get_or, ltb, Option, Some, None}

-- an event, or another
abbrev pub pick : Bool → Option ℕ → Option ℕ → Option ℕ
pick true a b = a
pick false a b = b

-- "each step gives that event … or says 'end' exactly when none is left"
abbrev pub event_of : List ℕ → ℕ → Option ℕ
event_of s at = pick (ltb at (length s)) (Some (get_or s at 0)) None

-- its number: the letter, or 256 at the end, which is no letter
abbrev pub event_number : Option ℕ → ℕ
event_number (Some a) = a
event_number None = 256

-- "and advances one": the place of the event after it; at the end the place stays
abbrev pub place_behind : List ℕ → ℕ → ℕ
place_behind s at = cond (ltb at (length s)) (at + 1) at
