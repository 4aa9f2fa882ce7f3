-- What is known of a call that reads or writes: how many bytes it moved, within the m bytes of its buffer. Which bytes they are no contract can say.
use Rattle.std.specs.Prelude.{ℕ, ◌≤◌, Result, Ok, Err, Option, Some, None}

abbrev pub moved_within : {E : Type 0} → ℕ → Result ℕ E → Type 0
moved_within m (Ok n) = n ≤ m
moved_within m (Err e) = Unit {0}

-- … of a read, which may be at the end
abbrev pub read_within : {E : Type 0} → ℕ → Result (Option ℕ) E → Type 0
read_within m (Ok (Some n)) = n ≤ m
read_within m (Ok None) = Unit {0}
read_within m (Err e) = Unit {0}

-- … and of an input that was read: how many bytes of it are in the buffer
abbrev pub input_within : {E : Type 0} → ℕ → Result ℕ E → Type 0
input_within m (Ok n) = n ≤ m
input_within m (Err e) = Unit {0}
