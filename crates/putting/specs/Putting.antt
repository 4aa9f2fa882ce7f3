-- Bytes put in a buffer: a buffer is a list of bytes.
use Rattle.std.specs.Prelude.{◌≡◌, List, ℕ, ◌+◌, ◌≤◌, length}
use Rattle.std.proofs.lemmas.List.Edits.{sets}

-- the text is put from place `at` on, the other bytes stay, and r is the place behind it
pub record Put (before : List ℕ) (at : ℕ) (text after : List ℕ) (r : ℕ) : Type 0 where
  pub put : after ≡ sets before at text
  pub behind : r ≡ at + length text
  pub room : r ≤ length before
