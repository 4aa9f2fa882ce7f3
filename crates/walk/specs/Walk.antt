-- The walk over a right text: document 02, Paper 1.
use Rattle.std.specs.Prelude.{◌≡◌, Bool, true, not, ◌||◌, List, [], ◌∷◌, ◌++◌, ℕ, ◌+◌, ◌≤◌, T, eqb, drop, length}
use Rattle.profile.specs.Limits.{most_letters, most_states}
use Rattle.expressions.specs.Expressions.{Expr, numbered, size}
use Rattle.expressions.specs.Positions.{follows}
use Rattle.expressions.specs.Texts.{Level, Typed, expression, factor, sequence}
use Rattle.fragments.specs.declared.Part.{Part}
use Rattle.fragments.specs.Parts.{add_rows, part_of}

-- what may stand behind a factor, a sequence, an expression
abbrev pub stops : Level → List ℕ → Bool
stops l [] = true
stops factor (c ∷ u) = not (eqb c 42)
stops sequence (c ∷ u) = eqb c 124 || eqb c 41
stops expression (c ∷ u) = eqb c 41

-- a factor, a sequence, an expression comes at a place of the text; the numbers of its letters begin with n and stay below 32
pub record Comes (l : Level) (text : List ℕ) (at n : ℕ) : Type 0 where
  pub k : ℕ
  pub few : k ≤ most_letters
  pub part : List ℕ
  pub rest : List ℕ
  pub tree : Expr
  pub typed : Typed k l part tree
  pub here : drop at text ≡ part ++ rest
  pub stop : T (stops l rest)
  pub room : n + size tree ≤ most_states

-- the part that was read is e, numbered from n on, and ends at `end`; what follows in it is added to the rows
pub record Reads (n : ℕ) (e : Expr) (end : ℕ) (r : Part) (before after : List ℕ) : Type 0 where
  pub value : r ≡ part_of (numbered n e) end (n + size e)
  pub rows : after ≡ add_rows before (follows (numbered n e))

-- whatever comes is read
abbrev pub Walked : Level → List ℕ → ℕ → ℕ → Part → List ℕ → List ℕ → Type 0
Walked l text at n r before after = (s : Comes l text at n) → Reads n s.tree (at + length s.part) r before after
