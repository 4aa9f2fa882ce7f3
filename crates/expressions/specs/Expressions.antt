-- Document 02, Paper 1, "Courses typed as an expression": what an expression describes, and the states of its letters.
use Rattle.std.specs.Prelude.{List, [], ◌∷◌, ◌++◌, ℕ, zero, suc, ◌+◌, ◌-◌, get_or}

-- one letter; one of two; one after the other; "repeats what it follows zero or more times"
pub data Expr : Type 0 where
  leaf : ℕ → Expr
  choice : Expr → Expr → Expr
  seq : Expr → Expr → Expr
  star : Expr → Expr

-- "the logs that the expression describes"
pub data Describes : Expr → List ℕ → Type 0 where
  d_leaf : {a : ℕ} → Describes (leaf a) (a ∷ [])
  d_left : {e f : Expr} {u : List ℕ} → Describes e u → Describes (choice e f) u
  d_right : {e f : Expr} {u : List ℕ} → Describes f u → Describes (choice e f) u
  d_seq : {e f : Expr} {u v : List ℕ} → Describes e u → Describes f v → Describes (seq e f) (u ++ v)
  d_none : {e : Expr} → Describes (star e) []
  d_more : {e : Expr} {u v : List ℕ} → Describes e u → Describes (star e) v → Describes (star e) (u ++ v)

-- the letters typed, in their order, and how many they are
abbrev pub leaves : Expr → List ℕ
leaves (leaf a) = a ∷ []
leaves (choice e f) = leaves e ++ leaves f
leaves (seq e f) = leaves e ++ leaves f
leaves (star e) = leaves e

abbrev pub size : Expr → ℕ
size (leaf a) = 1
size (choice e f) = size e + size f
size (seq e f) = size e + size f
size (star e) = size e

-- "the i-th letter typed": the expression with its letters replaced by their numbers, from n on. It describes lists of numbers of letters typed.
abbrev pub numbered : ℕ → Expr → Expr
numbered n (leaf a) = leaf n
numbered n (choice e f) = choice (numbered n e) (numbered (n + size e) f)
numbered n (seq e f) = seq (numbered n e) (numbered (n + size e) f)
numbered n (star e) = star (numbered n e)

-- "it may come … first", "directly after the q-th letter typed", "a described log may end in"; p is numbered
pub record ComesFirst (p : Expr) (i : ℕ) : Type 0 where
  pub rest : List ℕ
  pub described : Describes p (i ∷ rest)

pub record ComesAfter (p : Expr) (q i : ℕ) : Type 0 where
  pub before : List ℕ
  pub rest : List ℕ
  pub described : Describes p (before ++ (q ∷ i ∷ rest))

pub record EndsIn (p : Expr) (q : ℕ) : Type 0 where
  pub before : List ℕ
  pub described : Describes p (before ++ (q ∷ []))

-- the i-th letter typed
abbrev pub letter_at : Expr → ℕ → ℕ
letter_at e i = get_or (leaves e) (i - 1) 0

-- "it may come directly after the q-th letter typed, or first for q = 0"
abbrev pub Leads : Expr → ℕ → ℕ → Type 0
Leads e zero i = ComesFirst (numbered 1 e) i
Leads e (suc q) i = ComesAfter (numbered 1 e) (suc q) i
