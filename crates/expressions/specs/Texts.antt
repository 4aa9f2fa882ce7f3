-- Document 02, Paper 1: the texts that type an expression, and the place of 11.
use Rattle.std.specs.Prelude.{◌≡◌, Bool, ◌&&◌, List, [], ◌∷◌, ◌++◌, ℕ, suc, ◌+◌, ◌-◌, ◌<◌, T, leb, ltb, length, take}
use Rattle.expressions.specs.Expressions.{Expr, choice, leaf, seq, star}

-- "Letters are a to p": the byte types a letter below k
abbrev pub letter? : ℕ → ℕ → Bool
letter? k c = leb 97 c && ltb c (97 + k)

pub data Level : Type 0 where
  factor : Level
  sequence : Level
  expression : Level

-- the text u types e. "`|` separates choices, neighbours follow each other, `*` repeats what it follows, `(` and `)` are the brackets. A bracket
-- holds a whole expression, and an expression holds brackets. A choice, a bracket or the text may not be empty. A `*` may follow a letter, a
-- closing bracket or another `*`."
pub data Typed (k : ℕ) : Level → List ℕ → Expr → Type 0 where
  t_letter : {c : ℕ} → T (letter? k c) → Typed k factor (c ∷ []) (leaf (c - 97))
  t_bracket : {u : List ℕ} {e : Expr} → Typed k expression u e → Typed k factor (40 ∷ (u ++ (41 ∷ []))) e
  t_star : {u : List ℕ} {e : Expr} → Typed k factor u e → Typed k factor (u ++ (42 ∷ [])) (star e)
  t_factor : {u : List ℕ} {e : Expr} → Typed k factor u e → Typed k sequence u e
  t_follow : {u v : List ℕ} {e f : Expr} → Typed k factor u e → Typed k sequence v f → Typed k sequence (u ++ v) (seq e f)
  t_sequence : {u : List ℕ} {e : Expr} → Typed k sequence u e → Typed k expression u e
  t_choice : {u v : List ℕ} {e f : Expr} → Typed k sequence u e → Typed k expression v f → Typed k expression (u ++ (124 ∷ v)) (choice e f)

-- "right text"
pub record Right (k : ℕ) (u : List ℕ) : Type 0 where
  pub tree : Expr
  pub typed : Typed k expression u tree

-- some right text has this beginning
pub record Begins (k : ℕ) (u : List ℕ) : Type 0 where
  pub rest : List ℕ
  pub right : Right k (u ++ rest)

-- the place of 11: "the first byte that no right text with the same beginning has there, or the text's length if it ends too early"
pub data Breaks (k : ℕ) (u : List ℕ) (i : ℕ) : Type 0 where
  at_byte : i < length u → Begins k (take i u) → (Begins k (take (suc i) u) → ⊥) → Breaks k u i
  at_end : i ≡ length u → Begins k u → (Right k u → ⊥) → Breaks k u i
