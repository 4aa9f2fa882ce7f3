-- The definitions of Avellone and Goldwurm (1998), section 2, which demand 2 cites: what results agree with where the masks are symmetric.
use Rattle.std.specs.Prelude.{Bool, List, [], ◌∷◌, ◌++◌, ℕ, T}
use Rattle.profile.specs.Traces.{bit}
use Rattle.profile.specs.Automata.{Accepted, Automaton, PathOf}

-- the smallest congruence with ab congruent to ba for each independent pair; a trace [x] is a class of it
pub data Congruent (may : ℕ → ℕ → Bool) : List ℕ → List ℕ → Type 0 where
  cong_pair : (a b : ℕ) → T (may a b) → Congruent may (a ∷ b ∷ []) (b ∷ a ∷ [])
  cong_refl : (u : List ℕ) → Congruent may u u
  cong_sym : {u v : List ℕ} → Congruent may u v → Congruent may v u
  cong_trans : {u v x : List ℕ} → Congruent may u v → Congruent may v x → Congruent may u x
  cong_append : {u u' v v' : List ℕ} → Congruent may u u' → Congruent may v v' → Congruent may (u ++ v) (u' ++ v')

-- [x] is a prefix of [w]: [w] is [x] · [y] for some y
pub record TracePrefix (may : ℕ → ℕ → Bool) (w x : List ℕ) : Type 0 where
  pub rest : List ℕ
  pub whole : Congruent may (x ++ rest) w

-- state q is in V_t, t = [x]: some word of t leads from a start state to q
pub record InTrace (may : ℕ → ℕ → Bool) (letter : ℕ → ℕ) (M : Automaton) (x : List ℕ) (q : ℕ) : Type 0 where
  pub word : List ℕ
  pub same : Congruent may x word
  pub from : ℕ
  pub starts : T (bit M.start from)
  pub leads : PathOf M letter from word q

-- [w] is in [L], L the words that the automaton accepts
pub record InLanguage (may : ℕ → ℕ → Bool) (letter : ℕ → ℕ) (M : Automaton) (w : List ℕ) : Type 0 where
  pub word : List ℕ
  pub same : Congruent may w word
  pub accepted : Accepted M letter word
