-- Document 01, "The judge" and "Comparison, first order": letter order, the earliest accepted order, first order, same.
use Rattle.std.specs.Prelude.{◌≡◌, Bool, true, false, ◌&&◌, ◌||◌, cond, ◌≢◌, List, [], ◌∷◌, map, ℕ, ◌<◌, eqb, ltb}
use Rattle.std.proofs.Math.Option.{Option, none, some}
use Rattle.profile.specs.Lists.{all, below, equal?, filter}
use Rattle.profile.specs.Traces.{Reachable, orders}
use Rattle.profile.specs.Automata.{Automaton, accepted?}

-- "Letter order compares at the first place where two orders differ; the smaller letter is earlier": u is no later than v
pub data NoLater : List ℕ → List ℕ → Type 0 where
  ends : {v : List ℕ} → NoLater [] v
  smaller : {a b : ℕ} {u v : List ℕ} → a < b → NoLater (a ∷ u) (b ∷ v)
  agrees : {a b : ℕ} {u v : List ℕ} → a ≡ b → NoLater u v → NoLater (a ∷ u) (b ∷ v)

-- u is earlier than v
abbrev pub Earlier : List ℕ → List ℕ → Type 0
Earlier u v = NoLater u v × (u ≢ v)

-- no later, as a test
abbrev pub no_later? : List ℕ → List ℕ → Bool
no_later? [] v = true
no_later? (a ∷ u) [] = false
no_later? (a ∷ u) (b ∷ v) = ltb a b || (eqb a b && no_later? u v)

-- the earliest of v and the lists of l; the earliest of a list of lists
abbrev pub least : List ℕ → List (List ℕ) → List ℕ
least v [] = v
least v (u ∷ l) = least (cond (no_later? v u) v u) l

abbrev pub earliest : List (List ℕ) → Option (List ℕ)
earliest [] = none
earliest (v ∷ l) = some (least v l)

-- "the order" of verdict 1: the letters of the earliest accepted order of w; none is verdict 0, 'no order'
abbrev pub accepted_order : (ℕ → ℕ → Bool) → (ℕ → ℕ) → Automaton → List ℕ → Option (List ℕ)
accepted_order may letter M w = earliest (map (map letter) (filter (accepted? M letter) (orders may w)))

-- "first order": the earliest log reachable from w, the lexicographic normal form of its trace
abbrev pub first_order : (ℕ → ℕ → Bool) → List ℕ → Option (List ℕ)
first_order may w = earliest (orders may w)

-- "same": each is reachable from the other
abbrev pub Same : (ℕ → ℕ → Bool) → List ℕ → List ℕ → Type 0
Same may v w = Reachable may v w × Reachable may w v

-- the letters are exchanged both ways
abbrev pub mutual? : (ℕ → ℕ → Bool) → ℕ → ℕ → Bool
mutual? may x y = may x y && may y x

-- what is left of w where only the letters x and y are kept
abbrev pub project : ℕ → ℕ → List ℕ → List ℕ
project x y w = filter (λ a. eqb a x || eqb a y) w

-- "same", as a test: equal projections to all pairs, a letter with itself included, that are not exchanged both ways
abbrev pub same? : (ℕ → ℕ → Bool) → ℕ → List ℕ → List ℕ → Bool
same? may k v w = all (λ x. all (λ y. mutual? may x y || equal? (project x y v) (project x y w)) (below k)) (below k)
