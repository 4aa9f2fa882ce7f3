-- Document 01, "Words": profiles, their automata, accepted logs. A set of states is a number: state q is in it when bit q is set.
use Rattle.std.specs.Prelude.{Bool, not, ◌&&◌, List, [], ◌∷◌, ℕ, ◌+◌, ◌*◌, ◌^◌, T, eqb, ltb, get_or}
use Rattle.std.specs.Int.Bits.{bit_or, bit_and}
use Rattle.profile.specs.Lists.{below, filter}
use Rattle.profile.specs.Traces.{bit}
use Rattle.profile.specs.declared.Shape.{Shape}
use Rattle.profile.specs.declared.Profile as Lent

-- "profile": k, the masks, s states, a start state, a set of final states, and moves
pub record Profile : Type 0 where
  pub k : ℕ
  pub masks : List ℕ
  pub s : ℕ
  pub start : ℕ
  pub finals : ℕ
  pub moves : List ℕ

-- the profile of a direct call: the numbers, and the slices of masks and moves
abbrev pub profile_of : Shape → List ℕ → List ℕ → Profile
profile_of h masks moves = record { k = h.k; masks = masks; s = h.s; start = h.start; finals = h.finals; moves = moves }

-- the profile that a call is lent
abbrev pub lent : Lent.Profile → Profile
lent p = profile_of p.shape p.masks.now p.moves.now

-- the two sets have a state in common
abbrev pub meets : ℕ → ℕ → Bool
meets S R = not (eqb (bit_and S R) 0)

-- the union of the sets f a
module _ {A : Type 0} where
  abbrev pub union : (A → ℕ) → List A → ℕ
  union f [] = 0
  union f (a ∷ l) = bit_or (f a) (union f l)

-- An automaton: a set of start states, a set of final states, `move q x r` (letter x may lead from state q to state r), `step S x`, the states
-- to which x leads from S, and its adjoint `back R x`, the states from which x leads into R.
pub record Automaton : Type 0 where
  pub start : ℕ
  pub final : ℕ
  pub move : ℕ → ℕ → ℕ → Bool
  pub step : ℕ → ℕ → ℕ
  pub back : ℕ → ℕ → ℕ

-- "the moves": the number at place q × k + a, whose bit r says that letter a may lead from state q to state r
abbrev pub row : ℕ → List ℕ → ℕ → ℕ → ℕ
row k moves q a = get_or moves (q * k + a) 0

-- the states to which letter x leads from the states of S, and those from which it leads into R; states are the numbers below s
abbrev pub forward_step : ℕ → ℕ → List ℕ → ℕ → ℕ → ℕ
forward_step k s moves S x = union (λ q. row k moves q x) (filter (bit S) (below s))

abbrev pub backward_step : ℕ → ℕ → List ℕ → ℕ → ℕ → ℕ
backward_step k s moves R x = union (λ q. 2 ^ q) (filter (λ q. meets (row k moves q x) R) (below s))

-- the automaton of a profile
abbrev pub automaton : Profile → Automaton
automaton p = record {
  start = 2 ^ p.start;
  final = p.finals;
  move = λ q x r. ltb q p.s && bit (row p.k p.moves q x) r;
  step = forward_step p.k p.s p.moves;
  back = backward_step p.k p.s p.moves;
}

-- "path": some path from state q spells u and ends in state r
pub data PathOf (M : Automaton) (letter : ℕ → ℕ) : ℕ → List ℕ → ℕ → Type 0 where
  stop : {q : ℕ} → PathOf M letter q [] q
  goes : {q a r s : ℕ} {u : List ℕ} → T (M.move q (letter a) r) → PathOf M letter r u s → PathOf M letter q (a ∷ u) s

-- "accepted": some path from the start spells u and ends in a final state
pub record Accepted (M : Automaton) (letter : ℕ → ℕ) (u : List ℕ) : Type 0 where
  pub from : ℕ
  pub to : ℕ
  pub starts : T (bit M.start from)
  pub leads : PathOf M letter from u to
  pub ends : T (bit M.final to)

module _ (M : Automaton) (letter : ℕ → ℕ) where
  -- the states to which u leads from S
  abbrev pub run : ℕ → List ℕ → ℕ
  run S [] = S
  run S (a ∷ u) = run (M.step S (letter a)) u

  -- the states from which u leads into R
  abbrev pub run_back : ℕ → List ℕ → ℕ
  run_back R [] = R
  run_back R (a ∷ u) = M.back (run_back R u) (letter a)

  -- "accepted", as a test
  abbrev pub accepted? : List ℕ → Bool
  accepted? u = meets (run M.start u) M.final
