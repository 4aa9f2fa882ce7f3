-- The table of turns has the turn of an event where the table of places has its place.
use mathlib.Core.Path.{◌≡◌, refl, sym, ◌∙◌, ap, ap₂}
use mathlib.Core.Logic.{⊎_elim}
use mathlib.Core.List.{List, [], ◌∷◌, ◌++◌, map, append_assoc, append-nil}
use Prim.Native.Nat.{ℕ, zero, suc, ◌+◌, ◌≤◌, ◌<◌}
use native.Mathlib.Omega.{arith}
use lib.ListN.{length, get_or, length-append, get_or-append}
use lib.Seq.{get_or-append-add}
use Rattle.profile.specs.Lists.{below, flat_map}
use Rattle.profile.specs.Prefixes.{count}
use Rattle.profile.proofs.Lists.{below_suc, flat_map_append, lt_or_le}
use Rattle.theory.proofs.Counting.{at_map, length_range}
use Rattle.places.specs.Places.{place_start, place_table, places_of}
use Rattle.places.proofs.Places.{place_table_suc, places_length}
use Rattle.terms.specs.Coded.{code_letter}
use Rattle.turns.specs.Turns.{turn_table, turns_of}
use Rattle.turns.proofs.Turns.{turns_length}

pub turn_table_suc : (k : ℕ) (w : List ℕ) → turn_table (suc k) w ≡ turn_table k w ++ turns_of w k
turn_table_suc k w =
    ap (flat_map (turns_of w)) (below_suc k) ∙ flat_map_append (turns_of w) (below k) (k ∷ []) ∙ ap (λ t. turn_table k w ++ t) (append-nil (turns_of w k))

pub turn_table_length : (k : ℕ) (w : List ℕ) → length (turn_table k w) ≡ length (place_table k (map code_letter w))
turn_table_length zero w = refl
turn_table_length (suc k) w = omega (
  arith,
  turn_table_length k w,
  ap length (turn_table_suc k w),
  length-append (turn_table k w) (turns_of w k),
  ap length (place_table_suc k (map code_letter w)),
  length-append (place_table k (map code_letter w)) (places_of (map code_letter w) k),
  turns_length 0 k w,
)

turn_table_split : (k : ℕ) (w : List ℕ) (x : ℕ) → x < k → (rest : List ℕ) × (turn_table k w ≡ turn_table x w ++ (turns_of w x ++ rest))
turn_table_split zero w x h = absurd (omega arith)
turn_table_split (suc k) w x h = ⊎_elim
    (λ l.
    let n = turn_table_split k w x l in (
      n.0 ++ turns_of w k,
      turn_table_suc k w ∙ ap (λ t. t ++ turns_of w k) n.1 ∙ append_assoc (turn_table x w) (turns_of w x ++ n.0) (turns_of w k)
          ∙ ap (λ t. turn_table x w ++ t) (append_assoc (turns_of w x) n.0 (turns_of w k)),
    ))
    (λ l.
    let e : k ≡ x = omega arith in
    ([], turn_table_suc k w ∙ ap (λ j. turn_table j w ++ turns_of w j) e ∙ ap (λ t. turn_table x w ++ t) (sym (append-nil (turns_of w x)))))
    (lt_or_le x k)

-- the same place in both tables
pub turn_found : (k : ℕ) (w s p : List ℕ) (x n : ℕ) → x < k → n ≤ count (λ a. a) (map code_letter w) x
    → get_or (turn_table k w ++ p) (get_or (map (place_start (map code_letter w)) (below k) ++ s) x 0 + n) 0 ≡ get_or (turns_of w x) n 0
turn_found k w s p x n h le =
    let v = map code_letter w in
    let z : 0 + x ≡ x = omega arith in
    let q = turn_table_split k w x h in
    let start : get_or (map (place_start v) (below k) ++ s) x 0 ≡ length (turn_table x w) =
    get_or-append (map (place_start v) (below k)) s 0 x (omega (arith, length_range (place_start v) k 0)) ∙ at_map (place_start v) k 0 x h ∙ ap (place_start v) z ∙ sym (turn_table_length x w) in
    ap₂ (λ l m. get_or (l ++ p) (m + n) 0) q.1 start
    ∙ ap (λ l. get_or l (length (turn_table x w) + n) 0) (append_assoc (turn_table x w) (turns_of w x ++ q.0) p ∙ ap (λ t. turn_table x w ++ t) (append_assoc (turns_of w x) q.0 p))
    ∙ get_or-append-add (turn_table x w) (turns_of w x ++ (q.0 ++ p)) n 0
    ∙ get_or-append (turns_of w x) (q.0 ++ p) 0 n (omega (arith, turns_length 0 x w, places_length 0 x v))
