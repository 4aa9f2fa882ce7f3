-- Document 02, Paper 1: the refusals of typed courses, the answer, and the move buffer afterwards.
use Rattle.std.specs.Prelude.{Result, Ok, Err, ◌≡◌, Bool, true, false, ◌||◌, List, [], ◌∷◌, ◌++◌, map, ℕ, suc, ◌+◌, ◌*◌, ◌/◌, ◌%◌, ◌≤◌, ltb, drop, get_or, length}
use Rattle.std.proofs.Math.Option.{Option, none, some}
use Rattle.std.specs.Int.Bits.{bit_and}
use Rattle.profile.specs.Limits.{deepest_brackets, most_letters, most_typed}
use Rattle.profile.specs.declared.Refusal.{Refusal}
use Rattle.profile.specs.declared.Refusal.TheVariants.{BadText, DeepText, LongText, OutOfRange, ShortBuffer}
use Rattle.profile.specs.declared.Shape.{Shape}
use Rattle.profile.specs.Lists.{below}
use Rattle.profile.specs.Refusals.{lowest}
use Rattle.profile.specs.Answers.{answer_code, answer_told}
use Rattle.expressions.specs.Expressions.{Expr, size}
use Rattle.expressions.specs.Positions.{finals_of, moves_of}
use Rattle.expressions.specs.Texts.{Typed, expression}
use Rattle.expressions.specs.Passes.{deepest, fault, letters_of}
use Rattle.expressions.specs.Trees.{tree}

-- 2, of k alone
abbrev pub k_out_of_range : ℕ → Bool
k_out_of_range k = ltb k 1 || ltb most_letters k

-- 11: "when the text breaks these rules or uses a letter from k on", and the place
abbrev pub broken : Option ℕ → Bool
broken none = false
broken (some i) = true

abbrev pub broken_place : Option ℕ → ℕ
broken_place none = 0
broken_place (some i) = i

-- 12: "when brackets go deeper than 16"
abbrev pub too_deep : List ℕ → Bool
too_deep u = ltb deepest_brackets (deepest 0 u)

-- 13: "when more than 31 letters are typed"
abbrev pub too_many : ℕ → List ℕ → Bool
too_many k u = ltb most_typed (length (letters_of k u))

-- 9: the buffer of n numbers is shorter than s × k; "s is one more than the letters typed"
abbrev pub too_short : ℕ → List ℕ → ℕ → Bool
too_short k u n = ltb n ((length (letters_of k u) + 1) * k)

-- "all three follow the check of k and precede 9, and the lowest is given"
abbrev pub make_refusals : ℕ → List ℕ → ℕ → List (Bool × Refusal)
make_refusals k u n =
    (k_out_of_range k, OutOfRange)
    ∷ (broken (fault k u), BadText (broken_place (fault k u)))
    ∷ (too_deep u, DeepText)
    ∷ (too_many k u, LongText)
    ∷ (too_short k u n, ShortBuffer)
    ∷ []

abbrev pub make_refusal : ℕ → List ℕ → ℕ → Option Refusal
make_refusal k u n = lowest (make_refusals k u n)

-- the numbers of an answer: the refusal's number, or 0; place, s, start, final set
abbrev pub made_code : Result Shape Refusal → ℕ
made_code = answer_code

abbrev pub made_told : Result Shape Refusal → List ℕ
made_told = answer_told 3 (λ h. h.s ∷ h.start ∷ h.finals ∷ [])

-- "the profile made": its numbers; its moves stand in the first s × k numbers of the buffer, "the rest of a longer move buffer stays"
abbrev pub shape_of : ℕ → Expr → Shape
shape_of k e = record { k = k; s = suc (size e); start = 0; finals = finals_of e }

abbrev pub moves_put : ℕ → Expr → List ℕ → List ℕ
moves_put k e before = moves_of k e ++ drop (suc (size e) * k) before

-- the answer: the lowest refusal that applies, or the profile of the expression that the text types (a text that is not refused types one)
abbrev pub made_as : ℕ → Option Refusal → Option Expr → Result Shape Refusal
made_as k (some x) t = Err x
made_as k none (some e) = Ok (shape_of k e)
made_as k none none = Err OutOfRange

abbrev pub making : ℕ → List ℕ → ℕ → Result Shape Refusal
making k u n = made_as k (make_refusal k u n) (tree k u)

-- the move buffer afterwards: "Refusals leave every buffer unchanged"
abbrev pub buffer_as : ℕ → Option Refusal → Option Expr → List ℕ → List ℕ
buffer_as k (some x) t before = before
buffer_as k none (some e) before = moves_put k e before
buffer_as k none none before = before

abbrev pub made_buffer : ℕ → List ℕ → List ℕ → List ℕ
made_buffer k u before = buffer_as k (make_refusal k u (length before)) (tree k u) before

-- a text of s - 1 letters that types an expression, and a buffer that its moves fit
pub record RightText (k s : ℕ) (u moves : List ℕ) : Type 0 where
  pub tree : Expr
  pub typed : Typed k expression u tree
  pub some_letter : 1 ≤ k
  pub few : k ≤ most_letters
  pub states : s ≡ suc (size tree)
  pub short : size tree ≤ most_typed
  pub fits : s * k ≤ length moves

-- number j of the moves, from the rows of states and the sets of letters
abbrev pub move_from : ℕ → List ℕ → List ℕ → ℕ → ℕ
move_from k rows sets j = bit_and (get_or rows (j / k) 0) (get_or sets (j % k) 0)

abbrev pub filled : ℕ → ℕ → List ℕ → List ℕ → List ℕ → List ℕ
filled k s rows sets before = map (move_from k rows sets) (below (s * k)) ++ drop (s * k) before
