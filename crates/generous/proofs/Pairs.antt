-- Paper 9 with terms: what may be exchanged inside a term. Alone in its file, so that a wrong statement of it is refused by its own proof and by no line that
-- rests on it.
use mathlib.Core.List.{List, []}
use Prim.Native.Nat.{ℕ}
use lib.Dec.{T, eqb}
use Rattle.profile.specs.Traces.{independent}
use Rattle.profile.proofs.Lists.{both, fst_of, snd_of}
use Rattle.terms.specs.Terms.{day_of, letter_of, may_in, term_of}
use Rattle.generous.specs.Generous.{HoldsEveryBit}

-- more pairs, and in each term more exchanges
pub in_terms : (masks more terms : List ℕ) → HoldsEveryBit more masks → (e f : ℕ) → T (may_in masks terms e f) → T (may_in more terms e f)
in_terms masks more terms holds e f t =
    let one = eqb (term_of terms (day_of e)) (term_of terms (day_of f)) in
    both one (independent more (letter_of e) (letter_of f)) (fst_of one (independent masks (letter_of e) (letter_of f)) t)
    (holds (letter_of e) (letter_of f) (snd_of one (independent masks (letter_of e) (letter_of f)) t))
