-- A union that a fold gathers, or a walk from place to place.
use mathlib.Core.Path.{◌≡◌, sym, ◌∙◌, ap}
use mathlib.Core.List.{List, [], ◌∷◌, ◌++◌}
use Prim.Native.Nat.{ℕ, ◌+◌, ◌<◌}
use native.Mathlib.Numerals.{add-one}
use lib.Bits.{bit_or}
use lib.ListN.{length, get_or, take}
use lib.Seq.{take-suc}
use Rattle.profile.specs.Automata.{union}
use Rattle.profile.proofs.Sets.{union_last}

-- one element more
pub union_more : (f : ℕ → ℕ) (l : List ℕ) (a out next : ℕ) → out ≡ union f l → next ≡ bit_or out (f a) → next ≡ union f (l ++ (a ∷ []))
union_more f l a out next e h = h ∙ ap (λ n. bit_or n (f a)) e ∙ sym (union_last f l a)

-- one element more of the first ones of a list
pub union_next : (f : ℕ → ℕ) (l : List ℕ) (i : ℕ) → i < length l → union f (take (i + 1) l) ≡ bit_or (union f (take i l)) (f (get_or l i 0))
union_next f l i h = ap (λ n. union f (take n l)) (add-one i) ∙ ap (union f) (take-suc l i 0 h) ∙ union_last f (take i l) (get_or l i 0)
