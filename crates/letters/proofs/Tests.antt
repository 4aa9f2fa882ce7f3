-- The letters of a set that pass the test, one by one or all at once.
use mathlib.Core.Path.{◌≡◌, subst, sym}
use mathlib.Core.Bool.{Bool, true, false, cond}
use mathlib.Core.List.{List}
use Prim.Native.Nat.{ℕ, ◌^◌}
use lib.Bits.{bit_and}
use lib.Dec.{T}
use Rattle.profile.specs.Automata.{union}
use Rattle.profile.specs.Lists.{below, filter}
use Rattle.profile.specs.Traces.{bit}
use Rattle.profile.proofs.Lists.{below_at, below_of, both, filter_at, filter_of, fst_of, snd_of}
use Rattle.profile.proofs.Sets.{bit_of_and, bit_below, bit_self, bit_single, not_in_none, sets_eq, union_at, union_of}
use Rattle.theory.proofs.SetLoops.{passing_below, passing_bit}
use Rattle.events.specs.Events.{comes_next?}
use Rattle.letters.specs.Letters.{letter_by, letters_by, next_by, tested_by}

-- the set of x alone where b holds
pub letter_at : (x q : ℕ) (b : Bool) → T (bit (cond b (2 ^ x) 0) q) → T b × (x ≡ q)
letter_at x q true h = (tt, bit_single x q h)
letter_at x q false h = absurd (not_in_none q h)

pub letter_of : (x : ℕ) (b : Bool) → T b → T (bit (cond b (2 ^ x) 0) x)
letter_of x true h = bit_self x
letter_of x false h = absurd h

pub tested_all : (may : ℕ → ℕ → Bool) (k n : ℕ) (starts places t : List ℕ) (G : ℕ)
    → bit_and (union (λ x. 2 ^ x) (letters_by may k n starts places t)) G ≡ tested_by may k n starts places t G
tested_all may k n starts places t G = sets_eq (bit_and U G) (tested_by may k n starts places t G) into from
  where
    p : ℕ → Bool
    p = comes_next? may k n (next_by k starts places t)

    f : ℕ → ℕ
    f = letter_by may k n starts places t

    U : ℕ
    U = union (λ x. 2 ^ x) (letters_by may k n starts places t)

    into : (q : ℕ) → T (bit (bit_and U G) q) → T (bit (tested_by may k n starts places t G) q)
    into q b =
        let s = subst T (bit_of_and U G q) b in
        let u = fst_of (bit U q) (bit G q) s in
        let h = bit_below k U q (passing_below p k) u in
        union_of f q (filter_of (bit G) (below_of k q h) (snd_of (bit U q) (bit G q) s)) (letter_of q (p q) (subst T (passing_bit p k q h) u))

    from : (q : ℕ) → T (bit (tested_by may k n starts places t G) q) → T (bit (bit_and U G) q)
    from q b =
        let u = union_at f (filter (bit G) (below k)) q b in
        let x = u.0 in
        let i = filter_at (bit G) (below k) u.1 in
        let c = letter_at x q (p x) u.2 in
        subst (λ z. T (bit (bit_and U G) z)) c.1 (subst T (sym (bit_of_and U G x)) (both (bit U x) (bit G x) (subst T (sym (passing_bit p k x (below_at k x i.0))) c.0) i.1))
