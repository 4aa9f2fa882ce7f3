-- The place of the next event of each letter, after so many of each: where it is, and how it changes with one event more.
use borrow.Author.Tests.{eqb-false}
use mathlib.Core.Path.{◌≡◌, sym, ◌∙◌, ap, ap₂, subst}
use mathlib.Core.Bool.{not}
use mathlib.Core.Logic.{◌⊎◌, inl, inr, ⊎_elim, ◌≢◌}
use mathlib.Core.List.{List, ◌∷◌}
use Prim.Native.Nat.{ℕ, suc, ◌+◌, ◌≤◌, ◌<◌}
use native.Mathlib.Omega.{arith}
use lib.Dec.{T, not_T, eqb, eqb→eq, eqb_refl}
use lib.ListN.{length, get_or, set, length-set}
use lib.Seq.{ext_get_or, get_or-set_other, get_or-set_same}
use Rattle.profile.specs.Prefixes.{at, count, less, more, one}
use Rattle.profile.proofs.Lists.{is_false, mem_getd, test}
use Rattle.theory.proofs.Counting.{at_map, length_range}
use Rattle.theory.proofs.Prefixes.{one_other, one_same}
use Rattle.places.specs.Places.{next_places, places_from, places_of}
use Rattle.places.proofs.Places.{places_length, places_no, places_within, places_yes}

-- the place of the next event of letter y, after the first c y, where places are counted from i
abbrev pub next_place : ℕ → List ℕ → (ℕ → ℕ) → ℕ → ℕ
next_place i w c y = get_or (places_from i y w) (c y) 0

-- its place in the list
pub at_next : (k : ℕ) (w : List ℕ) (c : ℕ → ℕ) (y : ℕ) → y < k → at (next_places k w c) y ≡ get_or (places_of w y) (c y) 0
at_next k w c y h = let e : 0 + y ≡ y = omega arith in at_map (next_place 0 w c) k 0 y h ∙ ap (next_place 0 w c) e

pub next_le : (i : ℕ) (w : List ℕ) (c : ℕ → ℕ) (y : ℕ) → c y ≤ count (λ a. a) w y → i ≤ next_place i w c y
next_le i w c y h = (places_within i y w (mem_getd (places_from i y w) (c y) 0 (omega (arith, places_length i y w)))).0

-- the first event of the log is unmarked, and then the next of its letter; or it has another letter; or it is marked
pub next_here : (i a : ℕ) (w : List ℕ) (c : ℕ → ℕ) → c a ≡ 0 → next_place i (a ∷ w) c a ≡ i
next_here i a w c e = ap (λ l. get_or l (c a) 0) (places_yes i a a w (eqb_refl a)) ∙ ap (λ n. get_or (i ∷ places_from (suc i) a w) n 0) e

pub next_other : (i a : ℕ) (w : List ℕ) (c : ℕ → ℕ) (y : ℕ) → a ≢ y → next_place i (a ∷ w) c y ≡ next_place (suc i) w c y
next_other i a w c y h = ap (λ l. get_or l (c y) 0) (places_no i y a w (not_T (eqb a y) (λ t. h (eqb→eq a y t))))

pub next_marked : (i a : ℕ) (w : List ℕ) (c : ℕ → ℕ) {n : ℕ} → c a ≡ suc n → (y : ℕ) → next_place i (a ∷ w) c y ≡ next_place (suc i) w (less c a) y
next_marked i a w c {n} e y = ⊎_elim
    (λ t.
    let q = eqb→eq a y t in
    let cy : c y ≡ suc n = sym (ap c q) ∙ e in
    let d : n ≡ less c a y = omega (arith, ap (one a) q, one_same a) in
    ap₂ (λ l m. get_or l m 0) (places_yes i y a w t) cy ∙ ap (λ m. get_or (places_from (suc i) y w) m 0) d)
    (λ t.
    let d : c y ≡ less c a y = omega (arith, one_other a y (eqb-false a y (is_false (eqb a y) t))) in
    ap₂ (λ l m. get_or l m 0) (places_no i y a w t) d)
    (test (eqb a y))

-- with one event more of letter x only its own next place changes
pub next_places_more : (k : ℕ) (w : List ℕ) (c : ℕ → ℕ) (x : ℕ) → x < k
    → next_places k w (more c x) ≡ set (next_places k w c) x (get_or (places_of w x) (suc (c x)) 0)
next_places_more k w c x lt = ext_get_or 0 (next_places k w (more c x)) (set l x v) (omega (arith, len (more c x), len c, length-set l x v)) (λ i h. go i (omega (arith, len (more c x))) (test (eqb i x)))
  where
    l : List ℕ
    l = next_places k w c

    v : ℕ
    v = get_or (places_of w x) (suc (c x)) 0

    len : (d : ℕ → ℕ) → length (next_places k w d) ≡ k
    len d = length_range (λ y. get_or (places_of w y) (d y) 0) k 0

    own : get_or (next_places k w (more c x)) x 0 ≡ get_or (set l x v) x 0
    own =
        let e : more c x x ≡ suc (c x) = omega (arith, one_same x) in
        at_next k w (more c x) x lt ∙ ap (λ m. get_or (places_of w x) m 0) e ∙ sym (get_or-set_same l x v 0 (omega (arith, len c)))

    go : (i : ℕ) → i < k → T (eqb i x) ⊎ T (not (eqb i x)) → get_or (next_places k w (more c x)) i 0 ≡ get_or (set l x v) i 0
    go i h (inl t) = let q = eqb→eq i x t in subst (λ j. get_or (next_places k w (more c x)) j 0 ≡ get_or (set l x v) j 0) (sym q) own
    go i h (inr t) =
        let ne : i ≢ x = eqb-false i x (is_false (eqb i x) t) in
        let e : more c x i ≡ c i = omega (arith, one_other x i (λ q. ne (sym q))) in
        at_next k w (more c x) i h ∙ ap (λ m. get_or (places_of w i) m 0) e ∙ sym (at_next k w c i h) ∙ sym (get_or-set_other l x i v 0 ne)
