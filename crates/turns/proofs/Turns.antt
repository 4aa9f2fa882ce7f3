-- The turns of events: how many, where they change with the counts, and what they say of the next event in another term.
use borrow.Author.Tests.{eqb-false}
use mathlib.Core.Path.{◌≡◌, refl, sym, ◌∙◌, ap, ap₂}
use mathlib.Core.Bool.{Bool, true, false, not, ◌&&◌, cond}
use mathlib.Core.Logic.{◌⊎◌, inl, inr, ⊎_elim, ◌≢◌}
use mathlib.Core.List.{List, [], ◌∷◌, map}
use Prim.Native.Nat.{ℕ, suc, ◌+◌, ◌/◌, ◌%◌, ◌≤◌, ◌<◌}
use native.Mathlib.Omega.{arith}
use lib.Dec.{T, not_T, eqb, eqb→eq, eqb_refl}
use lib.ListN.{length, get_or}
use Rattle.profile.specs.Prefixes.{less, one}
use Rattle.profile.proofs.Lists.{is_false, is_true, test}
use Rattle.theory.proofs.Prefixes.{one_other, one_same}
use Rattle.places.specs.Places.{places_from}
use Rattle.places.proofs.Places.{places_no, places_yes}
use Rattle.terms.specs.Coded.{code_letter, code_term}
use Rattle.turns.specs.Turns.{other_from, past_terms, place_bound, turn, turns_from}

pub turns_yes : (i x e : ℕ) (w : List ℕ) → T (eqb (code_letter e) x)
    → turns_from i x (e ∷ w) ≡ turn (code_term e) (other_from (suc i) x (code_term e) w) ∷ turns_from (suc i) x w
turns_yes i x e w t = rw (is_true (eqb (code_letter e) x) t, turns_from)

pub turns_no : (i x e : ℕ) (w : List ℕ) → T (not (eqb (code_letter e) x)) → turns_from i x (e ∷ w) ≡ turns_from (suc i) x w
turns_no i x e w t = rw (is_false (eqb (code_letter e) x) t, turns_from)

-- as many turns as places
pub turns_length : (i x : ℕ) (w : List ℕ) → length (turns_from i x w) ≡ length (places_from i x (map code_letter w))
turns_length i x [] = refl
turns_length i x (e ∷ w) = ⊎_elim
    (λ t. ap length (turns_yes i x e w t) ∙ ap suc (turns_length (suc i) x w) ∙ sym (ap length (places_yes i x (code_letter e) (map code_letter w) t)))
    (λ t. ap length (turns_no i x e w t) ∙ turns_length (suc i) x w ∙ sym (ap length (places_no i x (code_letter e) (map code_letter w) t)))
    (test (eqb (code_letter e) x))

-- the turn of the next event of letter y, after the first c y, where places are counted from i
abbrev pub next_turn : ℕ → List ℕ → (ℕ → ℕ) → ℕ → ℕ
next_turn i w c y = get_or (turns_from i y w) (c y) 0

pub turn_here : (i e : ℕ) (w : List ℕ) (c : ℕ → ℕ) → c (code_letter e) ≡ 0
    → next_turn i (e ∷ w) c (code_letter e) ≡ turn (code_term e) (other_from (suc i) (code_letter e) (code_term e) w)
turn_here i e w c q = ap (λ l. get_or l (c (code_letter e)) 0) (turns_yes i (code_letter e) e w (eqb_refl (code_letter e)))
    ∙ ap (λ n. get_or (turn (code_term e) (other_from (suc i) (code_letter e) (code_term e) w) ∷ turns_from (suc i) (code_letter e) w) n 0) q

pub turn_other : (i e : ℕ) (w : List ℕ) (c : ℕ → ℕ) (y : ℕ) → code_letter e ≢ y → next_turn i (e ∷ w) c y ≡ next_turn (suc i) w c y
turn_other i e w c y h = ap (λ l. get_or l (c y) 0) (turns_no i y e w (not_T (eqb (code_letter e) y) (λ t. h (eqb→eq (code_letter e) y t))))

pub turn_marked : (i e : ℕ) (w : List ℕ) (c : ℕ → ℕ) {n : ℕ} → c (code_letter e) ≡ suc n → (y : ℕ) → next_turn i (e ∷ w) c y ≡ next_turn (suc i) w (less c (code_letter e)) y
turn_marked i e w c {n} q y = ⊎_elim
    (λ t.
    let r = eqb→eq (code_letter e) y t in
    let cy : c y ≡ suc n = sym (ap c r) ∙ q in
    let d : n ≡ less c (code_letter e) y = less-own cy (ap (one (code_letter e)) r) (one_same (code_letter e)) in
    ap₂ (λ l m. get_or l m 0) (turns_yes i y e w t) cy ∙ ap (λ m. get_or (turns_from (suc i) y w) m 0) d)
    (λ t.
    let d : c y ≡ less c (code_letter e) y = less_other (one_other (code_letter e) y (eqb-false (code_letter e) y (is_false (eqb (code_letter e) y) t))) in
    ap₂ (λ l m. get_or l m 0) (turns_no i y e w t) d)
    (test (eqb (code_letter e) y))
  where
    less-own : c y ≡ suc n → one (code_letter e) (code_letter e) ≡ one (code_letter e) y → one (code_letter e) (code_letter e) ≡ 1 → n ≡ less c (code_letter e) y
    less-own a b d = let z : one (code_letter e) y ≡ 1 = sym b ∙ d in omega (arith, a, z)

    less_other : one (code_letter e) y ≡ 0 → c y ≡ less c (code_letter e) y
    less_other a = omega (arith, a)

-- ---- a turn and its parts

pub turn_term : (t i : ℕ) → i < place_bound → turn t i / place_bound ≡ t
turn_term t i h = omega arith

pub turn_place : (t i : ℕ) → i < place_bound → turn t i % place_bound ≡ i
turn_place t i h = omega arith

pub other_within : (i x t : ℕ) (w : List ℕ) → (i ≤ other_from i x t w) × (other_from i x t w ≤ i + length w)
other_within i x t [] = omega arith
other_within i x t (e ∷ w) = go (eqb (code_letter e) x && not (eqb (code_term e) t)) (other_within (suc i) x t w)
  where
    go : (b : Bool) → (suc i ≤ other_from (suc i) x t w) × (other_from (suc i) x t w ≤ suc i + length w)
        → (i ≤ cond b i (other_from (suc i) x t w)) × (cond b i (other_from (suc i) x t w) ≤ i + suc (length w))
    go true h = omega arith
    go false h = omega (arith, h.0, h.1)

-- the first turn says where the next event in another term than t stands: at its own place where it is in term t, else where the next event stands
pub other_first : (i y t : ℕ) (w : List ℕ) → t < past_terms → i + length w < place_bound
    → other_from i y t w ≡ cond (eqb (get_or (turns_from i y w) 0 0 / place_bound) t) (get_or (turns_from i y w) 0 0 % place_bound) (get_or (places_from i y (map code_letter w)) 0 0)
other_first i y t [] h k =
    let e : turn past_terms i / place_bound ≡ past_terms = turn_term past_terms i (omega arith) in
    sym (ap (λ b. cond b (turn past_terms i % place_bound) i) (ap (λ z. eqb z t) e ∙ is_false (eqb past_terms t) (not_T (eqb past_terms t) (λ q. no_term (eqb→eq past_terms t q)))))
  where
    no_term : past_terms ≡ t → ⊥
    no_term q = omega arith
other_first i y t (e ∷ w) h k = ⊎_elim
    (λ a.
    let o = other_from (suc i) y (code_term e) w in
    let s = turns_yes i y e w a in
    let p = places_yes i y (code_letter e) (map code_letter w) a in
    let small : o < place_bound = within (other_within (suc i) y (code_term e) w).1 in
    ap₂ (λ b r. cond (b && not (eqb (code_term e) t)) i r) (is_true (eqb (code_letter e) y) a) refl
    ∙ own (test (eqb (code_term e) t))
    ∙ sym (ap₂ (λ l q. cond (eqb (get_or l 0 0 / place_bound) t) (get_or l 0 0 % place_bound) (get_or q 0 0)) s p
    ∙ ap₂ (λ u v. cond (eqb u t) v i) (turn_term (code_term e) o small) (turn_place (code_term e) o small)))
    (λ a.
    ap (λ b. cond (b && not (eqb (code_term e) t)) i (other_from (suc i) y t w)) (is_false (eqb (code_letter e) y) a)
    ∙ other_first (suc i) y t w h (omega arith)
    ∙ sym (ap₂ (λ l q. cond (eqb (get_or l 0 0 / place_bound) t) (get_or l 0 0 % place_bound) (get_or q 0 0)) (turns_no i y e w a) (places_no i y (code_letter e) (map code_letter w) a)))
    (test (eqb (code_letter e) y))
  where
    within : {o : ℕ} → o ≤ suc i + length w → o < place_bound
    within g = omega arith

    own : T (eqb (code_term e) t) ⊎ T (not (eqb (code_term e) t))
        → cond (not (eqb (code_term e) t)) i (other_from (suc i) y t w) ≡ cond (eqb (code_term e) t) (other_from (suc i) y (code_term e) w) i
    own (inl q) = ap (λ b. cond (not b) i (other_from (suc i) y t w)) (is_true (eqb (code_term e) t) q)
        ∙ ap (λ z. other_from (suc i) y z w) (sym (eqb→eq (code_term e) t q)) ∙ sym (ap (λ b. cond b (other_from (suc i) y (code_term e) w) i) (is_true (eqb (code_term e) t) q))
    own (inr q) = ap (λ b. cond (not b) i (other_from (suc i) y t w)) (is_false (eqb (code_term e) t) q)
        ∙ sym (ap (λ b. cond b (other_from (suc i) y (code_term e) w) i) (is_false (eqb (code_term e) t) q))

-- an event stands before the next one of its letter in another term
pub place_first : (i y : ℕ) (w : List ℕ) → i + length w < place_bound → get_or (places_from i y (map code_letter w)) 0 0 ≤ get_or (turns_from i y w) 0 0 % place_bound
place_first i y [] k = let e = turn_place past_terms i (omega arith) in omega (arith, e)
place_first i y (e ∷ w) k = ⊎_elim
    (λ a.
    let o = other_within (suc i) y (code_term e) w in
    let q : turn (code_term e) (other_from (suc i) y (code_term e) w) % place_bound ≡ other_from (suc i) y (code_term e) w = turn_place (code_term e) (other_from (suc i) y (code_term e) w) (within o.1) in
    least (ap (λ l. get_or l 0 0) (places_yes i y (code_letter e) (map code_letter w) a)) (ap (λ l. get_or l 0 0 % place_bound) (turns_yes i y e w a) ∙ q) o.0)
    (λ a. same (ap (λ l. get_or l 0 0) (places_no i y (code_letter e) (map code_letter w) a)) (ap (λ l. get_or l 0 0 % place_bound) (turns_no i y e w a)) (place_first (suc i) y w (omega arith)))
    (test (eqb (code_letter e) y))
  where
    within : {o : ℕ} → o ≤ suc i + length w → o < place_bound
    within g = omega arith

    least : {n m o : ℕ} → n ≡ i → m ≡ o → suc i ≤ o → n ≤ m
    least a b c = omega arith

    same : {n m n' m' : ℕ} → n ≡ n' → m ≡ m' → n' ≤ m' → n ≤ m
    same a b c = omega arith
