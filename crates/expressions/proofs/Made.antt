-- The profile made of an expression accepts exactly the logs that the expression describes, and its moves and final states are those of the paper.
use mathlib.Core.Path.{◌≡◌, refl, sym, ◌∙◌, ap, ap₂, subst}
use mathlib.Core.Bool.{◌&&◌}
use mathlib.Core.Logic.{◌⊎◌, inl, inr, ⊎_elim, ◌↔◌}
use mathlib.Core.List.{List, [], ◌∷◌, map}
use Prim.Native.Nat.{ℕ, zero, suc, ◌+◌, ◌*◌, ◌-◌, ◌^◌, ◌≤◌, ◌<◌}
use native.Mathlib.Omega.{arith}
use lib.Bits.{bit_and}
use lib.Dec.{T, eqb, eqb→eq, eqb_refl, ltb, ltb→lt, lt→ltb}
use lib.ListN.{length, get_or, length-map}
use Rattle.profile.specs.Automata.{Accepted, Automaton, PathOf, automaton, goes, row, stop}
use Rattle.profile.specs.Lists.{below, range}
use Rattle.profile.specs.Traces.{bit, letters_below}
use Rattle.profile.proofs.Lists.{both, flat_map_getd, fst_of, snd_of}
use Rattle.profile.proofs.Sets.{bit_of_and, bit_self, bit_single, not_in_none}
use Rattle.expressions.specs.Expressions.{Describes, EndsIn, Expr, Leads, leaves, letter_at, numbered, size}
use Rattle.expressions.specs.Positions.{empty?, finals_of, lasts, made, moves_of, successors, typed_as, when}
use Rattle.expressions.proofs.Language.{Chain, Ends, Follows, In, Walks, at_end, ends_in, follows_in, starts_in, step_on, walks_described, walks_of}
use Rattle.expressions.proofs.Numbers.{length_leaves, numbered_once, numbers_at, spelt_at, spelt_of}
use Rattle.expressions.proofs.Sets.{after_is, empty_is, empty_of, first_is, firsts_at, firsts_of, follows_at, follows_of, last_is, lasts_at, lasts_of, or_at, or_l, or_r, when_at, when_of}

-- ---- places in the lists

map_range_at : (f : ℕ → ℕ) (n a i : ℕ) → i < n → get_or (map f (range a n)) i 0 ≡ f (a + i)
map_range_at f zero a i h = absurd (omega arith)
map_range_at f (suc n) a zero h = let e : a ≡ a + 0 = omega arith in ap f e
map_range_at f (suc n) a (suc i) h = let e : suc a + i ≡ a + suc i = omega arith in map_range_at f n (suc a) i (omega arith) ∙ ap f e

pub range_length : (n a : ℕ) → length (range a n) ≡ n
range_length zero a = refl
range_length (suc n) a = ap suc (range_length n (suc a))

range_place : (n a i : ℕ) → i < n → get_or (range a n) i 0 ≡ a + i
range_place zero a i h = absurd (omega arith)
range_place (suc n) a zero h = omega arith
range_place (suc n) a (suc i) h = range_place n (suc a) i (omega arith) ∙ omega arith

-- ---- the numbers of a letter

pub typed_of : (a n : ℕ) (l : List ℕ) (i : ℕ) → i < length l → get_or l i 0 ≡ a → T (bit (typed_as a n l) (n + i))
typed_of a n [] i h e = absurd (omega arith)
typed_of a n (b ∷ l) zero h e =
    let j : n ≡ n + 0 = omega arith in
    or_l (when (eqb b a) (2 ^ n)) (typed_as a (suc n) l) (n + 0) (when_of (eqb b a) (2 ^ n) (n + 0) (subst (λ x. T (eqb b x)) e (eqb_refl b)) (subst (λ x. T (bit (2 ^ n) x)) j (bit_self n)))
typed_of a n (b ∷ l) (suc i) h e =
    let j : suc n + i ≡ n + suc i = omega arith in
    or_r (when (eqb b a) (2 ^ n)) (typed_as a (suc n) l) (n + suc i) (subst (λ x. T (bit (typed_as a (suc n) l) x)) j (typed_of a (suc n) l i (omega arith) e))

pub typed_at : (a n : ℕ) (l : List ℕ) (q : ℕ) → T (bit (typed_as a n l) q) → (i : ℕ) × (i < length l) × (q ≡ n + i) × (get_or l i 0 ≡ a)
typed_at a n [] q h = absurd (not_in_none q h)
typed_at a n (b ∷ l) q h = ⊎_elim
    (λ k.
    let m = when_at (eqb b a) (2 ^ n) q k in
    let e = bit_single n q m.1 in
    let lt : 0 < suc (length l) = omega arith in
    let j : q ≡ n + 0 = omega arith in
    (0, lt, j, eqb→eq b a m.0))
    (λ k.
    let m = typed_at a (suc n) l q k in
    let lt : suc m.0 < suc (length l) = omega (arith, m.1) in
    let j : q ≡ n + suc m.0 = omega (arith, m.2) in
    (suc m.0, lt, j, m.3))
    (or_at (when (eqb b a) (2 ^ n)) (typed_as a (suc n) l) q h)

-- ---- the automaton

module _ (k : ℕ) (masks : List ℕ) (e : Expr) where
  abbrev M : Automaton
  M = automaton (made k masks e)

  abbrev p : Expr
  p = numbered 1 e

  -- the number that stands at a place of the moves
  pub row_is : (q a : ℕ) → q < suc (size e) → a < k → row k (moves_of k e) q a ≡ bit_and (successors p q) (typed_as a 1 (leaves e))
  row_is q a hq ha =
      let f : ℕ → List ℕ = λ q. map (λ a. bit_and (successors p q) (typed_as a 1 (leaves e))) (below k) in
      let even : (q : ℕ) → length (f q) ≡ k = λ q. length-map (below k) (λ a. bit_and (successors p q) (typed_as a 1 (leaves e))) ∙ range_length k 0 in
      let j : q * k + a ≡ k * q + a = omega arith in
      let i : 0 + q ≡ q = omega arith in
      let n : 0 + a ≡ a = omega arith in
      ap (λ x. get_or (moves_of k e) x 0) j
      ∙ (flat_map_getd f k even (below (suc (size e))) q a 0 0 (omega (arith, range_length (suc (size e)) 0)) ha
      ∙ (ap (λ x. get_or (f x) a 0) (range_place (suc (size e)) 0 q hq ∙ i)
      ∙ (map_range_at (λ a. bit_and (successors p q) (typed_as a 1 (leaves e))) k 0 a ha ∙ ap (λ x. bit_and (successors p q) (typed_as x 1 (leaves e))) n)))

  -- "That letter leads from state q to i exactly when …"
  pub move_of : (q i : ℕ) → q ≤ size e → 1 ≤ i → i ≤ size e → letter_at e i < k → T (bit (successors p q) i) → T (M.move q (letter_at e i) i)
  move_of q i hq h1 hi hk h =
      let j : 1 + (i - 1) ≡ i = omega arith in
      let S = successors p q in
      let R = typed_as (letter_at e i) 1 (leaves e) in
      let t : T (bit R i) = subst (λ x. T (bit R x)) j (typed_of (letter_at e i) 1 (leaves e) (i - 1) (omega (arith, length_leaves e)) refl) in
      both (ltb q (suc (size e))) (bit (row k (moves_of k e) q (letter_at e i)) i) (lt→ltb q (suc (size e)) (omega arith))
      (subst (λ x. T (bit x i)) (sym (row_is q (letter_at e i) (omega arith) hk)) (subst T (sym (bit_of_and S R i)) (both (bit S i) (bit R i) h t)))

  pub move_at : (q x i : ℕ) → x < k → T (M.move q x i) → (q ≤ size e) × (1 ≤ i) × (i ≤ size e) × (letter_at e i ≡ x) × T (bit (successors p q) i)
  move_at q x i hx h =
      let S = successors p q in
      let R = typed_as x 1 (leaves e) in
      let hq : q < suc (size e) = ltb→lt q (suc (size e)) (fst_of (ltb q (suc (size e))) (bit (row k (moves_of k e) q x) i) h) in
      let b : T (bit S i && bit R i) = subst T (bit_of_and S R i) (subst (λ n. T (bit n i)) (row_is q x hq hx) (snd_of (ltb q (suc (size e))) (bit (row k (moves_of k e) q x) i) h)) in
      let n = typed_at x 1 (leaves e) i (snd_of (bit S i) (bit R i) b) in
      let h1 : q ≤ size e = omega arith in
      let h2 : 1 ≤ i = omega (arith, n.2) in
      let h3 : i ≤ size e = omega (arith, n.2, n.1, length_leaves e) in
      let j : i - 1 ≡ n.0 = omega (arith, n.2) in
      (h1, h2, h3, ap (λ x. get_or (leaves e) x 0) j ∙ n.3, fst_of (bit S i) (bit R i) b)

  pub final_of : (q : ℕ) → Ends p q → T (bit (finals_of e) q)
  final_of q h = or_l (lasts p) (when (empty? p) 1) q (lasts_of p q h)

  pub final_at : (q : ℕ) → 1 ≤ q → T (bit (finals_of e) q) → Ends p q
  final_at q h t = ⊎_elim
      (λ r. lasts_at p q r)
      (λ r. let z = bit_single 0 q (when_at (empty? p) 1 q r).1 in absurd (omega arith))
      (or_at (lasts p) (when (empty? p) 1) q t)

  no_zero : In p 0 → ⊥
  no_zero h = omega (arith, (numbers_at 1 e 0 h).0)

  pub final_none : T (bit (finals_of e) 0) ↔ T (empty? p)
  final_none = (
    λ t. ⊎_elim (λ r. absurd (no_zero (ends_in p 0 (lasts_at p 0 r)))) (λ r. (when_at (empty? p) 1 0 r).0) (or_at (lasts p) (when (empty? p) 1) 0 t),
    λ h. or_r (lasts p) (when (empty? p) 1) 0 (when_of (empty? p) 1 0 h (bit_self 0)),
  )

  -- ---- paths

  path_at : {q r : ℕ} {w : List ℕ} → 1 ≤ q → T (letters_below (λ a. a) k w) → PathOf M (λ a. a) q w r
      → (ps : List ℕ) × Chain (Follows p) q ps r × (map (letter_at e) ps ≡ w) × (1 ≤ r)
  path_at {q} h t stop = ([], at_end, refl, h)
  path_at {q = zero} h t (goes {a = a} {r = i} {u = u} m l) = absurd (omega arith)
  path_at {q = suc q} h t (goes {a = a} {r = i} {u = u} m l) =
      let n = move_at (suc q) a i (ltb→lt a k (fst_of (ltb a k) (letters_below (λ a. a) k u) t)) m in
      let c = path_at n.1 (snd_of (ltb a k) (letters_below (λ a. a) k u) t) l in
      (i ∷ c.0, step_on (follows_at p (suc q) i n.4) c.1, ap₂ ◌∷◌ n.3 c.2, c.3)

  module _ (typed : T (letters_below (λ a. a) k (leaves e))) where
    letter_below : (i : ℕ) → In p i → letter_at e i < k
    letter_below i h =
        let n = numbers_at 1 e i h in
        ltb→lt (letter_at e i) k (all_there (leaves e) (i - 1) (omega (arith, length_leaves e)) typed)
      where
        all_there : (l : List ℕ) (j : ℕ) → j < length l → T (letters_below (λ a. a) k l) → T (ltb (get_or l j 0) k)
        all_there [] j h t = absurd (omega arith)
        all_there (a ∷ l) zero h t = fst_of (ltb a k) (letters_below (λ a. a) k l) t
        all_there (a ∷ l) (suc j) h t = all_there l j (omega arith) (snd_of (ltb a k) (letters_below (λ a. a) k l) t)

    path_of : {q r : ℕ} {ps : List ℕ} → In p q → Chain (Follows p) q ps r → PathOf M (λ a. a) q (map (letter_at e) ps) r
    path_of h at_end = stop
    path_of {q = zero} h (step_on {j = j} f c) = absurd (no_zero h)
    path_of {q = suc q} h (step_on {j = j} f c) =
        let b = (follows_in p (suc q) j f).1 in
        let n = numbers_at 1 e (suc q) h in
        let m = numbers_at 1 e j b in
        goes (move_of (suc q) j (omega arith) (omega arith) (omega arith) (letter_below j b) (follows_of p (suc q) j f)) (path_of b c)

    walk_accepted : (ps : List ℕ) → Walks p ps → Accepted M (λ a. a) (map (letter_at e) ps)
    walk_accepted [] h = record { from = 0; to = 0; starts = bit_self 0; leads = stop; ends = final_none.1 (empty_of p h) }
    walk_accepted (i ∷ ps) h =
        let b = starts_in p i h.0 in
        let m = numbers_at 1 e i b in
        record {
          from = 0;
          to = h.1;
          starts = bit_self 0;
          leads = goes (move_of 0 i (omega arith) (omega arith) (omega arith) (letter_below i b) (firsts_of p i h.0)) (path_of b h.2);
          ends = final_of h.1 h.3;
        }

  path_described : {w : List ℕ} {q : ℕ} → T (letters_below (λ a. a) k w) → PathOf M (λ a. a) 0 w q → T (bit (finals_of e) q) → Describes e w
  path_described t stop f = spelt_at e [] ((empty_is p).0 (final_none.0 f))
  path_described {q = q} t (goes {a = a} {r = i} {u = u} m l) f =
      let n = move_at 0 a i (ltb→lt a k (fst_of (ltb a k) (letters_below (λ a. a) k u) t)) m in
      let c = path_at n.1 (snd_of (ltb a k) (letters_below (λ a. a) k u) t) l in
      let d = walks_described p (numbered_once 1 e) (i ∷ c.0) (firsts_at p i n.4, q, c.1, final_at q c.3 f) in
      subst (Describes e) (ap₂ ◌∷◌ n.3 c.2) (spelt_at e (i ∷ c.0) d)

  -- "The profile made accepts exactly the logs that the expression describes, for every expression": its letters are below k
  pub accepts_described : T (letters_below (λ a. a) k (leaves e)) → (w : List ℕ) → T (letters_below (λ a. a) k w) → Accepted M (λ a. a) w ↔ Describes e w
  accepts_described typed w t = (
    λ a. path_described t (subst (λ q. PathOf M (λ a. a) q w a.to) (sym (bit_single 0 a.from a.starts)) a.leads) a.ends,
    λ d. let n = spelt_of e w d in subst (Accepted M (λ a. a)) n.2 (walk_accepted typed n.0 (walks_of n.1)),
  )

-- ---- the paper's words on moves and final states

leads_is : (e : Expr) (q i : ℕ) → T (bit (successors (numbered 1 e) q) i) ↔ Leads e q i
leads_is e zero i = first_is (numbered 1 e) i
leads_is e (suc q) i = after_is (numbered 1 e) (suc q) i

-- "That letter leads from state q to i exactly when …": the i-th letter typed is a, and it may come there
pub move_is : (k : ℕ) (e : Expr) (q a i : ℕ) → q ≤ size e → a < k
    → T (bit (row k (moves_of k e) q a) i) ↔ ((1 ≤ i) × (i ≤ size e) × (letter_at e i ≡ a) × Leads e q i)
move_is k e q a i hq ha =
    let S = successors (numbered 1 e) q in
    let R = typed_as a 1 (leaves e) in (
      λ h.
          let b : T (bit S i && bit R i) = subst T (bit_of_and S R i) (subst (λ n. T (bit n i)) (row_is k [] e q a (omega arith) ha) h) in
          let n = typed_at a 1 (leaves e) i (snd_of (bit S i) (bit R i) b) in
          let h2 : 1 ≤ i = omega (arith, n.2) in
          let h3 : i ≤ size e = omega (arith, n.2, n.1, length_leaves e) in
          let j : i - 1 ≡ n.0 = omega (arith, n.2) in
          (h2, h3, ap (λ x. get_or (leaves e) x 0) j ∙ n.3, (leads_is e q i).0 (fst_of (bit S i) (bit R i) b)),
      λ h.
          let j : 1 + (i - 1) ≡ i = omega (arith, h.0) in
          let t : T (bit R i) = subst (λ x. T (bit R x)) j (typed_of a 1 (leaves e) (i - 1) (omega (arith, h.0, h.1, length_leaves e)) h.2) in
          subst (λ n. T (bit n i)) (sym (row_is k [] e q a (omega arith) ha)) (subst T (sym (bit_of_and S R i)) (both (bit S i) (bit R i) ((leads_is e q i).1 h.3) t)),
    )

map_nil : (f : ℕ → ℕ) (l : List ℕ) → map f l ≡ [] → l ≡ []
map_nil f [] e = refl
map_nil f (x ∷ l) e = let z : ◌≡◌ {A = ℕ} 0 1 = cc in absurd (omega arith)

-- "Final are the states a described log may end in, 0 for the empty log"
pub final_is : (e : Expr) (q : ℕ) → T (bit (finals_of e) q) ↔ (EndsIn (numbered 1 e) q ⊎ ((q ≡ 0) × Describes e []))
final_is e q =
    let p = numbered 1 e in (
      λ t. ⊎_elim
          (λ h. inl ((last_is p q).0 h))
          (λ h. let n = when_at (empty? p) 1 q h in inr (sym (bit_single 0 q n.1), spelt_at e [] ((empty_is p).0 n.0)))
          (or_at (lasts p) (when (empty? p) 1) q t),
      ⊎_elim
          (λ h. or_l (lasts p) (when (empty? p) 1) q ((last_is p q).1 h))
          (λ h.
          let n = spelt_of e [] h.1 in
          let d = subst (Describes p) (map_nil (letter_at e) n.0 n.2) n.1 in
          or_r (lasts p) (when (empty? p) 1) q (when_of (empty? p) 1 q ((empty_is p).1 d) (subst (λ x. T (bit 1 x)) (sym h.0) (bit_self 0)))),
    )
