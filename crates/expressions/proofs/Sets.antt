-- The sets of numbers that may come first, last and after a number are what they are said to be.
use mathlib.Core.Path.{◌≡◌, refl, sym, subst}
use mathlib.Core.Bool.{Bool, true, false}
use mathlib.Core.Logic.{◌⊎◌, inl, inr, ⊎_elim, ◌↔◌}
use mathlib.Core.List.{List, [], ◌∷◌, ◌++◌, append_assoc, append-nil}
use Prim.Native.Nat.{ℕ, ◌^◌}
use lib.Bits.{bit_or}
use lib.Dec.{T}
use Rattle.profile.specs.Traces.{bit}
use Rattle.profile.proofs.Lists.{both, either, fst_of, or_left, or_right, snd_of}
use Rattle.profile.proofs.Sets.{bit_of_or, bit_self, bit_single, not_in_none}
use Rattle.expressions.specs.Expressions.{ComesAfter, ComesFirst, Describes, EndsIn, Expr, choice, d_leaf, d_left, d_more, d_none, d_right, d_seq, leaf, seq, star}
use Rattle.expressions.specs.Positions.{empty?, firsts, follows, lasts, when}
use Rattle.expressions.proofs.Language.{Chain, Empty, Ends, Follows, Starts, Walks, at_end, step_on, walks_of}

-- ---- unions

pub or_at : (S R q : ℕ) → T (bit (bit_or S R) q) → T (bit S q) ⊎ T (bit R q)
or_at S R q h = either (bit S q) (bit R q) (subst T (bit_of_or S R q) h)

pub or_l : (S R q : ℕ) → T (bit S q) → T (bit (bit_or S R) q)
or_l S R q h = subst T (sym (bit_of_or S R q)) (or_left (bit S q) (bit R q) h)

pub or_r : (S R q : ℕ) → T (bit R q) → T (bit (bit_or S R) q)
or_r S R q h = subst T (sym (bit_of_or S R q)) (or_right (bit S q) (bit R q) h)

pub when_of : (b : Bool) (S q : ℕ) → T b → T (bit S q) → T (bit (when b S) q)
when_of true S q t h = h
when_of false S q t h = absurd t

pub when_at : (b : Bool) (S q : ℕ) → T (bit (when b S) q) → T b × T (bit S q)
when_at true S q h = (tt, h)
when_at false S q h = absurd (not_in_none q h)

-- ---- the sets and the relations

pub empty_of : (p : Expr) → Empty p → T (empty? p)
empty_of (leaf i) h = absurd h
empty_of (choice e f) h = ⊎_elim (λ k. or_left (empty? e) (empty? f) (empty_of e k)) (λ k. or_right (empty? e) (empty? f) (empty_of f k)) h
empty_of (seq e f) h = both (empty? e) (empty? f) (empty_of e h.0) (empty_of f h.1)
empty_of (star e) h = tt

pub empty_at : (p : Expr) → T (empty? p) → Empty p
empty_at (leaf i) h = absurd h
empty_at (choice e f) h = ⊎_elim (λ k. inl (empty_at e k)) (λ k. inr (empty_at f k)) (either (empty? e) (empty? f) h)
empty_at (seq e f) h = (empty_at e (fst_of (empty? e) (empty? f) h), empty_at f (snd_of (empty? e) (empty? f) h))
empty_at (star e) h = tt

pub firsts_of : (p : Expr) (i : ℕ) → Starts p i → T (bit (firsts p) i)
firsts_of (leaf j) i h = subst (λ n. T (bit (2 ^ j) n)) h (bit_self j)
firsts_of (choice e f) i h = ⊎_elim (λ k. or_l (firsts e) (firsts f) i (firsts_of e i k)) (λ k. or_r (firsts e) (firsts f) i (firsts_of f i k)) h
firsts_of (seq e f) i h = ⊎_elim
    (λ k. or_l (firsts e) (when (empty? e) (firsts f)) i (firsts_of e i k))
    (λ k. or_r (firsts e) (when (empty? e) (firsts f)) i (when_of (empty? e) (firsts f) i (empty_of e k.0) (firsts_of f i k.1))) h
firsts_of (star e) i h = firsts_of e i h

pub firsts_at : (p : Expr) (i : ℕ) → T (bit (firsts p) i) → Starts p i
firsts_at (leaf j) i h = bit_single j i h
firsts_at (choice e f) i h = ⊎_elim (λ k. inl (firsts_at e i k)) (λ k. inr (firsts_at f i k)) (or_at (firsts e) (firsts f) i h)
firsts_at (seq e f) i h = ⊎_elim
    (λ k. inl (firsts_at e i k))
    (λ k. let n = when_at (empty? e) (firsts f) i k in inr (empty_at e n.0, firsts_at f i n.1))
    (or_at (firsts e) (when (empty? e) (firsts f)) i h)
firsts_at (star e) i h = firsts_at e i h

pub lasts_of : (p : Expr) (i : ℕ) → Ends p i → T (bit (lasts p) i)
lasts_of (leaf j) i h = subst (λ n. T (bit (2 ^ j) n)) h (bit_self j)
lasts_of (choice e f) i h = ⊎_elim (λ k. or_l (lasts e) (lasts f) i (lasts_of e i k)) (λ k. or_r (lasts e) (lasts f) i (lasts_of f i k)) h
lasts_of (seq e f) i h = ⊎_elim
    (λ k. or_r (when (empty? f) (lasts e)) (lasts f) i (lasts_of f i k))
    (λ k. or_l (when (empty? f) (lasts e)) (lasts f) i (when_of (empty? f) (lasts e) i (empty_of f k.0) (lasts_of e i k.1))) h
lasts_of (star e) i h = lasts_of e i h

pub lasts_at : (p : Expr) (i : ℕ) → T (bit (lasts p) i) → Ends p i
lasts_at (leaf j) i h = bit_single j i h
lasts_at (choice e f) i h = ⊎_elim (λ k. inl (lasts_at e i k)) (λ k. inr (lasts_at f i k)) (or_at (lasts e) (lasts f) i h)
lasts_at (seq e f) i h = ⊎_elim
    (λ k. let n = when_at (empty? f) (lasts e) i k in inr (empty_at f n.0, lasts_at e i n.1))
    (λ k. inl (lasts_at f i k))
    (or_at (when (empty? f) (lasts e)) (lasts f) i h)
lasts_at (star e) i h = lasts_at e i h

pub follows_of : (p : Expr) (i j : ℕ) → Follows p i j → T (bit (follows p i) j)
follows_of (leaf n) i j h = absurd h
follows_of (choice e f) i j h = ⊎_elim (λ k. or_l (follows e i) (follows f i) j (follows_of e i j k)) (λ k. or_r (follows e i) (follows f i) j (follows_of f i j k)) h
follows_of (seq e f) i j h =
    let A = follows e i in
    let B = follows f i in
    let C = when (bit (lasts e) i) (firsts f) in
    ⊎_elim
    (λ k. or_l (bit_or A B) C j (or_l A B j (follows_of e i j k)))
    (λ k. ⊎_elim
    (λ m. or_l (bit_or A B) C j (or_r A B j (follows_of f i j m)))
    (λ m. or_r (bit_or A B) C j (when_of (bit (lasts e) i) (firsts f) j (lasts_of e i m.0) (firsts_of f j m.1))) k) h
follows_of (star e) i j h =
    let C = when (bit (lasts e) i) (firsts e) in
    ⊎_elim
    (λ k. or_l (follows e i) C j (follows_of e i j k))
    (λ m. or_r (follows e i) C j (when_of (bit (lasts e) i) (firsts e) j (lasts_of e i m.0) (firsts_of e j m.1))) h

pub follows_at : (p : Expr) (i j : ℕ) → T (bit (follows p i) j) → Follows p i j
follows_at (leaf n) i j h = not_in_none j h
follows_at (choice e f) i j h = ⊎_elim (λ k. inl (follows_at e i j k)) (λ k. inr (follows_at f i j k)) (or_at (follows e i) (follows f i) j h)
follows_at (seq e f) i j h =
    let A = follows e i in
    let B = follows f i in
    let C = when (bit (lasts e) i) (firsts f) in
    ⊎_elim
    (λ k. ⊎_elim (λ m. inl (follows_at e i j m)) (λ m. inr (inl (follows_at f i j m))) (or_at A B j k))
    (λ k. let n = when_at (bit (lasts e) i) (firsts f) j k in inr (inr (lasts_at e i n.0, firsts_at f j n.1)))
    (or_at (bit_or A B) C j h)
follows_at (star e) i j h =
    let C = when (bit (lasts e) i) (firsts e) in
    ⊎_elim
    (λ k. inl (follows_at e i j k))
    (λ k. let n = when_at (bit (lasts e) i) (firsts e) j k in inr (lasts_at e i n.0, firsts_at e j n.1))
    (or_at (follows e i) C j h)

-- ---- the relations and the lists that are described

pub some_list : (p : Expr) → (u : List ℕ) × Describes p u
some_list (leaf i) = (i ∷ [], d_leaf)
some_list (choice e f) = let n = some_list e in (n.0, d_left n.1)
some_list (seq e f) = let n = some_list e in let m = some_list f in (n.0 ++ m.0, d_seq n.1 m.1)
some_list (star e) = ([], d_none)

empty_list : (p : Expr) → Empty p → Describes p []
empty_list (leaf i) h = absurd h
empty_list (choice e f) h = ⊎_elim (λ k. d_left (empty_list e k)) (λ k. d_right (empty_list f k)) h
empty_list (seq e f) h = d_seq (empty_list e h.0) (empty_list f h.1)
empty_list (star e) h = d_none

first_list : (p : Expr) (i : ℕ) → Starts p i → (v : List ℕ) × Describes p (i ∷ v)
first_list (leaf j) i h = ([], subst (λ n. Describes (leaf j) (n ∷ [])) h d_leaf)
first_list (choice e f) i h = ⊎_elim (λ k. let n = first_list e i k in (n.0, d_left n.1)) (λ k. let n = first_list f i k in (n.0, d_right n.1)) h
first_list (seq e f) i h = ⊎_elim
    (λ k. let n = first_list e i k in let m = some_list f in (n.0 ++ m.0, d_seq n.1 m.1))
    (λ k. let n = first_list f i k.1 in (n.0, d_seq (empty_list e k.0) n.1)) h
first_list (star e) i h = let n = first_list e i h in (n.0 ++ [], d_more n.1 d_none)

last_list : (p : Expr) (i : ℕ) → Ends p i → (u : List ℕ) × Describes p (u ++ (i ∷ []))
last_list (leaf j) i h = ([], subst (λ n. Describes (leaf j) (n ∷ [])) h d_leaf)
last_list (choice e f) i h = ⊎_elim (λ k. let n = last_list e i k in (n.0, d_left n.1)) (λ k. let n = last_list f i k in (n.0, d_right n.1)) h
last_list (seq e f) i h = ⊎_elim
    (λ k. let n = last_list f i k in let m = some_list e in (m.0 ++ n.0, subst (λ l. Describes (seq e f) l) (sym (append_assoc m.0 n.0 (i ∷ []))) (d_seq m.1 n.1)))
    (λ k. let n = last_list e i k.1 in (n.0, subst (λ l. Describes (seq e f) l) (append-nil (n.0 ++ (i ∷ []))) (d_seq n.1 (empty_list f k.0)))) h
last_list (star e) i h = let n = last_list e i h in (n.0, subst (λ l. Describes (star e) l) (append-nil (n.0 ++ (i ∷ []))) (d_more n.1 d_none))

-- one that ends in i, then one that begins with j
meet : (P : List ℕ → Type 0) (i j : ℕ) (u v : List ℕ) → P ((u ++ (i ∷ [])) ++ (j ∷ v)) → P (u ++ (i ∷ j ∷ v))
meet P i j u v d = subst P (append_assoc u (i ∷ []) (j ∷ v)) d

after_list : (p : Expr) (i j : ℕ) → Follows p i j → (u v : List ℕ) × Describes p (u ++ (i ∷ j ∷ v))
after_list (leaf n) i j h = absurd h
after_list (choice e f) i j h = ⊎_elim (λ k. let n = after_list e i j k in (n.0, n.1, d_left n.2)) (λ k. let n = after_list f i j k in (n.0, n.1, d_right n.2)) h
after_list (seq e f) i j h = ⊎_elim
    (λ k. let n = after_list e i j k in let m = some_list f in (n.0, n.1 ++ m.0, subst (λ l. Describes (seq e f) l) (append_assoc n.0 (i ∷ j ∷ n.1) m.0) (d_seq n.2 m.1)))
    (λ k. ⊎_elim
    (λ r. let n = after_list f i j r in let m = some_list e in (m.0 ++ n.0, n.1, subst (λ l. Describes (seq e f) l) (sym (append_assoc m.0 n.0 (i ∷ j ∷ n.1))) (d_seq m.1 n.2)))
    (λ r. let n = last_list e i r.0 in let m = first_list f j r.1 in (n.0, m.0, meet (Describes (seq e f)) i j n.0 m.0 (d_seq n.1 m.1))) k) h
after_list (star e) i j h = ⊎_elim
    (λ k. let n = after_list e i j k in (n.0, n.1 ++ [], subst (λ l. Describes (star e) l) (append_assoc n.0 (i ∷ j ∷ n.1) []) (d_more n.2 d_none)))
    (λ r.
    let n = last_list e i r.0 in
    let m = first_list e j r.1 in
    (n.0, m.0 ++ [], meet (Describes (star e)) i j n.0 (m.0 ++ []) (d_more n.1 (d_more m.1 d_none)))) h

chain_last : {F : ℕ → ℕ → Type 0} (i : ℕ) (ps : List ℕ) (j : ℕ) {k : ℕ} → Chain F i (ps ++ (j ∷ [])) k → j ≡ k
chain_last i [] j (step_on h at_end) = refl
chain_last i (n ∷ ps) j (step_on h c) = chain_last n ps j c

chain_step : {F : ℕ → ℕ → Type 0} (n : ℕ) (ps : List ℕ) (i j : ℕ) (qs : List ℕ) {k : ℕ} → Chain F n (ps ++ (i ∷ j ∷ qs)) k → F i j
chain_step n [] i j qs (step_on h (step_on g c)) = g
chain_step n (m ∷ ps) i j qs (step_on h c) = chain_step m ps i j qs c

walk_last : (p : Expr) (u : List ℕ) (i : ℕ) → Walks p (u ++ (i ∷ [])) → Ends p i
walk_last p [] i (s, j, at_end, l) = l
walk_last p (n ∷ u) i w = subst (Ends p) (sym (chain_last n u i w.2)) w.3

walk_step : (p : Expr) (u : List ℕ) (i j : ℕ) (v : List ℕ) → Walks p (u ++ (i ∷ j ∷ v)) → Follows p i j
walk_step p [] i j v (s, k, step_on h c, l) = h
walk_step p (n ∷ u) i j v w = chain_step n u i j v w.2

-- what the paper says of a move, and the sets
pub first_is : (p : Expr) (i : ℕ) → T (bit (firsts p) i) ↔ ComesFirst p i
first_is p i =
    (λ h. let n = first_list p i (firsts_at p i h) in record { rest = n.0; described = n.1 }, λ c. firsts_of p i (walks_of c.described).0)

pub last_is : (p : Expr) (i : ℕ) → T (bit (lasts p) i) ↔ EndsIn p i
last_is p i =
    (λ h. let n = last_list p i (lasts_at p i h) in record { before = n.0; described = n.1 }, λ c. lasts_of p i (walk_last p c.before i (walks_of c.described)))

pub after_is : (p : Expr) (i j : ℕ) → T (bit (follows p i) j) ↔ ComesAfter p i j
after_is p i j = (
  λ h. let n = after_list p i j (follows_at p i j h) in record { before = n.0; rest = n.1; described = n.2 },
  λ c. follows_of p i j (walk_step p c.before i j c.rest (walks_of c.described)),
)

pub empty_is : (p : Expr) → T (empty? p) ↔ Describes p []
empty_is p = (λ h. empty_list p (empty_at p h), λ d. empty_of p (walks_of d))
