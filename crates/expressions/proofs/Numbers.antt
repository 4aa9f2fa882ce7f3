-- The letters of an expression and their numbers: a log is described exactly when the letters of some described list of numbers spell it.
use mathlib.Core.Path.{◌≡◌, refl, sym, ◌∙◌, ap, ap₂, subst}
use mathlib.Core.Logic.{◌⊎◌, inl, inr, ⊎_elim}
use mathlib.Core.List.{List, [], ◌∷◌, ◌++◌, map, map-append}
use Prim.Native.Nat.{ℕ, ◌+◌, ◌-◌, ◌≤◌, ◌<◌}
use native.Mathlib.Omega.{arith}
use lib.ListN.{length, get_or, length-append, get_or-append}
use lib.Seq.{get_or-append-add}
use Rattle.expressions.specs.Expressions.{Describes, Expr, choice, d_leaf, d_left, d_more, d_none, d_right, d_seq, leaf, leaves, letter_at, numbered, seq, size, star}
use Rattle.expressions.proofs.Language.{In, Once}

pub length_leaves : (e : Expr) → length (leaves e) ≡ size e
length_leaves (leaf a) = refl
length_leaves (choice e f) = length-append (leaves e) (leaves f) ∙ ap₂ (λ m n. m + n) (length_leaves e) (length_leaves f)
length_leaves (seq e f) = length-append (leaves e) (leaves f) ∙ ap₂ (λ m n. m + n) (length_leaves e) (length_leaves f)
length_leaves (star e) = length_leaves e

-- ---- taking a description apart

pub leaf_at : {a : ℕ} {w : List ℕ} → Describes (leaf a) w → w ≡ a ∷ []
leaf_at d_leaf = refl

pub choice_at : {e f : Expr} {w : List ℕ} → Describes (choice e f) w → Describes e w ⊎ Describes f w
choice_at (d_left d) = inl d
choice_at (d_right d) = inr d

pub seq_at : {e f : Expr} {w : List ℕ} → Describes (seq e f) w → (u v : List ℕ) × Describes e u × Describes f v × (w ≡ u ++ v)
seq_at (d_seq {u = u} {v = v} c d) = (u, v, c, d, refl)

-- ---- other letters for the leaves

abbrev pub relabel : (ℕ → ℕ) → Expr → Expr
relabel g (leaf i) = leaf (g i)
relabel g (choice e f) = choice (relabel g e) (relabel g f)
relabel g (seq e f) = seq (relabel g e) (relabel g f)
relabel g (star e) = star (relabel g e)

pub relabel_of : (g : ℕ → ℕ) {p : Expr} {u : List ℕ} → Describes p u → Describes (relabel g p) (map g u)
relabel_of g d_leaf = d_leaf
relabel_of g (d_left d) = d_left (relabel_of g d)
relabel_of g (d_right d) = d_right (relabel_of g d)
relabel_of g (d_seq {e = e} {f = f} {u = u} {v = v} c d) = subst (λ l. Describes (seq (relabel g e) (relabel g f)) l) (sym (map-append g u v)) (d_seq (relabel_of g c) (relabel_of g d))
relabel_of g d_none = d_none
relabel_of g (d_more {e = e} {u = u} {v = v} c d) = subst (λ l. Describes (star (relabel g e)) l) (sym (map-append g u v)) (d_more (relabel_of g c) (relabel_of g d))

abbrev Spelt : (ℕ → ℕ) → Expr → List ℕ → Type 0
Spelt g p w = (ps : List ℕ) × Describes p ps × (map g ps ≡ w)

spelt_seq : (g : ℕ → ℕ) {p q : Expr} (u v : List ℕ) → Spelt g p u → Spelt g q v → Spelt g (seq p q) (u ++ v)
spelt_seq g u v a b = (a.0 ++ b.0, d_seq a.1 b.1, map-append g a.0 b.0 ∙ ap₂ (λ x y. x ++ y) a.2 b.2)

spelt_star : (g : ℕ → ℕ) (p : Expr) {e : Expr} → ((u : List ℕ) → Describes e u → Spelt g p u) → {w : List ℕ} → Describes (star e) w → Spelt g (star p) w
spelt_star g p h d_none = ([], d_none, refl)
spelt_star g p h (d_more {u = u} {v = v} c d) =
    let a = h u c in
    let b = spelt_star g p h d in
    (a.0 ++ b.0, d_more a.1 b.1, map-append g a.0 b.0 ∙ ap₂ (λ x y. x ++ y) a.2 b.2)

pub relabel_at : (g : ℕ → ℕ) (p : Expr) (w : List ℕ) → Describes (relabel g p) w → (ps : List ℕ) × Describes p ps × (map g ps ≡ w)
relabel_at g (leaf i) w d = (i ∷ [], d_leaf, sym (leaf_at d))
relabel_at g (choice p q) w d = ⊎_elim (λ c. let n = relabel_at g p w c in (n.0, d_left n.1, n.2)) (λ c. let n = relabel_at g q w c in (n.0, d_right n.1, n.2)) (choice_at d)
relabel_at g (seq p q) w d =
    let n = seq_at d in
    let m = spelt_seq g n.0 n.1 (relabel_at g p n.0 n.2) (relabel_at g q n.1 n.3) in
    (m.0, m.1, m.2 ∙ sym n.4)
relabel_at g (star p) w d = spelt_star g p (relabel_at g p) d

-- ---- numbers for the leaves, and back

-- g gives each number from n on its letter
abbrev pub Names : (ℕ → ℕ) → ℕ → List ℕ → Type 0
Names g n l = (i : ℕ) → i < length l → g (n + i) ≡ get_or l i 0

names_left : (g : ℕ → ℕ) (n : ℕ) (l r : List ℕ) → Names g n (l ++ r) → Names g n l
names_left g n l r h i b = h i (omega (arith, length-append l r)) ∙ get_or-append l r 0 i b

names_right : (g : ℕ → ℕ) (n m : ℕ) (l r : List ℕ) → length l ≡ m → Names g n (l ++ r) → Names g (n + m) r
names_right g n m l r e h i b =
    let j : n + m + i ≡ n + (length l + i) = omega arith in
    ap g j ∙ (h (length l + i) (omega (arith, length-append l r)) ∙ get_or-append-add l r i 0)

pub renamed : (g : ℕ → ℕ) (n : ℕ) (e : Expr) → Names g n (leaves e) → relabel g (numbered n e) ≡ e
renamed g n (leaf a) h = let j : n ≡ n + 0 = omega arith in ap leaf (ap g j ∙ h 0 (omega arith))
renamed g n (choice e f) h =
    ap₂ choice (renamed g n e (names_left g n (leaves e) (leaves f) h)) (renamed g (n + size e) f (names_right g n (size e) (leaves e) (leaves f) (length_leaves e) h))
renamed g n (seq e f) h =
    ap₂ seq (renamed g n e (names_left g n (leaves e) (leaves f) h)) (renamed g (n + size e) f (names_right g n (size e) (leaves e) (leaves f) (length_leaves e) h))
renamed g n (star e) h = ap star (renamed g n e h)

names : (e : Expr) → Names (letter_at e) 1 (leaves e)
names e i b = let j : 1 + i - 1 ≡ i = omega arith in ap (λ n. get_or (leaves e) n 0) j

pub spelt_of : (e : Expr) (w : List ℕ) → Describes e w → (ps : List ℕ) × Describes (numbered 1 e) ps × (map (letter_at e) ps ≡ w)
spelt_of e w d = relabel_at (letter_at e) (numbered 1 e) w (subst (λ f. Describes f w) (sym (renamed (letter_at e) 1 e (names e))) d)

pub spelt_at : (e : Expr) (ps : List ℕ) → Describes (numbered 1 e) ps → Describes e (map (letter_at e) ps)
spelt_at e ps d = subst (λ f. Describes f (map (letter_at e) ps)) (renamed (letter_at e) 1 e (names e)) (relabel_of (letter_at e) d)

-- ---- the numbers of an expression: from n on, each once

pub numbers_at : (n : ℕ) (e : Expr) (i : ℕ) → In (numbered n e) i → (n ≤ i) × (i < n + size e)
numbers_at n (leaf a) i h = omega arith
numbers_at n (choice e f) i h = ⊎_elim (λ k. let m = numbers_at n e i k in omega arith) (λ k. let m = numbers_at (n + size e) f i k in omega arith) h
numbers_at n (seq e f) i h = ⊎_elim (λ k. let m = numbers_at n e i k in omega arith) (λ k. let m = numbers_at (n + size e) f i k in omega arith) h
numbers_at n (star e) i h = numbers_at n e i h

apart : (n : ℕ) (e f : Expr) (i : ℕ) → In (numbered n e) i → In (numbered (n + size e) f) i → ⊥
apart n e f i a b = let x = numbers_at n e i a in let y = numbers_at (n + size e) f i b in omega arith

pub numbered_once : (n : ℕ) (e : Expr) → Once (numbered n e)
numbered_once n (leaf a) = tt
numbered_once n (choice e f) = (numbered_once n e, numbered_once (n + size e) f, apart n e f)
numbered_once n (seq e f) = (numbered_once n e, numbered_once (n + size e) f, apart n e f)
numbered_once n (star e) = numbered_once n e
