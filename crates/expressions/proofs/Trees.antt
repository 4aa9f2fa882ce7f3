-- The expression that a text types is the one that the pass computes: there is at most one.
use mathlib.Core.Path.{◌≡◌, refl, sym, ◌∙◌, ap, ap₂, subst}
use mathlib.Core.Bool.{Bool, true, false}
use mathlib.Core.Logic.{◌↔◌}
use mathlib.Core.List.{List, [], ◌∷◌, ◌++◌, append_assoc, append-nil}
use mathlib.Core.Option.{Option, none-ne-some, some-injective, none, some}
use Prim.Native.Nat.{ℕ, ◌-◌, ◌≤◌}
use lib.Dec.{T}
use lib.ListN.{length}
use Rattle.profile.specs.Limits.{most_letters}
use Rattle.expressions.specs.Expressions.{Expr, choice, leaf}
use Rattle.expressions.specs.Texts.{Level, Typed, expression, factor, letter?, sequence, t_bracket, t_choice, t_factor, t_follow, t_letter, t_sequence, t_star}
use Rattle.expressions.specs.Passes.{Place, Sign, closes, fault, fault_from, letter, next, opens, other, parts, repeats, sign}
use Rattle.expressions.specs.Trees.{Frame, Reading, fresh, joined, read, taken, tree, whole}
use Rattle.expressions.proofs.Passes.{fault_goes, right_is, sign_bar, sign_letter}
use Rattle.expressions.proofs.Places.{later_at}

abbrev at : Frame → Option Expr → List Frame → Reading
at f l o = record { frame = f; last = l; outer = o }

-- behind what is read a factor stands last, and the whole is what it should be
abbrev Reads : ℕ → Level → List ℕ → Expr → Type 0
Reads k factor u e = (f : Frame) (l : Option Expr) (o : List Frame) (rest : List ℕ) → read k (at f l o) (u ++ rest) ≡ read k (at (joined f l) (some e) o) rest
Reads k sequence u e = (f : Frame) (l : Option Expr) (o : List Frame) (rest : List ℕ)
    → (g : Frame) × (x : Expr) × (g.factors x ≡ (joined f l).factors e) × (g.choices ≡ f.choices) × (read k (at f l o) (u ++ rest) ≡ read k (at g (some x) o) rest)
Reads k expression u e = (h : Expr → Expr) (o : List Frame) (rest : List ℕ)
    → (g : Frame) × (x : Expr) × (whole g x ≡ h e) × (read k (at (fresh h) none o) (u ++ rest) ≡ read k (at g (some x) o) rest)

joined_choices : (f : Frame) (l : Option Expr) → (joined f l).choices ≡ f.choices
joined_choices f none = refl
joined_choices f (some e) = refl

module _ (k : ℕ) (few : k ≤ most_letters) where
  read_letter : (c : ℕ) → T (letter? k c) → Reads k factor (c ∷ []) (leaf (c - 97))
  read_letter c t f l o rest = rw (sign_letter k c t, read)

  read_bar : (f : Frame) (e : Expr) (o : List Frame) (u : List ℕ) → read k (at f (some e) o) (124 ∷ u) ≡ read k (at (fresh (λ x. f.choices (choice (f.factors e) x))) none o) u
  read_bar f e o u = rw (sign_bar k few, read)

  reads : {l : Level} {u : List ℕ} {e : Expr} → Typed k l u e → Reads k l u e
  reads (t_letter {c = c} t) = read_letter c t
  reads (t_bracket {u = u} {e = e} t) = λ f l o rest.
      let n = reads t (λ x. x) (joined f l ∷ o) (41 ∷ rest) in
      ap (read k (at (fresh (λ x. x)) none (joined f l ∷ o))) (append_assoc u (41 ∷ []) rest) ∙ (n.3 ∙ ap (λ y. read k (at (joined f l) (some y) o) rest) n.2)
  reads (t_star {u = u} t) = λ f l o rest. ap (read k (at f l o)) (append_assoc u (42 ∷ []) rest) ∙ reads t f l o (42 ∷ rest)
  reads (t_factor {e = e} t) = λ f l o rest. (joined f l, e, refl, joined_choices f l, reads t f l o rest)
  reads (t_follow {u = u} {v = v} {e = e} s t) = λ f l o rest.
      let n = reads t (joined f l) (some e) o rest in
      (n.0, n.1, n.2, n.3 ∙ joined_choices f l, ap (read k (at f l o)) (append_assoc u v rest) ∙ (reads s f l o (v ++ rest) ∙ n.4))
  reads (t_sequence t) = λ h o rest. let n = reads t (fresh h) none o rest in (n.0, n.1, ap₂ (λ c x. c x) n.3 n.2, n.4)
  reads (t_choice {u = u} {v = v} {e = e} {f = f} s t) = λ h o rest.
      let n = reads s (fresh h) none o (124 ∷ (v ++ rest)) in
      let m = reads t (λ x. n.0.choices (choice (n.0.factors n.1) x)) o rest in (
        m.0,
        m.1,
        m.2 ∙ ap₂ (λ c x. c (choice x f)) n.3 n.2,
        ap (read k (at (fresh h) none o)) (append_assoc u (124 ∷ v) rest) ∙ (n.4 ∙ (read_bar n.0 n.1 o (v ++ rest) ∙ m.3)),
      )

  pub tree_of : {u : List ℕ} {e : Expr} → Typed k expression u e → tree k u ≡ some e
  tree_of {u} t =
      let n = reads t (λ x. x) [] [] in
      ap (tree k) (sym (append-nil u)) ∙ (n.3 ∙ ap some n.2)

  -- a text types at most one expression
  pub one_tree : {u : List ℕ} {e f : Expr} → Typed k expression u e → Typed k expression u f → e ≡ f
  one_tree s t = some-injective _ _ (sym (tree_of s) ∙ tree_of t)

-- ---- the two passes stop at the same byte

abbrev wanting : Option Expr → Bool
wanting none = true
wanting (some e) = false

abbrev Match : Option Place → Option Reading → Type 0
Match none none = Unit {0}
Match none (some t) = ⊥
Match (some p) none = ⊥
Match (some p) (some t) = (p.want ≡ wanting t.last) × (p.depth ≡ length t.outer)

match_step : (g : Sign) (c : ℕ) (f : Frame) (l : Option Expr) (o : List Frame) → Match (next g (wanting l) (length o)) (taken g c f l o)
match_step letter c f l o = (refl, refl)
match_step opens c f l o = (refl, refl)
match_step closes c f none o = tt
match_step closes c f (some e) [] = tt
match_step closes c f (some e) (g ∷ o) = (refl, refl)
match_step repeats c f none o = tt
match_step repeats c f (some e) o = (refl, refl)
match_step parts c f none o = tt
match_step parts c f (some e) o = (refl, refl)
match_step other c f l o = tt

module _ (k : ℕ) where
  stops_too : (u : List ℕ) (f : Frame) (l : Option Expr) (o : List Frame) (i : ℕ) → fault_from k (wanting l) (length o) u ≡ some i → read k (at f l o) u ≡ none
  stops_too [] f none o i e = refl
  stops_too [] f (some x) [] i e = absurd (none-ne-some _ e)
  stops_too [] f (some x) (g ∷ o) i e = refl
  stops_too (c ∷ u) f l o i e = go (next (sign k c) (wanting l) (length o)) (taken (sign k c) c f l o) refl refl (match_step (sign k c) c f l o) (stops_too u)
    where
      go : (p : Option Place) (t : Option Reading) → next (sign k c) (wanting l) (length o) ≡ p → taken (sign k c) c f l o ≡ t → Match p t
          → ((f : Frame) (l : Option Expr) (o : List Frame) (i : ℕ) → fault_from k (wanting l) (length o) u ≡ some i → read k (at f l o) u ≡ none)
          → read k (at f l o) (c ∷ u) ≡ none
      go none none p t m ih = rw (t, read)
      go none (some t) p q m ih = absurd m
      go (some p) none q t m ih = absurd m
      go (some p) (some t) q r m ih =
          let a = later_at (fault_from k p.want p.depth u) i (sym (fault_goes k c (wanting l) (length o) u p q) ∙ e) in
          let b = ih t.frame t.last t.outer a.0 (ap₂ (λ w d. fault_from k w d u) (sym m.0) (sym m.1) ∙ a.1) in
          rw (r, read) b

  -- the pass finds the expression exactly where the text types it
  pub tree_is : k ≤ most_letters → (u : List ℕ) (e : Expr) → (tree k u ≡ some e) ↔ Typed k expression u e
  tree_is few u e = (λ h. go h (fault k u) refl, tree_of k few)
    where
      go : tree k u ≡ some e → (o : Option ℕ) → fault k u ≡ o → Typed k expression u e
      go h none q = let r = (right_is k few u).0 q in subst (Typed k expression u) (some-injective _ _ (sym (tree_of k few r.typed) ∙ h)) r.typed
      go h (some i) q = absurd (none-ne-some _ (sym (stops_too u (fresh (λ x. x)) none [] i q) ∙ h))
