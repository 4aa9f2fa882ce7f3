-- The letters of a right text are those of its expression, and its brackets go as deep as it nests them.
use mathlib.Core.Path.{◌≡◌, sym, ◌∙◌, ap, ap₂, subst}
use mathlib.Core.Bool.{true, not}
use mathlib.Core.List.{List, [], ◌∷◌, ◌++◌, map, map-append, append_assoc, append-nil}
use Prim.Native.Nat.{ℕ, suc, ◌+◌, ◌-◌, ◌≤◌, max}
use native.Mathlib.Omega.{arith}
use lib.Dec.{T, ltb, leb, lt→ltb, leb→le, ltb→lt}
use borrow.Author.Tests.{le-ltb, ne_eqb}
use Rattle.profile.specs.Limits.{most_letters}
use Rattle.profile.specs.Lists.{filter}
use Rattle.profile.specs.Traces.{letters_below}
use Rattle.profile.proofs.Lists.{all_append, both, filter_append, filter_no, filter_yes, fst_of, snd_of}
use Rattle.expressions.specs.Expressions.{Expr, leaves}
use Rattle.expressions.specs.Texts.{Level, Typed, letter?, expression, t_bracket, t_choice, t_factor, t_follow, t_letter, t_sequence, t_star}
use Rattle.expressions.specs.Passes.{deepest, letters_of, open_after}

module _ (k : ℕ) where
  pub letters_append : (u v : List ℕ) → letters_of k (u ++ v) ≡ letters_of k u ++ letters_of k v
  letters_append u v = ap (map (λ c. c - 97)) (filter_append (letter? k) u v) ∙ map-append (λ c. c - 97) (filter (letter? k) u) (filter (letter? k) v)

  pub letters_yes : (c : ℕ) (u : List ℕ) → T (letter? k c) → letters_of k (c ∷ u) ≡ (c - 97) ∷ letters_of k u
  letters_yes c u t = ap (map (λ c. c - 97)) (filter_yes (letter? k) c u t)

  pub letters_no : (c : ℕ) (u : List ℕ) → T (not (letter? k c)) → letters_of k (c ∷ u) ≡ letters_of k u
  letters_no c u t = ap (map (λ c. c - 97)) (filter_no (letter? k) c u t)

  pub letters_bar : k ≤ most_letters → (u : List ℕ) → letters_of k (124 ∷ u) ≡ letters_of k u
  letters_bar h u = letters_no 124 u (subst (λ b. T (not b)) (sym (le-ltb 124 (97 + k) (omega arith))) tt)

  module _ (few : k ≤ most_letters) where
    pub letters_typed : {l : Level} {u : List ℕ} {e : Expr} → Typed k l u e → letters_of k u ≡ leaves e
    letters_typed (t_letter {c = c} t) = letters_yes c [] t
    letters_typed (t_bracket {u = u} t) = letters_append u (41 ∷ []) ∙ (append-nil (letters_of k u) ∙ letters_typed t)
    letters_typed (t_star {u = u} t) = letters_append u (42 ∷ []) ∙ (append-nil (letters_of k u) ∙ letters_typed t)
    letters_typed (t_factor t) = letters_typed t
    letters_typed (t_follow {u = u} {v = v} s t) = letters_append u v ∙ ap₂ (λ x y. x ++ y) (letters_typed s) (letters_typed t)
    letters_typed (t_sequence t) = letters_typed t
    letters_typed (t_choice {u = u} {v = v} s t) = letters_append u (124 ∷ v) ∙ ap₂ (λ x y. x ++ y) (letters_typed s) (letters_bar few v ∙ letters_typed t)

  pub leaves_below : {l : Level} {u : List ℕ} {e : Expr} → Typed k l u e → T (letters_below (λ a. a) k (leaves e))
  leaves_below (t_letter {c = c} t) =
      let h = leb→le 97 c (fst_of (leb 97 c) (ltb c (97 + k)) t) in
      let g = ltb→lt c (97 + k) (snd_of (leb 97 c) (ltb c (97 + k)) t) in
      both (ltb (c - 97) k) true (lt→ltb (c - 97) k (omega arith)) tt
  leaves_below (t_bracket t) = leaves_below t
  leaves_below (t_star t) = leaves_below t
  leaves_below (t_factor t) = leaves_below t
  leaves_below (t_follow {e = e} {f = f} s t) = all_append (λ a. ltb a k) (leaves e) (leaves f) (leaves_below s) (leaves_below t)
  leaves_below (t_sequence t) = leaves_below t
  leaves_below (t_choice {e = e} {f = f} s t) = all_append (λ a. ltb a k) (leaves e) (leaves f) (leaves_below s) (leaves_below t)

  -- how deep the brackets of a text that types an expression are nested
  abbrev pub nesting : {l : Level} {u : List ℕ} {e : Expr} → Typed k l u e → ℕ
  nesting (t_letter t) = 0
  nesting (t_bracket t) = suc (nesting t)
  nesting (t_star t) = nesting t
  nesting (t_factor t) = nesting t
  nesting (t_follow s t) = max (nesting s) (nesting t)
  nesting (t_sequence t) = nesting t
  nesting (t_choice s t) = max (nesting s) (nesting t)

  -- no byte of a letter is a bracket
  letter_apart : (c d : ℕ) → T (letter? k c) → open_after c d ≡ d
  letter_apart c d t =
      let h = leb→le 97 c (fst_of (leb 97 c) (ltb c (97 + k)) t) in
      rw (ne_eqb c 40 (λ e. omega arith), ne_eqb c 41 (λ e. omega arith))

  deepest_least : (d : ℕ) (u : List ℕ) → d ≤ deepest d u
  deepest_least d [] = omega arith
  deepest_least d (c ∷ u) = omega arith

  bracket_max : (d m r : ℕ) → max d (max (suc d + m) (max (suc d) r)) ≡ max (d + suc m) r
  bracket_max d m r = omega arith

  -- "brackets go deeper than 16": the flat count is the nesting of the brackets
  nested : {l : Level} {u : List ℕ} {e : Expr} (t : Typed k l u e) (d : ℕ) (rest : List ℕ) → deepest d (u ++ rest) ≡ max (d + nesting t) (deepest d rest)
  nested (t_letter {c = c} t) d rest = ap (λ n. max d (deepest n rest)) (letter_apart c d t) ∙ omega arith
  nested (t_bracket {u = u} t) d rest =
      let a = ap (deepest (suc d)) (append_assoc u (41 ∷ []) rest) ∙ nested t (suc d) (41 ∷ rest) in
      let j : suc d - 1 ≡ d = omega arith in
      let b = ap (λ n. max (suc d) (deepest n rest)) j in
      ap (max d) a ∙ (ap (λ x. max d (max (suc d + nesting t) x)) b ∙ bracket_max d (nesting t) (deepest d rest))
  nested (t_star {u = u} t) d rest = ap (deepest d) (append_assoc u (42 ∷ []) rest) ∙ (nested t d (42 ∷ rest) ∙ (let l = deepest_least d rest in omega arith))
  nested (t_factor t) d rest = nested t d rest
  nested (t_follow {u = u} {v = v} s t) d rest =
      ap (deepest d) (append_assoc u v rest) ∙ (nested s d (v ++ rest) ∙ (ap (max (d + nesting s)) (nested t d rest) ∙ omega arith))
  nested (t_sequence t) d rest = nested t d rest
  nested (t_choice {u = u} {v = v} s t) d rest =
      ap (deepest d) (append_assoc u (124 ∷ v) rest) ∙ (nested s d (124 ∷ (v ++ rest)) ∙ (ap (λ n. max (d + nesting s) (max d n)) (nested t d rest) ∙ omega arith))

  pub deepest_nesting : {u : List ℕ} {e : Expr} (t : Typed k expression u e) → deepest 0 u ≡ nesting t
  deepest_nesting {u} t = ap (deepest 0) (sym (append-nil u)) ∙ (nested t 0 [] ∙ omega arith)
