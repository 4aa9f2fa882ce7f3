-- The pass over a text goes through every right text, and a text that it goes through is right.
use mathlib.Core.Path.{◌≡◌, refl, sym, ◌∙◌, ap, ap₂, subst}
use mathlib.Core.Bool.{Bool, true, false, cond}
use mathlib.Core.Logic.{◌↔◌}
use mathlib.Core.List.{List, [], ◌∷◌, ◌++◌, append_assoc, append-nil}
use mathlib.Core.Option.{Option, some-ne-none, none, some}
use Prim.Native.Nat.{ℕ, zero, suc, ◌+◌, ◌-◌, ◌≤◌}
use native.Mathlib.Omega.{arith}
use lib.Dec.{T, eqb, eqb→eq}
use lib.ListN.{length, length-append}
use borrow.Author.Tests.{le-ltb}
use Rattle.profile.specs.Limits.{most_letters}
use Rattle.profile.proofs.Lists.{is_true}
use Rattle.expressions.specs.Expressions.{Expr, choice, leaf, seq, star}
use Rattle.expressions.specs.Texts.{Level, Right, Typed, expression, factor, letter?, t_bracket, t_choice, t_factor, t_follow, t_letter, t_sequence, t_star}
use Rattle.expressions.specs.Passes.{Place, Sign, closes, ended, fault, fault_from, later, letter, next, opens, other, parts, repeats, sign}

-- ---- what a byte is

abbrev pub Means : ℕ → ℕ → Sign → Type 0
Means k c letter = T (letter? k c)
Means k c opens = c ≡ 40
Means k c closes = c ≡ 41
Means k c repeats = c ≡ 42
Means k c parts = c ≡ 124
Means k c other = Unit {0}

pub sign_means : (k c : ℕ) → Means k c (sign k c)
sign_means k c = go (letter? k c) (eqb c 40) (eqb c 41) (eqb c 42) (eqb c 124) (λ t. t) (eqb→eq c 40) (eqb→eq c 41) (eqb→eq c 42) (eqb→eq c 124)
  where
    go : (l o s r p : Bool) → (T l → T (letter? k c)) → (T o → c ≡ 40) → (T s → c ≡ 41) → (T r → c ≡ 42) → (T p → c ≡ 124)
        → Means k c (cond l letter (cond o opens (cond s closes (cond r repeats (cond p parts other)))))
    go true o s r p f g h i j = f tt
    go false true s r p f g h i j = g tt
    go false false true r p f g h i j = h tt
    go false false false true p f g h i j = i tt
    go false false false false true f g h i j = j tt
    go false false false false false f g h i j = tt

pub sign_letter : (k c : ℕ) → T (letter? k c) → sign k c ≡ letter
sign_letter k c t = rw (is_true (letter? k c) t)

bar_apart : (k : ℕ) → k ≤ most_letters → letter? k 124 ≡ false
bar_apart k h = le-ltb 124 (97 + k) (omega arith)

pub sign_bar : (k : ℕ) → k ≤ most_letters → sign k 124 ≡ parts
sign_bar k h = rw (bar_apart k h)

-- ---- a right text is gone through

abbrev pub shift : ℕ → Option ℕ → Option ℕ
shift n none = none
shift n (some i) = some (n + i)

shift_later : (n : ℕ) (o : Option ℕ) → later (shift n o) ≡ shift (suc n) o
shift_later n none = refl
shift_later n (some i) = let e : suc (n + i) ≡ suc n + i = omega arith in ap some e

shift_one : (o : Option ℕ) → later o ≡ shift 1 o
shift_one none = refl
shift_one (some i) = let e : suc i ≡ 1 + i = omega arith in ap some e

shift_shift : (n m : ℕ) (o : Option ℕ) → shift n (shift m o) ≡ shift (n + m) o
shift_shift n m none = refl
shift_shift n m (some i) = let e : n + (m + i) ≡ n + m + i = omega arith in ap some e

module _ (k : ℕ) where
  pub fault_letter : (c : ℕ) (w : Bool) (d : ℕ) (u : List ℕ) → T (letter? k c) → fault_from k w d (c ∷ u) ≡ later (fault_from k false d u)
  fault_letter c w d u t = rw (sign_letter k c t, fault_from)

  pub fault_bar : (d : ℕ) (u : List ℕ) → k ≤ most_letters → fault_from k false d (124 ∷ u) ≡ later (fault_from k true d u)
  fault_bar d u h = rw (sign_bar k h, fault_from)

  -- what stands before the rest passes, and leaves a factor behind it
  abbrev Passes : List ℕ → Type 0
  Passes u = (w : Bool) (d : ℕ) (rest : List ℕ) → fault_from k w d (u ++ rest) ≡ shift (length u) (fault_from k false d rest)

  abbrev Goes_on : List ℕ → Type 0
  Goes_on v = (d : ℕ) (rest : List ℕ) → fault_from k false d (v ++ rest) ≡ shift (length v) (fault_from k false d rest)

  passes_append : (u v : List ℕ) → Passes u → Goes_on v → Passes (u ++ v)
  passes_append u v f g w d rest =
      ap (fault_from k w d) (append_assoc u v rest) ∙ (f w d (v ++ rest) ∙ (ap (shift (length u)) (g d rest)
      ∙ (shift_shift (length u) (length v) (fault_from k false d rest) ∙ ap (λ n. shift n (fault_from k false d rest)) (sym (length-append u v)))))

  module _ (few : k ≤ most_letters) where
    pub passes : {l : Level} {u : List ℕ} {e : Expr} → Typed k l u e → (w : Bool) (d : ℕ) (rest : List ℕ) → fault_from k w d (u ++ rest) ≡ shift (length u) (fault_from k false d rest)
    passes (t_letter {c = c} t) w d rest = fault_letter c w d rest t ∙ shift_one (fault_from k false d rest)
    passes (t_bracket {u = u} t) w d rest =
        ap (λ x. later (fault_from k true (suc d) x)) (append_assoc u (41 ∷ []) rest) ∙ (ap later (passes t true (suc d) (41 ∷ rest))
        ∙ (ap (λ x. later (shift (length u) x)) (shift_one (fault_from k false d rest)) ∙ (ap later (shift_shift (length u) 1 (fault_from k false d rest))
        ∙ (shift_later (length u + 1) (fault_from k false d rest) ∙ ap (λ n. shift (suc n) (fault_from k false d rest)) (sym (length-append u (41 ∷ [])))))))
    passes (t_star {u = u} t) w d rest = passes_append u (42 ∷ []) (λ w d rest. passes t w d rest) (λ d rest. shift_one (fault_from k false d rest)) w d rest
    passes (t_factor t) w d rest = passes t w d rest
    passes (t_follow {u = u} {v = v} s t) w d rest = passes_append u v (λ w d rest. passes s w d rest) (λ d rest. passes t false d rest) w d rest
    passes (t_sequence t) w d rest = passes t w d rest
    passes (t_choice {u = u} {v = v} s t) w d rest = passes_append u (124 ∷ v) (λ w d rest. passes s w d rest) (λ d rest.
        fault_bar d (v ++ rest) few ∙ (ap later (passes t true d rest) ∙ shift_later (length v) (fault_from k false d rest))) w d rest

    pub right_passes : {u : List ℕ} → Right k u → fault k u ≡ none
    right_passes {u} r = subst (λ x. fault_from k true 0 x ≡ none) (append-nil u) (passes r.typed true 0 [])

-- ---- what stands before the factor that is read: brackets that are open, choices and factors before it

pub data Around (k : ℕ) : ℕ → List ℕ → Type 0 where
  a_start : Around k 0 []
  a_open : {d : ℕ} {p : List ℕ} → Around k d p → Around k (suc d) (p ++ (40 ∷ []))
  a_next : {d : ℕ} {p s : List ℕ} {e : Expr} → Around k d p → Typed k factor s e → Around k d (p ++ s)
  a_bar : {d : ℕ} {p s : List ℕ} {e : Expr} → Around k d p → Typed k factor s e → Around k d (p ++ (s ++ (124 ∷ [])))

-- where the innermost open bracket begins, and the expression in it; with none open, the whole text
abbrev Closed : ℕ → ℕ → List ℕ → Type 0
Closed k zero t = Right k t
Closed k (suc d) t = (p u : List ℕ) × (e : Expr) × Around k d p × Typed k expression u e × (t ≡ p ++ (40 ∷ u))

prepend : {k : ℕ} {s u : List ℕ} {e f : Expr} → Typed k factor s e → Typed k expression u f → (g : Expr) × Typed k expression (s ++ u) g
prepend {e = e} s (t_sequence {e = f} t) = (seq e f, t_sequence (t_follow s t))
prepend {k = k} {s = x} {e = e} s (t_choice {u = u} {v = v} {e = f} {f = g} t r) =
    (choice (seq e f) g, subst (λ l. Typed k expression l (choice (seq e f) g)) (append_assoc x u (124 ∷ v)) (t_choice (t_follow s t) r))

closing : {k d : ℕ} {p : List ℕ} → Around k d p → (u : List ℕ) (f : Expr) → Typed k expression u f → Closed k d (p ++ u)
closing a_start u f t = record { tree = f; typed = t }
closing (a_open {p = p} a) u f t = (p, u, f, a, t, append_assoc p (40 ∷ []) u)
closing {k} {d} (a_next {p = p} {s = s} a h) u f t =
    let n = prepend h t in
    subst (Closed k d) (sym (append_assoc p s u)) (closing a (s ++ u) n.0 n.1)
closing {k} {d} (a_bar {p = p} {s = s} {e = e} a h) u f t =
    subst (Closed k d) (ap (λ x. p ++ x) (sym (append_assoc s (124 ∷ []) u)) ∙ sym (append_assoc p (s ++ (124 ∷ [])) u)) (closing a (s ++ (124 ∷ u)) (choice e f) (t_choice (t_factor h) t))

-- where the pass stands: a factor must come, or one was read
abbrev pub Stands : ℕ → Bool → ℕ → List ℕ → Type 0
Stands k true d r = Around k d r
Stands k false d r = (p s : List ℕ) × (e : Expr) × Around k d p × Typed k factor s e × (r ≡ p ++ s)

abbrev pub Holds : ℕ → List ℕ → Option Place → Type 0
Holds k r none = Unit {0}
Holds k r (some s) = Stands k s.want s.depth r

module _ (k c : ℕ) (r : List ℕ) where
  pub stepped : (g : Sign) (w : Bool) (d : ℕ) → Means k c g → Stands k w d r → Holds k (r ++ (c ∷ [])) (next g w d)
  stepped letter true d m a = (r, c ∷ [], leaf (c - 97), a, t_letter m, refl)
  stepped letter false d m (p, s, e, a, t, q) = (p ++ s, c ∷ [], leaf (c - 97), a_next a t, t_letter m, ap (λ x. x ++ (c ∷ [])) q)
  stepped opens true d m a = subst (λ x. Around k (suc d) (r ++ (x ∷ []))) (sym m) (a_open a)
  stepped opens false d m (p, s, e, a, t, q) = subst (λ x. Around k (suc d) (r ++ (x ∷ []))) (sym m) (a_open (subst (Around k d) (sym q) (a_next a t)))
  stepped closes true d m a = tt
  stepped closes false zero m a = tt
  stepped closes false (suc d) m (p, s, e, a, t, q) =
      let n = closing a s e (t_sequence (t_factor t)) in
      (n.0, 40 ∷ (n.1 ++ (41 ∷ [])), n.2, n.3, t_bracket n.4, ap₂ (λ x y. x ++ (y ∷ [])) (q ∙ n.5) m ∙ append_assoc n.0 (40 ∷ n.1) (41 ∷ []))
  stepped repeats true d m a = tt
  stepped repeats false d m (p, s, e, a, t, q) = (p, s ++ (42 ∷ []), star e, a, t_star t, ap₂ (λ x y. x ++ (y ∷ [])) q m ∙ append_assoc p s (42 ∷ []))
  stepped parts true d m a = tt
  stepped parts false d m (p, s, e, a, t, q) = subst (Around k d) (sym (ap₂ (λ x y. x ++ (y ∷ [])) q m ∙ append_assoc p s (124 ∷ []))) (a_bar a t)
  stepped other w d m a = tt

  pub stands_next : (w : Bool) (d : ℕ) (s : Place) → next (sign k c) w d ≡ some s → Stands k w d r → Stands k s.want s.depth (r ++ (c ∷ []))
  stands_next w d s e a = subst (Holds k (r ++ (c ∷ []))) e (stepped (sign k c) w d (sign_means k c) a)

-- the text is right where the pass may end
pub stands_right : (k : ℕ) (w : Bool) (d : ℕ) (r : List ℕ) → ended w d ≡ none → Stands k w d r → Right k r
stands_right k true d r e a = absurd (some-ne-none _ e)
stands_right k false zero r e (p, s, f, a, t, q) = subst (Right k) (sym q) (closing a s f (t_sequence (t_factor t)))
stands_right k false (suc d) r e a = absurd (some-ne-none _ e)

-- one byte of the pass
pub fault_stops : (k c : ℕ) (w : Bool) (d : ℕ) (u : List ℕ) → next (sign k c) w d ≡ none → fault_from k w d (c ∷ u) ≡ some 0
fault_stops k c w d u e = rw (e, fault_from)

pub fault_goes : (k c : ℕ) (w : Bool) (d : ℕ) (u : List ℕ) (s : Place) → next (sign k c) w d ≡ some s → fault_from k w d (c ∷ u) ≡ later (fault_from k s.want s.depth u)
fault_goes k c w d u s e = rw (e, fault_from)

later_none : (o : Option ℕ) → later o ≡ none → o ≡ none
later_none none e = refl
later_none (some i) e = absurd (some-ne-none _ e)

pub passed_right : (k : ℕ) (u : List ℕ) (w : Bool) (d : ℕ) (r : List ℕ) → Stands k w d r → fault_from k w d u ≡ none → Right k (r ++ u)
passed_right k [] w d r a e = subst (Right k) (sym (append-nil r)) (stands_right k w d r e a)
passed_right k (c ∷ u) w d r a e = go (next (sign k c) w d) refl (passed_right k u)
  where
    go : (o : Option Place) → next (sign k c) w d ≡ o → ((w : Bool) (d : ℕ) (r : List ℕ) → Stands k w d r → fault_from k w d u ≡ none → Right k (r ++ u)) → Right k (r ++ (c ∷ u))
    go none h f = absurd (some-ne-none _ (sym (fault_stops k c w d u h) ∙ e))
    go (some s) h f =
        subst (Right k) (append_assoc r (c ∷ []) u)
        (f s.want s.depth (r ++ (c ∷ [])) (stands_next k c r w d s h a) (later_none (fault_from k s.want s.depth u) (sym (fault_goes k c w d u s h) ∙ e)))

-- "right text": exactly where the pass finds no place
pub right_is : (k : ℕ) → k ≤ most_letters → (u : List ℕ) → (fault k u ≡ none) ↔ Right k u
right_is k few u = (passed_right k u true 0 [] a_start, right_passes k few)
