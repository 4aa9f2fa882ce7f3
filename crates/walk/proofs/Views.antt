-- The walk, path by path: what comes next, and what was read.
use mathlib.Core.Path.{◌≡◌, refl, sym, ◌∙◌, ap, ap₂, subst}
use mathlib.Core.Bool.{Bool, true, false, not}
use mathlib.Core.Logic.{◌⊎◌, inl, inr, ⊎_elim}
use mathlib.Core.List.{List, [], ◌∷◌, ◌++◌, append_assoc, append-nil, head-eq_of_cons-eq, tail-eq_of_cons-eq}
use Prim.Native.Nat.{ℕ, zero, suc, ◌+◌, ◌-◌, ◌≤◌, ◌<◌}
use native.Mathlib.Omega.{arith}
use native.Mathlib.Numerals.{add-one}
use lib.Bits.{bit_or, or_self}
use lib.Dec.{T, eqb, eqb→eq, leb, ltb, leb→le, ltb→lt}
use lib.ListN.{drop, get_or, length, length-append, length-drop}
use lib.Seq.{drop-append_seam, drop-cons, drop-drop}
use Rattle.profile.specs.Limits.{most_letters, most_states}
use Rattle.profile.specs.Traces.{bit}
use Rattle.profile.proofs.Lists.{either, fst_of, is_false, or_right, snd_of}
use Rattle.profile.proofs.Sets.{or_assoc}
use Rattle.expressions.specs.Expressions.{Expr, choice, leaf, numbered, seq, size, star}
use Rattle.expressions.specs.Positions.{firsts, follows, lasts, when}
use Rattle.expressions.specs.Texts.{Level, Typed, expression, factor, letter?, sequence, t_bracket, t_choice, t_factor, t_follow, t_letter, t_sequence, t_star}
use Rattle.fragments.specs.declared.Part.{Part}
use Rattle.fragments.specs.Parts.{add_rows, choice_part_of, letter_part_of, linked, part_of, sequence_part_of, starred_part, starred_rows, stars}
use Rattle.fragments.proofs.Rows.{part, rows_none, rows_same, rows_twice}
use Rattle.walk.specs.Walk.{Comes, Reads, Walked, stops}

-- ---- places of the text

after_part : (text : List ℕ) (at : ℕ) (u w : List ℕ) → drop at text ≡ u ++ w → drop (at + length u) text ≡ w
after_part text at u w e = sym (drop-drop (length u) at text) ∙ (ap (drop (length u)) e ∙ drop-append_seam u w)

here_inside : (text : List ℕ) (i c : ℕ) (w : List ℕ) → drop i text ≡ c ∷ w → i < length text
here_inside text i c w e = omega (arith, ap length e, length-drop i text)

here_byte : (text : List ℕ) (i c : ℕ) (w : List ℕ) → drop i text ≡ c ∷ w → get_or text i 0 ≡ c
here_byte text i c w e = head-eq_of_cons-eq (sym (drop-cons text i 0 (here_inside text i c w e)) ∙ e)

here_next : (text : List ℕ) (i c : ℕ) (w : List ℕ) → drop i text ≡ c ∷ w → drop (i + 1) text ≡ w
here_next text i c w e = ap (λ j. drop j text) (add-one i) ∙ tail-eq_of_cons-eq (sym (drop-cons text i 0 (here_inside text i c w e)) ∙ e)

here_none : (text : List ℕ) (i : ℕ) → drop i text ≡ [] → i < length text → ⊥
here_none text i e h = omega (arith, ap length e, length-drop i text)

-- ---- the first byte of what comes

abbrev Begun : ℕ → List ℕ → Type 0
Begun k u = (c : ℕ) × (v : List ℕ) × (u ≡ c ∷ v) × (T (letter? k c) ⊎ (c ≡ 40))

begun_more : (k : ℕ) (u v : List ℕ) → Begun k u → Begun k (u ++ v)
begun_more k u v b = (b.0, b.1 ++ v, ap (λ x. x ++ v) b.2, b.3)

pub begun : {k : ℕ} {l : Level} {u : List ℕ} {e : Expr} → Typed k l u e → Begun k u
begun (t_letter {c = c} t) = (c, [], refl, inl t)
begun (t_bracket {u = u} t) = (40, u ++ (41 ∷ []), refl, inr refl)
begun {k} (t_star {u = u} t) = begun_more k u (42 ∷ []) (begun t)
begun (t_factor t) = begun t
begun {k} (t_follow {u = u} {v = v} s t) = begun_more k u v (begun s)
begun (t_sequence t) = begun t
begun {k} (t_choice {u = u} {v = v} s t) = begun_more k u (124 ∷ v) (begun s)

-- a first byte is no sign of the end
begun_apart : (k c : ℕ) → k ≤ most_letters → T (letter? k c) ⊎ (c ≡ 40) → (c ≡ 41 → ⊥) × (c ≡ 42 → ⊥) × (c ≡ 124 → ⊥)
begun_apart k c h (inl t) =
    let a = leb→le 97 c (fst_of (leb 97 c) (ltb c (97 + k)) t) in
    let b = ltb→lt c (97 + k) (snd_of (leb 97 c) (ltb c (97 + k)) t) in ((λ e. omega arith), (λ e. omega arith), λ e. omega arith)
begun_apart k c h (inr q) = ((λ e. omega arith), (λ e. omega arith), λ e. omega arith)

pub begun_long : {k : ℕ} {l : Level} {u : List ℕ} {e : Expr} → Typed k l u e → 1 ≤ length u
begun_long t = let b = begun t in omega (arith, ap length b.2)

not_eqb : (c d : ℕ) → (c ≡ d → ⊥) → T (not (eqb c d))
not_eqb c d h = go (eqb c d) (eqb→eq c d)
  where
    go : (b : Bool) → (T b → c ≡ d) → T (not b)
    go true f = h (f tt)
    go false f = tt

-- ---- parts put together

module _ (n : ℕ) (e f : Expr) (i j : ℕ) (x y z : Part) (t0 t1 t2 : List ℕ) (p : Reads n e i x t0 t1) (q : Reads (n + size e) f j y t1 t2) where
  reads_choice : z ≡ choice_part_of x y → Reads n (choice e f) j z t0 t2
  reads_choice h =
      let m : n + size e + size f ≡ n + (size e + size f) = omega arith in
      record {
        value = h ∙ (ap₂ choice_part_of p.value q.value ∙ ap (part_of (numbered n (choice e f)) j) m);
        rows = q.rows ∙ (ap (λ t. add_rows t (follows (numbered (n + size e) f))) p.rows ∙ rows_twice t0 (follows (numbered n e)) (follows (numbered (n + size e) f)));
      }

  reads_seq : (t3 : List ℕ) → t3 ≡ linked t2 x.last y.first → z ≡ sequence_part_of x y → Reads n (seq e f) j z t0 t3
  reads_seq t3 l h =
      let m : n + size e + size f ≡ n + (size e + size f) = omega arith in
      let F = follows (numbered n e) in
      let G = follows (numbered (n + size e) f) in
      let L : ℕ → ℕ = λ i. when (bit (lasts (numbered n e)) i) (firsts (numbered (n + size e) f)) in
      record {
        value = h ∙ (ap₂ sequence_part_of p.value q.value ∙ ap (part_of (numbered n (seq e f)) j) m);
        rows = l ∙ (ap₂ (λ a b. linked t2 a.last b.first) p.value q.value
            ∙ (ap (λ t. add_rows t L) (q.rows ∙ (ap (λ t. add_rows t G) p.rows ∙ rows_twice t0 F G)) ∙ rows_twice t0 (λ i. bit_or (F i) (G i)) L));
      }

reads_at : (n : ℕ) {e f : Expr} {i j : ℕ} (z : Part) (t0 t1 : List ℕ) → e ≡ f → i ≡ j → Reads n e i z t0 t1 → Reads n f j z t0 t1
reads_at n {e} {f} {i} {j} z t0 t1 p q r = subst (λ g. Reads n g j z t0 t1) p (subst (λ m. Reads n e m z t0 t1) q r)

-- ---- expression

exp_split : {k : ℕ} {u : List ℕ} {e : Expr} → Typed k expression u e
    → Typed k sequence u e ⊎ ((u1 v : List ℕ) × (e1 f : Expr) × Typed k sequence u1 e1 × Typed k expression v f × (u ≡ u1 ++ (124 ∷ v)) × (e ≡ choice e1 f))
exp_split (t_sequence t) = inl t
exp_split (t_choice {u = u} {v = v} {e = e} {f = f} s t) = inr (u, v, e, f, s, t, refl, refl)

stop_weaker : (rest : List ℕ) → T (stops expression rest) → T (stops sequence rest)
stop_weaker [] t = tt
stop_weaker (c ∷ u) t = or_right (eqb c 124) (eqb c 41) t

stop_no_bar : (text : List ℕ) (i : ℕ) (rest : List ℕ) → drop i text ≡ rest → T (stops expression rest) → i < length text → get_or text i 0 ≡ 124 → ⊥
stop_no_bar text i [] e t h g = here_none text i e h
stop_no_bar text i (c ∷ u) e t h g = let a = here_byte text i c u e in let b = eqb→eq c 41 t in omega arith

module _ (text : List ℕ) (at n : ℕ) where
  -- the sequence that an expression begins with: all of it, or what stands before a bar
  abbrev exp_alone : (s : Comes expression text at n) → Typed s.k sequence s.part s.tree → Comes sequence text at n
  exp_alone s t = record { k = s.k; few = s.few; part = s.part; rest = s.rest; tree = s.tree; typed = t; here = s.here; stop = stop_weaker s.rest s.stop; room = s.room }

  abbrev exp_front : (s : Comes expression text at n) (u v : List ℕ) (e f : Expr) → Typed s.k sequence u e → s.part ≡ u ++ (124 ∷ v) → s.tree ≡ choice e f → Comes sequence text at n
  exp_front s u v e f t p q = record {
    k = s.k;
    few = s.few;
    part = u;
    rest = 124 ∷ (v ++ s.rest);
    tree = e;
    typed = t;
    here = s.here ∙ (ap (λ x. x ++ s.rest) p ∙ append_assoc u (124 ∷ v) s.rest);
    stop = tt;
    room = omega (arith, s.room, ap size q);
  }

  pub exp_first : Comes expression text at n → Comes sequence text at n
  exp_first s = go (exp_split s.typed)
    where
      go : Typed s.k sequence s.part s.tree
          ⊎ ((u1 v : List ℕ) × (e1 f : Expr) × Typed s.k sequence u1 e1 × Typed s.k expression v f × (s.part ≡ u1 ++ (124 ∷ v)) × (s.tree ≡ choice e1 f))
          → Comes sequence text at n
      go (inl t) = exp_alone s t
      go (inr (u, v, e, f, t, r, p, q)) = exp_front s u v e f t p q

  module _ (x : Part) (t0 t1 : List ℕ) (w : Walked sequence text at n x t0 t1) where
    pub exp_only : (s : Comes expression text at n) → (x.at < length text → get_or text x.at 0 ≡ 124 → ⊥) → Reads n s.tree (at + length s.part) x t0 t1
    exp_only s h = go (exp_split s.typed)
      where
        go : Typed s.k sequence s.part s.tree
            ⊎ ((u1 v : List ℕ) × (e1 f : Expr) × Typed s.k sequence u1 e1 × Typed s.k expression v f × (s.part ≡ u1 ++ (124 ∷ v)) × (s.tree ≡ choice e1 f))
            → Reads n s.tree (at + length s.part) x t0 t1
        go (inl t) = w (exp_alone s t)
        go (inr (u, v, e, f, t, r, p, q)) =
            let s1 = exp_front s u v e f t p q in
            let i : x.at ≡ at + length u = ap (λ p. p.at) (w s1).value in
            let d : drop x.at text ≡ 124 ∷ (v ++ s.rest) = ap (λ j. drop j text) i ∙ after_part text at u (124 ∷ (v ++ s.rest)) s1.here in
            absurd (h (here_inside text x.at 124 (v ++ s.rest) d) (here_byte text x.at 124 (v ++ s.rest) d))

    abbrev choice_more : Comes expression text at n → Type 0
    choice_more s =
        (s2 : Comes expression text (x.at + 1) x.next)
        × (at < x.at)
        × ((y z : Part) (t2 : List ℕ) → Reads x.next s2.tree (x.at + 1 + length s2.part) y t1 t2 → z ≡ choice_part_of x y → Reads n s.tree (at + length s.part) z t0 t2)

    pub exp_more : (s : Comes expression text at n) → x.at < length text → get_or text x.at 0 ≡ 124 → choice_more s
    exp_more s h g = go (exp_split s.typed)
      where
        go : Typed s.k sequence s.part s.tree
            ⊎ ((u1 v : List ℕ) × (e1 f : Expr) × Typed s.k sequence u1 e1 × Typed s.k expression v f × (s.part ≡ u1 ++ (124 ∷ v)) × (s.tree ≡ choice e1 f))
            → choice_more s
        go (inl t) =
            let i : x.at ≡ at + length s.part = ap (λ p. p.at) (w (exp_alone s t)).value in
            absurd (stop_no_bar text x.at s.rest (ap (λ j. drop j text) i ∙ after_part text at s.part s.rest s.here) s.stop h g)
        go (inr (u, v, e, f, t, r, p, q)) =
            let s1 = exp_front s u v e f t p q in
            let i : x.at ≡ at + length u = ap (λ p. p.at) (w s1).value in
            let m : x.next ≡ n + size e = ap (λ p. p.next) (w s1).value in
            let d : drop x.at text ≡ 124 ∷ (v ++ s.rest) = ap (λ j. drop j text) i ∙ after_part text at u (124 ∷ (v ++ s.rest)) s1.here in
            let long = begun_long t in
            let end : x.at + 1 + length v ≡ at + length s.part = omega (arith, ap length p, length-append u (124 ∷ v)) in
            let lt : at < x.at = omega arith in (
              record {
                k = s.k;
                few = s.few;
                part = v;
                rest = s.rest;
                tree = f;
                typed = r;
                here = here_next text x.at 124 (v ++ s.rest) d;
                stop = s.stop;
                room = omega (arith, s.room, ap size q);
              },
              lt,
              λ y z t2 b c. reads_at n z t0 t2 (sym q) end
                  (reads_choice n e f (at + length u) (x.at + 1 + length v) x y z t0 t1 t2 (w s1) (subst (λ j. Reads j f (x.at + 1 + length v) y t1 t2) m b) c),
            )

-- ---- sequence

seq_split : {k : ℕ} {u : List ℕ} {e : Expr} → Typed k sequence u e
    → Typed k factor u e ⊎ ((u1 v : List ℕ) × (e1 f : Expr) × Typed k factor u1 e1 × Typed k sequence v f × (u ≡ u1 ++ v) × (e ≡ seq e1 f))
seq_split (t_factor t) = inl t
seq_split (t_follow {u = u} {v = v} {e = e} {f = f} s t) = inr (u, v, e, f, s, t, refl, refl)

stop_weaker_2 : (rest : List ℕ) → T (stops sequence rest) → T (stops factor rest)
stop_weaker_2 [] t = tt
stop_weaker_2 (c ∷ u) t = not_eqb c 42 (λ e. ⊎_elim (λ a. let b = eqb→eq c 124 a in omega arith) (λ a. let b = eqb→eq c 41 a in omega arith) (either (eqb c 124) (eqb c 41) t))

stop_sign : (text : List ℕ) (i : ℕ) (rest : List ℕ) → drop i text ≡ rest → T (stops sequence rest) → i < length text → (get_or text i 0 ≡ 124 → ⊥) → (get_or text i 0 ≡ 41 → ⊥) → ⊥
stop_sign text i [] e t h f g = here_none text i e h
stop_sign text i (c ∷ u) e t h f g =
    ⊎_elim (λ a. f (here_byte text i c u e ∙ eqb→eq c 124 a)) (λ a. g (here_byte text i c u e ∙ eqb→eq c 41 a)) (either (eqb c 124) (eqb c 41) t)

factor_stop : (k : ℕ) → k ≤ most_letters → (u v : List ℕ) → Begun k u → T (stops factor (u ++ v))
factor_stop k h u v (c, w, p, b) = subst (λ x. T (stops factor (x ++ v))) (sym p) (not_eqb c 42 (begun_apart k c h b).1)

module _ (text : List ℕ) (at n : ℕ) where
  abbrev seq_alone : (s : Comes sequence text at n) → Typed s.k factor s.part s.tree → Comes factor text at n
  seq_alone s t = record { k = s.k; few = s.few; part = s.part; rest = s.rest; tree = s.tree; typed = t; here = s.here; stop = stop_weaker_2 s.rest s.stop; room = s.room }

  abbrev seq_front : (s : Comes sequence text at n) (u v : List ℕ) (e f : Expr) → Typed s.k factor u e → Typed s.k sequence v f → s.part ≡ u ++ v → s.tree ≡ seq e f → Comes factor text at n
  seq_front s u v e f t r p q = record {
    k = s.k;
    few = s.few;
    part = u;
    rest = v ++ s.rest;
    tree = e;
    typed = t;
    here = s.here ∙ (ap (λ x. x ++ s.rest) p ∙ append_assoc u v s.rest);
    stop = factor_stop s.k s.few v s.rest (begun r);
    room = omega (arith, s.room, ap size q);
  }

  pub seq_first : Comes sequence text at n → Comes factor text at n
  seq_first s = go (seq_split s.typed)
    where
      go : Typed s.k factor s.part s.tree
          ⊎ ((u1 v : List ℕ) × (e1 f : Expr) × Typed s.k factor u1 e1 × Typed s.k sequence v f × (s.part ≡ u1 ++ v) × (s.tree ≡ seq e1 f))
          → Comes factor text at n
      go (inl t) = seq_alone s t
      go (inr (u, v, e, f, t, r, p, q)) = seq_front s u v e f t r p q

  module _ (x : Part) (t0 t1 : List ℕ) (w : Walked factor text at n x t0 t1) where
    pub seq_only : (s : Comes sequence text at n) → (x.at < length text → (get_or text x.at 0 ≡ 124) ⊎ (get_or text x.at 0 ≡ 41)) → Reads n s.tree (at + length s.part) x t0 t1
    seq_only s h = go (seq_split s.typed)
      where
        go : Typed s.k factor s.part s.tree
            ⊎ ((u1 v : List ℕ) × (e1 f : Expr) × Typed s.k factor u1 e1 × Typed s.k sequence v f × (s.part ≡ u1 ++ v) × (s.tree ≡ seq e1 f))
            → Reads n s.tree (at + length s.part) x t0 t1
        go (inl t) = w (seq_alone s t)
        go (inr (u, v, e, f, t, r, p, q)) =
            let s1 = seq_front s u v e f t r p q in
            let b = begun r in
            let far = begun_apart s.k b.0 s.few b.3 in
            let i : x.at ≡ at + length u = ap (λ p. p.at) (w s1).value in
            let d : drop x.at text ≡ b.0 ∷ (b.1 ++ s.rest) = ap (λ j. drop j text) i ∙ (after_part text at u (v ++ s.rest) s1.here ∙ ap (λ l. l ++ s.rest) b.2) in
            let e = here_byte text x.at b.0 (b.1 ++ s.rest) d in
            absurd (⊎_elim (λ g. far.2 (sym e ∙ g)) (λ g. far.0 (sym e ∙ g)) (h (here_inside text x.at b.0 (b.1 ++ s.rest) d)))

    abbrev follow_more : Comes sequence text at n → Type 0
    follow_more s =
        (s2 : Comes sequence text x.at x.next)
        × (at < x.at)
        × ((y z : Part) (t2 t3 : List ℕ) → Reads x.next s2.tree (x.at + length s2.part) y t1 t2 → t3 ≡ linked t2 x.last y.first → z ≡ sequence_part_of x y
        → Reads n s.tree (at + length s.part) z t0 t3)

    pub seq_more : (s : Comes sequence text at n) → x.at < length text → (get_or text x.at 0 ≡ 124 → ⊥) → (get_or text x.at 0 ≡ 41 → ⊥) → follow_more s
    seq_more s h g k = go (seq_split s.typed)
      where
        go : Typed s.k factor s.part s.tree
            ⊎ ((u1 v : List ℕ) × (e1 f : Expr) × Typed s.k factor u1 e1 × Typed s.k sequence v f × (s.part ≡ u1 ++ v) × (s.tree ≡ seq e1 f))
            → follow_more s
        go (inl t) =
            let i : x.at ≡ at + length s.part = ap (λ p. p.at) (w (seq_alone s t)).value in
            absurd (stop_sign text x.at s.rest (ap (λ j. drop j text) i ∙ after_part text at s.part s.rest s.here) s.stop h g k)
        go (inr (u, v, e, f, t, r, p, q)) =
            let s1 = seq_front s u v e f t r p q in
            let i : x.at ≡ at + length u = ap (λ p. p.at) (w s1).value in
            let m : x.next ≡ n + size e = ap (λ p. p.next) (w s1).value in
            let d : drop x.at text ≡ v ++ s.rest = ap (λ j. drop j text) i ∙ after_part text at u (v ++ s.rest) s1.here in
            let long = begun_long t in
            let end : x.at + length v ≡ at + length s.part = omega (arith, ap length p, length-append u v) in
            let lt : at < x.at = omega arith in (
              record { k = s.k; few = s.few; part = v; rest = s.rest; tree = f; typed = r; here = d; stop = s.stop; room = omega (arith, s.room, ap size q) },
              lt,
              λ y z t2 t3 b l c. reads_at n z t0 t3 (sym q) end
                  (reads_seq n e f (at + length u) (x.at + length v) x y z t0 t1 t2 (w s1) (subst (λ j. Reads j f (x.at + length v) y t1 t2) m b) t3 l c),
            )

-- ---- factor

-- m stars as a text; e with m stars
abbrev row_of : ℕ → List ℕ
row_of zero = []
row_of (suc m) = 42 ∷ row_of m

abbrev starry : ℕ → Expr → Expr
starry zero e = e
starry (suc m) e = star (starry m e)

row_snoc : (m : ℕ) → row_of m ++ (42 ∷ []) ≡ row_of (suc m)
row_snoc zero = refl
row_snoc (suc m) = ap (◌∷◌ 42) (row_snoc m)

row_length : (m : ℕ) → length (row_of m) ≡ m
row_length zero = refl
row_length (suc m) = ap suc (row_length m)

row_stars : (m : ℕ) (rest : List ℕ) → T (stops factor rest) → stars (row_of m ++ rest) ≡ m
row_stars zero [] t = refl
row_stars zero (c ∷ u) t = rw (is_false (eqb c 42) t, stars)
row_stars (suc m) rest t = ap suc (row_stars m rest t)

-- a letter or a bracket
abbrev Atom : ℕ → List ℕ → Expr → Type 0
Atom k u e = ((c : ℕ) × T (letter? k c) × (u ≡ c ∷ []) × (e ≡ leaf (c - 97))) ⊎ ((v : List ℕ) × Typed k expression v e × (u ≡ 40 ∷ (v ++ (41 ∷ []))))

abbrev Starred : ℕ → List ℕ → Expr → Type 0
Starred k u e = (m : ℕ) × (v : List ℕ) × (f : Expr) × Atom k v f × (u ≡ v ++ row_of m) × (e ≡ starry m f)

fac_split : {k : ℕ} {u : List ℕ} {e : Expr} → Typed k factor u e → Starred k u e
fac_split (t_letter {c = c} t) = (0, c ∷ [], leaf (c - 97), inl (c, t, refl, refl), refl, refl)
fac_split (t_bracket {u = u} {e = e} t) = (0, 40 ∷ (u ++ (41 ∷ [])), e, inr (u, t, refl), sym (append-nil (40 ∷ (u ++ (41 ∷ [])))), refl)
fac_split (t_star {u = u} t) =
    let n = fac_split t in
    (suc n.0, n.1, n.2, n.3, ap (λ x. x ++ (42 ∷ [])) n.4 ∙ (append_assoc n.1 (row_of n.0) (42 ∷ []) ∙ ap (λ x. n.1 ++ x) (row_snoc n.0)), ap star n.5)

module _ (n : ℕ) (e : Expr) where
  size_starry : (m : ℕ) → size (starry m e) ≡ size e
  size_starry zero = refl
  size_starry (suc m) = size_starry m

  firsts_starry : (m : ℕ) → firsts (numbered n (starry m e)) ≡ firsts (numbered n e)
  firsts_starry zero = refl
  firsts_starry (suc m) = firsts_starry m

  lasts_starry : (m : ℕ) → lasts (numbered n (starry m e)) ≡ lasts (numbered n e)
  lasts_starry zero = refl
  lasts_starry (suc m) = lasts_starry m

  -- "another `*`" adds nothing
  follows_starry : (m i : ℕ) → follows (numbered n (starry (suc m) e)) i ≡ follows (numbered n (star e)) i
  follows_starry zero i = refl
  follows_starry (suc m) i =
      let F = follows (numbered n e) i in
      let X = when (bit (lasts (numbered n e)) i) (firsts (numbered n e)) in
      ap₂ bit_or (follows_starry m i) (ap₂ (λ a b. when (bit a i) b) (lasts_starry m) (firsts_starry m)) ∙ (or_assoc F X X ∙ ap (bit_or F) (or_self X))

  reads_starry : (m i at : ℕ) (x z : Part) (t0 t1 t2 : List ℕ) → Reads n e i x t0 t1 → z ≡ starred_part m at x → t2 ≡ starred_rows m x t1 → Reads n (starry m e) (at + m) z t0 t2
  reads_starry zero i at x z t0 t1 t2 r h l =
      let j : at ≡ at + 0 = omega arith in
      record { value = h ∙ (ap (starred_part 0 at) r.value ∙ ap (λ j. part_of (numbered n e) j (n + size e)) j); rows = l ∙ r.rows }
  reads_starry (suc m) i at x z t0 t1 t2 r h l =
      let L : ℕ → ℕ = λ i. when (bit (lasts (numbered n e)) i) (firsts (numbered n e)) in
      record {
        value = h ∙ (ap (starred_part (suc m) at) r.value
            ∙ (ap (λ k. part (at + suc m) (n + k) true (firsts (numbered n e)) (lasts (numbered n e))) (sym (size_starry m))
            ∙ ap₂ (λ f l. part (at + suc m) (n + size (starry m e)) true f l) (sym (firsts_starry m)) (sym (lasts_starry m))));
        rows = l ∙ (ap (λ a. linked t1 a.last a.first) r.value ∙ (ap (λ t. add_rows t L) r.rows
            ∙ (rows_twice t0 (follows (numbered n e)) L ∙ rows_same t0 (follows (numbered n (star e))) (follows (numbered n (starry (suc m) e))) (λ i. sym (follows_starry m i)))));
      }

module _ (text : List ℕ) (at n : ℕ) where
  pub fac_inside : Comes factor text at n → at < length text
  fac_inside s = let b = begun s.typed in here_inside text at b.0 (b.1 ++ s.rest) (s.here ∙ ap (λ x. x ++ s.rest) b.2)

  abbrev Bracket : Comes factor text at n → Type 0
  Bracket s =
      (s1 : Comes expression text (at + 1) n)
      × ((x : Part) (t0 t1 : List ℕ) → Reads n s1.tree (at + 1 + length s1.part) x t0 t1
      → (x.at + 1 ≤ length text)
      × ((z : Part) (t2 : List ℕ) → z ≡ starred_part (stars (drop (x.at + 1) text)) (x.at + 1) x → t2 ≡ starred_rows (stars (drop (x.at + 1) text)) x t1
      → Reads n s.tree (at + length s.part) z t0 t2))

  pub fac_bracket : (s : Comes factor text at n) → get_or text at 0 ≡ 40 → Bracket s
  fac_bracket s g = go (fac_split s.typed)
    where
      go : Starred s.k s.part s.tree → Bracket s
      go (m, u, f, inl (c, t, q, a), p, e) =
          let d : drop at text ≡ c ∷ (row_of m ++ s.rest) = s.here ∙ ap (λ x. x ++ s.rest) (p ∙ ap (λ x. x ++ row_of m) q) in
          let h = here_byte text at c (row_of m ++ s.rest) d in
          let l = leb→le 97 c (fst_of (leb 97 c) (ltb c (97 + s.k)) t) in
          absurd (omega arith)
      go (m, u, f, inr (v, t, q), p, e) =
          let R = row_of m ++ s.rest in
          let d : drop at text ≡ 40 ∷ (v ++ (41 ∷ R)) =
          s.here ∙ (ap (λ x. x ++ s.rest) (p ∙ ap (λ x. x ++ row_of m) q) ∙ ap (◌∷◌ 40) (append_assoc (v ++ (41 ∷ [])) (row_of m) s.rest ∙ append_assoc v (41 ∷ []) R)) in
          let d1 = here_next text at 40 (v ++ (41 ∷ R)) d in (
            record { k = s.k; few = s.few; part = v; rest = 41 ∷ R; tree = f; typed = t; here = d1; stop = tt; room = omega (arith, s.room, ap size e, size_starry n f m) },
            λ x t0 t1 r.
                let i : x.at ≡ at + 1 + length v = ap (λ p. p.at) r.value in
                let d2 : drop x.at text ≡ 41 ∷ R = ap (λ j. drop j text) i ∙ after_part text (at + 1) v (41 ∷ R) d1 in
                let d3 = here_next text x.at 41 R d2 in
                let h = here_inside text x.at 41 R d2 in
                let b : stars (drop (x.at + 1) text) ≡ m = ap stars d3 ∙ row_stars m s.rest s.stop in
                let le : x.at + 1 ≤ length text = omega arith in
                let end : x.at + 1 + m ≡ at + length s.part = omega (arith, ap length (p ∙ ap (λ x. x ++ row_of m) q), length-append (40 ∷ (v ++ (41 ∷ []))) (row_of m), length-append v (41 ∷ []), row_length m) in (
                  le,
                  λ z t2 y l. reads_at n z t0 t2 (sym e) end
                      (reads_starry n f m (at + 1 + length v) (x.at + 1) x z t0 t1 t2 r (y ∙ ap (λ m. starred_part m (x.at + 1) x) b) (l ∙ ap (λ m. starred_rows m x t1) b)),
                ),
          )

  abbrev Letter : Comes factor text at n → Type 0
  Letter s =
      (n < most_states)
      × ((z : Part) (t0 t1 : List ℕ) → z ≡ starred_part (stars (drop (at + 1) text)) (at + 1) (letter_part_of (at + 1) n) → t1 ≡ starred_rows (stars (drop (at + 1) text)) (letter_part_of (at + 1) n) t0
      → Reads n s.tree (at + length s.part) z t0 t1)

  pub fac_letter : (s : Comes factor text at n) → (get_or text at 0 ≡ 40 → ⊥) → Letter s
  fac_letter s g = go (fac_split s.typed)
    where
      go : Starred s.k s.part s.tree → Letter s
      go (m, u, f, inl (c, t, q, a), p, e) =
          let d : drop at text ≡ c ∷ (row_of m ++ s.rest) = s.here ∙ ap (λ x. x ++ s.rest) (p ∙ ap (λ x. x ++ row_of m) q) in
          let d1 = here_next text at c (row_of m ++ s.rest) d in
          let b : stars (drop (at + 1) text) ≡ m = ap stars d1 ∙ row_stars m s.rest s.stop in
          let lt : n < most_states = omega (arith, s.room, ap size e, size_starry n f m, ap size a) in
          let end : at + 1 + m ≡ at + length s.part = omega (arith, ap length (p ∙ ap (λ x. x ++ row_of m) q), row_length m) in (
            lt,
            λ z t0 t1 y l. reads_at n z t0 t1 (sym (e ∙ ap (starry m) a)) end
                (reads_starry n (leaf (c - 97)) m (at + 1) (at + 1) (letter_part_of (at + 1) n) z t0 t0 t1 (record { value = refl; rows = sym (rows_none t0) }) (y ∙ ap (λ m. starred_part m (at + 1) (letter_part_of (at + 1) n)) b) (l ∙ ap (λ m. starred_rows m (letter_part_of (at + 1) n) t0) b)),
          )
      go (m, u, f, inr (v, t, q), p, e) =
          let d : drop at text ≡ 40 ∷ (((v ++ (41 ∷ [])) ++ row_of m) ++ s.rest) = s.here ∙ ap (λ x. x ++ s.rest) (p ∙ ap (λ x. x ++ row_of m) q) in
          absurd (g (here_byte text at 40 (((v ++ (41 ∷ [])) ++ row_of m) ++ s.rest) d))
