-- A prefix d and those with one letter less, from which it comes: which letters can be added to d, by those that can be added to them.
use mathlib.Core.Path.{◌≡◌, refl, sym, ◌∙◌, ap, subst}
use mathlib.Core.Bool.{Bool, not}
use mathlib.Core.Logic.{⊎_elim, ◌≢◌}
use mathlib.Core.List.Memᴰ
use mathlib.Core.List.{List, [], ◌∷◌, ◌++◌}
use Prim.Native.Nat.{ℕ, suc, ◌+◌, ◌-◌, ◌≤◌, ◌<◌}
use native.Mathlib.Omega.{arith}
use lib.Dec.{T, T_not}
use lib.ListN.{get_or, length}
use Rattle.profile.specs.Lists.{Mem}
use Rattle.profile.specs.Prefixes.{IsPrefix, addable?, at, count, less, level, more, one, total}
use Rattle.profile.specs.Traces.{letters_below}
use Rattle.profile.proofs.Lists.{lt_or_le}
use Rattle.profile.proofs.Sets.{t_eq}
use Rattle.theory.proofs.Levels.{at_bump, bump, debump, level_next}
use Rattle.theory.proofs.Merge.{Cursor, extends?, hits, hits_child, hits_parent, level_at, level_grown, level_of}
use Rattle.theory.proofs.Prefixes.{addable_at, addable_of, one_cases, one_other, one_same, removable_at, removable_of, removable?}

module _ (may : ℕ → ℕ → Bool) (letter : ℕ → ℕ) where
  -- two letters that can be added can be added one after the other
  both_more : {w : List ℕ} (c : ℕ → ℕ) (a y : ℕ) → a ≢ y → IsPrefix may letter w (more c a) → IsPrefix may letter w (more c y) → IsPrefix may letter w (more (more c a) y)
  both_more c a y ne p q = record {
    fits = λ z. ⊎_elim (λ e. omega (arith, q.fits z, one_other a z (λ s. ne (s ∙ sym e)))) (λ e. omega (arith, p.fits z)) (one_cases y z);
    closed = λ u v x e f s l bad. ⊎_elim
        (λ h. omega (arith, q.closed u v x e f s (omega (arith, one_other a (letter f) (λ g. ne (g ∙ sym h)))) bad))
        (λ h. omega (arith, p.closed u v x e f s (omega arith) bad)) (one_cases y (letter f));
  }

  -- y can be added to d, and its events may pass those of a: then y can be added before the last a
  before_last : {w : List ℕ} (d : ℕ → ℕ) (a y : ℕ) → ((e f : ℕ) → letter e ≡ a → letter f ≡ y → T (may e f))
      → IsPrefix may letter w (less d a) → IsPrefix may letter w (more d y) → IsPrefix may letter w (more (less d a) y)
  before_last d a y free p q = record {
    fits = λ z. omega (arith, q.fits z);
    closed = λ u v x e f s l bad. ⊎_elim
        (λ h. omega (arith, p.closed u v x e f s h bad))
        (λ h. ⊎_elim
        (λ g. ⊎_elim (λ b. absurd (T_not (may e f) bad (free e f (sym b) (sym g))))
        (λ b. omega (arith, q.closed u v x e f s (omega arith) bad)) (one_cases a (letter e)))
        (λ g. absurd (omega arith)) (one_cases y (letter f)))
        (lt_or_le (count letter (u ++ (e ∷ v)) (letter f)) (less d a (letter f)));
  }

  module _ (distinct : (a b : ℕ) → T (may a b) → letter a ≢ letter b) {w : List ℕ} {d : ℕ → ℕ} (prefix : IsPrefix may letter w d) (a y : ℕ) (r : T (removable? may letter w d a)) where
    -- what can be added to a prefix with one letter less can be added to d, that letter aside
    pub inherited : a ≢ y → T (addable? may letter w (less d a) y) → T (addable? may letter w d y)
    inherited ne t =
        let n = removable_at may letter distinct prefix r in
        let m = addable_at may letter distinct n.0 t in
        let q = both_more (less d a) a y ne (subst (IsPrefix may letter w) (sym n.4) prefix) m.0 in
        addable_of may letter distinct d y (subst (λ c. IsPrefix may letter w (more c y)) n.4 q)

    -- what can be added to d and may pass the letter that it has more can be added to that prefix
    pub passed_before : ((e f : ℕ) → letter e ≡ a → letter f ≡ y → T (may e f)) → T (addable? may letter w d y) → T (addable? may letter w (less d a) y)
    passed_before free t =
        let n = removable_at may letter distinct prefix r in
        let m = addable_at may letter distinct prefix t in
        addable_of may letter distinct (less d a) y (before_last d a y free n.0 m.0)

-- ---- the prefixes of one total and of the next: e comes next, and the cursor of letter x is at place p x

module _ (may : ℕ → ℕ → Bool) (letter : ℕ → ℕ) (distinct : (a b : ℕ) → T (may a b) → letter a ≢ letter b) (k : ℕ) (w : List ℕ)
    (letters : T (letters_below letter k w)) (n : ℕ) (E₁ : List (List ℕ)) (e : List ℕ) (R : List (List ℕ))
    (split : level may letter k w (suc n) ≡ E₁ ++ (e ∷ R)) (x p : ℕ) (l : x < k)
    (q : Cursor (level may letter k w n) (extends? may letter w) x (e ∷ R) p) where
  abbrev C : List (List ℕ)
  C = level may letter k w n

  in_next : Mem e (level may letter k w (suc n))
  in_next = subst (Mem e) (sym split) (Memᴰ.append_right E₁ (Memᴰ.head refl))

  counted : (length e ≡ k) × IsPrefix may letter w (at e) × (total e ≡ suc n)
  counted = level_at may letter k w (suc n) e letters in_next

  hit_removable : T (hits C x e p) → T (removable? may letter w (at e) x) × (less (at e) x ≡ at (get_or C p []))
  hit_removable t =
      let c = get_or C p [] in
      let h = hits_child (level_grown may letter distinct k w letters n) E₁ e R split x p q t in
      let i = level_at may letter k w n c letters h.0 in
      removable_of may letter distinct (at e) x i.1 (ap at (sym h.2) ∙ at_bump c x (omega (arith, i.0)))

  removable_hit : T (removable? may letter w (at e) x) → T (hits C x e p)
  removable_hit t =
      let r = removable_at may letter distinct counted.1 t in
      let b = debump e x (less (at e) x) (omega (arith, counted.0)) (sym r.4) in
      let d = b.0 in
      let i : IsPrefix may letter w (at d) = subst (IsPrefix may letter w) (sym b.2) r.0 in
      let a = addable_of may letter distinct (at d) x (subst (IsPrefix may letter w) (sym (ap (λ h. more h x) b.2 ∙ r.4)) counted.1) in
      let up = level_next may letter distinct k w letters (total d) x d (level_of may letter k w (total d) d (b.1 ∙ counted.0) i refl) l a in
      let s : total d ≡ n = omega (arith, (level_at may letter k w (suc (total d)) (bump d x) letters up).2, ap total b.3, counted.2) in
      (hits_parent (level_grown may letter distinct k w letters n) E₁ e R split x p q d (level_of may letter k w n d (b.1 ∙ counted.0) i s) a b.3).0

  -- the cursors that hit e are those of the letters of which e can have one less, each at that prefix
  pub hits_removable : hits C x e p ≡ removable? may letter w (at e) x
  hits_removable = t_eq (hits C x e p) (removable? may letter w (at e) x) (λ t. (hit_removable t).0) removable_hit

  pub hits_less : T (hits C x e p) → less (at e) x ≡ at (get_or C p [])
  hits_less t = (hit_removable t).1
