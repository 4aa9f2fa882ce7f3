-- Two logs reachable from each other: by the pairs that may be exchanged both ways, and by comparing what is left of each pair of letters that may not.
-- Events are letters here.
use mathlib.Core.Path.{◌≡◌, refl, sym, ◌∙◌, ap, subst}
use mathlib.Core.Bool.{Bool, not, ◌||◌, or-false, or_self}
use mathlib.Core.Logic.{◌⊎◌, inl, inr, ⊎_elim, ◌↔◌}
use mathlib.Core.List.Memᴰ
use mathlib.Core.List.{List, [], ◌∷◌, ◌++◌, nil≢cons, head-eq_of_cons-eq, tail-eq_of_cons-eq}
use Prim.Native.Nat.{ℕ, ◌≤◌, ◌<◌}
use native.Mathlib.Omega.{arith}
use lib.Dec.{T, T_not, not_T, eqb, ltb, eqb→eq, eqb_refl, ltb→lt}
use Rattle.profile.specs.Lists.{Mem, all, below, equal?, filter}
use Rattle.profile.specs.Orders.{Same, mutual?, project, same?}
use Rattle.profile.specs.Traces.{Reachable, Symmetric, exchange, insertions, itself, letters_below}
use Rattle.profile.proofs.Lists.{all_at, all_of, below_of, both, either, equal_test, filter_agree, filter_append, filter_no, filter_none, filter_yes, fst_of, is_false, lt_or_le, or_left, or_right, snd_of, test}
use Rattle.profile.proofs.Traces.{Order, Pick, done, first, insert_cases, inserts_of, later, next, order_of_reach, reach_cons, reach_of_pick, reach_sym, reach_trans}

-- R is symmetric and relates no letter to itself
module _ (R : ℕ → ℕ → Bool) (sy : Symmetric R) (ir : (a : ℕ) → T (R a a) → ⊥) where
  in? : ℕ → ℕ → ℕ → Bool
  in? x y e = eqb e x || eqb e y

  in_left : (x y : ℕ) → T (in? x y x)
  unfolding in?
  in_left x y = or_left (eqb x x) (eqb x y) (eqb_refl x)

  in_right : (x y : ℕ) → T (in? x y y)
  unfolding in?
  in_right x y = or_right (eqb y x) (eqb y y) (eqb_refl y)

  in_cases : (x y e : ℕ) → T (in? x y e) → (e ≡ x) ⊎ (e ≡ y)
  unfolding in?
  in_cases x y e t = ⊎_elim (λ h. inl (eqb→eq e x h)) (λ h. inr (eqb→eq e y h)) (either (eqb e x) (eqb e y) t)

  -- two letters that are related are not both kept
  not_both : (x y a b : ℕ) → T (not (R x y)) → T (R a b) → T (in? x y a) → T (in? x y b) → ⊥
  not_both x y a b n r p q = go (in_cases x y a p) (in_cases x y b q)
    where
      go : (a ≡ x) ⊎ (a ≡ y) → (b ≡ x) ⊎ (b ≡ y) → ⊥
      go (inl i) (inl j) = ir b (subst (λ z. T (R z b)) (i ∙ sym j) r)
      go (inr i) (inr j) = ir b (subst (λ z. T (R z b)) (i ∙ sym j) r)
      go (inl i) (inr j) = T_not (R x y) n (subst (λ z. T (R x z)) j (subst (λ z. T (R z b)) i r))
      go (inr i) (inl j) = T_not (R x y) n (sy y x (subst (λ z. T (R y z)) j (subst (λ z. T (R z b)) i r)))

  -- an exchange changes no projection
  project_swap : (x y a b : ℕ) (v : List ℕ) → T (not (R x y)) → T (R a b) → filter (in? x y) (a ∷ b ∷ v) ≡ filter (in? x y) (b ∷ a ∷ v)
  project_swap x y a b v n r = go (test (in? x y a)) (test (in? x y b))
    where
      p : ℕ → Bool
      p = in? x y

      go : T (p a) ⊎ T (not (p a)) → T (p b) ⊎ T (not (p b)) → filter p (a ∷ b ∷ v) ≡ filter p (b ∷ a ∷ v)
      go (inl s) (inl t) = absurd (not_both x y a b n r s t)
      go (inl s) (inr t) = filter_yes p a (b ∷ v) s ∙ ap (◌∷◌ a) (filter_no p b v t) ∙ sym (filter_no p b (a ∷ v) t ∙ filter_yes p a v s)
      go (inr s) (inl t) = filter_no p a (b ∷ v) s ∙ filter_yes p b v t ∙ sym (filter_yes p b (a ∷ v) t ∙ ap (◌∷◌ b) (filter_no p a v s))
      go (inr s) (inr t) = filter_no p a (b ∷ v) s ∙ filter_no p b v t ∙ sym (filter_no p b (a ∷ v) t ∙ filter_no p a v s)

  pub project_reach : {w v : List ℕ} → Reachable R w v → (x y : ℕ) → T (not (R x y)) → project x y w ≡ project x y v
  unfolding in?
  project_reach itself x y n = refl
  project_reach (exchange u a b v ok q) x y n =
      project_reach q x y n ∙ filter_append (in? x y) u (a ∷ b ∷ v) ∙ ap (λ l. filter (in? x y) u ++ l) (project_swap x y a b v n ok)
      ∙ sym (filter_append (in? x y) u (b ∷ a ∷ v))

  -- if every projection with a begins with a, then a may come first
  head_pick : (a : ℕ) (v : List ℕ) → ((b : ℕ) → T (not (R b a)) → (t : List ℕ) × (filter (in? a b) v ≡ a ∷ t)) → (r : List ℕ) × Pick R v a r
  head_pick a [] h = absurd (nil≢cons (h a (not_T (R a a) (ir a))).1)
  head_pick a (b ∷ v) h = go (test (eqb b a)) (test (R b a)) (head_pick a v)
    where
      go : T (eqb b a) ⊎ T (not (eqb b a)) → T (R b a) ⊎ T (not (R b a)) → (((c : ℕ) → T (not (R c a)) → (t : List ℕ) × (filter (in? a c) v ≡ a ∷ t)) → (r : List ℕ) × Pick R v a r)
          → (r : List ℕ) × Pick R (b ∷ v) a r
      go (inl e) k ih = (v, subst (λ z. Pick R (b ∷ v) z v) (eqb→eq b a e) first)
      go (inr e) (inl k) ih =
          let n = ih (λ c m. let g = h c m in (
            g.0,
            sym (filter_no (in? a c) b v (not_T (in? a c b) (λ t. ⊎_elim
                (λ i. T_not (eqb b a) e (subst (λ z. T (eqb b z)) i (eqb_refl b)))
                (λ i. T_not (R c a) m (subst (λ z. T (R z a)) i k)) (in_cases a c b t)))) ∙ g.1,
          )) in
          (b ∷ n.0, later k n.1)
      go (inr e) (inr k) ih =
          let g = h b k in
          absurd (T_not (eqb b a) e (subst (λ z. T (eqb b z)) (head-eq_of_cons-eq (sym (filter_yes (in? a b) b v (in_right a b)) ∙ g.1)) (eqb_refl b)))

  -- equal projections: reachable
  pub reach_project : (w v : List ℕ) → ((x y : ℕ) → T (not (R x y)) → project x y w ≡ project x y v) → Reachable R w v
  unfolding in?
  reach_project [] [] h = itself
  reach_project [] (b ∷ v) h = absurd (nil≢cons (h b b (not_T (R b b) (ir b)) ∙ filter_yes (in? b b) b v (in_left b b)))
  reach_project (a ∷ w) v h =
      let n = head_pick a v (λ b m. (filter (in? a b) w, sym (h a b (not_T (R a b) (λ t. T_not (R b a) m (sy a b t)))) ∙ filter_yes (in? a b) a w (in_left a b))) in
      let q = reach_of_pick R n.1 in
      reach_trans R (reach_cons R a (reach_project w n.0 (λ x y m. cancel a w n.0 (in? x y) (h x y m ∙ project_reach q x y m)))) (reach_sym R sy q)
    where
      cancel : (a : ℕ) (w r : List ℕ) (p : ℕ → Bool) → filter p (a ∷ w) ≡ filter p (a ∷ r) → filter p w ≡ filter p r
      cancel a w r p e = ⊎_elim
          (λ t. tail-eq_of_cons-eq (sym (filter_yes p a w t) ∙ e ∙ filter_yes p a r t))
          (λ t. sym (filter_no p a w t) ∙ e ∙ filter_no p a r t) (test (p a))

-- ---- reachable each way

module _ (may : ℕ → ℕ → Bool) (ir : (a : ℕ) → T (may a a) → ⊥) where
  -- b was put in behind events that may pass it
  inserted : (b : ℕ) (u : List ℕ) {w : List ℕ} → Mem w (insertions may b u) → Pick (λ a c. may c a) w b u
  inserted b [] m = subst (λ z. Pick (λ a c. may c a) z b []) (sym (Memᴰ.eq_of_singleton m)) first
  inserted b (c ∷ u) {w} m = go (insert_cases may b c u m) (λ x k. inserted b u k)
    where
      go : (w ≡ b ∷ c ∷ u) ⊎ ((x : List ℕ) × T (may b c) × Mem x (insertions may b u) × (c ∷ x ≡ w)) → ((x : List ℕ) → Mem x (insertions may b u) → Pick (λ a c. may c a) x b u)
          → Pick (λ a c. may c a) w b (c ∷ u)
      go (inl e) ih = subst (λ z. Pick (λ a c. may c a) z b (c ∷ u)) (sym e) first
      go (inr n) ih = subst (λ z. Pick (λ a c. may c a) z b (c ∷ u)) n.3 (later n.1 (ih n.0 n.2))

  pick_equal : {w r u : List ℕ} {a b : ℕ} → Pick may w a r → Pick (λ a c. may c a) w b u → a ≡ b → (r ≡ u) × Pick (mutual? may) w a r
  pick_equal first first e = (refl, first)
  pick_equal first (later {a = b} ok q) e = absurd (ir b (subst (λ x. T (may b x)) e ok))
  pick_equal (later {b = c} ok p) first e = absurd (ir c (subst (λ x. T (may c x)) e ok))
  pick_equal (later {a = a} {b = c} ok p) (later k q) e =
      let n = pick_equal p q e in
      (ap (◌∷◌ c) n.0, later (both (may c a) (may a c) ok (subst (λ x. T (may x c)) (sym e) k)) n.1)

  pick_both : {w r u : List ℕ} {b : ℕ} → Pick may w b r → Pick (λ a c. may c a) w b u → (r ≡ u) × Pick (mutual? may) w b r
  pick_both p q = pick_equal p q refl

  pub reach_mutual : (v : List ℕ) {w : List ℕ} → Order may w v → Order may v w → Reachable (mutual? may) w v
  reach_mutual [] done o = itself
  reach_mutual (b ∷ v) (next p t) o =
      let m = inserts_of may o in
      let n = pick_both p (inserted b m.0 m.2) in
      reach_trans (mutual? may) (reach_of_pick (mutual? may) n.1)
      (reach_cons (mutual? may) b (reach_mutual v t (subst (Order may v) (sym n.0) m.1)))

  mutual_sym : (a b : ℕ) → T (mutual? may a b) → T (mutual? may b a)
  mutual_sym a b t = both (may b a) (may a b) (snd_of (may a b) (may b a) t) (fst_of (may a b) (may b a) t)

  -- each is reachable from the other exactly when all projections to pairs that are not exchanged both ways agree
  pub same_project : (w v : List ℕ) → (Reachable may w v × Reachable may v w) ↔ ((x y : ℕ) → T (not (mutual? may x y)) → project x y w ≡ project x y v)
  same_project w v = (
    λ r. project_reach (mutual? may) mutual_sym own (reach_mutual v (order_of_reach may r.0) (order_of_reach may r.1)),
    λ h.
        let r = reach_project (mutual? may) mutual_sym own w v h in
        (down r, down (reach_sym (mutual? may) mutual_sym r)),
  )
    where
      own : (a : ℕ) → T (mutual? may a a) → ⊥
      own a t = ir a (fst_of (may a a) (may a a) t)

      down : {w v : List ℕ} → Reachable (mutual? may) w v → Reachable may w v
      down itself = itself
      down (exchange u a b v ok q) = exchange u a b v (fst_of (may a b) (may b a) ok) (down q)

-- ---- the test

-- for logs of letters below k, the pairs of letters below k are enough
module _ (may : ℕ → ℕ → Bool) (ir : (a : ℕ) → T (may a a) → ⊥) (k : ℕ) (v w : List ℕ) where
  pub same_test : T (letters_below (λ a. a) k v) → T (letters_below (λ a. a) k w) → T (same? may k v w) ↔ Same may v w
  same_test h g = (
    λ t. (same_project may ir v w).1 (λ x y n. pair t x y n (lt_or_le x k) (lt_or_le y k)),
    λ s. all_of (λ x. all (agree? x) (below k)) (below k)
        (λ x p. all_of (agree? x) (below k) (λ y q. ⊎_elim (or_left (mutual? may x y) (equal? (project x y v) (project x y w)))
        (λ n. or_right (mutual? may x y) (equal? (project x y v) (project x y w)) ((equal_test (project x y v) (project x y w)).1 ((same_project may ir v w).0 s x y n)))
        (test (mutual? may x y)))),
  )
    where
      agree? : ℕ → ℕ → Bool
      agree? x y = mutual? may x y || equal? (project x y v) (project x y w)

      -- no letter from k on stands in the log
      other : (u : List ℕ) → T (letters_below (λ a. a) k u) → (y : ℕ) → k ≤ y → (a : ℕ) → Mem a u → T (eqb a y) → ⊥
      other u l y o a m t = omega (arith, ltb→lt a k (all_at (λ b. ltb b k) l m), eqb→eq a y t)

      low : T (same? may k v w) → (x y : ℕ) → T (not (mutual? may x y)) → x < k → y < k → project x y v ≡ project x y w
      low t x y n p q = (equal_test (project x y v) (project x y w)).0 (⊎_elim (λ m. absurd (T_not (mutual? may x y) n m)) (λ e. e)
          (either (mutual? may x y) (equal? (project x y v) (project x y w))
          (all_at (agree? x) (all_at (λ x. all (agree? x) (below k)) t (below_of k x p)) (below_of k y q))))

      -- no letter is exchanged with itself
      alone : (x : ℕ) → T (not (mutual? may x x))
      alone x = not_T (mutual? may x x) (λ m. ir x (fst_of (may x x) (may x x) m))

      -- a letter from k on leaves what is kept of the other letter alone
      left : (u : List ℕ) → T (letters_below (λ a. a) k u) → (x y : ℕ) → k ≤ y → project x y u ≡ project x x u
      left u l x y o = filter_agree (λ a. eqb a x || eqb a y) (λ a. eqb a x || eqb a x) u
          (λ a m. ap (◌||◌ (eqb a x)) (is_false (eqb a y) (not_T (eqb a y) (other u l y o a m))) ∙ or-false (eqb a x) ∙ sym (or_self (eqb a x)))

      right : (u : List ℕ) → T (letters_below (λ a. a) k u) → (x y : ℕ) → k ≤ x → project x y u ≡ project y y u
      right u l x y o = filter_agree (λ a. eqb a x || eqb a y) (λ a. eqb a y || eqb a y) u
          (λ a m. ap (λ b. b || eqb a y) (is_false (eqb a x) (not_T (eqb a x) (other u l x o a m))) ∙ sym (or_self (eqb a y)))

      high : (u : List ℕ) → T (letters_below (λ a. a) k u) → (x y : ℕ) → k ≤ x → k ≤ y → project x y u ≡ []
      high u l x y p q = filter_none (λ a. eqb a x || eqb a y) u (λ a m t. ⊎_elim (other u l x p a m) (other u l y q a m) (either (eqb a x) (eqb a y) t))

      pair : T (same? may k v w) → (x y : ℕ) → T (not (mutual? may x y)) → (x < k) ⊎ (k ≤ x) → (y < k) ⊎ (k ≤ y) → project x y v ≡ project x y w
      pair t x y n (inl p) (inl q) = low t x y n p q
      pair t x y n (inl p) (inr q) = left v h x y q ∙ low t x x (alone x) p p ∙ sym (left w g x y q)
      pair t x y n (inr p) (inl q) = right v h x y p ∙ low t y y (alone y) q q ∙ sym (right w g x y p)
      pair t x y n (inr p) (inr q) = high v h x y p q ∙ sym (high w g x y p q)
