-- What hidden letters reach: Warshall's sets are the states to which lists of hidden letters lead.
use mathlib.Core.Path.{◌≡◌, refl, sym, ◌∙◌, ap, subst}
use mathlib.Core.Bool.{true, not}
use mathlib.Core.Logic.{◌⊎◌, inl, inr, ⊎_elim, ◌↔◌}
use mathlib.Core.List.{List, [], ◌∷◌, ◌++◌, nil≢cons}
use Prim.Native.Nat.{ℕ, zero, suc, ◌^◌, ◌≤◌, ◌<◌}
use native.Mathlib.Omega.{arith}
use lib.Bits.{bit_or}
use lib.Dec.{T, T_not, ltb, ltb→lt, lt→ltb}
use Rattle.profile.specs.Lists.{below, filter}
use Rattle.profile.specs.Traces.{bit, letters_below}
use Rattle.profile.specs.Automata.{PathOf, Profile, automaton, goes, row, stop, union}
use Rattle.profile.proofs.Lists.{all_append, below_at, below_of, both, either, filter_append, filter_at, filter_no, filter_of, filter_yes, fst_of, is_false, is_true, lt_or_le, or_left, or_right, snd_of, test}
use Rattle.profile.proofs.Sets.{bit_of_or, bit_self, bit_single, union_at, union_of}
use Rattle.theory.proofs.Automata.{leads_append}
use Rattle.theory.proofs.Profiles.{lawful}
use Rattle.views.specs.Views.{Hiding, hidden, hull, reach, reaches, seen, unseen}

-- ---- paths over states below n

pub data Via (next : ℕ → ℕ) (n : ℕ) : ℕ → ℕ → Type 0 where
  straight : {q r : ℕ} → T (bit (next q) r) → Via next n q r
  over : {q m r : ℕ} → T (bit (next q) m) → m < n → Via next n m r → Via next n q r

module _ (next : ℕ → ℕ) where
  via_more : {n q r : ℕ} → Via next n q r → Via next (suc n) q r
  via_more (straight h) = straight h
  via_more (over {m = m} h l v) = over h (wider l) (via_more v)
    where
      wider : {a b : ℕ} → a < b → a < suc b
      wider l = omega arith

  via_through : {n q k r : ℕ} → Via next n q k → k ≡ n → Via next n n r → Via next (suc n) q r
  via_through {n} (straight {q = q} h) e v = over (subst (λ z. T (bit (next q) z)) e h) (self n) (via_more v)
    where
      self : (n : ℕ) → n < suc n
      self n = omega arith
  via_through (over h l u) e v = over h (wider l) (via_through u e v)
    where
      wider : {a b : ℕ} → a < b → a < suc b
      wider l = omega arith

  -- a path over n, or not
  via_split : {n q r : ℕ} → Via next (suc n) q r → Via next n q r ⊎ (Via next n q n × Via next n n r)
  via_split (straight h) = inl (straight h)
  via_split {n} {r = r} (over {q = q} {m = m} h l v) = go (lt_or_le m n) (via_split v)
    where
      go : (m < n) ⊎ (n ≤ m) → Via next n m r ⊎ (Via next n m n × Via next n n r) → Via next n q r ⊎ (Via next n q n × Via next n n r)
      go (inl k) (inl u) = inl (over h k u)
      go (inl k) (inr z) = inr (over h k z.0, z.1)
      go (inr k) (inl u) = let e : m ≡ n = omega arith in inr (straight (subst (λ z. T (bit (next q) z)) e h), subst (λ z. Via next n z r) e u)
      go (inr k) (inr z) = let e : m ≡ n = omega arith in inr (straight (subst (λ z. T (bit (next q) z)) e h), z.1)

  pub reaches_yes : (n q : ℕ) → T (bit (reaches next n q) n) → reaches next (suc n) q ≡ bit_or (reaches next n q) (reaches next n n)
  reaches_yes n q h = rw (is_true (bit (reaches next n q) n) h, reaches)

  pub reaches_no : (n q : ℕ) → T (not (bit (reaches next n q) n)) → reaches next (suc n) q ≡ reaches next n q
  reaches_no n q h = rw (is_false (bit (reaches next n q) n) h, reaches)

  reaches_of : (n q r : ℕ) → Via next n q r → T (bit (reaches next n q) r)
  reaches_of zero q r (straight h) = h
  reaches_of zero q r (over h l v) = absurd (omega arith)
  reaches_of (suc n) q r v = go (test (bit (reaches next n q) n)) (via_split v) (reaches_of n)
    where
      go : T (bit (reaches next n q) n) ⊎ T (not (bit (reaches next n q) n)) → Via next n q r ⊎ (Via next n q n × Via next n n r)
          → ((a b : ℕ) → Via next n a b → T (bit (reaches next n a) b)) → T (bit (reaches next (suc n) q) r)
      go (inl t) (inl u) ih = rw (reaches_yes n q t, bit_of_or (reaches next n q) (reaches next n n) r) (or_left (bit (reaches next n q) r) (bit (reaches next n n) r) (ih q r u))
      go (inl t) (inr z) ih = rw (reaches_yes n q t, bit_of_or (reaches next n q) (reaches next n n) r) (or_right (bit (reaches next n q) r) (bit (reaches next n n) r) (ih n r z.1))
      go (inr t) (inl u) ih = rw (reaches_no n q t) (ih q r u)
      go (inr t) (inr z) ih = absurd (T_not (bit (reaches next n q) n) t (ih q n z.0))

  reaches_at : (n q r : ℕ) → T (bit (reaches next n q) r) → Via next n q r
  reaches_at zero q r h = straight h
  reaches_at (suc n) q r h = go (test (bit (reaches next n q) n)) (reaches_at n)
    where
      go : T (bit (reaches next n q) n) ⊎ T (not (bit (reaches next n q) n)) → ((a b : ℕ) → T (bit (reaches next n a) b) → Via next n a b) → Via next (suc n) q r
      go (inl t) ih = ⊎_elim (λ k. via_more (ih q r k)) (λ k. via_through (ih q n t) refl (ih n r k))
          (either (bit (reaches next n q) r) (bit (reaches next n n) r) (rw (bit_of_or (reaches next n q) (reaches next n n) r) at (rw (reaches_yes n q t) at h)))
      go (inr t) ih = via_more (ih q r (rw (reaches_no n q t) at h))

-- ---- hidden letters

module _ (p : Profile) (visible : ℕ) where
  -- one letter that is hidden
  unseen_at : (q r : ℕ) → T (bit (unseen p visible q) r) → (q ≡ r) ⊎ ((x : ℕ) × (x < p.k) × T (not (bit visible x)) × T (bit (row p.k p.moves q x) r))
  unseen_at q r h = ⊎_elim (λ t. inl (bit_single q r t))
      (λ t.
      let n = union_at (row p.k p.moves q) (hidden p.k visible) r t in
      let m = filter_at (λ x. not (bit visible x)) (below p.k) n.1 in
      inr (n.0, below_at p.k n.0 m.0, m.1, n.2))
      (either (bit (2 ^ q) r) (bit (union (row p.k p.moves q) (hidden p.k visible)) r) (rw (bit_of_or (2 ^ q) (union (row p.k p.moves q) (hidden p.k visible)) r) at h))

  unseen_self : (q : ℕ) → T (bit (unseen p visible q) q)
  unseen_self q = rw (bit_of_or (2 ^ q) (union (row p.k p.moves q) (hidden p.k visible)) q)
      (or_left (bit (2 ^ q) q) (bit (union (row p.k p.moves q) (hidden p.k visible)) q) (bit_self q))

  unseen_of : (q x r : ℕ) → x < p.k → T (not (bit visible x)) → T (bit (row p.k p.moves q x) r) → T (bit (unseen p visible q) r)
  unseen_of q x r lt h t = rw (bit_of_or (2 ^ q) (union (row p.k p.moves q) (hidden p.k visible)) r)
      (or_right (bit (2 ^ q) r) (bit (union (row p.k p.moves q) (hidden p.k visible)) r)
      (union_of (row p.k p.moves q) r (filter_of (λ x. not (bit visible x)) (below_of p.k x lt) h) t))

  -- a list of which nothing is visible begins with a hidden letter
  hides_first : (a : ℕ) (l : List ℕ) → seen visible (a ∷ l) ≡ [] → T (not (bit visible a)) × (seen visible l ≡ [])
  hides_first a l e = ⊎_elim (λ t. absurd (nil≢cons (sym e ∙ filter_yes (bit visible) a l t))) (λ t. (t, sym (filter_no (bit visible) a l t) ∙ e)) (test (bit visible a))

  pub hiding_none : (q : ℕ) → Hiding p visible q q
  hiding_none q = record { list = []; letters = tt; hides = refl; leads = stop }

  pub hiding_append : {q m r : ℕ} → Hiding p visible q m → Hiding p visible m r → Hiding p visible q r
  hiding_append a b = record {
    list = a.list ++ b.list;
    letters = all_append (λ x. ltb x p.k) a.list b.list a.letters b.letters;
    hides = filter_append (bit visible) a.list b.list ∙ ap (λ l. l ++ seen visible b.list) a.hides ∙ b.hides;
    leads = leads_append (automaton p) (lawful p) (λ a. a) a.leads b.leads;
  }

  hiding_step : {q r : ℕ} → q < p.s → T (bit (unseen p visible q) r) → Hiding p visible q r
  hiding_step {q} {r} lt h = ⊎_elim (λ e. subst (Hiding p visible q) e (hiding_none q))
      (λ n. record {
        list = n.0 ∷ [];
        letters = both (ltb n.0 p.k) true (lt→ltb n.0 p.k n.1) tt;
        hides = filter_no (bit visible) n.0 [] n.2;
        leads = goes (both (ltb q p.s) (bit (row p.k p.moves q n.0) r) (lt→ltb q p.s lt) n.3) stop;
      })
      (unseen_at q r h)

  hiding_of_via : {q r : ℕ} → q < p.s → Via (unseen p visible) p.s q r → Hiding p visible q r
  hiding_of_via lt (straight h) = hiding_step lt h
  hiding_of_via lt (over h l v) = hiding_append (hiding_step lt h) (hiding_of_via l v)

  move_from : (q x r : ℕ) → T ((automaton p).move q x r) → q < p.s
  move_from q x r m = ltb→lt q p.s (fst_of (ltb q p.s) (bit (row p.k p.moves q x) r) m)

  via_of_path : (l : List ℕ) {q r : ℕ} → T (letters_below (λ a. a) p.k l) → seen visible l ≡ [] → PathOf (automaton p) (λ a. a) q l r → Via (unseen p visible) p.s q r
  via_of_path [] {q} k e stop = straight (unseen_self q)
  via_of_path (a ∷ []) k e (goes {q = q} {r = m} t stop) =
      straight (unseen_of q a m (ltb→lt a p.k (fst_of (ltb a p.k) true k)) (hides_first a [] e).0 (snd_of (ltb q p.s) (bit (row p.k p.moves q a) m) t))
  via_of_path (a ∷ b ∷ l) k e (goes {q = q} {r = m} t (goes {r = n} u v)) =
      let h = hides_first a (b ∷ l) e in
      over (unseen_of q a m (ltb→lt a p.k (fst_of (ltb a p.k) (letters_below (λ a. a) p.k (b ∷ l)) k)) h.0 (snd_of (ltb q p.s) (bit (row p.k p.moves q a) m) t))
      (move_from m b n u) (via_of_path (b ∷ l) (snd_of (ltb a p.k) (letters_below (λ a. a) p.k (b ∷ l)) k) h.1 (goes u v))

  -- Warshall's sets are what hidden letters reach
  pub reach_exactly : (q r : ℕ) → q < p.s → T (bit (reach p visible q) r) ↔ Hiding p visible q r
  unfolding reach
  reach_exactly q r lt = (
    λ t. hiding_of_via lt (reaches_at (unseen p visible) p.s q r t),
    λ h. reaches_of (unseen p visible) p.s q r (via_of_path h.list h.letters h.hides h.leads),
  )

  pub hull_of : (S : ℕ) {q r : ℕ} → q < p.s → T (bit S q) → Hiding p visible q r → T (bit (hull p visible S) r)
  hull_of S {q} {r} lt t h = union_of (reach p visible) r (filter_of (bit S) (below_of p.s q lt) t) ((reach_exactly q r lt).1 h)

  pub hull_at : (S r : ℕ) → T (bit (hull p visible S) r) → (q : ℕ) × (q < p.s) × T (bit S q) × Hiding p visible q r
  hull_at S r t =
      let n = union_at (reach p visible) (filter (bit S) (below p.s)) r t in
      let m = filter_at (bit S) (below p.s) n.1 in
      let lt = below_at p.s n.0 m.0 in
      (n.0, lt, m.1, (reach_exactly n.0 r lt).0 n.2)
