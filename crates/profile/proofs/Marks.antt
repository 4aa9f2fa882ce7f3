-- The marking rule of prefixes and its test say the same.
use mathlib.Core.Path.{◌≡◌, refl, sym, ap, subst}
use mathlib.Core.Bool.{Bool, true, false, ◌&&◌, cond}
use mathlib.Core.Logic.{◌⊎◌, inl, inr, ⊎_elim, ◌↔◌, ◌≢◌}
use mathlib.Core.List.Memᴰ
use mathlib.Core.List.{List, [], ◌∷◌, ◌++◌, nil≢cons, head-eq_of_cons-eq, tail-eq_of_cons-eq}
use Prim.Native.Nat.{ℕ, zero, suc, ◌≤◌, ◌<◌}
use native.Mathlib.Omega.{arith}
use lib.Dec.{T, T_not, eqb, eqb→eq, eqb_refl}
use Rattle.profile.specs.Lists.{Mem, all}
use Rattle.profile.specs.Prefixes.{Closed, IsPrefix, closed?, count, less, marked, one}
use Rattle.profile.proofs.Lists.{all_at, all_of, both, fst_of, is_true, snd_of, test}

-- ---- counts

pub one_same : (x : ℕ) → one x x ≡ 1
one_same x = rw (is_true (eqb x x) (eqb_refl x))

pub one_other : (x y : ℕ) → x ≢ y → one x y ≡ 0
one_other x y h = go (eqb x y) refl
  where
    go : (b : Bool) → eqb x y ≡ b → one x y ≡ 0
    go true e = absurd (h (eqb→eq x y (rw e tt)))
    go false e = rw e

pub one_cases : (x y : ℕ) → (x ≡ y) ⊎ (one x y ≡ 0)
one_cases x y = go (eqb x y) refl
  where
    go : (b : Bool) → eqb x y ≡ b → (x ≡ y) ⊎ (one x y ≡ 0)
    go true e = inl (eqb→eq x y (rw e tt))
    go false e = inr (rw e)

pub one_le_one : (x y : ℕ) → one x y ≤ 1
one_le_one x y = go (eqb x y)
  where
    go : (b : Bool) → cond b 1 0 ≤ 1
    go true = omega arith
    go false = omega arith

pub one_le : (c : ℕ → ℕ) (x y : ℕ) {n : ℕ} → c x ≡ suc n → one x y ≤ c y
one_le c x y e = go (eqb x y) refl
  where
    go : (b : Bool) → eqb x y ≡ b → one x y ≤ c y
    go true q = rw q (omega (arith, ap c (eqb→eq x y (rw q tt))))
    go false q = rw q (omega arith)

module _ (may : ℕ → ℕ → Bool) (letter : ℕ → ℕ) where
  pub marked_zero : (a : ℕ) (w : List ℕ) (c : ℕ → ℕ) → c (letter a) ≡ 0 → marked letter (a ∷ w) c ≡ marked letter w c
  marked_zero a w c e = rw (e, marked)

  pub marked_suc : (a : ℕ) (w : List ℕ) (c : ℕ → ℕ) {n : ℕ} → c (letter a) ≡ suc n → marked letter (a ∷ w) c ≡ a ∷ marked letter w (less c (letter a))
  marked_suc a w c e = rw (e, marked)

  -- the marked events, by their places
  pub mem_marked : (w : List ℕ) (c : ℕ → ℕ) {b : ℕ} → Mem b (marked letter w c) → (v x : List ℕ) × (w ≡ v ++ (b ∷ x)) × (count letter v (letter b) < c (letter b))
  mem_marked (a ∷ w) c {b} m = go (c (letter a)) refl m (λ d m'. mem_marked w d m')
    where
      go : (n : ℕ) → c (letter a) ≡ n → Mem b (marked letter (a ∷ w) c)
          → ((d : ℕ → ℕ) → Mem b (marked letter w d) → (v x : List ℕ) × (w ≡ v ++ (b ∷ x)) × (count letter v (letter b) < d (letter b)))
          → (v x : List ℕ) × (a ∷ w ≡ v ++ (b ∷ x)) × (count letter v (letter b) < c (letter b))
      go zero e m ih =
          let n = ih c (rw (marked_zero a w c e) at m) in
          (a ∷ n.0, n.1, ap (◌∷◌ a) n.2, ⊎_elim (λ q. omega (arith, n.3, ap c q)) (λ z. omega (arith, n.3)) (one_cases (letter a) (letter b)))
      go (suc k) e m ih = ⊎_elim
          (λ q. ([], w, ap (λ z. z ∷ w) (sym q), omega (arith, ap (λ z. c (letter z)) q)))
          (λ m'. let n = ih (less c (letter a)) m' in (a ∷ n.0, n.1, ap (◌∷◌ a) n.2, omega (arith, n.3)))
          (Memᴰ.cases_cons (rw (marked_suc a w c e) at m))
  mem_marked [] c {b = b} m = elim m [ ]

  marked_mem : (v : List ℕ) (c : ℕ → ℕ) (b : ℕ) (x : List ℕ) → count letter v (letter b) < c (letter b) → Mem b (marked letter (v ++ (b ∷ x)) c)
  marked_mem [] c b x h = go (c (letter b)) refl
    where
      go : (n : ℕ) → c (letter b) ≡ n → Mem b (marked letter (b ∷ x) c)
      go zero e = absurd (omega arith)
      go (suc n) e = rw (marked_suc b x c e) (Memᴰ.head refl)
  marked_mem (a ∷ v) c b x h = go (c (letter a)) refl (λ d k. marked_mem v d b x k)
    where
      go : (n : ℕ) → c (letter a) ≡ n → ((d : ℕ → ℕ) → count letter v (letter b) < d (letter b) → Mem b (marked letter (v ++ (b ∷ x)) d))
          → Mem b (marked letter (a ∷ (v ++ (b ∷ x))) c)
      go zero e ih = rw (marked_zero a (v ++ (b ∷ x)) c e) (ih c (omega arith))
      go (suc n) e ih = rw (marked_suc a (v ++ (b ∷ x)) c e) (Memᴰ.tail (ih (less c (letter a)) (omega arith)))

  pub closed_zero : (a : ℕ) (w : List ℕ) (c : ℕ → ℕ) → c (letter a) ≡ 0 → closed? may letter (a ∷ w) c ≡ (all (may a) (marked letter w c) && closed? may letter w c)
  closed_zero a w c e = rw (e, closed?)

  pub closed_suc : (a : ℕ) (w : List ℕ) (c : ℕ → ℕ) {n : ℕ} → c (letter a) ≡ suc n → closed? may letter (a ∷ w) c ≡ closed? may letter w (less c (letter a))
  closed_suc a w c e = rw (e, closed?)

  pub test_of_closed : (w : List ℕ) (c : ℕ → ℕ) → Closed may letter w c → T (closed? may letter w c)
  test_of_closed [] c h = tt
  test_of_closed (a ∷ w) c h = go (c (letter a)) refl (test_of_closed w)
    where
      go : (n : ℕ) → c (letter a) ≡ n → ((d : ℕ → ℕ) → Closed may letter w d → T (closed? may letter w d)) → T (closed? may letter (a ∷ w) c)
      go zero e ih = rw (closed_zero a w c e)
          (both (all (may a) (marked letter w c)) (closed? may letter w c)
          (all_of (may a) (marked letter w c) (λ b m. ⊎_elim (λ ok. ok)
          (λ bad.
          let n = mem_marked w c m in
          let k : count letter (a ∷ n.0) (letter b) < c (letter b) =
          ⊎_elim (λ q. omega (arith, n.3, ap c q)) (λ z. omega (arith, n.3)) (one_cases (letter a) (letter b)) in
          let z = h [] n.0 n.1 a b (ap (◌∷◌ a) n.2) k bad in absurd (omega arith))
          (test (may a b))))
          (ih c (λ u v x a' b q k bad.
          let z : one (letter a) (letter b) ≡ 0 = ⊎_elim (λ q. absurd (omega (arith, ap c q))) (λ z. z) (one_cases (letter a) (letter b)) in
          let k' = h (a ∷ u) v x a' b (ap (◌∷◌ a) q) (omega arith) bad in omega arith)))
      go (suc n) e ih = rw (closed_suc a w c e)
          (ih (less c (letter a)) (λ u v x a' b q k bad. let k' = h (a ∷ u) v x a' b (ap (◌∷◌ a) q) (omega arith) bad in omega arith))

  closed_of_test : (w : List ℕ) (c : ℕ → ℕ) → T (closed? may letter w c) → Closed may letter w c
  closed_of_test [] c h [] v x a b q k bad = absurd (nil≢cons q)
  closed_of_test [] c h (e ∷ u) v x a b q k bad = absurd (nil≢cons q)
  closed_of_test (a₀ ∷ w) c h [] v x a b q k bad = go (c (letter a₀)) refl
    where
      go : (n : ℕ) → c (letter a₀) ≡ n → 0 < c (letter a)
      go zero e =
          let t = fst_of (all (may a₀) (marked letter w c)) (closed? may letter w c) (rw (closed_zero a₀ w c e) at h) in
          let m : Mem b (marked letter w c) = subst (λ l. Mem b (marked letter l c)) (sym (tail-eq_of_cons-eq q)) (marked_mem v c b x (omega arith)) in
          absurd (T_not (may a b) bad (subst (λ z. T (may z b)) (head-eq_of_cons-eq q) (all_at (may a₀) t m)))
      go (suc n) e = omega (arith, ap (λ z. c (letter z)) (head-eq_of_cons-eq q))
  closed_of_test (a₀ ∷ w) c h (e₀ ∷ u) v x a b q k bad = go (c (letter a₀)) refl (λ d t k. closed_of_test w d t u v x a b (tail-eq_of_cons-eq q) k bad)
    where
      same : (y : ℕ) → one (letter e₀) y ≡ one (letter a₀) y
      same y = ap (λ z. one (letter z) y) (sym (head-eq_of_cons-eq q))

      go : (n : ℕ) → c (letter a₀) ≡ n
          → ((d : ℕ → ℕ) → T (closed? may letter w d) → count letter (u ++ (a ∷ v)) (letter b) < d (letter b) → count letter u (letter a) < d (letter a))
          → count letter (e₀ ∷ u) (letter a) < c (letter a)
      go zero e ih =
          let r = ih c (snd_of (all (may a₀) (marked letter w c)) (closed? may letter w c) (rw (closed_zero a₀ w c e) at h)) (omega arith) in
          ⊎_elim (λ p. omega (arith, ap c p)) (λ p. omega (arith, same (letter a))) (one_cases (letter a₀) (letter a))
      go (suc n) e ih = let r = ih (less c (letter a₀)) (rw (closed_suc a₀ w c e) at h) (omega (arith, same (letter b))) in omega (arith, same (letter a))

  pub prefix_test : (w : List ℕ) (c : ℕ → ℕ) → IsPrefix may letter w c ↔ (((x : ℕ) → c x ≤ count letter w x) × T (closed? may letter w c))
  prefix_test w c = (λ p. (p.fits, test_of_closed w c p.closed), λ p. record { fits = p.0; closed = closed_of_test w c p.1 })
