-- Letter order, the earliest log of a list, and how it is found letter by letter.
use mathlib.Core.Path.{◌≡◌, refl, sym, ◌∙◌, ap, ap₂, subst, subst₂}
use mathlib.Core.Bool.{Bool, true, false, not, cond}
use mathlib.Core.Logic.{◌⊎◌, inl, inr, ⊎_elim, ◌≢◌}
use mathlib.Core.List.Memᴰ
use mathlib.Core.List.{List, [], ◌∷◌, ◌++◌, map}
use mathlib.Core.Option.{none, some, none-ne-some, some-injective}
use Prim.Native.Nat.{ℕ, ◌≤◌, ◌<◌}
use native.Mathlib.Omega.{arith}
use lib.Dec.{T, T_not, eqb, ltb, eqb→eq, eqb_refl, nltb→le}
use Rattle.profile.specs.Lists.{Mem, filter}
use Rattle.profile.specs.Orders.{NoLater, agrees, earliest, ends, first_order, least, no_later?, smaller}
use Rattle.profile.specs.Traces.{Reachable, Symmetric, orders}
use Rattle.profile.proofs.Lists.{filter_at, filter_none, filter_of, is_false, is_true, lt_or_le, test}
pub use Rattle.profile.proofs.Orders.{no_later_of_test}
use Rattle.theory.proofs.Prefixes.{pick_same}
use Rattle.profile.proofs.Traces.{Order, Pick, Takes, done, mem_of_order, next, no_pick, order_of_mem, order_of_reach, order_trans, reach_of_order, reach_sym, reach_trans, takes_refl}

-- ---- letter order

pub no_later_refl : (u : List ℕ) → NoLater u u
no_later_refl [] = ends
no_later_refl (a ∷ u) = agrees refl (no_later_refl u)

pub no_later_trans : {u v x : List ℕ} → NoLater u v → NoLater v x → NoLater u x
no_later_trans ends k = ends
no_later_trans (smaller {a = a} h) (smaller {b = c} k) = smaller {a = a} {b = c} (omega arith)
no_later_trans (smaller {a = a} h) (agrees {b = c} e k) = smaller {a = a} {b = c} (omega arith)
no_later_trans (agrees {a = a} d h) (smaller {b = c} k) = smaller {a = a} {b = c} (omega arith)
no_later_trans (agrees d h) (agrees e k) = agrees (d ∙ e) (no_later_trans h k)

pub no_later_antisym : {u v : List ℕ} → NoLater u v → NoLater v u → u ≡ v
no_later_antisym ends ends = refl
no_later_antisym (smaller h) (smaller k) = absurd (omega arith)
no_later_antisym (smaller h) (agrees e k) = absurd (omega arith)
no_later_antisym (agrees d h) (smaller k) = absurd (omega arith)
no_later_antisym (agrees d h) (agrees e k) = ap₂ ◌∷◌ d (no_later_antisym h k)

pub ge_of_test : (u v : List ℕ) → T (not (no_later? u v)) → NoLater v u
ge_of_test [] v t = absurd t
ge_of_test (a ∷ u) [] t = ends
ge_of_test (a ∷ u) (b ∷ v) t = go (test (ltb a b)) (test (eqb a b)) (ge_of_test u v)
  where
    go : T (ltb a b) ⊎ T (not (ltb a b)) → T (eqb a b) ⊎ T (not (eqb a b)) → (T (not (no_later? u v)) → NoLater v u) → NoLater (b ∷ v) (a ∷ u)
    go (inl h) k ih = absurd (rw (is_true (ltb a b) h) at t)
    go (inr h) (inl k) ih = agrees (sym (eqb→eq a b k)) (ih (rw (is_false (ltb a b) h, is_true (eqb a b) k) at t))
    go (inr h) (inr k) ih = ⊎_elim smaller
        (λ l. let e : a ≡ b = omega (arith, nltb→le a b h) in absurd (T_not (eqb a b) k (subst (λ z. T (eqb a z)) e (eqb_refl a)))) (lt_or_le b a)

-- ---- the earliest of a list

pub least_mem : (v : List ℕ) (l : List (List ℕ)) → Mem (least v l) (v ∷ l)
least_mem v [] = Memᴰ.head refl
least_mem v (u ∷ l) = go (no_later? v u) (least_mem (cond (no_later? v u) v u) l)
  where
    go : (b : Bool) → Mem (least (cond b v u) l) (cond b v u ∷ l) → Mem (least (cond b v u) l) (v ∷ u ∷ l)
    go true m = ⊎_elim (λ e. Memᴰ.head e) (λ k. Memᴰ.tail (Memᴰ.tail k)) (Memᴰ.cases_cons m)
    go false m = Memᴰ.tail m

pub least_le : (v : List ℕ) (l : List (List ℕ)) {u : List ℕ} → Mem u (v ∷ l) → NoLater (least v l) u
least_le v [] {u} m = ⊎_elim (λ e. rw e (no_later_refl v)) (λ k. absurd (Memᴰ.not-nil k)) (Memᴰ.cases_cons m)
least_le v (x ∷ l) {u} m = go (no_later? v x) refl (λ y z k. least_le y l k) (Memᴰ.cases_cons m)
  where
    go : (b : Bool) → no_later? v x ≡ b → ((y z : List ℕ) → Mem z (y ∷ l) → NoLater (least y l) z) → (u ≡ v) ⊎ Mem u (x ∷ l) → NoLater (least (cond (no_later? v x) v x) l) u
    go true e ih (inl q) = rw e (ih v u (Memᴰ.head q))
    go true e ih (inr k) = rw e (⊎_elim
        (λ q. no_later_trans (ih v v (Memᴰ.head refl)) (subst (NoLater v) (sym q) (no_later_of_test v x (rw e tt))))
        (λ n. ih v u (Memᴰ.tail n)) (Memᴰ.cases_cons k))
    go false e ih (inl q) = rw e (no_later_trans (ih x x (Memᴰ.head refl)) (subst (NoLater x) (sym q) (ge_of_test v x (rw e tt))))
    go false e ih (inr k) = rw e (ih x u k)

-- v is the earliest of l exactly when it stands in l and is no later than what stands there
pub earliest_of : (l : List (List ℕ)) {v : List ℕ} → Mem v l → ((u : List ℕ) → Mem u l → NoLater v u) → earliest l ≡ some v
earliest_of (x ∷ l) m h = ap some (no_later_antisym (least_le x l m) (h (least x l) (least_mem x l)))
earliest_of [] {v = v} m h = elim m [ ]

pub earliest_at : (l : List (List ℕ)) {v : List ℕ} → earliest l ≡ some v → Mem v l × ((u : List ℕ) → Mem u l → NoLater v u)
earliest_at [] e = absurd (none-ne-some _ e)
earliest_at (x ∷ l) {v} e =
    let q : least x l ≡ v = some-injective _ _ e in
    (subst (λ z. Mem z (x ∷ l)) q (least_mem x l), λ u m. subst (λ z. NoLater z u) q (least_le x l m))

-- ---- letter by letter

-- What is read so far is kept as an s in S, with `after s x` for one letter more; `ok s` holds where the reading may end.
-- `live s r` is a test that some order of the rest r may follow.
module _ (may : ℕ → ℕ → Bool) (letter : ℕ → ℕ) {S : Type 0} (after : S → ℕ → S) (ok : S → Bool) where
  abbrev pub good : S → List ℕ → Bool
  good s [] = ok s
  good s (a ∷ v) = good (after s (letter a)) v

  module _ (live : S → List ℕ → Bool) where
    -- Greedy s w u t r: from s the letters u are taken from w, each time the smallest that may come next and leaves something that may
    -- follow; t is reached and r is left
    pub data Greedy : S → List ℕ → List ℕ → S → List ℕ → Type 0 where
      end : {s : S} {w : List ℕ} → Greedy s w [] s w
      take : {s t : S} {a : ℕ} {w x u r : List ℕ} → Pick may w a x → T (live (after s (letter a)) x)
          → ((b : ℕ) (y : List ℕ) → Pick may w b y → T (live (after s (letter b)) y) → letter a ≤ letter b)
          → Greedy (after s (letter a)) x u t r → Greedy s w (a ∷ u) t r

    pub greedy_append : {s t e : S} {w u r v x : List ℕ} → Greedy s w u t r → Greedy t r v e x → Greedy s w (u ++ v) e x
    greedy_append end k = k
    greedy_append (take p l m g) k = take p l m (greedy_append g k)

    pub greedy_takes : {s t : S} {w u r : List ℕ} → Greedy s w u t r → Takes may w u r
    greedy_takes end = done
    greedy_takes (take p l m g) = next p (greedy_takes g)

    module _ (distinct : (a b : ℕ) → T (may a b) → letter a ≢ letter b)
        (live_of_lem : (s : S) (r v : List ℕ) → Order may r v → T (good s v) → T (live s r))
        (Live-at : (s : S) (r : List ℕ) → T (live s r) → (v : List ℕ) × Order may r v × T (good s v)) where
      pub greedy_good : {s t : S} {w v : List ℕ} → Greedy s w v t [] → T (live s w) → T (good s v)
      greedy_good {s = s} end h = let n = Live-at s [] h in go n.0 n.1 n.2
        where
          go : (v : List ℕ) → Order may [] v → T (good s v) → T (good s [])
          go [] done h = h
          go (b ∷ v) (next p o) h = absurd (no_pick may p)
      greedy_good (take p l m g) h = greedy_good g l

      -- what is taken so far begins the earliest good order
      pub greedy_least : {s t : S} {w v u : List ℕ} → Greedy s w v t [] → Order may w u → T (good s u) → NoLater (map letter v) (map letter u)
      greedy_least end o h = ends
      greedy_least (take {s = s} {a = a} {x = x} {u = v} p l m g) (next {a = b} {r = y} {u = u} q o) h =
          go (lt_or_le (letter a) (letter b)) (λ o' h'. greedy_least g o' h')
        where
          go : (letter a < letter b) ⊎ (letter b ≤ letter a) → (Order may x u → T (good (after s (letter a)) u) → NoLater (map letter v) (map letter u))
              → NoLater (letter a ∷ map letter v) (letter b ∷ map letter u)
          go (inl k) ih = smaller k
          go (inr k) ih =
              let e : letter a ≡ letter b = omega (arith, m b y q (live_of_lem (after s (letter b)) y u o h)) in
              agrees e (ih (subst (λ z. Order may z u) (sym (pick_same may letter distinct p q e).1) o) (subst (λ z. T (good (after s z) u)) (sym e) h))
      greedy_least (take {s = s} {t = t} {a = a} {x = x} {u = v} p l m g) done h = elim p [ ]

      -- and all of it is the earliest of the good orders
      pub greedy_first : {s t : S} {w v : List ℕ} → T (live s w) → Greedy s w v t [] → earliest (map (map letter) (filter (good s) (orders may w))) ≡ some (map letter v)
      greedy_first {s} {w = w} {v = v} h g =
          earliest_of (map (map letter) (filter (good s) (orders may w)))
          (Memᴰ.map (map letter) (filter_of (good s) (mem_of_order may w (greedy_takes g)) (greedy_good g h)))
          (λ u m.
          let n = Memᴰ.of_map (map letter) (filter (good s) (orders may w)) m in
          let k = filter_at (good s) (orders may w) n.1 in
          subst (NoLater (map letter v)) n.2 (greedy_least g (order_of_mem may w k.0) k.1))

      pub greedy_none : (s : S) (w : List ℕ) → (T (live s w) → ⊥) → earliest (map (map letter) (filter (good s) (orders may w))) ≡ none
      greedy_none s w h = ap (λ l. earliest (map (map letter) l)) (filter_none (good s) (orders may w) (λ u m t. h (live_of_lem s w u (order_of_mem may w m) t)))

-- ---- the first order of all, where events are letters

module _ (may : ℕ → ℕ → Bool) where
  pub first_of : (w : List ℕ) → (v : List ℕ) × (first_order may w ≡ some v)
  first_of w = go (orders may w) (mem_of_order may w (takes_refl may w))
    where
      go : (l : List (List ℕ)) → Mem w l → (v : List ℕ) × (earliest l ≡ some v)
      go (x ∷ l) m = (least x l, refl)
      go [] m = elim m [ ]

  -- the smallest letter that may come next, each time, gives the first order
  pub first_greedy : ((a b : ℕ) → T (may a b) → a ≢ b) → {w v : List ℕ} {t : Unit {0}} → Greedy may (λ a. a) (λ s x. tt) (λ s. true) (λ s r. true) tt w v t [] → first_order may w ≡ some v
  first_greedy distinct {w} {v} g =
      earliest_of (orders may w) (mem_of_order may w (greedy_takes may (λ a. a) (λ s x. tt) (λ s. true) (λ s r. true) g))
      (λ u m. subst₂ NoLater (map_id v) (map_id u)
      (greedy_least may (λ a. a) (λ s x. tt) (λ s. true) (λ s r. true) distinct (λ s r v o h. tt) (λ s r h. (r, takes_refl may r, all-good r)) g (order_of_mem may w m) (all-good u)))
    where
      map_id : (l : List ℕ) → map (λ a. a) l ≡ l
      map_id [] = refl
      map_id (a ∷ l) = ap (◌∷◌ a) (map_id l)

      all-good : (u : List ℕ) → T (good may (λ a. a) {S = Unit {0}} (λ s x. tt) (λ s. true) tt u)
      all-good [] = tt
      all-good (a ∷ u) = all-good u

  -- logs reachable from each other have the same first order
  pub same_first : {w v : List ℕ} → Reachable may w v → Reachable may v w → first_order may w ≡ first_order may v
  same_first {w} {v} p q =
      let n = first_of w in
      let k = earliest_at (orders may w) n.1 in
      n.1 ∙ sym (earliest_of (orders may v)
      (mem_of_order may v (order_trans may (order_of_reach may q) (order_of_mem may w k.0)))
      (λ u m. k.1 u (mem_of_order may w (order_trans may (order_of_reach may p) (order_of_mem may v m)))))

  -- and the other way round, where the masks are symmetric
  pub first_same : Symmetric may → {w v : List ℕ} → first_order may w ≡ first_order may v → Reachable may w v × Reachable may v w
  first_same s {w} {v} e =
      let n = first_of w in
      let p = reach_of_order may (order_of_mem may w (earliest_at (orders may w) n.1).0) in
      let q = reach_of_order may (order_of_mem may v (earliest_at (orders may v) (sym e ∙ n.1)).0) in
      (reach_trans may p (reach_sym may s q), reach_trans may q (reach_sym may s p))
