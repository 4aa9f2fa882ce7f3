-- Reachable logs: taken one by one, listed, and as a congruence. `may` need not be symmetric, save where that is assumed.
use mathlib.Core.Path.{◌≡◌, refl, sym, ap, subst}
use mathlib.Core.Bool.{Bool, true, false}
use mathlib.Core.Logic.{◌⊎◌, inl, inr, ◌↔◌}
use mathlib.Core.List.Memᴰ
use mathlib.Core.List.{List, [], ◌∷◌, ◌++◌, map, append_assoc, append-nil}
use Prim.Native.Nat.{ℕ, suc, ◌+◌}
use native.Mathlib.Omega.{arith}
use lib.ListN.{length}
use lib.Dec.{T}
use Rattle.profile.specs.Lists.{Mem}
use Rattle.profile.specs.Prefixes.{at}
use Rattle.profile.specs.Source.{Congruent, cong_append, cong_pair, cong_refl, cong_sym, cong_trans}
use Rattle.profile.specs.Traces.{Reachable, Symmetric, exchange, insertions, itself, orders}
use Rattle.profile.proofs.Lists.{flat_map_at, flat_map_of, is_true}

-- Pick may w a r: the event a may be brought to the front of w, and r is what is left
pub data Pick (may : ℕ → ℕ → Bool) : List ℕ → ℕ → List ℕ → Type 0 where
  first : {a : ℕ} {w : List ℕ} → Pick may (a ∷ w) a w
  later : {a b : ℕ} {w r : List ℕ} → T (may b a) → Pick may w a r → Pick may (b ∷ w) a (b ∷ r)

-- Takes may w u r: the events u are taken from w one by one, each when it may come first, and r is what is left
pub data Takes (may : ℕ → ℕ → Bool) : List ℕ → List ℕ → List ℕ → Type 0 where
  done : {w : List ℕ} → Takes may w [] w
  next : {a : ℕ} {w r u s : List ℕ} → Pick may w a r → Takes may r u s → Takes may w (a ∷ u) s

-- an order of w takes all its events
abbrev pub Order : (ℕ → ℕ → Bool) → List ℕ → List ℕ → Type 0
Order may w v = Takes may w v []

module _ (may : ℕ → ℕ → Bool) where
  -- ---- reachable

  pub reach_trans : {w v x : List ℕ} → Reachable may w v → Reachable may v x → Reachable may w x
  reach_trans p itself = p
  reach_trans p (exchange u a b v ok q) = exchange u a b v ok (reach_trans p q)

  pub reach_cons : (a : ℕ) {w v : List ℕ} → Reachable may w v → Reachable may (a ∷ w) (a ∷ v)
  reach_cons c itself = itself
  reach_cons c (exchange u a b v ok q) = exchange (c ∷ u) a b v ok (reach_cons c q)

  pub reach_before : (x : List ℕ) {w v : List ℕ} → Reachable may w v → Reachable may (x ++ w) (x ++ v)
  reach_before [] q = q
  reach_before (a ∷ x) q = reach_cons a (reach_before x q)

  pub reach_after : (x : List ℕ) {w v : List ℕ} → Reachable may w v → Reachable may (w ++ x) (v ++ x)
  reach_after x itself = itself
  reach_after x {w} (exchange u a b v ok q) =
      subst (Reachable may (w ++ x)) (sym (append_assoc u (b ∷ a ∷ v) x))
      (exchange u a b (v ++ x) ok (subst (Reachable may (w ++ x)) (append_assoc u (a ∷ b ∷ v) x) (reach_after x q)))

  pub reach_sym : Symmetric may → {w v : List ℕ} → Reachable may w v → Reachable may v w
  reach_sym s itself = itself
  reach_sym s (exchange u a b v ok q) = reach_trans (exchange u b a v (s a b ok) itself) (reach_sym s q)

  -- ---- taken one by one

  pub no_pick : {a : ℕ} {r : List ℕ} → Pick may [] a r → ⊥
  no_pick p = elim p [ ]

  pub takes_refl : (w : List ℕ) → Order may w w
  takes_refl [] = done
  takes_refl (a ∷ w) = next first (takes_refl w)

  pub takes_trans : {w u r v s : List ℕ} → Takes may w u r → Takes may r v s → Takes may w (u ++ v) s
  takes_trans done q = q
  takes_trans (next p t) q = next p (takes_trans t q)

  pub takes_split : (u : List ℕ) {w v s : List ℕ} → Takes may w (u ++ v) s → (r : List ℕ) × Takes may w u r × Takes may r v s
  takes_split [] t = (_, done, t)
  takes_split (a ∷ u) (next p t) = let m = takes_split u t in (m.0, next p m.1, m.2)

  pub pick_length : {w r : List ℕ} {a : ℕ} → Pick may w a r → length w ≡ suc (length r)
  pick_length first = refl
  pick_length (later ok p) = ap suc (pick_length p)

  pub takes_length : {w u r : List ℕ} → Takes may w u r → length w ≡ length u + length r
  takes_length done = omega arith
  takes_length (next p t) = omega (arith, pick_length p, takes_length t)

  -- the event taken last
  pub takes_last : {w u r : List ℕ} {a : ℕ} → Takes may w (a ∷ u) r → (v s : List ℕ) × (b : ℕ) × (a ∷ u ≡ v ++ (b ∷ [])) × Takes may w v s × Pick may s b r
  takes_last (next p done) = ([], _, _, refl, done, p)
  takes_last (next {a = a} p (next q t)) = let n = takes_last (next q t) in (a ∷ n.0, n.1, n.2, ap (◌∷◌ a) n.3, next p n.4, n.5)

  -- two events taken one after the other, the first of which may be passed by the second, may be taken the other way round
  pub pick_swap : {w r s : List ℕ} {a b : ℕ} → T (may a b) → Pick may w a r → Pick may r b s → (t : List ℕ) × Pick may w b t × Pick may t a s
  pick_swap ok first q = (_, later ok q, first)
  pick_swap ok (later h p) first = (_, first, p)
  pick_swap ok (later h p) (later k q) = let m = pick_swap ok p q in (_, later k m.1, later h m.2)

  takes_swap : {w s : List ℕ} (u : List ℕ) (a b : ℕ) (v : List ℕ) → T (may a b) → Takes may w (u ++ (a ∷ b ∷ v)) s → Takes may w (u ++ (b ∷ a ∷ v)) s
  takes_swap [] a b v ok (next p (next q t)) = let m = pick_swap ok p q in next m.1 (next m.2 t)
  takes_swap (c ∷ u) a b v ok (next p t) = next p (takes_swap u a b v ok t)

  pub order_of_reach : {w v : List ℕ} → Reachable may w v → Order may w v
  order_of_reach itself = takes_refl _
  order_of_reach (exchange u a b v ok r) = takes_swap u a b v ok (order_of_reach r)

  pub reach_of_pick : {w r : List ℕ} {a : ℕ} → Pick may w a r → Reachable may w (a ∷ r)
  reach_of_pick first = itself
  reach_of_pick (later {a = a} {b = b} {r = r} ok p) = exchange [] b a r ok (reach_cons b (reach_of_pick p))

  pub reach_of_takes : {w u r : List ℕ} → Takes may w u r → Reachable may w (u ++ r)
  reach_of_takes done = itself
  reach_of_takes (next {a = a} p t) = reach_trans (reach_of_pick p) (reach_cons a (reach_of_takes t))

  pub reach_of_order : {w v : List ℕ} → Order may w v → Reachable may w v
  reach_of_order {w} {v} t = subst (Reachable may w) (append-nil v) (reach_of_takes t)

  pub order_trans : {w v x : List ℕ} → Order may w v → Order may v x → Order may w x
  order_trans p q = order_of_reach (reach_trans (reach_of_order p) (reach_of_order q))

  -- ---- the list of all orders

  insert_first : (a : ℕ) (u : List ℕ) → Mem (a ∷ u) (insertions may a u)
  insert_first a [] = Memᴰ.head refl
  insert_first a (b ∷ u) = Memᴰ.head refl

  insert_later : (a b : ℕ) (u : List ℕ) {v : List ℕ} → T (may a b) → Mem v (insertions may a u) → Mem (b ∷ v) (insertions may a (b ∷ u))
  insert_later a b u ok m = rw (is_true (may a b) ok) (Memᴰ.tail (Memᴰ.map (◌∷◌ b) m))

  pub insert_cases : (a b : ℕ) (u : List ℕ) {v : List ℕ} → Mem v (insertions may a (b ∷ u)) → (v ≡ a ∷ b ∷ u) ⊎ ((x : List ℕ) × T (may a b) × Mem x (insertions may a u) × (b ∷ x ≡ v))
  insert_cases a b u {v} m = go (may a b) refl (Memᴰ.cases_cons m)
    where
      go : (c : Bool) → may a b ≡ c → (v ≡ a ∷ b ∷ u) ⊎ Mem v (elim (may a b) [ true ↦ map (◌∷◌ b) (insertions may a u) | false ↦ [] ])
          → (v ≡ a ∷ b ∷ u) ⊎ ((x : List ℕ) × T (may a b) × Mem x (insertions may a u) × (b ∷ x ≡ v))
      go c e (inl q) = inl q
      go true e (inr k) = let n = Memᴰ.of_map (◌∷◌ b) (insertions may a u) (rw e at k) in inr (n.0, rw e tt, n.1, n.2)
      go false e (inr k) = absurd (Memᴰ.not-nil (rw e at k))

  -- an order of a ∷ w is an order of w with a put in
  pub inserts_of : {a : ℕ} {w v : List ℕ} → Order may (a ∷ w) v → (u : List ℕ) × Order may w u × Mem v (insertions may a u)
  inserts_of (next {a = a} {u = u} first t) = (u, t, insert_first a u)
  inserts_of (next {u = u} (later {a = b} {b = a} ok p) t) = let m = inserts_of t in (b ∷ m.0, next p m.1, insert_later a b m.0 ok m.2)

  inserts_at : {a : ℕ} (u : List ℕ) {w v : List ℕ} → Order may w u → Mem v (insertions may a u) → Order may (a ∷ w) v
  inserts_at {a} [] {w = w} t m = subst (Order may (a ∷ w)) (sym (Memᴰ.eq_of_singleton m)) (next first t)
  inserts_at {a} (b ∷ u) {w = w} {v = v} t m = go t (insert_cases a b u m) (λ w' x t' m'. inserts_at u t' m')
    where
      go : Order may w (b ∷ u) → (v ≡ a ∷ b ∷ u) ⊎ ((x : List ℕ) × T (may a b) × Mem x (insertions may a u) × (b ∷ x ≡ v))
          → ((w' x : List ℕ) → Order may w' u → Mem x (insertions may a u) → Order may (a ∷ w') x) → Order may (a ∷ w) v
      go t (inl q) f = subst (Order may (a ∷ w)) (sym q) (next first t)
      go (next p t) (inr n) f = subst (Order may (a ∷ w)) n.3 (next (later n.1 p) (f _ n.0 t n.2))

  pub mem_of_order : (w : List ℕ) {v : List ℕ} → Order may w v → Mem v (orders may w)
  mem_of_order [] done = Memᴰ.head refl
  mem_of_order (a ∷ w) t = let m = inserts_of t in flat_map_of (insertions may a) (mem_of_order w m.1) m.2
  mem_of_order [] (next {a = a} {r = r} {u = u} x8 _) = elim x8 [ ]

  pub order_of_mem : (w : List ℕ) {v : List ℕ} → Mem v (orders may w) → Order may w v
  order_of_mem [] m = subst (Order may []) (sym (Memᴰ.eq_of_singleton m)) done
  order_of_mem (a ∷ w) m = let n = flat_map_at (insertions may a) (orders may w) m in inserts_at n.0 (order_of_mem w n.1) n.2

  pub reach_orders : (w v : List ℕ) → Reachable may w v ↔ Mem v (orders may w)
  reach_orders w v = (λ q. mem_of_order w (order_of_reach q), λ m. reach_of_order (order_of_mem w m))

  -- ---- with both directions allowed, reachable is the least congruence

  pub cong_of_reach : {w v : List ℕ} → Reachable may w v → Congruent may w v
  cong_of_reach itself = cong_refl _
  cong_of_reach (exchange u a b v ok q) = cong_trans (cong_of_reach q) (cong_append (cong_refl u) (cong_append (cong_pair a b ok) (cong_refl v)))

  pub reach_of_cong : Symmetric may → {w v : List ℕ} → Congruent may w v → Reachable may w v
  reach_of_cong s (cong_pair a b ok) = exchange [] a b [] ok itself
  reach_of_cong s (cong_refl u) = itself
  reach_of_cong s (cong_sym c) = reach_sym s (reach_of_cong s c)
  reach_of_cong s (cong_trans c d) = reach_trans (reach_of_cong s c) (reach_of_cong s d)
  reach_of_cong s (cong_append {u' = u} {v = v} c d) = reach_trans (reach_after v (reach_of_cong s c)) (reach_before u (reach_of_cong s d))
