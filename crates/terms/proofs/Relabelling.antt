-- Events under other names: where f gives each event of a log another number with the same letter, and the same events may be exchanged, prefixes,
-- looks, table and order are the same.
use mathlib.Core.Path.{◌≡◌, refl, sym, ◌∙◌, ap, ap₂, subst, fun_ext}
use mathlib.Core.Bool.{Bool, true, false, ◌&&◌}
use mathlib.Core.List.Memᴰ
use mathlib.Core.List.{List, [], ◌∷◌, ◌++◌, map, map-append}
use mathlib.Core.Logic.{⊎_elim}
use Prim.Native.Nat.{ℕ, zero, suc, ◌+◌, ◌*◌}
use lib.Bits.{bit_or}
use lib.Dec.{T, eqb, ltb}
use lib.ListN.{length, drop, length-map}
use Rattle.profile.specs.Lists.{Mem, all, below, filter, flat_map}
use Rattle.profile.specs.Traces.{insertions, orders}
use Rattle.profile.specs.Automata.{Automaton, accepted?, meets, run, run_back, union}
use Rattle.profile.specs.Prefixes.{additions, at, backward, by_total, closed?, count, forward, less, looks, marked, more, one, prefix_count, prefixes, total, unmarked, vectors}
use Rattle.profile.specs.Tables.{Layout, packed, record_length, record_of, table_of}
use Rattle.profile.specs.Orders.{accepted_order, earliest}
use Rattle.profile.proofs.Lists.{both, filter_agree, filter_at, flat_map_agree, flat_map_at, fst_of, snd_of}
use Rattle.profile.proofs.Traces.{insert_cases}
use Rattle.theory.proofs.Prefixes.{marked_suc, marked_zero, unmarked_suc, unmarked_zero}

-- ---- lists

flat_map_map : {A B C : Type 0} (g : B → List C) (f : A → B) (l : List A) → flat_map g (map f l) ≡ flat_map (λ a. g (f a)) l
flat_map_map g f [] = refl
flat_map_map g f (a ∷ l) = ap (λ r. g (f a) ++ r) (flat_map_map g f l)

map_flat_map : {A B C : Type 0} (g : B → C) (f : A → List B) (l : List A) → map g (flat_map f l) ≡ flat_map (λ a. map g (f a)) l
map_flat_map g f [] = refl
map_flat_map g f (a ∷ l) = map-append g (f a) (flat_map f l) ∙ ap (λ r. map g (f a) ++ r) (map_flat_map g f l)

pub map_twice : {A B C : Type 0} (g : B → C) (f : A → B) (l : List A) → map g (map f l) ≡ map (λ a. g (f a)) l
map_twice g f [] = refl
map_twice g f (a ∷ l) = ap (◌∷◌ (g (f a))) (map_twice g f l)

union_map : {A B : Type 0} (g : B → ℕ) (f : A → B) (l : List A) → union g (map f l) ≡ union (λ a. g (f a)) l
union_map g f [] = refl
union_map g f (a ∷ l) = rw (union_map g f l)

union_on : {A : Type 0} (f g : A → ℕ) (l : List A) → ((a : A) → Mem a l → f a ≡ g a) → union f l ≡ union g l
union_on f g [] h = refl
union_on f g (a ∷ l) h = ap₂ bit_or (h a (Memᴰ.head refl)) (union_on f g l (λ b m. h b (Memᴰ.tail m)))

pub map_on : {A B : Type 0} (f g : A → B) (l : List A) → ((a : A) → Mem a l → f a ≡ g a) → map f l ≡ map g l
map_on f g [] h = refl
map_on f g (a ∷ l) h = ap₂ ◌∷◌ (h a (Memᴰ.head refl)) (map_on f g l (λ b m. h b (Memᴰ.tail m)))

pub filter_map : {A B : Type 0} (p : B → Bool) (f : A → B) (l : List A) → filter p (map f l) ≡ map f (filter (λ a. p (f a)) l)
filter_map p f [] = refl
filter_map p f (a ∷ l) = go (p (f a)) refl (filter_map p f l)
  where
    go : (b : Bool) → p (f a) ≡ b → filter p (map f l) ≡ map f (filter (λ a. p (f a)) l) → filter p (map f (a ∷ l)) ≡ map f (filter (λ a. p (f a)) (a ∷ l))
    go true e ih = rw (e, filter) (ap (◌∷◌ (f a)) ih)
    go false e ih = rw (e, filter) ih

closed_zero : (may : ℕ → ℕ → Bool) (letter : ℕ → ℕ) (a : ℕ) (w : List ℕ) (c : ℕ → ℕ) → c (letter a) ≡ 0
    → closed? may letter (a ∷ w) c ≡ (all (may a) (marked letter w c) && closed? may letter w c)
closed_zero may letter a w c e = rw (e, closed?)

closed_suc : (may : ℕ → ℕ → Bool) (letter : ℕ → ℕ) (a : ℕ) (w : List ℕ) (c : ℕ → ℕ) {n : ℕ} → c (letter a) ≡ suc n
    → closed? may letter (a ∷ w) c ≡ closed? may letter w (less c (letter a))
closed_suc may letter a w c e = rw (e, closed?)

module _ (may may' : ℕ → ℕ → Bool) (letter letter' : ℕ → ℕ) (f : ℕ → ℕ) (ok : ℕ → Bool)
    (same_may : (a b : ℕ) → T (ok a) → T (ok b) → may' (f a) (f b) ≡ may a b) (same_letter : (a : ℕ) → T (ok a) → letter' (f a) ≡ letter a) where
  -- ---- orders

  insertions_named : (a : ℕ) (v : List ℕ) → T (ok a) → T (all ok v) → insertions may' (f a) (map f v) ≡ map (map f) (insertions may a v)
  insertions_named a [] h k = refl
  insertions_named a (b ∷ v) h k = ap (λ l. (f a ∷ f b ∷ map f v) ∷ l) (go (may a b) refl (insertions_named a v h (snd_of (ok b) (all ok v) k)))
    where
      go : (t : Bool) → may a b ≡ t → insertions may' (f a) (map f v) ≡ map (map f) (insertions may a v)
          → elim (may' (f a) (f b)) [ true ↦ map (◌∷◌ (f b)) (insertions may' (f a) (map f v)) | false ↦ [] ]
          ≡ map (map f) (elim (may a b) [ true ↦ map (◌∷◌ b) (insertions may a v) | false ↦ [] ])
      go true e ih = rw (same_may a b h (fst_of (ok b) (all ok v) k), e, ih) (map_twice (◌∷◌ (f b)) (map f) (insertions may a v) ∙ sym (map_twice (map f) (◌∷◌ b) (insertions may a v)))
      go false e ih = rw (same_may a b h (fst_of (ok b) (all ok v) k), e)

  insertions_ok : (a : ℕ) (u : List ℕ) → T (ok a) → T (all ok u) → (v : List ℕ) → Mem v (insertions may a u) → T (all ok v)
  insertions_ok a [] h k v m = ⊎_elim (λ e. subst (λ l. T (all ok l)) (sym e) (both (ok a) true h tt)) (λ n. absurd (Memᴰ.not-nil n)) (Memᴰ.cases_cons m)
  insertions_ok a (b ∷ u) h k v m = ⊎_elim (λ e. subst (λ l. T (all ok l)) (sym e) (both (ok a) (all ok (b ∷ u)) h k))
      (λ n. subst (λ l. T (all ok l)) n.3 (both (ok b) (all ok n.0) (fst_of (ok b) (all ok u) k) (insertions_ok a u h (snd_of (ok b) (all ok u) k) n.0 n.2)))
      (insert_cases may a b u m)

  pub orders_ok : (w : List ℕ) → T (all ok w) → (v : List ℕ) → Mem v (orders may w) → T (all ok v)
  orders_ok [] h v m = ⊎_elim (λ e. subst (λ l. T (all ok l)) (sym e) tt) (λ n. absurd (Memᴰ.not-nil n)) (Memᴰ.cases_cons m)
  orders_ok (a ∷ w) h v m =
      let n = flat_map_at (insertions may a) (orders may w) m in
      insertions_ok a n.0 (fst_of (ok a) (all ok w) h) (orders_ok w (snd_of (ok a) (all ok w) h) n.0 n.1) v n.2

  pub orders_named : (w : List ℕ) → T (all ok w) → orders may' (map f w) ≡ map (map f) (orders may w)
  orders_named [] h = refl
  orders_named (a ∷ w) h =
      let k = snd_of (ok a) (all ok w) h in
      ap (flat_map (insertions may' (f a))) (orders_named w k) ∙ flat_map_map (insertions may' (f a)) (map f) (orders may w)
      ∙ flat_map_agree (λ v. insertions may' (f a) (map f v)) (λ v. map (map f) (insertions may a v)) (orders may w) (λ v m. insertions_named a v (fst_of (ok a) (all ok w) h) (orders_ok w k v m))
      ∙ sym (map_flat_map (map f) (insertions may a) (orders may w))

  -- ---- prefixes

  count_named : (w : List ℕ) → T (all ok w) → (x : ℕ) → count letter' (map f w) x ≡ count letter w x
  count_named [] h x = refl
  count_named (a ∷ w) h x = ap₂ (λ y n. one y x + n) (same_letter a (fst_of (ok a) (all ok w) h)) (count_named w (snd_of (ok a) (all ok w) h) x)

  pub marked_named : (w : List ℕ) → T (all ok w) → (c : ℕ → ℕ) → marked letter' (map f w) c ≡ map f (marked letter w c)
  marked_named [] h c = refl
  marked_named (a ∷ w) h c = go (c (letter a)) refl (marked_named w (snd_of (ok a) (all ok w) h))
    where
      e : letter' (f a) ≡ letter a
      e = same_letter a (fst_of (ok a) (all ok w) h)

      go : (n : ℕ) → c (letter a) ≡ n → ((d : ℕ → ℕ) → marked letter' (map f w) d ≡ map f (marked letter w d)) → marked letter' (map f (a ∷ w)) c ≡ map f (marked letter (a ∷ w) c)
      go zero q ih = marked_zero may' letter' (f a) (map f w) c (ap c e ∙ q) ∙ ih c ∙ sym (ap (map f) (marked_zero may letter a w c q))
      go (suc n) q ih =
          marked_suc may' letter' (f a) (map f w) c (ap c e ∙ q) ∙ ap (◌∷◌ (f a)) (ap (λ y. marked letter' (map f w) (less c y)) e ∙ ih (less c (letter a)))
          ∙ sym (ap (map f) (marked_suc may letter a w c q))

  pub unmarked_named : (w : List ℕ) → T (all ok w) → (c : ℕ → ℕ) → unmarked letter' (map f w) c ≡ map f (unmarked letter w c)
  unmarked_named [] h c = refl
  unmarked_named (a ∷ w) h c = go (c (letter a)) refl (unmarked_named w (snd_of (ok a) (all ok w) h))
    where
      e : letter' (f a) ≡ letter a
      e = same_letter a (fst_of (ok a) (all ok w) h)

      go : (n : ℕ) → c (letter a) ≡ n → ((d : ℕ → ℕ) → unmarked letter' (map f w) d ≡ map f (unmarked letter w d)) → unmarked letter' (map f (a ∷ w)) c ≡ map f (unmarked letter (a ∷ w) c)
      go zero q ih = unmarked_zero may' letter' (f a) (map f w) c (ap c e ∙ q) ∙ ap (◌∷◌ (f a)) (ih c) ∙ sym (ap (map f) (unmarked_zero may letter a w c q))
      go (suc n) q ih =
          unmarked_suc may' letter' (f a) (map f w) c (ap c e ∙ q) ∙ ap (λ y. unmarked letter' (map f w) (less c y)) e ∙ ih (less c (letter a))
          ∙ sym (ap (map f) (unmarked_suc may letter a w c q))

  pub marked_ok : (w : List ℕ) → T (all ok w) → (c : ℕ → ℕ) → T (all ok (marked letter w c)) × T (all ok (unmarked letter w c))
  marked_ok [] h c = (tt, tt)
  marked_ok (a ∷ w) h c = go (c (letter a)) refl (marked_ok w (snd_of (ok a) (all ok w) h))
    where
      go : (n : ℕ) → c (letter a) ≡ n → ((d : ℕ → ℕ) → T (all ok (marked letter w d)) × T (all ok (unmarked letter w d))) → T (all ok (marked letter (a ∷ w) c)) × T (all ok (unmarked letter (a ∷ w) c))
      go zero q ih = rw (marked_zero may letter a w c q, unmarked_zero may letter a w c q) ((ih c).0, both (ok a) (all ok (unmarked letter w c)) (fst_of (ok a) (all ok w) h) (ih c).1)
      go (suc n) q ih = rw (marked_suc may letter a w c q, unmarked_suc may letter a w c q)
          (both (ok a) (all ok (marked letter w (less c (letter a)))) (fst_of (ok a) (all ok w) h) (ih (less c (letter a))).0, (ih (less c (letter a))).1)

  all_named : (a : ℕ) (l : List ℕ) → T (ok a) → T (all ok l) → all (may' (f a)) (map f l) ≡ all (may a) l
  all_named a [] h k = refl
  all_named a (b ∷ l) h k = ap₂ ◌&&◌ (same_may a b h (fst_of (ok b) (all ok l) k)) (all_named a l h (snd_of (ok b) (all ok l) k))

  closed_named : (w : List ℕ) → T (all ok w) → (c : ℕ → ℕ) → closed? may' letter' (map f w) c ≡ closed? may letter w c
  closed_named [] h c = refl
  closed_named (a ∷ w) h c = go (c (letter a)) refl (closed_named w (snd_of (ok a) (all ok w) h))
    where
      ha : T (ok a)
      ha = fst_of (ok a) (all ok w) h

      hw : T (all ok w)
      hw = snd_of (ok a) (all ok w) h

      go : (n : ℕ) → c (letter a) ≡ n → ((d : ℕ → ℕ) → closed? may' letter' (map f w) d ≡ closed? may letter w d) → closed? may' letter' (map f (a ∷ w)) c ≡ closed? may letter (a ∷ w) c
      go zero q ih =
          closed_zero may' letter' (f a) (map f w) c (ap c (same_letter a ha) ∙ q)
          ∙ ap₂ ◌&&◌ (ap (all (may' (f a))) (marked_named w hw c) ∙ all_named a (marked letter w c) ha (marked_ok w hw c).0) (ih c) ∙ sym (closed_zero may letter a w c q)
      go (suc n) q ih =
          closed_suc may' letter' (f a) (map f w) c (ap c (same_letter a ha) ∙ q)
          ∙ ap (λ y. closed? may' letter' (map f w) (less c y)) (same_letter a ha) ∙ ih (less c (letter a)) ∙ sym (closed_suc may letter a w c q)

  module _ (k : ℕ) (w : List ℕ) (h : T (all ok w)) where
    pub prefixes_named : prefixes may' letter' k (map f w) ≡ prefixes may letter k w
    prefixes_named = ap₂ (λ t g. filter t (vectors (map g (below k)))) (fun_ext (λ c. closed_named w h (at c))) (fun_ext (λ x. count_named w h x))

    additions_named : (c : List ℕ) → additions may' letter' k (map f w) c ≡ additions may letter k w c
    additions_named c = ap (λ t. filter t (below k)) (fun_ext (λ x. ap₂ (λ n t. ltb (at c x) n && t) (count_named w h x) (closed_named w h (more (at c) x))))

    pub looks_named : looks may' letter' k (map f w) ≡ looks may letter k w
    looks_named = ap₂ (λ g l. length (flat_map g l)) (fun_ext additions_named) prefixes_named

    pub prefix_count_named : prefix_count may' letter' k (map f w) ≡ prefix_count may letter k w
    prefix_count_named = ap length prefixes_named

    pub by_total_named : by_total may' letter' k (map f w) ≡ by_total may letter k w
    by_total_named = ap₂ (λ P n. flat_map (λ t. filter (λ c. eqb (total c) t) P) (below (suc n))) prefixes_named (length-map w f)

  -- ---- orders and sets of states

  module _ (M : Automaton) where
    pub run_named : (u : List ℕ) → T (all ok u) → (S : ℕ) → run M letter' S (map f u) ≡ run M letter S u
    run_named [] h S = refl
    run_named (a ∷ u) h S = ap (λ y. run M letter' (M.step S y) (map f u)) (same_letter a (fst_of (ok a) (all ok u) h)) ∙ run_named u (snd_of (ok a) (all ok u) h) (M.step S (letter a))

    run_back_named : (u : List ℕ) → T (all ok u) → (R : ℕ) → run_back M letter' R (map f u) ≡ run_back M letter R u
    run_back_named [] h R = refl
    run_back_named (a ∷ u) h R = ap₂ M.back (run_back_named u (snd_of (ok a) (all ok u) h) R) (same_letter a (fst_of (ok a) (all ok u) h))

    module _ (w : List ℕ) (h : T (all ok w)) where
      pub forward_named : (c : ℕ → ℕ) → forward may' letter' M (map f w) c ≡ forward may letter M w c
      forward_named c =
          let m = marked letter w c in
          let km = (marked_ok w h c).0 in
          ap (λ l. union (run M letter' M.start) (orders may' l)) (marked_named w h c) ∙ ap (union (run M letter' M.start)) (orders_named m km)
          ∙ union_map (run M letter' M.start) (map f) (orders may m)
          ∙ union_on (λ v. run M letter' M.start (map f v)) (run M letter M.start) (orders may m) (λ v i. run_named v (orders_ok m km v i) M.start)

      backward_named : (c : ℕ → ℕ) → backward may' letter' M (map f w) c ≡ backward may letter M w c
      backward_named c =
          let m = unmarked letter w c in
          let km = (marked_ok w h c).1 in
          ap (λ l. union (run_back M letter' M.final) (orders may' l)) (unmarked_named w h c) ∙ ap (union (run_back M letter' M.final)) (orders_named m km)
          ∙ union_map (run_back M letter' M.final) (map f) (orders may m)
          ∙ union_on (λ v. run_back M letter' M.final (map f v)) (run_back M letter M.final) (orders may m) (λ v i. run_back_named v (orders_ok m km v i) M.final)

      pub table_named : (L : Layout) (k : ℕ) (before : List ℕ) → table_of L may' letter' M k (map f w) before ≡ table_of L may letter M k w before
      table_named L k before =
          ap₂ (λ g l. flat_map (λ c. packed L c ++ g c) l ++ drop (record_length L * prefix_count may' letter' k (map f w)) before)
          (fun_ext (λ c. ap₂ (λ x y. x ∷ y ∷ []) (forward_named (at c)) (backward_named (at c)))) (by_total_named k w h)
          ∙ ap (λ n. flat_map (record_of L may letter M w) (by_total may letter k w) ++ drop (record_length L * n) before) (prefix_count_named k w h)

      pub accepted_order_named : accepted_order may' letter' M (map f w) ≡ accepted_order may letter M w
      accepted_order_named = ap earliest (ap (λ l. map (map letter') (filter (accepted? M letter') l)) (orders_named w h)
          ∙ ap (map (map letter')) (filter_map (accepted? M letter') (map f) (orders may w)
          ∙ ap (map (map f)) (filter_agree (λ v. accepted? M letter' (map f v)) (accepted? M letter) (orders may w) (λ v m. ap (λ S. meets S M.final) (run_named v (orders_ok w h v m) M.start))))
          ∙ map_twice (map letter') (map f) (filter (accepted? M letter) (orders may w))
          ∙ map_on (λ v. map letter' (map f v)) (map letter) (filter (accepted? M letter) (orders may w))
          (λ v m. map_twice letter' f v ∙ map-ok v (orders_ok w h v (filter_at (accepted? M letter) (orders may w) m).0)))
        where
          map-ok : (v : List ℕ) → T (all ok v) → map (λ a. letter' (f a)) v ≡ map letter v
          map-ok [] h = refl
          map-ok (a ∷ v) h = ap₂ ◌∷◌ (same_letter a (fst_of (ok a) (all ok v) h)) (map-ok v (snd_of (ok a) (all ok v) h))
