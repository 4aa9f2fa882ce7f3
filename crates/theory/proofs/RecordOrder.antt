-- The order of records: by total, and within one total by the counts, letter 0 first, the smaller first; no other list of the prefixes is in it.
use mathlib.Core.Path.{◌≡◌, refl, sym, ◌∙◌, ap, ap₂, subst}
use mathlib.Core.Bool.{Bool}
use mathlib.Core.Logic.{⊎_elim, ◌↔◌}
use mathlib.Core.List.Memᴰ
use mathlib.Core.List.{List, [], ◌∷◌, map, map-append, tail-eq_of_cons-eq}
use Prim.Native.Nat.{ℕ, zero, suc, ◌≤◌, ◌<◌}
use native.Mathlib.Omega.{arith}
use lib.Dec.{T, eqb, eqb→eq}
use lib.ListN.{length, get_or}
use Rattle.profile.specs.Lists.{Mem, flat_map, range}
use Rattle.profile.specs.Orders.{Earlier, NoLater, agrees, smaller}
use Rattle.profile.specs.Prefixes.{by_total, level, prefixes, ranked, total}
use Rattle.profile.specs.Traces.{letters_below}
use Rattle.profile.proofs.Lists.{filter_at, mem_getd}
use Rattle.theory.proofs.Levels.{by_total_at, by_total_of}
use Rattle.theory.proofs.LetterOrder.{earlier_irrefl, earlier_trans}
use Rattle.theory.proofs.Merge.{Sorted, append_sorted, level_sorted}

-- ---- by total and counts

-- counts of one total are in the order of the counts
ranked_same : (n : ℕ) (l : List (List ℕ)) → ((c : List ℕ) → Mem c l → total c ≡ n) → Sorted l → Sorted (map ranked l)
ranked_same n [] h s = tt
ranked_same n (c ∷ l) h s = (
  (λ d m.
      let x = Memᴰ.of_map ranked l m in
      let e : total c ≡ total x.0 = h c (Memᴰ.head refl) ∙ sym (h x.0 (Memᴰ.tail x.1)) in
      let k = s.0 x.0 x.1 in
      subst (Earlier (ranked c)) x.2 (agrees e k.0, λ q. k.1 (tail-eq_of_cons-eq q))),
  ranked_same n l (λ d m. h d (Memᴰ.tail m)) s.1,
)

-- what stands before has no larger total
pub ranked_total : (c d : List ℕ) → Earlier (ranked c) (ranked d) → total c ≤ total d
ranked_total c d h = go h.0
  where
    go : {m n : ℕ} {u v : List ℕ} → NoLater (m ∷ u) (n ∷ v) → m ≤ n
    go (smaller h) = omega arith
    go (agrees e h) = omega arith

pub ranked_getd : (l : List (List ℕ)) → Sorted (map ranked l) → (i j : ℕ) → i < j → j < length l → Earlier (ranked (get_or l i [])) (ranked (get_or l j []))
ranked_getd [] s i j h k = absurd (omega arith)
ranked_getd (c ∷ l) s i zero h k = absurd (omega arith)
ranked_getd (c ∷ l) s zero (suc j) h k = s.0 (ranked (get_or l j [])) (Memᴰ.map ranked (mem_getd l j [] (omega arith)))
ranked_getd (c ∷ l) s (suc i) (suc j) h k = ranked_getd l s.1 i j (omega arith) (omega arith)

-- a smaller total stands before
ranked_less : (c d : List ℕ) → total c < total d → Earlier (ranked c) (ranked d)
ranked_less c d h = (smaller h, λ e. let z : total c ≡ total d = ap first e in omega arith)
  where
    first : List ℕ → ℕ
    first [] = 0
    first (n ∷ l) = n

module _ (may : ℕ → ℕ → Bool) (letter : ℕ → ℕ) (k : ℕ) (w : List ℕ) where
  of_level : (n : ℕ) (c : List ℕ) → Mem c (level may letter k w n) → total c ≡ n
  of_level n c m = eqb→eq (total c) n (filter_at (λ d. eqb (total d) n) (prefixes may letter k w) m).1

  -- the prefixes of one total are in order
  pub level_ranked : (n : ℕ) → Sorted (map ranked (level may letter k w n))
  level_ranked n = ranked_same n (level may letter k w n) (of_level n) (level_sorted may letter k w n)

  levels_sorted : (n a : ℕ) → Sorted (map ranked (flat_map (level may letter k w) (range a n)))
      × ((c : List ℕ) → Mem c (flat_map (level may letter k w) (range a n)) → a ≤ total c)
  levels_sorted zero a = (tt, λ c m. absurd (Memᴰ.not-nil m))
  levels_sorted (suc n) a =
      let l = level may letter k w a in
      let r = flat_map (level may letter k w) (range (suc a) n) in
      let ih = levels_sorted n (suc a) in
      let e = map-append ranked l r in (
        rw e (append_sorted (map ranked l) (map ranked r) (level_ranked a) ih.0
            (λ c d i j.
            let x = Memᴰ.of_map ranked l i in
            let y = Memᴰ.of_map ranked r j in
            subst (λ z. Earlier z d) x.2 (subst (Earlier (ranked x.0)) y.2 (ranked_less x.0 y.0 (omega (arith, of_level a x.0 x.1, ih.1 y.0 y.1)))))),
        λ c m. ⊎_elim (λ i. omega (arith, of_level a c i)) (λ i. omega (arith, ih.1 c i)) (Memᴰ.append_cases l m),
      )

  -- "Within one total, records now stand by their counts, the count of letter 0 first, the smaller first"
  pub by_total_sorted : Sorted (map ranked (by_total may letter k w))
  by_total_sorted = (levels_sorted (suc (length w)) 0).0

-- ---- the only such list

-- two lists in order with the same elements are the same
sorted_unique : (l r : List (List ℕ)) → Sorted (map ranked l) → Sorted (map ranked r) → ((c : List ℕ) → Mem c l → Mem c r) → ((c : List ℕ) → Mem c r → Mem c l) → l ≡ r
sorted_unique [] [] s t f g = refl
sorted_unique [] (d ∷ r) s t f g = absurd (Memᴰ.not-nil (g d (Memᴰ.head refl)))
sorted_unique (c ∷ l) [] s t f g = absurd (Memᴰ.not-nil (f c (Memᴰ.head refl)))
sorted_unique (c ∷ l) (d ∷ r) s t f g = ap₂ ◌∷◌ e (sorted_unique l r s.1 t.1 (λ x m. rest x m) (λ x m. back x m))
  where
    e : c ≡ d
    e = ⊎_elim (λ q. q) (λ m. ⊎_elim (λ q. sym q)
        (λ n. absurd (earlier_irrefl (ranked c) (earlier_trans (s.0 (ranked d) (Memᴰ.map ranked n)) (t.0 (ranked c) (Memᴰ.map ranked m)))))
        (Memᴰ.cases_cons (g d (Memᴰ.head refl)))) (Memᴰ.cases_cons (f c (Memᴰ.head refl)))

    rest : (x : List ℕ) → Mem x l → Mem x r
    rest x m = ⊎_elim (λ q. absurd (earlier_irrefl (ranked c) (subst (λ z. Earlier (ranked c) (ranked z)) (q ∙ sym e) (s.0 (ranked x) (Memᴰ.map ranked m)))))
        (λ n. n) (Memᴰ.cases_cons (f x (Memᴰ.tail m)))

    back : (x : List ℕ) → Mem x r → Mem x l
    back x m = ⊎_elim (λ q. absurd (earlier_irrefl (ranked d) (subst (λ z. Earlier (ranked d) (ranked z)) (q ∙ e) (t.0 (ranked x) (Memᴰ.map ranked m)))))
        (λ n. n) (Memᴰ.cases_cons (g x (Memᴰ.tail m)))

pub by_total_only : (may : ℕ → ℕ → Bool) (letter : ℕ → ℕ) (k : ℕ) (w : List ℕ) → T (letters_below letter k w) → (l : List (List ℕ)) → Sorted (map ranked l)
    → ((c : List ℕ) → Mem c l ↔ Mem c (prefixes may letter k w)) → l ≡ by_total may letter k w
by_total_only may letter k w h l s f = sorted_unique l (by_total may letter k w) s (by_total_sorted may letter k w)
    (λ c m. by_total_of may letter k w c h ((f c).0 m)) (λ c m. (f c).1 (by_total_at may letter k w c m))
