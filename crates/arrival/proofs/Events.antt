-- The prefixes of a log with one event more, from those of the log: each stands once, in order of arrival.
use mathlib.Core.Path.{◌≡◌, refl, sym, ◌∙◌, ap, subst}
use mathlib.Core.Bool.{Bool, true, ◌||◌}
use mathlib.Core.Logic.{◌⊎◌, inl, inr, ⊎_elim, ◌≢◌}
use mathlib.Core.List.Memᴰ
use mathlib.Core.List.{List, [], ◌∷◌, ◌++◌}
use Prim.Native.Nat.{ℕ, suc, ◌<◌}
use native.Mathlib.Omega.{arith}
use lib.Dec.{T, T_not, eqb, eqb→eq, eqb_refl, ltb, ltb→lt}
use lib.ListN.{length, length-set}
use lib.Seq.{ext_get_or}
use Rattle.profile.specs.Lists.{Mem, all, below, filter}
use Rattle.profile.specs.Traces.{letters_below, orders}
use Rattle.profile.specs.Automata.{Automaton, run, union}
use Rattle.profile.specs.Prefixes.{IsPrefix, at, count, forward, prefixes, unmarked}
use Rattle.profile.proofs.Lists.{NoDup, all_at, all_of, all_split, append_nodup, below_of, both, either, filter_at, filter_nodup, filter_of, fst_of, map_nodup_on, or_left, or_right, snd_of, test}
use Rattle.theory.proofs.Counting.{prefixes_at, prefixes_of}
use Rattle.theory.proofs.Levels.{at_bump, debump}
use Rattle.theory.proofs.Prefixes.{count_front, count_of_prefix, front_of_prefix, front_rest, one_other, one_same}
use Rattle.arrival.specs.Arrival.{arrive, joins?, newcomers, with_one}
use Rattle.arrival.proofs.Ends.{add_prefix, keep_marked, keep_prefix, last_cases}

-- a letter of which r has none may be or may not be passed
module _ (may : ℕ → ℕ → Bool) (e : ℕ) where
  passed_none : (b : ℕ) → (T (may b e) → ⊥) → (r : List ℕ) → T (all (λ a. may a e) r) → count (λ a. a) r b ≡ 0
  passed_none b bar [] h = refl
  passed_none b bar (a ∷ r) h =
      let t = fst_of (may a e) (all (λ a. may a e) r) h in
      omega (arith, one_other a b (λ i. bar (subst (λ x. T (may x e)) i t)), passed_none b bar r (snd_of (may a e) (all (λ a. may a e) r) h))

  none_passed : (k : ℕ) (r : List ℕ) → T (letters_below (λ a. a) k r) → ((b : ℕ) → b < k → T (may b e) ⊎ (count (λ a. a) r b ≡ 0)) → T (all (λ a. may a e) r)
  none_passed k [] l h = tt
  none_passed k (a ∷ r) l h = both (may a e) (all (λ a. may a e) r)
      (⊎_elim (λ t. t) (λ z. absurd (omega (arith, z, one_same a))) (h a (ltb→lt a k (fst_of (ltb a k) (all (λ a. ltb a k) r) l))))
      (none_passed k r (snd_of (ltb a k) (all (λ a. ltb a k) r) l) (λ b lt. ⊎_elim (λ t. inl t) (λ z. inr (omega (arith, z))) (h b lt)))

module _ (may : ℕ → ℕ → Bool) (distinct : (a b : ℕ) → T (may a b) → a ≢ b) (k : ℕ) (w : List ℕ) (e : ℕ) (before : T (letters_below (λ a. a) k w)) where
  -- the test by counts says that e may pass every unmarked event
  pub joins_at : (c : List ℕ) → IsPrefix may (λ a. a) w (at c) → T (joins? may k w e c) → T (all (λ a. may a e) (unmarked (λ a. a) w (at c)))
  joins_at c p t = none_passed may e k (unmarked (λ a. a) w (at c)) (front_rest may (front_of_prefix may (λ a. a) p) (λ a. ltb a k) before)
      (λ b lt. ⊎_elim (λ y. inl y)
      (λ q. inr (omega (
        arith,
        eqb→eq (at c b) (count (λ x. x) w b) q,
        count_front may (λ a. a) (front_of_prefix may (λ a. a) p) b,
        ap (λ f. f b) (count_of_prefix may (λ a. a) p),
      )))
      (either (may b e) (eqb (at c b) (count (λ x. x) w b)) (all_at (λ b. may b e || eqb (at c b) (count (λ x. x) w b)) t (below_of k b lt))))

  pub joins_of : (c : List ℕ) → IsPrefix may (λ a. a) w (at c) → T (all (λ a. may a e) (unmarked (λ a. a) w (at c))) → T (joins? may k w e c)
  joins_of c p t = all_of (λ b. may b e || eqb (at c b) (count (λ x. x) w b)) (below k)
      (λ b m. ⊎_elim (λ y. or_left (may b e) (eqb (at c b) (count (λ x. x) w b)) y)
      (λ n.
      let eq : at c b ≡ count (λ x. x) w b = omega (
        arith,
        passed_none may e b (T_not (may b e) n) (unmarked (λ a. a) w (at c)) t,
        count_front may (λ a. a) (front_of_prefix may (λ a. a) p) b,
        ap (λ f. f b) (count_of_prefix may (λ a. a) p),
      ) in
      or_right (may b e) (eqb (at c b) (count (λ x. x) w b)) (subst (λ z. T (eqb (at c b) z)) eq (eqb_refl (at c b))))
      (test (may b e)))

  -- what joins has all events of e's own letter
  pub joins_own : (c : List ℕ) → e < k → T (joins? may k w e c) → at c e ≡ count (λ x. x) w e
  joins_own c lt t = ⊎_elim (λ y. absurd (distinct e e y refl)) (λ q. eqb→eq (at c e) (count (λ x. x) w e) q)
      (either (may e e) (eqb (at c e) (count (λ x. x) w e)) (all_at (λ b. may b e || eqb (at c b) (count (λ x. x) w b)) t (below_of k e lt)))

-- l has exactly the prefixes of w, each once
pub record Listed (may : ℕ → ℕ → Bool) (k : ℕ) (w : List ℕ) (l : List (List ℕ)) : Type 0 where
  pub once : NoDup l
  pub into : (c : List ℕ) → Mem c l → Mem c (prefixes may (λ a. a) k w)
  pub onto : (c : List ℕ) → Mem c (prefixes may (λ a. a) k w) → Mem c l

module _ (may : ℕ → ℕ → Bool) (distinct : (a b : ℕ) → T (may a b) → a ≢ b) (k : ℕ) (w : List ℕ) (e : ℕ) (letters : T (letters_below (λ a. a) k (w ++ (e ∷ [])))) where
  pub low : e < k
  low = ltb→lt e k (fst_of (ltb e k) true (all_split (λ a. ltb a k) w (e ∷ []) letters).1)

  before : T (letters_below (λ a. a) k w)
  before = (all_split (λ a. ltb a k) w (e ∷ []) letters).0

  module _ {l : List (List ℕ)} (h : Listed may k w l) where
    -- a list of counts in l: a prefix, with a count for e's letter
    pub sized : (c : List ℕ) → Mem c l → (e < length c) × (length c ≡ k) × IsPrefix may (λ a. a) w (at c)
    sized c m = let p = prefixes_at may (λ a. a) k w c before (h.into c m) in (omega (arith, p.0, low), p.0, p.1)

    pub come : {c : List ℕ} → Mem c (newcomers may k w e l) → (d : List ℕ) × Mem d l × T (joins? may k w e d) × (with_one d e ≡ c)
    come m =
        let d = Memᴰ.of_map (λ c. with_one c e) (filter (joins? may k w e) l) m in
        let s = filter_at (joins? may k w e) l d.1 in
        (d.0, s.0, s.1, d.2)

    arrive_into : (c : List ℕ) → Mem c (arrive may k w e l) → Mem c (prefixes may (λ a. a) k (w ++ (e ∷ [])))
    arrive_into c m = ⊎_elim
        (λ n. let p = sized c n in prefixes_of may (λ a. a) k (w ++ (e ∷ [])) c p.1 (keep_prefix may distinct w e (at c) p.2))
        (λ n.
        let d = come n in
        let p = sized d.0 d.1 in
        subst (λ z. Mem z (prefixes may (λ a. a) k (w ++ (e ∷ [])))) d.3
        (prefixes_of may (λ a. a) k (w ++ (e ∷ [])) (with_one d.0 e) (length-set d.0 e (suc (at d.0 e)) ∙ p.1)
        (subst (IsPrefix may (λ a. a) (w ++ (e ∷ []))) (sym (at_bump d.0 e p.0))
        (add_prefix may distinct w e (at d.0) p.2 (joins_at may distinct k w e before d.0 p.2 d.2)))))
        (Memᴰ.append_cases l m)

    arrive_onto : (c : List ℕ) → Mem c (prefixes may (λ a. a) k (w ++ (e ∷ []))) → Mem c (arrive may k w e l)
    arrive_onto c m =
        let p = prefixes_at may (λ a. a) k (w ++ (e ∷ [])) c letters m in
        ⊎_elim
        (λ q. Memᴰ.append_left (newcomers may k w e l) (h.onto c (prefixes_of may (λ a. a) k w c p.0 q)))
        (λ n.
        let b = debump c e n.0 (omega (arith, p.0, low)) n.2 in
        let q = subst (IsPrefix may (λ a. a) w) (sym b.2) n.1 in
        Memᴰ.append_right l (subst (λ z. Mem z (newcomers may k w e l)) b.3
        (Memᴰ.map (λ c. with_one c e) (filter_of (joins? may k w e) (h.onto b.0 (prefixes_of may (λ a. a) k w b.0 (b.1 ∙ p.0) q))
        (joins_of may distinct k w e before b.0 q (subst (λ f. T (all (λ a. may a e) (unmarked (λ a. a) w f))) (sym b.2) n.3))))))
        (last_cases may distinct w e (at c) p.1)

    -- a newcomer has one event of e's letter more than w
    pub more_than : (c : List ℕ) → Mem c (newcomers may k w e l) → at c e ≡ suc (count (λ x. x) w e)
    more_than c n =
        let d = come n in
        omega (
          arith,
          joins_own may distinct k w e before d.0 low d.2,
          one_same e,
          ap (λ f. f e) (sym (ap (λ z. at z) d.3) ∙ at_bump d.0 e (sized d.0 d.1).0),
        )

    arrive_once : NoDup (arrive may k w e l)
    arrive_once = append_nodup l (newcomers may k w e l) h.once
        (map_nodup_on (λ c. with_one c e) (filter (joins? may k w e) l)
        (λ a b m n q.
        let u = sized a (filter_at (joins? may k w e) l m).0 in
        let v = sized b (filter_at (joins? may k w e) l n).0 in
        ext_get_or 0 a b (u.1 ∙ sym v.1) (λ i j. omega (arith, ap (λ f. f i) (sym (at_bump a e u.0) ∙ ap (λ z. at z) q ∙ at_bump b e v.0))))
        (filter_nodup (joins? may k w e) l h.once))
        (λ c m n. omega (arith, (sized c m).2.fits e, more_than c n))

    -- after one event more
    pub listed_next : Listed may k (w ++ (e ∷ [])) (arrive may k w e l)
    listed_next = record { once = arrive_once; into = arrive_into; onto = arrive_onto }

  -- a prefix without e keeps its forward set
  pub forward_keep : (M : Automaton) (c : ℕ → ℕ) → IsPrefix may (λ a. a) w c → forward may (λ a. a) M (w ++ (e ∷ [])) c ≡ forward may (λ a. a) M w c
  forward_keep M c p = ap (λ l. union (run M (λ a. a) M.start) (orders may l)) (keep_marked may distinct w e c p)
