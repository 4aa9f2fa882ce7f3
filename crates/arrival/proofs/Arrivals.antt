-- The prefixes in order of arrival: each stands once, there are P of them, and the last has all events.
use mathlib.Core.Path.{◌≡◌, refl, sym, ◌∙◌, ap, subst}
use mathlib.Core.Bool.{Bool, true, ◌||◌}
use mathlib.Core.Logic.{⊎_elim, ◌≢◌}
use mathlib.Core.List.Memᴰ
use mathlib.Core.List.{List, [], ◌∷◌, ◌++◌, map, append_assoc, append-nil, nil≢cons}
use Prim.Native.Nat.{ℕ, suc, ◌+◌, ◌<◌}
use native.Mathlib.Omega.{arith}
use lib.Dec.{T, eqb, eqb_refl, ltb, ltb→lt}
use lib.ListN.{length, length-set, length-replicate, get_or-replicate, replicate, get_or-eq_default}
use lib.Seq.{ext_get_or}
use Rattle.profile.specs.Lists.{Mem, below, filter}
use Rattle.profile.specs.Traces.{letters_below}
use Rattle.profile.specs.Prefixes.{at, count, prefix_count, prefixes}
use Rattle.profile.proofs.Lists.{all_of, all_split, below_at, filter_last_yes, fst_of, lt_or_le, or_right}
use Rattle.theory.proofs.Counting.{at_map, length_range, prefix_count_of, prefixes_at, prefixes_of}
use Rattle.theory.proofs.Levels.{at_bump}
use Rattle.theory.proofs.Prefixes.{count_append}
use Rattle.arrival.specs.Arrival.{arrivals, arrive, arrive_all, joins?, with_one}
use Rattle.arrival.proofs.Events.{Listed, listed_next}

module _ (may : ℕ → ℕ → Bool) (k : ℕ) where
  -- events one by one, and one more
  arrive_all_last : (v w : List ℕ) (l : List (List ℕ)) (e : ℕ) → arrive_all may k w l (v ++ (e ∷ [])) ≡ arrive may k (w ++ v) e (arrive_all may k w l v)
  arrive_all_last [] w l e = ap (λ u. arrive may k u e l) (sym (append-nil w))
  arrive_all_last (a ∷ v) w l e = arrive_all_last v (w ++ (a ∷ [])) (arrive may k w a l) e
      ∙ ap (λ u. arrive may k u e (arrive_all may k (w ++ (a ∷ [])) (arrive may k w a l) v)) (append_assoc w (a ∷ []) v)

  pub arrivals_last : (w : List ℕ) (e : ℕ) → arrivals may k (w ++ (e ∷ [])) ≡ arrive may k w e (arrivals may k w)
  arrivals_last w e = arrive_all_last w [] (replicate k 0 ∷ []) e

  -- the counts of all events of w
  abbrev pub all_of_log : List ℕ → List ℕ
  all_of_log w = map (count (λ a. a) w) (below k)

  all_length : (w : List ℕ) → length (all_of_log w) ≡ k
  all_length w = length_range (count (λ a. a) w) k 0

  pub all_at_letter : (w : List ℕ) (x : ℕ) → x < k → at (all_of_log w) x ≡ count (λ a. a) w x
  all_at_letter w x lt = at_map (count (λ a. a) w) k 0 x lt ∙ ap (count (λ a. a) w) (add0 x)
    where
      add0 : (x : ℕ) → 0 + x ≡ x
      add0 x = omega arith

  all_next : (w : List ℕ) (e : ℕ) → e < k → with_one (all_of_log w) e ≡ all_of_log (w ++ (e ∷ []))
  all_next w e lt = ext_get_or 0 (with_one (all_of_log w) e) (all_of_log (w ++ (e ∷ []))) (length-set (all_of_log w) e (suc (at (all_of_log w) e)) ∙ all_length w ∙ sym (all_length (w ++ (e ∷ []))))
      (λ i h.
      let lt' : i < k = omega (arith, length-set (all_of_log w) e (suc (at (all_of_log w) e)), all_length w) in
      ap (λ f. f i) (at_bump (all_of_log w) e (omega (arith, all_length w))) ∙ omega (
        arith,
        all_at_letter w i lt',
        all_at_letter (w ++ (e ∷ [])) i lt',
        count_append may (λ a. a) w (e ∷ []) i,
      ))

  -- what holds of the empty log and is kept by every event holds of the prefixes in order of arrival
  module _ (Q : List ℕ → List (List ℕ) → Type 0)
      (step : (w : List ℕ) (l : List (List ℕ)) (e : ℕ) → T (letters_below (λ a. a) k (w ++ (e ∷ []))) → Q w l → Q (w ++ (e ∷ [])) (arrive may k w e l)) where
    arrive_all_keeps : (v w : List ℕ) (l : List (List ℕ)) → T (letters_below (λ a. a) k (w ++ v)) → Q w l → Q (w ++ v) (arrive_all may k w l v)
    arrive_all_keeps [] w l h q = subst (λ u. Q u l) (sym (append-nil w)) q
    arrive_all_keeps (a ∷ v) w l h q =
        let e = append_assoc w (a ∷ []) v in
        let h' = subst (λ u. T (letters_below (λ a. a) k u)) (sym e) h in
        subst (λ u. Q u (arrive_all may k (w ++ (a ∷ [])) (arrive may k w a l) v)) e
        (arrive_all_keeps v (w ++ (a ∷ [])) (arrive may k w a l) h' (step w l a (all_split (λ a. ltb a k) (w ++ (a ∷ [])) v h').0 q))

    pub arrivals_keep : (w : List ℕ) → T (letters_below (λ a. a) k w) → Q [] (replicate k 0 ∷ []) → Q w (arrivals may k w)
    arrivals_keep w h q = arrive_all_keeps w [] (replicate k 0 ∷ []) h q

  none_at : (i : ℕ) → at (replicate k 0) i ≡ 0
  none_at i = ⊎_elim (λ lt. get_or-replicate k i 0 0 lt) (λ le. get_or-eq_default (replicate k 0) 0 {n = i} (omega (arith, length-replicate {A = ℕ} k 0))) (lt_or_le i k)

  pub all_none : replicate k 0 ≡ all_of_log []
  all_none = ext_get_or 0 (replicate k 0) (all_of_log []) (length-replicate {A = ℕ} k 0 ∙ sym (all_length []))
      (λ i h. none_at i ∙ sym (all_at_letter [] i (omega (arith, length-replicate {A = ℕ} k 0))))

  -- all events join what has them all
  all_joins : (w : List ℕ) (e : ℕ) → T (joins? may k w e (all_of_log w))
  all_joins w e = all_of (λ b. may b e || eqb (at (all_of_log w) b) (count (λ x. x) w b)) (below k)
      (λ b m. or_right (may b e) (eqb (at (all_of_log w) b) (count (λ x. x) w b))
      (subst (λ z. T (eqb (at (all_of_log w) b) z)) (all_at_letter w b (below_at k b m)) (eqb_refl (at (all_of_log w) b))))

  -- the record of all events taken is the last
  abbrev pub EndsFull : List ℕ → List (List ℕ) → Type 0
  EndsFull w l = (m : List (List ℕ)) × (l ≡ m ++ (all_of_log w ∷ []))

  full_next : (w : List ℕ) (l : List (List ℕ)) (e : ℕ) → T (letters_below (λ a. a) k (w ++ (e ∷ []))) → EndsFull w l → EndsFull (w ++ (e ∷ [])) (arrive may k w e l)
  full_next w l e h n =
      let lt = ltb→lt e k (fst_of (ltb e k) true (all_split (λ a. ltb a k) w (e ∷ []) h).1) in
      let f = ap (filter (joins? may k w e)) n.1 ∙ filter_last_yes (joins? may k w e) n.0 (all_of_log w) (all_joins w e) in
      let g = ap (map (λ c. with_one c e)) f ∙ map_last (filter (joins? may k w e) n.0) (all_of_log w) ∙ ap (λ z. map (λ c. with_one c e) (filter (joins? may k w e) n.0) ++ (z ∷ [])) (all_next w e lt) in (
        l ++ map (λ c. with_one c e) (filter (joins? may k w e) n.0),
        ap (◌++◌ l) g ∙ sym (append_assoc l (map (λ c. with_one c e) (filter (joins? may k w e) n.0)) (all_of_log (w ++ (e ∷ [])) ∷ [])),
      )
    where
      map_last : (m : List (List ℕ)) (a : List ℕ) → map (λ c. with_one c e) (m ++ (a ∷ [])) ≡ map (λ c. with_one c e) m ++ (with_one a e ∷ [])
      map_last [] a = refl
      map_last (b ∷ m) a = ap (◌∷◌ (with_one b e)) (map_last m a)

  pub arrivals_full : (w : List ℕ) → T (letters_below (λ a. a) k w) → EndsFull w (arrivals may k w)
  arrivals_full w h = arrivals_keep EndsFull full_next w h ([], ap (λ c. c ∷ []) all_none)

  -- there is no prefix of the empty log but the empty one
  pub listed_none : Listed may k [] (replicate k 0 ∷ [])
  listed_none = record {
    once = ((λ m. Memᴰ.not-nil m), tt);
    into = λ c m. ⊎_elim
        (λ e. subst (λ z. Mem z (prefixes may (λ a. a) k [])) (sym e)
        (prefixes_of may (λ a. a) k [] (replicate k 0) (length-replicate {A = ℕ} k 0) (record { fits = λ x. omega (arith, none_at x); closed = λ u v x a b q lt no-may. absurd (nil≢middle u a (v ++ (b ∷ x)) q) })))
        (λ n. absurd (Memᴰ.not-nil n)) (Memᴰ.cases_cons m);
    onto = λ c m.
        let p = prefixes_at may (λ a. a) k [] c tt m in
        Memᴰ.head (ext_get_or 0 c (replicate k 0) (p.0 ∙ sym (length-replicate {A = ℕ} k 0)) (λ i h. omega (arith, p.1.fits i, none_at i)));
  }
    where
      nil≢middle : (u : List ℕ) (a : ℕ) (v : List ℕ) → [] ≡ u ++ (a ∷ v) → ⊥
      nil≢middle [] a v q = nil≢cons q
      nil≢middle (b ∷ u) a v q = nil≢cons q

  module _ (distinct : (a b : ℕ) → T (may a b) → a ≢ b) (w : List ℕ) (letters : T (letters_below (λ a. a) k w)) where
    -- every prefix stands once in order of arrival, and nothing else
    pub arrivals_listed : Listed may k w (arrivals may k w)
    arrivals_listed = arrivals_keep (Listed may k) (λ w l e h q. listed_next may distinct k w e h q) w letters listed_none

    -- so there are P of them
    pub arrivals_count : length (arrivals may k w) ≡ prefix_count may (λ a. a) k w
    arrivals_count = prefix_count_of may (λ a. a) k w (arrivals may k w) arrivals_listed.once arrivals_listed.into arrivals_listed.onto
