-- A prefix stands behind every prefix that it has one letter more than.
use mathlib.Core.Path.{◌≡◌, refl, sym, ◌∙◌, ap, subst, subst₂}
use mathlib.Core.Bool.{Bool}
use mathlib.Core.Logic.{◌⊎◌, inl, inr, ⊎_elim, ◌≢◌}
use mathlib.Core.List.Memᴰ
use mathlib.Core.List.{List, [], ◌∷◌, ◌++◌}
use Prim.Native.Nat.{ℕ, suc, ◌+◌, ◌<◌, ◌≤◌}
use native.Mathlib.Omega.{arith}
use lib.Dec.{T}
use lib.ListN.{length, length-replicate, length-set, replicate}
use lib.Seq.{ext_get_or}
use Rattle.profile.specs.Lists.{Mem, filter}
use Rattle.profile.specs.Traces.{letters_below}
use Rattle.profile.specs.Prefixes.{at, count, one}
use Rattle.theory.proofs.Levels.{at_bump}
use Rattle.theory.proofs.Prefixes.{one_cases, one_same}
use Rattle.arrival.specs.Arrival.{arrivals, arrive, joins?, newcomers, with_one}
use Rattle.arrival.proofs.Arrivals.{arrivals_keep, listed_none}
use Rattle.arrival.proofs.Events.{Listed, come, listed_next, low, more_than, sized}
use Rattle.arrival.proofs.Before.{Before, begins, behind, before_across, before_cases, before_filter, before_left, before_map, before_mem, before_right, before_unfilter, before_unmap}

-- counts of k letters with one b more, letter by letter
pub one_more_at : (d : List ℕ) (b k : ℕ) → length d ≡ k → b < k → (x : ℕ) → at (with_one d b) x ≡ one b x + at d x
one_more_at d b k e lt x = ap (λ f. f x) (at_bump d b (omega (arith, e, lt)))

-- taking one e away from both sides
pub take_away : (c d : List ℕ) (b e k : ℕ) → length c ≡ k → length d ≡ k → b < k → e < k → with_one (with_one d e) b ≡ with_one c e → with_one d b ≡ c
take_away c d b e k lc ld lb le q = ext_get_or 0 (with_one d b) c (length-set d b (suc (at d b)) ∙ ld ∙ sym lc)
    (λ x h. omega (
      arith,
      one_more_at d b k ld lb x,
      one_more_at (with_one d e) b k (length-set d e (suc (at d e)) ∙ ld) lb x,
      one_more_at d e k ld le x,
      one_more_at c e k lc le x,
      ap (λ z. at z x) q,
    ))

-- one b less of both, where b is e
pub same_less : (c d : List ℕ) (b e k : ℕ) → length c ≡ k → length d ≡ k → b < k → e < k → b ≡ e → with_one c b ≡ with_one d e → c ≡ d
same_less c d b e k lc ld lb le i q = ext_get_or 0 c d (lc ∙ sym ld)
    (λ x h. omega (arith, one_more_at c b k lc lb x, one_more_at d e k ld le x, ap (λ z. at z x) q, ap (λ j. one j x) i))

module _ (may : ℕ → ℕ → Bool) (distinct : (a b : ℕ) → T (may a b) → a ≢ b) (k : ℕ) where
  -- each prefix of the list stands behind those that it has one letter more than
  abbrev pub Inner : List (List ℕ) → Type 0
  Inner l = (b : ℕ) (c d : List ℕ) → b < k → Mem c l → Mem d l → with_one d b ≡ c → Before l d c

  inner_next : (w : List ℕ) (l : List (List ℕ)) (e : ℕ) → T (letters_below (λ a. a) k (w ++ (e ∷ []))) → Listed may k w l → Inner l → Inner (arrive may k w e l)
  inner_next w l e letters h ih b c d lb mc md q = ⊎_elim
      (λ c₁. ⊎_elim
      (λ d₁. before_left (newcomers may k w e l) (ih b c d lb c₁ d₁ q))
      (λ d₂.
      let s = sized may distinct k w e letters h c c₁ in
      absurd (omega (arith, s.2.fits e, more_than may distinct k w e letters h d d₂, ap (λ z. at z e) q, one_more_at d b k (new-length d d₂) lb e)))
      (Memᴰ.append_cases l md))
      (λ c₂. ⊎_elim
      (λ d₁. before_across l d₁ c₂)
      (λ d₂.
      let u = come may distinct k w e letters h c₂ in
      let v = come may distinct k w e letters h d₂ in
      let i = sized may distinct k w e letters h u.0 u.1 in
      let j = sized may distinct k w e letters h v.0 v.1 in
      let z = take_away u.0 v.0 b e k i.1 j.1 lb (low may distinct k w e letters) (ap (λ x. with_one x b) v.3 ∙ q ∙ sym u.3) in
      before_right l (subst₂ (Before (newcomers may k w e l)) v.3 u.3
      (before_map (λ x. with_one x e) (before_filter (joins? may k w e) v.2 u.2 (ih b u.0 v.0 lb u.1 v.1 z)))))
      (Memᴰ.append_cases l md))
      (Memᴰ.append_cases l mc)
    where
      new-length : (d : List ℕ) → Mem d (newcomers may k w e l) → length d ≡ k
      new-length d m =
          let v = come may distinct k w e letters h m in
          ap length (sym v.3) ∙ length-set v.0 e (suc (at v.0 e)) ∙ (sized may distinct k w e letters h v.0 v.1).1

  inner_none : Inner (replicate k 0 ∷ [])
  inner_none b c d lb mc md q = ⊎_elim
      (λ ec. ⊎_elim
      (λ ed. absurd (omega (arith, one_same b, one_more_at d b k (ap length ed ∙ length-replicate {A = ℕ} k 0) lb b, ap (λ z. at z b) (q ∙ ec ∙ sym ed))))
      (λ n. absurd (Memᴰ.not-nil n)) (Memᴰ.cases_cons md))
      (λ n. absurd (Memᴰ.not-nil n)) (Memᴰ.cases_cons mc)

  -- "a prefix stands after every prefix inside it"
  pub arrivals_inner : (w : List ℕ) → T (letters_below (λ a. a) k w) → Inner (arrivals may k w)
  arrivals_inner w letters = (arrivals_keep may k (λ w l. Listed may k w l × Inner l)
      (λ w l e h q. (listed_next may distinct k w e h q.0, inner_next w l e h q.0 q.1)) w letters (listed_none may k, inner_none)).1

module _ (may : ℕ → ℕ → Bool) (distinct : (a b : ℕ) → T (may a b) → a ≢ b) (k : ℕ) where
  -- among prefixes with the same count of b, taking one b away keeps the order
  abbrev pub Kept : List (List ℕ) → Type 0
  Kept l = (b : ℕ) (x c y d : List ℕ) → b < k → Before l x c → Mem y l → Mem d l → with_one y b ≡ x → with_one d b ≡ c → at x b ≡ at c b → Before l y d

  module _ (w : List ℕ) (l : List (List ℕ)) (e : ℕ) (letters : T (letters_below (λ a. a) k (w ++ (e ∷ [])))) (h : Listed may k w l) where
    pub old_count : (c : List ℕ) → Mem c l → (length c ≡ k) × (at c e ≤ count (λ x. x) w e)
    old_count c m = let s = sized may distinct k w e letters h c m in (s.1, s.2.fits e)

    pub new_count : (c : List ℕ) → Mem c (newcomers may k w e l) → (length c ≡ k) × (at c e ≡ suc (count (λ x. x) w e))
    new_count c m =
        let v = come may distinct k w e letters h m in
        (ap length (sym v.3) ∙ length-set v.0 e (suc (at v.0 e)) ∙ (sized may distinct k w e letters h v.0 v.1).1, more_than may distinct k w e letters h c m)

    -- what gives an old prefix is old; what gives a new one is new, or the event itself is taken away
    pub gives_old : (b : ℕ) (c d : List ℕ) → b < k → Mem c l → with_one d b ≡ c → Mem d (arrive may k w e l) → Mem d l
    gives_old b c d lb m q n = ⊎_elim (λ z. z)
        (λ z. absurd (omega (arith, (old_count c m).1, (new_count d z).1, ap (λ u. at u e) q, one_more_at d b k (new_count d z).0 lb e)))
        (Memᴰ.append_cases l n)

    pub gives_new : (b : ℕ) (c d : List ℕ) → b < k → Mem c (newcomers may k w e l) → with_one d b ≡ c → Mem d (arrive may k w e l)
        → (Mem d l × (b ≡ e)) ⊎ (Mem d (newcomers may k w e l) × (one b e ≡ 0))
    gives_new b c d lb m q n = ⊎_elim
        (λ z. inl (z, ⊎_elim (λ i. i) (λ o. absurd (omega (arith, o, (old_count d z).1, (new_count c m).1, ap (λ u. at u e) q, one_more_at d b k (old_count d z).0 lb e))) (one_cases b e)))
        (λ z. inr (z, omega (arith, (new_count d z).1, (new_count c m).1, ap (λ u. at u e) q, one_more_at d b k (new_count d z).0 lb e)))
        (Memᴰ.append_cases l n)

    kept_next : Kept l → Kept (arrive may k w e l)
    kept_next ih b x c y d lb bf my md qy qd eq = ⊎_elim
        (λ b₁.
        let m = before_mem b₁ in
        before_left (newcomers may k w e l) (ih b x c y d lb b₁ (gives_old b x y lb m.0 qy my) (gives_old b c d lb m.1 qd md) qy qd eq))
        (λ r. ⊎_elim (λ b₂. both-new b₂) (λ z. across z.0 z.1) r)
        (before_cases l (newcomers may k w e l) bf)
      where
        across : Mem x l → Mem c (newcomers may k w e l) → Before (arrive may k w e l) y d
        across mx mc = ⊎_elim
            (λ z. absurd (omega (arith, (old_count x mx).1, (new_count c mc).1, subst (λ i. at x i ≡ at c i) z.1 eq)))
            (λ z. before_across l (gives_old b x y lb mx qy my) z.0)
            (gives_new b c d lb mc qd md)

        both-new : Before (newcomers may k w e l) x c → Before (arrive may k w e l) y d
        both-new b₂ =
            let m = before_mem b₂ in
            let u = before_unmap (λ z. with_one z e) (filter (joins? may k w e) l) b₂ in
            let bl = before_unfilter (joins? may k w e) l u.2 in
            let v = before_mem bl in
            let le = low may distinct k w e letters in
            let lx = (sized may distinct k w e letters h u.0 v.0).1 in
            let lc = (sized may distinct k w e letters h u.1 v.1).1 in
            ⊎_elim
            (λ z. ⊎_elim
            (λ z'. before_left (newcomers may k w e l)
            (subst₂ (Before l) (sym (same_less y u.0 b e k (old_count y z.0).0 lx lb le z.1 (qy ∙ sym u.3))) (sym (same_less d u.1 b e k (old_count d z'.0).0 lc lb le z'.1 (qd ∙ sym u.4))) bl))
            (λ z'. absurd (omega (arith, z'.1, one_same e, ap (λ i. one i e) z.1)))
            (gives_new b c d lb m.1 qd md))
            (λ z. ⊎_elim
            (λ z'. absurd (omega (arith, z.1, one_same e, ap (λ i. one i e) z'.1)))
            (λ z'.
            let s = come may distinct k w e letters h z.0 in
            let t = come may distinct k w e letters h z'.0 in
            let ls = (sized may distinct k w e letters h s.0 s.1).1 in
            let lt = (sized may distinct k w e letters h t.0 t.1).1 in
            let qs = take_away u.0 s.0 b e k lx ls lb le (ap (λ i. with_one i b) s.3 ∙ qy ∙ sym u.3) in
            let qt = take_away u.1 t.0 b e k lc lt lb le (ap (λ i. with_one i b) t.3 ∙ qd ∙ sym u.4) in
            let ee : at u.0 b ≡ at u.1 b = omega (arith, eq, ap (λ i. at i b) u.3, ap (λ i. at i b) u.4, one_more_at u.0 e k lx le b, one_more_at u.1 e k lc le b) in
            before_right l (subst₂ (Before (newcomers may k w e l)) s.3 t.3
            (before_map (λ i. with_one i e) (before_filter (joins? may k w e) s.2 t.2 (ih b u.0 u.1 s.0 t.0 lb bl s.1 t.1 qs qt ee)))))
            (gives_new b c d lb m.1 qd md))
            (gives_new b x y lb m.0 qy my)

  pub single : {a c d : List ℕ} {l : List (List ℕ)} → l ≡ [] → Before (a ∷ l) c d → ⊥
  single {d = d} e (begins m) = Memᴰ.not-nil (subst (Mem d) e m)
  single {c = c} {d = d} e (behind b) = Memᴰ.not-nil (before_mem (subst (λ z. Before z c d) e b)).0

  -- "the map r ↦ r − b keeps the order among records with the same count of b"
  pub arrivals_kept : (w : List ℕ) → T (letters_below (λ a. a) k w) → Kept (arrivals may k w)
  arrivals_kept w letters = (arrivals_keep may k (λ w l. Listed may k w l × Kept l)
      (λ w l e h q. (listed_next may distinct k w e h q.0, kept_next w l e h q.0 q.1)) w letters
      (listed_none may k, λ b x c y d lb bf my md qy qd eq. absurd (single refl bf))).1
