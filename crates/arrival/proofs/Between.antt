-- Between a prefix with one b less and the prefix itself, in order of arrival: none has more b, and one with as many also has a prefix with one b less.
use mathlib.Core.Path.{◌≡◌, refl, sym, ◌∙◌, ap, subst, subst₂}
use mathlib.Core.Bool.{Bool, not, ◌||◌}
use mathlib.Core.Logic.{◌⊎◌, inl, inr, ⊎_elim, ◌≢◌}
use mathlib.Core.List.Memᴰ
use mathlib.Core.List.{List, [], ◌∷◌, ◌++◌}
use Prim.Native.Nat.{ℕ, suc, ◌≤◌, ◌<◌}
use native.Mathlib.Omega.{arith}
use lib.Dec.{T, T_not, eqb, eqb→eq, eqb_refl}
use lib.ListN.{length, length-set}
use lib.Seq.{ext_get_or}
use Rattle.profile.specs.Lists.{Mem, below, filter}
use Rattle.profile.specs.Traces.{letters_below}
use Rattle.profile.specs.Prefixes.{at, count, one}
use Rattle.profile.proofs.Lists.{all_at, all_of, either, filter_of, or_left, or_right, test}
use Rattle.theory.proofs.Prefixes.{one_cases, one_same}
use Rattle.arrival.specs.Arrival.{arrivals, arrive, joins?, newcomers, with_one}
use Rattle.arrival.proofs.Arrivals.{arrivals_keep, listed_none}
use Rattle.arrival.proofs.Events.{Listed, come, listed_next, low}
use Rattle.arrival.proofs.Inner.{gives_new, gives_old, new_count, old_count, one_more_at, same_less, single, take_away}
use Rattle.arrival.proofs.Before.{Before, before_cases, before_mem, before_unfilter, before_unmap}

-- one more of two letters, in either order
one_and_one : (d : List ℕ) (b e k : ℕ) → length d ≡ k → b < k → e < k → with_one (with_one d e) b ≡ with_one (with_one d b) e
one_and_one d b e k l lb le =
    let le₁ = length-set d e (suc (at d e)) ∙ l in
    let lb₁ = length-set d b (suc (at d b)) ∙ l in
    ext_get_or 0 (with_one (with_one d e) b) (with_one (with_one d b) e)
    (length-set (with_one d e) b (suc (at (with_one d e) b)) ∙ le₁ ∙ sym lb₁ ∙ sym (length-set (with_one d b) e (suc (at (with_one d b) e))))
    (λ x h. omega (arith, one_more_at (with_one d e) b k le₁ lb x, one_more_at d e k l le x, one_more_at (with_one d b) e k lb₁ le x, one_more_at d b k l lb x))

module _ (may : ℕ → ℕ → Bool) (distinct : (a b : ℕ) → T (may a b) → a ≢ b) (k : ℕ) where
  -- y with one b more is c, and d stands from y on and before c
  abbrev pub Between : List (List ℕ) → Type 0
  Between l = (b : ℕ) (y d c : List ℕ) → b < k → Mem y l → with_one y b ≡ c → (y ≡ d) ⊎ Before l y d → Before l d c
      → (at d b ≤ at c b) × (at d b ≡ at c b → (x : List ℕ) × Mem x l × (with_one x b ≡ d))

  module _ (w : List ℕ) (l : List (List ℕ)) (e : ℕ) (letters : T (letters_below (λ a. a) k (w ++ (e ∷ [])))) (h : Listed may k w l) where
    abbrev new : List (List ℕ)
    new = newcomers may k w e l

    le : e < k
    le = low may distinct k w e letters

    not_both : {c : List ℕ} → Mem c l → Mem c new → ⊥
    not_both {c} m n = omega (arith, (old_count may distinct k w l e letters h c m).1, (new_count may distinct k w l e letters h c n).1)

    -- what stands before an old one is old, and what stands behind a new one is new
    before_old : {y d : List ℕ} → Mem d l → Before (arrive may k w e l) y d → Before l y d
    before_old m b = ⊎_elim (λ z. z) (λ r. ⊎_elim (λ z. absurd (not_both m (before_mem z).1)) (λ z. absurd (not_both m z.1)) r) (before_cases l new b)

    behind_new : {y d : List ℕ} → Mem y new → Before (arrive may k w e l) y d → Before new y d
    behind_new m b = ⊎_elim (λ z. absurd (not_both (before_mem z).0 m)) (λ r. ⊎_elim (λ z. z) (λ z. absurd (not_both z.0 m)) r) (before_cases l new b)

    size : {c : List ℕ} → Mem c l → length c ≡ k
    size {c} m = (old_count may distinct k w l e letters h c m).0

    -- without the event
    without : {c d : List ℕ} → Mem c l → Mem d l → with_one c e ≡ with_one d e → c ≡ d
    without {c} {d} m n q = same_less c d e e k (size m) (size n) le le refl q

    -- where y and y with one b more join, e may pass b: so one b less of what joins joins too
    joins_less : (b : ℕ) (x d y c : List ℕ) → b < k → Mem x l → Mem y l → with_one x b ≡ d → with_one y b ≡ c → T (joins? may k w e d) → T (joins? may k w e y) → T (joins? may k w e c) → T (joins? may k w e x)
    joins_less b x d y c lb mx my qx qy jd jy jc = all_of (λ z. may z e || eqb (at x z) (count (λ a. a) w z)) (below k)
        (λ z m. ⊎_elim (λ t. or_left (may z e) (eqb (at x z) (count (λ a. a) w z)) t)
        (λ n.
        let other : one b z ≡ 0 = ⊎_elim
        (λ i. absurd (omega (
          arith,
          passed y z m n jy,
          passed c z m n jc,
          one_more_at y b k (size my) lb z,
          ap (λ u. at u z) qy,
          subst (λ j. one b j ≡ 1) i (one_same b),
        )))
        (λ o. o) (one_cases b z) in
        let q : at x z ≡ count (λ a. a) w z = omega (arith, passed d z m n jd, one_more_at x b k (size mx) lb z, ap (λ u. at u z) qx, other) in
        or_right (may z e) (eqb (at x z) (count (λ a. a) w z)) (subst (λ v. T (eqb (at x z) v)) q (eqb_refl (at x z))))
        (test (may z e)))
      where
        passed : (u : List ℕ) (z : ℕ) → Mem z (below k) → T (not (may z e)) → T (joins? may k w e u) → at u z ≡ count (λ a. a) w z
        passed u z m n j = ⊎_elim (λ t. absurd (T_not (may z e) n t)) (λ q. eqb→eq (at u z) (count (λ a. a) w z) q)
            (either (may z e) (eqb (at u z) (count (λ a. a) w z)) (all_at (λ z. may z e || eqb (at u z) (count (λ a. a) w z)) j m))

    between_next : Between l → Between (arrive may k w e l)
    between_next ih b y d c lb my q yd dc = ⊎_elim both-old (λ r. ⊎_elim both-new across r) (before_cases l new dc)
      where
        Goal : Type 0
        Goal = (at d b ≤ at c b) × (at d b ≡ at c b → (x : List ℕ) × Mem x (arrive may k w e l) × (with_one x b ≡ d))

        both-old : Before l d c → Goal
        both-old z =
            let m = before_mem z in
            let g = ih b y d c lb (gives_old may distinct k w l e letters h b c y lb m.1 q my) q (⊎_elim (λ i. inl i) (λ t. inr (before_old m.0 t)) yd) z in
            (g.0, λ i. let f = g.1 i in (f.0, Memᴰ.append_left new f.1, f.2))

        across : Mem d l × Mem c new → Goal
        across z = ⊎_elim
            (λ o.
            let s = subst (λ j. at d j < at c j) (sym o.1) (omega (arith, (old_count may distinct k w l e letters h d z.0).1, (new_count may distinct k w l e letters h c z.1).1)) in
            (omega (arith, s), λ i. absurd (omega (arith, s, i))))
            (λ o. absurd (⊎_elim (λ i. not_both (subst (λ v. Mem v l) (sym i) z.0) o.0) (λ t. not_both z.0 (before_mem (behind_new o.0 t)).1) yd))
            (gives_new may distinct k w l e letters h b c y lb z.1 q my)

        both-new : Before new d c → Goal
        both-new z =
            let m = before_mem z in
            let u = before_unmap (λ v. with_one v e) (filter (joins? may k w e) l) z in
            let bl = before_unfilter (joins? may k w e) l u.2 in
            let n = before_mem bl in
            ⊎_elim
            (λ o.
            let s = subst (λ j. at d j ≡ at c j) (sym o.1) (omega (arith, (new_count may distinct k w l e letters h d m.0).1, (new_count may distinct k w l e letters h c m.1).1)) in
            (omega (arith, s), λ i. (u.0, Memᴰ.append_left new n.0, ap (with_one u.0) o.1 ∙ u.3)))
            (λ o. inside u.0 u.1 u.3 u.4 bl (come may distinct k w e letters h o.0) o.0 (come may distinct k w e letters h m.0) (come may distinct k w e letters h m.1))
            (gives_new may distinct k w l e letters h b c y lb m.1 q my)
          where
            -- all three are new, and so stand the old ones that they come from
            inside : (d₀ c₀ : List ℕ) → with_one d₀ e ≡ d → with_one c₀ e ≡ c → Before l d₀ c₀
                → (y₀ : List ℕ) × Mem y₀ l × T (joins? may k w e y₀) × (with_one y₀ e ≡ y) → Mem y new
                → (v : List ℕ) × Mem v l × T (joins? may k w e v) × (with_one v e ≡ d) → (v : List ℕ) × Mem v l × T (joins? may k w e v) × (with_one v e ≡ c) → Goal
            inside d₀ c₀ qd qc bl y₀ ny dj cj =
                let n = before_mem bl in
                let jd = subst (λ v. T (joins? may k w e v)) (without dj.1 n.0 (dj.3 ∙ sym qd)) dj.2 in
                let jc = subst (λ v. T (joins? may k w e v)) (without cj.1 n.1 (cj.3 ∙ sym qc)) cj.2 in
                let q₀ = take_away c₀ y₀.0 b e k (size n.1) (size y₀.1) lb le (ap (λ v. with_one v b) y₀.3 ∙ q ∙ sym qc) in
                let yd₀ : (y₀.0 ≡ d₀) ⊎ Before l y₀.0 d₀ = ⊎_elim
                (λ i. inl (without y₀.1 n.0 (y₀.3 ∙ i ∙ sym qd)))
                (λ t.
                let v = before_unmap (λ v. with_one v e) (filter (joins? may k w e) l) (behind_new ny t) in
                let bv = before_unfilter (joins? may k w e) l v.2 in
                let nv = before_mem bv in
                inr (subst₂ (Before l) (without nv.0 y₀.1 (v.3 ∙ sym y₀.3)) (without nv.1 n.0 (v.4 ∙ sym qd)) bv))
                yd in
                let g = ih b y₀.0 d₀ c₀ lb y₀.1 q₀ yd₀ bl in
                let ed = one_more_at d₀ e k (size n.0) le b in
                let ec = one_more_at c₀ e k (size n.1) le b in
                let fd = ap (λ v. at v b) qd in
                let fc = ap (λ v. at v b) qc in (
                  omega (arith, g.0, ed, ec, fd, fc),
                  λ i.
                      let f = g.1 (omega (arith, i, ed, ec, fd, fc)) in (
                        with_one f.0 e,
                        Memᴰ.append_right l (Memᴰ.map (λ v. with_one v e) (filter_of (joins? may k w e) f.1 (joins_less b f.0 d₀ y₀.0 c₀ lb f.1 y₀.1 f.2 q₀ jd y₀.2 jc))),
                        one_and_one f.0 b e k (size f.1) lb le ∙ ap (λ v. with_one v e) f.2 ∙ qd,
                      ),
                )

  pub arrivals_between : (w : List ℕ) → T (letters_below (λ a. a) k w) → Between (arrivals may k w)
  arrivals_between w letters = (arrivals_keep may k (λ w l. Listed may k w l × Between l)
      (λ w l e h q. (listed_next may distinct k w e h q.0, between_next w l e h q.0 q.1)) w letters
      (listed_none may k, λ b y d c lb my q yd dc. absurd (single may distinct k refl dc))).1
