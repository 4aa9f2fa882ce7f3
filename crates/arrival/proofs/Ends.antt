-- A log with one event more at its end: the event is left, or it is marked and may pass all that is left.
use mathlib.Core.Path.{◌≡◌, refl, sym, ◌∙◌, ap, subst, fun_ext}
use mathlib.Core.Bool.{Bool, true}
use mathlib.Core.Logic.{◌⊎◌, inl, inr, ⊎_elim, ◌≢◌}
use mathlib.Core.List.{List, [], ◌∷◌, ◌++◌}
use Prim.Native.Nat.{ℕ}
use native.Mathlib.Omega.{arith}
use lib.Dec.{T}
use Rattle.profile.specs.Lists.{all}
use Rattle.profile.specs.Prefixes.{IsPrefix, count, marked, more, unmarked}
use Rattle.profile.proofs.Lists.{all_append, all_split, both, fst_of, snd_of}
use Rattle.theory.proofs.Prefixes.{Front, count_append, count_marked, count_of_prefix, empty, front_marked, front_of_prefix, keep, mark, prefix_of_front}

module _ (may : ℕ → ℕ → Bool) where
  pub front_keep_last : (e : ℕ) {w m r : List ℕ} → Front may w m r → Front may (w ++ (e ∷ [])) m (r ++ (e ∷ []))
  front_keep_last e empty = keep tt empty
  front_keep_last e (mark f) = mark (front_keep_last e f)
  front_keep_last e (keep h f) = keep h (front_keep_last e f)

  pub front_mark_last : (e : ℕ) {w m r : List ℕ} → Front may w m r → T (all (λ a. may a e) r) → Front may (w ++ (e ∷ [])) (m ++ (e ∷ [])) r
  front_mark_last e empty k = mark empty
  front_mark_last e (mark f) k = mark (front_mark_last e f k)
  front_mark_last e (keep {a = a} {m = m} {r = r} h f) k =
      keep (all_append (may a) m (e ∷ []) h (both (may a e) true (fst_of (may a e) (all (λ a. may a e) r) k) tt)) (front_mark_last e f (snd_of (may a e) (all (λ a. may a e) r) k))

  pub front_last : (e : ℕ) (w : List ℕ) {m r : List ℕ} → Front may (w ++ (e ∷ [])) m r
      → ((s : List ℕ) × (r ≡ s ++ (e ∷ [])) × Front may w m s) ⊎ ((n : List ℕ) × (m ≡ n ++ (e ∷ [])) × Front may w n r × T (all (λ a. may a e) r))
  front_last e [] (mark empty) = inr ([], refl, empty, tt)
  front_last e [] (keep h empty) = inl ([], refl, empty)
  front_last e (a ∷ w) (mark f) = ⊎_elim
      (λ n. inl (n.0, n.1, mark n.2)) (λ n. inr (a ∷ n.0, ap (◌∷◌ a) n.1, mark n.2, n.3)) (front_last e w f)
  front_last e (a ∷ w) (keep {r = r} h f) = ⊎_elim
      (λ n. inl (a ∷ n.0, ap (◌∷◌ a) n.1, keep h n.2))
      (λ n.
      let k = all_split (may a) n.0 (e ∷ []) (subst (λ l. T (all (may a) l)) n.1 h) in
      inr (n.0, n.1, keep k.0 n.2, both (may a e) (all (λ a. may a e) r) (fst_of (may a e) true k.1) n.3))
      (front_last e w f)

module _ (may : ℕ → ℕ → Bool) (distinct : (a b : ℕ) → T (may a b) → a ≢ b) (w : List ℕ) (e : ℕ) where
  -- a prefix of the longer log: one of w, or one of w with e taken too, which e may be added to
  pub last_cases : (c : ℕ → ℕ) → IsPrefix may (λ a. a) (w ++ (e ∷ [])) c
      → IsPrefix may (λ a. a) w c
      ⊎ ((d : ℕ → ℕ) × IsPrefix may (λ a. a) w d × (c ≡ more d e) × T (all (λ a. may a e) (unmarked (λ a. a) w d)))
  last_cases c p = ⊎_elim
      (λ n. inl (subst (IsPrefix may (λ a. a) w) (count_of_prefix may (λ a. a) p) (prefix_of_front may (λ a. a) distinct n.2)))
      (λ n.
      let m = n.0 in
      let eq : c ≡ more (count (λ a. a) m) e = fun_ext (λ x. omega (
        arith,
        count_marked may (λ a. a) (w ++ (e ∷ [])) c p.fits x,
        ap (λ l. count (λ a. a) l x) n.1,
        count_append may (λ a. a) m (e ∷ []) x,
      )) in
      inr (
        count (λ a. a) m,
        prefix_of_front may (λ a. a) distinct n.2,
        eq,
        subst (λ l. T (all (λ a. may a e) l)) (sym (front_marked may (λ a. a) distinct n.2).1) n.3,
      ))
      (front_last may e w (front_of_prefix may (λ a. a) p))

  -- a prefix of w is one of the longer log, with the same marked events; and one more where e can be added
  pub keep_prefix : (c : ℕ → ℕ) → IsPrefix may (λ a. a) w c → IsPrefix may (λ a. a) (w ++ (e ∷ [])) c
  keep_prefix c p = subst (IsPrefix may (λ a. a) (w ++ (e ∷ []))) (count_of_prefix may (λ a. a) p)
      (prefix_of_front may (λ a. a) distinct (front_keep_last may e (front_of_prefix may (λ a. a) p)))

  pub keep_marked : (c : ℕ → ℕ) → IsPrefix may (λ a. a) w c → marked (λ a. a) (w ++ (e ∷ [])) c ≡ marked (λ a. a) w c
  keep_marked c p = ap (marked (λ a. a) (w ++ (e ∷ []))) (sym (count_of_prefix may (λ a. a) p)) ∙ (front_marked may (λ a. a) distinct (front_keep_last may e (front_of_prefix may (λ a. a) p))).0

  pub add_prefix : (c : ℕ → ℕ) → IsPrefix may (λ a. a) w c → T (all (λ a. may a e) (unmarked (λ a. a) w c)) → IsPrefix may (λ a. a) (w ++ (e ∷ [])) (more c e)
  add_prefix c p h = subst (IsPrefix may (λ a. a) (w ++ (e ∷ [])))
      (fun_ext (λ x. omega (arith, count_append may (λ a. a) (marked (λ a. a) w c) (e ∷ []) x, count_marked may (λ a. a) w c p.fits x)))
      (prefix_of_front may (λ a. a) distinct (front_mark_last may e (front_of_prefix may (λ a. a) p) h))
