-- A total's part of the table, as the list of its counts: what the search and the cursors of the code are over that list. C has the counts of the total, in
-- any order, and g c is the set of the letters x with `add x c`.
use mathlib.Core.Path.{◌≡◌, refl, sym, ◌∙◌, ap, subst}
use mathlib.Core.Bool.{Bool, true, false, cond}
use mathlib.Core.List.{List, [], ◌∷◌, ◌++◌, append-nil}
use Prim.Native.Nat.{ℕ, zero, suc, ◌+◌, ◌-◌, ◌≤◌, ◌<◌}
use native.Mathlib.Omega.{arith}
use lib.Dec.{T}
use lib.ListN.{length, get_or, drop, drop_of_length-le}
use lib.Seq.{drop-cons}
use Rattle.profile.specs.Lists.{Mem, first_place, flat_map, range}
use Rattle.profile.specs.Traces.{bit}
use Rattle.profile.specs.Prefixes.{at}
use Rattle.profile.proofs.Lists.{mem_getd}
use Rattle.theory.proofs.Fronts.{front_at}
use Rattle.theory.proofs.Merge.{hits, hits_at, seek}
use Rattle.records.specs.Drafts.{draft}
use Rattle.records.specs.Records.{last_at, records_in}
use Rattle.records.proofs.Drafts.{last_of_draft, records_of_drafts}
use Rattle.cursors.specs.Cursors.{advanced, moved_on, seek_from, started}

-- two searches that agree at the first elements and behind them
first_agree : {A B : Type 0} (p : A → Bool) (q : B → Bool) (a : A) (b : B) (l : List A) (m : List B) (c : Bool)
    → p a ≡ c → q b ≡ c → first_place p l ≡ first_place q m → first_place p (a ∷ l) ≡ first_place q (b ∷ m)
first_agree p q a b l m true e d h = rw (e, d, first_place)
first_agree p q a b l m false e d h = rw (e, d, first_place) (ap suc h)

module _ (f g : List ℕ → ℕ) (C : List (List ℕ)) (t : List ℕ) (drafts : t ≡ flat_map (draft f g) C) where
  pub level_whole : t ≡ flat_map (draft f g) C ++ []
  level_whole = drafts ∙ sym (append-nil (flat_map (draft f g) C))

  pub level_records : records_in t ≡ length C
  level_records = records_of_drafts f g C t [] level_whole (omega arith)

  -- ---- the search, where the last number of a record says which letters can be added
  module _ (k : ℕ) (add : ℕ → List ℕ → Bool) (bits : (c : List ℕ) (x : ℕ) → Mem c C → x < k → bit (g c) x ≡ add x c) where
    pub level_seek : (j x : ℕ) → x < k → j ≤ length C → seek_from t j x ≡ seek (add x) C j
    level_seek j x h le =
        ap (λ n. j + first_place (λ i. bit (last_at t i) x) (range j (n - j))) level_records ∙ ap (λ n. j + n) (go (length C - j) j (omega arith))
      where
        go : (n j : ℕ) → j + n ≡ length C → first_place (λ i. bit (last_at t i) x) (range j n) ≡ first_place (add x) (drop j C)
        go zero j e = sym (ap (first_place (add x)) (drop_of_length-le C {i = j} (omega arith)))
        go (suc n) j e =
            let lt : j < length C = omega arith in
            let d : bit (last_at t j) x ≡ add x (get_or C j []) =
            ap (λ s. bit s x) (last_of_draft f g C t [] level_whole j lt) ∙ bits (get_or C j []) x (mem_getd C j [] lt) h in
            first_agree (λ i. bit (last_at t i) x) (add x) j (get_or C j []) (range (suc j) n) (drop (suc j) C) (add x (get_or C j [])) d refl (go n (suc j) (omega arith))
            ∙ ap (first_place (add x)) (sym (drop-cons C j [] lt))

    pub level_started : (cs : List ℕ) → k ≤ length cs → (x : ℕ) → x < k → at (started k t cs) x ≡ seek (add x) C 0
    level_started cs le x h = front_at (seek_from t 0) cs k le x h ∙ level_seek 0 x h (omega arith)

    -- G has the letters whose cursors hit e: these cursors move on
    pub level_advanced : (cs e : List ℕ) (G : ℕ) → ((x : ℕ) → x < k → bit G x ≡ hits C x e (at cs x)) → k ≤ length cs → (x : ℕ) → x < k
        → at (advanced k t cs G) x ≡ cond (hits C x e (at cs x)) (seek (add x) C (suc (at cs x))) (at cs x)
    level_advanced cs e G agree le x h =
        front_at (λ y. moved_on t (at cs y) y G) cs k le x h
        ∙ ap (λ b. cond b (seek_from t (suc (at cs x)) x) (at cs x)) (agree x h) ∙ go (hits C x e (at cs x)) refl
      where
        go : (b : Bool) → hits C x e (at cs x) ≡ b → cond b (seek_from t (suc (at cs x)) x) (at cs x) ≡ cond b (seek (add x) C (suc (at cs x))) (at cs x)
        go true q = level_seek (suc (at cs x)) x h (hits_at C x e (at cs x) (subst T (sym q) tt)).0
        go false q = refl
