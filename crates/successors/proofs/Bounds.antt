-- Between which records the record with one letter more stands: behind the record itself, and before the place of each smaller letter's.
use mathlib.Core.Path.{◌≡◌, refl, sym, ◌∙◌, ap, ap₂, subst, subst₂}
use mathlib.Core.Bool.{true, not}
use mathlib.Core.List.{List, [], ◌∷◌, ◌++◌}
use Prim.Native.Nat.{ℕ, zero, suc, ◌*◌, ◌≤◌, ◌<◌}
use native.Mathlib.Omega.{arith}
use lib.Dec.{T, T_not, not_T}
use lib.ListN.{length, length-set}
use Rattle.profile.specs.Orders.{no_later?}
use Rattle.profile.specs.Prefixes.{at, total}
use Rattle.profile.specs.Tables.{layout, packed}
use Rattle.theory.proofs.Levels.{bump}
use Rattle.theory.proofs.LetterOrder.{earlier_test, earlier_trans}
use Rattle.counts.specs.Counts.{add_count, counts_in}
use Rattle.counts.proofs.Packed.{add_packed, counts_in_packed, total_packed, zeros}
use Rattle.records.specs.Records.{counts_at, records_in}
use Rattle.search.specs.Search.{stands_before?}
use Rattle.search.proofs.Halves.{Between, before_less, before_same, between_start, between_up}
use Rattle.profile.specs.Prefixes.{ranked}
use Rattle.costcursors.proofs.Bumps.{total_bump}
use Rattle.successors.specs.Successors.{Stands}

-- one more of a larger letter y makes smaller counts than one more of x
bump_before : (v z : List ℕ) (x y : ℕ) → x < y → y < length v → not (no_later? (bump v x ++ z) (bump v y ++ z)) ≡ true
bump_before [] z x y l h = absurd (omega arith)
bump_before (n ∷ v) z x zero l h = absurd (omega arith)
bump_before (n ∷ v) z zero (suc y) l h = before_less n (suc n) (bump v y ++ z) (v ++ z) (omega arith)
bump_before (n ∷ v) z (suc x) (suc y) l h = before_same n n (bump v y ++ z) (bump v x ++ z) refl ∙ bump_before v z x y (omega arith) (omega arith)

module _ {t : List ℕ} {k j : ℕ} (s : Stands t k j) where
  -- one more of letter x, in the numbers
  pub more_numbers : (x : ℕ) → x < k → add_count layout (counts_at t j) x ≡ packed layout (bump s.counts x)
  more_numbers x h = ap (λ v. add_count layout v x) s.numbers
      ∙ add_packed layout s.counts x refl (omega (arith, h, s.long)) (omega (arith, s.long, s.letters)) (s.room x h)

  long_more : (x : ℕ) → length (bump s.counts x) ≤ layout.per * layout.numbers
  long_more x = omega (arith, length-set s.counts x (suc (at s.counts x)), s.long, s.letters)

  total_more : (x : ℕ) → x < k → total (counts_in layout (packed layout (bump s.counts x))) ≡ suc (total s.counts)
  total_more x h = total_packed layout (bump s.counts x) (long_more x) (s.room x h) ∙ total_bump s.counts x (omega (arith, h, s.long))

  -- the record stands before the counts with one more of x
  pub stands_behind : (x : ℕ) → x < k → T (stands_before? (counts_at t j) (add_count layout (counts_at t j) x))
  stands_behind x h =
      subst₂ (λ c d. T (stands_before? c d)) (sym s.numbers) (sym (more_numbers x h))
      (subst T (sym (before_less
      (total (counts_in layout (packed layout s.counts))) (total (counts_in layout (packed layout (bump s.counts x))))
      (counts_in layout (packed layout s.counts)) (counts_in layout (packed layout (bump s.counts x)))
      (subst₂ (λ m n. m < n) (sym (total_packed layout s.counts (omega (arith, s.long, s.letters)) s.small)) (sym (total_more x h)) (omega arith)))) tt)

  -- these stand before the counts with one more of a smaller letter
  pub later_before : (x y : ℕ) → x < y → y < k → T (stands_before? (add_count layout (counts_at t j) y) (add_count layout (counts_at t j) x))
  later_before x y l h =
      let hx : x < k = omega arith in
      let c = packed layout (bump s.counts y) in
      let d = packed layout (bump s.counts x) in
      let ly = length-set s.counts y (suc (at s.counts y)) in
      let lx = length-set s.counts x (suc (at s.counts x)) in
      let same : not (no_later? (counts_in layout d) (counts_in layout c)) ≡ true =
      ap₂ (λ u v. not (no_later? u v))
      (counts_in_packed layout (bump s.counts x) (long_more x) (s.room x hx) ∙ ap (λ n. bump s.counts x ++ zeros layout n) lx)
      (counts_in_packed layout (bump s.counts y) (long_more y) (s.room y h) ∙ ap (λ n. bump s.counts y ++ zeros layout n) ly)
      ∙ bump_before s.counts (zeros layout (length s.counts)) x y l (omega (arith, h, s.long)) in
      subst₂ (λ c d. T (stands_before? c d)) (sym (more_numbers y h)) (sym (more_numbers x hx))
      (subst T (sym (before_same (total (counts_in layout c)) (total (counts_in layout d)) (counts_in layout c) (counts_in layout d)
      (total_more y h ∙ sym (total_more x hx)) ∙ same)) tt)

  -- ---- the bounds of the search

  pub behind : (x : ℕ) → x < k → Between t (add_count layout (counts_at t j) x) (suc j) (records_in t)
  behind x h =
      let c = add_count layout (counts_at t j) x in
      between_up t c s.ordered 0 (records_in t) j (between_start t c (records_in t) (omega arith)) s.inside (stands_behind x h)

  -- what is no place for letter x is none for a larger letter
  pub bound_later : (x y low low' r : ℕ) → x < y → y < k → Between t (add_count layout (counts_at t j) x) low r
      → Between t (add_count layout (counts_at t j) y) low' (records_in t) → Between t (add_count layout (counts_at t j) y) low' r
  bound_later x y low low' r l h b b' = (
    b'.0,
    λ i g n.
        let c = add_count layout (counts_at t j) x in
        let d = add_count layout (counts_at t j) y in
        not_T (stands_before? (counts_at t i) d) (λ z. T_not (stands_before? (counts_at t i) c) (b.1 i g n) (trans (counts_at t i) d c z (later_before x y l h))),
  )
    where
      trans : (c d e : List ℕ) → T (stands_before? c d) → T (stands_before? d e) → T (stands_before? c e)
      trans c d e p q =
          let r : List ℕ → List ℕ = λ u. ranked (counts_in layout u) in
          (earlier_test (r c) (r e)).1 (earlier_trans ((earlier_test (r c) (r d)).0 p) ((earlier_test (r d) (r e)).0 q))
