-- The records of the prefixes of a log: where the record of a prefix with one letter more stands, and that the search tells it.
use mathlib.Core.Path.{◌≡◌, Path, refl, sym, ◌∙◌, ap, subst}
use mathlib.Core.Bool.{Bool, not}
use mathlib.Core.Logic.{⊎_elim}
use mathlib.Core.List.{List, []}
use Prim.Native.Nat.{ℕ, suc, ◌^◌, ◌<◌}
use native.Mathlib.Omega.{arith}
use Rattle.std.specs.Prelude.{Result, Ok, Err}
use lib.Dec.{T, T_not, lt→ltb, ltb}
use lib.ListN.{length, get_or, length-set}
use Rattle.profile.specs.Lists.{Mem}
use Rattle.profile.specs.Prefixes.{IsPrefix, addable?, at, by_total}
use Rattle.profile.specs.Tables.{layout, packed}
use Rattle.profile.proofs.Lists.{all_of, mem_getd, mem_place, test}
use Rattle.theory.proofs.Counting.{prefixes_at, prefixes_of}
use Rattle.theory.proofs.Levels.{at_bump, bump, by_total_at, by_total_of, le_total, total_prefix}
use Rattle.theory.proofs.Packing.{packed_inj}
use Rattle.theory.proofs.Prefixes.{addable_at, addable_of, front_length, front_of_prefix}
use Rattle.counts.proofs.Packed.{Small, add_packed}
use Rattle.counts.specs.Counts.{add_count}
use Rattle.records.specs.Records.{records_in}
use Rattle.search.specs.Search.{found_in}
use Rattle.search.proofs.Halves.{found_absent, found_record}
use Rattle.costcursors.proofs.Bumps.{total_bump}
use Rattle.successors.specs.Successors.{Recorded, Stands}

-- the two answers of a search are different, and an answer tells its record
pub absent_not : {i j : ℕ} → Err i ≡ Ok j → ⊥
absent_not e = subst at_all e tt
  where
    at_all : Result ℕ ℕ → Type 0
    at_all (Ok i) = ⊥
    at_all (Err i) = Unit {0}

pub at_same : {i j : ℕ} → Path (Result ℕ ℕ) (Ok i) (Ok j) → i ≡ j
at_same e = ap place e
  where
    place : Result ℕ ℕ → ℕ
    place (Ok j) = j
    place (Err j) = j

module _ {may : ℕ → ℕ → Bool} {letter : ℕ → ℕ} {k : ℕ} {w t : List ℕ} (g : Recorded may letter k w t) where
  -- ---- a prefix

  pub prefix_of : (v : List ℕ) → Mem v (by_total may letter k w) → (length v ≡ k) × IsPrefix may letter w (at v)
  prefix_of v m = prefixes_at may letter k w v g.below_k (by_total_at may letter k w v m)

  pub of_prefix : (v : List ℕ) → length v ≡ k → IsPrefix may letter w (at v) → Mem v (by_total may letter k w)
  of_prefix v e i = by_total_of may letter k w v g.below_k (prefixes_of may letter k w v e i)

  pub bump_small : (v : List ℕ) (x : ℕ) → x < k → Mem v (by_total may letter k w) → Small layout (bump v x)
  bump_small v x h m = all_of (λ n. ltb n (2 ^ layout.width)) (bump v x) (λ n q. lt→ltb n (2 ^ layout.width) (omega (
    arith,
    le_total q,
    total_bump v x (omega (arith, (prefix_of v m).0, h)),
    total_prefix may letter k w v g.below_k (by_total_at may letter k w v m),
    front_length may (front_of_prefix may letter (prefix_of v m).1),
    g.short,
  )))

  -- one more of a letter, in the numbers
  pub more_packed : (v : List ℕ) (x : ℕ) → x < k → Mem v (by_total may letter k w) → add_count layout (packed layout v) x ≡ packed layout (bump v x)
  more_packed v x h m =
      let l = (prefix_of v m).0 in
      add_packed layout v x refl (omega (arith, h, l)) (omega (arith, l, g.records.letters)) (bump_small v x h m)

  -- each record stands among the others with room for one letter more
  pub stands_at : (j : ℕ) → j < length (by_total may letter k w) → Stands t k j
  stands_at j h = let m = mem_getd (by_total may letter k w) j [] h in record {
    ordered = g.records.ordered;
    inside = subst (λ n. j < n) (sym g.records.many) h;
    counts = get_or (by_total may letter k w) j [];
    numbers = g.records.counts j h;
    long = g.records.long (get_or (by_total may letter k w) j []) m;
    letters = g.records.letters;
    small = g.records.small (get_or (by_total may letter k w) j []) m;
    room = λ x l. bump_small (get_or (by_total may letter k w) j []) x l m;
  }

  -- ---- the record with one letter more

  module _ (v : List ℕ) (m : Mem v (by_total may letter k w)) (x : ℕ) (h : x < k) where
    pub more_in_order : T (addable? may letter w (at v) x) → Mem (bump v x) (by_total may letter k w)
    more_in_order s =
        let q = prefix_of v m in
        of_prefix (bump v x) (length-set v x (suc (at v x)) ∙ q.0)
        (subst (IsPrefix may letter w) (sym (at_bump v x (omega (arith, h, q.0)))) (addable_at may letter g.apart q.1 s).0)

    pub find_more : T (addable? may letter w (at v) x)
        → (j : ℕ) × (j < length (by_total may letter k w)) × (get_or (by_total may letter k w) j [] ≡ bump v x) × (found_in t (add_count layout (packed layout v) x) ≡ Ok j)
    find_more s =
        let q = mem_place [] (more_in_order s) in
        let i : q.0 < records_in t = subst (λ n. q.0 < n) (sym g.records.many) q.1 in
        (q.0, q.1, q.2, ap (found_in t) (more_packed v x h m ∙ ap (packed layout) (sym q.2) ∙ sym (g.records.counts q.0 q.1)) ∙ found_record t g.records.ordered q.0 i)

    no_more : T (not (addable? may letter w (at v) x)) → (n : ℕ) × (found_in t (add_count layout (packed layout v) x) ≡ Err n)
    no_more s =
        let l = (prefix_of v m).0 in
        let lt : x < length v = omega (arith, h, l) in
        let all = by_total may letter k w in (
          _,
          ap (found_in t) (more_packed v x h m) ∙ found_absent t (packed layout (bump v x)) (λ j i e.
              let i : j < length all = subst (λ n. j < n) g.records.many i in
              let d = get_or all j [] in
              let n = mem_getd all j [] i in
              let same : d ≡ bump v x = packed_inj layout d (bump v x) (g.records.long d n ∙ sym (length-set v x (suc (at v x)) ∙ l)) (omega (arith, g.records.long d n, g.records.letters)) (g.records.small d n) (bump_small v x h m) (sym (g.records.counts j i) ∙ e) in
              T_not (addable? may letter w (at v) x) s
              (addable_of may letter g.apart (at v) x (subst (IsPrefix may letter w) (ap at same ∙ at_bump v x lt) (prefix_of d n).1))),
        )

    pub more_at : (r : ℕ) → found_in t (add_count layout (packed layout v) x) ≡ Ok r
        → T (addable? may letter w (at v) x) × (r < length (by_total may letter k w)) × (get_or (by_total may letter k w) r [] ≡ bump v x)
    more_at r e = ⊎_elim
        (λ s. let q = find_more s in (s, subst (λ i. i < length (by_total may letter k w)) (at_same (sym q.3 ∙ e)) q.1, ap (λ i. get_or (by_total may letter k w) i []) (at_same (sym e ∙ q.3)) ∙ q.2))
        (λ s. absurd (absent_not (sym (no_more s).1 ∙ e)))
        (test (addable? may letter w (at v) x))

    pub more_none : (n : ℕ) → found_in t (add_count layout (packed layout v) x) ≡ Err n → T (addable? may letter w (at v) x) → ⊥
    more_none n e s = absent_not (sym e ∙ (find_more s).3)
