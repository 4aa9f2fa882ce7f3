-- One letter tried: whether an accepted end is reached with it, from what the table of records and the table of costs say.
use Rattle.std.specs.Prelude.{Ok, Err, Some, None}
use mathlib.Core.Path.{◌≡◌, sym, ◌∙◌, ap, subst}
use mathlib.Core.Bool.{Bool, true, false}
use mathlib.Core.Logic.{⊎_elim}
use mathlib.Core.List.{List, []}
use Prim.Native.Nat.{ℕ, suc, ◌+◌, ◌*◌, ◌-◌, ◌^◌, ◌≤◌, ◌<◌}
use native.Mathlib.Nat.{mul-le-mul, suc-mul}
use native.Mathlib.Omega.{arith}
use lib.Pow.{pow_pos}
use lib.Dec.{T, leb→le, le→leb, ltb, ltb→lt}
use lib.ListN.{length, get_or, get_or-eq_default}
use Rattle.profile.specs.Automata.{Profile, automaton, forward_step, profile_of, row}
use Rattle.profile.specs.declared.Shape.{Shape}
use Rattle.profile.specs.Lists.{below, filter}
use Rattle.profile.specs.Prefixes.{addable?, at, by_total, closed?, count, more}
use Rattle.profile.specs.Tables.{count_field, layout, packed}
use Rattle.profile.specs.Traces.{bit}
use Rattle.profile.proofs.Lists.{fst_of, lt_or_le, mem_getd}
use Rattle.profile.proofs.Sets.{bit_below, union_at}
use Rattle.theory.proofs.Levels.{at_bump, bump}
use Rattle.theory.proofs.Refusals.{GoodProfile, bit_from_at}
use Rattle.counts.specs.Counts.{add_count}
use Rattle.records.specs.Records.{counts_at, records_in}
use Rattle.search.specs.Search.{found_in}
use Rattle.swaps.specs.Closest.{rest_swaps}
use Rattle.swaps.specs.Swaps.{step_cost}
use Rattle.swaps.proofs.Pairs.{count_letters}
use Rattle.stepcost.specs.StepCosts.{Within}
use Rattle.costcells.specs.Cells.{cell, cost_in}
use Rattle.costrows.specs.Rows.{with_step}
use Rattle.costreadings.proofs.Readings.{fits_at, fits_of}
use Rattle.costwalk.specs.Walk.{Chooses, Ends, Standing, Tested, Tries}
use Rattle.costwalk.specs.declared.Choice.{Choice}
use Rattle.swaps.proofs.Letters.{step_letters}
use Rattle.successors.proofs.More.{more_at, more_none, prefix_of}
use Rattle.costwalk.proofs.Rows.{fields, recorded, whole_counts}

-- ---- moves stay below s

pub row_inside : (p : Profile) → GoodProfile p → (q x : ℕ) → row p.k p.moves q x < 2 ^ p.s
row_inside p g q x = ⊎_elim
    (λ h. g.moves_inside (row p.k p.moves q x) (mem_getd p.moves (q * p.k + x) 0 h))
    (λ h. omega (arith, get_or-eq_default p.moves 0 {n = q * p.k + x} h, pow_pos p.s))
    (lt_or_le (q * p.k + x) (length p.moves))

pub step_inside : (p : Profile) → GoodProfile p → (S x : ℕ) → forward_step p.k p.s p.moves S x < 2 ^ p.s
step_inside p g S x = ⊎_elim (λ h. h)
    (λ h.
    let j = (bit_from_at p.s (forward_step p.k p.s p.moves S x)).0 (le→leb (2 ^ p.s) (forward_step p.k p.s p.moves S x) h) in
    let a = union_at (λ q. row p.k p.moves q x) (filter (bit S) (below p.s)) j.0 j.2 in
    absurd (omega (arith, j.1, bit_below p.s (row p.k p.moves a.0 x) j.0 (row_inside p g a.0 x) a.2)))
    (lt_or_le (forward_step p.k p.s p.moves S x) (2 ^ p.s))

-- the row of a record below n stands in the first n rows
pub row_room : (r n s m : ℕ) → r < n → n * s ≤ m → r * s + s ≤ m
row_room r n s m h k = omega (arith, k, suc-mul r s, mul-le-mul {n₁ = suc r} {m₁ = s} {n₂ = n} {m₂ = s} (omega (arith, h)) (omega arith))

module _ {p : Profile} {may : ℕ → ℕ → Bool} {letter : ℕ → ℕ} {w t log starts places costs n : List ℕ} {left : ℕ} (z : Standing p may letter w t log starts places costs n left) where
  pub counted : count_field layout n ≡ at z.counts
  counted = ap (count_field layout) z.numbers ∙ fields z.lent z.counts z.prefix

  module _ (x : ℕ) (h : x < p.k) where
    looked : add_count layout n x ≡ add_count layout (packed layout z.counts) x
    looked = ap (λ m. add_count layout m x) z.numbers

    module _ (r : ℕ) (found : found_in t (add_count layout n x) ≡ Ok r) where
      there : T (addable? may letter w (at z.counts) x) × (r < length (by_total may letter p.k w)) × (get_or (by_total may letter p.k w) r [] ≡ bump z.counts x)
      there = more_at (recorded z.lent) z.counts z.prefix x h r (ap (found_in t) (sym looked) ∙ found)

      pub addable : T (addable? may letter w (count_field layout n) x)
      addable = subst (λ f. T (addable? may letter w f x)) (sym counted) there.0

      pub row_fits : r * p.s + p.s ≤ length costs
      row_fits = row_room r (length (by_total may letter p.k w)) p.s (length costs) there.1 z.right.room

      pub within : (m whole : List ℕ) → m ≡ n → whole ≡ counts_at t (records_in t - 1) → Within p.k log m whole x
      within m whole e q = record {
        letter = h;
        left = subst (λ i. count_field layout i x < count (λ a. a) log x) (sym e) (omega (
          arith,
          ltb→lt (count_field layout n x) (count letter w x)
              (fst_of (ltb (count_field layout n x) (count letter w x)) (closed? may letter w (more (count_field layout n) x)) addable),
          log-count x,
        ));
        fits = λ y l. subst (λ i. count_field layout i y ≤ count (λ a. a) log y) (sym e)
            (subst (λ f. f y ≤ count (λ a. a) log y) (sym counted) (omega (arith, (prefix_of (recorded z.lent) z.counts z.prefix).1.fits y, log-count y)));
        all = λ y l. ap (λ i. count_field layout i y) q ∙ whole_counts z.lent y ∙ sym (log-count y);
      }
        where
          log-count : (y : ℕ) → count (λ a. a) log y ≡ count letter w y
          log-count y = ap (λ l. count (λ a. a) l y) (sym z.lent.letters) ∙ count_letters letter w y

      -- the cost of letter x, from the places of the log
      pub own_cost : (m : List ℕ) → m ≡ n → step_cost (λ a. a) log (count_field layout m) x ≡ step_cost letter w (count_field layout n) x
      own_cost m e =
          ap (λ i. step_cost (λ a. a) log (count_field layout i) x) e ∙ ap (λ l. step_cost (λ a. a) l (count_field layout n) x) (sym z.lent.letters) ∙ sym (step_letters letter w (count_field layout n) x)

      -- what stands in the row
      row_cells : (S q : ℕ) → T (bit ((automaton p).step S x) q) → cost_in costs (r * p.s + q) ≡ cell (rest_swaps may letter (automaton p) w (more (count_field layout n) x) q)
      row_cells S q b =
          let l = (prefix_of (recorded z.lent) z.counts z.prefix).0 in
          z.right.cells r q there.1 (bit_below p.s ((automaton p).step S x) q (step_inside p z.lent.profile S x) b)
          ∙ ap (λ f. cell (rest_swaps may letter (automaton p) w f q)) (ap at there.2 ∙ at_bump z.counts x (omega (arith, h, l)) ∙ ap (λ f. more f x) (sym counted))

      module _ (S : ℕ) {more-cost : ℕ} (is-cost : more-cost ≡ step_cost letter w (count_field layout n) x) where
        pub ends_of : Tested costs (r * p.s) ((automaton p).step S x) more-cost left true → Ends p may letter w (count_field layout n) S left x
        ends_of d =
            let f = fits_of may letter (automaton p) w (count_field layout n) S left x z.small costs (r * p.s) d.cost d.least (row_cells S)
            (subst (λ i. with_step d.cost i ≤ left) is-cost (leb→le (with_step d.cost more-cost) left (subst T d.told tt))) in
            (addable, f.0, f.1, f.2, f.3, f.4)

        pub ends_not : Tested costs (r * p.s) ((automaton p).step S x) more-cost left false → Ends p may letter w (count_field layout n) S left x → ⊥
        ends_not d e =
            subst T (sym d.told) (le→leb (with_step d.cost more-cost) left (subst (λ i. with_step d.cost i ≤ left) (sym is-cost)
            (fits_at may letter (automaton p) w (count_field layout n) S left x z.small costs (r * p.s) d.cost d.least (row_cells S) (e.1, e.2, e.3, e.4, e.5))))

    pub absent_ends : (i S : ℕ) → found_in t (add_count layout n x) ≡ Err i → Ends p may letter w (count_field layout n) S left x → ⊥
    absent_ends i S found e =
        more_none (recorded z.lent) z.counts z.prefix x h i (ap (found_in t) (sym looked) ∙ found)
        (subst (λ f. T (addable? may letter w f x)) counted e.0)

-- ---- the letters tried so far

module _ (h : Shape) (moves t log starts places costs n : List ℕ) (S left : ℕ) where
  -- no letter below x leads to an end
  abbrev pub Passed : ℕ → Type 0
  Passed x = (masks : List ℕ) (may : ℕ → ℕ → Bool) (letter : ℕ → ℕ) (w : List ℕ)
      → Standing (profile_of h masks moves) may letter w t log starts places costs n left → (y : ℕ) → y < x
      → Ends (profile_of h masks moves) may letter w (count_field layout n) S left y → ⊥

  pub passed_none : Passed 0
  passed_none masks may letter w z y lt e = omega (arith, lt)

  pub passed_more : (x : ℕ) → Passed x → Tries h moves t log starts places costs n S left x None → Passed (x + 1)
  passed_more x before now masks may letter w z y lt e = ⊎_elim (λ l. before masks may letter w z y l e)
      (λ l. let q : y ≡ x = omega (arith, lt, l) in now masks may letter w z (subst (λ i. Ends (profile_of h masks moves) may letter w (count_field layout n) S left i) q e))
      (lt_or_le y x)

  pub chosen_of : (x cost : ℕ) → x < h.k → Passed x → Tries h moves t log starts places costs n S left x (Some cost)
      → Chooses h moves t log starts places costs n S left (record { letter = x; cost = cost })
  chosen_of x cost lt before now masks may letter w z some = record {
    below = lt;
    ends = (now masks may letter w z).0;
    first = before masks may letter w z;
    cost = (now masks may letter w z).1;
  }

  pub chosen_never : (x : ℕ) (r : Choice) → h.k ≤ x → Passed x → Chooses h moves t log starts places costs n S left r
  chosen_never x r le before masks may letter w z some = absurd (before masks may letter w z some.0 (omega (arith, some.1, le)) some.2)
