-- A step of the order: by the sets of a pair there is a letter between, or two parts that meet in a record between.
use mathlib.Core.Path.{◌≡◌, sym, ◌∙◌, subst}
use mathlib.Core.List.{List, [], ◌∷◌}
use Prim.Native.Nat.{ℕ, ◌+◌, ◌*◌, ◌≤◌, ◌<◌}
use native.Mathlib.Omega.{arith}
use mir.Syntax.{w64}
use mir.Val.{Fits}
use lib.Dec.{T}
use lib.ListN.{length}
use Rattle.profile.specs.Traces.{bit, independent}
use Rattle.profile.specs.Prefixes.{total}
use Rattle.profile.specs.Tables.{count_field, layout}
use Rattle.profile.proofs.Sets.{not_in_none}
use Rattle.records.specs.Records.{counts_at}
use Rattle.counts.specs.Counts.{counts_in}
use Rattle.grammars.specs.Grammars.{grammar_of}
use Rattle.grammars.proofs.Spans.{spans_letter}
use Rattle.grammars.proofs.Places.{between_letter, prefix_mem}
use Rattle.pairs.specs.declared.nested.Nested.{Nested}
use Rattle.pairs.specs.Settings.{Setting}
use Rattle.pairs.specs.Pairs.{AllKnown, Between, Meet, Spans, total_in}
use Rattle.gaps.specs.Gaps.{GapIs}
use Rattle.gaps.specs.declared.Gap.TheVariants.{Apart, Letter, Outside}
use Rattle.pairs.proofs.Squares.{row_at}
use Rattle.profile.specs.Limits.{longest}
use Rattle.pairs.proofs.Cells.{apart_letters, cell_outside, inside, letter_is, parts_are, total_is, total_le}

module _ (on : Nested) where
  abbrev k : ℕ
  k = on.grammar.k

  abbrev masks : List ℕ
  masks = on.grammar.masks.now

  abbrev rules : List ℕ
  rules = on.grammar.rules.now

  abbrev w : List ℕ
  w = on.log.now

  abbrev table : List ℕ
  table = on.table.now

  abbrev records : ℕ
  records = on.records

  abbrev s : Setting k masks w table records
  s = on.setting

  pub step_outside : (i j n : ℕ) → i < records → j < records → GapIs k (count_field layout (counts_at table i)) (count_field layout (counts_at table j)) Outside → Between on i j n → ⊥
  step_outside i j n hi hj g b = not_in_none n ((cell_outside on i j hi hj g n).1 b)

  pub step_letter : (i j a n : ℕ) → i < records → j < records → GapIs k (count_field layout (counts_at table i)) (count_field layout (counts_at table j)) (Letter a) → Between on i j n
      → Spans on i j n (a ∷ [])
  step_letter i j a n hi hj g b =
      let d = apart_letters on in
      let ii = inside on i hi in
      let jj = inside on j hj in
      let e = letter_is on i j a hi hj g in
      let p = (prefix_mem (independent masks) d k w s.log.letters i ii).1 in
      let q = (prefix_mem (independent masks) d k w s.log.letters j jj).1 in
      spans_letter (independent masks) (grammar_of rules) w d p q e ((between_letter (independent masks) d k w s.log.letters (grammar_of rules) i j a n ii jj e).0 b)

  module _ (sets : List ℕ) (known : AllKnown on sets) where
    pub step_parts : (i j n : ℕ) → i < j → j < records → GapIs k (count_field layout (counts_at table i)) (count_field layout (counts_at table j)) Apart → Between on i j n
        → (m l r : ℕ) × (i + 1 ≤ m) × (m < j) × Meet on sets i j n m l r
    step_parts i j n h hj g b =
        let v = (parts_are on i j n (omega arith) hj g).0 b in
        let m = v.0 in (
          m,
          v.1,
          v.2,
          omega (arith, v.3),
          v.4,
          (
            v.5,
            subst (λ x. T (bit x v.1)) (sym (row_at sets (i * records) m)) (((known.right i m v.3 (omega (arith, v.4))).0 v.1).1 v.6),
            subst (λ x. T (bit x v.2)) (sym (row_at sets (j * records) m)) (((known.right m j v.4 hj).1 v.2).1 v.7),
          ),
        )

    pub step_met : (i j n m l r : ℕ) → j < records → i + 1 ≤ m → m < j → Meet on sets i j n m l r
        → T ((grammar_of rules).two n l r) × Between on i m l × Between on m j r
    step_met i j n m l r hj h lt v = (
      v.0,
      ((known.right i m (omega arith) (omega arith)).0 l).0 (subst (λ x. T (bit x l)) (row_at sets (i * records) m) v.1),
      ((known.right m j lt hj).1 r).0 (subst (λ x. T (bit x r)) (row_at sets (j * records) m) v.2),
    )

  -- totals are small
  pub total_small : (i r : ℕ) → i < records → r ≡ total (counts_in layout (counts_at table i)) → r ≤ longest
  total_small i r h e =
      let x : r ≡ total_in on i = e ∙ total_is on i h in
      let y = total_le on i h in
      let z = s.log.short in
      small_by r (total_in on i) (length w) x y z
    where
      small_by : (r t n : ℕ) → r ≡ t → t ≤ n → n ≤ longest → r ≤ longest
      small_by r t n x y z = omega arith

pub fits_sum : (m n : ℕ) → m ≤ longest → n ≤ longest → Fits w64 (m + n)
fits_sum m n h k = omega arith
