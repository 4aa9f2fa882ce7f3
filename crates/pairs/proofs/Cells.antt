-- The set of one pair: empty where one prefix is not inside the other, by the letter where one letter lies between, else by the parts that meet between.
use mathlib.Core.Path.{◌≡◌, refl, sym, ◌∙◌, ap, subst, fun_ext}
use mathlib.Core.Logic.{inl, inr, ⊎_elim, ◌↔◌, ◌≢◌}
use mathlib.Core.List.{List, []}
use Prim.Native.Nat.{ℕ, ◌+◌, ◌*◌, ◌^◌, ◌≤◌, ◌<◌}
use native.Mathlib.Omega.{arith}
use lib.Dec.{T, ltb, lt→ltb}
use lib.ListN.{get_or, drop, length, get_or-eq_default}
use Rattle.profile.specs.Lists.{all}
use Rattle.profile.specs.Traces.{bit, independent}
use Rattle.profile.specs.Prefixes.{more, one, total}
use Rattle.profile.specs.Tables.{count_field, layout}
use Rattle.profile.proofs.Lists.{all_of, lt_or_le}
use Rattle.profile.proofs.Sets.{not_in_none}
use Rattle.theory.proofs.Levels.{le_total}
use Rattle.theory.proofs.Packing.{field_packed}
use Rattle.theory.proofs.Prefixes.{one_other, one_same}
use Rattle.theory.proofs.Profiles.{distinct}
use Rattle.records.specs.Records.{counts_at}
use Rattle.counts.specs.Counts.{counts_in}
use Rattle.counts.proofs.Packed.{total_packed}
use Rattle.grammars.specs.Grammars.{grammar_of}
use Rattle.grammars.specs.Sets.{lettered}
use Rattle.grammars.proofs.Rules.{lettered_is}
use Rattle.grammars.proofs.Places.{between_letter, between_outside, between_parts, counts_of, listed, prefix_mem, total_marked, total_of}
use Rattle.pairs.specs.declared.nested.Nested.{Nested}
use Rattle.pairs.specs.Settings.{Setting}
use Rattle.pairs.specs.Pairs.{Between, JoinedIs, Known, Right}
use Rattle.gaps.specs.Gaps.{GapIs}
use Rattle.gaps.specs.declared.Gap.TheVariants.{Apart, Letter, Outside}
use Rattle.pairs.proofs.Squares.{row_at}

module _ (on : Nested) where
  abbrev k : ℕ
  k = on.grammar.k

  abbrev masks : List ℕ
  masks = on.grammar.masks.now

  abbrev rules : List ℕ
  rules = on.grammar.rules.now

  abbrev w : List ℕ
  w = on.log.now

  abbrev table : List ℕ
  table = on.table.now

  abbrev records : ℕ
  records = on.records

  abbrev s : Setting k masks w table records
  s = on.setting

  abbrev pub apart_letters : (a b : ℕ) → T (independent masks a b) → a ≢ b
  apart_letters = distinct masks s.relation.own

  pub inside : (i : ℕ) → i < records → i < length (listed (independent masks) k w)
  inside i h = omega (arith, s.whole)

  long : (i : ℕ) → i < records → length (get_or (listed (independent masks) k w) i []) ≡ k
  long i h = (prefix_mem (independent masks) apart_letters k w s.log.letters i (inside i h)).0

  pub total_le : (i : ℕ) → i < records → total_of (independent masks) k w i ≤ length w
  total_le i h =
      let t = total_marked (independent masks) apart_letters k w s.log.letters i (inside i h) in omega (arith, t.0, t.1)

  small : (i : ℕ) → i < records → T (all (λ n. ltb n (2 ^ layout.width)) (get_or (listed (independent masks) k w) i []))
  small i h = all_of (λ n. ltb n (2 ^ layout.width)) (get_or (listed (independent masks) k w) i [])
      (λ n m. lt→ltb n (2 ^ layout.width) (omega (arith, le_total m, total_le i h, s.log.short)))

  -- the counts and the total of a record
  pub field_is : (i x : ℕ) → i < records → x < k → count_field layout (counts_at table i) x ≡ counts_of (independent masks) k w i x
  field_is i x h lt = ap (λ t. count_field layout t x) (s.held i h)
      ∙ field_packed layout (get_or (listed (independent masks) k w) i []) x (small i h) (omega (arith, s.relation.most))

  pub total_is : (i : ℕ) → i < records → total (counts_in layout (counts_at table i)) ≡ total_of (independent masks) k w i
  total_is i h = ap (λ t. total (counts_in layout t)) (s.held i h)
      ∙ total_packed layout (get_or (listed (independent masks) k w) i []) (omega (arith, long i h, s.relation.most)) (small i h)

  -- letters from k on are counted in no prefix
  past : (i x : ℕ) → i < records → k ≤ x → counts_of (independent masks) k w i x ≡ 0
  past i x h le = get_or-eq_default (get_or (listed (independent masks) k w) i []) 0 (omega (arith, long i h))

  -- one letter lies between
  pub letter_is : (i j a : ℕ) → i < records → j < records → GapIs k (count_field layout (counts_at table i)) (count_field layout (counts_at table j)) (Letter a)
      → counts_of (independent masks) k w j ≡ more (counts_of (independent masks) k w i) a
  letter_is i j a hi hj g = fun_ext (λ x. ⊎_elim
      (λ lt. sym (field_is j x hj lt) ∙ g.1 x lt ∙ ap (λ n. one a x + n) (field_is i x hi lt))
      (λ le. let z : a ≢ x = λ e. omega (arith, g.0) in omega (arith, past i x hi le, past j x hj le, one_other a x z)) (lt_or_le x k))

  no_letter : (i j a : ℕ) → i < records → j < records → GapIs k (count_field layout (counts_at table i)) (count_field layout (counts_at table j)) Apart
      → counts_of (independent masks) k w j ≡ more (counts_of (independent masks) k w i) a → ⊥
  no_letter i j a hi hj g e = ⊎_elim
      (λ lt. g a lt (λ x h. field_is j x hj h ∙ ap (λ f. f x) e ∙ ap (λ n. one a x + n) (sym (field_is i x hi h))))
      (λ le. omega (arith, past j a hj le, ap (λ f. f a) e, one_same a)) (lt_or_le a k)

  pub cell_outside : (i j : ℕ) → i < records → j < records → GapIs k (count_field layout (counts_at table i)) (count_field layout (counts_at table j)) Outside
      → Right on i j 0
  cell_outside i j hi hj g n = (
    λ t. absurd (not_in_none n t),
    λ b. absurd (between_outside (independent masks) apart_letters k w s.log.letters (grammar_of rules) i j g.0 n
        (omega (arith, g.2, field_is i g.0 hi g.1, field_is j g.0 hj g.1)) b),
  )

  pub cell_letter : (i j a : ℕ) → i < records → j < records → GapIs k (count_field layout (counts_at table i)) (count_field layout (counts_at table j)) (Letter a)
      → Right on i j (lettered rules a)
  cell_letter i j a hi hj g n =
      let b = between_letter (independent masks) apart_letters k w s.log.letters (grammar_of rules) i j a n (inside i hi) (inside j hj) (letter_is i j a hi hj g) in
      (λ t. b.1 ((lettered_is rules a n).0 t), λ t. (lettered_is rules a n).1 (b.0 t))

  -- the parts of a pair that is not one letter
  pub parts_are : (i j n : ℕ) → i < records → j < records → GapIs k (count_field layout (counts_at table i)) (count_field layout (counts_at table j)) Apart
      → Between on i j n
      ↔ ((m l r : ℕ) × (i < m) × (m < j) × T ((grammar_of rules).two n l r)
      × Between on i m l
      × Between on m j r)
  parts_are i j n hi hj g = between_parts (independent masks) apart_letters k w s.log.letters (grammar_of rules) i j n (inside i hi) (inside j hj) (λ a. no_letter i j a hi hj g)

  pub cell_apart : (i j : ℕ) (sets : List ℕ) (S : ℕ) → i < j → j < records → GapIs k (count_field layout (counts_at table i)) (count_field layout (counts_at table j)) Apart
      → Known on sets j (i + 1) → JoinedIs rules (drop (i * records) sets) (drop (j * records) sets) (i + 1) j S
      → Right on i j S
  cell_apart i j sets S h hj g known joined n =
      let p = parts_are i j n (omega arith) hj g in (
        λ t.
            let v = (joined n).0 t in
            let m = v.0 in
            let lo : i < m = omega (arith, v.3) in
            p.1 (
              m,
              v.1,
              v.2,
              lo,
              v.4,
              v.5.0,
              ((known i m lo (inl v.4)).0 v.1).0 (subst (λ x. T (bit x v.1)) (row_at sets (i * records) m) v.5.1),
              ((known m j v.4 (inr (refl, v.3))).1 v.2).0 (subst (λ x. T (bit x v.2)) (row_at sets (j * records) m) v.5.2),
            ),
        λ b.
            let v = p.0 b in
            let m = v.0 in
            (joined n).1 (
              m,
              v.1,
              v.2,
              omega (arith, v.3),
              v.4,
              (
                v.5,
                subst (λ x. T (bit x v.1)) (sym (row_at sets (i * records) m)) (((known i m v.3 (inl v.4)).0 v.1).1 v.6),
                subst (λ x. T (bit x v.2)) (sym (row_at sets (j * records) m)) (((known m j v.4 (inr (refl, omega (arith, v.3)))).1 v.2).1 v.7),
              ),
            ),
      )
