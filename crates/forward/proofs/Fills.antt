-- One total, record by record; and all totals, one after the other.
use mathlib.Core.Path.{◌≡◌, refl, sym, ◌∙◌, ap, ap₂, subst}
use mathlib.Core.Bool.{Bool}
use Rattle.std.specs.Prelude.{Option, Some, None}
use mathlib.Core.Logic.{⊎_elim}
use mathlib.Core.List.{List, [], ◌∷◌, ◌++◌, append_assoc, append-nil}
use Prim.Native.Nat.{ℕ, suc, ◌+◌, ◌*◌, ◌≤◌, ◌<◌}
use native.Mathlib.Numerals.{add-one}
use native.Mathlib.Omega.{arith}
use lib.ListN.{length, get_or, take, drop, length-append, length-map}
use lib.Seq.{length-take-le, take_all, take-suc}
use Rattle.profile.specs.Limits.{most_letters}
use Rattle.profile.specs.Rules.{Rules}
use Rattle.profile.specs.Lists.{below, filter}
use Rattle.profile.specs.Prefixes.{addable?, at, prefix_count}
use Rattle.profile.specs.Tables.{layout, record_length}
use Rattle.theory.proofs.Counting.{length_range}
use Rattle.theory.proofs.Levels.{by_total_length}
use Rattle.profile.proofs.Lists.{filter_no, filter_yes, test}
use Rattle.theory.proofs.Looks.{looks_by_total, pairs_append, pairs_cons}
use Rattle.cursors.specs.Cursors.{seek_from, started}
use Rattle.theory.proofs.Fronts.{front_whole}
use Rattle.forward.specs.Forward.{Forward, Ready}
use Rattle.forward.specs.Merging.{Begun, Grows, Merging, Placed, Steps, begun, pairs, records_between, totals}
use Rattle.forward.specs.declared.Filled.{Filled}
use Rattle.forward.proofs.Drafts.{begun_again, begun_same, totals_le, totals_more, totals_suc}
use Rattle.forward.proofs.Puts.{level_part}
use Rattle.forward.proofs.Steps.{placed_start}
use Rattle.forward.proofs.Totals.{first_length}
use Rattle.records.specs.Drafts.{drafted, in_order, of_total}

-- ---- pairs

filter_length : (q : ℕ → Bool) (l : List ℕ) → length (filter q l) ≤ length l
filter_length q [] = omega arith
filter_length q (a ∷ l) =
    ⊎_elim (λ t. omega (arith, ap length (filter_yes q a l t), filter_length q l)) (λ t. omega (arith, ap length (filter_no q a l t), filter_length q l)) (test (q a))

-- at most 16 letters to each
pairs_few : (p : Rules) (w : List ℕ) → p.profile.k ≤ most_letters → (C : List (List ℕ)) → pairs p w C ≤ most_letters * length C
pairs_few p w few [] = omega arith
pairs_few p w few (c ∷ C) = omega (
  arith,
  pairs_cons p.may p.letter p.profile.k w c C,
  filter_length (addable? p.may p.letter w (at c)) (below p.profile.k),
  length-map (below p.profile.k) (λ x. x),
  length_range (λ x. x) p.profile.k 0,
  pairs_few p w few C,
)

-- ---- one total

-- the table was `before`; the first j records of total t + 1 are put, and there are n pairs of them and a letter
pub record Filling (p : Rules) (w before table : List ℕ) (room t first j n : ℕ) (cursors : List ℕ) : Type 0 where
  pub kept : length table ≡ length before
  pub inside : first + j ≤ room
  pub come : j ≤ length (of_total p w (suc t))
  pub written : table ≡ begun p w (totals p w (suc t) ++ take j (of_total p w (suc t))) before
  pub paired : n ≡ pairs p w (take j (of_total p w (suc t)))
  pub sixteen : length cursors ≡ most_letters
  pub placed : Placed p w t j cursors

module _ {p : Rules} {w : List ℕ} {m room : ℕ} {found : List ℕ → List ℕ} (r : Ready p w m room found) {before : List ℕ}
    {t from first : ℕ} (b : Begun p w before room t from first) where
  pub filling_start : (cursors : List ℕ) → length cursors ≡ most_letters
      → Filling p w before before room t first 0 0 (started p.profile.k (records_between before from first) cursors)
  filling_start cursors e = record {
    kept = refl;
    inside = omega (arith, b.inside);
    come = omega arith;
    written = begun-none;
    paired = refl;
    sixteen = front_whole (seek_from part 0) cursors p.profile.k few ∙ e;
    placed = placed_start r t part (level_part p w before t from first [] b.before b.behind begun-none) cursors few;
  }
    where
      part : List ℕ
      part = records_between before from first

      few : p.profile.k ≤ length cursors
      few = omega (arith, r.profile.relation.most)

      begun-none : before ≡ begun p w (totals p w (suc t) ++ []) before
      begun-none = b.written ∙ ap (λ C. begun p w C before) (sym (append-nil (totals p w (suc t))))

  module _ {table : List ℕ} {j n : ℕ} {cursors : List ℕ} (f : Filling p w before table room t first j n cursors) where
    abbrev E : List (List ℕ)
    E = of_total p w (suc t)

    pub filling_merging : Merging p w table room t from first j cursors
    filling_merging = record {
      before = b.before;
      behind = b.behind;
      inside = f.inside;
      come = f.come;
      written = f.written ∙ sym (ap (begun p w (totals p w (suc t) ++ take j E)) f.written ∙ begun_same p w (totals p w (suc t) ++ take j E) before);
      long = omega (arith, f.sixteen);
      placed = f.placed;
    }

    pub filling_next : (m : ℕ) (after next : List ℕ) → Steps p w room t first j table after next (Some (Some m)) → length after ≡ length table → length next ≡ length cursors
        → Filling p w before after room t first (j + 1) (n + m) next
    filling_next m after next s l e = subst (λ i. Filling p w before after room t first i (n + m) next) (sym (add-one j)) (record {
      kept = l ∙ f.kept;
      inside = omega (arith, s.0);
      come = omega (arith, s.1);
      written = s.3 ∙ ap₂ (begun p w) more f.written ∙ begun_again p w D (c ∷ []) before ∙ ap (λ C. begun p w C before) (sym more);
      paired = omega (
        arith,
        ap (pairs p w) (take-suc E j [] s.1),
        pairs_append p.may p.letter p.profile.k w (take j E) (c ∷ []),
        pairs_cons p.may p.letter p.profile.k w c [],
        f.paired,
        s.2,
      );
      sixteen = e ∙ f.sixteen;
      placed = s.4;
    })
      where
        c : List ℕ
        c = get_or E j []

        D : List (List ℕ)
        D = totals p w (suc t) ++ take j E

        more : totals p w (suc t) ++ take (suc j) E ≡ D ++ (c ∷ [])
        more = ap (λ C. totals p w (suc t) ++ C) (take-suc E j [] s.1) ∙ sym (append_assoc (totals p w (suc t)) (take j E) (c ∷ []))

    -- so the number of pairs fits its type
    pub filling_few : n ≤ most_letters * room
    filling_few = omega (arith, f.paired, f.inside, pairs_few p w r.profile.relation.most (take j E), length-take-le j E f.come)

    pub filling_done : (after next : List ℕ) → Steps p w room t first j table after next (Some None) → Grows p w room t first before after (Some (j, n))
    filling_done after next s =
        let all : take j E ≡ E = take_all j E (omega (arith, s.0)) in (
          s.0,
          f.inside,
          f.paired ∙ ap (pairs p w) all,
          s.1 ∙ f.written ∙ ap (λ C. begun p w C before) (ap (λ C. totals p w (suc t) ++ C) all ∙ sym (totals_suc p w (suc t))),
        )

-- ---- all totals

-- the table was `before`; the totals up to t are put, and there are n pairs of their records and a letter
pub record Reaching (p : Rules) (w before table : List ℕ) (room t from first n : ℕ) : Type 0 where
  pub kept : length table ≡ length before
  pub up_to : t ≤ length w
  pub begins : Begun p w table room t from first
  pub written : table ≡ begun p w (totals p w (suc t)) before
  pub paired : n ≡ pairs p w (totals p w (suc t))

pub reaching_start : {p : Rules} {w before : List ℕ} {room t from first : ℕ} (n : ℕ) → Begun p w before room t from first → t ≤ length w
    → n ≡ pairs p w (totals p w (suc t)) → Reaching p w before before room t from first n
reaching_start n b le e = record { kept = refl; up_to = le; begins = b; written = b.written; paired = e }

module _ {p : Rules} {w : List ℕ} {m room : ℕ} {found : List ℕ → List ℕ} (r : Ready p w m room found) where
  -- records of all totals
  order_count : length (in_order p w) ≡ prefix_count p.may p.letter p.profile.k w
  order_count = by_total_length p.may p.letter p.profile.k w r.log.letters

  pub some_prefix : 0 < prefix_count p.may p.letter p.profile.k w
  some_prefix = omega (arith, order_count, totals_le p w 1 (suc (length w)) (omega arith), first_length r)

  module _ {before table : List ℕ} {t from first n : ℕ} (f : Reaching p w before table room t from first n) where
    next_first : first ≡ length (totals p w (suc t))
    next_first = omega (arith, f.begins.before, f.begins.behind, ap length (totals_suc p w t), length-append (totals p w t) (of_total p w t))

    -- so the number of pairs fits its type
    pub reaching_few : n ≤ most_letters * room
    reaching_few = omega (arith, f.paired, f.begins.inside, next_first, pairs_few p w r.profile.relation.most (totals p w (suc t)))

    pub reaching_full : t < length w → (after : List ℕ) → Grows p w room t first table after None → room < prefix_count p.may p.letter p.profile.k w
    reaching_full lt after g = omega (
      arith,
      g,
      order_count,
      next_first,
      ap length (totals_suc p w (suc t)),
      length-append (totals p w (suc t)) (of_total p w (suc t)),
      totals_le p w (suc (suc t)) (suc (length w)) (omega arith),
    )

    pub reaching_next : t < length w → (i l : ℕ) (after : List ℕ) → Grows p w room t first table after (Some (i, l)) → length after ≡ length table
        → Reaching p w before after room (t + 1) first (first + i) (n + l)
    reaching_next lt i l after g q = subst (λ z. Reaching p w before after room z first (first + i) (n + l)) (sym (add-one t)) (record {
      kept = q ∙ f.kept;
      up_to = omega arith;
      begins = record {
        before = next_first;
        behind = ap (λ z. first + z) g.0;
        inside = g.1;
        written = put ∙ sym (ap (begun p w (totals p w (suc (suc t)))) put ∙ begun_same p w (totals p w (suc (suc t))) before);
      };
      written = put;
      paired = omega (
        arith,
        f.paired,
        g.2,
        ap (pairs p w) (totals_suc p w (suc t)),
        pairs_append p.may p.letter p.profile.k w (totals p w (suc t)) (of_total p w (suc t)),
      );
    })
      where
        more : totals p w (suc (suc t)) ≡ totals p w (suc t) ++ of_total p w (suc t)
        more = totals_suc p w (suc t)

        put : after ≡ begun p w (totals p w (suc (suc t))) before
        put = g.3 ∙ ap₂ (begun p w) more f.written ∙ begun_again p w (totals p w (suc t)) (of_total p w (suc t)) before ∙ ap (λ C. begun p w C before) (sym more)

    pub reaching_end : length w ≤ t → Forward p w room before table (Some record { records = first; looks = n })
    reaching_end le =
        let e : t ≡ length w = omega (arith, f.up_to) in
        let whole : totals p w (suc t) ≡ in_order p w = ap (λ i. totals p w (suc i)) e in
        let P : first ≡ length (in_order p w) = next_first ∙ ap length whole in (
          P ∙ order_count,
          f.begins.inside,
          f.paired ∙ ap (pairs p w) whole ∙ sym (looks_by_total p.may p.letter p.profile.k w r.log.letters),
          f.written ∙ ap (λ C. begun p w C before) whole ∙ ap (λ i. drafted p w (in_order p w) ++ drop (record_length layout * i) before) (sym P),
        )

  -- ---- the first total

  pub first_begun : 1 ≤ room → (before table : List ℕ) → table ≡ begun p w (totals p w 1) before → Begun p w table room 0 0 1
  first_begun h before table e = record {
    before = refl;
    behind = omega (arith, first_length r, ap length (append-nil (of_total p w 0)));
    inside = h;
    written = e ∙ sym (ap (begun p w (totals p w 1)) e ∙ begun_same p w (totals p w 1) before);
  }

  pub from_first : (before table after : List ℕ) → table ≡ begun p w (totals p w 1) before → (f : Option Filled) → Forward p w room table after f → Forward p w room before after f
  from_first before table after e None h = h
  from_first before table after e (Some f) h =
      let d = totals_more p w 1 (suc (length w)) (omega arith) in
      let over : begun p w (in_order p w) table ≡ begun p w (in_order p w) before =
      ap₂ (begun p w) d.1 e ∙ begun_again p w (totals p w 1) d.0 before ∙ ap (λ C. begun p w C before) (sym d.1) in
      let q : length (in_order p w) ≡ f.records = order_count ∙ sym h.0 in (
        h.0,
        h.1,
        h.2,
        h.3 ∙ subst (λ i. drafted p w (in_order p w) ++ drop (record_length layout * i) table ≡ drafted p w (in_order p w) ++ drop (record_length layout * i) before) q over,
      )
