-- A step of the merge in the table: the next record of a total is put, or there is none, or it does not fit.
use mathlib.Core.Path.{◌≡◌, sym, ◌∙◌, ap, ap₂, subst, subst₂}
use mathlib.Core.Bool.{Bool, false}
use Rattle.std.specs.Prelude.{Some}
use mathlib.Core.List.{List, [], ◌∷◌, ◌++◌, append_assoc}
use mathlib.Core.Option.{none, some}
use Prim.Native.Nat.{ℕ, suc, ◌+◌, ◌*◌, ◌%◌, ◌^◌, ◌≤◌, ◌<◌}
use native.Mathlib.Omega.{arith}
use lib.Bits.{bit_or, or_shifted_r}
use lib.Count.{ones}
use lib.Dec.{T}
use lib.ListN.{length, get_or, take, length-append}
use lib.Pow.{shl_exact}
use lib.Seq.{length-take-le, take-suc}
use Rattle.profile.specs.Rules.{Rules}
use Rattle.profile.specs.Automata.{union}
use Rattle.profile.specs.Prefixes.{addable?, at}
use Rattle.profile.specs.Tables.{layout, record_length}
use Rattle.profile.specs.Traces.{independent}
use Rattle.profile.proofs.Lists.{mem_getd}
use Rattle.parents.proofs.Ones.{passing_ones}
use Rattle.letters.specs.Letters.{Hands}
use Rattle.cursors.specs.Cursors.{advanced}
use Rattle.merge.specs.Merge.{givers, inherited, least_of, passing, united}
use Rattle.records.specs.Records.{put_record}
use Rattle.forward.specs.Forward.{Ready}
use Rattle.forward.specs.Merging.{Merging, Placed, Steps, begun, records_between, totals}
use Rattle.forward.proofs.Drafts.{begun_part, begun_put, totals_suc}
use Rattle.forward.proofs.Handed.{handed_removable, hands}
use Rattle.forward.proofs.Steps.{next_forward, next_none, next_placed, next_some}
use Rattle.forward.proofs.Totals.{found_letters}
use Rattle.records.proofs.Halves.{addable_few, removable_few}
use Rattle.records.specs.Drafts.{addable_set, drafted, letters_set, of_total, removable_set}

-- the total before lies between records `from` and `first`, with records D behind it
pub level_part : (p : Rules) (w table : List ℕ) (t from first : ℕ) (D : List (List ℕ)) → from ≡ length (totals p w t) → first ≡ from + length (of_total p w t)
    → table ≡ begun p w (totals p w (suc t) ++ D) table
    → records_between table from first ≡ drafted p w (of_total p w t)
level_part p w table t from first D b e h =
    let l = length-append (totals p w t) (of_total p w t) in
    begun_part p w (totals p w t) (of_total p w t) D table (record_length layout * from) (record_length layout * first)
    (h ∙ ap (λ C. begun p w (C ++ D) table) (totals_suc p w t)) (ap (λ n. record_length layout * n) b) (omega arith)

-- two halves of a number
halves : (A R : ℕ) → A < 65536 → R < 65536 → bit_or A (R * 2 ^ 16 % 2 ^ 32) ≡ A + 65536 * R
halves A R a b = ap (bit_or A) (shl_exact {a = R} 16 16 32 b (omega arith)) ∙ or_shifted_r R 16 A a ∙ omega arith

module _ {p : Rules} {w : List ℕ} {room : ℕ} {found : List ℕ → List ℕ} {table : List ℕ} (r : Ready p w (length table) room found)
    {t from first j : ℕ} {cursors : List ℕ} (h : Merging p w table room t from first j cursors) where
  abbrev E : List (List ℕ)
  E = of_total p w (suc t)

  abbrev part : List ℕ
  part = records_between table from first

  part_drafted : part ≡ drafted p w (of_total p w t)
  part_drafted = level_part p w table t from first (take j E) h.before h.behind h.written

  long : p.profile.k ≤ length cursors
  long = omega (arith, h.long, r.profile.relation.most)

  pub merge_none : least_of part p.profile.k cursors ≡ none → j ≡ length E
  merge_none = next_none r t part part_drafted cursors long j h.placed h.come

  module _ (v : List ℕ) (least : least_of part p.profile.k cursors ≡ some v) where
    pub merge_full : room ≤ first + j → room < first + length E
    merge_full le = omega (arith, (next_some r t part part_drafted cursors long j h.placed v least).0)

    -- as many records as stand before the new one
    written_length : length (totals p w (suc t) ++ take j E) ≡ first + j
    written_length = omega (
      arith,
      length-append (totals p w (suc t)) (take j E),
      ap length (totals_suc p w t),
      length-append (totals p w t) (of_total p w t),
      length-take-le j E h.come,
      h.before,
      h.behind,
    )

    -- the letters that can be added to it
    pub merge_found : (L : ℕ) → L ≡ union (λ x. 2 ^ x) (found v) → L ≡ addable_set p w (get_or E j [])
    merge_found L l =
        let q = next_some r t part part_drafted cursors long j h.placed v least in
        l ∙ ap (union (λ x. 2 ^ x)) (found_letters r (suc t) (get_or E j []) (mem_getd E j [] q.0) v q.1)

    pub merge_hands : (termed : Bool) → (termed ≡ false → (a b : ℕ) → T (independent p.profile.masks (p.letter a) (p.letter b)) → T (p.may a b)) → (I P : ℕ)
        → I ≡ inherited p.profile.k part cursors (givers part p.profile.k cursors)
        → P ≡ passing p.profile.k p.profile.masks (givers part p.profile.k cursors)
        → Hands termed (found v) I P
    merge_hands termed free I P i s =
        let q = next_some r t part part_drafted cursors long j h.placed v least in
        subst₂ (Hands termed (found v)) (sym i) (sym s)
        (subst (λ u. Hands termed (found u) (inherited p.profile.k part cursors (givers part p.profile.k cursors)) (passing p.profile.k p.profile.masks (givers part p.profile.k cursors))) (sym q.1)
        (hands r t part part_drafted cursors long j h.placed q.0 termed free))

    pub merge_put : (S L F n : ℕ) (after next : List ℕ) → first + j < room
        → S ≡ united p.profile.k p.profile.s p.profile.moves part cursors (givers part p.profile.k cursors) → next ≡ advanced p.profile.k part cursors (givers part p.profile.k cursors)
        → L ≡ addable_set p w (get_or E j [])
        → F ≡ givers part p.profile.k cursors
        → n ≡ ones L
        → after ≡ put_record table (first + j) (v ++ (S ∷ bit_or L (F * 2 ^ 16 % 2 ^ 32) ∷ []))
        → Steps p w room t first j table after next (Some (Some n))
    merge_put S L F n after next lt s a l g m put =
        let q = next_some r t part part_drafted cursors long j h.placed v least in
        let e = get_or E j [] in
        let f = s ∙ next_forward r t part part_drafted cursors long j h.placed q.0 in
        let most = r.profile.relation.most in
        let last : bit_or L (F * 2 ^ 16 % 2 ^ 32) ≡ letters_set p w e =
        ap₂ (λ x y. bit_or x (y * 2 ^ 16 % 2 ^ 32)) l (g ∙ handed_removable r t part part_drafted cursors long j h.placed q.0)
        ∙ halves (addable_set p w e) (removable_set p w e) (addable_few p w e most) (removable_few p w e most) in
        let D = totals p w (suc t) ++ take j E in (
          lt,
          q.0,
          m ∙ ap ones l ∙ passing_ones (addable? p.may p.letter w (at e)) p.profile.k,
          put ∙ ap₂ (put_record table) (sym written_length) (ap₂ ◌++◌ q.1 (ap₂ (λ x y. x ∷ y ∷ []) f last)) ∙ begun_put p w D e table h.written
              ∙ ap (λ C. begun p w C table) (append_assoc (totals p w (suc t)) (take j E) (e ∷ []) ∙ ap (λ C. totals p w (suc t) ++ C) (sym (take-suc E j [] q.0))),
          subst (Placed p w t (suc j)) (sym a)
              (next_placed r t part part_drafted cursors long j h.placed q.0),
        )
