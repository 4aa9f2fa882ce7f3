-- What the judge's promise says where 10 alone may apply, with the usable part of the table lent to it.
use mathlib.Core.Path.{◌≡◌, refl, sym, ◌∙◌, ap, ap₂}
use mathlib.Core.Bool.{Bool, true, false, cond}
use Rattle.std.specs.Prelude.{Result, Ok, Err, is_err}
use mathlib.Core.List.{List, [], ◌∷◌, ◌++◌, append_assoc, map}
use mathlib.Core.Option.{Option, none, some, none-ne-some, some-injective}
use Prim.Native.Nat.{ℕ, zero, suc, ◌*◌, ◌≤◌}
use native.Mathlib.Omega.{arith}
use borrow.Author.Tests.{le-ltb, ltb-false}
use lib.Dec.{T, eqb, ltb}
use lib.ListN.{length, length-replicate, take, drop, replicate, take-append-drop}
use lib.Seq.{drop-append-le, drop_at, length-take-le, take_at}
use Rattle.profile.specs.Lists.{flat_map, range}
use Rattle.profile.specs.Traces.{independent}
use Rattle.profile.specs.Automata.{Automaton, Profile, automaton}
use Rattle.profile.specs.Orders.{accepted_order}
use Rattle.profile.specs.Prefixes.{by_total, looks, prefix_count}
use Rattle.profile.specs.Tables.{capacity, layout, record_length, record_of, table_of}
use Rattle.profile.specs.Refusals.{full_table, judge_refusal, log_refusals, lowest, profile_refusals, refusal_number, short_buffer}
use Rattle.profile.specs.declared.Refusal.{Refusal}
use Rattle.profile.specs.declared.Refusal.TheVariants.{FullTable, ShortBuffer}
use Rattle.theory.proofs.Refusals.{lowest_append}
use Rattle.table.specs.Table.{Spared}
use Rattle.table.proofs.Filling.{spared_part}
use Rattle.verdict.specs.Verdict.{Promise}
use Rattle.verdict.specs.declared.Judged.{Judged}
use Rattle.verdict.specs.declared.Judged.TheVariants.{NoOrder, Order}
use Rattle.verdict.proofs.Judging.{order_length}
use Rattle.views.specs.Views.{buffer_refusals}
use Rattle.cleared.specs.Cleared.{Clean, answer, cleared, order_as, order_left, table_as, table_left, told_as, usable}

-- all zeros
pub map_zero : (n a : ℕ) → map {B = ℕ} (λ (x : ℕ). 0) (range a n) ≡ replicate n 0
map_zero zero a = refl
map_zero (suc n) a = ap (◌∷◌ 0) (map_zero n (suc a))

-- a table whose usable part is cleared has the other numbers as they were
pub cleared_spared : (t : List ℕ) → Spared t (cleared t)
cleared_spared t = spared_part (replicate (usable (length t)) 0) t (usable (length t)) refl (length-replicate (usable (length t)) 0)

-- the usable part has place for as many records as the table
pub usable_capacity : (m : ℕ) → capacity layout (usable m) ≡ capacity layout m
usable_capacity m = omega arith

pub usable_within : (m : ℕ) → usable m ≤ m
usable_within m = omega arith

module _ (p : Profile) (M : Automaton) (u : List ℕ) (clean : Clean p u) where
  -- 9 and 10 are left
  pub judge_left : (n m : ℕ) → judge_refusal p u n m ≡ lowest (buffer_refusals p u n m)
  judge_left n m =
      lowest_append (profile_refusals p) (log_refusals p.k u ++ buffer_refusals p u n m) clean.profile
      ∙ lowest_append (log_refusals p.k u) (buffer_refusals p u n m) clean.log

  -- the refusal, where the order buffer is long enough
  abbrev P : ℕ
  P = prefix_count (independent p.masks) (λ a. a) p.k u

  ten : (n m : ℕ) → length u ≤ n → lowest (buffer_refusals p u n m) ≡ lowest ((full_table P m, FullTable) ∷ [])
  ten n m h = ap (λ b. lowest ((b, ShortBuffer) ∷ (full_table P m, FullTable) ∷ [])) (le-ltb n (length u) h)

  ten_only : (n m : ℕ) → length u ≤ n → {r : Refusal} → lowest (buffer_refusals p u n m) ≡ some r → r ≡ FullTable
  ten_only n m h {r} e = go (full_table P m) (sym (ten n m h) ∙ e)
    where
      go : (b : Bool) → lowest ((b, FullTable) ∷ []) ≡ some r → r ≡ FullTable
      go true q = sym (some-injective FullTable r q)
      go false q = absurd (none-ne-some r q)

  pub ten_not : (n m : ℕ) → length u ≤ n → lowest (buffer_refusals p u n m) ≡ none → P ≤ capacity layout m
  ten_not n m h e = ltb-false (capacity layout m) P (go (full_table P m) (sym (ten n m h) ∙ e))
    where
      go : (b : Bool) → lowest ((b, FullTable) ∷ []) ≡ none → b ≡ false
      go true q = absurd (none-ne-some FullTable (sym q))
      go false q = refl

  -- ---- a table of which a part holds the records

  module _ (t : List ℕ) (z : ℕ) (e : z ≡ usable (length t)) where
    part_length : length (take z t) ≡ z
    part_length = length-take-le z t (omega (arith, usable_within (length t)))

    same_refusal : (n : ℕ) → lowest (buffer_refusals p u n (length (take z t))) ≡ lowest (buffer_refusals p u n (length t))
    same_refusal n = ap (λ c. lowest ((short_buffer n u, ShortBuffer) ∷ (ltb c P, FullTable) ∷ []))
        (ap (capacity layout) (part_length ∙ e) ∙ usable_capacity (length t))

    -- the records are put in the part, and what stands behind it stays
    part_table : (T : List ℕ) → P ≤ capacity layout (length t) → T ≡ table_of layout (independent p.masks) (λ a. a) M p.k u (take z t)
        → T ++ drop z t ≡ table_of layout (independent p.masks) (λ a. a) M p.k u t
    part_table T h q =
        let F = flat_map (record_of layout (independent p.masks) (λ a. a) M u) (by_total (independent p.masks) (λ a. a) p.k u) in
        let n = record_length layout * P in
        let l : n ≤ length (take z t) = omega (arith, part_length, e) in
        ap (λ x. x ++ drop z t) q ∙ append_assoc F (drop n (take z t)) (drop z t)
        ∙ ap (λ x. F ++ x) (sym (drop-append-le n (take z t) (drop z t) l) ∙ ap (drop n) (take-append-drop z t))

    module _ (order order' T : List ℕ) (fits : length u ≤ length order) (kept : length T ≡ length (take z t)) where
      refusal_is : {o : Option Refusal} → o ≡ judge_refusal p u (length order) (length (take z t)) → lowest (buffer_refusals p u (length order) (length t)) ≡ o
      refusal_is q = sym (q ∙ judge_left (length order) (length (take z t)) ∙ same_refusal (length order))

-- ---- what is told

module _ (p : Profile) (u : List ℕ) (clean : Clean p u) (t : List ℕ) (z : ℕ) (e : z ≡ usable (length t)) (order order' T : List ℕ) (fits : length u ≤ length order)
    (kept : length T ≡ length (take z t)) where
  abbrev M : Automaton
  M = automaton p

  abbrev may : ℕ → ℕ → Bool
  may = independent p.masks

  abbrev Told : Result Judged Refusal → List ℕ → Type 0
  Told r after = (r ≡ answer p M u (length order) (length t)) × ((order' ≡ order_left p M u (length t) order) × (after ≡ table_left p M u (length order) t))

  -- the answer and the buffers by the refusal and the order
  by_both : {o : Option Refusal} {v : Option (List ℕ)} → lowest (buffer_refusals p u (length order) (length t)) ≡ o → accepted_order may (λ a. a) M u ≡ v → (r : Result Judged Refusal) (after : List ℕ)
      → r ≡ told_as o v (prefix_count may (λ a. a) p.k u) (looks may (λ a. a) p.k u) → order' ≡ order_as o v order → after ≡ table_as o (table_of layout may (λ a. a) M p.k u t) t → Told r after
  by_both {o} {v} f g r after a b c = (
    a ∙ sym (ap₂ (λ x y. told_as x y (prefix_count may (λ a. a) p.k u) (looks may (λ a. a) p.k u)) f g),
    (b ∙ sym (ap₂ (λ x y. order_as x y order) f g), c ∙ sym (ap (λ x. table_as x (table_of layout may (λ a. a) M p.k u t) t) f)),
  )

  pub told_full : (r : Refusal) → Promise p u order order' (take z t) T (Err r) → (C : List ℕ) → C ≡ replicate (length (take z (T ++ drop z t))) 0 → Told (Err r) (C ++ drop z (T ++ drop z t))
  told_full r h C c =
      let f = refusal_is p M u clean t z e order order' T fits kept h.refused in
      let l = kept ∙ part_length p M u clean t z e in
      by_both f refl (Err r) (C ++ drop z (T ++ drop z t)) refl h.told.0
      (ap₂ (λ x y. x ++ y) (c ∙ ap (λ n. replicate n 0) (ap length (take_at T (drop z t) z l) ∙ l ∙ e)) (drop_at T (drop z t) z l ∙ ap (λ n. drop n t) e)
      ∙ sym (ap (λ x. cond (eqb (refusal_number x) 10) (cleared t) t) (ten_only p M u clean (length order) (length t) fits f)))

  pub told_none : (P n : ℕ) → Promise p u order order' (take z t) T (Ok (NoOrder P n)) → Told (Ok (NoOrder P n)) (T ++ drop z t)
  told_none P n h =
      let f = refusal_is p M u clean t z e order order' T fits kept h.refused in
      let g = h.told.2 in
      by_both f h.told.0 (Ok (NoOrder P n)) (T ++ drop z t) (ap₂ (λ a b. Ok (NoOrder a b)) g.prefixes g.looks) h.told.1
      (part_table p M u clean t z e T (ten_not p M u clean (length order) (length t) fits f) g.table)

  pub told_some : (P n : ℕ) → Promise p u order order' (take z t) T (Ok (Order P n)) → Told (Ok (Order P n)) (T ++ drop z t)
  told_some P n h =
      let f = refusal_is p M u clean t z e order order' T fits kept h.refused in
      let v = h.told.0 in
      let g = h.told.3 in
      by_both f h.told.1 (Ok (Order P n)) (T ++ drop z t) (ap₂ (λ a b. Ok (Order a b)) g.prefixes g.looks) (h.told.2 ∙ ap (λ k. v ++ drop k order) (sym (order_length p u h.told.1)))
      (part_table p M u clean t z e T (ten_not p M u clean (length order) (length t) fits f) g.table)

  -- ---- the answer with the table that is left

  -- of a refusal the usable part is cleared
  pub told_err : (r : Result Judged Refusal) → is_err r ≡ true → Promise p u order order' (take z t) T r → (C : List ℕ) → C ≡ replicate (length (take z (T ++ drop z t))) 0 → Told r (C ++ drop z (T ++ drop z t))
  told_err (Err r) e h C c = told_full r h C c
  told_err (Ok j) e h C c = absurd (cc)

  -- of a verdict it stays
  pub told_ok : (r : Result Judged Refusal) → is_err r ≡ false → Promise p u order order' (take z t) T r → Told r (T ++ drop z t)
  told_ok (Err r) e h = absurd (cc)
  told_ok (Ok (NoOrder P n)) e h = told_none P n h
  told_ok (Ok (Order P n)) e h = told_some P n h
