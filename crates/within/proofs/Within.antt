-- Paper 11 beside the judge: what a call for a ceiling tells bounds what any call of the judge tells for the same log and masks, and a table of that size
-- is large enough. `judged r v order order' table table' j` is what is told by a call with the rules r and the events v (`verdict/specs/Verdict`);
-- `Promise p w …` is that of the judge.
use mathlib.Core.Path.{◌≡◌, refl, sym, ◌∙◌, ap, subst}
use mathlib.Core.Bool.{Bool, true, false, not, ◌||◌}
use mathlib.Core.Logic.{◌≢◌}
use mathlib.Core.List.Memᴰ
use mathlib.Core.List.{List, [], ◌∷◌, ◌++◌, map}
use mathlib.Core.Option.{some, none-ne-some, some-injective}
use Prim.Native.Nat.{ℕ, ◌*◌, ◌≤◌}
use native.Mathlib.Omega.{arith}
use borrow.Author.Tests.{le-ltb}
use lib.Dec.{T, eqb}
use lib.ListN.{length}
use Rattle.std.specs.Prelude.{Result, Ok, Err}
use Rattle.profile.specs.Automata.{Profile}
use Rattle.profile.specs.Limits.{record_numbers, usable_numbers}
use Rattle.profile.specs.Lists.{Mem, all}
use Rattle.profile.specs.Refusals.{admission_refusals, full_table, judge_refusals, lowest, refusal_number, refused_by}
use Rattle.profile.specs.Rules.{Rules, plain, prefixes_by}
use Rattle.profile.specs.Tables.{capacity, layout}
use Rattle.profile.specs.Traces.{independent}
use Rattle.profile.specs.declared.Refusal.{Refusal}
use Rattle.profile.specs.declared.Refusal.TheVariants.{FullTable}
use Rattle.profile.proofs.Lists.{all_at}
use Rattle.theory.proofs.Refusals.{lowest_at}
use Rattle.verdict.specs.Verdict.{Promise, judged}
use Rattle.verdict.specs.declared.Judged.{Judged}
use Rattle.verdict.specs.declared.Judged.TheVariants.{NoOrder, Order}
use Rattle.verdict.proofs.Promises.{told_prefixes}
use Rattle.ceiling.specs.Ceiling.{bounding, told_ceiling}
use Rattle.ceiling.proofs.Demands.{within, within_ceiling}

-- ---- a table that is not full

-- another refusal than 10, or one that does not apply
unfoldable pub passed? : Bool × Refusal → Bool
passed? c = not (eqb (refusal_number c.1) 10) || not c.0

-- where 10 does not apply, it is not the one that is given
pub not_full : (l : List (Bool × Refusal)) → T (all passed? l) → lowest l ≢ some FullTable
unfolding passed?
not_full l t e =
    let x = lowest_at l e in
    let a : T (passed? x.2) = all_at passed? t (subst (Mem x.2) (sym x.3) (Memᴰ.append_right x.0 (Memᴰ.head refl))) in
    let b : T (not (eqb (refusal_number FullTable) 10) || not true) = subst (λ b. T (not (eqb (refusal_number FullTable) 10) || not b)) x.4 (subst (λ r. T (not (eqb (refusal_number r) 10) || not x.2.0)) x.5 a) in
    b

-- P of no more than n leaves place in a table of n records, as long as the usable numbers hold them
pub place_for : (P n m : ℕ) → P ≤ n → record_numbers * n ≤ m → record_numbers * n ≤ usable_numbers → full_table P m ≡ false
place_for P n m h a b = le-ltb (capacity layout m) P (omega arith)

-- what is told with P, where P of the events is at most n
pub told_within : (r : Rules) (v : List ℕ) (n : ℕ) → prefixes_by r v ≤ n → (order order' table table' : List ℕ) (j : Result Judged Refusal)
    → judged r v order order' table table' j → (P : ℕ) → told_prefixes j ≡ some P → P ≤ n
told_within r v n b order order' table table' (Err x) h P e = absurd (none-ne-some P e)
told_within r v n b order order' table table' (Ok (NoOrder Q m)) h P e = omega (arith, some-injective Q P e, h.2.prefixes, b)
told_within r v n b order order' table table' (Ok (Order Q m)) h P e = omega (arith, some-injective Q P e, h.3.prefixes, b)

-- ---- any rules that exchange no more than the masks let

module _ (r : Rules) (masks w groups : List ℕ) (n : ℕ) (told : told_ceiling (bounding r.profile.k masks w groups) ≡ some n)
    (sub : (a b : ℕ) → T (r.may a b) → T (independent masks (r.letter a) (r.letter b))) (v : List ℕ) (events : map r.letter v ≡ w) where
  pub prefixes_within : prefixes_by r v ≤ n
  prefixes_within = within_ceiling r.profile.k masks w groups n told r.may r.letter sub v events

  -- "P never exceeds it"
  pub within_by : (order order' table table' : List ℕ) (j : Result Judged Refusal) → judged r v order order' table table' j → (P : ℕ) → told_prefixes j ≡ some P → P ≤ n
  within_by = told_within r v n (within_ceiling r.profile.k masks w groups n told r.may r.letter sub v events)

-- ---- the judge

module _ (p : Profile) (w groups : List ℕ) (n : ℕ) (told : told_ceiling (bounding p.k p.masks w groups) ≡ some n)
    (order order' table table' : List ℕ) (j : Result Judged Refusal) (h : Promise p w order order' table table' j) where
  -- "P never exceeds it": the P that the judge tells, whatever it was lent
  pub within_judged : (P : ℕ) → told_prefixes j ≡ some P → P ≤ n
  within_judged = told_within (plain p) w n (within p.k p.masks w groups n told) order order' table table' j h.told

  -- "How large a table to buy": with a table of n records, as long as the usable numbers hold them, 10 is not given
  pub table_suffices : record_numbers * n ≤ length table → record_numbers * n ≤ usable_numbers → j ≢ Err FullTable
  unfolding passed?
  table_suffices a b e =
      let f = place_for (prefixes_by (plain p) w) n (length table) (within p.k p.masks w groups n told) a b in
      not_full (judge_refusals p w (length order) (length table))
      (subst (λ b. T (all passed? (admission_refusals p w (length order) ++ ((b, FullTable) ∷ [])))) (sym f) tt) (sym h.refused ∙ ap refused_by e)
