-- A judge's answer and the numbers that are returned and told of it.
use Rattle.std.specs.Prelude.{Result, Ok, Err}
use mathlib.Core.Path.{◌≡◌, refl, sym, ◌∙◌, ap, subst}
use mathlib.Core.Logic.{◌↔◌, ◌≢◌}
use mathlib.Core.List.{List}
use mathlib.Core.Option.{none, some, some-ne-none, some-injective}
use Prim.Native.Nat.{ℕ}
use native.Mathlib.Omega.{arith}
use lib.Dec.{T, eqb}
use Rattle.profile.specs.Refusals.{refusal_number}
use Rattle.profile.specs.declared.Refusal.{Refusal}
use Rattle.profile.specs.declared.Refusal.TheVariants.{ShortFile, OutOfRange, Distance, MaskBit, StateBit, LongLog, BadLetter, ShortBuffer, FullTable, BadText, DeepText, LongText, BadDay, BadTerm, NoTerm, ShortCosts, BadGroups, HighCeiling, ViewBit, BadRule, ShortSets}
use Rattle.verdict.specs.Verdict.{judged_code, judged_told, refused_by, verdict_number}
use Rattle.verdict.specs.declared.Judged.{Judged}
use Rattle.verdict.specs.declared.Judged.TheVariants.{NoOrder, Order}
use Rattle.verdict.proofs.Promises.{told_looks, told_prefixes}
use Rattle.demands.proofs.Admission.{ten_full}
use Rattle.call_demands.specs.Told.{looks_in, prefixes_in, verdict_in}

-- no refusal has the number 0
pub zero_unused : (r : Refusal) → refusal_number r ≢ 0
zero_unused ShortFile e = omega arith
zero_unused OutOfRange e = omega arith
zero_unused Distance e = omega arith
zero_unused MaskBit e = omega arith
zero_unused StateBit e = omega arith
zero_unused LongLog e = omega arith
zero_unused (BadLetter i) e = omega arith
zero_unused ShortBuffer e = omega arith
zero_unused FullTable e = omega arith
zero_unused (BadText i) e = omega arith
zero_unused DeepText e = omega arith
zero_unused LongText e = omega arith
zero_unused BadDay e = omega arith
zero_unused BadTerm e = omega arith
zero_unused NoTerm e = omega arith
zero_unused ShortCosts e = omega arith
zero_unused BadGroups e = omega arith
zero_unused HighCeiling e = omega arith
zero_unused ViewBit e = omega arith
zero_unused BadRule e = omega arith
zero_unused ShortSets e = omega arith

zero_none : (j : Result Judged Refusal) → (judged_code j ≡ 0) ↔ (refused_by j ≡ none)
zero_none (Err r) = ((λ e. absurd (zero_unused r e)), λ e. absurd (some-ne-none r e))
zero_none (Ok (NoOrder P n)) = ((λ e. refl), λ e. refl)
zero_none (Ok (Order P n)) = ((λ e. refl), λ e. refl)

ten_refused : (j : Result Judged Refusal) → (judged_code j ≡ 10) ↔ (j ≡ Err FullTable)
ten_refused (Err r) = ((λ e. ap Err (ten_full r (subst (λ n. T (eqb n 10)) (sym e) tt))), λ e. ap judged_code e)
ten_refused (Ok (NoOrder P n)) = ((λ e. absurd (omega arith)), λ e. ap judged_code e)
ten_refused (Ok (Order P n)) = ((λ e. absurd (omega arith)), λ e. ap judged_code e)

told_in : (j : Result Judged Refusal) → refused_by j ≡ none
    → (verdict_number j ≡ some (verdict_in (judged_told j))) × (told_prefixes j ≡ some (prefixes_in (judged_told j))) × (told_looks j ≡ some (looks_in (judged_told j)))
told_in (Err r) e = absurd (some-ne-none r e)
told_in (Ok (NoOrder P n)) e = (refl, refl, refl)
told_in (Ok (Order P n)) e = (refl, refl, refl)

module _ (j : Result Judged Refusal) (code : ℕ) (told : List ℕ) (code_is : code ≡ judged_code j) (told_is : told ≡ judged_told j) where
  -- the number returned is 0 where there is no refusal, 10 where that is given
  pub code_zero : (code ≡ 0) ↔ (refused_by j ≡ none)
  code_zero = (λ e. (zero_none j).0 (sym code_is ∙ e), λ e. code_is ∙ (zero_none j).1 e)

  pub code_ten : (code ≡ 10) ↔ (j ≡ Err FullTable)
  code_ten = (λ e. (ten_refused j).0 (sym code_is ∙ e), λ e. code_is ∙ (ten_refused j).1 e)

  -- the numbers told are the verdict, P and looks
  module _ (answered : refused_by j ≡ none) where
    pub told_verdict : verdict_number j ≡ some (verdict_in told)
    told_verdict = (told_in j answered).0 ∙ ap (λ t. some (verdict_in t)) (sym told_is)

    pub told_count : told_prefixes j ≡ some (prefixes_in told)
    told_count = (told_in j answered).1 ∙ ap (λ t. some (prefixes_in t)) (sym told_is)

    pub told_number : told_looks j ≡ some (looks_in told)
    told_number = (told_in j answered).2 ∙ ap (λ t. some (looks_in t)) (sym told_is)

    pub verdict_is : (v : ℕ) → (verdict_in told ≡ v) ↔ (verdict_number j ≡ some v)
    verdict_is v = (λ e. told_verdict ∙ ap some e, λ e. some-injective _ _ (sym told_verdict ∙ e))

-- two calls with the same answer tell the same
module _ (i j : Result Judged Refusal) (code₁ code₂ : ℕ) (told₁ told₂ : List ℕ) (c₁ : code₁ ≡ judged_code i) (t₁ : told₁ ≡ judged_told i) (c₂ : code₂ ≡ judged_code j) (t₂ : told₂ ≡ judged_told j)
    (a₁ : refused_by i ≡ none) (a₂ : refused_by j ≡ none) where
  pub told_equal : (verdict_number i ≡ verdict_number j) → (told_prefixes i ≡ told_prefixes j) → (told_looks i ≡ told_looks j)
      → (verdict_in told₁ ≡ verdict_in told₂) × (prefixes_in told₁ ≡ prefixes_in told₂) × (looks_in told₁ ≡ looks_in told₂)
  told_equal v P n = (
    some-injective _ _ (sym (told_verdict i code₁ told₁ c₁ t₁ a₁) ∙ v ∙ told_verdict j code₂ told₂ c₂ t₂ a₂),
    some-injective _ _ (sym (told_count i code₁ told₁ c₁ t₁ a₁) ∙ P ∙ told_count j code₂ told₂ c₂ t₂ a₂),
    some-injective _ _ (sym (told_number i code₁ told₁ c₁ t₁ a₁) ∙ n ∙ told_number j code₂ told₂ c₂ t₂ a₂),
  )
