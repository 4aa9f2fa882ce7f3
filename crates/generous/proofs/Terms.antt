-- Paper 9 for two calls of the judge with terms, with the same days and terms. `Promise p w days terms …` is what holds of such a call (`termed/specs/Termed`).
use mathlib.Core.Path.{◌≡◌, subst₂}
use mathlib.Core.List.{List}
use mathlib.Core.Option.{some}
use Prim.Native.Nat.{ℕ, ◌≤◌}
use lib.ListN.{length, take}
use Rattle.std.specs.Prelude.{Result}
use Rattle.profile.specs.declared.Refusal.{Refusal}
use Rattle.profile.specs.Automata.{Profile}
use Rattle.profile.specs.Orders.{NoLater}
use Rattle.verdict.specs.Verdict.{verdict_number}
use Rattle.verdict.specs.declared.Judged.{Judged}
use Rattle.verdict.proofs.Promises.{told_looks, told_prefixes}
use Rattle.terms.specs.Terms.{events, letter_of, may_in}
use Rattle.terms.proofs.Logs.{events_length}
use Rattle.termed.specs.Termed.{Promise}
use Rattle.generous.specs.Generous.{HasVerdict, HoldsEveryBit, with_masks}
use Rattle.generous.proofs.Pairs.{in_terms}
use Rattle.generous.proofs.Generous.{looks_no_fewer_by, order_no_later_by, prefixes_no_fewer_by, verdict_stays_by}

module _ (p : Profile) (more : List ℕ) (holds : HoldsEveryBit more p.masks) (w days terms order₁ order₁' table₁ table₁' order₂ order₂' table₂ table₂' : List ℕ)
    (i j : Result Judged Refusal) (g : Promise p w days terms order₁ order₁' table₁ table₁' i) (h : Promise (with_masks p more) w days terms order₂ order₂' table₂ table₂' j)
    (first : HasVerdict i) (second : HasVerdict j) where
  -- "then verdict 1 stays 1"
  pub verdict_stays : verdict_number i ≡ some 1 → verdict_number j ≡ some 1
  verdict_stays =
      verdict_stays_by p more (may_in p.masks terms) (may_in more terms) (in_terms p.masks more terms holds) letter_of (events w days)
      order₁ order₁' table₁ table₁' order₂ order₂' table₂ table₂' i j g.told h.told second

  -- "the new order is no later in letter order"
  pub order_no_later : verdict_number i ≡ some 1 → NoLater (take (length w) order₂') (take (length w) order₁')
  order_no_later e = subst₂ (λ n m. NoLater (take n order₂') (take m order₁')) (events_length w days) (events_length w days)
      (order_no_later_by p more (may_in p.masks terms) (may_in more terms) (in_terms p.masks more terms holds) letter_of (events w days)
      order₁ order₁' table₁ table₁' order₂ order₂' table₂ table₂' i j g.told h.told second e)

  -- "and P does not shrink"
  pub prefixes_no_fewer : (P Q : ℕ) → told_prefixes i ≡ some P → told_prefixes j ≡ some Q → P ≤ Q
  prefixes_no_fewer =
      prefixes_no_fewer_by p more (may_in p.masks terms) (may_in more terms) (in_terms p.masks more terms holds) letter_of (events w days)
      order₁ order₁' table₁ table₁' order₂ order₂' table₂ table₂' i j g.told h.told second

  -- nor does looks
  pub looks_no_fewer : (n m : ℕ) → told_looks i ≡ some n → told_looks j ≡ some m → n ≤ m
  looks_no_fewer =
      looks_no_fewer_by p more (may_in p.masks terms) (may_in more terms) (in_terms p.masks more terms holds) letter_of (events w days)
      order₁ order₁' table₁ table₁' order₂ order₂' table₂ table₂' i j g.told h.told second
