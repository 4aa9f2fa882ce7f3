-- The answer of a call from what filling its table promises.
use Rattle.std.specs.Prelude.{Result, Ok, Err}
use mathlib.Core.Path.{◌≡◌, refl, sym, ◌∙◌, ap}
use mathlib.Core.Bool.{Bool, true, false, true≢false}
use mathlib.Core.List.{List, [], ◌∷◌, ◌++◌, map}
use mathlib.Core.Logic.{◌≢◌}
use mathlib.Core.Option.{Option, none, some}
use Prim.Native.Nat.{ℕ, ◌*◌, ◌/◌, ◌≤◌, ◌<◌}
use native.Mathlib.Nat.{div-lt_iff_lt-mul, le-div_iff_mul-le}
use native.Mathlib.Omega.{arith}
use borrow.Author.Tests.{le-ltb, lt-ltb}
use lib.ListN.{length, take}
use Rattle.profile.specs.Rules.{Rules, prefixes_by}
use Rattle.profile.specs.Refusals.{lowest}
use Rattle.profile.specs.Tables.{layout, record_length}
use Rattle.profile.specs.declared.Refusal.{Refusal}
use Rattle.profile.specs.declared.Refusal.TheVariants.{FullTable, ShortCosts}
use Rattle.theory.proofs.Refusals.{lowest_append, lowest_first}
use Rattle.search.proofs.Prefixes.{whole_part}
use Rattle.table.specs.Table as Built
use Rattle.table.specs.declared.Filled.{Filled}
use Rattle.earliest.specs.Earliest.{Table, found?, record_count}
use Rattle.verdict.specs.Verdict.{Counted}
use Rattle.closestanswer.specs.Answers.{PromiseBy, short_costs}
use Rattle.closestanswer.specs.declared.Closest.{Closest}
use Rattle.closestanswer.specs.declared.Closest.TheVariants.{NoOrder, Order}
use Rattle.closestorder.specs.Held.{Held}
use Rattle.closestfilled.specs.Answered.{answered}

-- ---- the cost table, by a division

pub too_few : (m s P : ℕ) → 1 ≤ s → m / s < P → m < P * s
too_few m s P h l = (div-lt_iff_lt-mul {k = s} {x = m} {y = P} h).0 l

pub enough : (m s P : ℕ) → 1 ≤ s → P ≤ m / s → P * s ≤ m
enough m s P h l = (le-div_iff_mul-le {k = s} {x = P} {y = m} h).0 l

-- ---- the records alone, without what stands behind them

pub held : {p : Rules} {w log work t : List ℕ} → Table p w work → map p.letter w ≡ log → t ≡ take (record_length layout * record_count p w) work → Held p w log t
held {p} {w} tab l e = record {
  profile = tab.profile;
  events = tab.log;
  letters = l;
  exact = e ∙ ap (take (record_length layout * record_count p w)) tab.holds ∙ whole_part p w tab.log tab.before;
}

pub none_found : (o : Option (List ℕ)) → found? o ≡ false → o ≡ none
none_found none e = refl
none_found (some v) e = absurd (true≢false e)

-- ---- what is told, where J are the refusals before 17

module _ (p : Rules) (w : List ℕ) (B : ℕ) (order table costs : List ℕ) (J : List (Bool × Refusal)) where
  abbrev seventeenth : List (Bool × Refusal)
  seventeenth = (short_costs (prefixes_by p w) p.profile.s (length costs), ShortCosts) ∷ []

  -- what J refuses is refused alike
  pub refused_before : {r : Refusal} → some r ≡ lowest J → (table' : List ℕ) → (r ≢ FullTable → table' ≡ table) → Built.Spared table table'
      → PromiseBy p w B order order table table' costs costs (lowest (J ++ ((short_costs (prefixes_by p w) p.profile.s (length costs), ShortCosts) ∷ []))) (Err r)
  refused_before e table' t u = record { refused = sym (lowest_first J seventeenth (sym e)); tells = (refl, refl, (λ a b. t a), u) }

  -- J refuses nothing, and the table is filled
  module _ (table' : List ℕ) (made : Filled) (unrefused : none ≡ lowest J) (h : Built.promised p w table table' (Ok made)) where
    counted : {Q m : ℕ} → Q ≡ made.prefixes → m ≡ made.looks → Counted p w table table' Q m
    counted e q = record { prefixes = e ∙ h.0; looks = q ∙ h.1; table = h.2 }

    -- what is left is 17
    seventeen : (b : Bool) → short_costs (prefixes_by p w) p.profile.s (length costs) ≡ b
        → lowest ((b, ShortCosts) ∷ []) ≡ lowest (J ++ ((short_costs (prefixes_by p w) p.profile.s (length costs), ShortCosts) ∷ []))
    seventeen b e = sym (lowest_append J seventeenth (sym unrefused) ∙ ap (λ c. lowest ((c, ShortCosts) ∷ [])) e)

    in_all : made.prefixes * p.profile.s ≡ prefixes_by p w * p.profile.s
    in_all = ap (λ i. i * p.profile.s) h.0

    pub told_answer : (order' costs' : List ℕ) (r : Result Closest Refusal) → answered p w B made.prefixes made.looks order order' costs costs' r
        → PromiseBy p w B order order' table table' costs costs' (lowest (J ++ ((short_costs (prefixes_by p w) p.profile.s (length costs), ShortCosts) ∷ []))) r
    told_answer order' costs' (Err r) (short, e, o, c) = record {
      refused = ap some e ∙ seventeen true (lt-ltb (length costs) (prefixes_by p w * p.profile.s) (omega (arith, short, in_all)));
      tells = (o, c, (λ a b. absurd (b e)), h.3);
    }
    told_answer order' costs' (Ok (NoOrder Q m)) (room, e, q, f, o) = record {
      refused = seventeen false (le-ltb (length costs) (prefixes_by p w * p.profile.s) (omega (arith, room, in_all)));
      tells = (f, o, counted e q);
    }
    told_answer order' costs' (Ok (Order Q m c f)) (room, e, q, z) = record {
      refused = seventeen false (le-ltb (length costs) (prefixes_by p w * p.profile.s) (omega (arith, room, in_all)));
      tells = (z, counted e q);
    }
