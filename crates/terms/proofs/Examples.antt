-- Worked examples of document 02, Paper 8, computed from the definitions.
use mathlib.Core.Path.{◌≡◌, refl}
use mathlib.Core.Bool.{true, false}
use mathlib.Core.List.{List, [], ◌∷◌, map}
use mathlib.Core.Option.{none, some}
use Prim.Native.Nat.{ℕ, suc, ◌+◌}
use Rattle.profile.specs.Lists.{all, any, below, flat_map, range}
use Rattle.profile.specs.Automata.{Profile}
use Rattle.profile.specs.Rules.{looks_by, order_by, prefixes_by}
use Rattle.profile.specs.declared.Refusal.TheVariants.{BadDay, BadLetter, BadTerm, FullTable, NoTerm, ShortBuffer}
use Rattle.profile.proofs.Cases.{alt}
use Rattle.terms.specs.Days.{day_number, day?, month_days}
use Rattle.terms.specs.Terms.{bad_term, dated_refusal, events, term_of, with_terms}

-- ---- dates

-- 1900 and 2100 are no leap years, 2000 is one
leap_days : map day? (19000228 ∷ 19000229 ∷ 20000229 ∷ 20000230 ∷ 20230229 ∷ 20240229 ∷ 20240230 ∷ 21000228 ∷ 21000229 ∷ [])
    ≡ true ∷ false ∷ true ∷ false ∷ false ∷ true ∷ false ∷ true ∷ false ∷ []
leap_days = refl

-- the last day of each month of 2026, and the number after it
month_ends : (all (λ m. day? (day_number 2026 m (month_days 2026 m))) (range 1 12) ≡ true) × (any (λ m. day? (day_number 2026 m (suc (month_days 2026 m)))) (range 1 12) ≡ false)
month_ends = (refl, refl)

month_lengths : map (month_days 2026) (range 1 12) ≡ 31 ∷ 28 ∷ 31 ∷ 30 ∷ 31 ∷ 30 ∷ 31 ∷ 31 ∷ 30 ∷ 31 ∷ 30 ∷ 31 ∷ []
month_lengths = refl

edges : map day? (18991231 ∷ 19000101 ∷ 21991231 ∷ 22000101 ∷ 20260431 ∷ 20261301 ∷ 20260001 ∷ 20260100 ∷ 0 ∷ 4294967295 ∷ [])
    ≡ false ∷ true ∷ true ∷ false ∷ false ∷ false ∷ false ∷ false ∷ false ∷ false ∷ []
edges = refl

-- ---- terms

-- two terms; two that touch; one of one day; two of one day each, that touch; then 15: two that overlap; one turned back; two that share a day; two that
-- fall; none; half a term; one and a half; a day that is none
terms_tried : map bad_term (
    (20260101 ∷ 20260630 ∷ 20260801 ∷ 20261231 ∷ [])
    ∷ (20260101 ∷ 20260630 ∷ 20260701 ∷ 20261231 ∷ [])
    ∷ (20260101 ∷ 20260101 ∷ [])
    ∷ (20260101 ∷ 20260101 ∷ 20260102 ∷ 20260102 ∷ [])
    ∷ (20260101 ∷ 20260630 ∷ 20260615 ∷ 20261231 ∷ [])
    ∷ (20260630 ∷ 20260101 ∷ [])
    ∷ (20260101 ∷ 20260630 ∷ 20260630 ∷ 20261231 ∷ [])
    ∷ (20260701 ∷ 20261231 ∷ 20260101 ∷ 20260630 ∷ [])
    ∷ []
    ∷ (20260101 ∷ [])
    ∷ (20260101 ∷ 20260630 ∷ 20260701 ∷ [])
    ∷ (20260101 ∷ 20260631 ∷ [])
    ∷ [])
    ≡ false ∷ false ∷ false ∷ false ∷ true ∷ true ∷ true ∷ true ∷ true ∷ true ∷ true ∷ true ∷ []
terms_tried = refl

-- 12 terms of one day each, and 13
twelve : (bad_term (flat_map (λ i. (20260101 + i) ∷ (20260101 + i) ∷ []) (below 12)) ≡ false) × (bad_term (flat_map (λ i. (20260101 + i) ∷ (20260101 + i) ∷ []) (below 13)) ≡ true)
twelve = (refl, refl)

two : List ℕ
two = 20260101 ∷ 20260630 ∷ 20260801 ∷ 20261231 ∷ []

-- the term of a day; 2, the number of terms, where there is none
terms_of_days : map (term_of two) (20260101 ∷ 20260630 ∷ 20260701 ∷ 20260801 ∷ 20261231 ∷ 20270101 ∷ []) ≡ 0 ∷ 0 ∷ 2 ∷ 1 ∷ 1 ∷ 2 ∷ []
unfolding two
terms_of_days = refl

-- ---- logs

alt_both : Profile
alt_both = alt (2 ∷ 1 ∷ [])

-- Alt on ba: in one term as without terms; in two terms, of either order, the events keep their order
one_term : (prefixes_by (with_terms alt_both two) (events (1 ∷ 0 ∷ []) (20260101 ∷ 20260630 ∷ [])) ≡ 4)
    × (order_by (with_terms alt_both two) (events (1 ∷ 0 ∷ []) (20260101 ∷ 20260630 ∷ [])) ≡ some (0 ∷ 1 ∷ []))
unfolding two alt_both
one_term = (refl, refl)

two_terms : (prefixes_by (with_terms alt_both two) (events (1 ∷ 0 ∷ []) (20260101 ∷ 20260801 ∷ [])) ≡ 3)
    × (order_by (with_terms alt_both two) (events (1 ∷ 0 ∷ []) (20260101 ∷ 20260801 ∷ [])) ≡ none)
    × (order_by (with_terms alt_both two) (events (1 ∷ 0 ∷ []) (20260801 ∷ 20260101 ∷ [])) ≡ none)
    × (looks_by (with_terms alt_both two) (events (1 ∷ 0 ∷ []) (20260801 ∷ 20260101 ∷ [])) ≡ 2)
unfolding two alt_both
two_terms = (refl, refl, refl, refl)

-- bbaa with days that do not rise: the second b is of another term than the rest, so it stays between the first b and both a
between : (prefixes_by (with_terms alt_both two) (events (1 ∷ 1 ∷ 0 ∷ 0 ∷ []) (20260101 ∷ 20260801 ∷ 20260102 ∷ 20260103 ∷ [])) ≡ 5)
    × (order_by (with_terms alt_both two) (events (1 ∷ 0 ∷ 0 ∷ 1 ∷ []) (20260101 ∷ 20260102 ∷ 20260801 ∷ 20260802 ∷ [])) ≡ some (0 ∷ 1 ∷ 0 ∷ 1 ∷ []))
unfolding two alt_both
between = (refl, refl)

-- ---- refusals, in the order 8, 14, 15, 16, 9, 10

refused_in_order :
    (dated_refusal alt_both (2 ∷ []) [] [] 0 0 ≡ some (BadLetter 0))
    × (dated_refusal alt_both (1 ∷ []) [] [] 0 0 ≡ some BadDay)
    × (dated_refusal alt_both (1 ∷ []) (20260229 ∷ []) [] 0 0 ≡ some BadDay)
    × (dated_refusal alt_both (1 ∷ []) (20260701 ∷ []) [] 0 0 ≡ some BadTerm)
    × (dated_refusal alt_both [] [] [] 0 0 ≡ some BadTerm)
    × (dated_refusal alt_both [] (20260101 ∷ []) [] 0 0 ≡ some BadDay)
    × (dated_refusal alt_both (1 ∷ []) (20260701 ∷ []) two 0 0 ≡ some NoTerm)
    × (dated_refusal alt_both (1 ∷ []) (20260630 ∷ []) two 0 0 ≡ some ShortBuffer)
    × (dated_refusal alt_both (1 ∷ []) (20260630 ∷ []) two 1 19 ≡ some FullTable)
    × (dated_refusal alt_both (1 ∷ []) (20260630 ∷ []) two 1 20 ≡ none)
    × (dated_refusal alt_both [] [] two 0 10 ≡ none)
unfolding two alt_both
refused_in_order = (refl, refl, refl, refl, refl, refl, refl, refl, refl, refl, refl)
