-- Paper 10: the answer of the call, its refusals, and what is promised of the lent buffers.
use Rattle.std.specs.Prelude.{Result, Ok, Err, ◌≡◌, Bool, ◌≢◌, List, [], ◌∷◌, ◌++◌, ℕ, ◌*◌, ltb, length, drop}
use Rattle.std.proofs.Math.Option.{Option, none, some}
use Rattle.profile.specs.Automata.{Profile, automaton}
use Rattle.profile.specs.Rules.{Rules, order_by, plain, prefixes_by}
use Rattle.profile.specs.Refusals.{judge_refusals, lowest, refused_by}
use Rattle.profile.specs.declared.Refusal.{Refusal}
use Rattle.profile.specs.declared.Refusal.TheVariants.{FullTable, ShortCosts}
use Rattle.swaps.specs.Closest.{closest_order, floor}
use Rattle.swaps.specs.Swaps.{swaps}
use Rattle.table.specs.Table.{Spared}
use Rattle.verdict.specs.Verdict.{Counted}
use Rattle.closestanswer.specs.declared.Closest.{Closest}
use Rattle.closestanswer.specs.declared.Closest.TheVariants.{NoOrder, Order}

-- 17: "when the lent cost table has fewer than P × s 32-bit numbers": P prefixes, s states, a cost table of n numbers
abbrev pub short_costs : ℕ → ℕ → ℕ → Bool
short_costs P s n = ltb n (P * s)

-- the judge's refusals, then 17, "after 10": n places for the order, m numbers of work table, l of cost table
abbrev pub closest_refusals : Profile → List ℕ → ℕ → ℕ → ℕ → List (Bool × Refusal)
closest_refusals p w n m l =
    judge_refusals p w n m ++ ((short_costs (prefixes_by (plain p) w) p.s l, ShortCosts) ∷ [])

abbrev pub closest_refusal : Profile → List ℕ → ℕ → ℕ → ℕ → Option Refusal
closest_refusal p w n m l = lowest (closest_refusals p w n m l)

-- "verdict": 1 comes with the order, its swaps and the floor, 0 means 'no order'; a refusal has none
abbrev pub verdict_number : Result Closest Refusal → Option ℕ
verdict_number (Err r) = none
verdict_number (Ok (NoOrder P n)) = some 0
verdict_number (Ok (Order P n c f)) = some 1

module _ (p : Rules) (w : List ℕ) (B : ℕ) where
  -- the order, and the floor, with a budget of B pairs
  abbrev pub order_within : Option (List ℕ)
  order_within = closest_order p.may p.letter (automaton p.profile) p.profile.k p.profile.s w B

  abbrev pub floor_within : Option ℕ
  floor_within = floor p.may p.letter (automaton p.profile) p.profile.k p.profile.s w B

  -- "the answer is an accepted order, its swaps c, and a floor f": the order stands in the first bytes of the buffer, which was `before` and is `after`
  pub record Close (before after : List ℕ) (c f : ℕ) : Type 0 where
    pub order : List ℕ
    pub is_order : order_within ≡ some order
    pub written : after ≡ order ++ drop (length w) before
    pub its_swaps : c ≡ swaps p.letter w order
    pub its_floor : floor_within ≡ some f

  -- what is told, and what is promised of the buffers: "Verdict 0 remains as it is"; "after 17 the work table's content is free, as after 10, and after an
  -- answer the cost table's is"; the numbers of the work table that are unused stay
  abbrev pub told : List ℕ → List ℕ → List ℕ → List ℕ → List ℕ → List ℕ → Result Closest Refusal → Type 0
  told order order' table table' costs costs' (Err r) =
      (order' ≡ order) × (costs' ≡ costs) × (r ≢ FullTable → r ≢ ShortCosts → table' ≡ table) × Spared table table'
  told order order' table table' costs costs' (Ok (NoOrder P n)) = (order_by p w ≡ none) × (order' ≡ order) × Counted p w table table' P n
  told order order' table table' costs costs' (Ok (Order P n c f)) = Close order order' c f × Counted p w table table' P n

-- the whole promise of a call for the rules p, the events w and a budget of B pairs, that was lent `order`, `table` and `costs` and left `order'`, `table'`
-- and `costs'`; q is the refusal that its input and its buffers call for, if any
pub record PromiseBy (p : Rules) (w : List ℕ) (B : ℕ) (order order' table table' costs costs' : List ℕ) (q : Option Refusal) (r : Result Closest Refusal) : Type 0 where
  pub refused : refused_by r ≡ q
  pub tells : told p w B order order' table table' costs costs' r

-- that of the call without terms
abbrev pub Promise : Profile → List ℕ → ℕ → (order order' table table' costs costs' : List ℕ) → Result Closest Refusal → Type 0
Promise p w B order order' table table' costs costs' r =
    PromiseBy (plain p) w B order order' table table' costs costs' (closest_refusal p w (length order) (length table) (length costs)) r
