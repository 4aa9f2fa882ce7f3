-- Demand 3 over the definitions, as document 01 has it: events are letters. The laws are those of any call's rules (Calls).
use mathlib.Core.Path.{◌≡◌, refl, sym, ◌∙◌, ap, subst}
use mathlib.Core.Logic.{◌↔◌, ◌≢◌}
use mathlib.Core.List.{List, [], ◌∷◌, map}
use mathlib.Core.Option.{Option, none, some}
use Prim.Native.Nat.{ℕ, ◌≤◌}
use Rattle.profile.specs.Traces.{Reachable, independent}
use Rattle.profile.specs.Automata.{Profile}
use Rattle.profile.specs.Rules.{looks_by, order_by, plain, prefixes_by}
use Rattle.profile.specs.Orders.{Earlier, NoLater, Same}
use Rattle.theory.proofs.Calls.{WitnessBy, no_order_by, order_by_earliest, order_by_reach, prefixes_by_reach, same_answer_by}
use Rattle.theory.proofs.Refusals.{Admitted, GoodEvents, plain_events}

-- the order, P and looks that the judge is to give
abbrev pub order_of : Profile → List ℕ → Option (List ℕ)
order_of p w = order_by (plain p) w

abbrev pub prefixes_of : Profile → List ℕ → ℕ
prefixes_of p w = prefixes_by (plain p) w

abbrev pub looks_of : Profile → List ℕ → ℕ
looks_of p w = looks_by (plain p) w

-- v is reachable from w and accepted
abbrev pub Witness : Profile → List ℕ → List ℕ → Type 0
Witness p w v = WitnessBy (plain p) w v

pub admitted_events : (p : Profile) (w : List ℕ) {n : ℕ} → Admitted p w n → GoodEvents (plain p) w
admitted_events p w a = plain_events p w a.profile a.log

map_id : (l : List ℕ) → map (λ a. a) l ≡ l
map_id [] = refl
map_id (a ∷ l) = ap (◌∷◌ a) (map_id l)

module _ (p : Profile) (w : List ℕ) where
  -- "Otherwise the order returned is reachable from it, accepted, and earlier in letter order than every other log that is both"
  pub order_earliest : {v : List ℕ} → order_of p w ≡ some v → Witness p w v × ((u : List ℕ) → Witness p w u → u ≢ v → Earlier v u)
  order_earliest {v} e =
      let n = order_by_earliest (plain p) w e in (
        subst (Witness p w) (sym (map_id n.0.0) ∙ n.0.1) n.0.2,
        λ u h ne. subst (Earlier v) (map_id u) (n.1 u h (λ i. ne (sym (map_id u) ∙ i))),
      )

  -- "The log gets 'no order' exactly when no log reachable from it by exchanges is accepted"
  pub no_order : (order_of p w ≡ none) ↔ ((v : List ℕ) → Witness p w v → ⊥)
  no_order = no_order_by (plain p) w

-- "Any two such logs with the same profile that are reachable from each other get the same verdict, the same order if there is one, and the same
-- prefix count": none is verdict 0, so equal orders are equal verdicts too. "Logs reachable from each other then also show equal looks" (Paper 2)
pub same_answer : (p : Profile) (v w : List ℕ) {n m : ℕ} → Admitted p v n → Admitted p w m → Same (independent p.masks) v w
    → (order_of p v ≡ order_of p w) × (prefixes_of p v ≡ prefixes_of p w) × (looks_of p v ≡ looks_of p w)
same_answer p v w a b s = same_answer_by (plain p) v w (admitted_events p v a) (admitted_events p w b) s

-- "If log v is reachable from log w and v has an accepted order, then w has one that is no later in letter order"
pub order_reach : (p : Profile) (v w : List ℕ) {u : List ℕ} → Reachable (independent p.masks) w v → order_of p v ≡ some u
    → (x : List ℕ) × (order_of p w ≡ some x) × NoLater x u
order_reach p v w r e = order_by_reach (plain p) v w r e

-- a log has at least as many prefixes as each log that is reachable from it
pub prefixes_reach : (p : Profile) (v w : List ℕ) {n : ℕ} → Admitted p v n → Reachable (independent p.masks) w v → prefixes_of p v ≤ prefixes_of p w
prefixes_reach p v w a r = prefixes_by_reach (plain p) v w (admitted_events p v a) r
