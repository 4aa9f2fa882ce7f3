-- Demand 3 over the definitions, for the rules and events of any call: what an answer says of every reachable log, and that logs reachable from each
-- other get the same answer.
use mathlib.Core.Path.{◌≡◌, refl, sym, ap}
use mathlib.Core.Logic.{◌↔◌, ◌≢◌}
use mathlib.Core.List.{List, map}
use mathlib.Core.Option.{Option, none, some}
use Prim.Native.Nat.{ℕ, ◌≤◌}
use native.Mathlib.Omega.{arith}
use lib.ListN.{length, length-map}
use Rattle.profile.specs.Traces.{Reachable}
use Rattle.profile.specs.Automata.{Accepted, automaton}
use Rattle.profile.specs.Orders.{Earlier, NoLater, Same}
use Rattle.profile.specs.Rules.{Rules, looks_by, order_by, prefixes_by}
use Rattle.profile.proofs.Traces.{order_of_reach, takes_length}
use Rattle.theory.proofs.Comparison.{accepted_order_reach, accepted_order_same, prefix_count_same}
use Rattle.theory.proofs.Counting.{prefix_count_reach}
use Rattle.theory.proofs.Looks.{looks_same}
use Rattle.theory.proofs.Judgement.{accepted_order_at, accepted_order_not}
use Rattle.theory.proofs.Profiles.{lawful}
use Rattle.theory.proofs.Refusals.{GoodEvents}

-- v is reachable from w and accepted
pub record WitnessBy (r : Rules) (w v : List ℕ) : Type 0 where
  pub reached : Reachable r.may w v
  pub accepted : Accepted (automaton r.profile) r.letter v

module _ (r : Rules) (w : List ℕ) where
  -- "Otherwise the order returned is reachable from it, accepted, and earlier in letter order than every other log that is both": it is the letters of
  -- a log that is both, and earlier than the letters of every other
  pub order_by_earliest : {v : List ℕ} → order_by r w ≡ some v
      → ((x : List ℕ) × (map r.letter x ≡ v) × WitnessBy r w x) × ((u : List ℕ) → WitnessBy r w u → map r.letter u ≢ v → Earlier v (map r.letter u))
  order_by_earliest e = let n = accepted_order_at r.may r.letter (automaton r.profile) (lawful r.profile) e in (
    (n.order, n.letters, record { reached = n.reached; accepted = n.accepted }),
    λ u h ne. (n.least u h.reached h.accepted, λ i. ne (sym i)),
  )

  -- "The log gets 'no order' exactly when no log reachable from it by exchanges is accepted"
  pub no_order_by : (order_by r w ≡ none) ↔ ((v : List ℕ) → WitnessBy r w v → ⊥)
  no_order_by = (
    λ e v h. accepted_order_not r.may r.letter (automaton r.profile) (lawful r.profile) e h.reached h.accepted,
    λ h. go (order_by r w) refl h,
  )
    where
      go : (o : Option (List ℕ)) → order_by r w ≡ o → ((v : List ℕ) → WitnessBy r w v → ⊥) → order_by r w ≡ none
      go none e h = e
      go (some v) e h = let n = (order_by_earliest e).0 in absurd (h n.0 n.2)

  -- the order has as many letters as the log
  pub order_by_length : {v : List ℕ} → order_by r w ≡ some v → length v ≡ length w
  order_by_length {v} e =
      let n = (order_by_earliest e).0 in
      omega (arith, takes_length r.may (order_of_reach r.may n.2.reached), length-map n.0 r.letter, ap length n.1)

-- "Any two such logs with the same profile that are reachable from each other get the same verdict, the same order if there is one, and the same
-- prefix count"; "Logs reachable from each other then also show equal looks"
pub same_answer_by : (r : Rules) (v w : List ℕ) → GoodEvents r v → GoodEvents r w → Same r.may v w
    → (order_by r v ≡ order_by r w) × (prefixes_by r v ≡ prefixes_by r w) × (looks_by r v ≡ looks_by r w)
same_answer_by r v w a b s = (
  accepted_order_same r.letter (automaton r.profile) r.may s.0 s.1,
  prefix_count_same r.letter (automaton r.profile) r.may s.0 s.1 a.apart r.profile.k a.letters b.letters,
  looks_same r.letter (automaton r.profile) r.may s.0 s.1 a.apart r.profile.k a.letters b.letters,
)

-- Paper 4: "If log v is reachable from log w and v has an accepted order, then w has one that is no later in letter order"; and P does not grow
pub order_by_reach : (r : Rules) (v w : List ℕ) {u : List ℕ} → Reachable r.may w v → order_by r v ≡ some u
    → (x : List ℕ) × (order_by r w ≡ some x) × NoLater x u
order_by_reach r v w h e = accepted_order_reach r.letter (automaton r.profile) r.may w v h e

pub prefixes_by_reach : (r : Rules) (v w : List ℕ) → GoodEvents r v → Reachable r.may w v → prefixes_by r v ≤ prefixes_by r w
prefixes_by_reach r v w a h = prefix_count_reach r.may r.letter r.profile.k a.apart w v a.letters h
