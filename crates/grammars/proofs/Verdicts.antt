-- Paper 13 over the definitions: the empty log, logs reachable from each other, a list of pairs that allows more.
use mathlib.Core.Path.{◌≡◌, refl}
use mathlib.Core.Bool.{Bool, false}
use mathlib.Core.List.{List, []}
use Prim.Native.Nat.{ℕ, ◌≤◌}
use native.Mathlib.Omega.{arith}
use lib.Dec.{T}
use Rattle.profile.specs.Traces.{Reachable, letters_below}
use Rattle.profile.specs.Automata.{automaton}
use Rattle.profile.specs.Prefixes.{prefix_count}
use Rattle.profile.specs.Orders.{Same}
use Rattle.profile.proofs.Sets.{t_eq}
use Rattle.profile.proofs.Cases.{free}
use Rattle.profile.proofs.Traces.{order_of_reach, reach_trans, takes_length}
use Rattle.theory.proofs.Comparison.{prefix_count_grows, reach_more}
use Rattle.grammars.specs.Grammars.{Derivable, Grammar}
use Rattle.grammars.specs.Sets.{derivable?}
use Rattle.grammars.proofs.Names.{derivable_is}
use Rattle.grammars.proofs.Spans.{derived_some}

-- "An empty log gets 0"
pub empty_not : (rules : List ℕ) (may : ℕ → ℕ → Bool) → derivable? rules may [] ≡ false
empty_not rules may = refl

pub empty_none : {G : Grammar} {may : ℕ → ℕ → Bool} {v : List ℕ} → Derivable G may [] v → ⊥
empty_none {may = may} d = omega (arith, takes_length may (order_of_reach may d.reached), derived_some d.derived)

-- a log reachable from v is reachable from w where v is
pub derivable_reach : {G : Grammar} {may : ℕ → ℕ → Bool} {w v u : List ℕ} → Reachable may w v → Derivable G may v u → Derivable G may w u
derivable_reach {may = may} r d = record { reached = reach_trans may r d.reached; derived = d.derived }

-- "the equal verdicts": logs reachable from each other have the same verdict
pub verdict_same : (rules : List ℕ) (may : ℕ → ℕ → Bool) (v w : List ℕ) → Same may v w → derivable? rules may v ≡ derivable? rules may w
verdict_same rules may v w s = t_eq (derivable? rules may v) (derivable? rules may w)
    (λ t. let d = (derivable_is rules may v).0 t in (derivable_is rules may w).1 (d.0, derivable_reach s.1 d.1))
    (λ t. let d = (derivable_is rules may w).0 t in (derivable_is rules may v).1 (d.0, derivable_reach s.0 d.1))

-- Paper 9: more pairs keep what is derivable
module _ (may may' : ℕ → ℕ → Bool) (sub : (a b : ℕ) → T (may a b) → T (may' a b)) where
  pub derivable_grows : {G : Grammar} {w v : List ℕ} → Derivable G may w v → Derivable G may' w v
  derivable_grows d = record { reached = reach_more (λ a. a) (automaton (free 1 [])) may may' sub d.reached; derived = d.derived }

  pub verdict_grows : (rules : List ℕ) (w : List ℕ) → T (derivable? rules may w) → T (derivable? rules may' w)
  verdict_grows rules w t = let d = (derivable_is rules may w).0 t in (derivable_is rules may' w).1 (d.0, derivable_grows d.1)

  -- "and P does not shrink"
  pub prefixes_grow : (k : ℕ) (w : List ℕ) → T (letters_below (λ a. a) k w) → prefix_count may (λ a. a) k w ≤ prefix_count may' (λ a. a) k w
  prefixes_grow k w h = prefix_count_grows (λ a. a) (automaton (free 1 [])) may may' sub k w h
