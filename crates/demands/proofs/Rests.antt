-- Backward of a prefix is the states from which some word of the rest's trace leads to a final state, where exchanges go both ways.
use mathlib.Core.Path.{sym, subst}
use mathlib.Core.Bool.{Bool}
use mathlib.Core.Logic.{◌↔◌, ◌≢◌}
use mathlib.Core.List.{List}
use Prim.Native.Nat.{ℕ}
use lib.Dec.{T}
use Rattle.profile.specs.Automata.{Automaton}
use Rattle.profile.specs.Prefixes.{backward, count, unmarked}
use Rattle.profile.specs.Source.{Congruent, TracePrefix, cong_sym, cong_trans}
use Rattle.profile.specs.Traces.{Symmetric, bit}
use Rattle.profile.proofs.Traces.{Order, cong_of_reach, order_of_reach, order_trans, reach_of_cong, reach_of_order, takes_split}
use Rattle.theory.proofs.Agreement.{counts_identify}
use Rattle.theory.proofs.Automata.{Lawful, backward_at, backward_of}
use Rattle.theory.proofs.Prefixes.{prefix_of_takes}
use Rattle.demands.specs.Rests.{LeadsToFinal}

module _ (may : ℕ → ℕ → Bool) (letter : ℕ → ℕ) (symmetric : Symmetric may) (distinct : (a b : ℕ) → T (may a b) → letter a ≢ letter b) where
  -- the rest of a prefix of [w] is an order of the unmarked events
  rest_order : {w x : List ℕ} (p : TracePrefix may w x) → Order may (unmarked letter w (count letter x)) p.rest
  rest_order {w} {x} p =
      let n = takes_split may x (order_of_reach may (reach_of_cong may symmetric (cong_sym p.whole))) in
      subst (λ r. Order may r p.rest) (sym (prefix_of_takes may letter distinct n.1).1) n.2

  rest_congruent : {w x : List ℕ} (p : TracePrefix may w x) → Congruent may (unmarked letter w (count letter x)) p.rest
  rest_congruent p = cong_of_reach may (reach_of_order may (rest_order p))

  -- a prefix of [w] has one rest: that of congruent words is congruent
  pub one_rest : {w x y : List ℕ} (p : TracePrefix may w x) (q : TracePrefix may w y) → Congruent may x y → Congruent may p.rest q.rest
  one_rest {w} {x} {y} p q c =
      let e = (counts_identify may letter symmetric distinct p q).1 c in
      cong_trans (cong_sym (rest_congruent p)) (subst (λ d. Congruent may (unmarked letter w d) q.rest) (sym e) (rest_congruent q))

  pub backward_trace : (M : Automaton) (L : Lawful M) {w x : List ℕ} (q : ℕ) (p : TracePrefix may w x)
      → T (bit (backward may letter M w (count letter x)) q) ↔ LeadsToFinal may letter M p.rest q
  backward_trace M L {w} {x} q p = (
    λ h. let b = backward_at may letter M L w (count letter x) q h in record {
      word = b.0;
      same = cong_trans (cong_sym (rest_congruent p)) (cong_of_reach may (reach_of_order may b.2));
      to = b.1;
      leads = b.3;
      ends = b.4;
    },
    λ t. backward_of may letter M L w (count letter x) (order_trans may (rest_order p) (order_of_reach may (reach_of_cong may symmetric t.same))) t.leads t.ends,
  )
