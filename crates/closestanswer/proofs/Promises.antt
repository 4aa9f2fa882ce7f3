-- The sentences of Paper 10 as theorems about what a call promises, whatever its rules: `PromiseBy p w B order order' table table' costs costs' q r` is what
-- holds of a call with the rules p, the events w and a budget of B pairs; q is the refusal that applies, if any.
use Rattle.std.specs.Prelude.{Result, Ok, Err}
use mathlib.Core.Path.{◌≡◌, refl, sym, ◌∙◌, ap, subst}
use mathlib.Core.Bool.{Bool, true, false, not}
use mathlib.Core.Logic.{◌↔◌}
use mathlib.Core.List.Memᴰ
use mathlib.Core.List.{List, [], ◌∷◌, ◌++◌, map}
use mathlib.Core.Option.{Option, none, some, none-ne-some, some-ne-none, some-injective}
use Prim.Native.Nat.{ℕ, ◌*◌, ◌≤◌, ◌<◌}
use native.Mathlib.Omega.{arith}
use borrow.Author.Tests.{lt-ltb}
use lib.Dec.{T, ltb→lt}
use lib.ListN.{length, drop, length-map, take}
use lib.Seq.{take_at}
use Rattle.profile.specs.Automata.{automaton}
use Rattle.profile.specs.Lists.{all}
use Rattle.profile.specs.Orders.{NoLater}
use Rattle.profile.specs.Rules.{Rules, order_by}
use Rattle.profile.specs.Refusals.{lowest, refused_by}
use Rattle.profile.specs.declared.Refusal.{Refusal}
use Rattle.profile.specs.declared.Refusal.TheVariants.{ShortCosts}
use Rattle.profile.proofs.Lists.{fst_of, snd_of}
use Rattle.profile.proofs.Traces.{order_of_reach, takes_length}
use Rattle.theory.proofs.Calls.{WitnessBy, no_order_by}
use Rattle.theory.proofs.Profiles.{lawful}
use Rattle.theory.proofs.Refusals.{lowest_append, lowest_first, lowest_none}
use Rattle.swaps.specs.Swaps.{swaps}
use Rattle.swaps.specs.Closest.{covers, fewest_swaps}
use Rattle.swaps.proofs.Floors.{closest_at, covered, floor_below, floor_fewest_told, not_covered, same_verdict}
use Rattle.verdict.specs.Verdict.{Counted}
use Rattle.verdict.specs.Verdict as judge
use Rattle.verdict.specs.declared.Judged.{Judged}
use Rattle.verdict.specs.declared.Judged.TheVariants as judged
use Rattle.verdict.proofs.Promises as told
use Rattle.closestanswer.specs.Answers.{PromiseBy, short_costs, verdict_number}
use Rattle.closestanswer.specs.declared.Closest.{Closest}
use Rattle.closestanswer.specs.declared.Closest.TheVariants.{NoOrder, Order}

-- ---- refusals, and 17 behind them

-- a lowest refusal passes each test that all of the list pass
pub lowest_passes : (f : Refusal → Bool) (l : List (Bool × Refusal)) {r : Refusal} → T (all (λ (c : Bool × Refusal). f c.1) l) → lowest l ≡ some r → T (f r)
lowest_passes f [] {r} h e = absurd (none-ne-some r e)
lowest_passes f (c ∷ l) {r} h e = go c.0 refl (lowest_passes f l (snd_of (f c.1) (all (λ (d : Bool × Refusal). f d.1) l) h))
  where
    go : (b : Bool) → c.0 ≡ b → (lowest l ≡ some r → T (f r)) → T (f r)
    go true q ih = subst (λ x. T (f x)) (some-injective c.1 r (sym (rw (q, lowest)) ∙ e)) (fst_of (f c.1) (all (λ (d : Bool × Refusal). f d.1) l) h)
    go false q ih = ih (sym (rw (q, lowest)) ∙ e)

-- behind the refusals J: the cost table has l numbers, for P prefixes of s states
module _ (J : List (Bool × Refusal)) (P s l : ℕ) where
  abbrev last : List (Bool × Refusal)
  last = (short_costs P s l, ShortCosts) ∷ []

  pub before_none : lowest (J ++ ((short_costs P s l, ShortCosts) ∷ [])) ≡ none → lowest J ≡ none
  before_none e = (lowest_none J).1 (λ c m. (lowest_none (J ++ last)).0 e c (Memᴰ.append_left last m))

  -- 17 is given exactly where none of J applies and the cost table has fewer than P × s numbers
  pub seventeen_exactly : (lowest J ≡ some ShortCosts → ⊥)
      → (lowest (J ++ ((short_costs P s l, ShortCosts) ∷ [])) ≡ some ShortCosts) ↔ ((lowest J ≡ none) × (l < P * s))
  seventeen_exactly never = (short-at, λ k. short-of k.0 k.1)
    where
      short-of : lowest J ≡ none → l < P * s → lowest (J ++ ((short_costs P s l, ShortCosts) ∷ [])) ≡ some ShortCosts
      short-of e k = lowest_append J ((short_costs P s l, ShortCosts) ∷ []) e ∙ ap (λ b. lowest ((b, ShortCosts) ∷ [])) (lt-ltb l (P * s) k)

      short-at : lowest (J ++ ((short_costs P s l, ShortCosts) ∷ [])) ≡ some ShortCosts → (lowest J ≡ none) × (l < P * s)
      short-at e = go (lowest J) refl
        where
          given : (b : Bool) → lowest ((b, ShortCosts) ∷ []) ≡ some ShortCosts → T b
          given true f = tt
          given false f = absurd (none-ne-some ShortCosts f)

          go : (o : Option Refusal) → lowest J ≡ o → (lowest J ≡ none) × (l < P * s)
          go none q = (q, ltb→lt l (P * s) (given (short_costs P s l) (sym (lowest_append J ((short_costs P s l, ShortCosts) ∷ []) q) ∙ e)))
          go (some x) q = absurd (never (subst (λ y. lowest J ≡ some y) (some-injective x ShortCosts (sym (lowest_first J ((short_costs P s l, ShortCosts) ∷ []) q) ∙ e)) q))

-- ---- P and looks, as they are told

abbrev pub told_prefixes : Result Closest Refusal → Option ℕ
told_prefixes (Err r) = none
told_prefixes (Ok (NoOrder P n)) = some P
told_prefixes (Ok (Order P n c f)) = some P

abbrev pub told_looks : Result Closest Refusal → Option ℕ
told_looks (Err r) = none
told_looks (Ok (NoOrder P n)) = some n
told_looks (Ok (Order P n c f)) = some n

module _ (p : Rules) (w : List ℕ) (B : ℕ) (order order' table table' costs costs' : List ℕ) (q : Option Refusal) where
  -- a call is refused by r exactly when r is the refusal that applies; else there is a verdict
  pub refused_exactly_by : (a : Result Closest Refusal) → PromiseBy p w B order order' table table' costs costs' q a → (r : Refusal) → (a ≡ Err r) ↔ (q ≡ some r)
  refused_exactly_by (Err s) h r = ((λ e. sym h.refused ∙ ap refused_by e), λ e. ap Err (some-injective s r (h.refused ∙ e)))
  refused_exactly_by (Ok (NoOrder P n)) h r = ((λ e. sym h.refused ∙ ap refused_by e), λ e. absurd (none-ne-some r (h.refused ∙ e)))
  refused_exactly_by (Ok (Order P n c f)) h r = ((λ e. sym h.refused ∙ ap refused_by e), λ e. absurd (none-ne-some r (h.refused ∙ e)))

  -- "Verdict 0 remains as it is": exactly where no reachable log is accepted
  pub no_order_told_by : (P n : ℕ) → PromiseBy p w B order order' table table' costs costs' q (Ok (NoOrder P n)) → (v : List ℕ) → WitnessBy p w v → ⊥
  no_order_told_by P n h = (no_order_by p w).0 h.tells.0

  -- verdict, P, looks and the work table are those that a judge gives for the same rules, events, order buffer and work table, which does not refuse
  module _ (order₁ table₁ : List ℕ) {q₁ : Option Refusal} (unrefused : q₁ ≡ none) where
    same_counts : {P n Q m : ℕ} → Counted p w table table' P n → Counted p w table table₁ Q m → (some P ≡ some Q) × (some n ≡ some m) × (table' ≡ table₁)
    same_counts a b = (ap some (a.prefixes ∙ sym b.prefixes), ap some (a.looks ∙ sym b.looks), a.table ∙ sym b.table)

    pub as_the_judge_by : (r : Result Closest Refusal) (j : Result Judged Refusal) → PromiseBy p w B order order' table table' costs costs' q r → judge.PromiseBy p w order order₁ table table₁ q₁ j → refused_by r ≡ none
        → (verdict_number r ≡ judge.verdict_number j) × (told_prefixes r ≡ told.told_prefixes j) × (told_looks r ≡ told.told_looks j) × (table' ≡ table₁)
    as_the_judge_by (Err x) j h g e = absurd (some-ne-none x e)
    as_the_judge_by (Ok (NoOrder P n)) (Err x) h g e = absurd (some-ne-none x (g.refused ∙ unrefused))
    as_the_judge_by (Ok (NoOrder P n)) (Ok (judged.NoOrder Q m)) h g e = let s = same_counts h.tells.2 g.told.2 in (refl, s.0, s.1, s.2)
    as_the_judge_by (Ok (NoOrder P n)) (Ok (judged.Order Q m)) h g e = absurd (none-ne-some g.told.0 (sym h.tells.0 ∙ g.told.1))
    as_the_judge_by (Ok (Order P n c f)) (Err x) h g e = absurd (some-ne-none x (g.refused ∙ unrefused))
    as_the_judge_by (Ok (Order P n c f)) (Ok (judged.NoOrder Q m)) h g e = absurd (none-ne-some h.tells.0.order
        (sym ((same_verdict p.may p.letter (automaton p.profile) (lawful p.profile) w p.profile.k p.profile.s B).1 g.told.0) ∙ h.tells.0.is_order))
    as_the_judge_by (Ok (Order P n c f)) (Ok (judged.Order Q m)) h g e = let s = same_counts h.tells.1 g.told.3 in (refl, s.0, s.1, s.2)

  module _ (P n c f : ℕ) (h : PromiseBy p w B order order' table table' costs costs' q (Ok (Order P n c f))) where
    -- the order told is the letters of events that are reachable and accepted
    witness : (x : List ℕ) × (map p.letter x ≡ h.tells.0.order) × WitnessBy p w x
    witness =
        let z = closest_at p.may p.letter (automaton p.profile) (lawful p.profile) w p.profile.k p.profile.s B h.tells.0.is_order in
        (z.0, z.1, record { reached = z.2; accepted = z.3 })

    -- it has as many letters as the log, so it is what the buffer begins with
    in_buffer : take (length w) order' ≡ h.tells.0.order
    in_buffer =
        let v = h.tells.0.order in
        let x = witness in
        let l : length v ≡ length w = omega (arith, takes_length p.may (order_of_reach p.may x.2.reached), length-map x.0 p.letter, ap length x.1) in
        ap (take (length w)) h.tells.0.written ∙ take_at v (drop (length w) order) (length w) l

    -- "the answer is an accepted order, its swaps c": it stands in the first bytes of the buffer
    pub order_accepted_by : ((x : List ℕ) × (map p.letter x ≡ take (length w) order') × WitnessBy p w x) × (c ≡ swaps p.letter w (take (length w) order'))
    order_accepted_by = let x = witness in ((x.0, x.1 ∙ sym in_buffer, x.2), h.tells.0.its_swaps ∙ ap (swaps p.letter w) (sym in_buffer))

    -- "No accepted order has fewer than f swaps"
    pub floor_holds_by : (u : List ℕ) → WitnessBy p w u → f ≤ swaps p.letter w (map p.letter u)
    floor_holds_by u x = floor_below p.may p.letter (automaton p.profile) (lawful p.profile) w p.profile.k p.profile.s B h.tells.0.its_floor x.reached x.accepted

    -- "If B covers all pairs, the order has c = f and is the earliest such in letter order"
    pub covered_told_by : T (covers p.may p.letter (automaton p.profile) p.profile.k p.profile.s w B)
        → (c ≡ f) × ((u : List ℕ) → WitnessBy p w u → swaps p.letter w (map p.letter u) ≡ f → NoLater (take (length w) order') (map p.letter u))
    covered_told_by b =
        let z = covered p.may p.letter (automaton p.profile) (lawful p.profile) w p.profile.k p.profile.s B b h.tells.0.is_order in
        let e : c ≡ f = h.tells.0.its_swaps ∙ some-injective _ _ (sym z.0 ∙ h.tells.0.its_floor) in
        (e, λ u x s. subst (λ v. NoLater v (map p.letter u)) (sym in_buffer) (z.1.least u x.reached x.accepted (s ∙ sym e ∙ h.tells.0.its_swaps)))

    -- "otherwise it is the judge's"
    pub judges_told_by : T (not (covers p.may p.letter (automaton p.profile) p.profile.k p.profile.s w B)) → order_by p w ≡ some (take (length w) order')
    judges_told_by b =
        sym (not_covered p.may p.letter (automaton p.profile) (lawful p.profile) w p.profile.k p.profile.s B b)
        ∙ h.tells.0.is_order ∙ ap some (sym in_buffer)

    -- f, the fewest swaps of any accepted order, c
    pub floor_fewest_swaps_by : {m : ℕ} → fewest_swaps p.may p.letter (automaton p.profile) w ≡ some m → (f ≤ m) × (m ≤ c)
    floor_fewest_swaps_by {m} e =
        let z = floor_fewest_told p.may p.letter (automaton p.profile) (lawful p.profile) w p.profile.k p.profile.s B e h.tells.0.its_floor h.tells.0.is_order in
        (z.0, subst (λ i. m ≤ i) (sym h.tells.0.its_swaps) z.1)
