-- The records that are counted and put are those of the event.
use mathlib.Core.Path.{◌≡◌, sym, ◌∙◌, ap, ap₂, subst}
use mathlib.Core.Bool.{true}
use mathlib.Core.List.{List, [], ◌∷◌, ◌++◌}
use Prim.Native.Nat.{ℕ, ◌+◌, ◌*◌, ◌-◌, ◌<◌, ◌≤◌}
use native.Mathlib.Omega.{arith}
use lib.Dec.{ltb, lt→ltb}
use lib.ListN.{length, length-append, length-map}
use Rattle.profile.specs.Lists.{below, filter}
use Rattle.profile.specs.Traces.{independent}
use Rattle.profile.specs.Automata.{Profile, automaton}
use Rattle.profile.specs.Refusals.{longest}
use Rattle.profile.proofs.Lists.{all_append, both}
use Rattle.theory.proofs.Profiles.{distinct}
use Rattle.theory.proofs.Refusals.{GoodLog, profile_at}
use Rattle.records.specs.Records.{counts_at}
use Rattle.arrival.specs.Arrival.{arrivals, joins?, with_one}
use Rattle.arrival.proofs.Tables.{arrivals_more}
use Rattle.running.proofs.Lending.{arrivals_are}
use Rattle.newcomers.specs.Newcomers.{Brought, Tried, joins_at?}
use Rattle.taking.proofs.Reading.{p_is, counts_are, indexed, joins_is}
use Rattle.taking.proofs.Trying.{all_put}
use Rattle.running.specs.Running.{p_of, Runs, event_table}
use Rattle.running.specs.declared.Running.{Running}
use Rattle.taking.specs.Taking.{new_records}

module _ (p : Profile) (a : ℕ) (low : a < p.k) {r : Running} {t : List ℕ} (short : r.taken < longest) where
  after : (w : List ℕ) → Runs p w r t → GoodLog p.k (w ++ (a ∷ []))
  after w h = record {
    short = omega (arith, length-append w (a ∷ []), h.taken, short);
    letters = all_append (λ x. ltb x p.k) w (a ∷ []) h.log.letters (both (ltb a p.k) true (lt→ltb a p.k low) tt);
  }

  pub counted : (w : List ℕ) → Runs p w r t → r.prefixes + new_records p a r t ≡ p_of p (w ++ (a ∷ []))
  counted w h =
      let g = profile_at p h.sound in
      let n = ap (λ m. length (filter (λ j. joins_at? (independent p.masks) p.k (counts_at t (r.prefixes - 1)) a (counts_at t j)) (below m))) (p_is p w h) in
      let i = indexed (joins? (independent p.masks) p.k w a) [] (arrivals (independent p.masks) p.k w) 0
      (λ j. joins_at? (independent p.masks) p.k (counts_at t (r.prefixes - 1)) a (counts_at t j))
      (λ j lt. ap (λ m. joins_at? (independent p.masks) p.k (counts_at t (r.prefixes - 1)) a (counts_at t m)) (zero_left j) ∙ joins_is p w h a j lt) in
      omega (
        arith,
        p_is p w h,
        n,
        i,
        length-map (filter (joins? (independent p.masks) p.k w a) (arrivals (independent p.masks) p.k w)) (λ c. with_one c a),
        arrivals_more (independent p.masks) (distinct p.masks g.relation.own) (automaton p) p.k w a (after w h).letters,
        arrivals_are p (w ++ (a ∷ [])) g (after w h).letters,
      )
    where
      zero_left : (j : ℕ) → 0 + j ≡ j
      zero_left j = omega arith

  pub brought : (w t' : List ℕ) → Runs p w r t → 10 * p_of p (w ++ (a ∷ [])) ≤ length t → Brought p r.prefixes a t t' → t' ≡ event_table p w a t
  brought w t' h room b =
      let g = profile_at p h.sound in
      let n = p_is p w h in
      all_put p g w a low (after w h) t h.keeps (omega (arith, room, arrivals_are p (w ++ (a ∷ [])) g (after w h).letters))
      (λ j lt. ap₂ (λ m v. joins_at? (independent p.masks) p.k (counts_at t (m - 1)) a v) (sym n) (sym (counts_are p w h j lt)) ∙ joins_is p w h a j lt)
      (subst (λ m. Tried p m a t m b.behind t' b.places) n b.tried)
