-- The profile that is made for the visible letters, and what the answer by it says of the view.
use mathlib.Core.Path.{◌≡◌, sym, ◌∙◌, ap, ap₂}
use mathlib.Core.List.{List, ◌++◌, map}
use Prim.Native.Nat.{ℕ, ◌*◌, ◌/◌, ◌%◌, ◌^◌, ◌≤◌, ◌<◌}
use native.Mathlib.Nat.{mul-le-mul}
use native.Mathlib.Omega.{arith}
use lib.Dec.{T}
use lib.ListN.{length, get_or, take, drop}
use lib.Seq.{take_at}
use Rattle.profile.specs.Lists.{below}
use Rattle.profile.specs.Traces.{independent, letters_below}
use Rattle.profile.specs.Automata.{Profile, automaton, forward_step, meets, union}
use Rattle.profile.specs.Prefixes.{looks, prefix_count}
use Rattle.profile.specs.Refusals.{lowest}
use Rattle.profile.proofs.Lists.{below_at, filter_agree}
use Rattle.theory.proofs.Counting.{length_range}
use Rattle.theory.proofs.Fronts.{front_at}
use Rattle.theory.proofs.Refusals.{GoodProfile, log_at, profile_at}
use Rattle.views.specs.Views.{buffer_refusals, finals_late, late, leads_late, reach, view}
use Rattle.views.proofs.Late.{late_order}
use Rattle.views.proofs.Refused.{late_passes}
use Rattle.hidden.specs.Hidden.{late_move, led_into}
use Rattle.hidden.proofs.Rounds.{map_agree, state_of}
use Rattle.cleared.specs.Cleared.{Clean, answer, order_as, order_left, table_as, table_left, told_as}
use Rattle.seeing.specs.Seeing.{hulled_left}
use Rattle.hulls.proofs.Hulls.{hulled_table}

module _ (p : Profile) (visible : ℕ) (u : List ℕ) (clean : Clean p u) where
  good : GoodProfile p
  good = profile_at p clean.profile

  pub few_letters : (1 ≤ p.k) × (p.k ≤ 16)
  few_letters = (good.relation.least, good.relation.most)

  pub few_states : (p.s ≤ 32)
  few_states = good.states.1

  pub few_moves : p.s * p.k ≤ 512
  few_moves = omega (arith, mul-le-mul good.states.1 good.relation.most)

  pub inner_clean : Clean (late p visible) u
  inner_clean = record { profile = late_passes p visible clean.profile; log = clean.log }

  -- the sets that are put
  module _ (R rest : List ℕ) (e : R ≡ map (reach p visible) (below p.s) ++ drop p.s rest) (l : p.s ≤ length rest) where
    pub reach_held : (q : ℕ) → q < p.s → get_or R q 0 ≡ reach p visible q
    unfolding reach
    reach_held q lt = ap (λ z. get_or z q 0) e ∙ front_at (reach p visible) rest p.s l q lt

    pub finals_held : led_into p.s R p.finals ≡ finals_late p visible
    finals_held = ap (union (λ q. 2 ^ q)) (filter_agree (λ q. meets (get_or R q 0) p.finals) (λ q. meets (reach p visible q) p.finals) (below p.s)
        (λ q m. ap (λ z. meets z p.finals) (reach_held q (below_at p.s q m))))

    pub moves_held : (L over : List ℕ) (z : ℕ) → z ≡ p.s * p.k → L ≡ map (late_move p R) (below (p.s * p.k)) ++ over → take z L ≡ (late p visible).moves
    moves_held L over z i h =
        ap₂ take i h ∙ take_at (map (late_move p R) (below (p.s * p.k))) over (p.s * p.k) (length_range (late_move p R) (p.s * p.k) 0)
        ∙ map_agree (late_move p R) (λ j. leads_late p visible (j / p.k) (j % p.k)) (below (p.s * p.k))
        (λ j m. ap (λ S. forward_step p.k p.s p.moves S (j % p.k)) (reach_held (j / p.k) (state_of p.k p.s j good.relation.least (below_at (p.s * p.k) j m))))

    -- the profile that is made
    pub inner_is : (F : ℕ) (L over : List ℕ) (z : ℕ) → F ≡ led_into p.s R p.finals → z ≡ p.s * p.k → L ≡ map (late_move p R) (below (p.s * p.k)) ++ over
        → ◌≡◌ {A = Profile} (record { k = p.k; masks = p.masks; s = p.s; start = p.start; finals = F; moves = take z L }) (late p visible)
    inner_is F L over z f i h = ap₂ (λ x y. profile-with x y) (f ∙ finals_held) (moves_held L over z i h)
      where
        profile-with : ℕ → List ℕ → Profile
        profile-with x y = record { k = p.k; masks = p.masks; s = p.s; start = p.start; finals = x; moves = y }

    -- ---- the answer by it

    module _ (q : Profile) (same : q ≡ late p visible) where
      letters : T (letters_below (λ a. a) p.k u)
      letters = (log_at p.k u clean.log).letters

      pub inner_answer : (n m : ℕ) → answer q (automaton q) u n m ≡ answer p (view p visible) u n m
      inner_answer n m = ap (λ x. answer x (automaton x) u n m) same
          ∙ ap (λ v. told_as (lowest (buffer_refusals p u n m)) v (prefix_count (independent p.masks) (λ a. a) p.k u) (looks (independent p.masks) (λ a. a) p.k u)) (sym (late_order p good visible u letters))

      pub inner_order : (m : ℕ) (b : List ℕ) → order_left q (automaton q) u m b ≡ order_left p (view p visible) u m b
      inner_order m b = ap (λ x. order_left x (automaton x) u m b) same ∙ ap (λ v. order_as (lowest (buffer_refusals p u (length b) m)) v b) (sym (late_order p good visible u letters))

      pub inner_table : (n : ℕ) (t : List ℕ) → hulled_left q R u n t ≡ table_left p (view p visible) u n t
      inner_table n t = ap (λ x. hulled_left x R u n t) same ∙ ap (λ f. table_as (lowest (buffer_refusals p u n (length t))) f t) (hulled_table p good visible R reach_held u t letters)
