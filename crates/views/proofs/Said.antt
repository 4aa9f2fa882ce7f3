-- What a view says, in the paper's words: its order is the earliest visible part, and its records allow hidden letters anywhere.
use mathlib.Core.Path.{◌≡◌, refl, sym, ◌∙◌, ap, subst}
use mathlib.Core.Bool.{Bool, true, ◌&&◌}
use mathlib.Core.Logic.{◌↔◌, ◌≢◌}
use mathlib.Core.List.{List, [], ◌∷◌, map}
use mathlib.Core.Option.{Option, none, some}
use Prim.Native.Nat.{ℕ, zero, suc, ◌<◌}
use lib.Dec.{T, ltb}
use Rattle.profile.specs.Lists.{all, filter}
use Rattle.profile.specs.Traces.{Reachable, bit, exchange, independent, itself, letters_below}
use Rattle.profile.specs.Automata.{Accepted, PathOf, Profile, stop}
use Rattle.profile.specs.Prefixes.{backward, forward, less, marked, unmarked}
use Rattle.profile.specs.Orders.{Earlier}
use Rattle.profile.proofs.Lists.{all_append, all_at, all_of, all_split, both, filter_at, fst_of, snd_of}
use Rattle.profile.proofs.Traces.{order_of_reach, reach_of_order}
use Rattle.theory.proofs.Automata.{backward_at, backward_of, forward_at, forward_of}
use Rattle.theory.proofs.Judgement.{accepted_order_at, accepted_order_not}
use Rattle.theory.proofs.Prefixes.{marked_suc, marked_zero, unmarked_suc, unmarked_zero}
use Rattle.theory.proofs.Refusals.{GoodProfile}
use Rattle.views.specs.Views.{Hiding, InBackward, InForward, Shown, seen, view, view_order}
use Rattle.views.proofs.Hiding.{hiding_append}
use Rattle.views.proofs.Paths.{behind_at, behind_of, from_start_at, from_start_of, hiding_inside, lead_on, to_final_at, trail_on, view_ends_at, view_ends_of, view_lawful, view_path_inside, view_path_of, view_starts}

-- ---- tests that all letters pass

pub reach_all : (t : ℕ → Bool) {may : ℕ → ℕ → Bool} {w v : List ℕ} → T (all t w) → Reachable may w v → T (all t v)
reach_all t h itself = h
reach_all t h (exchange u a b v m r) =
    let z = all_split t u (a ∷ b ∷ v) (reach_all t h r) in
    let y = snd_of (t a) (t b && all t v) z.1 in
    all_append t u (b ∷ a ∷ v) z.0
    (both (t b) (t a && all t v) (fst_of (t b) (all t v) y) (both (t a) (all t v) (fst_of (t a) (t b && all t v) z.1) (snd_of (t b) (all t v) y)))

pub filter_keeps : (t s : ℕ → Bool) (w : List ℕ) → T (all t w) → T (all t (filter s w))
filter_keeps t s w h = all_of t (filter s w) (λ a m. all_at t h (filter_at s w m).0)

pub seen_visible : (visible : ℕ) (w : List ℕ) → T (all (bit visible) (seen visible w))
seen_visible visible w = all_of (bit visible) (seen visible w) (λ a m. (filter_at (bit visible) w m).1)

pub marked_all : (t : ℕ → Bool) (w : List ℕ) (c : ℕ → ℕ) → T (all t w) → T (all t (marked (λ a. a) w c))
marked_all t [] c h = tt
marked_all t (a ∷ w) c h = go (c a) refl (λ d. marked_all t w d (snd_of (t a) (all t w) h))
  where
    go : (n : ℕ) → c a ≡ n → ((d : ℕ → ℕ) → T (all t (marked (λ a. a) w d))) → T (all t (marked (λ a. a) (a ∷ w) c))
    go zero e ih = subst (λ l. T (all t l)) (sym (marked_zero (λ x y. true) (λ a. a) a w c e)) (ih c)
    go (suc n) e ih = subst (λ l. T (all t l)) (sym (marked_suc (λ x y. true) (λ a. a) a w c e))
        (both (t a) (all t (marked (λ a. a) w (less c a))) (fst_of (t a) (all t w) h) (ih (less c a)))

pub unmarked_all : (t : ℕ → Bool) (w : List ℕ) (c : ℕ → ℕ) → T (all t w) → T (all t (unmarked (λ a. a) w c))
unmarked_all t [] c h = tt
unmarked_all t (a ∷ w) c h = go (c a) refl (λ d. unmarked_all t w d (snd_of (t a) (all t w) h))
  where
    go : (n : ℕ) → c a ≡ n → ((d : ℕ → ℕ) → T (all t (unmarked (λ a. a) w d))) → T (all t (unmarked (λ a. a) (a ∷ w) c))
    go zero e ih = subst (λ l. T (all t l)) (sym (unmarked_zero (λ x y. true) (λ a. a) a w c e))
        (both (t a) (all t (unmarked (λ a. a) w c)) (fst_of (t a) (all t w) h) (ih c))
    go (suc n) e ih = subst (λ l. T (all t l)) (sym (unmarked_suc (λ x y. true) (λ a. a) a w c e)) (ih (less c a))

map_id : (l : List ℕ) → map (λ a. a) l ≡ l
map_id [] = refl
map_id (a ∷ l) = ap (◌∷◌ a) (map_id l)

module _ (p : Profile) (good : GoodProfile p) (visible : ℕ) (w : List ℕ) (letters : T (letters_below (λ a. a) p.k w)) where
  abbrev may : ℕ → ℕ → Bool
  may = independent p.masks

  below_k : T (letters_below (λ a. a) p.k (seen visible w))
  below_k = filter_keeps (λ a. ltb a p.k) (bit visible) w letters

  -- u is reachable from the visible part and accepted by the view exactly when it is shown
  shown_of : {u : List ℕ} → Reachable may (seen visible w) u → Accepted (view p visible) (λ a. a) u → Shown p visible w u
  shown_of r a = record { reached = r; behind = behind_of p good visible (reach_all (λ a. ltb a p.k) below_k r) (reach_all (bit visible) (seen_visible visible w) r) a }

  -- ---- the verdict and the order

  -- "The order is the earliest such visible part"
  pub view_earliest : {v : List ℕ} → view_order p visible w ≡ some v → Shown p visible w v × ((u : List ℕ) → Shown p visible w u → u ≢ v → Earlier v u)
  view_earliest {v} e =
      let n = accepted_order_at may (λ a. a) (view p visible) (view_lawful p good visible) e in
      let q = sym (map_id n.order) ∙ n.letters in (
        subst (Shown p visible w) q (shown_of n.reached n.accepted),
        λ u h ne. (rw (map_id u) at (n.least u h.reached (behind_at p good visible h.behind)), λ i. ne (sym i)),
      )

  -- "Verdict 1 means that some list of letters … has a visible part reachable from that part": verdict 0 exactly when none has
  pub view_none : (view_order p visible w ≡ none) ↔ ((u : List ℕ) → Shown p visible w u → ⊥)
  view_none = (
    λ e u h. accepted_order_not may (λ a. a) (view p visible) (view_lawful p good visible) e h.reached (behind_at p good visible h.behind),
    λ h. go (view_order p visible w) refl h,
  )
    where
      go : (o : Option (List ℕ)) → view_order p visible w ≡ o → ((u : List ℕ) → Shown p visible w u → ⊥) → view_order p visible w ≡ none
      go none e h = e
      go (some v) e h = absurd (h v (view_earliest e).0)

  -- ---- the records

  pub view_forward : (c : ℕ → ℕ) (r : ℕ) → T (bit (forward may (λ a. a) (view p visible) (seen visible w) c) r) ↔ InForward p visible w c r
  view_forward c r = (
    λ t.
        let n = forward_at may (λ a. a) (view p visible) (view_lawful p good visible) (seen visible w) c r t in
        let u = reach_of_order may n.2 in
        let l = from_start_at p good visible (reach_all (λ a. ltb a p.k) (marked_all (λ a. ltb a p.k) (seen visible w) c below_k) u)
        (reach_all (bit visible) (marked_all (bit visible) (seen visible w) c (seen_visible visible w)) u) n.3 n.4 in
        record { list = l.list; letters = l.letters; leads = l.leads; reached = subst (Reachable may (marked (λ a. a) (seen visible w) c)) (sym l.shows) u },
    λ h. let n = from_start_of p good visible h.list h.letters h.leads in go (seen visible h.list) n.2.1 h.reached n.1 n.2.2,
  )
    where
      go : (u : List ℕ) {b d : ℕ} → PathOf (view p visible) (λ a. a) b u d → Reachable may (marked (λ a. a) (seen visible w) c) u → T (bit (view p visible).start b) → Hiding p visible d r
          → T (bit (forward may (λ a. a) (view p visible) (seen visible w) c) r)
      go [] {b} stop e t h = forward_of may (λ a. a) (view p visible) (view_lawful p good visible) (seen visible w) c (order_of_reach may e)
          ((view_starts p good visible r).1 (hiding_append p visible ((view_starts p good visible b).0 t) h)) stop
      go (a ∷ u) l e t h = forward_of may (λ a. a) (view p visible) (view_lawful p good visible) (seen visible w) c (order_of_reach may e) t (trail_on p good visible a u l h)

  pub view_backward : (c : ℕ → ℕ) (q : ℕ) → q < p.s → T (bit (backward may (λ a. a) (view p visible) (seen visible w) c) q) ↔ InBackward p visible w c q
  view_backward c q lt = (
    λ t.
        let n = backward_at may (λ a. a) (view p visible) (view_lawful p good visible) (seen visible w) c q t in
        let u = reach_of_order may n.2 in
        let m = to_final_at p good visible (reach_all (λ a. ltb a p.k) (unmarked_all (λ a. ltb a p.k) (seen visible w) c below_k) u)
        (reach_all (bit visible) (unmarked_all (bit visible) (seen visible w) c (seen_visible visible w)) u) n.3 n.4 in
        record { list = m.1.list; letters = m.1.letters; to = m.0; leads = m.1.leads; ends = m.2; reached = subst (Reachable may (unmarked (λ a. a) (seen visible w) c)) (sym m.1.shows) u },
    λ h.
        let n = view_path_of p good visible h.list lt h.letters h.leads in
        go (seen visible h.list) n.3 h.reached n.2
        (view_ends_of p good visible (view_path_inside p good visible (hiding_inside p good visible lt n.2) n.3) n.4 h.ends),
  )
    where
      go : (u : List ℕ) {b d : ℕ} → PathOf (view p visible) (λ a. a) b u d → Reachable may (unmarked (λ a. a) (seen visible w) c) u → Hiding p visible q b → T (bit (view p visible).final d)
          → T (bit (backward may (λ a. a) (view p visible) (seen visible w) c) q)
      go [] {b} stop e h t =
          let n = (view_ends_at p good visible b t).1 in
          backward_of may (λ a. a) (view p visible) (view_lawful p good visible) (seen visible w) c (order_of_reach may e) stop (view_ends_of p good visible lt (hiding_append p visible h n.1) n.2)
      go (a ∷ u) l e h t = backward_of may (λ a. a) (view p visible) (view_lawful p good visible) (seen visible w) c (order_of_reach may e) (lead_on p good visible a u lt h l) t
