-- What the answer says: 18 and 19 in the paper's words, and P within the ceiling told, with terms or without.
use mathlib.Core.Path.{◌≡◌, refl, sym, ap}
use mathlib.Core.Bool.{Bool}
use mathlib.Core.Logic.{◌↔◌}
use mathlib.Core.List.Memᴰ
use mathlib.Core.List.{List, [], ◌∷◌, ◌++◌, map}
use mathlib.Core.Option.{Option, none, some, none-ne-some, some-injective}
use Prim.Native.Nat.{ℕ, ◌≤◌}
use native.Mathlib.Omega.{arith}
use borrow.Author.Tests.{ltb-false}
use lib.Dec.{T}
use Rattle.std.specs.Prelude.{Err}
use Rattle.profile.specs.Prefixes.{prefix_count}
use Rattle.profile.specs.Refusals.{log_refusals, refused_by, relation_refusals}
use Rattle.profile.specs.Traces.{independent}
use Rattle.profile.specs.declared.Refusal.{Refusal}
use Rattle.profile.specs.declared.Refusal.TheVariants.{BadGroups, HighCeiling}
use Rattle.theory.proofs.Refusals.{GoodLog, Relation, log_at, lowest_none, relation_at}
use Rattle.ceilings.specs.Ceilings.{GoodGroups, bad_groups, bound_refusal, bound_refusals, ceiling_of, high_ceiling, highest_ceiling}
use Rattle.ceilings.proofs.Events.{events_within}
use Rattle.ceilings.proofs.Groups.{good_groups}
use Rattle.ceiling.specs.Ceiling.{bounded_as, bounding, told_ceiling}

-- what is known where a ceiling is told
pub record Told (k : ℕ) (masks w groups : List ℕ) (n : ℕ) : Type 0 where
  pub relation : Relation k masks
  pub log : GoodLog k w
  pub groups_good : GoodGroups k masks groups
  pub ceiling : n ≡ ceiling_of (λ a. a) groups w
  pub fits : n ≤ highest_ceiling

module _ (k : ℕ) (masks w groups : List ℕ) where
  -- the call is refused by r exactly when r is the first of 2, 4, 7, 8, 18, 19 that applies
  pub refused_exactly : (r : Refusal) → (bounding k masks w groups ≡ Err r) ↔ (bound_refusal k masks w groups ≡ some r)
  refused_exactly r = ((λ e. go (bound_refusal k masks w groups) e), λ e. ap (λ o. bounded_as o (ceiling_of (λ a. a) groups w)) e)
    where
      go : (o : Option Refusal) → bounded_as o (ceiling_of (λ a. a) groups w) ≡ Err r → o ≡ some r
      go none e = ap refused_by e
      go (some q) e = ap refused_by e

  -- a ceiling is told only where nothing is refused
  pub told_at : (n : ℕ) → told_ceiling (bounding k masks w groups) ≡ some n → Told k masks w groups n
  told_at n e = go (bound_refusal k masks w groups) refl e
    where
      late : List (Bool × Refusal)
      late = (bad_groups k masks groups, BadGroups) ∷ (high_ceiling groups w, HighCeiling) ∷ []

      go : (o : Option Refusal) → bound_refusal k masks w groups ≡ o → told_ceiling (bounded_as o (ceiling_of (λ a. a) groups w)) ≡ some n → Told k masks w groups n
      go (some r) q e = absurd (none-ne-some n e)
      go none q e =
          let f = (lowest_none (bound_refusals k masks w groups)).0 q in
          let c = some-injective (ceiling_of (λ a. a) groups w) n e in
          record {
            relation = relation_at k masks ((lowest_none (relation_refusals k masks)).1 (λ c m. f c (Memᴰ.append_left (log_refusals k w ++ late) m)));
            log = log_at k w ((lowest_none (log_refusals k w)).1 (λ c m. f c (Memᴰ.append_right (relation_refusals k masks) (Memᴰ.append_left late m))));
            groups_good = good_groups k masks groups (f _ (Memᴰ.append_right (relation_refusals k masks) (Memᴰ.append_right (log_refusals k w) (Memᴰ.head refl))));
            ceiling = sym c;
            fits = omega (
              arith,
              ltb-false highest_ceiling (ceiling_of (λ a. a) groups w)
                  (f _ (Memᴰ.append_right (relation_refusals k masks) (Memᴰ.append_right (log_refusals k w) (Memᴰ.tail (Memᴰ.head refl))))),
              c,
            );
          }

-- "P never exceeds it, with terms or without": v is a log of events, w the log of their letters, and events are exchanged only where the masks let their letters be
-- (with terms, only in one term besides)
module _ (k : ℕ) (masks w groups : List ℕ) (n : ℕ) (told : told_ceiling (bounding k masks w groups) ≡ some n) where
  pub within_ceiling : (may : ℕ → ℕ → Bool) (letter : ℕ → ℕ) → ((a b : ℕ) → T (may a b) → T (independent masks (letter a) (letter b))) → (v : List ℕ) → map letter v ≡ w
      → prefix_count may letter k v ≤ n
  within_ceiling may letter sub v e =
      let h = told_at k masks w groups n told in
      omega (arith, events_within k masks groups h.groups_good w h.log.letters may letter sub v e, h.ceiling)

  -- without terms an event is its letter
  pub within : prefix_count (independent masks) (λ a. a) k w ≤ n
  within = within_ceiling (independent masks) (λ a. a) (λ a b t. t) w (map_id w)
    where
      map_id : (l : List ℕ) → map (λ a. a) l ≡ l
      map_id [] = refl
      map_id (a ∷ l) = ap (◌∷◌ a) (map_id l)
