-- The answer of `bound`, from the refusals of its parts and the product by counts.
use mathlib.Core.Path.{◌≡◌, sym, ◌∙◌, ap}
use mathlib.Core.Bool.{Bool, true, false, ◌&&◌}
use mathlib.Core.List.{List, [], ◌∷◌, ◌++◌, map}
use mathlib.Core.Option.{none, some}
use Prim.Native.Nat.{ℕ, ◌+◌, ◌≤◌, ◌<◌, min}
use native.Mathlib.Omega.{arith}
use borrow.Author.Tests.{le-ltb, lt-ltb}
use lib.Dec.{T, leb, leb→le, ltb, lt→ltb, ltb→lt}
use lib.ListN.{length}
use Rattle.std.specs.Prelude.{Ok, Err}
use Rattle.profile.specs.Limits.{longest, most_letters}
use Rattle.profile.specs.Lists.{all, below}
use Rattle.profile.specs.Prefixes.{count}
use Rattle.profile.specs.Refusals.{log_refusals, lowest, refusal_number, relation_refusals}
use Rattle.profile.specs.Traces.{letters_below}
use Rattle.profile.specs.declared.Refusal.{Refusal}
use Rattle.profile.specs.declared.Refusal.TheVariants.{BadGroups, HighCeiling}
use Rattle.profile.proofs.Lists.{Rising, all_at, all_of, fst_of, snd_of}
use Rattle.theory.proofs.Refusals.{log_at, lowest_append, relation_at}
use Rattle.ceilings.specs.Ceilings.{bad_groups, bound_refusal, bound_refusals, ceiling_of, high_ceiling, highest_ceiling}
use Rattle.products.specs.Products.{product_of}
use Rattle.products.proofs.Sizes.{product_ceiling}
use Rattle.ceiling.specs.Ceiling.{bounded_as, bounding}

-- what the pass over the log asks for
pub log_fits : (k : ℕ) (masks w : List ℕ) → lowest (relation_refusals k masks) ≡ none → lowest (log_refusals k w) ≡ none
    → (length w ≤ longest) × T (letters_below (λ a. a) most_letters w)
log_fits k masks w e₀ e₁ =
    let r = relation_at k masks e₀ in
    let l = log_at k w e₁ in
    (l.short, all_of (λ a. ltb a most_letters) w (λ a m. lt→ltb a most_letters (omega (arith, ltb→lt a k (all_at (λ a. ltb a k) l.letters m), r.most))))

module _ (k : ℕ) (masks w groups : List ℕ) where
  late : List (Bool × Refusal)
  late = (bad_groups k masks groups, BadGroups) ∷ (high_ceiling groups w, HighCeiling) ∷ []

  -- the answer is that of the refusal
  answer : {r : Refusal} → bound_refusal k masks w groups ≡ some r → Err r ≡ bounding k masks w groups
  answer e = ap (λ o. bounded_as o (ceiling_of (λ a. a) groups w)) (sym e)

  module _ (e₀ : lowest (relation_refusals k masks) ≡ none) where
    past_masks : bound_refusal k masks w groups ≡ lowest (log_refusals k w ++ late)
    unfolding late
    past_masks = lowest_append (relation_refusals k masks) (log_refusals k w ++ late) e₀

    module _ (e₁ : lowest (log_refusals k w) ≡ none) where
      past_log : bound_refusal k masks w groups ≡ lowest late
      past_log = past_masks ∙ lowest_append (log_refusals k w) late e₁

      -- the product of the counts, capped
      module _ (e₂ : bad_groups k masks groups ≡ false) (counts : List ℕ) (n : ℕ) (e₃ : counts ≡ map (count (λ a. a) w) (below most_letters))
          (e₄ : n ≡ min (product_of counts groups) (highest_ceiling + 1)) where
        capped : n ≡ min (ceiling_of (λ a. a) groups w) (highest_ceiling + 1)
        capped = e₄ ∙ ap (λ m. min m (highest_ceiling + 1)) (ap (λ c. product_of c groups) e₃ ∙ product_ceiling w (log_fits k masks w e₀ e₁).1 groups)

        pub bound_high : highest_ceiling < n → Err HighCeiling ≡ bounding k masks w groups
        unfolding late
        bound_high h =
            let l : highest_ceiling < ceiling_of (λ a. a) groups w = omega (arith, capped) in
            answer (past_log ∙ rw (e₂, lt-ltb highest_ceiling (ceiling_of (λ a. a) groups w) l, lowest))

        pub bound_told : n ≤ highest_ceiling → Ok n ≡ bounding k masks w groups
        unfolding late
        bound_told h =
            let c = ceiling_of (λ a. a) groups w in
            let q : n ≡ c = omega (arith, capped) in
            let l : c ≤ highest_ceiling = omega arith in
            let e : bound_refusal k masks w groups ≡ none = past_log ∙ rw (e₂, le-ltb highest_ceiling c l, lowest) in
            ap Ok q ∙ ap (λ o. bounded_as o c) (sym e)

-- the conditions stand by rising number, 2, 4, 7, 8, 18, 19: the first that applies is the lowest
rising? : List ℕ → Bool
rising? [] = true
rising? (n ∷ l) = all (leb n) l && rising? l

rising_of : (l : List ℕ) → T (rising? l) → Rising l
unfolding rising?
rising_of [] t = tt
rising_of (n ∷ l) t = ((λ m i. leb→le n m (all_at (leb n) (fst_of (all (leb n) l) (rising? l) t) i)), rising_of l (snd_of (all (leb n) l) (rising? l) t))

pub bound_rises : (k : ℕ) (masks w groups : List ℕ) → Rising (map (λ (c : Bool × Refusal). refusal_number c.1) (bound_refusals k masks w groups))
unfolding rising?
bound_rises k masks w groups = rising_of (map (λ (c : Bool × Refusal). refusal_number c.1) (bound_refusals k masks w groups)) tt
