-- Document 02, Paper 11, "How large a table to buy": letter groups as masks, the ceiling, and the refusals of a call.
use Rattle.std.specs.Prelude.{Bool, not, ◌&&◌, ◌||◌, List, [], ◌∷◌, ◌++◌, ℕ, suc, ◌*◌, ◌≤◌, ◌<◌, T, ltb, get_or, length}
use Rattle.std.proofs.Math.Option.{Option}
use Rattle.profile.specs.Automata.{meets}
use Rattle.profile.specs.Lists.{Mem, any, below, filter}
use Rattle.profile.specs.Refusals.{bit_from, log_refusals, lowest, relation_refusals}
use Rattle.profile.specs.Traces.{bit, independent}
use Rattle.profile.specs.declared.Refusal.{Refusal}
use Rattle.profile.specs.declared.Refusal.TheVariants.{BadGroups, HighCeiling}

-- "1 to 16 letter groups"
abbrev pub most_groups : ℕ
most_groups = 16

-- "19 when the product is above 4,294,967,295"
abbrev pub highest_ceiling : ℕ
highest_ceiling = 4294967295

-- ---- the ceiling

-- "letter groups as masks": letter x is in group g when bit x of g is set. "the number of events in that group"
abbrev pub events_in : (ℕ → ℕ) → ℕ → List ℕ → ℕ
events_in letter g w = length (filter (λ a. bit g (letter a)) w)

-- "The ceiling is the product, over the groups, of one plus the number of events in that group"
abbrev pub ceiling_of : (ℕ → ℕ) → List ℕ → List ℕ → ℕ
ceiling_of letter [] w = 1
ceiling_of letter (g ∷ groups) w = suc (events_in letter g w) * ceiling_of letter groups w

-- ---- the rules of the groups, in the paper's words

-- "1 to 16 letter groups as masks", none with "a bit from k on"; "together they hold every letter, and no two letters of one group may be exchanged in either
-- direction": x and y stand for the two in both orders
pub record GoodGroups (k : ℕ) (masks groups : List ℕ) : Type 0 where
  pub number : (1 ≤ length groups) × (length groups ≤ most_groups)
  pub inside : (g : ℕ) → Mem g groups → (x : ℕ) → T (bit g x) → x < k
  pub together : (x : ℕ) → x < k → (g : ℕ) × Mem g groups × T (bit g x)
  pub apart : (g : ℕ) → Mem g groups → (x y : ℕ) → T (bit g x) → T (bit g y) → T (independent masks x y) → ⊥

-- ---- the same as tests

-- a letter of g whose mask has a letter of g
abbrev pub exchanges : List ℕ → ℕ → Bool
exchanges masks g = any (λ x. bit g x && meets (get_or masks x 0) g) (below (length masks))

abbrev pub group_bad : ℕ → List ℕ → ℕ → Bool
group_bad k masks g = bit_from k g || exchanges masks g

-- a letter that no group holds
abbrev pub lacks_letter : ℕ → List ℕ → Bool
lacks_letter k groups = any (λ x. not (any (λ g. bit g x) groups)) (below k)

-- 18: "when the groups break these rules, are none or above 16, or hold a bit from k on"
abbrev pub bad_groups : ℕ → List ℕ → List ℕ → Bool
bad_groups k masks groups = ltb (length groups) 1 || (ltb most_groups (length groups) || (any (group_bad k masks) groups || lacks_letter k groups))

-- 19: "when the product is above 4,294,967,295"
abbrev pub high_ceiling : List ℕ → List ℕ → Bool
high_ceiling groups w = ltb highest_ceiling (ceiling_of (λ a. a) groups w)

-- "both follow 8"
abbrev pub bound_refusals : ℕ → List ℕ → List ℕ → List ℕ → List (Bool × Refusal)
bound_refusals k masks w groups =
    relation_refusals k masks ++ (log_refusals k w ++ ((bad_groups k masks groups, BadGroups) ∷ (high_ceiling groups w, HighCeiling) ∷ []))

abbrev pub bound_refusal : ℕ → List ℕ → List ℕ → List ℕ → Option Refusal
bound_refusal k masks w groups = lowest (bound_refusals k masks w groups)
