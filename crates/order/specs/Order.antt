-- Document 01, "first order": the answers, and the order buffer afterwards.
use Rattle.std.specs.Prelude.{Result, Ok, Err, ◌≡◌, List, [], ◌∷◌, ◌++◌, map, ℕ, ◌≤◌, drop, get_or, length}
use Rattle.std.proofs.Math.Option.{Option, none, some}
use Rattle.profile.specs.declared.Refusal.{Refusal}
use Rattle.profile.specs.Lists.{below}
use Rattle.profile.specs.Orders.{first_order}
use Rattle.profile.specs.Refusals.{first_order_refusal, log_refusals, lowest, refusal_number, refusal_place, relation_refusals}
use Rattle.profile.specs.Answers.{answer_code, answer_told}
use Rattle.profile.specs.Traces.{independent}
use Rattle.places.specs.Places.{place_start, place_table}

-- the answer of a first order: a refusal, or that it is written
abbrev pub ordered_as : Option Refusal → Result Unit Refusal
ordered_as none = Ok tt
ordered_as (some r) = Err r

-- document 01's values of an answer: of a refusal its number and its place
abbrev pub ordered_values : Result Unit Refusal → List ℕ
ordered_values (Ok a) = []
ordered_values (Err r) = refusal_number r ∷ refusal_place r ∷ []

-- the numbers of an answer: the refusal's number, or 0; place
abbrev pub ordered_code : Result Unit Refusal → ℕ
ordered_code = answer_code

abbrev pub ordered_told : Result Unit Refusal → List ℕ
ordered_told = answer_told 0 (λ _. [])

-- "First order", where the order buffer has n places
abbrev pub ordering : ℕ → List ℕ → List ℕ → ℕ → Result Unit Refusal
ordering k masks w n = ordered_as (first_order_refusal k masks w n)

-- the letters of an order; none where there is no order
abbrev pub letters_or_none : Option (List ℕ) → List ℕ
letters_or_none none = []
letters_or_none (some v) = v

-- "the earliest log reachable from a given one": there is one, as the log itself is reachable
abbrev pub first_letters : List ℕ → List ℕ → List ℕ
first_letters masks w = letters_or_none (first_order (independent masks) w)

-- "Refusals leave every buffer unchanged"
abbrev pub unless_refused : Option Refusal → List ℕ → List ℕ → List ℕ
unless_refused none after before = after
unless_refused (some r) after before = before

-- "written to the first bytes of the order buffer, the others staying"
abbrev pub ordered_buffer : ℕ → List ℕ → List ℕ → List ℕ → List ℕ
ordered_buffer k masks w before = unless_refused (first_order_refusal k masks w (length before)) (first_letters masks w ++ drop (length w) before) before

-- what is known before the letters are taken: nothing is refused, the places of the events stand in the tables, no event is counted
pub record Placed (k : ℕ) (masks w starts places next used out : List ℕ) : Type 0 where
  pub relation : lowest (relation_refusals k masks) ≡ none
  pub log : lowest (log_refusals k w) ≡ none
  pub room : length w ≤ length out
  pub start : (s : List ℕ) × (starts ≡ map (place_start w) (below k) ++ s)
  pub place : (p : List ℕ) × (places ≡ place_table k w ++ p)
  pub wide : length next ≡ k
  pub long : k ≤ length used
  pub unused : (x : ℕ) → get_or used x 0 ≡ 0
