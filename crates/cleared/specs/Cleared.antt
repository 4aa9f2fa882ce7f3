-- The answer, the order buffer and the table by the refusal and the order, the table cleared after 10.
use Rattle.std.specs.Prelude.{Result, Ok, Err, ◌≡◌, cond, List, ◌++◌, ℕ, eqb, drop, length, replicate}
use Rattle.std.proofs.Math.Option.{Option, none, some}
use Rattle.profile.specs.Traces.{independent}
use Rattle.profile.specs.Automata.{Automaton, Profile}
use Rattle.profile.specs.Prefixes.{looks, prefix_count}
use Rattle.profile.specs.Orders.{accepted_order}
use Rattle.profile.specs.Tables.{layout, table_of}
use Rattle.profile.specs.Refusals.{log_refusals, lowest, profile_refusals, refusal_number}
use Rattle.profile.specs.declared.Refusal.{Refusal}
pub use Rattle.table.specs.Table.{usable}
use Rattle.verdict.specs.declared.Judged.{Judged}
use Rattle.verdict.specs.declared.Judged.TheVariants.{NoOrder, Order}
use Rattle.views.specs.Views.{buffer_refusals}

-- "only after 10 is the work table's content free": a view leaves 0 in its usable part, so that nothing of the log can be read there
abbrev pub cleared : List ℕ → List ℕ
cleared t = replicate (usable (length t)) 0 ++ drop (usable (length t)) t

-- the answer: P and n are the counts
abbrev pub told_as : Option Refusal → Option (List ℕ) → ℕ → ℕ → Result Judged Refusal
told_as (some r) o P n = Err r
told_as none none P n = Ok (NoOrder P n)
told_as none (some v) P n = Ok (Order P n)

-- the order buffer: "Verdict 1 comes with the order in the first bytes …; its other bytes stay. Verdict 0 … leaves that buffer unchanged"
abbrev pub order_as : Option Refusal → Option (List ℕ) → List ℕ → List ℕ
order_as (some r) o before = before
order_as none none before = before
order_as none (some v) before = v ++ drop (length v) before

-- the table, which after an answer is `filled`
abbrev pub table_as : Option Refusal → List ℕ → List ℕ → List ℕ
table_as none filled before = filled
table_as (some r) filled before = cond (eqb (refusal_number r) 10) (cleared before) before

-- nothing up to 8 is refused
pub record Clean (p : Profile) (u : List ℕ) : Type 0 where
  pub profile : lowest (profile_refusals p) ≡ none
  pub log : lowest (log_refusals p.k u) ≡ none

-- of a list of letters u and an automaton M, where 9 and 10 alone may apply: n places for the order and m numbers of table
module _ (p : Profile) (M : Automaton) (u : List ℕ) where
  abbrev pub answer : ℕ → ℕ → Result Judged Refusal
  answer n m = told_as (lowest (buffer_refusals p u n m)) (accepted_order (independent p.masks) (λ a. a) M u)
      (prefix_count (independent p.masks) (λ a. a) p.k u) (looks (independent p.masks) (λ a. a) p.k u)

  abbrev pub order_left : ℕ → List ℕ → List ℕ
  order_left m before = order_as (lowest (buffer_refusals p u (length before) m)) (accepted_order (independent p.masks) (λ a. a) M u) before

  abbrev pub table_left : ℕ → List ℕ → List ℕ
  table_left n before = table_as (lowest (buffer_refusals p u n (length before))) (table_of layout (independent p.masks) (λ a. a) M p.k u before) before
