-- Paper 12, "A teacher's view": the answer of the call, the order buffer and the work table afterwards.
use Rattle.std.specs.Prelude.{Result, ◌≡◌, List, ℕ, length}
use Rattle.profile.specs.Traces.{independent}
use Rattle.profile.specs.Automata.{Profile}
use Rattle.profile.specs.Tables.{layout, table_of}
use Rattle.profile.specs.declared.Refusal.{Refusal}
use Rattle.verdict.specs.declared.Judged.{Judged}
use Rattle.views.specs.Views.{seen, view, view_looks, view_order, view_prefixes, view_refusal}
use Rattle.cleared.specs.Cleared.{order_as, table_as, told_as}

-- "The view … gets a mask of visible letters and works on the visible part of the log": its answer for the log w, n places for the order and m numbers
-- of table
abbrev pub viewing : Profile → ℕ → List ℕ → ℕ → ℕ → Result Judged Refusal
viewing p visible w n m = told_as (view_refusal p visible w n m) (view_order p visible w) (view_prefixes p visible w) (view_looks p visible w)

-- the order buffer afterwards; the table, whose "forward and backward allow hidden letters anywhere, at either end too"
abbrev pub viewed_order : Profile → ℕ → List ℕ → ℕ → List ℕ → List ℕ
viewed_order p visible w m before = order_as (view_refusal p visible w (length before) m) (view_order p visible w) before

abbrev pub viewed_table : Profile → ℕ → List ℕ → ℕ → List ℕ → List ℕ
viewed_table p visible w n before =
    table_as (view_refusal p visible w n (length before)) (table_of layout (independent p.masks) (λ a. a) (view p visible) p.k (seen visible w) before) before

-- the whole promise of a call with the mask `visible` that was lent `order` and `table`, left `order'` and `table'`, and answered j
pub record Viewed (p : Profile) (visible : ℕ) (w order order' table table' : List ℕ) (j : Result Judged Refusal) : Type 0 where
  pub told : j ≡ viewing p visible w (length order) (length table)
  pub order_is : order' ≡ viewed_order p visible w (length table) order
  pub table_is : table' ≡ viewed_table p visible w (length order) table
