-- Document 02, Paper 13: the work table of a judge for grammars, "forward and backward are 0 here".
use Rattle.std.specs.Prelude.{Result, Ok, Err, ◌≡◌, List, [], ◌∷◌, ◌++◌, ℕ, ◌*◌, ◌≤◌, ◌<◌, length, drop}
use Rattle.profile.specs.Lists.{flat_map}
use Rattle.profile.specs.Traces.{independent}
use Rattle.profile.specs.Prefixes.{by_total, looks as looks_of, prefix_count}
use Rattle.profile.specs.Tables.{capacity, layout, packed, record_length}
use Rattle.profile.specs.declared.Refusal.{Refusal}
use Rattle.profile.specs.declared.Refusal.TheVariants.{FullTable}
use Rattle.table.specs.Table.{Spared}
use Rattle.table.specs.declared.Filled.{Filled}

-- "P" of a log
abbrev pub prefixes_of : ℕ → List ℕ → List ℕ → ℕ
prefixes_of k masks w = prefix_count (independent masks) (λ a. a) k w

-- the table: "forward and backward are 0 here"
abbrev pub bare_record : List ℕ → List ℕ
bare_record c = packed layout c ++ (0 ∷ 0 ∷ [])

abbrev pub bare_table : ℕ → List ℕ → List ℕ → List ℕ → List ℕ
bare_table k masks w before =
    flat_map bare_record (by_total (independent masks) (λ a. a) k w) ++ drop (record_length layout * prefixes_of k masks w) before

-- P, looks and the table after a verdict
pub record Counted (k : ℕ) (masks w before after : List ℕ) (P n : ℕ) : Type 0 where
  pub prefixes : P ≡ prefixes_of k masks w
  pub looks : n ≡ looks_of (independent masks) (λ a. a) k w
  pub table : after ≡ bare_table k masks w before

-- the table is built, or P records do not fit it
abbrev pub BuiltIs : ℕ → List ℕ → List ℕ → List ℕ → List ℕ → Result Filled Refusal → Type 0
BuiltIs k masks w before after (Err r) = (r ≡ FullTable) × (capacity layout (length before) < prefixes_of k masks w) × Spared before after
BuiltIs k masks w before after (Ok t) = Counted k masks w before after t.prefixes t.looks × (t.prefixes ≤ capacity layout (length before))
