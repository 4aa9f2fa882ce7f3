-- The table that is built is one for the second table.
use mathlib.Core.Path.{◌≡◌, sym, ◌∙◌, ap}
use mathlib.Core.List.{List}
use mathlib.Core.Option.{none}
use Prim.Native.Nat.{ℕ, ◌*◌, ◌≤◌}
use native.Mathlib.Omega.{arith}
use mir.Syntax.{w64}
use mir.Val.{Fits}
use lib.ListN.{drop, length, length-append}
use Rattle.profile.specs.Limits.{most_records}
use Rattle.profile.specs.Lists.{flat_map}
use Rattle.profile.specs.Traces.{independent}
use Rattle.profile.specs.Prefixes.{by_total}
use Rattle.profile.specs.Tables.{capacity, layout, record_length}
use Rattle.profile.specs.Refusals.{log_refusals, lowest, relation_refusals}
use Rattle.theory.proofs.Levels.{by_total_length}
use Rattle.theory.proofs.Refusals.{log_at, relation_at}
use Rattle.records.proofs.Drafts.{counts_of_draft, drafts_length}
use Rattle.pairs.specs.Settings.{Setting}
use Rattle.pairs.proofs.Squares.{small_square}
use Rattle.bare.specs.Bare.{Counted, bare_record, prefixes_of}

pub room_few : (n P : ℕ) → P ≤ capacity layout n → P ≤ most_records
room_few n P h = omega arith

pub square_fits : (n P : ℕ) → P ≤ capacity layout n → P * P ≤ most_records * most_records
square_fits n P h = small_square P (room_few n P h)

pub setting_of : (k : ℕ) (masks w before after : List ℕ) (P n : ℕ) → lowest (relation_refusals k masks) ≡ none → lowest (log_refusals k w) ≡ none
    → Counted k masks w before after P n → P ≤ capacity layout (length before) → Setting k masks w after P
setting_of k masks w before after P n good log c h =
    let C = by_total (independent masks) (λ a. a) k w in
    let rest = drop (record_length layout * prefixes_of k masks w) before in
    let many : P ≡ length C = c.prefixes ∙ sym (by_total_length (independent masks) (λ a. a) k w (log_at k w log).letters) in
    record {
      relation = relation_at k masks good;
      log = log_at k w log;
      whole = many;
      few = room_few (length before) P h;
      fits = omega (arith, many, ap length c.table, length-append (flat_map bare_record C) rest, drafts_length (λ x. 0) (λ x. 0) C);
      held = λ j lt. counts_of_draft (λ x. 0) (λ x. 0) C after rest c.table j (omega (arith, many));
    }

pub fits_of : (m : ℕ) → m ≤ most_records * most_records → Fits w64 m
fits_of m h = omega arith
