-- The records of the prefixes that are lent, and the record of all events.
use mathlib.Core.Path.{◌≡◌, sym, ◌∙◌, ap}
use mathlib.Core.Bool.{Bool}
use mathlib.Core.List.{List, []}
use Prim.Native.Nat.{ℕ, suc, ◌-◌, ◌≤◌}
use native.Mathlib.Omega.{arith}
use lib.Dec.{T}
use lib.ListN.{length, get_or, length-map}
use Rattle.profile.specs.Automata.{Profile}
use Rattle.profile.specs.declared.Shape.{Shape}
use Rattle.profile.specs.Lists.{Mem}
use Rattle.profile.specs.Prefixes.{at, by_total, count}
use Rattle.profile.specs.Tables.{count_field, layout, packed}
use Rattle.profile.specs.Traces.{letters_below}
use Rattle.records.specs.Records.{counts_at, records_in}
use Rattle.successors.specs.Successors.{Recorded}
use Rattle.successors.proofs.More.{prefix_of}
use Rattle.costtable.specs.Costs.{Lent}
use Rattle.costtable.proofs.Lending.{counted, events_below, events_few, field_all, last_at, some_record as some_prefix}

module _ {p : Profile} {may : ℕ → ℕ → Bool} {letter : ℕ → ℕ} {w t log starts places : List ℕ} (g : Lent p may letter w t log starts places) where
  -- the numbers of the profile
  abbrev shape : Shape
  shape = record { k = p.k; s = p.s; start = p.start; finals = p.finals }

  pub below_k : T (letters_below letter p.k w)
  below_k = events_below shape p.masks p.moves may letter w t log starts places g

  pub as_many : length w ≡ length log
  as_many = sym (length-map w letter) ∙ ap length g.letters

  pub few_events : length w ≤ 4000
  few_events = events_few shape p.masks p.moves may letter w t log starts places g

  -- as the laws of the record with one letter more ask
  pub recorded : Recorded may letter p.k w t
  recorded = record { below_k = below_k; short = few_events; apart = g.apart; records = g.records }

  -- the numbers of a prefix hold its counts
  pub fields : (v : List ℕ) → Mem v (by_total may letter p.k w) → count_field layout (packed layout v) ≡ at v
  fields v m = field_all v (omega (arith, (prefix_of recorded v m).0, g.records.letters)) (g.records.small v m)

  -- ---- the last record is that of all events

  pub some_record : 1 ≤ records_in t
  some_record = omega (arith, g.records.many, some_prefix shape p.masks p.moves may letter w t log starts places g)

  pub last_counts : (i : ℕ) → suc i ≡ length (by_total may letter p.k w) → at (get_or (by_total may letter p.k w) i []) ≡ count letter w
  last_counts = last_at shape p.masks p.moves may letter w t log starts places g

  pub whole_counts : (y : ℕ) → count_field layout (counts_at t (records_in t - 1)) y ≡ count letter w y
  whole_counts y =
      let n = length (by_total may letter p.k w) in
      let e : suc (n - 1) ≡ n = omega (arith, some_record, g.records.many) in
      ap (λ i. count_field layout (counts_at t (i - 1)) y) g.records.many
      ∙ ap (λ f. f y) (counted shape p.masks p.moves may letter w t log starts places g (n - 1) (omega (arith, e)) ∙ last_counts (n - 1) e)
