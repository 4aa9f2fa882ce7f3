-- Paper 11 over the numbers of `fumarehi_ceiling` and `fumarehi_judge`: "P never exceeds it", and a table of that many records is long enough.
use Rattle.std.specs.Prelude.{Result, Ok, Err}
use mathlib.Core.Path.{◌≡◌, sym, ap}
use mathlib.Core.Logic.{◌≢◌}
use mathlib.Core.List.{List, ◌∷◌}
use mathlib.Core.Option.{some}
use Prim.Native.Nat.{ℕ, ◌*◌, ◌≤◌}
use lib.ListN.{length, get_or}
use Rattle.profile.specs.Automata.{Profile}
use Rattle.profile.specs.Limits.{record_numbers, usable_numbers}
use Rattle.capi.specs.Numbers.{Judging}
use Rattle.ceiling.specs.Ceiling.{bounded_values, bounding, told_ceiling}
use Rattle.profile.specs.declared.Refusal.{Refusal}
use Rattle.ceiling_calls.specs.CeilingCalls.{Bounding}
use Rattle.within.proofs.Within.{table_suffices, within_judged}
use Rattle.call_demands.specs.Told.{prefixes_in}
use Rattle.call_demands.proofs.Numbers.{code_ten, code_zero, told_count, zero_unused}

-- where 0 is returned, the second number told is the ceiling
ceiling_in : (b : Result ℕ Refusal) (told : List ℕ) → 0 ∷ told ≡ bounded_values b → told_ceiling b ≡ some (get_or told 1 0)
ceiling_in (Ok n) told e = ap some (sym (ap (λ l. get_or l 2 0) e))
ceiling_in (Err r) told e = absurd (zero_unused r (sym (ap (λ l. get_or l 0 0) e)))

module _ (p : Profile) (w groups told : List ℕ) (bound : Bounding p.k p.masks w groups 0 told)
    (order order' table table' : List ℕ) (code : ℕ) (told' : List ℕ) (call : Judging p w order order' table table' code told') where
  -- "P never exceeds it"
  pub within_told : code ≡ 0 → prefixes_in told' ≤ get_or told 1 0
  within_told e = within_judged p w groups (get_or told 1 0) (ceiling_in (bounding p.k p.masks w groups) told bound) order order' table table' call.answer call.promise (prefixes_in told')
      (told_count call.answer code told' call.code_is call.told_is ((code_zero call.answer code told' call.code_is call.told_is).0 e))

  -- with a table of so many records, as long as the usable numbers hold them, 10 is not returned
  pub suffices_told : record_numbers * get_or told 1 0 ≤ length table → record_numbers * get_or told 1 0 ≤ usable_numbers → code ≢ 10
  suffices_told a b e =
      table_suffices p w groups (get_or told 1 0) (ceiling_in (bounding p.k p.masks w groups) told bound) order order' table table' call.answer call.promise a b
      ((code_ten call.answer code told' call.code_is call.told_is).0 e)
