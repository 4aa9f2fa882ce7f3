-- A record that has the counts that are sought stands whole in the table.
use mathlib.Core.Path.{◌≡◌, sym, ◌∙◌, subst}
use mathlib.Core.Bool.{Bool, true, ◌&&◌}
use mathlib.Core.List.{List}
use Prim.Native.Nat.{ℕ, ◌+◌, ◌*◌, ◌≤◌}
use native.Mathlib.Omega.{arith}
use lib.Dec.{T, ltb, ltb→lt}
use lib.ListN.{length}
use Rattle.profile.specs.Tables.{layout, record_length}
use Rattle.profile.proofs.Lists.{fst_of}
use Rattle.records.specs.Records.{records_in}
use Rattle.search.specs.Search.{has?}

pub stands_whole : (t c : List ℕ) (j : ℕ) (b : Bool) → b ≡ (ltb j (records_in t) && has? t c j) → b ≡ true → record_length layout * j + record_length layout ≤ length t
stands_whole t c j b e q = omega (arith, ltb→lt j (records_in t) (fst_of (ltb j (records_in t)) (has? t c j) (subst T (sym q ∙ e) tt)))
