-- Paper 10: the answer over a filled table, with P prefixes and n looks.
use Rattle.std.specs.Prelude.{Result, Ok, Err, ◌≡◌, List, ℕ, ◌*◌, ◌≤◌, ◌<◌, length}
use Rattle.std.proofs.Math.Option.{none}
use Rattle.profile.specs.Rules.{Rules, order_by}
use Rattle.profile.specs.declared.Refusal.{Refusal}
use Rattle.profile.specs.declared.Refusal.TheVariants.{ShortCosts}
use Rattle.closestanswer.specs.Answers.{Close}
use Rattle.closestanswer.specs.declared.Closest.{Closest}
use Rattle.closestanswer.specs.declared.Closest.TheVariants.{NoOrder, Order}

abbrev pub answered : Rules → List ℕ → ℕ → ℕ → ℕ → List ℕ → List ℕ → List ℕ → List ℕ → Result Closest Refusal → Type 0
answered p w B P n order order' costs costs' (Err r) = (length costs < P * p.profile.s) × (r ≡ ShortCosts) × (order' ≡ order) × (costs' ≡ costs)
answered p w B P n order order' costs costs' (Ok (NoOrder Q m)) = (P * p.profile.s ≤ length costs) × (Q ≡ P) × (m ≡ n) × (order_by p w ≡ none) × (order' ≡ order)
answered p w B P n order order' costs costs' (Ok (Order Q m c f)) = (P * p.profile.s ≤ length costs) × (Q ≡ P) × (m ≡ n) × Close p w B order order' c f
