-- Admitted logs, computed: Alt on ba.
use mathlib.Core.Path.{◌≡◌, refl}
use mathlib.Core.Bool.{true, false}
use mathlib.Core.List.{[], ◌∷◌}
use Rattle.profile.specs.Refusals.{judge_refusals}
use Rattle.profile.proofs.Cases.{ab, alt}
use Rattle.demands.specs.Admitted.{admitted?}

-- with 39 numbers of table it is refused by 10, and admitted; with one place for the order it is not, by 9, nor where a letter is out of range, by 8
pub admitted_alt : (admitted? (judge_refusals (alt ab) (1 ∷ 0 ∷ []) 2 40) ≡ true) × (admitted? (judge_refusals (alt ab) (1 ∷ 0 ∷ []) 2 39) ≡ true)
    × (admitted? (judge_refusals (alt ab) (1 ∷ 0 ∷ []) 1 40) ≡ false) × (admitted? (judge_refusals (alt ab) (1 ∷ 2 ∷ []) 2 40) ≡ false)
admitted_alt = (refl, refl, refl, refl)
