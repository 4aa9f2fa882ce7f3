-- Worked views, computed: orders, counts, records, refusals.
use mathlib.Core.Path.{◌≡◌, refl}
use mathlib.Core.List.{[], ◌∷◌}
use mathlib.Core.Option.{none, some}
use lib.ListN.{replicate}
use Rattle.profile.specs.Automata.{Profile}
use Rattle.profile.specs.Traces.{independent}
use Rattle.profile.specs.Tables.{layout, table_of}
use Rattle.profile.specs.declared.Refusal.TheVariants.{BadLetter, FullTable, LongLog, ShortBuffer, ViewBit}
use Rattle.profile.proofs.Cases.{ab, alt}
use Rattle.views.specs.Views.{reach, seen, view, view_looks, view_order, view_prefixes, view_refusal}

-- Alt, only a visible, log ba: the visible part is a, and b may stand behind it
pub sees_a : (seen 1 (1 ∷ 0 ∷ []) ≡ 0 ∷ []) × (view_order (alt ab) 1 (1 ∷ 0 ∷ []) ≡ some (0 ∷ [])) × (view_prefixes (alt ab) 1 (1 ∷ 0 ∷ []) ≡ 2) × (view_looks (alt ab) 1 (1 ∷ 0 ∷ []) ≡ 1)
unfolding reach
sees_a = (refl, refl, refl, refl)

-- its records: forward and backward of the empty prefix and of a
pub records_a : table_of layout (independent ab) (λ a. a) (view (alt ab) 1) 2 (0 ∷ []) [] ≡
    0 ∷ 0 ∷ 0 ∷ 0 ∷ 0 ∷ 0 ∷ 0 ∷ 0 ∷ 1 ∷ 3 ∷ 1 ∷ 0 ∷ 0 ∷ 0 ∷ 0 ∷ 0 ∷ 0 ∷ 0 ∷ 3 ∷ 3 ∷ []
unfolding reach
records_a = refl

-- only b visible, log bb: a stands before each; M3 is bab, and of it nothing is visible, or all
pub sees_others : (view_order (alt ab) 2 (1 ∷ 1 ∷ []) ≡ some (1 ∷ 1 ∷ [])) × (view_order (alt ab) 0 (1 ∷ 0 ∷ 1 ∷ []) ≡ some []) × (view_order (alt ab) 3 (1 ∷ 0 ∷ 1 ∷ []) ≡ none)
unfolding reach
sees_others = (refl, refl, refl)

-- the one course is bac; a, b exchangeable, and c with none; log acb. Hidden, c holds a and b not apart; visible, it does
abbrev bac : Profile
bac = record { k = 3; masks = 2 ∷ 1 ∷ 0 ∷ []; s = 4; start = 0; finals = 8; moves = 0 ∷ 2 ∷ 0 ∷ 4 ∷ 0 ∷ 0 ∷ 0 ∷ 0 ∷ 8 ∷ 0 ∷ 0 ∷ 0 ∷ [] }

pub not_apart : (view_order bac 3 (0 ∷ 2 ∷ 1 ∷ []) ≡ some (1 ∷ 0 ∷ [])) × (view_order bac 7 (0 ∷ 2 ∷ 1 ∷ []) ≡ none)
unfolding reach
not_apart = (refl, refl)

-- 20 before 7 and 8, which look at the whole log; 8 tells the place in it; 9 and 10 by the visible part
pub refused : (view_refusal (alt ab) 4 (5 ∷ []) 0 0 ≡ some ViewBit) × (view_refusal (alt ab) 0 (replicate 4001 0) 0 0 ≡ some LongLog) × (view_refusal (alt ab) 1 (1 ∷ 1 ∷ 5 ∷ []) 0 0 ≡ some (BadLetter 2))
    × (view_refusal (alt ab) 1 (1 ∷ 0 ∷ []) 0 20 ≡ some ShortBuffer) × (view_refusal (alt ab) 1 (1 ∷ 0 ∷ []) 1 20 ≡ none) × (view_refusal (alt ab) 1 (1 ∷ 0 ∷ []) 1 19 ≡ some FullTable)
refused = (refl, refl, refl, refl, refl, refl)
