-- The order of arrival on worked cases, and what is written of a record, by computation.
use mathlib.Core.Path.{◌≡◌, refl}
use mathlib.Core.List.{[], ◌∷◌, ◌++◌}
use lib.ListN.{length, replicate}
use Rattle.profile.specs.Automata.{automaton}
use Rattle.profile.specs.Tables.{layout}
use Rattle.profile.specs.Traces.{independent}
use Rattle.profile.proofs.Cases.{ab, alt}
use Rattle.arrival.specs.Arrival.{arrivals, put_written, written}

-- Alt on b, a: empty, b, a, ab; the order of Paper 5 happens to be the same. On a, b: empty, a, b, ab, which it is not
arrives_ba : arrivals (independent ab) 2 (1 ∷ 0 ∷ []) ≡ (0 ∷ 0 ∷ []) ∷ (0 ∷ 1 ∷ []) ∷ (1 ∷ 0 ∷ []) ∷ (1 ∷ 1 ∷ []) ∷ []
arrives_ba = refl

arrives_ab : arrivals (independent ab) 2 (0 ∷ 1 ∷ []) ≡ (0 ∷ 0 ∷ []) ∷ (1 ∷ 0 ∷ []) ∷ (0 ∷ 1 ∷ []) ∷ (1 ∷ 1 ∷ []) ∷ []
arrives_ab = refl

-- one way only: in ba, a may pass b (bit a of mask b) or not
arrives_one_way : arrivals (independent (0 ∷ 1 ∷ [])) 2 (1 ∷ 0 ∷ []) ≡ (0 ∷ 0 ∷ []) ∷ (0 ∷ 1 ∷ []) ∷ (1 ∷ 0 ∷ []) ∷ (1 ∷ 1 ∷ []) ∷ []
arrives_one_way = refl

arrives_other_way : arrivals (independent (2 ∷ 0 ∷ [])) 2 (1 ∷ 0 ∷ []) ≡ (0 ∷ 0 ∷ []) ∷ (0 ∷ 1 ∷ []) ∷ (1 ∷ 1 ∷ []) ∷ []
arrives_other_way = refl

-- M2, M3, M7: as many as P; M2's verdict is 1, M3's 0
p_m2 : length (arrivals (independent ab) 2 (1 ∷ 1 ∷ 0 ∷ 0 ∷ [])) ≡ 9
p_m2 = refl

p_m3 : length (arrivals (independent ab) 2 (1 ∷ 0 ∷ 1 ∷ [])) ≡ 6
p_m3 = refl

p_m7 : length (arrivals (independent (2 ∷ 1 ∷ 0 ∷ 0 ∷ [])) 4 (0 ∷ 1 ∷ 2 ∷ 1 ∷ 0 ∷ 3 ∷ [])) ≡ 9
p_m7 = refl

-- two events of one letter: the second is added only to what has the first
arrives_aa : arrivals (independent ab) 2 (0 ∷ 0 ∷ []) ≡ (0 ∷ 0 ∷ []) ∷ (1 ∷ 0 ∷ []) ∷ (2 ∷ 0 ∷ []) ∷ []
arrives_aa = refl

-- those of one event stand in the order of the records that it is added to: c after a and b, all independent
arrives_abc : arrivals (independent (6 ∷ 5 ∷ 3 ∷ [])) 3 (0 ∷ 1 ∷ 2 ∷ [])
    ≡ (0 ∷ 0 ∷ 0 ∷ []) ∷ (1 ∷ 0 ∷ 0 ∷ []) ∷ (0 ∷ 1 ∷ 0 ∷ []) ∷ (1 ∷ 1 ∷ 0 ∷ [])
    ∷ (0 ∷ 0 ∷ 1 ∷ []) ∷ (1 ∷ 0 ∷ 1 ∷ []) ∷ (0 ∷ 1 ∷ 1 ∷ []) ∷ (1 ∷ 1 ∷ 1 ∷ []) ∷ []
arrives_abc = refl

-- Alt on ba (M9): the counts of ab, and forward 1; nine numbers, and the tenth of a record stays
written_ab : written layout (independent ab) (automaton (alt ab)) (1 ∷ 0 ∷ []) (1 ∷ 1 ∷ []) ≡ 65537 ∷ (replicate 7 0 ++ (1 ∷ []))
written_ab = refl

put_ab : put_written layout (independent ab) (automaton (alt ab)) (1 ∷ 0 ∷ []) 1 ((1 ∷ 1 ∷ []) ∷ []) (replicate 22 7) ≡ replicate 10 7 ++ (65537 ∷ (replicate 7 0 ++ (1 ∷ 7 ∷ 7 ∷ 7 ∷ [])))
put_ab = refl
