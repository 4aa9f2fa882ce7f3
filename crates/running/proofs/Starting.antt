-- The record of the empty prefix, put as the first.
use mathlib.Core.Path.{◌≡◌, sym, ◌∙◌, ap, ap₂}
use mathlib.Core.List.{List, [], ◌∷◌, ◌++◌}
use Prim.Native.Nat.{ℕ, ◌^◌, ◌≤◌}
use native.Mathlib.Omega.{arith}
use lib.Bits.{or_zero_r}
use lib.ListN.{length, replicate}
use Rattle.profile.specs.Traces.{independent}
use Rattle.profile.specs.Automata.{Profile}
use Rattle.profile.specs.Tables.{layout, packed}
use Rattle.theory.proofs.Packing.{packed_length, packed_zero}
use Rattle.records.specs.Records.{last_at, put_record}
use Rattle.arrival.specs.Arrival.{put_numbers}
use Rattle.arrival.proofs.Arrivals.{all_none}
use Rattle.arrival.proofs.Tables.{put_kept}
use Rattle.running.specs.Running.{start_table}

pub first_put : (p : Profile) (t v : List ℕ) (f last : ℕ) → v ≡ packed layout [] → f ≡ 2 ^ p.start → last ≡ last_at t 0 → 10 ≤ length t
    → put_record t 0 (v ++ (f ∷ last ∷ [])) ≡ start_table p t
first_put p t v f last ev ef el h =
    let w : packed layout [] ≡ packed layout (replicate p.k 0) = sym (ap (packed layout) (all_none (independent p.masks) p.k) ∙ packed_zero layout p.k) in
    ap (λ n. put_record t 0 (v ++ (f ∷ n ∷ []))) el ∙ put_kept t v 0 f (ap length ev ∙ packed_length layout []) (omega (arith, h))
    ∙ ap₂ (λ u x. put_numbers t 0 (u ++ (x ∷ []))) (ev ∙ w) (ef ∙ sym (or_zero_r (2 ^ p.start)))

-- equal parts make equal records
pub put_parts : (t : List ℕ) (j : ℕ) {v v' : List ℕ} {f f' n n' : ℕ} → v ≡ v' → f ≡ f' → n ≡ n' → put_record t j (v ++ (f ∷ n ∷ [])) ≡ put_record t j (v' ++ (f' ∷ n' ∷ []))
put_parts t j {v} {v'} {f} {f'} {n} {n'} a b c =
    ap (λ u. put_record t j (u ++ (f ∷ n ∷ []))) a ∙ ap₂ (λ x y. put_record t j (v' ++ (x ∷ y ∷ []))) b c
