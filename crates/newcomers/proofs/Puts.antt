-- What putting one record tells.
use mathlib.Core.Path.{◌≡◌, ◌∙◌, ap, ap₂, subst}
use mathlib.Core.List.{List, [], ◌∷◌, ◌++◌}
use Prim.Native.Nat.{ℕ}
use Rattle.profile.specs.Automata.{Profile}
use Rattle.profile.specs.Tables.{layout}
use Rattle.counts.specs.Counts.{add_count}
use Rattle.records.specs.Records.{counts_at, last_at, put_record}
use Rattle.newcomers.specs.Newcomers.{Moved, Put, led_from}

module _ (p : Profile) {first i r a : ℕ} {t t' places places' : List ℕ} where
  pub put_made : {v : List ℕ} {f n : ℕ} → v ≡ add_count layout (counts_at t r) a → f ≡ led_from p.k p.s p.moves t places' → n ≡ last_at t i
      → Moved t first i r a p.k v places places' → t' ≡ put_record t i (v ++ (f ∷ n ∷ [])) → Put p first i r a t t' places places'
  put_made {v} {f} {n} e q z m h = record {
    moved = subst (λ u. Moved t first i r a p.k u places places') e m;
    put = h ∙ (ap (λ u. put_record t i (u ++ (f ∷ n ∷ []))) e ∙ ap₂ (λ x y. put_record t i (add_count layout (counts_at t r) a ++ (x ∷ y ∷ []))) q z);
  }
