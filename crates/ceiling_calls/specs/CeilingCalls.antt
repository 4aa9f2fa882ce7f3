-- The call for a ceiling as numbers: Paper 11.
use Rattle.std.specs.Prelude.{◌≡◌, List, ◌∷◌, ℕ}
use Rattle.ceiling.specs.Ceiling.{bounded_values, bounding}

-- the promise of a call whose answer is given as numbers: the refusal's number, or 0; place, ceiling
abbrev pub Bounding : ℕ → List ℕ → List ℕ → List ℕ → ℕ → List ℕ → Type 0
Bounding k masks w groups code told = code ∷ told ≡ bounded_values (bounding k masks w groups)
