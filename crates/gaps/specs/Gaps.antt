-- How the counts of one prefix stand to those of another: what the contracts cite.
use Rattle.std.specs.Prelude.{◌≡◌, ℕ, ◌<◌}
use Rattle.profile.specs.Prefixes.{more}
use Rattle.gaps.specs.declared.Gap.{Gap}
use Rattle.gaps.specs.declared.Gap.TheVariants.{Apart, Letter, Outside}

-- counts p and q, of letters below k: some count of p is the larger; or q is p with one letter more; or it is not
abbrev pub GapIs : ℕ → (ℕ → ℕ) → (ℕ → ℕ) → Gap → Type 0
GapIs k p q Outside = (x : ℕ) × (x < k) × (q x < p x)
GapIs k p q (Letter a) = (a < k) × ((x : ℕ) → x < k → q x ≡ more p a x)
GapIs k p q Apart = (a : ℕ) → a < k → ((x : ℕ) → x < k → q x ≡ more p a x) → ⊥
