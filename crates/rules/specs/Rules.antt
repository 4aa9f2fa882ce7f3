-- What a rule gives its name, by its digits: the definition that the contract cites.
use Rattle.std.specs.Prelude.{◌≡◌, ℕ, ◌<◌}
use Rattle.grammars.specs.Grammars.{first_of, kind_of, letter_of, second_of}
use Rattle.rules.specs.declared.Rule.{Rule}
use Rattle.rules.specs.declared.Rule.TheVariants.{Letter, Names, Neither}

abbrev pub RuleIs : ℕ → Rule → Type 0
RuleIs x (Letter a) = (kind_of x ≡ 0) × (a ≡ letter_of x)
RuleIs x (Names l r) = (kind_of x ≡ 1) × (l ≡ first_of x) × (r ≡ second_of x)
RuleIs x Neither = 1 < kind_of x
