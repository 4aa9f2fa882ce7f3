-- The next step of an order that can be derived: what the contracts cite.
use Rattle.std.specs.Prelude.{◌≡◌, [], ◌∷◌, ℕ, ◌<◌, T}
use Rattle.grammars.specs.Grammars.{grammar_of}
use Rattle.pairs.specs.declared.nested.Nested.{Nested}
use Rattle.pairs.specs.Pairs.{Between, Spans, total_in}
use Rattle.parts.specs.declared.Step.{Step}
use Rattle.parts.specs.declared.Step.TheVariants.{Leaf, Parts}

-- a letter at its place, or two parts that meet at a record between
abbrev pub StepIs : Nested → ℕ → ℕ → ℕ → Step → Type 0
StepIs on i j n (Leaf at a) = (at ≡ total_in on i) × Spans on i j n (a ∷ [])
StepIs on i j n (Parts p left) =
    (i < p.at)
    × (p.at < j)
    × T ((grammar_of on.grammar.rules.now).two n p.first p.second)
    × Between on i p.at p.first
    × Between on p.at j p.second
