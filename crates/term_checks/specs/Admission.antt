-- Document 02, Paper 8: the refusals of the judge with terms save 10.
use Rattle.std.specs.Prelude.{Bool, List, [], ◌∷◌, ◌++◌, ℕ}
use Rattle.profile.specs.Automata.{Profile}
use Rattle.profile.specs.Refusals.{log_refusals, profile_refusals, short_buffer}
use Rattle.profile.specs.declared.Refusal.{Refusal}
use Rattle.profile.specs.declared.Refusal.TheVariants.{ShortBuffer}
use Rattle.terms.specs.Terms.{term_refusals}

-- "admitted": none save 10; 14, 15 and 16 "follow 8 and precede 9"; with n places for the order
abbrev pub dated_admission : Profile → List ℕ → List ℕ → List ℕ → ℕ → List (Bool × Refusal)
dated_admission p w days terms n = profile_refusals p ++ (log_refusals p.k w ++ (term_refusals w days terms ++ ((short_buffer n w, ShortBuffer) ∷ [])))
