-- By the places and turns of its events, the letters that can be added to each prefix of a coded log are found.
use mathlib.Core.Path.{◌≡◌, ◌∙◌, ap, ap₂}
use mathlib.Core.Bool.{true}
use mathlib.Core.List.{List, ◌++◌, map}
use Prim.Native.Nat.{ℕ}
use lib.ListN.{length}
use Rattle.profile.specs.Automata.{Profile}
use Rattle.profile.specs.Lists.{below}
use Rattle.profile.specs.Tables.{layout, packed}
use Rattle.profile.specs.Traces.{independent}
use Rattle.places.specs.Places.{place_start, place_table}
use Rattle.terms.specs.Coded.{code_letter, rules_of}
use Rattle.turns.specs.Turns.{turn_table}
use Rattle.term_letters.specs.Letters.{letters_in_terms}
use Rattle.term_letters.proofs.Terms.{letters_coded}
use Rattle.forward.specs.Forward.{Finds}
use Rattle.termed_judge.specs.CodedCalls.{CodedCall}

pub finds : (p : Profile) (log codes starts places turns s q u : List ℕ) → CodedCall p log codes → starts ≡ map (place_start log) (below p.k) ++ s
    → places ≡ place_table p.k log ++ q → turns ≡ turn_table p.k codes ++ u
    → Finds (rules_of p true) codes (letters_in_terms (independent p.masks) p.k (length codes) starts places turns)
finds p log codes starts places turns s q u c es ep et v h =
    ap₂ (λ a b. letters_in_terms (independent p.masks) p.k (length codes) a b turns (packed layout v))
    (es ∙ ap (λ l. map (place_start l) (below p.k) ++ s) c.letters) (ep ∙ ap (λ l. place_table p.k l ++ q) c.letters)
    ∙ ap (λ t. letters_in_terms (independent p.masks) p.k (length codes) (map (place_start (map code_letter codes)) (below p.k) ++ s) (place_table p.k (map code_letter codes) ++ q) t (packed layout v)) et
    ∙ letters_coded p.masks c.profile.relation.own p.k codes v s q u c.events.short c.profile.relation.most c.events.letters c.terms h
