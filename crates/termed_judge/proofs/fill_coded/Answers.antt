-- `termed_judge::fill_coded` meets its contract: the letters that can be added are found by the places and turns of the events.
use mathlib.Core.Path.{sym, ap, subst₂}
use mathlib.Core.Bool.{true}
use native.Mathlib.Omega.{arith}
use lib.ListN.{length, length-map}
use Rattle.profile.specs.Automata.{lent}
use Rattle.profile.specs.Traces.{independent}
use Rattle.terms.specs.Coded.{code_letter, rules_of}
use Rattle.term_letters.specs.Letters.{letters_in_terms}
use Rattle.forward.specs.Forward.{Finds}
use Rattle.termed_judge.proofs.Finding.{finds}
use Rattle.termed_judge.proofs.fill_coded.Goals as goal

pub place_events-requires : goal.place_events-requires
place_events-requires c =
    let s = c in
    let w = s.args.codes.now in
    omega (arith, ap length s.requires.letters, length-map w code_letter, s.requires.events.short, s.requires.profile.relation.most)

pub fill-requires : goal.fill-requires
fill-requires c =
    let s = c in
    let a = s.args in
    let e = c.place_events in
    let t = c.put_turns in record {
      sound = record { profile = s.requires.profile; log = s.requires.events; place = c.capacity-room.ensures };
      finds = subst₂ (λ m n. Finds (rules_of (lent a.profile.now) true) a.codes.now (letters_in_terms (independent m) n (length a.codes.now) e.new.starts e.new.places t.new.turns))
          (sym c.of.ensures.masks) (sym c.of.ensures.k) (finds (lent a.profile.now) a.log.now a.codes.now _ _ _ _ _ _ s.requires e.ensures.0 e.ensures.1 t.ensures);
    }
