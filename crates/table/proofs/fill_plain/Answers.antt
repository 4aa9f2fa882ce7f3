-- `table::fill_plain` meets its contract: the letters that can be added are found by the places of the events.
use borrow.Author.Rules.{rules}
use mathlib.Core.Path.{◌∙◌, ap₂}
use lib.ListN.{length}
use Rattle.profile.specs.Tables.{layout, packed}
use Rattle.profile.specs.Traces.{independent}
use Rattle.letters.specs.Letters.{letters_by}
use Rattle.letters.proofs.Additions.{letters_placed}
use Rattle.table.proofs.fill_plain.Goals as goal

pub fill-requires : goal.fill-requires
fill-requires c =
    let s = c in
    let e = c.place_events in
    let k = s.args.profile.now.shape.k in
    let w = s.args.log.now in record {
      sound = s.requires;
      finds = λ v h. ap₂ (λ m n. letters_by (independent m) n (length w) c.place_events.new.starts c.place_events.new.places (packed layout v)) c.of.ensures.masks c.of.ensures.k
          ∙ ap₂ (λ i q. letters_by (independent s.args.profile.now.masks.now) k (length w) i q (packed layout v)) e.ensures.0 e.ensures.1
          ∙ letters_placed (independent s.args.profile.now.masks.now) k w v _ _ s.requires.log.short s.requires.profile.relation.most h s.requires.log.apart s.requires.log.letters;
    }
