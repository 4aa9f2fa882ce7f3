-- `closestorder::put_best` meets its contract.
use borrow.Author.Rules.{rules}
use Rattle.closestorder.proofs.Closing.{rows_of}
use Rattle.closestorder.proofs.put_best.Goals as goal

pub fill_rest-requires : goal.fill_rest-requires
fill_rest-requires c =
    let b = c.requires.best in
    record { masks = b.masks; may = b.may; letter = b.letter; events = b.events; lent = b.lent; room = b.room }

pub put_closest-requires : goal.put_closest-requires
put_closest-requires c =
    let b = c.requires.best in
    let f = c.fill_rest in record {
      known = record {
        masks = b.masks;
        may = b.may;
        letter = b.letter;
        events = b.events;
        lent = b.lent;
        right = rows_of b.lent b.room (f.ensures b.masks b.may b.letter b.events b.lent);
        fewest = b.fewest;
      };
      log_in_bounds = c.requires.log_in_bounds;
    }

pub returns : goal.returns
returns c = λ masks may letter w g few.
    let b = c.requires.best in
    c.put_closest.ensures masks may letter w g (rows_of g b.room (c.fill_rest.ensures masks may letter w g)) few
