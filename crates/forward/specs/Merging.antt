-- Between one total and the next, for the functions that the forward pass is made of: a total is put record by record, by a merge of the total before it.
use Rattle.std.specs.Prelude.{Option, Some, None, ◌≡◌, List, [], ◌++◌, ℕ, suc, ◌+◌, ◌-◌, ◌*◌, ◌≤◌, ◌<◌, length, get_or, take, drop}
use Rattle.std.proofs.Math.Option.{none, some}
use Rattle.profile.specs.Limits.{most_letters}
use Rattle.profile.specs.Automata.{Profile}
use Rattle.profile.specs.Rules.{Rules}
use Rattle.profile.specs.Lists.{below, flat_map}
use Rattle.profile.specs.Prefixes.{at}
use Rattle.profile.specs.Tables.{layout, record_length}
use Rattle.theory.proofs.Looks.{pairs_in}
use Rattle.theory.proofs.Merge.{Cursor, extends?}
use Rattle.counts.specs.Counts.{words}
use Rattle.counts.specs.declared.Counts.{Counts}
use Rattle.cursors.specs.Cursors.{advanced}
use Rattle.merge.specs.declared.Handed.{Handed}
use Rattle.merge.specs.Merge.{givers, inherited, least_of, passing, united}
use Rattle.forward.specs.declared.Part.{Part}
use Rattle.forward.specs.Forward.{Ready}
use Rattle.records.specs.Drafts.{drafted, letters_of, of_total}

module _ (p : Rules) (w : List ℕ) where
  abbrev pub totals : ℕ → List (List ℕ)
  totals t = flat_map (of_total p w) (below t)

  -- the pairs of counts in C and a letter that can be added to them
  abbrev pub pairs : List (List ℕ) → ℕ
  pairs C = pairs_in p.may p.letter p.profile.k w C

  -- a table that begins with the records of C and is t behind them
  abbrev pub begun : List (List ℕ) → List ℕ → List ℕ
  begun C t = drafted p w C ++ drop (record_length layout * length C) t

-- the records of the table from record a on and before record b
abbrev pub records_between : List ℕ → ℕ → ℕ → List ℕ
records_between t a b = take (record_length layout * b - record_length layout * a) (drop (record_length layout * a) t)

-- the totals up to t are put: the records of total t begin at record `from` and end before record `first`; the same of a part of a table that is ready
pub record Begun (p : Rules) (w table : List ℕ) (room t from first : ℕ) : Type 0 where
  pub before : from ≡ length (totals p w t)
  pub behind : first ≡ from + length (of_total p w t)
  pub inside : first ≤ room
  pub written : table ≡ begun p w (totals p w (suc t)) table

abbrev pub Standing : Rules → List ℕ → List ℕ → ℕ → Part → (List ℕ → List ℕ) → Type 0
Standing p w table room a found = Ready p w (length table) room found × Begun p w table room a.t a.from a.first

-- total t + 1 is put behind them, or does not fit
abbrev pub Grows : Rules → List ℕ → ℕ → ℕ → ℕ → List ℕ → List ℕ → Option (ℕ × ℕ) → Type 0
Grows p w room t first before after None = room < first + length (of_total p w (suc t))
Grows p w room t first before after (Some m) =
    (m.0 ≡ length (of_total p w (suc t)))
    × (first + m.0 ≤ room)
    × (m.1 ≡ pairs p w (of_total p w (suc t)))
    × (after ≡ begun p w (totals p w (suc (suc t))) before)

-- each cursor stands where the first j prefixes of total t + 1 have come
abbrev pub Placed : Rules → List ℕ → ℕ → ℕ → List ℕ → Type 0
Placed p w t j cursors =
    (x : ℕ) → x < p.profile.k → Cursor (of_total p w t) (extends? p.may p.letter w) x (drop j (of_total p w (suc t))) (at cursors x)

-- the first j records of total t + 1 are put; the same behind a part of a table that is ready
pub record Merging (p : Rules) (w table : List ℕ) (room t from first j : ℕ) (cursors : List ℕ) : Type 0 where
  pub before : from ≡ length (totals p w t)
  pub behind : first ≡ from + length (of_total p w t)
  pub inside : first + j ≤ room
  pub come : j ≤ length (of_total p w (suc t))
  pub written : table ≡ begun p w (totals p w (suc t) ++ take j (of_total p w (suc t))) table
  pub long : most_letters ≤ length cursors
  pub placed : Placed p w t j cursors

abbrev pub Halfway : Rules → List ℕ → List ℕ → ℕ → Part → ℕ → List ℕ → (List ℕ → List ℕ) → Type 0
Halfway p w table room a j cursors found = Ready p w (length table) room found × Merging p w table room a.t a.from a.first j cursors

-- record j of total t + 1 is put, or there is none, or it does not fit
abbrev pub Steps : Rules → List ℕ → ℕ → ℕ → ℕ → ℕ → List ℕ → List ℕ → List ℕ → Option (Option ℕ) → Type 0
Steps p w room t first j before after cursors (Some None) = (j ≡ length (of_total p w (suc t))) × (after ≡ before)
Steps p w room t first j before after cursors None = room < first + length (of_total p w (suc t))
Steps p w room t first j before after cursors (Some (Some n)) =
    (first + j < room)
    × (j < length (of_total p w (suc t)))
    × (n ≡ length (letters_of p w (get_or (of_total p w (suc t)) j [])))
    × (after ≡ begun p w (totals p w (suc t) ++ take (suc j) (of_total p w (suc t))) before)
    × Placed p w t (suc j) cursors

-- the counts that come next by the cursors, the letters of these, and what the records there hand on; the cursors move on
abbrev pub Comes : Profile → List ℕ → List ℕ → List ℕ → Option (Counts × ℕ × Handed) → Type 0
Comes p t before after None = least_of t p.k before ≡ none
Comes p t before after (Some n) =
    (least_of t p.k before ≡ some (words n.0))
    × (n.2.forward ≡ united p.k p.s p.moves t before (givers t p.k before))
    × (n.2.letters ≡ inherited p.k t before (givers t p.k before))
    × (n.2.passed ≡ passing p.k p.masks (givers t p.k before))
    × (after ≡ advanced p.k t before (givers t p.k before))
    × (n.1 ≡ givers t p.k before)
