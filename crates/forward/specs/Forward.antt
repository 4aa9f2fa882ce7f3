-- Document 01, "Prefixes and their table": the forward pass, which puts the record of each prefix, one total after the other. While the table is built the
-- last number of a record has the letters that can be added, and those of which one can be taken away.
use Rattle.std.specs.Prelude.{Option, Some, None, ◌≡◌, List, ◌++◌, ℕ, ◌*◌, ◌≤◌, ◌<◌, drop}
use Rattle.profile.specs.Limits.{most_records}
use Rattle.profile.specs.Rules.{Rules, looks_by, prefixes_by}
use Rattle.profile.specs.Prefixes.{IsPrefix, additions, at}
use Rattle.profile.specs.Tables.{layout, packed, record_length}
use Rattle.theory.proofs.Refusals.{GoodEvents, GoodProfile}
use Rattle.forward.specs.declared.Filled.{Filled}
use Rattle.records.specs.Drafts.{drafted, in_order}

-- the letters found for the numbers of counts of each prefix of the events w are those that can be added to it
abbrev pub Finds : Rules → List ℕ → (List ℕ → List ℕ) → Type 0
Finds p w found = (c : List ℕ) → IsPrefix p.may p.letter w (at c) → found (packed layout c) ≡ additions p.may p.letter p.profile.k w c

-- a good profile and log, a table of n numbers that `room` records fit, and letters found that are those which can be added to a prefix
pub record Ready (p : Rules) (w : List ℕ) (n room : ℕ) (found : List ℕ → List ℕ) : Type 0 where
  pub profile : GoodProfile p.profile
  pub log : GoodEvents p w
  pub fits : record_length layout * room ≤ n
  pub few : room ≤ most_records
  pub finds : Finds p w found

-- the table `before` became `after`: it holds the records of all prefixes, or these do not fit
abbrev pub Forward : Rules → List ℕ → ℕ → List ℕ → List ℕ → Option Filled → Type 0
Forward p w room before after None = room < prefixes_by p w
Forward p w room before after (Some f) =
    (f.records ≡ prefixes_by p w)
    × (f.records ≤ room)
    × (f.looks ≡ looks_by p w)
    × (after ≡ drafted p w (in_order p w) ++ drop (record_length layout * f.records) before)
