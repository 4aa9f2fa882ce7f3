-- Which refusal a table that is too small or large enough gets, and the table that the two passes leave.
use mathlib.Core.Path.{◌≡◌, refl, sym, ◌∙◌, ap, subst}
use mathlib.Core.Bool.{Bool}
use Rattle.std.specs.Prelude.{Result, Ok, Err, Some, None}
use mathlib.Core.List.{List, [], ◌∷◌, ◌++◌, append_assoc}
use mathlib.Core.Option.{none, some}
use Prim.Native.Nat.{ℕ, ◌+◌, ◌-◌, ◌*◌, ◌≤◌}
use native.Mathlib.Omega.{arith}
use borrow.Author.Tests.{lt-ltb, le-ltb}
use lib.ListN.{drop, length, length-append, length-drop, take, take-append-drop}
use lib.Seq.{drop-append-add, drop-append-le, drop_at, drop-drop, length-take-le}
use Rattle.profile.specs.Automata.{Profile}
use Rattle.profile.specs.Rules.{Rules, plain, prefixes_by}
use Rattle.profile.specs.Tables.{capacity, layout, record_length}
use Rattle.profile.specs.Refusals.{full_table, log_refusals, lowest, profile_refusals}
use Rattle.profile.specs.declared.Refusal.{Refusal}
use Rattle.profile.specs.declared.Refusal.TheVariants.{FullTable}
use Rattle.theory.proofs.Levels.{by_total_length}
use Rattle.theory.proofs.Refusals.{log_at, lowest_append, lowest_first, plain_events, profile_at}
use Rattle.profile.proofs.Lists.{flat_map_length}
use Rattle.forward.specs.Forward.{Forward}
use Rattle.forward.specs.declared.Filled.{Filled as Pass}
use Rattle.backward.specs.Backward.{Drafted}
use Rattle.table.specs.Table.{Fills, Promise, Sound, Spared, build_refusals, usable}
use Rattle.table.specs.declared.Filled.{Filled}
use Rattle.records.specs.Drafts.{backward_set, draft, drafted, filled, forward_set, in_order, letters_set}

-- a list that begins with a is a and what it has behind it
pub behind_own : (a b l : List ℕ) (n : ℕ) → length a ≡ n → l ≡ a ++ b → l ≡ a ++ drop n l
behind_own a b l n e q = q ∙ ap (λ r. a ++ r) (sym (ap (drop n) q ∙ drop_at a b n e))

-- a list put in the place of the first z numbers, where all behind the first m stays, with m at most z: all behind the first m stays
behind_part : (a part t : List ℕ) (z m : ℕ) → m ≤ length (take z t) → part ≡ a ++ drop m (take z t) → part ++ drop z t ≡ a ++ drop m t
behind_part a part t z m h q =
    ap (λ l. l ++ drop z t) q ∙ append_assoc a (drop m (take z t)) (drop z t)
    ∙ ap (λ l. a ++ l) (sym (drop-append-le m (take z t) (drop z t) h) ∙ ap (drop m) (take-append-drop z t))

-- a list put in the place of the usable numbers leaves the unused ones
pub spared_part : (part t : List ℕ) (z : ℕ) → z ≡ usable (length t) → length part ≡ z → Spared t (part ++ drop z t)
spared_part part t z e l = record { long = long; rest = ap (λ n. drop (usable n) (part ++ drop z t)) long ∙ ap (λ n. drop n (part ++ drop z t)) (sym e) ∙ drop_at part (drop z t) z l ∙ ap (λ n. drop n t) e }
  where
    long : length (part ++ drop z t) ≡ length t
    long = omega (arith, length-append part (drop z t), length-drop z t, l, e)

-- so does a list put in the place of as many numbers, where these are usable
pub spared_front : (a t : List ℕ) (m : ℕ) → length a ≡ m → m ≤ usable (length t) → Spared t (a ++ drop m t)
spared_front a t m l h = record {
  long = long;
  rest = ap (λ n. drop (usable n) (a ++ drop m t)) long ∙ ap (λ n. drop n (a ++ drop m t)) split ∙ drop-append-add a (drop m t) (usable (length t) - m)
      ∙ drop-drop (usable (length t) - m) m t ∙ ap (λ n. drop n t) joined;
}
  where
    long : length (a ++ drop m t) ≡ length t
    long = omega (arith, length-append a (drop m t), length-drop m t, l, h)

    split : usable (length t) ≡ length a + (usable (length t) - m)
    split = omega (arith, l, h)

    joined : m + (usable (length t) - m) ≡ usable (length t)
    joined = omega (arith, h)

-- the table as it was
pub spared_same : (t : List ℕ) → Spared t t
spared_same t = record { long = refl; rest = refl }

-- ---- the two passes

module _ (p : Rules) (w before : List ℕ) {room : ℕ} (s : Sound p w (length before) room) where
  -- the forward pass was lent the usable numbers: `part` is what it left in them
  module _ (z : ℕ) (e : z ≡ record_length layout * room) (part : List ℕ) (kept : length part ≡ length (take z before)) where
    long : length (take z before) ≡ z
    long = length-take-le z before (omega (arith, s.place))

    pub whole_length : length (part ++ drop z before) ≡ length before
    whole_length = (spared_part part before z (e ∙ ap (λ n. record_length layout * n) s.place) (kept ∙ long)).long

    -- the records do not fit
    pub full : Forward p w room (take z before) part None → Fills p w before (part ++ drop z before) (Err FullTable)
    full h = record { answer = (refl, rw s.place at h); table = (λ ne. absurd (ne refl), spared_part part before z (e ∙ ap (λ n. record_length layout * n) s.place) (kept ∙ long)) }

    -- they fit, and stand in the whole table as in its usable part
    pub whole : (f : Pass) → Forward p w room (take z before) part (Some f) → Forward p w room before (part ++ drop z before) (Some f)
    whole f h = (h.0, h.1, h.2, behind_part (drafted p w (in_order p w)) part before z (record_length layout * f.records) (omega (arith, long, h.1)) h.3)

  module _ (f : Pass) (after : List ℕ) (h : Forward p w room before after (Some f)) (kept : length after ≡ length before) where
    -- the drafted records have 10 × P numbers
    drafts : length (drafted p w (in_order p w)) ≡ record_length layout * f.records
    drafts = flat_map_length (draft (forward_set p w) (letters_set p w)) (record_length layout) (λ c. refl) (in_order p w)
        ∙ ap (λ m. record_length layout * m) (by_total_length p.may p.letter p.profile.k w s.log.letters ∙ sym h.0)

    -- what the backward pass asks
    pub ready : Drafted p w after f.records
    ready = record {
      profile = s.profile;
      log = s.log;
      whole = h.0;
      fits = omega (arith, h.1, s.place);
      written = behind_own (drafted p w (in_order p w)) (drop (record_length layout * f.records) before) after (record_length layout * f.records) drafts h.3;
    }

    -- what it leaves
    pub done : (last : List ℕ) → last ≡ filled p w (in_order p w) ++ drop (record_length layout * f.records) after → Fills p w before last (Ok record { prefixes = f.records; looks = f.looks })
    done last e = record {
      answer = let le : prefixes_by p w ≤ room = omega (arith, h.0, h.1) in rw s.place at le;
      table = (
        h.0,
        h.2,
        holds,
        subst (Spared before) (sym holds) (spared_front (filled p w (in_order p w)) before (record_length layout * prefixes_by p w) many (omega (arith, h.0, h.1, s.place))),
      );
    }
      where
        same : drop (record_length layout * f.records) after ≡ drop (record_length layout * f.records) before
        same = ap (drop (record_length layout * f.records)) h.3 ∙ drop_at (drafted p w (in_order p w)) (drop (record_length layout * f.records) before) (record_length layout * f.records) drafts

        holds : last ≡ filled p w (in_order p w) ++ drop (record_length layout * prefixes_by p w) before
        holds = e ∙ ap (λ t. filled p w (in_order p w) ++ t) (same ∙ ap (λ m. drop (record_length layout * m) before) h.0)

        many : length (filled p w (in_order p w)) ≡ record_length layout * prefixes_by p w
        many = flat_map_length (draft (forward_set p w) (backward_set p w)) (record_length layout) (λ c. refl) (in_order p w)
            ∙ ap (λ m. record_length layout * m) (by_total_length p.may p.letter p.profile.k w s.log.letters)

-- ---- the checks

-- the condition of 10
abbrev tenth : Profile → List ℕ → ℕ → List (Bool × Refusal)
tenth p w m = (full_table (prefixes_by (plain p) w) m, FullTable) ∷ []

-- neither profile nor log is refused: what filling answers is the answer
module _ (p : Profile) (w before after : List ℕ) (e : lowest (profile_refusals p) ≡ none) (q : lowest (log_refusals p.k w) ≡ none) where
  behind : lowest (build_refusals p w (length before)) ≡ lowest (tenth p w (length before))
  behind = lowest_append (profile_refusals p) (log_refusals p.k w ++ tenth p w (length before)) e ∙ lowest_append (log_refusals p.k w) (tenth p w (length before)) q

  pub answered : (r : Result Filled Refusal) → Fills (plain p) w before after r → Promise p w before after r
  answered (Err r) h = record {
    refused = sym (behind ∙ (rw (lt-ltb (capacity layout (length before)) (prefixes_by (plain p) w) h.answer.1, lowest)) ∙ ap some (sym h.answer.0));
    table = h.table;
  }
  answered (Ok t) h = record {
    refused = sym (behind ∙ rw (le-ltb (capacity layout (length before)) (prefixes_by (plain p) w) h.answer, lowest));
    table = h.table;
  }

-- the profile is refused
pub profile_refused : (p : Profile) (w before : List ℕ) (r : Refusal) → lowest (profile_refusals p) ≡ some r → Promise p w before before (Err r)
profile_refused p w before r e = record { refused = sym (lowest_first (profile_refusals p) (log_refusals p.k w ++ tenth p w (length before)) e); table = (λ ne. refl, spared_same before) }

-- the profile is good, and the log is refused
pub log_refused : (p : Profile) (w before : List ℕ) (r : Refusal) → lowest (profile_refusals p) ≡ none → lowest (log_refusals p.k w) ≡ some r → Promise p w before before (Err r)
log_refused p w before r e q = record { refused = sym (lowest_append (profile_refusals p) (log_refusals p.k w ++ tenth p w (length before)) e ∙ lowest_first (log_refusals p.k w) (tenth p w (length before)) q); table = (λ ne. refl, spared_same before) }

-- neither is refused
pub sound : (p : Profile) (w : List ℕ) (m room : ℕ) → lowest (profile_refusals p) ≡ none → lowest (log_refusals p.k w) ≡ none → room ≡ capacity layout m → Sound (plain p) w m room
sound p w m room e q h = record { profile = profile_at p e; log = plain_events p w (profile_at p e) (log_at p.k w q); place = h }
