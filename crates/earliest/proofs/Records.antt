-- The records of a table that holds the prefixes of a log: the prefix of each, and its numbers.
use mathlib.Core.Path.{◌≡◌, refl, sym, ◌∙◌, ap, subst}
use mathlib.Core.List.Memᴰ
use mathlib.Core.List.{List, [], map, append-nil}
use mathlib.Core.Logic.{⊎_elim, ◌≢◌}
use Prim.Native.Nat.{ℕ, ◌*◌, ◌^◌, ◌≤◌, ◌<◌}
use native.Mathlib.Omega.{arith}
use lib.Dec.{T, eqb, eqb_refl, lt→ltb, ltb}
use lib.ListN.{length, get_or, take}
use Rattle.profile.specs.Rules.{Rules}
use Rattle.profile.specs.Lists.{Mem, below}
use Rattle.profile.specs.Automata.{automaton}
use Rattle.profile.specs.Prefixes.{IsPrefix, at, backward, prefixes, total, unmarked}
use Rattle.profile.specs.Tables.{layout, record_length}
use Rattle.profile.proofs.Lists.{all_of, filter_at, filter_of, mem_place}
use Rattle.theory.proofs.Counting.{prefixes_at}
use Rattle.theory.proofs.Levels.{by_total_length}
use Rattle.theory.proofs.Merge.{level_at, level_first, level_left}
use Rattle.theory.proofs.Prefixes.{count_le}
use Rattle.theory.proofs.Profiles.{lawful}
use Rattle.theory.proofs.Refusals.{GoodEvents, GoodProfile}
use Rattle.theory.proofs.Judgement.{Chosen}
use Rattle.theory.proofs.Tables.{Holds, holds_backward, holds_find, holds_prefix, holds_rises}
use Rattle.records.specs.Drafts.{backward_set, filled, forward_set, in_order, of_total}
use Rattle.records.specs.Records.{last_at}
use Rattle.records.proofs.Drafts.{last_of_draft}
use Rattle.search.proofs.Prefixes.{counts_are, records_many, records_ordered, whole_inside, whole_part, whole_sorted}
use Rattle.costcursors.specs.Cursors.{Lists}
use Rattle.successors.specs.Successors.{Recorded}
use Rattle.earliest.specs.Earliest.{Table, record_count}

-- ---- of a profile and a log

-- the backward set of counts; what is left of w behind them
abbrev pub backward_of : Rules → List ℕ → (ℕ → ℕ) → ℕ
backward_of p w c = backward p.may p.letter (automaton p.profile) w c

abbrev pub left_of : Rules → List ℕ → (ℕ → ℕ) → List ℕ
left_of p w c = unmarked p.letter w c

-- u is chosen letter by letter from w, from the states S; R is reached and r is left
abbrev pub ChosenFrom : Rules → ℕ → List ℕ → List ℕ → ℕ → List ℕ → Type 0
ChosenFrom p S w u R r = Chosen p.may p.letter (automaton p.profile) (lawful p.profile) S w u R r

-- letters that may be exchanged are different
pub different : {p : Rules} {w t : List ℕ} → Table p w t → (a b : ℕ) → T (p.may a b) → p.letter a ≢ p.letter b
different tab = tab.log.apart

-- what the laws of such tables ask
pub held : {p : Rules} {w t : List ℕ} (tab : Table p w t) → Holds layout p.may p.letter (automaton p.profile) p.profile.k w tab.before t
held tab = record { letters = tab.log.letters; written = tab.holds }

-- ---- all records

-- the records of all prefixes, as the laws of their search ask
pub listed : (p : Rules) (w : List ℕ) → GoodProfile p.profile → GoodEvents p w → Lists (filled p w (in_order p w)) p.profile.k (in_order p w)
listed p w good log =
    let sorted = whole_sorted p w log in
    let inside = whole_inside p w log in
    let prefix : (c : List ℕ) → Mem c (in_order p w) → (length c ≡ p.profile.k) × IsPrefix p.may p.letter w (at c) =
    λ c m. prefixes_at p.may p.letter p.profile.k w c log.letters (inside c m) in
    record {
      letters = good.relation.most;
      many = records_many p w good log (in_order p w) sorted inside;
      counts = counts_are p w good log (in_order p w) sorted inside;
      long = λ c m. (prefix c m).0;
      small = λ c m. all_of (λ n. ltb n (2 ^ layout.width)) c (λ n i.
          let q = mem_place 0 i in
          lt→ltb n (2 ^ layout.width) (omega (arith, q.2, (prefix c m).1.fits q.0, count_le p.may p.letter w q.0, log.short)));
      ordered = records_ordered p w good log (in_order p w) sorted inside;
    }

-- ---- the prefixes of one total

module _ {p : Rules} {w t : List ℕ} (tab : Table p w t) where
  -- a prefix of total n has k counts, which are a prefix of w, and n is at most the length of w
  pub of_total_at : (n : ℕ) (v : List ℕ) → Mem v (of_total p w n)
      → (length v ≡ p.profile.k) × IsPrefix p.may p.letter w (at v) × (total v ≡ n) × (n ≤ length w)
  of_total_at n v m =
      let may = p.may in
      let l = level_at may p.letter p.profile.k w n v tab.log.letters m in
      (l.0, l.1, l.2, omega (arith, level_left may p.letter p.profile.k w n v tab.log.letters m))

  -- ---- the records

  -- the prefix of record j
  abbrev pub prefix_at : ℕ → List ℕ
  prefix_at j = get_or (in_order p w) j []

  pub record_of_total : (j : ℕ) → j < record_count p w → Mem (prefix_at j) (of_total p w (total (prefix_at j)))
  record_of_total j h = filter_of (λ c. eqb (total c) (total (prefix_at j))) (holds_prefix (held tab) j h) (eqb_refl (total (prefix_at j)))

  pub find_record : (n : ℕ) (v : List ℕ) → Mem v (of_total p w n) → (j : ℕ) × (j < record_count p w) × (prefix_at j ≡ v)
  find_record n v m = holds_find (held tab) v (filter_at (λ c. eqb (total c) n) (prefixes p.may p.letter p.profile.k w) m).0

  -- ---- the part of the table that has the records

  abbrev pub used : List ℕ
  used = take (record_length layout * record_count p w) t

  used_is : used ≡ filled p w (in_order p w)
  used_is = ap (take (record_length layout * record_count p w)) tab.holds ∙ whole_part p w tab.log tab.before

  pub as_many : length (in_order p w) ≡ record_count p w
  as_many = by_total_length p.may p.letter p.profile.k w tab.log.letters

  pub used_backward : (j : ℕ) → j < length (in_order p w) → last_at used j ≡ backward_of p w (at (prefix_at j))
  used_backward j h = ap (λ l. last_at l j) used_is ∙ last_of_draft (forward_set p w) (backward_set p w) (in_order p w) (filled p w (in_order p w)) [] (sym (append-nil (filled p w (in_order p w)))) j h

  pub recorded : Recorded p.may p.letter p.profile.k w used
  recorded = record {
    below_k = tab.log.letters;
    short = tab.log.short;
    apart = tab.log.apart;
    records = subst (λ l. Lists l p.profile.k (in_order p w)) (sym used_is) (listed p w tab.profile tab.log);
  }

  -- ---- the first record

  pub record_backward : (j : ℕ) → j < record_count p w → last_at t j ≡ backward_of p w (at (prefix_at j))
  record_backward j h = holds_backward (held tab) j h

  -- the empty prefix is the only one of total 0
  pub only_empty : (v : List ℕ) → Mem v (of_total p w 0) → v ≡ map (λ x. 0) (below p.profile.k)
  only_empty v m = ⊎_elim (λ e. e) (λ n. absurd (Memᴰ.not-nil n))
      (Memᴰ.cases_cons (subst (Mem v) (level_first p.may p.letter (different tab) p.profile.k w tab.log.letters) m))

  pub first_record : (0 < record_count p w) × Mem (prefix_at 0) (of_total p w 0)
  first_record =
      let zeros : List ℕ = map (λ x. 0) (below p.profile.k) in
      let empty : Mem zeros (of_total p w 0) =
      subst (Mem zeros) (sym (level_first p.may p.letter (different tab) p.profile.k w tab.log.letters)) (Memᴰ.head refl) in
      let n = find_record 0 zeros empty in
      let some : 0 < record_count p w = omega (arith, n.1) in
      let z : total (prefix_at 0) ≡ 0 = omega (arith, holds_rises (held tab) 0 n.0 (omega arith) n.1, ap total n.2, (of_total_at 0 zeros empty).2) in
      (some, subst (λ i. Mem (prefix_at 0) (of_total p w i)) z (record_of_total 0 some))
