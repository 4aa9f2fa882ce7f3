-- The table on the way back: the records before record i are drafted, those from i on are done, with flags; at the end the flags are cleared.
use Rattle.std.proofs.Common.{◌≡◌, ℕ, zero, suc, ◌+◌, ◌-◌, ◌*◌, ◌/◌, ◌%◌, ◌<◌, ◌≤◌, Bool, cond, T, List, [], ◌∷◌, ◌++◌, map, length, get_or, take, drop, set, sym, refl, ap, ◌∙◌, subst, ap₂, ⊎_elim, append_assoc, append-nil, arith, length-append, length-drop, length-take-le, get_or-drop, drop-cons, get_or-take, take-suc, get_or-append-add, drop-set-lt}
use mathlib.Core.List.Memᴰ
use lib.ListN.{get_or-eq_default, get_or-append}
use lib.Seq.{drop-length, get_or-append_seam, set-append_left, take-length}
use Rattle.profile.specs.Limits.{most_letters}
use Rattle.profile.specs.Rules.{Rules}
use Rattle.profile.specs.Automata.{automaton, backward_step, union}
use Rattle.profile.specs.Lists.{Mem, below, filter, flat_map}
use Rattle.profile.specs.Prefixes.{IsPrefix, addable?, at, count, total}
use Rattle.profile.specs.Tables.{layout, packed}
use Rattle.profile.specs.Traces.{bit}
use Rattle.profile.proofs.Lists.{below_at, below_suc, filter_agree, filter_at, flat_map_append, flat_map_getd, flat_map_length, is_false, is_true, lt_or_le, mem_getd, nodup_place, test}
use Rattle.profile.proofs.Sets.{union_agree}
use Rattle.theory.proofs.Levels.{bump, by_total_length, by_total_nodup, le_total}
use Rattle.theory.proofs.Merge.{backward_level, backward_whole, level_at, level_left, level_whole}
use Rattle.theory.proofs.Prefixes.{removable?}
use Rattle.theory.proofs.Profiles.{lawful}
use Rattle.theory.proofs.Refusals.{GoodEvents, GoodProfile}
use Rattle.theory.proofs.SetLoops.{passing_bit}
use Rattle.records.specs.Records.{last_at}
use Rattle.records.specs.Drafts.{addable_set, backward_set, draft, drafted, filled, forward_set, in_order, letters_set, of_total, removable_set}
use Rattle.records.proofs.Drafts.{drafts_length}
use Rattle.records.proofs.Halves.{lower_half, upper_half}
use Rattle.backward.specs.Backward.{Drafted, Inside, back_from, clear_at, cleared, done_at, flag_before, flag_bit, flag_number, flag?, letters_at, moved, with_flags, without_flags}
use Rattle.backward.proofs.FlagBits.{flag_high, flag_low, pack_two, without_with}
use Rattle.backward.proofs.Sweep.{Child, Cursor, child_later, child_of, cursor_finds, cursor_moves, cursor_start, cursor_stays, level_of_record}

-- ---- a part v of a list, behind n others

set_behind : (X Z : List ℕ) (i z : ℕ) → set (X ++ Z) (length X + i) z ≡ X ++ set Z i z
set_behind [] Z i z = let e : 0 + i ≡ i = omega arith in ap (λ n. set Z n z) e
set_behind (a ∷ X) Z i z = let e : suc (length X) + i ≡ suc (length X + i) = omega arith in ap (λ n. set (a ∷ (X ++ Z)) n z) e ∙ ap (◌∷◌ a) (set_behind X Z i z)

module _ (X v Y : List ℕ) (n : ℕ) (l : length X ≡ n) (i : ℕ) (h : i < length v) where
  set_part : (z : ℕ) → set (X ++ (v ++ Y)) (n + i) z ≡ X ++ (set v i z ++ Y)
  set_part z = ap (λ m. set (X ++ (v ++ Y)) (m + i) z) (sym l) ∙ set_behind X (v ++ Y) i z ∙ ap (λ u. X ++ u) (set-append_left v Y i z h)

  part_at : get_or (X ++ (v ++ Y)) (n + i) 0 ≡ get_or v i 0
  part_at = ap (λ m. get_or (X ++ (v ++ Y)) (m + i) 0) (sym l) ∙ get_or-append-add X (v ++ Y) i 0 ∙ get_or-append v Y 0 i h

-- ---- one record

-- the record of c with flags
abbrev pub flagged_record : (List ℕ → ℕ) → (List ℕ → ℕ) → (List ℕ → ℕ) → List ℕ → List ℕ
flagged_record f r b c =
    take 6 (packed layout c) ++ (with_flags (get_or (packed layout c) 6 0) (r c) ∷ with_flags (get_or (packed layout c) 7 0) (r c / 256) ∷ f c ∷ b c ∷ [])

module _ (f g b r : List ℕ → ℕ) (X c Y : List ℕ) (j : ℕ) (l : length X ≡ 10 * j) where
  -- a drafted record that is done
  done_record : g c / 65536 ≡ r c → done_at (X ++ (draft f g c ++ Y)) j (b c) ≡ X ++ (flagged_record f r b c ++ Y)
  done_record e =
      let t = X ++ (draft f g c ++ Y) in
      let w6 = get_or (packed layout c) 6 0 in
      let w7 = get_or (packed layout c) 7 0 in
      let a6 : with_flags (get_or t (10 * j + 6) 0) (last_at t j / 65536) ≡ with_flags w6 (r c) = ap₂ with_flags (part_at X (draft f g c) Y (10 * j) l 6 (omega arith)) (ap (λ n. n / 65536) (part_at X (draft f g c) Y (10 * j) l 9 (omega arith)) ∙ e) in
      let a7 : with_flags (get_or t (10 * j + 7) 0) (last_at t j / 65536 / 256) ≡ with_flags w7 (r c / 256) = ap₂ with_flags (part_at X (draft f g c) Y (10 * j) l 7 (omega arith)) (ap (λ n. n / 65536 / 256) (part_at X (draft f g c) Y (10 * j) l 9 (omega arith)) ∙ ap (λ n. n / 256) e) in
      ap₂ (λ x y. set (set (set t (10 * j + 6) x) (10 * j + 7) y) (10 * j + 9) (b c)) a6 a7
      ∙ ap (λ u. set (set u (10 * j + 7) (with_flags w7 (r c / 256))) (10 * j + 9) (b c)) (set_part X (draft f g c) Y (10 * j) l 6 (omega arith) (with_flags w6 (r c)))
      ∙ ap (λ u. set u (10 * j + 9) (b c)) (set_part X (set (draft f g c) 6 (with_flags w6 (r c))) Y (10 * j) l 7 (omega arith) (with_flags w7 (r c / 256)))
      ∙ set_part X (set (set (draft f g c) 6 (with_flags w6 (r c))) 7 (with_flags w7 (r c / 256))) Y (10 * j) l 9 (omega arith) (b c)

  -- its flags cleared
  clear_record : without_flags (with_flags (get_or (packed layout c) 6 0) (r c)) ≡ get_or (packed layout c) 6 0
      → without_flags (with_flags (get_or (packed layout c) 7 0) (r c / 256)) ≡ get_or (packed layout c) 7 0
      → clear_at (X ++ (flagged_record f r b c ++ Y)) j ≡ X ++ (draft f b c ++ Y)
  clear_record e6 e7 =
      let v = flagged_record f r b c in
      let t = X ++ (v ++ Y) in
      let w6 = get_or (packed layout c) 6 0 in
      let w7 = get_or (packed layout c) 7 0 in
      ap₂ (λ x y. set (set t (10 * j + 6) x) (10 * j + 7) y) (ap without_flags (part_at X v Y (10 * j) l 6 (omega arith)) ∙ e6) (ap without_flags (part_at X v Y (10 * j) l 7 (omega arith)) ∙ e7)
      ∙ ap (λ u. set u (10 * j + 7) w7) (set_part X v Y (10 * j) l 6 (omega arith) w6)
      ∙ set_part X (set v 6 w6) Y (10 * j) l 7 (omega arith) w7

-- what stands behind is as it was
pub done_behind : (t : List ℕ) (j b n : ℕ) → 10 * j + 10 ≤ n → drop n (done_at t j b) ≡ drop n t
done_behind t j b n h =
    let u = set t (10 * j + 6) (with_flags (get_or t (10 * j + 6) 0) (last_at t j / 65536)) in
    let v = set u (10 * j + 7) (with_flags (get_or t (10 * j + 7) 0) (last_at t j / 65536 / 256)) in
    drop-set-lt n v (10 * j + 9) b (omega arith) ∙ drop-set-lt n u (10 * j + 7) _ (omega arith) ∙ drop-set-lt n t (10 * j + 6) _ (omega arith)

-- ---- the table on the way back

abbrev pub done : Rules → List ℕ → List ℕ → List ℕ
done p w c = flagged_record (forward_set p w) (removable_set p w) (backward_set p w) c

-- the records from record i on are done, the others are drafted; then comes `rest`
abbrev pub Parted : Rules → List ℕ → List ℕ → List ℕ → ℕ → Type 0
Parted p w t rest i = t ≡ drafted p w (take i (in_order p w)) ++ (flat_map (done p w) (drop i (in_order p w)) ++ rest)

-- and the cursor of each letter is where they lead to
pub record Swept {p : Rules} {w : List ℕ} (log : GoodEvents p w) (t rest : List ℕ) (i : ℕ) (from : ℕ → ℕ) : Type 0 where
  pub inside : i ≤ length (in_order p w)
  pub written : Parted p w t rest i
  pub cursors : (x : ℕ) → x < p.profile.k → Cursor log x i (from x)

module _ (p : Rules) (w : List ℕ) where
  abbrev L : List (List ℕ)
  L = in_order p w

  drafts_of : (i : ℕ) → i ≤ length L → length (drafted p w (take i L)) ≡ 10 * i
  drafts_of i h = drafts_length (forward_set p w) (letters_set p w) (take i L) ∙ ap (λ n. 10 * n) (length-take-le i L h)

  dones_of : (C : List (List ℕ)) → length (flat_map (done p w) C) ≡ 10 * length C
  dones_of C = flat_map_length (done p w) 10 (λ c. refl) C

  module _ (t rest : List ℕ) (i : ℕ) (h : i ≤ length L) (e : Parted p w t rest i) where
    -- the records are in the table
    pub parted_room : 10 * length L ≤ length t
    parted_room = omega (
      arith,
      ap length e,
      length-append (drafted p w (take i L)) (flat_map (done p w) (drop i L) ++ rest),
      length-append (flat_map (done p w) (drop i L)) rest,
      drafts_of i h,
      dones_of (drop i L),
      length-drop i L,
    )

    -- number n of record j
    drafted_number : (j n : ℕ) → j < i → n < 10 → get_or t (10 * j + n) 0 ≡ get_or (draft (forward_set p w) (letters_set p w) (get_or L j [])) n 0
    drafted_number j n l k =
        ap (λ u. get_or u (10 * j + n) 0) e
        ∙ get_or-append (drafted p w (take i L)) (flat_map (done p w) (drop i L) ++ rest) 0 (10 * j + n) (omega (arith, drafts_of i h))
        ∙ flat_map_getd (draft (forward_set p w) (letters_set p w)) 10 (λ c. refl) (take i L) j n [] 0 (omega (arith, length-take-le i L h)) k
        ∙ ap (λ c. get_or (draft (forward_set p w) (letters_set p w) c) n 0) (get_or-take i L j [] l)

    done_number : (j n : ℕ) → i ≤ j → j < length L → n < 10 → get_or t (10 * j + n) 0 ≡ get_or (done p w (get_or L j [])) n 0
    done_number j n l g k =
        let m = j - i in
        let s : i + m ≡ j = omega arith in
        let q : 10 * j + n ≡ length (drafted p w (take i L)) + (10 * m + n) = omega (arith, drafts_of i h) in
        let lm : m < length (drop i L) = omega (arith, length-drop i L) in
        ap₂ (λ u v. get_or u v 0) e q
        ∙ get_or-append-add (drafted p w (take i L)) (flat_map (done p w) (drop i L) ++ rest) (10 * m + n) 0
        ∙ get_or-append (flat_map (done p w) (drop i L)) rest 0 (10 * m + n) (omega (arith, dones_of (drop i L)))
        ∙ flat_map_getd (done p w) 10 (λ c. refl) (drop i L) m n [] 0 lm k
        ∙ ap (λ c. get_or (done p w c) n 0) (get_or-drop i L m [] ∙ ap (λ v. get_or L v []) s)

  -- one record more is done
  parted_next : (few : p.profile.k ≤ most_letters) (t rest : List ℕ) (i : ℕ) → i < length L → Parted p w t rest (suc i)
      → Parted p w (done_at t i (backward_set p w (get_or L i []))) rest i
  parted_next few t rest i h e =
      let c = get_or L i [] in
      let X = drafted p w (take i L) in
      let Y = flat_map (done p w) (drop (suc i) L) in
      let d = draft (forward_set p w) (letters_set p w) c in
      ap (λ u. done_at u i (backward_set p w c))
      (e ∙ ap (λ C. drafted p w C ++ (Y ++ rest)) (take-suc L i [] h)
      ∙ ap (λ u. u ++ (Y ++ rest)) (flat_map_append (draft (forward_set p w) (letters_set p w)) (take i L) (c ∷ []))
      ∙ append_assoc X d (Y ++ rest))
      ∙ done_record (forward_set p w) (letters_set p w) (backward_set p w) (removable_set p w) X c (Y ++ rest) i (drafts_of i (omega arith)) (upper_half p w c few)
      ∙ ap (λ u. X ++ u) (sym (append_assoc (done p w c) Y rest) ∙ ap (λ C. flat_map (done p w) C ++ rest) (sym (drop-cons L i [] h)))

module _ {p : Rules} {w : List ℕ} (good : GoodProfile p.profile) (log : GoodEvents p w) where
  abbrev k : ℕ
  k = p.profile.k

  abbrev few : k ≤ most_letters
  few = good.relation.most

  -- ---- counts leave room for flags

  small : (i : ℕ) → i < length (L p w) → (x : ℕ) → at (get_or (L p w) i []) x < 4096
  small i h x = ⊎_elim
      (λ lt. omega (arith, le_total (mem_getd c x 0 lt), q.2, level_left p.may p.letter k w n.0 c log.letters n.1, log.short))
      (λ le. omega (arith, get_or-eq_default c 0 {n = x} le))
      (lt_or_le x (length c))
    where
      c : List ℕ
      c = get_or (L p w) i []

      n : (n : ℕ) × Mem c (of_total p w n)
      n = level_of_record log i h

      q : (length c ≡ k) × IsPrefix p.may p.letter w (at c) × (total c ≡ n.0)
      q = level_at p.may p.letter k w n.0 c log.letters n.1

  module _ (i : ℕ) (h : i < length (L p w)) where
    abbrev counts : List ℕ
    counts = get_or (L p w) i []

    number_6 : get_or (packed layout counts) 6 0 ≡ at counts 12 + 65536 * at counts 13
    number_6 = pack_two (drop 12 counts) ∙ ap₂ (λ m n. m + 65536 * n) (get_or-drop 12 counts 0 0) (get_or-drop 12 counts 1 0)

    number_7 : get_or (packed layout counts) 7 0 ≡ at counts 14 + 65536 * at counts 15
    number_7 = pack_two (drop 14 counts) ∙ ap₂ (λ m n. m + 65536 * n) (get_or-drop 14 counts 0 0) (get_or-drop 14 counts 1 0)

    clears_6 : (S : ℕ) → without_flags (with_flags (get_or (packed layout counts) 6 0) S) ≡ get_or (packed layout counts) 6 0
    clears_6 S = ap (λ n. without_flags (with_flags n S)) number_6 ∙ without_with (at counts 12) (at counts 13) (small i h 12) (small i h 13) S ∙ sym number_6

    clears_7 : (S : ℕ) → without_flags (with_flags (get_or (packed layout counts) 7 0) S) ≡ get_or (packed layout counts) 7 0
    clears_7 S = ap (λ n. without_flags (with_flags n S)) number_7 ∙ without_with (at counts 14) (at counts 15) (small i h 14) (small i h 15) S ∙ sym number_7

    -- the flags of a record that is done are the letters that can be taken away
    flag_is : (x : ℕ) → x < k → bit (get_or (done p w counts) (flag_number x) 0) (flag_bit x) ≡ removable? p.may p.letter w (at counts) x
    flag_is x lt =
        let R = removable_set p w counts in
        let upper : bit R x ≡ removable? p.may p.letter w (at counts) x = passing_bit (removable? p.may p.letter w (at counts)) k x lt in
        ⊎_elim
        (λ l.
        let e : flag_number x ≡ 6 = omega arith in
        ap (λ n. bit (get_or (done p w counts) n 0) (flag_bit x)) e ∙ ap (λ n. bit (with_flags n R) (flag_bit x)) number_6
        ∙ flag_low (at counts 12) (at counts 13) (small i h 12) (small i h 13) R x l ∙ upper)
        (λ l.
        let e : flag_number x ≡ 7 = omega arith in
        ap (λ n. bit (get_or (done p w counts) n 0) (flag_bit x)) e ∙ ap (λ n. bit (with_flags n (R / 256)) (flag_bit x)) number_7
        ∙ flag_high (at counts 14) (at counts 15) (small i h 14) (small i h 15) R x l (omega arith) ∙ upper)
        (lt_or_le x 8)

  -- ---- the last record

  abbrev whole : List ℕ
  whole = map (count p.letter w) (below k)

  ends_whole : L p w ≡ flat_map (of_total p w) (below (length w)) ++ (whole ∷ [])
  ends_whole = ap (flat_map (of_total p w)) (below_suc (length w)) ∙ flat_map_append (of_total p w) (below (length w)) (length w ∷ [])
      ∙ ap (λ l. flat_map (of_total p w) (below (length w)) ++ l) (append-nil (of_total p w (length w)) ∙ level_whole p.may p.letter log.apart k w log.letters)

  records_some : length (L p w) ≡ length (flat_map (of_total p w) (below (length w))) + 1
  records_some = ap length ends_whole ∙ length-append (flat_map (of_total p w) (below (length w))) (whole ∷ [])

  last_whole : get_or (L p w) (length (L p w) - 1) [] ≡ whole
  last_whole =
      let s : length (L p w) - 1 ≡ length (flat_map (of_total p w) (below (length w))) = omega (arith, records_some) in
      ap₂ (λ l n. get_or l n []) ends_whole s ∙ get_or-append_seam (flat_map (of_total p w) (below (length w))) whole [] []

  last_back : backward_set p w (get_or (L p w) (length (L p w) - 1) []) ≡ p.profile.finals
  last_back = ap (backward_set p w) last_whole ∙ backward_whole p.may p.letter log.apart k w log.letters (automaton p.profile) (lawful p.profile)

  -- a record before the last is not of the last total
  total_before : (i : ℕ) (h : i < length (L p w)) → suc i < length (L p w) → (level_of_record log i h).0 < length w
  total_before i h l = ⊎_elim (λ lt. lt) (λ le. absurd (wrong le)) (lt_or_le n.0 (length w))
    where
      c : List ℕ
      c = get_or (L p w) i []

      n : (n : ℕ) × Mem c (of_total p w n)
      n = level_of_record log i h

      wrong : length w ≤ n.0 → ⊥
      wrong le =
          let e : n.0 ≡ length w = omega (arith, level_left p.may p.letter k w n.0 c log.letters n.1) in
          let m : Mem c (whole ∷ []) = subst (Mem c) (ap (of_total p w) e ∙ level_whole p.may p.letter log.apart k w log.letters) n.1 in
          omega (arith, nodup_place (L p w) [] (by_total_nodup p.may p.letter k w) i (length (L p w) - 1) h (omega arith) (Memᴰ.eq_of_singleton m ∙ sym last_whole))

  -- ---- one record more

  module _ (t rest : List ℕ) (i : ℕ) (from : ℕ → ℕ) (s : Swept log t rest (suc i) from) where
    here : i < length (L p w)
    here = omega (arith, s.inside)

    abbrev c : List ℕ
    c = get_or (L p w) i []

    abbrev adds : ℕ → Bool
    adds x = addable? p.may p.letter w (at c) x

    pub swept_inside : Inside t i k from
    swept_inside = record {
      record_in = omega (arith, here, parted_room p w t rest (suc i) s.inside s.written);
      cursors_in = λ x l. omega (arith, (s.cursors x l).inside, parted_room p w t rest (suc i) s.inside s.written);
    }

    letters_is : letters_at t i ≡ addable_set p w c
    letters_is = ap (λ n. n % 65536) (drafted_number p w t rest (suc i) s.inside s.written i 9 (omega arith) (omega arith)) ∙ lower_half p w c few

    letter_is : (x : ℕ) → x < k → bit (letters_at t i) x ≡ adds x
    letter_is x l = ap (λ S. bit S x) letters_is ∙ passing_bit adds k x l

    -- where the cursor of a letter that can be added moves to
    module _ (x : ℕ) (l : x < k) (y : T (adds x)) where
      abbrev child : ℕ
      child = (child_of log x l i here y).0

      is_child : Child log x i child
      is_child = (child_of log x l i here y).1

      found : flag_before t x (from x) ≡ child
      found = cursor_finds log x i (from x) l here y (s.cursors x l) (flag? t x)
          (λ j a b. ap (λ n. bit n (flag_bit x)) (done_number p w t rest (suc i) s.inside s.written j (flag_number x) (omega arith) b (omega arith)) ∙ flag_is j b x l)

      last_found : last_at t (flag_before t x (from x)) ≡ backward_set p w (bump c x)
      last_found = ap (last_at t) found
          ∙ done_number p w t rest (suc i) s.inside s.written child 9 (omega (arith, child_later log x l i child is_child)) is_child.1 (omega arith)
          ∙ ap (backward_set p w) is_child.3

    pub swept_back : suc i < length (L p w) → back_from t i k p.profile.s p.profile.moves from ≡ backward_set p w c
    swept_back before =
        let f : ℕ → ℕ = λ x. backward_step k p.profile.s p.profile.moves (last_at t (flag_before t x (from x))) x in
        let n = level_of_record log i here in
        ap (union f) (filter_agree (bit (letters_at t i)) adds (below k) (λ x m. letter_is x (below_at k x m)))
        ∙ union_agree f (λ x. backward_step k p.profile.s p.profile.moves (backward_set p w (bump c x)) x) (filter adds (below k))
        (λ x m.
        let d = filter_at adds (below k) m in
        ap (λ S. backward_step k p.profile.s p.profile.moves S x) (last_found x (below_at k x d.0) d.1))
        ∙ sym (backward_level p.may p.letter log.apart k w log.letters (automaton p.profile) (lawful p.profile) n.0 c n.1 (total_before i here before))

    moved_cursor : (x : ℕ) → x < k → Cursor log x i (moved t i from x)
    moved_cursor x l = ⊎_elim
        (λ y.
        let e : moved t i from x ≡ child x l y = ap (λ b. cond b (flag_before t x (from x)) (from x)) (letter_is x l ∙ is_true (adds x) y) ∙ found x l y in
        subst (Cursor log x i) (sym e) (cursor_moves log x i (from x) l here y (s.cursors x l)))
        (λ y.
        let e : moved t i from x ≡ from x = ap (λ b. cond b (flag_before t x (from x)) (from x)) (letter_is x l ∙ is_false (adds x) y) in
        subst (Cursor log x i) (sym e) (cursor_stays log x i (from x) y (s.cursors x l)))
        (test (adds x))

    pub swept_next : (after : ℕ → ℕ) → ((x : ℕ) → x < k → after x ≡ moved t i from x) → Swept log (done_at t i (backward_set p w c)) rest i after
    swept_next after e = record {
      inside = omega (arith, here);
      written = parted_next p w few t rest i here s.written;
      cursors = λ x l. subst (Cursor log x i) (sym (e x l)) (moved_cursor x l);
    }

  -- ---- the first step and the last

  module _ (t : List ℕ) (records : ℕ) (d : Drafted p w t records) where
    pub records_are : records ≡ length (L p w)
    records_are = d.whole ∙ sym (by_total_length p.may p.letter k w log.letters)

    pub records_any : 1 ≤ records
    records_any = omega (arith, records_are, records_some)

    pub swept_start : (from : ℕ → ℕ) → ((x : ℕ) → x < k → from x ≡ records)
        → Swept log (done_at t (records - 1) p.profile.finals) (drop (10 * records) t) (records - 1) from
    swept_start from e = record {
      inside = omega (arith, records_are);
      written = subst (λ S. Parted p w (done_at t i S) rest i) back (parted_next p w few t rest i (omega (arith, records_are, records_any)) all);
      cursors = λ x l. subst (Cursor log x i) (sym (e x l ∙ records_are)) (cursor_start log x i l (omega (arith, records_are)));
    }
      where
        i : ℕ
        i = records - 1

        rest : List ℕ
        rest = drop (10 * records) t

        back : backward_set p w (get_or (L p w) i []) ≡ p.profile.finals
        back = ap (λ n. backward_set p w (get_or (L p w) (n - 1) [])) records_are ∙ last_back

        all : Parted p w t rest (suc i)
        all =
            let s : suc i ≡ length (L p w) = omega (arith, records_are, records_any) in
            d.written ∙ ap₂ (λ C D. drafted p w C ++ (flat_map (done p w) D ++ rest)) (sym (ap (λ n. take n (L p w)) s ∙ take-length (L p w))) (sym (ap (λ n. drop n (L p w)) s ∙ drop-length (L p w)))

  -- the flags of the first n records cleared
  cleared_part : (t rest : List ℕ) → Parted p w t rest 0 → (n : ℕ) → n ≤ length (L p w)
      → cleared t n ≡ filled p w (take n (L p w)) ++ (flat_map (done p w) (drop n (L p w)) ++ rest)
  cleared_part t rest e zero h = e
  cleared_part t rest e (suc n) h =
      let c = get_or (L p w) n [] in
      let X = filled p w (take n (L p w)) in
      let Y = flat_map (done p w) (drop (suc n) (L p w)) in
      let lt : n < length (L p w) = omega arith in
      let r = removable_set p w c in
      let l : length X ≡ 10 * n = drafts_length (forward_set p w) (backward_set p w) (take n (L p w)) ∙ ap (λ m. 10 * m) (length-take-le n (L p w) (omega arith)) in
      ap (λ u. clear_at u n)
      (cleared_part t rest e n (omega arith) ∙ ap (λ C. X ++ (flat_map (done p w) C ++ rest)) (drop-cons (L p w) n [] lt) ∙ ap (λ u. X ++ u) (append_assoc (done p w c) Y rest))
      ∙ clear_record (forward_set p w) (letters_set p w) (backward_set p w) (removable_set p w) X c (Y ++ rest) n l (clears_6 n lt r) (clears_7 n lt (r / 256))
      ∙ sym (append_assoc X (draft (forward_set p w) (backward_set p w) c) (Y ++ rest))
      ∙ ap (λ u. u ++ (Y ++ rest)) (sym (flat_map_append (draft (forward_set p w) (backward_set p w)) (take n (L p w)) (c ∷ [])))
      ∙ ap (λ C. filled p w C ++ (Y ++ rest)) (sym (take-suc (L p w) n [] lt))

  pub cleared_all : (t rest : List ℕ) (from : ℕ → ℕ) → Swept log t rest 0 from → (records : ℕ) → records ≡ length (L p w) → cleared t records ≡ filled p w (L p w) ++ rest
  cleared_all t rest from s records e = ap (cleared t) e ∙ cleared_part t rest s.written (length (L p w)) (omega arith)
      ∙ ap₂ (λ C D. filled p w C ++ (flat_map (done p w) D ++ rest)) (take-length (L p w)) (drop-length (L p w))
