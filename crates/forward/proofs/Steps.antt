-- From one total to the next: what the cursors give is the next prefix, with its forward set.
use mathlib.Core.Path.{◌≡◌, sym, ◌∙◌, ap, subst}
use mathlib.Core.Bool.{Bool}
use mathlib.Core.Logic.{⊎_elim}
use mathlib.Core.List.Memᴰ
use mathlib.Core.List.{List, [], ◌∷◌}
use mathlib.Core.Option.{none, some, none-ne-some, some-injective}
use Prim.Native.Nat.{ℕ, suc, ◌^◌, ◌≤◌, ◌<◌}
use native.Mathlib.Omega.{arith}
use lib.ListN.{length, get_or, take, drop, drop_of_length-le, take-append-drop}
use lib.Seq.{drop-cons, split_at}
use Rattle.profile.specs.Rules.{Rules}
use Rattle.profile.specs.Automata.{automaton, union}
use Rattle.profile.specs.Lists.{Mem, below, filter}
use Rattle.profile.specs.Prefixes.{at}
use Rattle.profile.specs.Tables.{layout, packed}
use Rattle.profile.specs.Traces.{bit}
use Rattle.theory.proofs.Levels.{bump}
use Rattle.profile.proofs.Lists.{lt_or_le, mem_getd}
use Rattle.theory.proofs.Merge.{Cursor, Grown, cursor_end, cursor_next, cursor_start, extends?, forward_merge, hits, least_of_all, level_grown, some_hits}
use Rattle.theory.proofs.Profiles.{lawful}
use Rattle.theory.proofs.SetLoops.{passing_bit}
use Rattle.counts.proofs.Packed.{Small}
use Rattle.cursors.specs.Cursors.{advanced, started}
use Rattle.cursors.proofs.Levels.{level_advanced, level_started}
use Rattle.merge.specs.Merge.{givers, least_of, united}
use Rattle.merge.proofs.Levels.{level_least, level_least_none, level_letters, level_united}
use Rattle.forward.specs.Forward.{Ready}
use Rattle.forward.specs.Merging.{Placed}
use Rattle.forward.proofs.Totals.{apart, counted}
use Rattle.records.proofs.Halves.{bit_lower}
use Rattle.records.specs.Drafts.{drafted, forward_set, letters_set, of_total}

module _ {p : Rules} {w : List ℕ} {m room : ℕ} {found : List ℕ → List ℕ} (r : Ready p w m room found) (n : ℕ) (t : List ℕ)
    (written : t ≡ drafted p w (of_total p w n)) (cursors : List ℕ) (long : p.profile.k ≤ length cursors) where
  abbrev C : List (List ℕ)
  C = of_total p w n

  abbrev E : List (List ℕ)
  E = of_total p w (suc n)

  abbrev add : ℕ → List ℕ → Bool
  add = extends? p.may p.letter w

  grown : Grown p.profile.k C E add
  grown = level_grown p.may p.letter (apart r) p.profile.k w r.log.letters n

  -- the last number of a record says which letters can be added
  bits : (c : List ℕ) (x : ℕ) → Mem c C → x < p.profile.k → bit (letters_set p w c) x ≡ add x c
  bits c x i lt = bit_lower p w c r.profile.relation.most x lt

  sizes : (c : List ℕ) → Mem c C → length c ≡ p.profile.k
  sizes c i = (counted r n c i).0

  -- each cursor at the first record to which its letter can be added
  pub placed_start : Placed p w n 0 (started p.profile.k t cursors)
  placed_start x lt =
      subst (Cursor C add x E) (sym (level_started (forward_set p w) (letters_set p w) C t written p.profile.k add bits cursors long x lt)) (cursor_start grown x lt)

  module _ (j : ℕ) (placed : Placed p w n j cursors) where
    -- what a cursor stands at, with one letter more, is a prefix of the next total
    stands : (x : ℕ) → x < p.profile.k → at cursors x < length C → Small layout (bump (get_or C (at cursors x) []) x)
    stands x lt h =
        let e = bump (get_or C (at cursors x) []) x in
        (counted r (suc n) e (subst (Mem e) (take-append-drop j E) (Memᴰ.append_right (take j E) ((placed x lt).stands h).1))).1

    module _ (lt : j < length E) where
      abbrev e : List ℕ
      e = get_or E j []

      in_next : Mem e E
      in_next = mem_getd E j [] lt

      pub cursor_at : (x : ℕ) → x < p.profile.k → Cursor C add x (e ∷ drop (suc j) E) (at cursors x)
      cursor_at x h = subst (λ R. Cursor C add x R (at cursors x)) (drop-cons E j [] lt) (placed x h)

      -- the least counts that the cursors give
      next_least : least_of t p.profile.k cursors ≡ some (packed layout e)
      next_least =
          let hit = some_hits grown (take j E) e (drop (suc j) E) (split_at E j [] lt) (at cursors) cursor_at in
          level_least (forward_set p w) (letters_set p w) C t written p.profile.k r.profile.relation.most sizes cursors stands e
          (counted r (suc n) e in_next).0 (counted r (suc n) e in_next).1
          (λ x h. least_of_all grown (take j E) e (drop (suc j) E) (split_at E j [] lt) x (at cursors x) (cursor_at x h)) hit.0 hit.1 hit.2

      -- the letters whose cursors give them
      pub next_givers : givers t p.profile.k cursors ≡ union (λ x. 2 ^ x) (filter (λ x. hits C x e (at cursors x)) (below p.profile.k))
      next_givers =
          let hit = some_hits grown (take j E) e (drop (suc j) E) (split_at E j [] lt) (at cursors) cursor_at in
          level_letters (forward_set p w) (letters_set p w) C t written p.profile.k r.profile.relation.most sizes cursors stands e
          (counted r (suc n) e in_next).0 (counted r (suc n) e in_next).1
          (λ x h. least_of_all grown (take j E) e (drop (suc j) E) (split_at E j [] lt) x (at cursors x) (cursor_at x h)) hit.0 hit.1 hit.2

      pub next_letters : (x : ℕ) → x < p.profile.k → bit (givers t p.profile.k cursors) x ≡ hits C x e (at cursors x)
      next_letters x h = ap (λ S. bit S x) next_givers ∙ passing_bit (λ y. hits C y e (at cursors y)) p.profile.k x h

      -- their forward set
      pub next_forward : united p.profile.k p.profile.s p.profile.moves t cursors (givers t p.profile.k cursors) ≡ forward_set p w e
      next_forward =
          level_united (forward_set p w) (letters_set p w) C t written p.profile.k r.profile.relation.most sizes cursors stands e
          (counted r (suc n) e in_next).0 (counted r (suc n) e in_next).1 (givers t p.profile.k cursors) next_letters p.profile.s p.profile.moves
          ∙ sym (forward_merge p.may p.letter (apart r) p.profile.k w r.log.letters (automaton p.profile) (lawful p.profile) n
          (take j E) e (drop (suc j) E) (split_at E j [] lt) (at cursors) cursor_at)

      -- the cursors once they are put
      pub next_placed : Placed p w n (suc j) (advanced p.profile.k t cursors (givers t p.profile.k cursors))
      next_placed x h =
          subst (Cursor C add x (drop (suc j) E))
          (sym (level_advanced (forward_set p w) (letters_set p w) C t written p.profile.k add bits cursors e (givers t p.profile.k cursors) next_letters long x h))
          (cursor_next grown (take j E) e (drop (suc j) E) (split_at E j [] lt) x (at cursors x) h (cursor_at x h))

    -- the cursors give no counts exactly where all prefixes of the next total have come
    pub next_none : j ≤ length E → least_of t p.profile.k cursors ≡ none → j ≡ length E
    next_none le h = ⊎_elim (λ lt. absurd (none-ne-some (packed layout (get_or E j [])) (sym h ∙ next_least lt))) (λ g. omega arith) (lt_or_le j (length E))

    pub next_some : (v : List ℕ) → least_of t p.profile.k cursors ≡ some v → (j < length E) × (v ≡ packed layout (get_or E j []))
    next_some v h = ⊎_elim (λ lt. (lt, some-injective v (packed layout (get_or E j [])) (sym h ∙ next_least lt)))
        (λ g. absurd (none-ne-some v (sym (level_least_none (forward_set p w) (letters_set p w) C t written cursors p.profile.k (over g)) ∙ h))) (lt_or_le j (length E))
      where
        over : length E ≤ j → (x : ℕ) → x < p.profile.k → length C ≤ at cursors x
        over g x lt =
            omega (arith, cursor_end grown x (at cursors x) (subst (λ R. Cursor C add x R (at cursors x)) (drop_of_length-le E {i = j} g) (placed x lt)))
