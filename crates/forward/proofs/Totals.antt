-- The prefixes of a total, for a good profile and log: their counts, their records, and the first of them.
use mathlib.Core.Path.{◌≡◌, refl, sym, ◌∙◌, ap, ap₂, subst}
use mathlib.Core.Logic.{◌≢◌}
use mathlib.Core.Bool.{not}
use mathlib.Core.List.Memᴰ
use mathlib.Core.List.{List, [], ◌∷◌, ◌++◌, map, append-nil}
use Prim.Native.Nat.{ℕ, ◌*◌, ◌%◌, ◌^◌}
use native.Mathlib.Nat.{one-mul}
use native.Mathlib.Omega.{arith}
use lib.Dec.{T, T_not, eqb, ltb, lt→ltb}
use lib.ListN.{length}
use lib.Pow.{shl_exact}
use Rattle.profile.specs.Rules.{Rules}
use Rattle.profile.specs.Automata.{automaton, union}
use Rattle.profile.specs.Lists.{Mem, below}
use Rattle.profile.specs.Prefixes.{IsPrefix, at, closed?, less}
use Rattle.profile.specs.Tables.{layout, packed}
use Rattle.profile.proofs.Lists.{all_of, fst_of}
use Rattle.theory.proofs.Looks.{pairs_cons}
use Rattle.theory.proofs.Merge.{at_prefix, forward_first, level_at, level_first, level_left}
use Rattle.theory.proofs.Packing.{packed_zero}
use Rattle.theory.proofs.Prefixes.{front_none, prefix_of_front, removable?}
use Rattle.theory.proofs.Profiles.{lawful}
use Rattle.theory.proofs.Unions.{union_none}
use Rattle.counts.proofs.Packed.{Small}
use Rattle.records.specs.Records.{put_record}
use Rattle.forward.specs.Forward.{Ready}
use Rattle.forward.specs.Merging.{begun, pairs, totals}
use Rattle.forward.proofs.Drafts.{begun_put}
use Rattle.theory.proofs.Levels.{le_total}
use Rattle.records.specs.Drafts.{draft, forward_set, letters_of, letters_set, of_total, removable_set}

module _ {p : Rules} {w : List ℕ} {m room : ℕ} {found : List ℕ → List ℕ} (r : Ready p w m room found) where
  pub apart : (a b : ℕ) → T (p.may a b) → p.letter a ≢ p.letter b
  apart = r.log.apart

  -- the counts of a prefix: one for each letter, and each below 65,536
  pub counted : (n : ℕ) (c : List ℕ) → Mem c (of_total p w n) → (length c ≡ p.profile.k) × Small layout c × IsPrefix p.may p.letter w (at c)
  counted n c i =
      let l = level_at p.may p.letter p.profile.k w n c r.log.letters i in
      let left = level_left p.may p.letter p.profile.k w n c r.log.letters i in
      (l.0, all_of (λ v. ltb v (2 ^ layout.width)) c (λ v q. lt→ltb v (2 ^ layout.width) (omega (arith, le_total q, l.2, left, r.log.short))), l.1)

  module _ (n : ℕ) (c : List ℕ) (i : Mem c (of_total p w n)) (v : List ℕ) (e : v ≡ packed layout c) where
    -- the letters found
    pub found_letters : found v ≡ letters_of p w c
    found_letters = ap found e ∙ r.finds c (counted n c i).2

    -- the record of c, of which no letter can be taken away
    pub record_found : (S L : ℕ) → S ≡ forward_set p w c → L ≡ union (λ x. 2 ^ x) (found v) → removable_set p w c ≡ 0
        → v ++ (S ∷ L ∷ []) ≡ draft (forward_set p w) (letters_set p w) c
    record_found S L f l none =
        let last : L ≡ letters_set p w c = l ∙ ap (union (λ x. 2 ^ x)) found_letters ∙ omega (arith, none) in
        ap₂ ◌++◌ e (ap₂ (λ x y. x ∷ y ∷ []) f last)

  -- ---- the empty prefix

  abbrev empty : List ℕ
  empty = map (λ x. 0) (below p.profile.k)

  first_total : totals p w 1 ≡ empty ∷ []
  first_total = append-nil (of_total p w 0) ∙ level_first p.may p.letter apart p.profile.k w r.log.letters

  pub first_length : length (totals p w 1) ≡ 1
  first_length = ap length first_total

  module _ (v : List ℕ) (e : v ≡ packed layout []) where
    empty_packed : v ≡ packed layout empty
    empty_packed = e ∙ sym (packed_zero layout p.profile.k)

    empty_in : Mem empty (of_total p w 0)
    empty_in = subst (Mem empty) (sym (sym (append-nil (of_total p w 0)) ∙ first_total)) (Memᴰ.head refl)

    none_removable : removable_set p w empty ≡ 0
    none_removable = union_none (λ x. 2 ^ x) (removable? p.may p.letter w (at empty)) (below p.profile.k) (λ q s.
        let z = ap (λ h. h q) (at_prefix p.may p.letter apart p.profile.k w r.log.letters (prefix_of_front p.may p.letter apart (front_none p.may w))) in
        T_not (eqb (at empty q) 0) (fst_of (not (eqb (at empty q) 0)) (closed? p.may p.letter w (less (at empty) q)) s) (subst (λ n. T (eqb n 0)) (sym z) tt))

    pub first_record : (t : List ℕ) (S L : ℕ) → S ≡ 1 * 2 ^ p.profile.start % 2 ^ 32 → L ≡ union (λ x. 2 ^ x) (found v)
        → put_record t 0 (v ++ (S ∷ L ∷ [])) ≡ begun p w (totals p w 1) t
    first_record t S L s l =
        let f : S ≡ forward_set p w empty = s ∙ (shl_exact {a = 1} 1 p.profile.start 32 (omega arith) (omega (arith, r.profile.starts, r.profile.states.1)) ∙ one-mul (2 ^ p.profile.start))
        ∙ sym (forward_first p.may p.letter apart p.profile.k w r.log.letters (automaton p.profile) (lawful p.profile)) in
        ap (put_record t 0) (record_found 0 empty empty_in v empty_packed S L f l none_removable)
        ∙ begun_put p w [] empty t refl
        ∙ ap (λ C. begun p w C t) (sym first_total)

    pub first_pairs : (n : ℕ) → n ≡ length (found v) → n ≡ pairs p w (totals p w 1)
    first_pairs n h =
        h ∙ ap length (found_letters 0 empty empty_in v empty_packed)
        ∙ omega (arith, pairs_cons p.may p.letter p.profile.k w empty [], ap (pairs p w) first_total)
