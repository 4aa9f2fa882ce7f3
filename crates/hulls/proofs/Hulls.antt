-- The forward numbers of the records: replaced by what hidden letters reach, they are those of the view.
use mathlib.Core.Path.{◌≡◌, refl, sym, ◌∙◌, ap, ap₂}
use mathlib.Core.List.{List, [], ◌∷◌, ◌++◌, append_assoc}
use Prim.Native.Nat.{ℕ, zero, suc, ◌+◌, ◌*◌, ◌≤◌, ◌<◌}
use native.Mathlib.Omega.{arith}
use lib.Dec.{T}
use lib.ListN.{length, get_or, take, drop, set, length-append}
use lib.Seq.{drop-cons, drop-length, get_or-append-add, length-take-le, set_at, take-length, take-suc}
use Rattle.profile.specs.Lists.{below, filter, flat_map}
use Rattle.profile.specs.Traces.{bit, independent, letters_below}
use Rattle.profile.specs.Automata.{Profile, automaton, forward_step, row}
use Rattle.profile.specs.Prefixes.{at, backward, by_total, forward, prefix_count}
use Rattle.profile.specs.Tables.{layout, packed, record_length, record_of, table_of}
use Rattle.profile.proofs.Lists.{below_at, filter_at, flat_map_agree, flat_map_append}
use Rattle.profile.proofs.Sets.{union_agree}
use Rattle.theory.proofs.Levels.{by_total_length}
use Rattle.theory.proofs.Refusals.{GoodProfile}
use Rattle.records.specs.Drafts.{draft}
use Rattle.records.proofs.Drafts.{drafts_length}
use Rattle.views.specs.Views.{hull, late, reach, view}
use Rattle.views.proofs.Late.{late_backward, late_forward}
use Rattle.hulls.specs.Hulls.{hulled}

-- a forward number put in place of that of the record behind those of C
put_forward_draft : (f h g : List ℕ → ℕ) (C : List (List ℕ)) (c rest : List ℕ)
    → set (flat_map (draft h g) C ++ (draft f g c ++ rest)) (record_length layout * length C + layout.numbers) (h c) ≡ flat_map (draft h g) (C ++ (c ∷ [])) ++ rest
put_forward_draft f h g C c rest =
    let F = flat_map (draft h g) C in
    let front = packed layout c in
    let n = record_length layout * length C + layout.numbers in
    let e : length (F ++ front) ≡ n = length-append F front ∙ ap (λ m. m + layout.numbers) (drafts_length h g C) in
    ap (λ l. set l n (h c)) (sym (append_assoc F front (f c ∷ g c ∷ rest)))
    ∙ set_at (F ++ front) (f c) (g c ∷ rest) (h c) n e
    ∙ append_assoc F front (h c ∷ g c ∷ rest)
    ∙ sym (append_assoc F (draft h g c) rest)
    ∙ ap (λ l. l ++ rest) (sym (flat_map_append (draft h g) C (c ∷ [])))

-- the number that stands there
forward_of_draft : (f h g : List ℕ → ℕ) (C : List (List ℕ)) (c rest : List ℕ)
    → get_or (flat_map (draft h g) C ++ (draft f g c ++ rest)) (record_length layout * length C + layout.numbers) 0 ≡ f c
forward_of_draft f h g C c rest =
    let F = flat_map (draft h g) C in
    let front = packed layout c in
    let n = record_length layout * length C + layout.numbers in
    let z : n ≡ length (F ++ front) + 0 = omega (arith, length-append F front, drafts_length h g C) in
    ap (λ l. get_or l n 0) (sym (append_assoc F front (f c ∷ g c ∷ rest))) ∙ ap (λ m. get_or ((F ++ front) ++ (f c ∷ g c ∷ rest)) m 0) z ∙ get_or-append-add (F ++ front) (f c ∷ g c ∷ rest) 0 0

module _ (s : ℕ) (R : List ℕ) (f g : List ℕ → ℕ) (C : List (List ℕ)) (rest : List ℕ) where
  abbrev wide : List ℕ → ℕ
  wide c = forward_step 1 s R (f c) 0

  -- the first j records are done
  hulled_first : (j : ℕ) → j ≤ length C → hulled s R j (flat_map (draft f g) C ++ rest) ≡ flat_map (draft wide g) (take j C) ++ (flat_map (draft f g) (drop j C) ++ rest)
  hulled_first zero l = refl
  hulled_first (suc j) l =
      let c = get_or C j [] in
      let lt : j < length C = omega arith in
      let D = flat_map (draft f g) (drop (suc j) C) ++ rest in
      let n = record_length layout * j + layout.numbers in
      let m : length (take j C) ≡ j = length-take-le j C (omega arith) in
      let i : record_length layout * length (take j C) + layout.numbers ≡ n = ap (λ x. record_length layout * x + layout.numbers) m in
      let whole : hulled s R j (flat_map (draft f g) C ++ rest) ≡ flat_map (draft wide g) (take j C) ++ (draft f g c ++ D) =
      hulled_first j (omega arith) ∙ ap (λ x. flat_map (draft wide g) (take j C) ++ x)
      (ap (λ x. flat_map (draft f g) x ++ rest) (drop-cons C j [] lt) ∙ append_assoc (draft f g c) (flat_map (draft f g) (drop (suc j) C)) rest) in
      let there : get_or (flat_map (draft wide g) (take j C) ++ (draft f g c ++ D)) n 0 ≡ f c =
      ap (λ x. get_or (flat_map (draft wide g) (take j C) ++ (draft f g c ++ D)) x 0) (sym i) ∙ forward_of_draft f wide g (take j C) c D in
      ap (λ x. set x n (forward_step 1 s R (get_or x n 0) 0)) whole
      ∙ ap (λ x. set (flat_map (draft wide g) (take j C) ++ (draft f g c ++ D)) n (forward_step 1 s R x 0)) there
      ∙ ap (λ x. set (flat_map (draft wide g) (take j C) ++ (draft f g c ++ D)) x (wide c)) (sym i)
      ∙ put_forward_draft f wide g (take j C) c D
      ∙ ap (λ x. flat_map (draft wide g) x ++ D) (sym (take-suc C j [] lt))

  pub hulled_all : hulled s R (length C) (flat_map (draft f g) C ++ rest) ≡ flat_map (draft wide g) C ++ rest
  hulled_all =
      let le : length C ≤ length C = omega arith in
      hulled_first (length C) le ∙ ap₂ (λ x y. flat_map (draft wide g) x ++ (flat_map (draft f g) y ++ rest)) (take-length C) (drop-length C)

-- ---- the table of the view

module _ (p : Profile) (good : GoodProfile p) (visible : ℕ) (R : List ℕ) (held : (q : ℕ) → q < p.s → get_or R q 0 ≡ reach p visible q) where
  hull_is : (S : ℕ) → forward_step 1 p.s R S 0 ≡ hull p visible S
  hull_is S = union_agree (λ q. row 1 R q 0) (reach p visible) (filter (bit S) (below p.s))
      (λ q m. let e : q * 1 + 0 ≡ q = omega arith in ap (λ n. get_or R n 0) e ∙ held q (below_at p.s q (filter_at (bit S) (below p.s) m).0))

  pub hulled_table : (u t : List ℕ) → T (letters_below (λ a. a) p.k u)
      → hulled p.s R (prefix_count (independent p.masks) (λ a. a) p.k u) (table_of layout (independent p.masks) (λ a. a) (automaton (late p visible)) p.k u t)
      ≡ table_of layout (independent p.masks) (λ a. a) (view p visible) p.k u t
  hulled_table u t letters =
      let may = independent p.masks in
      let C = by_total may (λ a. a) p.k u in
      let rest = drop (record_length layout * prefix_count may (λ a. a) p.k u) t in
      let f : List ℕ → ℕ = λ c. forward may (λ a. a) (automaton (late p visible)) u (at c) in
      let g : List ℕ → ℕ = λ c. backward may (λ a. a) (automaton (late p visible)) u (at c) in
      ap (λ n. hulled p.s R n (flat_map (draft f g) C ++ rest)) (sym (by_total_length may (λ a. a) p.k u letters))
      ∙ hulled_all p.s R f g C rest
      ∙ ap (λ x. x ++ rest) (flat_map_agree (draft (λ c. forward_step 1 p.s R (f c) 0) g) (record_of layout may (λ a. a) (view p visible) u) C
      (λ c m. ap₂ (λ a b. packed layout c ++ (a ∷ b ∷ [])) (hull_is (f c) ∙ sym (late_forward p good visible u letters (at c))) (sym (late_backward p good visible u letters (at c)))))
