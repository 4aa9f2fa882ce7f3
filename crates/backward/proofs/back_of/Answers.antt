use Rattle.std.proofs.Common.{◌≡◌, ℕ, ◌-◌, ◌^◌, ◌<◌, ◌≤◌, cond, T, List, length, get_or, set, sym, ap, ◌∙◌, subst, ⊎_elim, arith, T_not, length-set, get_or-set_other, get_or-set_same}
use lib.Bits.{bit_and, bit_or, and_le_r, or_zero_r}
use lib.Count.{count_trailing_zeros}
use lib.Dec.{not_T}
use Rattle.profile.specs.Automata.{backward_step, union}
use Rattle.profile.specs.Lists.{below, filter}
use Rattle.profile.specs.Traces.{bit}
use Rattle.profile.proofs.Lists.{is_true, test}
use Rattle.theory.proofs.SetLoops.{lowest, rest_first, rest_in, rest_other, rest_without}
use Rattle.profile.proofs.Sets.{not_in_none, or_assoc}
use Rattle.records.specs.Records.{last_at, records_in}
use Rattle.theory.proofs.Unions.{union_in, union_none, union_out}
use Rattle.backward.specs.Backward.{flag_before, flag?, letters_at, moved}
use Rattle.backward.proofs.Sweep.{last_inside}
use Rattle.backward.proofs.back_of.Invariants.{Moved}
use Rattle.backward.proofs.back_of.Goals as goal
use Rattle.backward.proofs.back_of.Goals.{else-x-k, then-x-k}

module _ (t : List ℕ) (j k : ℕ) (cursors₀ : List ℕ) (n : ℕ) (p : 0 < n) (h : n < 2 ^ 32) (cursors : List ℕ) (m : Moved t j k cursors₀ n cursors) where
  abbrev x : ℕ
  x = count_trailing_zeros 32 n

  abbrev r : ℕ
  r = bit_and n (n - 1)

  -- the cursor of the lowest letter moves to record i
  move_yes : (i : ℕ) → x < length cursors → i ≡ moved t j (λ y. get_or cursors₀ y 0) x → Moved t j k cursors₀ r (set cursors x i)
  move_yes i l q = (
    (λ y a. get_or-set_other cursors x y i 0 (λ z. rest_without 32 n p h (subst (λ y. T (bit r y)) z a)) ∙ m.0 y (rest_in n p h y a)),
    (λ y lt a. ⊎_elim
        (λ c. ⊎_elim
        (λ z. subst (λ y. get_or (set cursors x i) y 0 ≡ moved t j (λ y. get_or cursors₀ y 0) y) z (get_or-set_same cursors x i 0 l ∙ q))
        (λ d. absurd (T_not (bit r y) a d))
        (rest_other n p h y c))
        (λ c. get_or-set_other cursors x y i 0 (λ z. T_not (bit n y) c (subst (λ w. T (bit n w)) (sym z) (rest_first n p h))) ∙ m.1 y lt c)
        (test (bit n y))),
  )

  -- a letter that is not below k has no cursor
  move_no : k ≤ x → Moved t j k cursors₀ r cursors
  move_no l = (
    (λ y a. m.0 y (rest_in n p h y a)),
    (λ y lt a. ⊎_elim
        (λ c. ⊎_elim (λ z. absurd (omega arith)) (λ d. absurd (T_not (bit r y) a d)) (rest_other n p h y c))
        (λ c. m.1 y lt c)
        (test (bit n y))),
  )

pub flagged_before-r-requires : goal.flagged_before-r-requires
flagged_before-r-requires c =
    let s = c in
    let l = c.loop-rest in
    let x = count_trailing_zeros 32 l.rest in
    let h : x < s.args.rows.now.profile.shape.k = c.if-x-k.true in
    (omega (arith, l.invariant.4.0 x (rest_first l.rest (omega arith) (omega arith)), s.requires.inside.cursors_in x h), omega arith)

pub last_at-requires : goal.last_at-requires
last_at-requires c =
    let s = c in
    let a = s.args in
    let p = a.rows.now.profile in
    let l = c.loop-rest in
    let x = count_trailing_zeros 32 l.rest in
    let h : x < p.shape.k = c.if-x-k.true in
    let e = l.invariant.4.0 x (rest_first l.rest (omega arith) (omega arith)) in
    let g : flag_before a.table.now x (get_or l.cursors x 0) < records_in a.table.now =
    last_inside (flag? a.table.now x) (get_or l.cursors x 0) (records_in a.table.now) (omega (arith, e, s.requires.inside.cursors_in x h)) (omega (arith, s.requires.inside.record_in)) in
    omega (arith, c.flagged_before-r.ensures, g)

pub loop-rest-preserved : goal.loop-rest-preserved
loop-rest-preserved c =
    let a = c.args in
    let p = a.rows.now.profile in
    let t = a.table.now in
    let l = c.loop-rest in
    let i = l.invariant in
    let n = l.rest in
    let x = count_trailing_zeros 32 n in
    let r = bit_and n (n - 1) in
    let from : ℕ → ℕ = λ y. get_or a.cursors.now y 0 in
    let f : ℕ → ℕ = λ y. backward_step p.shape.k p.shape.s p.moves.now (last_at t (flag_before t y (from y))) y in
    let back : ℕ → ℕ = λ S. union f (filter (bit S) (below p.shape.k)) in
    let some : 0 < n = omega arith in
    let few : n < 2 ^ 32 = i.0 in
    let first = rest_first n some few in
    let whole = ap back (lowest 32 n some few) in
    let less : r < 2 ^ 32 = omega (arith, and_le_r n (n - 1)) in (elim c.if-x-k.branch [
      | then-x-k w ↦ let q = w.flagged_before-r.ensures ∙ ap (flag_before t x) (i.4.0 x first) in
          let e = is_true (bit (letters_at t a.j) x) (i.2 x first) in
          let to = w.backward_by-out.ensures.step w.if-x-k.true ∙ ap (λ S. backward_step p.shape.k p.shape.s p.moves.now S x) (w.last_at.ensures ∙ ap (last_at t) q) in (
            less,
            ap length w.cursors-is ∙ simp length-set i.1,
            λ y m. i.2 y (rest_in n some few y m),
            ap (λ o. bit_or o (back r)) (w.out-is ∙ ap (bit_or l.out) to) ∙ or_assoc l.out (f x) (back r)
                ∙ ap (bit_or l.out) (sym (union_in f x r p.shape.k w.if-x-k.true) ∙ whole) ∙ i.3,
            subst (Moved t a.j p.shape.k a.cursors.now r) (sym w.cursors-is)
                (move_yes t a.j p.shape.k a.cursors.now n some few l.cursors i.4 w.flagged_before-r.result (omega arith)
                (q ∙ sym (ap (λ b. cond b (flag_before t x (from x)) (from x)) e))),
          )
      | else-x-k w ↦ (
        less,
        ap length w.cursors-is ∙ i.1,
        λ y m. i.2 y (rest_in n some few y m),
        ap (λ o. bit_or o (back r)) w.out-is ∙ ap (bit_or l.out) (sym (union_out f x r p.shape.k w.if-x-k.false) ∙ whole) ∙ i.3,
        subst (Moved t a.j p.shape.k a.cursors.now r) (sym w.cursors-is) (move_no t a.j p.shape.k a.cursors.now n some few l.cursors i.4 w.if-x-k.false),
      )
    ])

pub returns : goal.returns
returns c =
    let a = c.args in
    let p = a.rows.now.profile in
    let t = a.table.now in
    let l = c.loop-rest in
    let from : ℕ → ℕ = λ y. get_or a.cursors.now y 0 in
    let f : ℕ → ℕ = λ y. backward_step p.shape.k p.shape.s p.moves.now (last_at t (flag_before t y (from y))) y in
    let e : l.rest ≡ 0 = omega arith in
    let none : union f (filter (bit l.rest) (below p.shape.k)) ≡ 0 = ap (λ S. union f (filter (bit S) (below p.shape.k))) e ∙ union_none f (bit 0) (below p.shape.k) not_in_none in record {
      value = sym (ap (bit_or l.out) none ∙ or_zero_r l.out) ∙ l.invariant.3;
      by_index = λ y h. l.invariant.4.1 y h (not_T (bit l.rest y) (λ m. not_in_none y (subst (λ S. T (bit S y)) e m)));
    }
