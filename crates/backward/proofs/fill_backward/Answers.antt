use Rattle.std.proofs.Common.{◌≡◌, ℕ, suc, ◌-◌, ◌*◌, ◌<◌, ◌≤◌, List, ◌++◌, length, get_or, drop, replicate, sym, refl, ap, ◌∙◌, subst, subst₂, arith}
use lib.ListN.{get_or-replicate}
use Rattle.profile.specs.Limits.{most_letters}
use Rattle.profile.specs.Rules.{Rules}
use Rattle.profile.specs.declared.Profile.{Profile}
use Rattle.terms.specs.Coded.{rules_of}
use Rattle.profile.specs.Automata.{lent}
use Rattle.profile.specs.Tables.{layout, record_length}
use Rattle.theory.proofs.Refusals.{GoodEvents}
use Rattle.records.specs.Drafts.{in_order}
use Rattle.backward.specs.Backward.{Drafted, Inside, back_from, done_at, filled_all}
use Rattle.backward.proofs.Swept.{Swept, cleared_all, done_behind, records_any, records_are, swept_back, swept_inside, swept_next, swept_start}
use Rattle.backward.proofs.fill_backward.Goals as goal

-- there is a record
some : (p : Rules) (w t : List ℕ) (n : ℕ) → Drafted p w t n → 1 ≤ n
some p w t n d = records_any d.profile d.log t n d

-- the last record done, what stands behind the records is as it was
kept : (p : Rules) (w t : List ℕ) (n b : ℕ) → Drafted p w t n → (u : List ℕ) → u ≡ done_at t (n - 1) b → drop (record_length layout * n) u ≡ drop (record_length layout * n) t
kept p w t n b d u e = ap (drop (10 * n)) e ∙ done_behind t (n - 1) b (10 * n) (omega (arith, some p w t n d))

-- in a turn: the record that is done is the one before record `j`
down : (p : Rules) (w : List ℕ) (good : GoodEvents p w) (t rest : List ℕ) (j : ℕ) (from : ℕ → ℕ) → 0 < j → Swept good t rest j from → Swept good t rest (suc (j - 1)) from
down p w good t rest j from h s = let e : j ≡ suc (j - 1) = omega arith in subst (λ i. Swept good t rest i from) e s

inside : (p : Rules) (w t : List ℕ) (n : ℕ) (d : Drafted p w t n) (u rest : List ℕ) (j : ℕ) (from : ℕ → ℕ) → 0 < j → Swept d.log u rest j from → Inside u (j - 1) p.profile.k from
inside p w t n d u rest j from h s = swept_inside d.profile d.log u rest (j - 1) from (down p w d.log u rest j from h s)

pub overflow_sub-last : goal.overflow_sub-last
overflow_sub-last g c = some _ _ _ _ c.requires

pub put_done-requires : goal.put_done-requires
put_done-requires g c = omega (arith, some _ _ _ _ c.requires, c.requires.fits)

pub loop-j-init : goal.loop-j-init
loop-j-init g c =
    let s = c in
    let a = s.args in
    let from : ℕ → ℕ = λ x. get_or (replicate most_letters a.records) x 0 in (
      refl,
      refl,
      λ good. subst₂ (λ t r. Swept good t r (a.records - 1) from) (sym c.put_done.ensures) (sym (kept _ _ _ _ _ s.requires _ c.put_done.ensures))
          (swept_start s.requires.profile good a.table.now a.records s.requires from (λ x h. get_or-replicate most_letters x a.records 0 (omega (arith, s.requires.profile.relation.most)))),
    )

pub back_of-back-requires : goal.back_of-back-requires
back_of-back-requires g c =
    let l = c.loop-j in record {
      k_in_bounds = subst (λ (q : Profile). q.shape.k ≤ length l.cursors) (sym c.of-rows.ensures) (omega (arith, c.requires.profile.relation.most));
      inside = subst (λ (q : Profile). Inside l.table (l.j - 1) q.shape.k (λ x. get_or l.cursors x 0)) (sym c.of-rows.ensures)
          (inside _ _ _ _ c.requires l.table _ l.j (λ x. get_or l.cursors x 0) (omega arith) (l.invariant.2 c.requires.log));
    }

pub loop-j-preserved : goal.loop-j-preserved
loop-j-preserved g c =
    let s = c in
    let a = s.args in
    let l = c.loop-j in
    let b = c.back_of-back in
    let p : Rules = rules_of (lent a.profile.now) g.termed in
    let w : List ℕ = a.log.now in
    let from : ℕ → ℕ = λ x. get_or l.cursors x 0 in
    let after : ℕ → ℕ = λ x. get_or b.new.cursors x 0 in
    let least : 0 < l.j = omega arith in
    let before : suc (l.j - 1) < length (in_order p w) = omega (arith, some _ _ _ _ s.requires, records_are s.requires.profile s.requires.log a.table.now a.records s.requires) in
    let put = c.put_done-in-loop-j.ensures
    ∙ ap (done_at l.table (l.j - 1))
    (b.ensures.value
    ∙ ap (λ (q : Profile). back_from l.table (l.j - 1) q.shape.k q.shape.s q.moves.now from) c.of-rows.ensures
    ∙ swept_back s.requires.profile s.requires.log l.table _ (l.j - 1) from (down p w s.requires.log l.table _ l.j from least (l.invariant.2 s.requires.log)) before) in (
      c.put_done-in-loop-j.auto.table ∙ l.invariant.0,
      b.auto.cursors ∙ l.invariant.1,
      λ good. subst (λ t. Swept good t (drop (record_length layout * a.records) c.put_done.new.table) (l.j - 1) after) (sym put)
          (swept_next s.requires.profile good l.table _ (l.j - 1) from (down p w good l.table _ l.j from least (l.invariant.2 good)) after
          (λ x h. b.ensures.by_index x (subst (λ (q : Profile). x < q.shape.k) (sym c.of-rows.ensures) h))),
    )

pub returns : goal.returns
returns g c =
    let s = c in
    let a = s.args in
    let l = c.loop-j in
    let p : Rules = rules_of (lent a.profile.now) g.termed in
    let w : List ℕ = a.log.now in
    let z : l.j ≡ 0 = omega arith in
    let from : ℕ → ℕ = λ x. get_or l.cursors x 0 in
    let rest = drop (record_length layout * a.records) c.put_done.new.table in
    c.clear_flags.ensures
    ∙ cleared_all s.requires.profile s.requires.log l.table rest from (subst (λ i. Swept s.requires.log l.table rest i from) z (l.invariant.2 s.requires.log)) a.records (records_are s.requires.profile s.requires.log a.table.now a.records s.requires)
    ∙ ap (λ r. filled_all p w ++ r) (kept p w _ _ _ s.requires _ c.put_done.ensures)
