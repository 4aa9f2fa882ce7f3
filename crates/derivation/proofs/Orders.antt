-- The order is written part by part: what is still to be written, for any letters that fit there, completes it.
use mathlib.Core.Path.{◌≡◌, refl, sym, ◌∙◌, ap, ap₂, subst}
use mathlib.Core.Bool.{Bool}
use mathlib.Core.Logic.{◌≢◌}
use mathlib.Core.List.{List, [], ◌∷◌, ◌++◌}
use Prim.Native.Nat.{ℕ, ◌+◌, ◌-◌, ◌≤◌, ◌<◌}
use native.Mathlib.Omega.{arith}
use lib.Dec.{T}
use lib.ListN.{length, set}
use Rattle.profile.specs.Traces.{independent}
use Rattle.theory.proofs.Profiles.{distinct}
use Rattle.grammars.specs.Grammars.{grammar_of}
use Rattle.grammars.proofs.Spans.{spans_join}
use Rattle.grammars.proofs.Places.{spans_total}
use Rattle.pairs.specs.declared.nested.Nested.{Nested}
use Rattle.pairs.specs.Settings.{Setting}
use Rattle.pairs.specs.Pairs.{Between, Spans, total_in}
use Rattle.parts.specs.Parts.{StepIs}
use Rattle.derivation.specs.Deriving.{Written, splice}
use Rattle.parts.specs.declared.Split.{Split}
use Rattle.parts.specs.declared.Step.TheVariants.{Leaf, Parts}
use Rattle.pairs.proofs.Cells.{total_le}
use Rattle.derivation.proofs.Splices.{splice_left, splice_length, splice_one, splice_right}

pub record Going (on : Nested) (i j name : ℕ) (before : List ℕ) (n from to : ℕ) (now : List ℕ) : Type 0 where
  pub low : i ≤ from
  pub high : to ≤ j
  pub apart : from < to
  pub same : length now ≡ length before
  pub part : Between on from to n
  pub rest : (u : List ℕ) → Spans on from to n u
      → Written on i j name before (splice now (total_in on from) u)

module _ (on : Nested) (i j name : ℕ) (hj : j < on.records) (before : List ℕ) (room : length on.log.now ≤ length before) where
  abbrev k : ℕ
  k = on.grammar.k

  abbrev masks : List ℕ
  masks = on.grammar.masks.now

  abbrev rules : List ℕ
  rules = on.grammar.rules.now

  abbrev w : List ℕ
  w = on.log.now

  abbrev table : List ℕ
  table = on.table.now

  abbrev records : ℕ
  records = on.records

  abbrev s : Setting k masks w table records
  s = on.setting

  abbrev differ : (a b : ℕ) → T (independent masks a b) → a ≢ b
  differ = distinct masks s.relation.own

  abbrev tot : ℕ → ℕ
  tot a = total_in on a

  long : (a b : ℕ) {n : ℕ} {u : List ℕ} → a < records → b < records → Spans on a b n u → (tot b ≡ tot a + length u) × (tot b ≤ length before)
  long a b ha hb x =
      let e = spans_total (independent masks) differ k w s.log.letters (grammar_of rules) a b (omega (arith, s.whole)) (omega (arith, s.whole)) x in
      let l = total_le on b hb in
      (e, omega arith)

  pub going_start : i < j → Between on i j name
      → Going on i j name before name i j before
  going_start h b = record { low = omega arith; high = omega arith; apart = h; same = refl; part = b; rest = λ u x. record { word = u; spans = x; written = refl } }

  module _ (n from to : ℕ) (now : List ℕ) (g : Going on i j name before n from to now) where
    pub leaf_room : (at a : ℕ) → StepIs on from to n (Leaf at a) → at < length now
    leaf_room at a x =
        let l = long from to (omega (arith, g.apart, g.high)) (omega (arith, g.high)) x.1 in
        lt_by at (tot from) (tot to) (length before) (length now) x.0 l.0 l.1 g.same
      where
        lt_by : (at t u b m : ℕ) → at ≡ t → u ≡ t + 1 → u ≤ b → m ≡ b → at < m
        lt_by at t u b m e f h q = omega arith

    pub going_leaf : (at a : ℕ) → StepIs on from to n (Leaf at a) → Written on i j name before (set now at a)
    going_leaf at a x = subst (Written on i j name before)
        (sym (splice_one now at a (leaf_room at a x) ∙ ap (λ t. splice now t (a ∷ [])) x.0)) (g.rest (a ∷ []) x.1)

    module _ (p : Split) (left : Bool) (x : StepIs on from to n (Parts p left)) (now' : List ℕ) where
      pub going_left : Written on from p.at p.first now now' → Going on i j name before p.second p.at to now'
      going_left y =
          let u = y.word in
          let l = long from p.at (omega (arith, g.apart, g.high)) (omega (arith, x.1, g.high)) y.spans in
          let room' : tot from + length u ≤ length now = le-by (tot from) (length u) (tot p.at) (length before) (length now) l.0 l.1 g.same in
          record {
            low = omega (arith, g.low, x.0);
            high = g.high;
            apart = x.1;
            same = ap length y.written ∙ splice_length now (tot from) u room' ∙ g.same;
            part = x.4;
            rest = λ v z. subst (Written on i j name before)
                (sym (ap₂ (λ m t. splice m t v) y.written l.0 ∙ splice_right now (tot from) u v room'))
                (g.rest (u ++ v) (spans_join (independent masks) (grammar_of rules) w differ x.2 y.spans z));
          }
        where
          le-by : (t n u b m : ℕ) → u ≡ t + n → u ≤ b → m ≡ b → t + n ≤ m
          le-by t n u b m f h q = omega arith

      pub going_right : Written on p.at to p.second now now' → Going on i j name before p.first from p.at now'
      going_right y =
          let v = y.word in
          let hm : p.at < records = omega (arith, x.1, g.high) in
          let l = long p.at to hm (omega (arith, g.high)) y.spans in
          let room' : tot p.at + length v ≤ length now = le-by (tot p.at) (length v) (tot to) (length before) (length now) l.0 l.1 g.same in
          record {
            low = g.low;
            high = omega (arith, x.1, g.high);
            apart = x.0;
            same = ap length y.written ∙ splice_length now (tot p.at) v room' ∙ g.same;
            part = x.3;
            rest = λ u z.
                let f = long from p.at (omega (arith, g.apart, g.high)) hm z in
                subst (Written on i j name before)
                (sym (ap (λ m. splice m (tot from) u) (y.written ∙ ap (λ t. splice now t v) f.0)
                ∙ splice_left now (tot from) u v (le-by (tot from) (length u) (tot p.at) (length before) (length now) f.0 f.1 g.same)))
                (g.rest (u ++ v) (spans_join (independent masks) (grammar_of rules) w differ x.2 z y.spans));
          }
        where
          le-by : (t n u b m : ℕ) → u ≡ t + n → u ≤ b → m ≡ b → t + n ≤ m
          le-by t n u b m f h q = omega arith

-- each part is smaller than both
pub less_left : (a m b : ℕ) → a < m → m < b → b - m < b - a
less_left a m b h k = omega arith

pub less_right : (a m b : ℕ) → a < m → m < b → m - a < b - a
less_right a m b h k = omega arith
