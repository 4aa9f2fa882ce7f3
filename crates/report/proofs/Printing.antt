-- What is printed, from what the judge and the reader promise.
use borrow.Author.Tests.{le-ltb, lt-ltb}
use mathlib.Core.Path.{◌≡◌, refl, sym, ◌∙◌, ap, ap₂, subst}
use mathlib.Core.List.Memᴰ
use mathlib.Core.List.{List, [], ◌∷◌, ◌++◌}
use mathlib.Core.Option.{Option, none, some}
use Prim.Native.Nat.{ℕ, ◌+◌, ◌-◌, ◌≤◌, ◌<◌}
use native.Mathlib.Omega.{arith}
use lib.Dec.{ltb}
use lib.ListN.{length, take, drop}
use lib.Seq.{take_at}
use Rattle.profile.specs.Limits.{longest_input, program_text}
use Rattle.profile.specs.Automata.{Profile}
use Rattle.profile.specs.Rules.{order_by, plain, prefixes_by}
use Rattle.profile.specs.Refusals.{judge_refusal, longest, lowest, refused_by}
use Rattle.profile.specs.declared.Shape.{Shape}
use Rattle.profile.specs.declared.Refusal.{Refusal}
use Rattle.profile.specs.declared.Refusal.TheVariants.{ShortBuffer}
use Rattle.theory.proofs.Refusals.{lowest_none}
use Rattle.logfile.specs.Files.{file_log, file_refusals, log_part_of, read_refusal, read_refusals, reading, short_buffers, unless}
use Rattle.std.specs.Prelude.{Result, Ok, Err}
use Rattle.verdict.specs.Verdict.{Promise}
use Rattle.verdict.specs.declared.Judged.TheVariants.{NoOrder, Order}
use Rattle.verdict.proofs.Judging.{admitted, order_length}
use Rattle.putting.specs.Putting.{Put}
use Rattle.report.specs.Report.{Responds, decimal, file_table, file_text, judged_table, judged_text, number_line, order_line, printed_with, refusal_line, response, table_after, table_left, too_long_line, unless_refused, verdict_lines, verdict_text, whether}
use Rattle.report.proofs.Decimal.{decimal_short}
use Rattle.putting.proofs.Texts.{length_three, put_front}

-- a line with a number of 64 bits
pub line_short : (word : List ℕ) (n : ℕ) → n < 18446744073709551616 → length (number_line word n) ≤ length word + 21
line_short word n h = omega (arith, length_three word (decimal n) (10 ∷ []), decimal_short 19 n (omega arith))

-- ---- the judge, with places for the longest log

module _ (p : Profile) (w order order' table table' : List ℕ) (places : length order ≡ longest) where
  abbrev told : Option Refusal → List ℕ
  told q = unless_refused q (verdict_text (prefixes_by (plain p) w) (order_by (plain p) w))

  as_placed : judge_refusal p w (length order) (length table) ≡ judge_refusal p w longest (length table)
  as_placed = ap (λ n. judge_refusal p w n (length table)) places

  refusal_as : {q : Option Refusal} → q ≡ judge_refusal p w (length order) (length table) → judged_text p w (length table) ≡ told q
  refusal_as e = ap told (sym (e ∙ as_placed))

  pub text_refused : (r : Refusal) → Promise p w order order' table table' (Err r) → judged_text p w (length table) ≡ refusal_line r
  text_refused r h = refusal_as h.refused

  pub text_none : (P n : ℕ) → Promise p w order order' table table' (Ok (NoOrder P n)) → judged_text p w (length table) ≡ verdict_lines 0 P
  text_none P n h = refusal_as h.refused ∙ ap₂ verdict_text (sym h.told.2.prefixes) h.told.0

  pub text_some : (P n : ℕ) → Promise p w order order' table table' (Ok (Order P n)) → judged_text p w (length table) ≡ verdict_lines 1 P ++ order_line (take (length w - 0) (drop 0 order'))
  text_some P n h =
      let z : length w - 0 ≡ length w = omega arith in
      let v = h.told.0 in
      let e = order_length p w h.told.1 in
      refusal_as h.refused ∙ ap₂ verdict_text (sym h.told.3.prefixes) h.told.1
      ∙ ap (λ l. verdict_lines 1 P ++ order_line l) (sym (ap₂ take z h.told.2 ∙ take_at v (drop (length w) order) (length w) e))

  -- the order has place
  pub order_room : (P n : ℕ) → Promise p w order order' table table' (Ok (Order P n)) → length w ≤ longest
  order_room P n h = omega (arith, (admitted p w order table (sym h.refused)).room)

  -- what becomes of the table
  pub table_refused : (r : Refusal) → Promise p w order order' table table' (Err r) → judged_table p w table table'
  table_refused r h = subst (λ q. table_left q p w table table') (h.refused ∙ as_placed) h.told.1

  pub table_none : (P n : ℕ) → Promise p w order order' table table' (Ok (NoOrder P n)) → judged_table p w table table'
  table_none P n h = subst (λ q. table_left q p w table table') (h.refused ∙ as_placed) h.told.2.table

  pub table_some : (P n : ℕ) → Promise p w order order' table table' (Ok (Order P n)) → judged_table p w table table'
  table_some P n h = subst (λ q. table_left q p w table table') (h.refused ∙ as_placed) h.told.3.table

-- ---- the reader, with 16 places for masks and 512 for moves

-- the numbers that an answer tells, or else h
abbrev pub shape_by : Shape → Result (Shape × ℕ) Refusal → Shape
shape_by h (Err r) = h
shape_by h (Ok (g, n)) = g

pub refusal_read : (q : Option Refusal) (h : Shape) (n : ℕ) {r : Result (Shape × ℕ) Refusal} → reading q h n ≡ r → q ≡ refused_by r
refusal_read none h n e = ap refused_by e
refusal_read (some r) h n e = ap refused_by e

pub shape_read : (q : Option Refusal) (h : Shape) (n : ℕ) {r : Result (Shape × ℕ) Refusal} → reading q h n ≡ r → h ≡ shape_by h r
shape_read none h n e = ap (shape_by h) e
shape_read (some r) h n e = ap (shape_by h) e

-- a file of which nothing is refused is not refused by 1 to 8
pub file_good : (f : List ℕ) (a b : ℕ) → read_refusal f a b ≡ none → lowest (file_refusals f) ≡ none
file_good f a b e =
    let h = (lowest_none (read_refusals f a b)).0 e in
    (lowest_none (file_refusals f)).1 (λ c m. h c (Memᴰ.append_left ((short_buffers f a b, ShortBuffer) ∷ []) m))

pub log_told : (f : List ℕ) → lowest (file_refusals f) ≡ none → log_part_of f ≡ file_log f
log_told f e = ap (λ q. unless q (file_log f) []) e

-- ---- the input, with o bytes for the text

printed_long : (f : List ℕ) (m : ℕ) → longest_input < length f → printed_with f m ≡ too_long_line
printed_long f m h = let e = lt-ltb longest_input (length f) h in rw (e, printed_with)

printed_file : (f : List ℕ) (m : ℕ) → length f ≤ longest_input → printed_with f m ≡ file_text f m
printed_file f m h = let e = le-ltb longest_input (length f) h in rw (e, printed_with)

module _ (f b a : List ℕ) (o : ℕ) where
  pub answer_short : o < program_text → a ≡ b → (response f o (length b) ≡ []) × table_after f o b a
  answer_short h e =
      let s = lt-ltb o program_text h in
      (rw (s, response), subst (λ t. whether t (a ≡ b) (whether (ltb longest_input (length f)) (a ≡ b) (file_table f b a))) (sym s) e)

  module _ (room : program_text ≤ o) where
    in_room : response f o (length b) ≡ printed_with f (length b)
    in_room = let e = le-ltb o program_text room in rw (e, response)

    inside : whether (ltb longest_input (length f)) (a ≡ b) (file_table f b a) → table_after f o b a
    inside t = subst (λ x. whether x (a ≡ b) (whether (ltb longest_input (length f)) (a ≡ b) (file_table f b a))) (sym (le-ltb o program_text room)) t

    pub answer_long : longest_input < length f → a ≡ b → (response f o (length b) ≡ too_long_line) × table_after f o b a
    answer_long h e =
        let l = lt-ltb longest_input (length f) h in
        (in_room ∙ printed_long f (length b) h, inside (subst (λ t. whether t (a ≡ b) (file_table f b a)) (sym l) e))

    pub answer_file : length f ≤ longest_input → file_table f b a → (response f o (length b) ≡ file_text f (length b)) × table_after f o b a
    answer_file h e =
        let l = le-ltb longest_input (length f) h in
        (in_room ∙ printed_file f (length b) h, inside (subst (λ t. whether t (a ≡ b) (file_table f b a)) (sym l) e))

-- ---- what the program's text function promises

pub responds_long : {f out out' b : List ℕ} {r : ℕ} → program_text ≤ length out → longest_input < length f → Put out 0 too_long_line out' r → Responds f out out' b b r
responds_long {f} {out} {out'} {b} room h p =
    let t = answer_long f b b (length out) room h refl in
    record { text = (put_front p).0 ∙ sym t.0; rest = (p.room, (put_front p).1); table = t.1 }

pub responds_file : {f out out' b a : List ℕ} {r : ℕ} → program_text ≤ length out → length f ≤ longest_input → Put out 0 (file_text f (length b)) out' r → file_table f b a → Responds f out out' b a r
responds_file {f} {out} {out'} {b} {a} room h p e =
    let t = answer_file f b a (length out) room h e in
    record { text = (put_front p).0 ∙ sym t.0; rest = (p.room, (put_front p).1); table = t.1 }
