-- `report::put_file` meets its contract: what is judged is the file's profile and log.
use mathlib.Core.Path.{◌≡◌, refl, sym, ◌∙◌, ap, ap₂, subst, subst₂}
use mathlib.Core.List.{List}
use mathlib.Core.Option.{Option, none}
use Prim.Native.Nat.{ℕ, ◌-◌, ◌*◌, ◌≤◌}
use native.Mathlib.Omega.{arith}
use lib.ListN.{length, take, drop, replicate}
use Rattle.profile.specs.Limits.{letters_byte, masks_byte, most_letters, most_moves, moves_byte, states_byte}
use Rattle.profile.specs.Automata.{profile_of}
use Rattle.profile.specs.declared.Shape.{Shape}
use Rattle.profile.specs.declared.Refusal.{Refusal}
use Rattle.logfile.specs.Files.{field, file_log, file_masks, file_moves, file_profile, file_shape, filled, log_length, log_part_of, read_refusal, reading, section}
use Rattle.std.specs.Prelude.{Result, Ok}
use Rattle.logfile.proofs.Bytes.{numbers_length}
use Rattle.logfile.proofs.Sections.{first_part, open_file, shape_known}
use Rattle.report.specs.Report.{judged_table, judged_text, read_table, unless_refused}
use Rattle.report.proofs.Printing.{file_good, log_told, refusal_read, shape_read}
use Rattle.putting.proofs.Texts.{put_as}
use Rattle.report.proofs.put_file.Goals as goal

-- what a file is refused by, with places for the most masks and moves
abbrev file_refusal : List ℕ → Option Refusal
file_refusal f = read_refusal f most_letters most_moves

-- k and s are in range
known : (f : List ℕ) {h : Shape} → file_refusal f ≡ none → h ≡ file_shape f →
    (h.k ≡ field f letters_byte) × (h.s * h.k ≡ field f states_byte * field f letters_byte) × (h.k ≤ most_letters) × (h.s * h.k ≤ most_moves)
known f e s = shape_known f s (open_file f (file_good f most_letters most_moves e)).0

-- what is judged is the file's profile and log
profile_read : (f : List ℕ) (h : Shape) (l v : List ℕ) {w : List ℕ} → file_refusal f ≡ none → h ≡ file_shape f →
    l ≡ filled (file_refusal f) (file_masks f) (replicate most_letters 0) → v ≡ filled (file_refusal f) (file_moves f) (replicate most_moves 0) → w ≡ log_part_of f →
    (profile_of h (take (h.k - 0) (drop 0 l)) (take (h.s * h.k - 0) (drop 0 v)) ≡ file_profile f) × (w ≡ file_log f)
profile_read f h l v e s a b p =
    let n = known f e s in
    let masks = first_part (file_masks f) (replicate most_letters 0) l (a ∙ ap (λ q. filled q (file_masks f) (replicate most_letters 0)) e) (numbers_length 2 f (section f masks_byte) (field f letters_byte) ∙ sym n.0) in
    let moves = first_part (file_moves f) (replicate most_moves 0) v (b ∙ ap (λ q. filled q (file_moves f) (replicate most_moves 0)) e)
    (numbers_length 4 f (section f moves_byte) (field f states_byte * field f letters_byte) ∙ sym n.1) in
    (ap (λ g. profile_of g (take (h.k - 0) (drop 0 l)) (take (h.s * h.k - 0) (drop 0 v))) s ∙ ap₂ (profile_of (file_shape f)) masks moves, p ∙ log_told f (file_good f most_letters most_moves e))

-- what an answer that tells the numbers says of the file
told : (f : List ℕ) {g : Shape} {n : ℕ} {r : Result (Shape × ℕ) Refusal} → r ≡ reading (file_refusal f) (file_shape f) (log_length f) → r ≡ Ok (g, n) → (file_refusal f ≡ none) × (g ≡ file_shape f)
told f e i =
    let t = sym e ∙ i in
    (refusal_read (file_refusal f) (file_shape f) (log_length f) t, sym (shape_read (file_refusal f) (file_shape f) (log_length f) t))

pub overflow_mul-count : goal.overflow_mul-count
overflow_mul-count c =
    let f = c.args.file.now in
    let t = told f c.read_file.ensures.0 c.in-Ok.is in
    omega (arith, known f t.0 t.1)

pub slice_bounds-put_judged-end : goal.slice_bounds-put_judged-end
slice_bounds-put_judged-end c =
    let f = c.args.file.now in
    let t = told f c.read_file.ensures.0 c.in-Ok.is in
    omega (arith, known f t.0 t.1, c.read_file.auto.masks)

pub slice_bounds-put_judged-end-in-Ok : goal.slice_bounds-put_judged-end-in-Ok
slice_bounds-put_judged-end-in-Ok c =
    let f = c.args.file.now in
    let t = told f c.read_file.ensures.0 c.in-Ok.is in
    omega (arith, known f t.0 t.1, c.read_file.auto.moves)

pub returns-in-Err-clause-put : goal.returns-in-Err-clause-put
returns-in-Err-clause-put c =
    let f = c.args.file.now in
    let b = c.args.work.now in
    let e = refusal_read (file_refusal f) (file_shape f) (log_length f) (sym c.read_file.ensures.0 ∙ c.in-Err.is) in
    put_as (sym (ap (λ q. unless_refused q (judged_text (file_profile f) (file_log f) (length b))) e)) c.put_refused.ensures

pub returns-in-Err-clause-file_table : goal.returns-in-Err-clause-file_table
returns-in-Err-clause-file_table c =
    let f = c.args.file.now in
    let b = c.args.work.now in
    let e = refusal_read (file_refusal f) (file_shape f) (log_length f) (sym c.read_file.ensures.0 ∙ c.in-Err.is) in
    subst (λ q. read_table q f b b) (sym e) refl

pub returns-in-Ok-clause-put : goal.returns-in-Ok-clause-put
returns-in-Ok-clause-put c =
    let f = c.args.file.now in
    let b = c.args.work.now in
    let r = c.read_file in
    let t = told f r.ensures.0 c.in-Ok.is in
    let g = profile_read f c.in-Ok.shape r.new.masks r.new.moves t.0 t.1 r.ensures.1 r.ensures.2 c.log_part-log.ensures in
    put_as (ap₂ (λ p w. judged_text p w (length b)) g.0 g.1 ∙ sym (ap (λ q. unless_refused q (judged_text (file_profile f) (file_log f) (length b))) t.0)) c.put_judged.ensures.put

pub returns-in-Ok-clause-file_table : goal.returns-in-Ok-clause-file_table
returns-in-Ok-clause-file_table c =
    let f = c.args.file.now in
    let b = c.args.work.now in
    let r = c.read_file in
    let t = told f r.ensures.0 c.in-Ok.is in
    let g = profile_read f c.in-Ok.shape r.new.masks r.new.moves t.0 t.1 r.ensures.1 r.ensures.2 c.log_part-log.ensures in
    subst (λ q. read_table q f b c.put_judged.new.work) (sym t.0) (subst₂ (λ p w. judged_table p w b c.put_judged.new.work) g.0 g.1 c.put_judged.ensures.judged_table)
