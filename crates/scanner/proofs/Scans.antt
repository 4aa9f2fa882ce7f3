-- The pass over a text, byte by byte.
use mathlib.Core.Path.{◌≡◌, refl, sym, ◌∙◌, ap, ap₂, subst}
use mathlib.Core.Bool.{Bool, true, false, not, cond}
use mathlib.Core.List.{List, [], ◌∷◌}
use mathlib.Core.Option.{Option, none, some}
use Prim.Native.Nat.{ℕ, zero, suc, ◌+◌, ◌-◌, ◌^◌, ◌≤◌, ◌<◌, max}
use native.Mathlib.Omega.{arith}
use native.Mathlib.Numerals.{add-one}
use lib.Bits.{bit_or, or_zero_r}
use lib.Dec.{T, eqb, eqb→eq, eqb_refl, leb, leb→le, ltb, ltb→lt}
use lib.ListN.{drop, drop_of_length-le, get_or, get_or-replicate, length, length-set, replicate, set}
use lib.Seq.{drop-cons, ext_get_or, get_or-set_other, get_or-set_same}
use borrow.Author.Tests.{ne_eqb}
use Rattle.profile.specs.Limits.{most_letters, most_states, most_typed}
use Rattle.profile.proofs.Lists.{fst_of, is_true, snd_of}
use Rattle.expressions.specs.Positions.{typed_as, when}
use Rattle.expressions.specs.Texts.{letter?}
use Rattle.expressions.specs.Passes.{Place, Sign, after, closes, deepest, ended, fault, fault_from, later, letter, letters_of, next, open_after, opens, other, parts, repeats, sign}
use Rattle.expressions.proofs.Passes.{Means, fault_goes, fault_stops, shift, sign_means}
use Rattle.expressions.proofs.Letters.{letters_no, letters_yes}
use Rattle.profile.proofs.Sets.{or_assoc}
use Rattle.theory.proofs.Counting.{at_map, length_range}
use Rattle.scanner.specs.declared.Scanned.{Scanned}
use Rattle.std.specs.Prelude.{Ok, Err}
use Rattle.scanner.specs.Scan.{right_as, scanned, scanned_as, sets_of}

true_t : (b : Bool) → b ≡ true → T b
true_t b e = subst T (sym e) tt

not_T : (b : Bool) → b ≡ false → T b → ⊥
not_T b e t = subst T e t

false_t : (b : Bool) → b ≡ false → T (not b)
false_t b e = subst (λ x. T (not x)) (sym e) tt

-- ---- one byte

module _ (k c : ℕ) where
  pub sign_letter : letter? k c ≡ true → sign k c ≡ letter
  sign_letter e = rw e

  pub sign_other : letter? k c ≡ false → (c ≡ 40 → ⊥) → (c ≡ 41 → ⊥) → (c ≡ 42 → ⊥) → (c ≡ 124 → ⊥) → sign k c ≡ other
  sign_other e a b d f = go (sign k c) (sign_means k c)
    where
      go : (g : Sign) → Means k c g → g ≡ other
      go letter m = absurd (not_T (letter? k c) e m)
      go opens m = absurd (a m)
      go closes m = absurd (b m)
      go repeats m = absurd (d m)
      go parts m = absurd (f m)
      go other m = refl

  -- where a letter or a bracket must come, nothing else may
  pub next_wanting : (d : ℕ) → letter? k c ≡ false → (c ≡ 40 → ⊥) → next (sign k c) true d ≡ none
  next_wanting d e a = go (sign k c) (sign_means k c)
    where
      go : (g : Sign) → Means k c g → next g true d ≡ none
      go letter m = absurd (not_T (letter? k c) e m)
      go opens m = absurd (a m)
      go closes m = refl
      go repeats m = refl
      go parts m = refl
      go other m = refl

pub closes_none : (d : ℕ) → d ≡ 0 → next closes false d ≡ none
closes_none d e = ap (next closes false) e

pub closes_some : (d : ℕ) → (d ≡ 0 → ⊥) → next closes false d ≡ after false (d - 1)
closes_some zero h = absurd (h refl)
closes_some (suc d) h = let e : d ≡ suc d - 1 = omega arith in ap (after false) e

-- a letter's byte
pub letter_byte : (k c : ℕ) → k ≤ most_letters → letter? k c ≡ true → (97 ≤ c) × (c - 97 < most_letters)
letter_byte k c few e =
    let t = true_t (letter? k c) e in
    let a = leb→le 97 c (fst_of (leb 97 c) (ltb c (97 + k)) t) in
    let b = ltb→lt c (97 + k) (snd_of (leb 97 c) (ltb c (97 + k)) t) in
    omega arith

open_most : (c d : ℕ) → open_after c d ≤ d + 1
open_most c d = go (eqb c 40) (eqb c 41)
  where
    go : (a b : Bool) → cond a (suc d) (cond b (d - 1) d) ≤ d + 1
    go true b = omega arith
    go false true = omega arith
    go false false = omega arith

open_other : (c d : ℕ) → (c ≡ 40 → ⊥) → (c ≡ 41 → ⊥) → d ≡ open_after c d
open_other c d f g = rw (ne_eqb c 40 f, ne_eqb c 41 g)

-- the brackets that are open are counted as the pass counts them
abbrev Counts : ℕ → ℕ → Option Place → Type 0
Counts c d none = Unit {0}
Counts c d (some s) = s.depth ≡ open_after c d

counted : (k c : ℕ) → k ≤ most_letters → (g : Sign) → Means k c g → (w : Bool) (d : ℕ) → Counts c d (next g w d)
counted k c few letter m w d = let b = letter_byte k c few (is_true (letter? k c) m) in open_other c d (λ e. omega (arith, b.0)) (λ e. omega (arith, b.0))
counted k c few opens m w d = ap (λ c. open_after c d) (sym m)
counted k c few closes m true d = tt
counted k c few closes m false zero = tt
counted k c few closes m false (suc d) = let e : d ≡ suc d - 1 = omega arith in e ∙ ap (λ c. open_after c (suc d)) (sym m)
counted k c few repeats m true d = tt
counted k c few repeats m false d = open_other c d (λ e. omega arith) (λ e. omega arith)
counted k c few parts m true d = tt
counted k c few parts m false d = open_other c d (λ e. omega arith) (λ e. omega arith)
counted k c few other m w d = tt

next_open : (k c : ℕ) → k ≤ most_letters → (w v : Bool) (d e : ℕ) → next (sign k c) w d ≡ after v e → e ≡ open_after c d
next_open k c few w v d e q = subst (Counts c d) q (counted k c few (sign k c) (sign_means k c) w d)

-- ---- the pass

shift_later : (i : ℕ) (o : Option ℕ) → shift i (later o) ≡ shift (i + 1) o
shift_later i none = refl
shift_later i (some j) = let e : i + suc j ≡ i + 1 + j = omega arith in ap some e

shift_zero : (o : Option ℕ) → o ≡ shift 0 o
shift_zero none = refl
shift_zero (some j) = let e : j ≡ 0 + j = omega arith in ap some e

shift_here : (i : ℕ) → shift i (some 0) ≡ some i
shift_here i = let e : i + 0 ≡ i = omega arith in ap some e

-- the letters of a text, its first byte being c
module _ (k c : ℕ) (u : List ℕ) where
  pub letters_first : letter? k c ≡ true → letters_of k (c ∷ u) ≡ (c - 97) ∷ letters_of k u
  letters_first e = letters_yes k c u (true_t (letter? k c) e)

  pub letters_skip : letter? k c ≡ false → letters_of k (c ∷ u) ≡ letters_of k u
  letters_skip e = letters_no k c u (false_t (letter? k c) e)

letters_one : (k c : ℕ) (u : List ℕ) → length (letters_of k (c ∷ u)) ≡ length (letters_of k (c ∷ [])) + length (letters_of k u)
letters_one k c u = go (letter? k c) refl
  where
    go : (b : Bool) → letter? k c ≡ b → length (letters_of k (c ∷ u)) ≡ length (letters_of k (c ∷ [])) + length (letters_of k u)
    go true e = omega (arith, ap length (letters_first k c u e), ap length (letters_first k c [] e))
    go false e = omega (arith, ap length (letters_skip k c u e), ap length (letters_skip k c [] e))

pub at_most_one : (k c : ℕ) → length (letters_of k (c ∷ [])) ≤ 1
at_most_one k c = go (letter? k c) refl
  where
    go : (b : Bool) → letter? k c ≡ b → length (letters_of k (c ∷ [])) ≤ 1
    go true e = omega (arith, ap length (letters_first k c [] e))
    go false e = omega (arith, ap length (letters_skip k c [] e))

-- what was seen of the first i bytes, with what is still to come, is the whole
pub record Passed (k : ℕ) (u : List ℕ) (want : Bool) (depth most letters i : ℕ) : Type 0 where
  pub opened : depth ≤ i
  pub typed : letters ≤ i
  pub place : fault k u ≡ shift i (fault_from k want depth (drop i u))
  pub deep : deepest 0 u ≡ max most (deepest depth (drop i u))
  pub count : letters + length (letters_of k (drop i u)) ≡ length (letters_of k u)

pub passed_start : (k : ℕ) (u : List ℕ) → Passed k u true 0 0 0 0
passed_start k u = record { opened = omega arith; typed = omega arith; place = shift_zero (fault k u); deep = omega arith; count = omega arith }

from_here : (u : List ℕ) (i : ℕ) → i < length u → drop i u ≡ get_or u i 0 ∷ drop (i + 1) u
from_here u i h = drop-cons u i 0 h ∙ ap (λ j. get_or u i 0 ∷ drop j u) (sym (add-one i))

module _ (k : ℕ) (u : List ℕ) (w : Bool) (d m n i : ℕ) (p : Passed k u w d m n i) where
  broken : fault k u ≡ some i → Err i ≡ scanned k u
  broken e = sym (ap (λ o. scanned_as o (deepest 0 u) (length (letters_of k u))) e)

  module _ (h : i < length u) where
    -- the byte at i is the place …
    pub passed_stops : next (sign k (get_or u i 0)) w d ≡ none → Err i ≡ scanned k u
    passed_stops q =
        broken (p.place ∙ (ap (λ l. shift i (fault_from k w d l)) (from_here u i h) ∙ (ap (shift i) (fault_stops k (get_or u i 0) w d (drop (i + 1) u) q) ∙ shift_here i)))

    -- … or good
    pub passed_goes : k ≤ most_letters → (v : Bool) (e m' n' : ℕ) → next (sign k (get_or u i 0)) w d ≡ after v e → m' ≡ max m d → n' ≡ n + length (letters_of k (get_or u i 0 ∷ [])) → Passed k u v e m' n' (i + 1)
    passed_goes few v e m' n' q a b =
        let c = get_or u i 0 in
        let rest = drop (i + 1) u in
        let o = next_open k c few w v d e q in
        let l = from_here u i h in
        let deeper : max m (max d (deepest (open_after c d) rest)) ≡ max m' (deepest e rest) = (let s : deepest (open_after c d) rest ≡ deepest e rest = ap (λ x. deepest x rest) (sym o) in omega (arith, a, s)) in
        record {
          opened = omega (arith, o, open_most c d, p.opened);
          typed = omega (arith, b, p.typed, at_most_one k c);
          place = p.place ∙ (ap (λ l. shift i (fault_from k w d l)) l ∙ (ap (shift i) (fault_goes k c w d rest (record { want = v; depth = e }) q) ∙ shift_later i (fault_from k v e rest)));
          deep = p.deep ∙ (ap (λ l. max m (deepest d l)) l ∙ deeper);
          count = omega (arith, b, p.count, ap (λ l. length (letters_of k l)) l, letters_one k c rest);
        }

  module _ (h : length u ≤ i) where
    none_left : drop i u ≡ []
    none_left = drop_of_length-le u {i = i} h

    ends : fault k u ≡ shift i (ended w d)
    ends = p.place ∙ ap (λ l. shift i (fault_from k w d l)) none_left

    pub passed_wanting : w ≡ true → Err i ≡ scanned k u
    passed_wanting e = broken (ends ∙ (ap (λ w. shift i (ended w d)) e ∙ shift_here i))

    pub passed_open : w ≡ false → (d ≡ 0 → ⊥) → Err i ≡ scanned k u
    passed_open e f = broken (ends ∙ (ap (λ w. shift i (ended w d)) e ∙ unclosed d f))
      where
        unclosed : (d : ℕ) → (d ≡ 0 → ⊥) → shift i (ended false d) ≡ some i
        unclosed zero f = absurd (f refl)
        unclosed (suc d) f = shift_here i

    pub passed_right : w ≡ false → d ≡ 0 → right_as m n ≡ scanned k u
    passed_right e z =
        let right : fault k u ≡ none = ends ∙ ap₂ (λ w d. shift i (ended w d)) e z in
        let deep : m ≡ deepest 0 u = omega (arith, z, p.deep ∙ ap (λ l. max m (deepest d l)) none_left) in
        let count : n ≡ length (letters_of k u) = omega (arith, p.count, ap (λ l. length (letters_of k l)) none_left) in
        ap₂ right_as deep count ∙ sym (ap (λ o. scanned_as o (deepest 0 u) (length (letters_of k u))) right)

-- what the pass tells, taken apart
module _ (k : ℕ) (u : List ℕ) where
  pub scanned_broken : {i : ℕ} → scanned k u ≡ Err i → fault k u ≡ some i
  scanned_broken {i} e = go (fault k u) e
    where
      go : (o : Option ℕ) → scanned_as o (deepest 0 u) (length (letters_of k u)) ≡ Err i → o ≡ some i
      go none q = cc
      go (some j) q = cc

  scanned_ok : {s : Scanned} → scanned k u ≡ Ok s → (fault k u ≡ none) × (s.deepest ≡ deepest 0 u) × (s.letters ≡ length (letters_of k u))
  scanned_ok {s} e = go (fault k u) e
    where
      go : (o : Option ℕ) → scanned_as o (deepest 0 u) (length (letters_of k u)) ≡ Ok s → (o ≡ none) × (s.deepest ≡ deepest 0 u) × (s.letters ≡ length (letters_of k u))
      go none q = (refl, cc, cc)
      go (some j) q = absurd (cc)

  pub scanned_right : {d n : ℕ} → scanned k u ≡ right_as d n → (fault k u ≡ none) × (d ≡ deepest 0 u) × (n ≡ length (letters_of k u))
  scanned_right e = scanned_ok e

-- ---- the numbers of each letter

-- what is put so far, with what is still to come, is the whole
pub record Filled (k : ℕ) (u sets : List ℕ) (n i : ℕ) : Type 0 where
  pub long : length sets ≡ most_letters
  pub numbers : n + length (letters_of k (drop i u)) ≡ 1 + length (letters_of k u)
  pub each : (a : ℕ) → a < most_letters → bit_or (get_or sets a 0) (typed_as a n (letters_of k (drop i u))) ≡ typed_as a 1 (letters_of k u)

pub filled_end : (k : ℕ) (u sets : List ℕ) (n i : ℕ) → length u ≤ i → Filled k u sets n i → sets ≡ sets_of k u
filled_end k u sets n i h f =
    ext_get_or 0 sets (sets_of k u) (f.long ∙ sym (length_range (λ a. typed_as a 1 (letters_of k u)) most_letters 0)) (λ a b.
    let lt : a < most_letters = subst (λ m. a < m) f.long b in
    let z : 0 + a ≡ a = omega arith in
    sym (or_zero_r (get_or sets a 0)) ∙ (ap (λ l. bit_or (get_or sets a 0) (typed_as a n l)) (sym (ap (letters_of k) (drop_of_length-le u {i = i} h))) ∙ (f.each a lt
    ∙ sym (at_map (λ a. typed_as a 1 (letters_of k u)) most_letters 0 a lt ∙ ap (λ a. typed_as a 1 (letters_of k u)) z))))

module _ (k : ℕ) (u sets : List ℕ) (n i : ℕ) (h : i < length u) (f : Filled k u sets n i) where
  typed_here : letter? k (get_or u i 0) ≡ true → letters_of k (drop i u) ≡ (get_or u i 0 - 97) ∷ letters_of k (drop (i + 1) u)
  typed_here e = ap (letters_of k) (from_here u i h) ∙ letters_first k (get_or u i 0) (drop (i + 1) u) e

  pub filled_no : letter? k (get_or u i 0) ≡ false → Filled k u sets n (i + 1)
  filled_no e =
      let q = ap (letters_of k) (from_here u i h) ∙ letters_skip k (get_or u i 0) (drop (i + 1) u) e in
      record {
        long = f.long;
        numbers = omega (arith, f.numbers, ap length q);
        each = λ a b. ap (λ l. bit_or (get_or sets a 0) (typed_as a n l)) (sym q) ∙ f.each a b;
      }

  pub filled_few : letter? k (get_or u i 0) ≡ true → length (letters_of k u) ≤ most_typed → n < most_states
  filled_few e b = omega (arith, f.numbers, ap length (typed_here e))

  pub filled_yes : letter? k (get_or u i 0) ≡ true → get_or u i 0 - 97 < most_letters → Filled k u (set sets (get_or u i 0 - 97) (bit_or (get_or sets (get_or u i 0 - 97) 0) (2 ^ n))) (n + 1) (i + 1)
  filled_yes e b =
      let x = get_or u i 0 - 97 in
      let q = typed_here e in
      let R = letters_of k (drop (i + 1) u) in
      record {
        long = simp length-set f.long;
        numbers = omega (arith, f.numbers, ap length q);
        each = λ a lt. go a lt (eqb x a) refl;
      }
    where
      go : (a : ℕ) → a < most_letters → (t : Bool) → eqb (get_or u i 0 - 97) a ≡ t
          → bit_or (get_or (set sets (get_or u i 0 - 97) (bit_or (get_or sets (get_or u i 0 - 97) 0) (2 ^ n))) a 0) (typed_as a (n + 1) (letters_of k (drop (i + 1) u))) ≡ typed_as a 1 (letters_of k u)
      go a lt true s =
          let x = get_or u i 0 - 97 in
          let W = bit_or (get_or sets x 0) (2 ^ n) in
          let R = letters_of k (drop (i + 1) u) in
          let xa : x ≡ a = eqb→eq x a (true_t (eqb x a) s) in
          let g : get_or (set sets x W) a 0 ≡ bit_or (get_or sets a 0) (2 ^ n) =
          ap (λ y. get_or (set sets x W) y 0) (sym xa) ∙ (get_or-set_same sets x W 0 (omega (arith, f.long)) ∙ ap (λ y. bit_or (get_or sets y 0) (2 ^ n)) xa) in
          ap₂ bit_or g (ap (λ m. typed_as a m R) (add-one n)) ∙ (or_assoc (get_or sets a 0) (2 ^ n) (typed_as a (suc n) R)
          ∙ (ap (λ t. bit_or (get_or sets a 0) (bit_or (when t (2 ^ n)) (typed_as a (suc n) R))) (sym s)
          ∙ (ap (λ l. bit_or (get_or sets a 0) (typed_as a n l)) (sym (typed_here e)) ∙ f.each a lt)))
      go a lt false s =
          let x = get_or u i 0 - 97 in
          let W = bit_or (get_or sets x 0) (2 ^ n) in
          let R = letters_of k (drop (i + 1) u) in
          let g : get_or (set sets x W) a 0 ≡ get_or sets a 0 = get_or-set_other sets x a W 0 (λ q. not_T (eqb x a) s (subst (λ y. T (eqb x y)) (sym q) (eqb_refl x))) in
          ap₂ bit_or g (ap (λ m. typed_as a m R) (add-one n))
          ∙ (ap (λ t. bit_or (get_or sets a 0) (bit_or (when t (2 ^ n)) (typed_as a (suc n) R))) (sym s)
          ∙ (ap (λ l. bit_or (get_or sets a 0) (typed_as a n l)) (sym (typed_here e)) ∙ f.each a lt))

pub filled_start : (k : ℕ) (u : List ℕ) → Filled k u (replicate most_letters 0) 1 0
filled_start k u = record {
  long = refl;
  numbers = refl;
  each = λ a lt. ap (λ S. bit_or S (typed_as a 1 (letters_of k u))) (get_or-replicate most_letters a 0 0 lt);
}
