-- The lowest refusal that applies, and what is known of a profile and a log of which none applies.
use mathlib.Core.Path.{◌≡◌, refl, sym, ◌∙◌, ap}
use mathlib.Core.Bool.{Bool, true, false, not, ◌&&◌, ◌||◌, true≢false}
use mathlib.Core.Logic.{◌⊎◌, inl, inr, ⊎_elim, ◌↔◌, ◌≢◌}
use mathlib.Core.List.Memᴰ
use mathlib.Core.List.{List, [], ◌∷◌, ◌++◌, map}
use mathlib.Core.Option.{none, some, none-ne-some, some-ne-none, some-injective}
use Prim.Native.Nat.{ℕ, ◌+◌, ◌*◌, ◌/◌, ◌^◌, ◌≤◌, ◌<◌}
use native.Mathlib.Nat.{le-div_iff_mul-le, one-mul}
use native.Mathlib.Omega.{arith}
use lib.Pow.{pow_pos, shr-shr}
use lib.Dec.{T, not_T, eqb, eqb→eq, ltb, lt→ltb, leb, leb→le, nleb→lt}
use borrow.Author.Tests.{ltb-false, leb-false, eqb-true, not-false}
use lib.ListN.{length, get_or, get_or-eq_default}
use Rattle.profile.specs.Limits.{most_letters, most_states}
use Rattle.profile.specs.Lists.{Mem, all, any}
use Rattle.profile.specs.Traces.{bit, independent, letters_below}
use Rattle.profile.specs.Automata.{Profile}
use Rattle.profile.specs.Rules.{Rules, plain}
use Rattle.profile.specs.Refusals.{admission_refusals, bit_from, first_order_refusals, judge_refusals, letters_out_of_range, log_refusals, longest, lowest, mask_bit, profile_refusals, refusal_number, relation_refusals, short_buffer}
use Rattle.profile.specs.declared.Refusal.{Refusal}
use Rattle.profile.specs.declared.Refusal.TheVariants.{ShortBuffer}
use Rattle.profile.proofs.Lists.{Rising, all_at, all_of, any_of, below_of, fst_of, is_false, lt_or_le, or_left, or_right, snd_of, test}
use Rattle.profile.proofs.Sets.{bit_below, not_in_none, some_bit}
use Rattle.theory.proofs.Profiles.{distinct}

-- ---- the lowest

module _ {A : Type 0} where
  lowest_yes : (c : Bool × A) (l : List (Bool × A)) → c.0 ≡ true → lowest (c ∷ l) ≡ some c.1
  lowest_yes c l e = rw (e, lowest)

  lowest_no : (c : Bool × A) (l : List (Bool × A)) → c.0 ≡ false → lowest (c ∷ l) ≡ lowest l
  lowest_no c l e = rw (e, lowest)

  -- no condition before it holds, and its own does
  pub lowest_at : (l : List (Bool × A)) {r : A} → lowest l ≡ some r
      → (u v : List (Bool × A)) × (c : Bool × A) × (l ≡ u ++ (c ∷ v)) × (c.0 ≡ true) × (c.1 ≡ r) × ((d : Bool × A) → Mem d u → d.0 ≡ false)
  lowest_at [] e = absurd (none-ne-some _ e)
  lowest_at (c ∷ l) {r} e = go c.0 refl (lowest_at l)
    where
      go : (b : Bool) → c.0 ≡ b
          → (lowest l ≡ some r → (u v : List (Bool × A)) × (d : Bool × A) × (l ≡ u ++ (d ∷ v)) × (d.0 ≡ true) × (d.1 ≡ r) × ((x : Bool × A) → Mem x u → x.0 ≡ false))
          → (u v : List (Bool × A)) × (d : Bool × A) × (c ∷ l ≡ u ++ (d ∷ v)) × (d.0 ≡ true) × (d.1 ≡ r) × ((x : Bool × A) → Mem x u → x.0 ≡ false)
      go true q ih = ([], l, c, refl, q, some-injective _ _ (sym (lowest_yes c l q) ∙ e), λ x m. absurd (Memᴰ.not-nil m))
      go false q ih =
          let n = ih (sym (lowest_no c l q) ∙ e) in
          (c ∷ n.0, n.1, n.2, ap (◌∷◌ c) n.3, n.4, n.5, λ x m. ⊎_elim (λ i. ap (λ (y : Bool × A). y.0) i ∙ q) (n.6 x) (Memᴰ.cases_cons m))

  -- nothing is refused exactly when no condition holds
  pub lowest_none : (l : List (Bool × A)) → (lowest l ≡ none) ↔ ((c : Bool × A) → Mem c l → c.0 ≡ false)
  lowest_none [] = ((λ e c m. absurd (Memᴰ.not-nil m)), λ h. refl)
  lowest_none (c ∷ l) = (
    λ e d m. go c.0 refl e (lowest_none l).0 d (Memᴰ.cases_cons m),
    λ h. lowest_no c l (h c (Memᴰ.head refl)) ∙ (lowest_none l).1 (λ d m. h d (Memᴰ.tail m)),
  )
    where
      go : (b : Bool) → c.0 ≡ b → lowest (c ∷ l) ≡ none → (lowest l ≡ none → (d : Bool × A) → Mem d l → d.0 ≡ false)
          → (d : Bool × A) → (d ≡ c) ⊎ Mem d l → d.0 ≡ false
      go true q e ih d i = absurd (some-ne-none _ (sym (lowest_yes c l q) ∙ e))
      go false q e ih d (inl i) = ap (λ (y : Bool × A). y.0) i ∙ q
      go false q e ih d (inr m) = ih (sym (lowest_no c l q) ∙ e) d m

  -- the conditions of one list, then of another
  pub lowest_append : (l r : List (Bool × A)) → lowest l ≡ none → lowest (l ++ r) ≡ lowest r
  lowest_append [] r e = refl
  lowest_append (c ∷ l) r e =
      let h = (lowest_none (c ∷ l)).0 e in
      lowest_no c (l ++ r) (h c (Memᴰ.head refl)) ∙ lowest_append l r ((lowest_none l).1 (λ d m. h d (Memᴰ.tail m)))

  pub lowest_first : (l r : List (Bool × A)) {a : A} → lowest l ≡ some a → lowest (l ++ r) ≡ some a
  lowest_first [] r e = absurd (none-ne-some _ e)
  lowest_first (c ∷ l) r {a} e = go c.0 refl (lowest_first l r)
    where
      go : (b : Bool) → c.0 ≡ b → (lowest l ≡ some a → lowest (l ++ r) ≡ some a) → lowest (c ∷ (l ++ r)) ≡ some a
      go true q ih = lowest_yes c (l ++ r) q ∙ sym (lowest_yes c l q) ∙ e
      go false q ih = lowest_no c (l ++ r) q ∙ ih (sym (lowest_no c l q) ∙ e)

-- a list of refusals by rising number: the first that applies is the lowest
rising? : List ℕ → Bool
rising? [] = true
rising? (n ∷ l) = all (leb n) l && rising? l

rising_of : (l : List ℕ) → T (rising? l) → Rising l
unfolding rising?
rising_of [] t = tt
rising_of (n ∷ l) t = ((λ m i. leb→le n m (all_at (leb n) (fst_of (all (leb n) l) (rising? l) t) i)), rising_of l (snd_of (all (leb n) l) (rising? l) t))

abbrev numbers : List (Bool × Refusal) → List ℕ
numbers l = map (λ (c : Bool × Refusal). refusal_number c.1) l

pub judge_rises : (p : Profile) (w : List ℕ) (n m : ℕ) → Rising (numbers (judge_refusals p w n m))
unfolding rising?
judge_rises p w n m = rising_of (numbers (judge_refusals p w n m)) tt

pub first_order_rises : (k : ℕ) (masks w : List ℕ) (n : ℕ) → Rising (numbers (first_order_refusals k masks w n))
unfolding rising?
first_order_rises k masks w n = rising_of (numbers (first_order_refusals k masks w n)) tt

-- ---- the conditions in document 01's words

-- S has a bit from n on
pub bit_from_at : (n S : ℕ) → T (bit_from n S) ↔ ((j : ℕ) × (n ≤ j) × T (bit S j))
bit_from_at n S = (
  λ t.
      let le = leb→le (2 ^ n) S t in
      let q = some_bit (S / 2 ^ n) (not_T (eqb (S / 2 ^ n) 0) (λ z. not-zero (eqb→eq (S / 2 ^ n) 0 z) le)) in
      (n + q.0, omega arith, rw (← (shr-shr S n q.0)) q.1),
  λ j. ⊎_elim (λ t. t) (λ t. absurd (omega (arith, bit_below n S j.0 (nleb→lt (2 ^ n) S t) j.2, j.1))) (test (leb (2 ^ n) S)),
)
  where
    not-zero : S / 2 ^ n ≡ 0 → 2 ^ n ≤ S → ⊥
    not-zero e le = let h : 1 ≤ S / 2 ^ n = (le-div_iff_mul-le (pow_pos n)).1 (rw (one-mul (2 ^ n)) le) in omega arith

none_of : {A : Type 0} (p : A → Bool) {a : A} {l : List A} → any p l ≡ false → Mem a l → T (p a) → ⊥
none_of p e m t = rw e at (any_of p m t)

-- masks of which 2 and 4 hold of none: letters that may be exchanged are below k and different
pub record Relation (k : ℕ) (masks : List ℕ) : Type 0 where
  pub least : 1 ≤ k
  pub most : k ≤ most_letters
  pub long : length masks ≡ k
  pub inside : (i j : ℕ) → T (independent masks i j) → (i < k) × (j < k)
  pub own : (i : ℕ) → T (independent masks i i) → ⊥

-- neither test holds
neither : (x y : Bool) → (x || y) ≡ false → (x ≡ false) × (y ≡ false)
neither true y e = absurd (true≢false e)
neither false y e = (refl, e)

letters_in_range : (k : ℕ) (masks : List ℕ) → letters_out_of_range k masks ≡ false → (1 ≤ k) × (k ≤ most_letters) × (length masks ≡ k)
letters_in_range k masks e =
    let n = neither (ltb k 1) (ltb most_letters k || not (eqb (length masks) k)) e in
    let m = neither (ltb most_letters k) (not (eqb (length masks) k)) n.1 in
    (ltb-false k 1 n.0, ltb-false most_letters k m.0, eqb-true (length masks) k (not-false (eqb (length masks) k) m.1))

relation_of : (k : ℕ) (masks : List ℕ) → letters_out_of_range k masks ≡ false → mask_bit k masks ≡ false → Relation k masks
relation_of k masks e₂ e₄ = let n = letters_in_range k masks e₂ in record {
  least = n.0;
  most = n.1;
  long = n.2;
  inside = λ i j t. let i< = place i j t in (rw n.2 at i<, second i j t i<);
  own = λ i t. none_of bad e₄ (below_of (length masks) i (place i i t)) (or_right (bit_from k (get_or masks i 0)) (independent masks i i) t);
}
  where
    bad : ℕ → Bool
    bad i = bit_from k (get_or masks i 0) || independent masks i i

    place : (i j : ℕ) → T (independent masks i j) → i < length masks
    place i j t = ⊎_elim (λ h. h) (λ h. absurd (not_in_none j (rw (get_or-eq_default masks 0 {n = i} h) at t))) (lt_or_le i (length masks))

    second : (i j : ℕ) → T (independent masks i j) → i < length masks → j < k
    second i j t i< = ⊎_elim (λ h. h)
        (λ h. absurd (none_of bad e₄ (below_of (length masks) i i<)
        (or_left (bit_from k (get_or masks i 0)) (independent masks i i) ((bit_from_at k (get_or masks i 0)).1 (j, h, t)))))
        (lt_or_le j k)

pub relation_at : (k : ℕ) (masks : List ℕ) → lowest (relation_refusals k masks) ≡ none → Relation k masks
relation_at k masks e =
    let h = (lowest_none (relation_refusals k masks)).0 e in
    relation_of k masks (h _ (Memᴰ.head refl)) (h _ (Memᴰ.tail (Memᴰ.head refl)))

-- a profile of which 2, 4 and 6 hold of none
pub record GoodProfile (p : Profile) : Type 0 where
  pub relation : Relation p.k p.masks
  pub states : (1 ≤ p.s) × (p.s ≤ most_states)
  pub starts : p.start < p.s
  pub long : length p.moves ≡ p.s * p.k
  pub finals_inside : p.finals < 2 ^ p.s
  pub moves_inside : (m : ℕ) → Mem m p.moves → m < 2 ^ p.s

pub profile_at : (p : Profile) → lowest (profile_refusals p) ≡ none → GoodProfile p
profile_at p e =
    let h = (lowest_none (profile_refusals p)).0 e in
    let lens = eqb (length p.moves) (p.s * p.k) in
    let n₁ = neither (letters_out_of_range p.k p.masks) (ltb p.s 1 || (ltb most_states p.s || (leb p.s p.start || not lens))) (h _ (Memᴰ.head refl)) in
    let n₂ = neither (ltb p.s 1) (ltb most_states p.s || (leb p.s p.start || not lens)) n₁.1 in
    let n₃ = neither (ltb most_states p.s) (leb p.s p.start || not lens) n₂.1 in
    let n₄ = neither (leb p.s p.start) (not lens) n₃.1 in
    let f = neither (bit_from p.s p.finals) (any (bit_from p.s) p.moves) (h _ (Memᴰ.tail (Memᴰ.tail (Memᴰ.head refl)))) in
    record {
      relation = relation_of p.k p.masks n₁.0 (h _ (Memᴰ.tail (Memᴰ.head refl)));
      states = (ltb-false p.s 1 n₂.0, ltb-false most_states p.s n₃.0);
      starts = leb-false p.s p.start n₄.0;
      long = eqb-true (length p.moves) (p.s * p.k) (not-false lens n₄.1);
      finals_inside = leb-false (2 ^ p.s) p.finals f.0;
      moves_inside = λ m i. leb-false (2 ^ p.s) m (is_false (bit_from p.s m) (not_T (bit_from p.s m) (none_of (bit_from p.s) f.1 i)));
    }

-- a log of which 7 and 8 hold of none
pub record GoodLog (k : ℕ) (w : List ℕ) : Type 0 where
  pub short : length w ≤ longest
  pub letters : T (letters_below (λ a. a) k w)

pub log_at : (k : ℕ) (w : List ℕ) → lowest (log_refusals k w) ≡ none → GoodLog k w
log_at k w e =
    let h = (lowest_none (log_refusals k w)).0 e in
    record {
      short = ltb-false longest (length w) (h _ (Memᴰ.head refl));
      letters = all_of (λ a. ltb a k) w (λ a m. lt→ltb a k (leb-false k a (is_false (leb k a) (not_T (leb k a) (none_of (leb k) (h _ (Memᴰ.tail (Memᴰ.head refl))) m)))));
    }

-- the events of a call, for what the table is built of: no more than the longest log has, their letters below k, and events that may be exchanged have
-- different letters
pub record GoodEvents (p : Rules) (w : List ℕ) : Type 0 where
  pub short : length w ≤ longest
  pub letters : T (letters_below p.letter p.profile.k w)
  pub apart : (a b : ℕ) → T (p.may a b) → p.letter a ≢ p.letter b

pub plain_events : (p : Profile) (w : List ℕ) → GoodProfile p → GoodLog p.k w → GoodEvents (plain p) w
plain_events p w g h = record { short = h.short; letters = h.letters; apart = distinct p.masks g.relation.own }

-- "admitted": no refusal save 10 applies to the judge's call with n places for the order
pub record Admitted (p : Profile) (w : List ℕ) (n : ℕ) : Type 0 where
  pub profile : GoodProfile p
  pub log : GoodLog p.k w
  pub room : length w ≤ n

pub admitted_at : (p : Profile) (w : List ℕ) (n : ℕ) → lowest (admission_refusals p w n) ≡ none → Admitted p w n
admitted_at p w n e =
    let h = (lowest_none (admission_refusals p w n)).0 e in
    let l = log_refusals p.k w in
    let s : List (Bool × Refusal) = (short_buffer n w, ShortBuffer) ∷ [] in
    record {
      profile = profile_at p ((lowest_none (profile_refusals p)).1 (λ c m. h c (Memᴰ.append_left (l ++ s) m)));
      log = log_at p.k w ((lowest_none l).1 (λ c m. h c (Memᴰ.append_right (profile_refusals p) (Memᴰ.append_left s m))));
      room = ltb-false n (length w) (h _ (Memᴰ.append_right (profile_refusals p) (Memᴰ.append_right l (Memᴰ.head refl))));
    }
