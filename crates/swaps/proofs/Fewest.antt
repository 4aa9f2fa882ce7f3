-- The smallest number of a list, and the numbers by rising size.
use mathlib.Core.Path.{◌≡◌, refl, sym, ◌∙◌, ap, subst}
use mathlib.Core.Bool.{true, false, not, cond}
use mathlib.Core.Logic.{◌⊎◌, inl, inr, ⊎_elim}
use mathlib.Core.List.Memᴰ
use mathlib.Core.List.{List, [], ◌∷◌}
use mathlib.Core.Option.{Option, none, some, some-ne-none, none-ne-some, some-injective}
use Prim.Native.Nat.{ℕ, zero, suc, ◌+◌, ◌≤◌, ◌<◌, min}
use native.Mathlib.Omega.{arith}
use lib.Dec.{T, leb, leb→le, le→leb}
use lib.ListN.{length}
use Rattle.profile.specs.Lists.{Mem, filter}
use Rattle.profile.proofs.Lists.{Rising, filter_no, filter_yes, is_false, is_true, lt_or_le, test}
use Rattle.swaps.specs.Closest.{after, fewest, put_in, smaller, sorted}

-- ---- the smallest number

pub smaller_le : (n : ℕ) (o : Option ℕ) → smaller n o ≤ n
smaller_le n none = omega arith
smaller_le n (some m) = omega arith

pub smaller_second : (n m : ℕ) {o : Option ℕ} → o ≡ some m → smaller n o ≤ m
smaller_second n m e = rw e (omega arith)

-- where there is none the list is empty
pub fewest_none : (l : List ℕ) → fewest l ≡ none → l ≡ []
fewest_none [] e = refl
fewest_none (a ∷ l) e = absurd (some-ne-none _ e)

-- no number of the list is smaller than the smallest
pub fewest_le : (l : List ℕ) (n m : ℕ) → fewest l ≡ some n → Mem m l → n ≤ m
fewest_le [] n m e h = absurd (Memᴰ.not-nil h)
fewest_le (a ∷ l) n m e h = go (fewest l) refl (λ b k i. fewest_le l b m k i) (Memᴰ.cases_cons h)
  where
    s : smaller a (fewest l) ≡ n
    s = some-injective _ _ e

    go : (o : Option ℕ) → fewest l ≡ o → ((b : ℕ) → fewest l ≡ some b → Mem m l → b ≤ m) → (m ≡ a) ⊎ Mem m l → n ≤ m
    go o q ih (inl k) = omega (arith, s, smaller_le a (fewest l), k)
    go none q ih (inr k) = absurd (Memᴰ.not-nil (subst (λ r. Mem m r) (fewest_none l q) k))
    go (some b) q ih (inr k) = omega (arith, s, smaller_second a b q, ih b q k)

-- and it stands in the list
pub fewest_mem : (l : List ℕ) (n : ℕ) → fewest l ≡ some n → Mem n l
fewest_mem [] n e = absurd (none-ne-some _ e)
fewest_mem (a ∷ l) n e = go (fewest l) refl (λ b k. fewest_mem l b k)
  where
    s : smaller a (fewest l) ≡ n
    s = some-injective _ _ e

    go : (o : Option ℕ) → fewest l ≡ o → ((b : ℕ) → fewest l ≡ some b → Mem b l) → Mem n (a ∷ l)
    go none q ih = Memᴰ.head (sym (rw q at s))
    go (some b) q ih =
        let t : min a b ≡ n = rw q at s in
        ⊎_elim (λ h. Memᴰ.head (omega (arith, t))) (λ h. Memᴰ.tail (subst (λ z. Mem z l) (omega (arith, t)) (ih b q))) (lt_or_le a b)

-- a list with a number has a smallest one, no larger
pub fewest_some : (l : List ℕ) (m : ℕ) → Mem m l → (n : ℕ) × (fewest l ≡ some n) × (n ≤ m)
fewest_some l m h = go (fewest l) refl
  where
    go : (o : Option ℕ) → fewest l ≡ o → (n : ℕ) × (fewest l ≡ some n) × (n ≤ m)
    go none e = absurd (Memᴰ.not-nil (subst (λ r. Mem m r) (fewest_none l e) h))
    go (some n) e = (n, e, fewest_le l n m e h)

pub fewest_is : (l : List ℕ) (n : ℕ) → Mem n l → ((m : ℕ) → Mem m l → n ≤ m) → fewest l ≡ some n
fewest_is l n h least =
    let k = fewest_some l n h in
    k.1 ∙ ap some (omega (arith, k.2, least k.0 (fewest_mem l k.0 k.1)))

-- lists with the same numbers have the same smallest one
pub fewest_same : (l r : List ℕ) → ((m : ℕ) → Mem m l → Mem m r) → ((m : ℕ) → Mem m r → Mem m l) → fewest l ≡ fewest r
fewest_same l r f g = go (fewest l) refl
  where
    go : (o : Option ℕ) → fewest l ≡ o → fewest l ≡ fewest r
    go none e = e ∙ sym (none_of r (λ m h. subst (λ z. Mem m z) (fewest_none l e) (g m h)))
      where
        none_of : (r : List ℕ) → ((m : ℕ) → Mem m r → Mem m []) → fewest r ≡ none
        none_of [] h = refl
        none_of (a ∷ r) h = absurd (Memᴰ.not-nil (h a (Memᴰ.head refl)))
    go (some n) e = e ∙ sym (fewest_is r n (f n (fewest_mem l n e)) (λ m h. fewest_le l n m e (g m h)))

-- ---- by rising size

-- how many numbers of a list are at most v
abbrev pub at_most : ℕ → List ℕ → ℕ
at_most v l = length (filter (λ n. leb n v) l)

pub at_most_yes : (v n : ℕ) (l : List ℕ) → n ≤ v → at_most v (n ∷ l) ≡ suc (at_most v l)
at_most_yes v n l h = ap length (filter_yes (λ n. leb n v) n l (le→leb n v h))

pub at_most_no : (v n : ℕ) (l : List ℕ) → v < n → at_most v (n ∷ l) ≡ at_most v l
at_most_no v n l h = ⊎_elim (λ t. absurd (omega (arith, leb→le n v t))) (λ t. ap length (filter_no (λ n. leb n v) n l t)) (test (leb n v))

put_yes : (n m : ℕ) (l : List ℕ) → n ≤ m → put_in n (m ∷ l) ≡ n ∷ m ∷ l
put_yes n m l h = rw (is_true (leb n m) (le→leb n m h), cond)

put_no : (n m : ℕ) (l : List ℕ) → m < n → put_in n (m ∷ l) ≡ m ∷ put_in n l
put_no n m l h = ⊎_elim (λ t. absurd (omega (arith, leb→le n m t))) (λ t. rw (is_false (leb n m) t, cond)) (test (leb n m))

at_most_put : (v n : ℕ) (l : List ℕ) → at_most v (put_in n l) ≡ at_most v (n ∷ l)
at_most_put v n [] = refl
at_most_put v n (m ∷ l) = ⊎_elim
    (λ h. ⊎_elim (λ a. ⊎_elim
    (λ b. omega (arith, ap (at_most v) (put_no n m l h), at_most_no v m (put_in n l) a, at_most_put v n l, at_most_no v n l b, at_most_no v n (m ∷ l) b, at_most_no v m l a))
    (λ b. omega (arith, ap (at_most v) (put_no n m l h), at_most_no v m (put_in n l) a, at_most_put v n l, at_most_yes v n l b, at_most_yes v n (m ∷ l) b, at_most_no v m l a)) (lt_or_le v n))
    (λ a. ⊎_elim
    (λ b. omega (arith, ap (at_most v) (put_no n m l h), at_most_yes v m (put_in n l) a, at_most_put v n l, at_most_no v n l b, at_most_no v n (m ∷ l) b, at_most_yes v m l a))
    (λ b. omega (arith, ap (at_most v) (put_no n m l h), at_most_yes v m (put_in n l) a, at_most_put v n l, at_most_yes v n l b, at_most_yes v n (m ∷ l) b, at_most_yes v m l a)) (lt_or_le v n))
    (lt_or_le v m))
    (λ h. ap (at_most v) (put_yes n m l h)) (lt_or_le m n)

-- sorting leaves how many are at most v
pub at_most_sorted : (v : ℕ) (l : List ℕ) → at_most v (sorted l) ≡ at_most v l
at_most_sorted v [] = refl
at_most_sorted v (n ∷ l) = at_most_put v n (sorted l) ∙ ⊎_elim
    (λ b. omega (arith, at_most_no v n (sorted l) b, at_most_no v n l b, at_most_sorted v l))
    (λ b. omega (arith, at_most_yes v n (sorted l) b, at_most_yes v n l b, at_most_sorted v l)) (lt_or_le v n)

put_length : (n : ℕ) (l : List ℕ) → length (put_in n l) ≡ suc (length l)
put_length n [] = refl
put_length n (m ∷ l) = ⊎_elim (λ h. ap length (put_no n m l h) ∙ ap suc (put_length n l)) (λ h. ap length (put_yes n m l h)) (lt_or_le m n)

pub sorted_length : (l : List ℕ) → length (sorted l) ≡ length l
sorted_length [] = refl
sorted_length (n ∷ l) = put_length n (sorted l) ∙ ap suc (sorted_length l)

put_at : (n : ℕ) (l : List ℕ) (m : ℕ) → Mem m (put_in n l) → (m ≡ n) ⊎ Mem m l
put_at n [] m h = Memᴰ.cases_cons h
put_at n (a ∷ l) m h = ⊎_elim
    (λ k. ⊎_elim (λ e. inr (Memᴰ.head e)) (λ i. ⊎_elim (λ e. inl e) (λ j. inr (Memᴰ.tail j)) (put_at n l m i))
    (Memᴰ.cases_cons (subst (λ z. Mem m z) (put_no n a l k) h)))
    (λ k. Memᴰ.cases_cons (subst (λ z. Mem m z) (put_yes n a l k) h)) (lt_or_le a n)

put_rising : (n : ℕ) (l : List ℕ) → Rising l → Rising (put_in n l)
put_rising n [] h = (λ m k. absurd (Memᴰ.not-nil k), tt)
put_rising n (a ∷ l) h = ⊎_elim
    (λ k. subst Rising (sym (put_no n a l k)) (λ m i. ⊎_elim (λ e. omega (arith, e)) (λ j. h.0 m j) (put_at n l m i), put_rising n l h.1))
    (λ k. subst Rising (sym (put_yes n a l k)) (λ m i. ⊎_elim (λ e. omega (arith, e)) (λ j. omega (arith, h.0 m j)) (Memᴰ.cases_cons i), h)) (lt_or_le a n)

pub sorted_rising : (l : List ℕ) → Rising (sorted l)
sorted_rising [] = tt
sorted_rising (n ∷ l) = put_rising n (sorted l) (sorted_rising l)

-- ---- the number after the first B

-- there is none exactly when the list has no more than B
pub after_none : (B : ℕ) (l : List ℕ) → length l ≤ B → after B l ≡ none
after_none B [] h = go B
  where
    go : (B : ℕ) → after B [] ≡ none
    go zero = refl
    go (suc B) = refl
after_none zero (m ∷ l) h = absurd (omega arith)
after_none (suc B) (m ∷ l) h = after_none B l (omega arith)

pub after_some : (B : ℕ) (l : List ℕ) → B < length l → (v : ℕ) × (after B l ≡ some v)
after_some B [] h = absurd (omega arith)
after_some zero (m ∷ l) h = (m, refl)
after_some (suc B) (m ∷ l) h = after_some B l (omega arith)

above : (u : ℕ) (l : List ℕ) → ((m : ℕ) → Mem m l → u < m) → at_most u l ≡ 0
above u [] h = refl
above u (m ∷ l) h = at_most_no u m l (h m (Memᴰ.head refl)) ∙ above u l (λ n k. h n (Memᴰ.tail k))

rising_after : (B v : ℕ) (l : List ℕ) → Rising l → after B l ≡ some v → (B < at_most v l) × ((u : ℕ) → u < v → at_most u l ≤ B) × Mem v l
rising_after B v [] r e = absurd (go B e)
  where
    go : (B : ℕ) → after B [] ≡ some v → ⊥
    go zero e = none-ne-some _ e
    go (suc B) e = none-ne-some _ e
rising_after zero v (m ∷ l) r e =
    let s : m ≡ v = some-injective _ _ e in (
      omega (arith, at_most_yes v m l (omega (arith, s))),
      λ u h. omega (arith, at_most_no u m l (omega (arith, s)), above u l (λ n k. omega (arith, r.0 n k, s))),
      Memᴰ.head (sym s),
    )
rising_after (suc B) v (m ∷ l) r e =
    let ih = rising_after B v l r.1 e in (
      omega (arith, ih.0, at_most_yes v m l (r.0 v ih.2)),
      λ u h. ⊎_elim (λ k. omega (arith, at_most_no u m l k, ih.1 u h)) (λ k. omega (arith, at_most_yes u m l k, ih.1 u h)) (lt_or_le u m),
      Memᴰ.tail ih.2,
    )

-- the (B + 1)-th number by rising size: more than B are at most as large, and of no smaller number is that so
pub ranked_at : (B v : ℕ) (l : List ℕ) → after B (sorted l) ≡ some v → (B < at_most v l) × ((u : ℕ) → u < v → at_most u l ≤ B)
ranked_at B v l e =
    let n = rising_after B v (sorted l) (sorted_rising l) e in
    (omega (arith, n.0, at_most_sorted v l), λ u h. omega (arith, n.1 u h, at_most_sorted u l))

at_most_length : (v : ℕ) (l : List ℕ) → at_most v l ≤ length l
at_most_length v [] = omega arith
at_most_length v (n ∷ l) = ⊎_elim (λ b. omega (arith, at_most_no v n l b, at_most_length v l)) (λ b. omega (arith, at_most_yes v n l b, at_most_length v l)) (lt_or_le v n)

pub ranked_of : (B v : ℕ) (l : List ℕ) → B < at_most v l → ((u : ℕ) → u < v → at_most u l ≤ B) → after B (sorted l) ≡ some v
ranked_of B v l h least =
    let n = after_some B (sorted l) (omega (arith, h, at_most_length v l, sorted_length l)) in
    let k = ranked_at B n.0 l n.1 in
    n.1 ∙ ap some (⊎_elim (λ a. absurd (omega (arith, k.0, least n.0 a))) (λ a. ⊎_elim (λ b. absurd (omega (arith, h, k.1 v b))) (λ b. omega (arith, a, b)) (lt_or_le v n.0)) (lt_or_le n.0 v))

pub ranked_none : (B : ℕ) (l : List ℕ) → length l ≤ B → after B (sorted l) ≡ none
ranked_none B l h = after_none B (sorted l) (omega (arith, h, sorted_length l))
