-- How counts stand to others: the events between them are counted letter by letter.
use mathlib.Core.Path.{◌≡◌, refl, ap}
use mathlib.Core.Logic.{⊎_elim, ◌≢◌}
use Prim.Native.Nat.{ℕ, zero, suc, ◌+◌, ◌-◌, ◌≤◌, ◌<◌}
use native.Mathlib.Omega.{arith}
use Rattle.profile.specs.Prefixes.{more, one}
use Rattle.profile.proofs.Lists.{lt_or_le}
use Rattle.theory.proofs.Prefixes.{one_other, one_same}

-- the events of the letters below x between the counts p and q
abbrev pub events : (ℕ → ℕ) → (ℕ → ℕ) → ℕ → ℕ
events p q zero = 0
events p q (suc x) = events p q x + (q x - p x)

module _ (p q : ℕ → ℕ) where
  -- no letter is counted less in q
  abbrev pub Inside : ℕ → Type 0
  Inside k = (x : ℕ) → x < k → p x ≤ q x

  pub events_none : (k : ℕ) → Inside k → events p q k ≡ 0 → (x : ℕ) → x < k → q x ≡ p x
  events_none zero h e x l = absurd (omega arith)
  events_none (suc k) h e x l = ⊎_elim
      (λ lt. events_none k (λ y m. h y (omega arith)) (omega arith) x lt)
      (λ le. let i : x ≡ k = omega arith in omega (arith, ap q i, ap p i, h k (omega arith))) (lt_or_le x k)

  -- where there is one event, and a is a letter counted more in q, that is it
  pub events_one : (k a : ℕ) → Inside k → events p q k ≡ 1 → a < k → p a < q a → (x : ℕ) → x < k → q x ≡ more p a x
  events_one zero a h e l m x i = absurd (omega arith)
  events_one (suc k) a h e l m x i = ⊎_elim
      (λ lt. low lt (λ h' e' xl. events_one k a h' e' lt m x xl))
      (λ le. let j : a ≡ k = omega arith in last j) (lt_or_le a k)
    where
      below-a : a < k → 1 ≤ events p q k
      below-a lt = some k a (λ y z. h y (omega arith)) lt m
        where
          some : (k a : ℕ) → ((y : ℕ) → y < k → p y ≤ q y) → a < k → p a < q a → 1 ≤ events p q k
          some zero a h l m = absurd (omega arith)
          some (suc k) a h l m = ⊎_elim (λ lt. omega (arith, some k a (λ y z. h y (omega arith)) lt m)) (λ le. let j : a ≡ k = omega arith in omega (arith, ap p j, ap q j)) (lt_or_le a k)

      low : a < k → (Inside k → events p q k ≡ 1 → x < k → q x ≡ more p a x) → q x ≡ more p a x
      low lt ih = ⊎_elim
          (λ xl. ih (λ y z. h y (omega arith)) (omega (arith, below-a lt)) xl)
          (λ xe.
          let j : x ≡ k = omega arith in
          let z : a ≢ x = λ y. omega arith in
          omega (arith, below-a lt, one_other a x z, ap p j, ap q j, h k (omega arith))) (lt_or_le x k)

      last : a ≡ k → q x ≡ more p a x
      last j = ⊎_elim
          (λ xl.
          let z : a ≢ x = λ y. omega arith in
          omega (arith, one_other a x z, events_none k (λ y z. h y (omega arith)) (omega (arith, ap p j, ap q j)) x xl))
          (λ xe.
          let i : x ≡ a = omega arith in
          omega (arith, one_same a, ap (one a) i, ap p i, ap q i, ap p j, ap q j, e, h a l)) (lt_or_le x k)

  -- one more of a letter is one event
  pub one_event : (k a : ℕ) → a < k → ((x : ℕ) → x < k → q x ≡ more p a x) → events p q k ≡ 1
  one_event zero a l h = absurd (omega arith)
  one_event (suc k) a l h = ⊎_elim
      (λ lt. let z : a ≢ k = λ y. omega arith in omega (arith, one_event k a lt (λ x m. h x (omega arith)), h k (omega arith), one_other a k z))
      (λ le. let j : a ≡ k = omega arith in omega (arith, none k (λ x m. let z : a ≢ x = λ y. omega arith in omega (arith, h x (omega arith), one_other a x z)), h k (omega arith), one_same k, ap (λ y. one y k) j)) (lt_or_le a k)
    where
      none : (n : ℕ) → ((x : ℕ) → x < n → q x ≡ p x) → events p q n ≡ 0
      none zero h = refl
      none (suc n) h = omega (arith, none n (λ x m. h x (omega arith)), h n (omega arith))

  -- where no letter is counted more in q, there is no event
  pub no_event : (k : ℕ) → Inside k → ((x : ℕ) → x < k → q x ≤ p x) → events p q k ≡ 1 → ⊥
  no_event zero h g e = absurd (omega arith)
  no_event (suc k) h g e = no_event k (λ x m. h x (omega arith)) (λ x m. g x (omega arith)) (omega (arith, g k (omega arith)))
