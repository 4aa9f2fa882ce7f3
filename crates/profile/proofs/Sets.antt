-- Sets of states as numbers: members, equality, unions, meets.
use mathlib.Core.Path.{◌≡◌, refl, sym, ◌∙◌, ap, ap₂, subst}
use mathlib.Core.Bool.{Bool, true, false, not, ◌&&◌, ◌||◌, true≢false}
use mathlib.Core.Logic.{◌⊎◌, inl, inr, ⊎_elim}
use mathlib.Core.List.Memᴰ
use mathlib.Core.List.{List, [], ◌∷◌, ◌++◌}
use Prim.Native.Nat.{ℕ, zero, suc, ◌+◌, ◌/◌, ◌%◌, ◌^◌, ◌<◌}
use native.Mathlib.Nat.{mod-lt, div-div-eq-div-mul, pow-succ', div-one, zero-div, div-eq_of_lt, div_self, lt_of_lt_of_le, zero-lt-suc, pow-suc, mul-mod_left, mul-div_cancel}
use native.Mathlib.Omega.{arith}
use lib.Arith.{bin_ind}
use lib.Bits.{bit_or, bit_and, or_shr, and_shr, or_mod, and_mod, and_mask, or_zero_r}
use lib.Pow.{pow_mono, pow_pos}
use lib.Dec.{T, T_not, not_T, eqb, eqb→eq}
use Rattle.profile.specs.Automata.{meets, union}
use Rattle.profile.specs.Lists.{Mem}
use Rattle.profile.specs.Prefixes.{at}
use Rattle.profile.specs.Traces.{bit}
use Rattle.profile.proofs.Lists.{both, either, fst_of, lt_or_le, or_left, or_right, snd_of}

-- ---- single digits

digit : (n : ℕ) → (n % 2 ≡ 0) ⊎ (n % 2 ≡ 1)
digit n = go (n % 2) refl (mod-lt n (zero-lt-suc 1))
  where
    go : (d : ℕ) → n % 2 ≡ d → n % 2 < 2 → (n % 2 ≡ 0) ⊎ (n % 2 ≡ 1)
    go zero e h = inl e
    go (suc zero) e h = inr e
    go (suc (suc d)) e h = absurd (omega arith)

or_digit : (x y : ℕ) → eqb (bit_or x y % 2) 1 ≡ (eqb (x % 2) 1 || eqb (y % 2) 1)
or_digit x y = go (digit x) (digit y)
  where
    go : (x % 2 ≡ 0) ⊎ (x % 2 ≡ 1) → (y % 2 ≡ 0) ⊎ (y % 2 ≡ 1) → eqb (bit_or x y % 2) 1 ≡ (eqb (x % 2) 1 || eqb (y % 2) 1)
    go (inl p) (inl q) = rw (or_mod x y 1, p, q)
    go (inl p) (inr q) = rw (or_mod x y 1, p, q)
    go (inr p) (inl q) = rw (or_mod x y 1, p, q)
    go (inr p) (inr q) = rw (or_mod x y 1, p, q)

and_digit : (x y : ℕ) → eqb (bit_and x y % 2) 1 ≡ (eqb (x % 2) 1 && eqb (y % 2) 1)
and_digit x y = go (digit x) (digit y)
  where
    go : (x % 2 ≡ 0) ⊎ (x % 2 ≡ 1) → (y % 2 ≡ 0) ⊎ (y % 2 ≡ 1) → eqb (bit_and x y % 2) 1 ≡ (eqb (x % 2) 1 && eqb (y % 2) 1)
    go (inl p) (inl q) = rw (and_mod x y 1, p)
    go (inl p) (inr q) = rw (and_mod x y 1, p)
    go (inr p) (inl q) = rw (and_mod x y 1, p, q)
    go (inr p) (inr q) = rw (and_mod x y 1, p, q)

pub bit_of_or : (S R q : ℕ) → bit (bit_or S R) q ≡ (bit S q || bit R q)
bit_of_or S R q = rw (or_shr S R q) (or_digit (S / 2 ^ q) (R / 2 ^ q))

pub bit_of_and : (S R q : ℕ) → bit (bit_and S R) q ≡ (bit S q && bit R q)
bit_of_and S R q = rw (and_shr S R q) (and_digit (S / 2 ^ q) (R / 2 ^ q))

pub bit_none : (q : ℕ) → bit 0 q ≡ false
bit_none q = rw (zero-div (2 ^ q))

bit_suc : (S q : ℕ) → bit S (suc q) ≡ bit (S / 2) q
bit_suc S q = rw (div-div-eq-div-mul S 2 (2 ^ q), pow-succ' 2 q)

-- ---- two sets with the same states are equal

digit_eq : (x y : ℕ) → eqb (x % 2) 1 ≡ eqb (y % 2) 1 → x % 2 ≡ y % 2
digit_eq x y e = go (digit x) (digit y)
  where
    go : (x % 2 ≡ 0) ⊎ (x % 2 ≡ 1) → (y % 2 ≡ 0) ⊎ (y % 2 ≡ 1) → x % 2 ≡ y % 2
    go (inl p) (inl q) = p ∙ sym q
    go (inl p) (inr q) = absurd (true≢false (sym (rw (p, q) at e)))
    go (inr p) (inl q) = absurd (true≢false (rw (p, q) at e))
    go (inr p) (inr q) = p ∙ sym q

bit_first : (S : ℕ) → bit S 0 ≡ eqb (S % 2) 1
bit_first S = rw (div-one S)

pub bits_eq : (S R : ℕ) → ((q : ℕ) → bit S q ≡ bit R q) → S ≡ R
bits_eq = bin_ind (λ S. (R : ℕ) → ((q : ℕ) → bit S q ≡ bit R q) → S ≡ R)
    (λ R h. sym (empty R (λ q. sym (h q) ∙ bit_none q)))
    (λ S ih R h. omega (arith, ih (R / 2) (λ q. sym (bit_suc S q) ∙ h (suc q) ∙ bit_suc R q), digit_eq S R (sym (bit_first S) ∙ h 0 ∙ bit_first R)))
  where
    empty : (R : ℕ) → ((q : ℕ) → bit R q ≡ false) → R ≡ 0
    empty = bin_ind (λ R. ((q : ℕ) → bit R q ≡ false) → R ≡ 0) (λ h. refl)
        (λ R ih h. omega (arith, ih (λ q. sym (bit_suc R q) ∙ h (suc q)), digit_eq R 0 (sym (bit_first R) ∙ h 0)))

-- the same, for what is a member of one when it is of the other
pub t_eq : (p q : Bool) → (T p → T q) → (T q → T p) → p ≡ q
t_eq true true f g = refl
t_eq true false f g = absurd (f tt)
t_eq false true f g = absurd (g tt)
t_eq false false f g = refl

pub sets_eq : (S R : ℕ) → ((q : ℕ) → T (bit S q) → T (bit R q)) → ((q : ℕ) → T (bit R q) → T (bit S q)) → S ≡ R
sets_eq S R f g = bits_eq S R (λ q. t_eq (bit S q) (bit R q) (f q) (g q))

-- ---- unions and meets

pub not_in_none : (q : ℕ) → T (bit 0 q) → ⊥
not_in_none q t = rw (bit_none q) at t

module _ {A : Type 0} where
  pub union_of : (f : A → ℕ) {a : A} {l : List A} (q : ℕ) → Mem a l → T (bit (f a) q) → T (bit (union f l) q)
  union_of f q (Memᴰ.head {x = b} {xs = l} e) t =
      rw (bit_of_or (f b) (union f l) q) (or_left (bit (f b) q) (bit (union f l) q) (subst (λ z. T (bit (f z) q)) e t))
  union_of f q (Memᴰ.tail {x = b} {xs = l} m) t =
      rw (bit_of_or (f b) (union f l) q) (or_right (bit (f b) q) (bit (union f l) q) (union_of f q m t))

  pub union_at : (f : A → ℕ) (l : List A) (q : ℕ) → T (bit (union f l) q) → (a : A) × Mem a l × T (bit (f a) q)
  union_at f [] q t = absurd (not_in_none q t)
  union_at f (b ∷ l) q t = go (either (bit (f b) q) (bit (union f l) q) (rw (bit_of_or (f b) (union f l) q) at t)) (union_at f l q)
    where
      go : T (bit (f b) q) ⊎ T (bit (union f l) q) → (T (bit (union f l) q) → (a : A) × Mem a l × T (bit (f a) q)) → (a : A) × Mem a (b ∷ l) × T (bit (f a) q)
      go (inl h) k = (b, Memᴰ.head refl, h)
      go (inr h) k = let n = k h in (n.0, Memᴰ.tail n.1, n.2)

-- a set that is not empty has a state
pub some_bit : (S : ℕ) → T (not (eqb S 0)) → (q : ℕ) × T (bit S q)
some_bit = bin_ind (λ S. T (not (eqb S 0)) → (q : ℕ) × T (bit S q)) (λ h. absurd h) (λ S ih h. go S ih h (digit S))
  where
    go : (S : ℕ) → (T (not (eqb (S / 2) 0)) → (q : ℕ) × T (bit (S / 2) q)) → T (not (eqb S 0)) → (S % 2 ≡ 0) ⊎ (S % 2 ≡ 1) → (q : ℕ) × T (bit S q)
    go S ih h (inr e) = (0, rw (bit_first S, e) tt)
    go S ih h (inl e) =
        let n = ih (not_T (eqb (S / 2) 0) (λ z. let k : S ≡ 0 = omega (arith, eqb→eq (S / 2) 0 z) in T_not (eqb S 0) h (rw k tt))) in
        (suc n.0, rw (bit_suc S n.0) n.1)

pub meets_of : (S R q : ℕ) → T (bit S q) → T (bit R q) → T (meets S R)
meets_of S R q s r = not_T (eqb (bit_and S R) 0) (λ z.
    let t : T (bit (bit_and S R) q) = rw (bit_of_and S R q) (both (bit S q) (bit R q) s r) in
    not_in_none q (rw (eqb→eq (bit_and S R) 0 z) at t))

pub meets_at : (S R : ℕ) → T (meets S R) → (q : ℕ) × T (bit S q) × T (bit R q)
meets_at S R h =
    let n = some_bit (bit_and S R) h in
    let t : T (bit S n.0 && bit R n.0) = rw (bit_of_and S R n.0) at n.1 in
    (n.0, fst_of (bit S n.0) (bit R n.0) t, snd_of (bit S n.0) (bit R n.0) t)

-- the set of one state
pub bit_self : (q : ℕ) → T (bit (2 ^ q) q)
bit_self q = rw (div_self (pow_pos q)) tt

pub bit_single : (p q : ℕ) → T (bit (2 ^ p) q) → p ≡ q
bit_single zero zero t = refl
bit_single zero (suc q) t = absurd (not_in_none q (rw (bit_suc 1 q) at t))
bit_single (suc p) zero t = absurd (rw (pow-suc 2 p, mul-mod_left (2 ^ p) 2) at (rw (bit_first (2 ^ suc p)) at t))
bit_single (suc p) (suc q) t = ap suc (bit_single p q (rw (pow-suc 2 p, mul-div_cancel (2 ^ p) (zero-lt-suc 1)) at (rw (bit_suc (2 ^ suc p) q) at t)))

-- a state of a set of n bits is below n
pub bit_below : (n S q : ℕ) → S < 2 ^ n → T (bit S q) → q < n
bit_below n S q h t = ⊎_elim (λ k. k) (λ k. absurd (rw (div-eq_of_lt (lt_of_lt_of_le h (pow_mono {i = n} {j = q} k))) at t)) (lt_or_le q n)

-- ---- for loops in code

-- a bit by a shift and a mask
pub shift_mask : (S q : ℕ) → eqb (bit_and (S / 2 ^ q) 1) 1 ≡ bit S q
shift_mask S q = ap (λ n. eqb n 1) (and_mask (S / 2 ^ q) 1)

pub or_assoc : (S R Q : ℕ) → bit_or (bit_or S R) Q ≡ bit_or S (bit_or R Q)
or_assoc S R Q = bits_eq (bit_or (bit_or S R) Q) (bit_or S (bit_or R Q)) (λ q.
    rw (bit_of_or (bit_or S R) Q q, bit_of_or S R q, bit_of_or S (bit_or R Q) q, bit_of_or R Q q) (assoc (bit S q) (bit R q) (bit Q q)))
  where
    assoc : (a b c : Bool) → ((a || b) || c) ≡ (a || (b || c))
    assoc true b c = refl
    assoc false b c = refl

module _ {A : Type 0} where
  -- one set more at the end
  pub union_last : (f : A → ℕ) (l : List A) (a : A) → union f (l ++ (a ∷ [])) ≡ bit_or (union f l) (f a)
  union_last f [] a = or_zero_r (f a)
  union_last f (b ∷ l) a = ap (bit_or (f b)) (union_last f l a) ∙ sym (or_assoc (f b) (union f l) (f a))

-- sets that agree on l have the same union
pub union_agree : (f g : ℕ → ℕ) (l : List ℕ) → ((x : ℕ) → Mem x l → f x ≡ g x) → union f l ≡ union g l
union_agree f g [] h = refl
union_agree f g (x ∷ l) h = ap₂ bit_or (h x (Memᴰ.head refl)) (union_agree f g l (λ y m. h y (Memᴰ.tail m)))
