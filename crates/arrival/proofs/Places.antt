-- The order of arrival by places in the list: where a prefix with one letter less stands.
use mathlib.Core.Path.{◌≡◌, refl, ◌∙◌, ap}
use mathlib.Core.Bool.{Bool}
use mathlib.Core.Logic.{inl, inr, ⊎_elim, ◌≢◌}
use mathlib.Core.List.{List, [], ◌∷◌, ◌++◌}
use Prim.Native.Nat.{ℕ, zero, suc, ◌+◌, ◌≤◌, ◌<◌}
use native.Mathlib.Omega.{arith}
use lib.Dec.{T, ltb}
use lib.ListN.{get_or, length, get_or-append}
use lib.Seq.{get_or-append-add}
use Rattle.profile.specs.Traces.{letters_below}
use Rattle.profile.specs.Prefixes.{at}
use Rattle.profile.proofs.Lists.{NoDup, all_split, lt_or_le, mem_getd, mem_place, nodup_place}
use Rattle.theory.proofs.Prefixes.{one_other}
use Rattle.arrival.specs.Arrival.{arrivals, newcomers, with_one}
use Rattle.arrival.proofs.Arrivals.{arrivals_last, arrivals_listed}
use Rattle.arrival.proofs.Between.{arrivals_between}
use Rattle.arrival.proofs.Inner.{arrivals_inner, arrivals_kept, new_count, old_count, one_more_at}
use Rattle.arrival.proofs.Before.{Before, begins, behind}

module _ {A : Type 0} (z : A) where
  -- places of two that stand one before the other, and the other way round
  before_at : {l : List A} {c d : A} → Before l c d → (i j : ℕ) × (i < j) × (j < length l) × (get_or l i z ≡ c) × (get_or l j z ≡ d)
  before_at (begins {c = c} {l = l} m) =
      let n = mem_place z m in
      let lt : suc n.0 < suc (length l) = omega (arith, n.1) in
      let o : 0 < suc n.0 = omega arith in
      (0, suc n.0, o, lt, refl, n.2)
  before_at (behind {x = x} {l = l} b) =
      let n = before_at b in
      let lt : suc n.1 < suc (length l) = omega (arith, n.3) in
      let o : suc n.0 < suc n.1 = omega (arith, n.2) in
      (suc n.0, suc n.1, o, lt, n.4, n.5)

  before_of : (l : List A) (i j : ℕ) → i < j → j < length l → Before l (get_or l i z) (get_or l j z)
  before_of [] i j o lt = absurd (omega (arith, lt))
  before_of (x ∷ l) i zero o lt = absurd (omega (arith, o))
  before_of (x ∷ l) zero (suc j) o lt = begins (mem_getd l j z (omega (arith, lt)))
  before_of (x ∷ l) (suc i) (suc j) o lt = behind (before_of l i j (omega (arith, o)) (omega (arith, lt)))

  before_places : (l : List A) → NoDup l → (i j : ℕ) → i < length l → j < length l → Before l (get_or l i z) (get_or l j z) → i < j
  before_places l n i j li lj b =
      let m = before_at b in
      let p = nodup_place l z n m.0 i (omega (arith, m.2, m.3)) li m.4 in
      let q = nodup_place l z n m.1 j m.3 lj m.5 in
      omega (arith, m.2, p, q)

-- what is told of the prefix at place i with one b less: one more than its place, or 0 where there is none
pub data Right (l : List (List ℕ)) (b i : ℕ) : ℕ → Type 0 where
  there : (j : ℕ) → j < i → with_one (get_or l j []) b ≡ get_or l i [] → Right l b i (suc j)
  nowhere : ((j : ℕ) → j < length l → with_one (get_or l j []) b ≡ get_or l i [] → ⊥) → Right l b i 0

module _ (may : ℕ → ℕ → Bool) (distinct : (a b : ℕ) → T (may a b) → a ≢ b) (k : ℕ) (w : List ℕ) (letters : T (letters_below (λ a. a) k w)) where
  abbrev all : List (List ℕ)
  all = arrivals may k w

  once : NoDup all
  once = (arrivals_listed may k distinct w letters).once

  -- a prefix stands behind every prefix that it has one letter more than
  pub less_before : (b i j : ℕ) → b < k → i < length all → j < length all → with_one (get_or all j []) b ≡ get_or all i [] → j < i
  less_before b i j lb li lj q =
      before_places [] all once j i lj li (arrivals_inner may distinct k w letters b (get_or all i []) (get_or all j []) lb (mem_getd all i [] li) (mem_getd all j [] lj) q)

  -- among prefixes with the same count of b, one b less keeps the order
  pub less_kept : (b i x j y : ℕ) → b < k → i < x → x < length all → j < length all → y < length all → with_one (get_or all j []) b ≡ get_or all i [] → with_one (get_or all y []) b ≡ get_or all x []
      → at (get_or all i []) b ≡ at (get_or all x []) b → j < y
  less_kept b i x j y lb o lx lj ly q p e =
      before_places [] all once j y lj ly
      (arrivals_kept may distinct k w letters b (get_or all i []) (get_or all x []) (get_or all j []) (get_or all y []) lb (before_of [] all i x o lx) (mem_getd all j [] lj) (mem_getd all y [] ly) q p e)

  -- from a prefix with one b less on, up to the prefix itself
  pub less_between : (b i j x : ℕ) → b < k → x < length all → j ≤ i → i < x → with_one (get_or all j []) b ≡ get_or all x []
      → (at (get_or all i []) b ≤ at (get_or all x []) b)
      × (at (get_or all i []) b ≡ at (get_or all x []) b → (y : ℕ) × (y < length all) × (with_one (get_or all y []) b ≡ get_or all i []))
  less_between b i j x lb lx le o q =
      let g = arrivals_between may distinct k w letters b (get_or all j []) (get_or all i []) (get_or all x []) lb (mem_getd all j [] (omega (arith, le, o, lx))) q
      (⊎_elim (λ lt. inr (before_of [] all j i lt (omega (arith, o, lx)))) (λ ge. let e : j ≡ i = omega (arith, le, ge) in inl (ap (λ n. get_or all n []) e)) (lt_or_le j i))
      (before_of [] all i x o lx) in
      (g.0, λ e. let f = g.1 e in let n = mem_place [] f.1 in (n.0, n.1, ap (λ v. with_one v b) n.2 ∙ f.2))

-- the prefixes of a log with one event more: the old ones, then the new ones
module _ (may : ℕ → ℕ → Bool) (distinct : (a b : ℕ) → T (may a b) → a ≢ b) (k : ℕ) (w : List ℕ) (e : ℕ) (letters : T (letters_below (λ a. a) k (w ++ (e ∷ [])))) where
  abbrev old : List (List ℕ)
  old = arrivals may k w

  abbrev new : List (List ℕ)
  new = newcomers may k w e old

  before_letters : T (letters_below (λ a. a) k w)
  before_letters = (all_split (λ a. ltb a k) w (e ∷ []) letters).0

  pub old_at : (i : ℕ) → i < length old → get_or (arrivals may k (w ++ (e ∷ []))) i [] ≡ get_or old i []
  old_at i lt = ap (λ l. get_or l i []) (arrivals_last may k w e) ∙ get_or-append old new [] i lt

  pub new_at : (i : ℕ) → get_or (arrivals may k (w ++ (e ∷ []))) (length old + i) [] ≡ get_or new i []
  new_at i = ap (λ l. get_or l (length old + i) []) (arrivals_last may k w e) ∙ get_or-append-add old new i []

  -- what gives a new prefix by a letter other than that of the event is new
  pub less_new : (b i j : ℕ) → b < k → (b ≡ e → ⊥) → i < length new → j < length old → with_one (get_or old j []) b ≡ get_or new i [] → ⊥
  less_new b i j lb ne li lj q =
      let h = arrivals_listed may k distinct w before_letters in
      let o = old_count may distinct k w old e letters h (get_or old j []) (mem_getd old j [] lj) in
      let n = new_count may distinct k w old e letters h (get_or new i []) (mem_getd new i [] li) in
      omega (arith, o.1, n.1, one_more_at (get_or old j []) b k o.0 lb e, ap (λ v. at v e) q, one_other b e ne)
