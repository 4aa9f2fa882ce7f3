-- The rounds of the sets that are reached: one state after the other is added to those that paths may lead over.
use mathlib.Core.Path.{◌≡◌, refl, sym, ◌∙◌, ap, ap₂, subst}
use mathlib.Core.Bool.{cond}
use mathlib.Core.List.Memᴰ
use mathlib.Core.List.{List, [], ◌∷◌, ◌++◌, map}
use mathlib.Core.Logic.{⊎_elim}
use Prim.Native.Nat.{ℕ, suc, ◌+◌, ◌*◌, ◌/◌, ◌%◌, ◌^◌, ◌≤◌, ◌<◌}
use native.Mathlib.Nat.{div-lt_iff_lt-mul, mod-lt}
use native.Mathlib.Omega.{arith}
use lib.Bits.{bit_or}
use lib.Dec.{T}
use lib.ListN.{length, get_or, drop}
use lib.Seq.{drop_at, get_or-append-add, get_or-drop}
use Rattle.profile.specs.Automata.{meets}
use Rattle.profile.specs.Lists.{Mem, below}
use Rattle.profile.specs.Traces.{bit}
use Rattle.profile.proofs.Lists.{below_at, is_false, is_true, test}
use Rattle.profile.proofs.Sets.{t_eq, bit_self, bit_single, meets_at, meets_of}
use Rattle.theory.proofs.Counting.{length_range}
use Rattle.theory.proofs.Fronts.{front_at}
use Rattle.views.specs.Views.{reaches}
use Rattle.views.proofs.Hiding.{reaches_no, reaches_yes}
use Rattle.hidden.specs.Hidden.{widened}

-- a state is in a set where the set of this state meets it
pub meets_one : (S q : ℕ) → meets S (2 ^ q) ≡ bit S q
meets_one S q = t_eq (meets S (2 ^ q)) (bit S q)
    (λ t. let m = meets_at S (2 ^ q) t in subst (λ z. T (bit S z)) (sym (bit_single q m.0 m.2)) m.1)
    (λ t. meets_of S (2 ^ q) q t (bit_self q))

pub map_agree : (f g : ℕ → ℕ) (l : List ℕ) → ((x : ℕ) → Mem x l → f x ≡ g x) → map f l ≡ map g l
map_agree f g [] h = refl
map_agree f g (a ∷ l) h = ap₂ ◌∷◌ (h a (Memᴰ.head refl)) (map_agree f g l (λ x m. h x (Memᴰ.tail m)))

-- what is not written yet
pub front_rest : (f : ℕ → ℕ) (l : List ℕ) (q : ℕ) → get_or (map f (below q) ++ drop q l) q 0 ≡ get_or l q 0
front_rest f l q =
    let e : q ≡ length (map f (below q)) + 0 = omega (arith, length_range f q 0) in
    let z : q + 0 ≡ q = omega arith in
    ap (λ n. get_or (map f (below q) ++ drop q l) n 0) e ∙ get_or-append-add (map f (below q)) (drop q l) 0 0 ∙ get_or-drop q l 0 0 ∙ ap (λ n. get_or l n 0) z

-- what stands behind what is written
pub front_behind : (f : ℕ → ℕ) (s : ℕ) (l r : List ℕ) → r ≡ map f (below s) ++ drop s l → drop s r ≡ drop s l
front_behind f s l r e = ap (drop s) e ∙ drop_at (map f (below s)) (drop s l) s (length_range f s 0)

pub front_fixed : (f : ℕ → ℕ) (s : ℕ) (l r : List ℕ) → r ≡ map f (below s) ++ drop s l → r ≡ map f (below s) ++ drop s r
front_fixed f s l r e = e ∙ ap (λ z. map f (below s) ++ z) (sym (front_behind f s l r e))

-- one round more
pub reaches_suc : (next : ℕ → ℕ) (n q : ℕ) → reaches next (suc n) q ≡ widened (reaches next n n) n (reaches next n q)
reaches_suc next n q = ⊎_elim
    (λ t. reaches_yes next n q t ∙ sym (ap (λ b. cond b (bit_or (reaches next n q) (reaches next n n)) (reaches next n q)) (is_true (bit (reaches next n q) n) t)))
    (λ t. reaches_no next n q t ∙ sym (ap (λ b. cond b (bit_or (reaches next n q) (reaches next n n)) (reaches next n q)) (is_false (bit (reaches next n q) n) t)))
    (test (bit (reaches next n q) n))

module _ (next : ℕ → ℕ) (n s : ℕ) (l r : List ℕ) (h : n < s) (k : s ≤ length l) (e : r ≡ map (reaches next n) (below s) ++ drop s l) where
  round_at : (q : ℕ) → q < s → get_or r q 0 ≡ reaches next n q
  round_at q lt = ap (λ z. get_or z q 0) e ∙ front_at (reaches next n) l s k q lt

  pub round : map (λ q. widened (get_or r n 0) n (get_or r q 0)) (below s) ++ drop s r ≡ map (reaches next (suc n)) (below s) ++ drop s l
  round = ap₂ (λ x y. x ++ y)
      (map_agree (λ q. widened (get_or r n 0) n (get_or r q 0)) (reaches next (suc n)) (below s)
      (λ q m. ap₂ (λ a b. widened a n b) (round_at n h) (round_at q (below_at s q m)) ∙ sym (reaches_suc next n q)))
      (ap (drop s) e ∙ drop_at (map (reaches next n) (below s)) (drop s l) s (length_range (reaches next n) s 0))

-- the state and the letter of number j of the moves
pub state_of : (k s j : ℕ) → 1 ≤ k → j < s * k → j / k < s
state_of k s j h lt = (div-lt_iff_lt-mul {k = k} {x = j} {y = s} h).1 lt

pub letter_of : (k j : ℕ) → 1 ≤ k → j % k < k
letter_of k j h = mod-lt j {m = k} h
