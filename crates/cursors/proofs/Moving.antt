-- The cursors of a set of letters, moved on one after the other from the lowest letter on.
use mathlib.Core.Path.{◌≡◌, refl, sym, ◌∙◌, ap, subst}
use mathlib.Core.Bool.{not, cond}
use mathlib.Core.Logic.{◌⊎◌, inl, inr, ⊎_elim}
use mathlib.Core.List.{List, map}
use Prim.Native.Nat.{ℕ, suc, ◌+◌, ◌-◌, ◌^◌, ◌≤◌, ◌<◌}
use native.Mathlib.Omega.{arith}
use lib.Bits.{bit_and, and_le_r}
use lib.Count.{count_trailing_zeros}
use lib.Dec.{T, T_not, not_T}
use lib.ListN.{length, set, drop, length-set}
use lib.Seq.{ext_get_or, get_or-append-add, get_or-drop, get_or-set_other, get_or-set_same}
use Rattle.profile.specs.Lists.{below}
use Rattle.profile.specs.Prefixes.{at}
use Rattle.profile.specs.Traces.{bit}
use Rattle.profile.proofs.Lists.{is_false, is_true, lt_or_le, test}
use Rattle.profile.proofs.Sets.{not_in_none}
use Rattle.theory.proofs.Counting.{length_range}
use Rattle.theory.proofs.Fronts.{front_at, front_whole}
use Rattle.theory.proofs.SetLoops.{rest_first, rest_in, rest_other, rest_without}
use Rattle.cursors.specs.Cursors.{advanced, moved_on, seek_from}

module _ (t : List ℕ) (k : ℕ) (cs : List ℕ) (G : ℕ) where
  -- where the cursor of letter y goes
  abbrev goes : ℕ → ℕ
  goes y = moved_on t (at cs y) y G

  -- the cursors of the letters that are left, and what is behind those of all letters, stand where they stood; the others have moved on
  pub record Moving (left : ℕ) (cursors : List ℕ) : Type 0 where
    pub small : left < 2 ^ 32
    pub long : length cursors ≡ length cs
    pub within : (y : ℕ) → T (bit left y) → T (bit G y)
    pub stand : (y : ℕ) → T (bit left y) ⊎ (k ≤ y) → at cursors y ≡ at cs y
    pub moved : (y : ℕ) → y < k → T (not (bit left y)) → at cursors y ≡ goes y

  pub moving_start : G < 2 ^ 32 → Moving G cs
  moving_start h = record {
    small = h;
    long = refl;
    within = λ y m. m;
    stand = λ y m. refl;
    moved = λ y l n. sym (ap (λ b. cond b (seek_from t (suc (at cs y)) y) (at cs y)) (is_false (bit G y) n));
  }

  module _ (left : ℕ) (some : 0 < left) (cursors : List ℕ) (m : Moving left cursors) where
    abbrev x : ℕ
    x = count_trailing_zeros 32 left

    abbrev r : ℕ
    r = bit_and left (left - 1)

    -- the lowest letter is one of G, and its cursor has not moved
    pub moving_in : T (bit G x)
    moving_in = m.within x (rest_first left some m.small)

    pub moving_from : at cursors x ≡ at cs x
    moving_from = m.stand x (inl (rest_first left some m.small))

    less : r < 2 ^ 32
    less = omega (arith, and_le_r left (left - 1), m.small)

    -- a letter other than the lowest is left as before
    others : (y : ℕ) → T (not (bit r y)) → (x ≡ y) ⊎ T (not (bit left y))
    others y n = ⊎_elim (λ a. ⊎_elim inl (λ b. absurd (T_not (bit r y) n b)) (rest_other left some m.small y a)) inr (test (bit left y))

    -- its cursor moves on
    pub moving_next : x < k → k ≤ length cs → (v : ℕ) → v ≡ seek_from t (suc (at cs x)) x → Moving r (set cursors x v)
    moving_next lt wide v e = record {
      small = less;
      long = length-set cursors x v ∙ m.long;
      within = λ y a. m.within y (rest_in left some m.small y a);
      stand = λ y a. get_or-set_other cursors x y v 0 (apart y a) ∙ m.stand y (⊎_elim (λ b. inl (rest_in left some m.small y b)) inr a);
      moved = λ y l n. ⊎_elim
          (λ q. subst (λ y. at (set cursors x v) y ≡ goes y) q (get_or-set_same cursors x v 0 (omega (arith, m.long)) ∙ own))
          (λ a. get_or-set_other cursors x y v 0 (λ q. T_not (bit left y) a (subst (λ z. T (bit left z)) (sym q) (rest_first left some m.small))) ∙ m.moved y l a)
          (others y n);
    }
      where
        own : v ≡ goes x
        own = e ∙ sym (ap (λ b. cond b (seek_from t (suc (at cs x)) x) (at cs x)) (is_true (bit G x) moving_in))

        apart : (y : ℕ) → T (bit r y) ⊎ (k ≤ y) → y ≡ x → ⊥
        apart y a q = ⊎_elim (λ b. rest_without 32 left some m.small (subst (λ z. T (bit r z)) q b)) (λ b. omega arith) a

    -- it is no letter below k
    pub moving_skip : k ≤ x → Moving r cursors
    moving_skip le = record {
      small = less;
      long = m.long;
      within = λ y a. m.within y (rest_in left some m.small y a);
      stand = λ y a. m.stand y (⊎_elim (λ b. inl (rest_in left some m.small y b)) inr a);
      moved = λ y l n. ⊎_elim (λ q. absurd (omega arith)) (m.moved y l) (others y n);
    }

  -- none is left
  pub moving_end : k ≤ length cs → (cursors : List ℕ) → Moving 0 cursors → cursors ≡ advanced k t cs G
  moving_end wide cursors m = ext_get_or 0 cursors (advanced k t cs G) (m.long ∙ sym (front_whole goes cs k wide)) (λ y h. ⊎_elim (below_k y) (from-k y) (lt_or_le y k))
    where
      below_k : (y : ℕ) → y < k → at cursors y ≡ at (advanced k t cs G) y
      below_k y l = m.moved y l (not_T (bit 0 y) (not_in_none y)) ∙ sym (front_at goes cs k wide y l)

      from-k : (y : ℕ) → k ≤ y → at cursors y ≡ at (advanced k t cs G) y
      from-k y l =
          let e : length (map goes (below k)) + (y - k) ≡ y = omega (arith, length_range goes k 0) in
          let d : k + (y - k) ≡ y = omega arith in
          m.stand y (inr l) ∙ sym (ap (at (advanced k t cs G)) (sym e) ∙ get_or-append-add (map goes (below k)) (drop k cs) (y - k) 0 ∙ get_or-drop k cs (y - k) 0 ∙ ap (at cs) d)
