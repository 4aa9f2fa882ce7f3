-- The place of 11 is that of the first byte that no right text with the same beginning has there, or the text's length if it ends too early.
use mathlib.Core.Path.{◌≡◌, refl, sym, ◌∙◌, ap, subst}
use mathlib.Core.Bool.{Bool, true, false}
use mathlib.Core.Logic.{◌⊎◌, inl, inr, ⊎_elim, ◌↔◌}
use mathlib.Core.List.{List, [], ◌∷◌, ◌++◌, append_assoc, append-nil}
use mathlib.Core.Option.{Option, some-injective, none-ne-some, none, some}
use Prim.Native.Nat.{ℕ, zero, suc, ◌+◌, ◌≤◌, ◌<◌}
use native.Mathlib.Omega.{arith}
use lib.Dec.{lt→ltb}
use lib.ListN.{length, take, drop, take-append-drop}
use lib.Seq.{take_all, take-take}
use Rattle.profile.specs.Limits.{most_letters}
use Rattle.profile.proofs.Lists.{lt_or_le}
use Rattle.expressions.specs.Texts.{Begins, Breaks, Right, at_byte, at_end}
use Rattle.expressions.specs.Passes.{Place, closes, ended, fault, fault_from, later, letter, next, sign}
use Rattle.expressions.proofs.Passes.{Stands, a_start, fault_goes, fault_stops, right_is, right_passes, stands_next, stands_right, stepped}

-- ---- every beginning that the pass goes through is that of a right text

module _ (k : ℕ) (some_letter : 1 ≤ k) where
  begins_more : (r : List ℕ) (c : ℕ) → Begins k (r ++ (c ∷ [])) → Begins k r
  begins_more r c b = record { rest = c ∷ b.rest; right = subst (Right k) (append_assoc r (c ∷ []) b.rest) b.right }

  begins_ready : (d : ℕ) (r : List ℕ) → Stands k false d r → Begins k r
  begins_ready zero r a = record { rest = []; right = subst (Right k) (sym (append-nil r)) (stands_right k false zero r refl a) }
  begins_ready (suc d) r a = begins_more r 41 (begins_ready d (r ++ (41 ∷ [])) (stepped k 41 r closes false (suc d) refl a))

  begins_stands : (w : Bool) (d : ℕ) (r : List ℕ) → Stands k w d r → Begins k r
  begins_stands true d r a = begins_more r 97 (begins_ready d (r ++ (97 ∷ [])) (stepped k 97 r letter true d (lt→ltb 97 (97 + k) (omega arith)) a))
  begins_stands false d r a = begins_ready d r a

-- ---- up to the place

pub later_at : (o : Option ℕ) (i : ℕ) → later o ≡ some i → (j : ℕ) × (o ≡ some j) × (i ≡ suc j)
later_at none i e = absurd (none-ne-some _ e)
later_at (some j) i e = (j, refl, sym (some-injective _ _ e))

ended_at : (w : Bool) (d i : ℕ) → ended w d ≡ some i → i ≡ 0
ended_at true d i e = sym (some-injective _ _ e)
ended_at false zero i e = absurd (none-ne-some _ e)
ended_at false (suc d) i e = sym (some-injective _ _ e)

module _ (k : ℕ) where
  -- what is known of the place, from where the pass stands behind r
  record Known (w : Bool) (d : ℕ) (r u : List ℕ) (i : ℕ) : Type 0 where
    pub inside : i ≤ length u
    pub begins : 1 ≤ k → Stands k w d r → Begins k (r ++ take i u)
    pub fixed : i < length u → (v : List ℕ) → fault_from k w d (take (suc i) u ++ v) ≡ some i

  known : (u : List ℕ) (w : Bool) (d : ℕ) (r : List ℕ) (i : ℕ) → fault_from k w d u ≡ some i → Known w d r u i
  known [] w d r i e =
      let z = ended_at w d i e in
      record { inside = omega arith; begins = λ h a. subst (Begins k) (sym (ap (λ n. r ++ take n []) z ∙ append-nil r)) (begins_stands k h w d r a); fixed = λ h. absurd (omega arith) }
  known (c ∷ u) w d r i e = go (next (sign k c) w d) refl (known u)
    where
      go : (o : Option Place) → next (sign k c) w d ≡ o → ((w : Bool) (d : ℕ) (r : List ℕ) (i : ℕ) → fault_from k w d u ≡ some i → Known w d r u i) → Known w d r (c ∷ u) i
      go none h f =
          let z : 0 ≡ i = some-injective _ _ (sym (fault_stops k c w d u h) ∙ e) in
          subst (Known w d r (c ∷ u)) z
          (record {
            inside = omega arith;
            begins = λ g a. subst (Begins k) (sym (append-nil r)) (begins_stands k g w d r a);
            fixed = λ g v. fault_stops k c w d v h;
          })
      go (some s) h f =
          let n = later_at (fault_from k s.want s.depth u) i (sym (fault_goes k c w d u s h) ∙ e) in
          let m = f s.want s.depth (r ++ (c ∷ [])) n.0 n.1 in
          subst (Known w d r (c ∷ u)) (sym n.2)
          (record {
            inside = omega (arith, m.inside);
            begins = λ g a. subst (Begins k) (append_assoc r (c ∷ []) (take n.0 u)) (m.begins g (stands_next k c r w d s h a));
            fixed = λ g v. fault_goes k c w d (take (suc n.0) u ++ v) s h ∙ ap later (m.fixed (omega arith) v);
          })

module _ (k : ℕ) (some_letter : 1 ≤ k) (few : k ≤ most_letters) where
  pub fault_breaks : (u : List ℕ) (i : ℕ) → fault k u ≡ some i → Breaks k u i
  fault_breaks u i e = go (known k u true 0 [] i e) (lt_or_le i (length u))
    where
      go : Known k true 0 [] u i → (i < length u) ⊎ (length u ≤ i) → Breaks k u i
      go n (inl h) = at_byte h (n.begins some_letter a_start) (λ b. none-ne-some _ (sym (right_passes k few b.right) ∙ n.fixed h b.rest))
      go n (inr h) = at_end (omega (arith, n.inside)) (subst (Begins k) (take_all i u h) (n.begins some_letter a_start)) (λ r. none-ne-some _ (sym (right_passes k few r) ∙ e))

-- ---- there is one such place

begins_front : (k m n : ℕ) (u : List ℕ) → m ≤ n → Begins k (take n u) → Begins k (take m u)
begins_front k m n u h b =
    let e : take m u ++ drop m (take n u) ≡ take n u = ap (λ x. x ++ drop m (take n u)) (sym (take-take m n u h)) ∙ take-append-drop m (take n u) in
    record {
      rest = drop m (take n u) ++ b.rest;
      right = subst (Right k) (ap (λ x. x ++ b.rest) (sym e) ∙ append_assoc (take m u) (drop m (take n u)) b.rest) b.right;
    }

breaks_inside : {k : ℕ} {u : List ℕ} {i : ℕ} → Breaks k u i → i ≤ length u
breaks_inside (at_byte h b n) = omega arith
breaks_inside (at_end e b n) = omega arith

breaks_begins : {k : ℕ} {u : List ℕ} {i : ℕ} → Breaks k u i → Begins k (take i u)
breaks_begins (at_byte h b n) = b
breaks_begins {k} {u} {i} (at_end e b n) = subst (Begins k) (sym (take_all i u (omega arith))) b

not_before : {k : ℕ} {u : List ℕ} {i j : ℕ} → Breaks k u i → Breaks k u j → i < j → ⊥
not_before {k} {u} {i} {j} (at_byte h b n) y l = n (begins_front k (suc i) j u l (breaks_begins y))
not_before (at_end e b n) y l = let m = breaks_inside y in omega arith

right_begins : (k i : ℕ) (u : List ℕ) → Right k u → Begins k (take i u)
right_begins k i u r = record { rest = drop i u; right = subst (Right k) (sym (take-append-drop i u)) r }

not_right : {k : ℕ} {u : List ℕ} {i : ℕ} → Breaks k u i → Right k u → ⊥
not_right {k} {u} {i} (at_byte h b n) r = n (right_begins k (suc i) u r)
not_right (at_end e b n) r = n r

-- "the place … is that of the first byte that no right text with the same beginning has there, or the text's length if it ends too early"
pub place_is : (k : ℕ) → 1 ≤ k → k ≤ most_letters → (u : List ℕ) (i : ℕ) → (fault k u ≡ some i) ↔ Breaks k u i
place_is k h few u i = (fault_breaks k h few u i, λ b. go b (fault k u) refl)
  where
    go : Breaks k u i → (o : Option ℕ) → fault k u ≡ o → fault k u ≡ some i
    go b none e = absurd (not_right b ((right_is k few u).0 e))
    go b (some j) e =
        let y = fault_breaks k h few u j e in
        let s : j ≡ i = ⊎_elim (λ l. absurd (not_before b y l)) (λ l. ⊎_elim (λ g. absurd (not_before y b g)) (λ g. omega arith) (lt_or_le j i)) (lt_or_le i j) in
        e ∙ ap some s
