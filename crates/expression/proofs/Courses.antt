-- What a caller of `make` gets: a call with k letters and the text u that was lent the moves `before` answered r and left `after`.
use mathlib.Core.Path.{◌≡◌, refl, sym, ◌∙◌, ap, ap₂, subst, subst₂}
use mathlib.Core.Logic.{◌⊎◌, ◌↔◌}
use mathlib.Core.Bool.{Bool, true, false}
use mathlib.Core.List.{List, []}
use mathlib.Core.Option.{Option, none-ne-some, some-injective, some-ne-none, none, some}
use Prim.Native.Nat.{ℕ, suc, ◌*◌, ◌≤◌, ◌<◌}
use native.Mathlib.Omega.{arith}
use lib.Dec.{T}
use lib.ListN.{drop, length, take}
use lib.Seq.{drop_at, take_at}
use Rattle.profile.specs.Limits.{most_letters}
use Rattle.profile.specs.declared.Refusal.{Refusal}
use Rattle.profile.specs.declared.Refusal.TheVariants.{BadText}
use Rattle.profile.specs.declared.Shape.{Shape}
use Rattle.profile.specs.Automata.{Accepted, automaton, profile_of, row}
use Rattle.profile.specs.Refusals.{refused_by, profile_out_of_range, refusal_number, refusal_place, state_bit}
use Rattle.profile.specs.Traces.{bit, letters_below}
use Rattle.expressions.specs.Expressions.{Describes, EndsIn, Expr, Leads, letter_at, numbered, size}
use Rattle.expressions.specs.Positions.{moves_of}
use Rattle.expressions.specs.Texts.{Breaks, Typed, expression}
use Rattle.expressions.specs.Passes.{fault}
use Rattle.expressions.proofs.Letters.{leaves_below}
use Rattle.expressions.proofs.Made.{accepts_described, final_is, move_is}
use Rattle.expressions.proofs.Places.{place_is}
use Rattle.expressions.proofs.Profiles.{in_range, moves_length, no_state_bit}
use Rattle.expressions.proofs.Trees.{one_tree, tree_of}
use Rattle.expressions.specs.Trees.{tree}
use Rattle.std.specs.Prelude.{Result, Ok, Err}
use Rattle.expression.specs.Making.{buffer_as, made_as, made_buffer, make_refusal, making, moves_put, shape_of, too_deep, too_many, too_short}
use Rattle.expression.proofs.Answers.{five, good_text, k_good}

-- a profile was made: its numbers h, and the moves in `after`
pub record Courses (k : ℕ) (u before : List ℕ) (h : Shape) (after : List ℕ) : Type 0 where
  -- the text types one expression and no other
  pub tree : Expr
  pub typed : Typed k expression u tree
  pub only : (f : Expr) → Typed k expression u f → f ≡ tree
  -- "State 0 starts; state i is the i-th letter typed, and s is one more than the letters typed"
  pub numbers : (h.k ≡ k) × (h.s ≡ suc (size tree)) × (h.start ≡ 0)
  -- "That letter leads from state q to i exactly when it may come directly after the q-th letter typed, or first for q = 0"
  pub move : (q a i : ℕ) → q < h.s → a < k → T (bit (row k (take (h.s * k) after) q a) i) ↔ ((1 ≤ i) × (i < h.s) × (letter_at tree i ≡ a) × Leads tree q i)
  -- "Final are the states a described log may end in, 0 for the empty log"
  pub final : (q : ℕ) → T (bit h.finals q) ↔ (EndsIn (numbered 1 tree) q ⊎ ((q ≡ 0) × Describes tree []))
  -- "The rest of a longer move buffer stays"
  pub rest : drop (h.s * k) after ≡ drop (h.s * k) before
  -- "The profile made accepts exactly the logs that the expression describes", whatever masks go with it
  pub accepts : (masks w : List ℕ) → T (letters_below (λ a. a) k w) → Accepted (automaton (profile_of h masks (take (h.s * k) after))) (λ a. a) w ↔ Describes tree w
  -- refusals 2 and 6 do not apply to it
  pub ranges : (masks : List ℕ) → length masks ≡ k → profile_out_of_range (profile_of h masks (take (h.s * k) after)) ≡ false
  pub bits : (masks : List ℕ) → state_bit (profile_of h masks (take (h.s * k) after)) ≡ false

module _ (k : ℕ) (u before : List ℕ) (unrefused : make_refusal k u (length before) ≡ none) where
  private_tree : Expr
  private_tree = (good_text k u (length before) unrefused).tree

  -- the answer and the buffer of a call that is not refused
  answered : (making k u (length before) ≡ Ok (shape_of k private_tree)) × (made_buffer k u before ≡ moves_put k private_tree before)
  unfolding private_tree
  answered =
      let g = good_text k u (length before) unrefused in
      let q = tree_of k g.few g.typed in
      (ap₂ (made_as k) unrefused q, ap₂ (λ o t. buffer_as k o t before) unrefused q)

  courses : Courses k u before (shape_of k private_tree) (moves_put k private_tree before)
  unfolding private_tree
  courses =
      let g = good_text k u (length before) unrefused in
      let e = g.tree in
      let n = suc (size e) * k in
      let rest = drop n before in
      let front : take n (moves_put k e before) ≡ moves_of k e = take_at (moves_of k e) rest n (moves_length k e) in
      record {
        tree = e;
        typed = g.typed;
        only = λ f s. one_tree k g.few s g.typed;
        numbers = (refl, refl, refl);
        move = λ q a i hq ha.
            let m = move_is k e q a i (omega arith) ha in (
              (λ t. let h = m.0 (subst (λ l. T (bit (row k l q a) i)) front t) in (h.0, omega (arith, h.1), h.2, h.3)),
              λ h. subst (λ l. T (bit (row k l q a) i)) (sym front) (m.1 (h.0, omega (arith, h.1), h.2, h.3)),
            );
        final = final_is e;
        rest = drop_at (moves_of k e) rest n (moves_length k e);
        accepts = λ masks w b.
            subst (λ l. Accepted (automaton (profile_of (shape_of k e) masks l)) (λ a. a) w ↔ Describes e w) (sym front) (accepts_described k masks e (leaves_below k g.typed) w b);
        ranges = λ masks l. ap (λ m. profile_out_of_range (profile_of (shape_of k e) masks m)) front ∙ in_range k masks e g.some_letter g.few l g.short;
        bits = λ masks. ap (λ m. state_bit (profile_of (shape_of k e) masks m)) front ∙ no_state_bit k masks e;
      }

-- where k is in range, 11 is decided before 12, 13 and 9
broken_first : (c d b : Bool) (o : Option ℕ) (i : ℕ) → (five false o c d b ≡ some (BadText i)) ↔ (o ≡ some i)
broken_first c d b (some j) i =
    ((λ e. ap some (ap refusal_place (some-injective _ _ e))), λ e. ap (λ j. some (BadText j)) (some-injective _ _ e))
broken_first c d b none i = ((λ e. absurd (other c d b e)), λ e. absurd (none-ne-some _ e))
  where
    other : (c d b : Bool) → five false none c d b ≡ some (BadText i) → ⊥
    other true d b e = let n = ap refusal_number (some-injective _ _ e) in omega arith
    other false true b e = let n = ap refusal_number (some-injective _ _ e) in omega arith
    other false false true e = let n = ap refusal_number (some-injective _ _ e) in omega arith
    other false false false e = none-ne-some _ e

-- the profile of an answer
shape_told : Result Shape Refusal → Option Shape
shape_told (Ok h) = some h
shape_told (Err x) = none

module _ (k : ℕ) (u before : List ℕ) (r : Result Shape Refusal) (after : List ℕ) (answer : r ≡ making k u (length before)) (buffer : after ≡ made_buffer k u before) where
  -- "The lowest number that applies is given": the call is refused by x exactly when x is the lowest; else a profile is made
  pub refused_exactly : (x : Refusal) → (r ≡ Err x) ↔ (make_refusal k u (length before) ≡ some x)
  refused_exactly x = go (make_refusal k u (length before)) refl
    where
      go : (o : Option Refusal) → make_refusal k u (length before) ≡ o → (r ≡ Err x) ↔ (make_refusal k u (length before) ≡ some x)
      go none n = (
        (λ e. absurd (none-ne-some _ (ap refused_by (sym (answered k u before n).0 ∙ sym answer ∙ e)))),
        λ e. absurd (none-ne-some _ (sym n ∙ e)),
      )
      go (some y) n =
          let q : r ≡ Err y = answer ∙ ap (λ o. made_as k o (tree k u)) n in
          ((λ e. n ∙ ap refused_by (sym q ∙ e)), λ e. q ∙ ap Err (some-injective _ _ (sym n ∙ e)))

  -- "Refusals leave every buffer unchanged"
  pub refused_unchanged : (x : Refusal) → r ≡ Err x → after ≡ before
  refused_unchanged x e = buffer ∙ ap (λ o. buffer_as k o (tree k u) before) ((refused_exactly x).0 e)

  -- a profile that was made is that of the courses typed
  pub made_exactly : (h : Shape) → r ≡ Ok h → Courses k u before h after
  unfolding shape_told
  made_exactly h e = go (make_refusal k u (length before)) refl
    where
      go : (o : Option Refusal) → make_refusal k u (length before) ≡ o → Courses k u before h after
      go (some y) n = absurd (some-ne-none _ (ap refused_by (sym (answer ∙ ap (λ o. made_as k o (tree k u)) n) ∙ e)))
      go none n =
          let a = answered k u before n in
          subst₂ (λ g l. Courses k u before g l) (some-injective _ _ (ap shape_told (sym a.0 ∙ sym answer ∙ e))) (sym (buffer ∙ a.1)) (courses k u before n)

  -- 11 is given exactly when the text breaks the rules, and its place is "that of the first byte that no right text with the same beginning has there, or the
  -- text's length if it ends too early"
  pub place_exactly : 1 ≤ k → k ≤ most_letters → (i : ℕ) → (r ≡ Err (BadText i)) ↔ Breaks k u i
  place_exactly some_letter few i =
      let p = place_is k some_letter few u i in
      let q = refused_exactly (BadText i) in
      let c = broken_first (too_deep u) (too_many k u) (too_short k u (length before)) (fault k u) i in
      let e : make_refusal k u (length before) ≡ five false (fault k u) (too_deep u) (too_many k u) (too_short k u (length before)) =
      ap (λ b. five b (fault k u) (too_deep u) (too_many k u) (too_short k u (length before))) (k_good k some_letter few) in
      ((λ t. p.0 (c.0 (sym e ∙ q.0 t))), λ t. q.1 (e ∙ c.1 (p.1 t)))
