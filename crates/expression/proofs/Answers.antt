-- The answers of the call: each refusal in its place, and the profile.
use mathlib.Core.Path.{◌≡◌, refl, sym, ◌∙◌, ap, ap₂, subst}
use mathlib.Core.Bool.{Bool, true, false, ◌||◌}
use mathlib.Core.List.Memᴰ
use mathlib.Core.List.{List, [], ◌∷◌}
use mathlib.Core.Option.{Option, none-ne-some, some-injective, some-ne-none, none, some}
use Prim.Native.Nat.{ℕ, suc, ◌+◌, ◌*◌, ◌≤◌, ◌<◌}
use native.Mathlib.Numerals.{add-one}
use native.Mathlib.Omega.{arith}
use lib.Dec.{T, ltb}
use lib.ListN.{length}
use borrow.Author.Tests.{le-ltb, lt-ltb, ltb-false}
use Rattle.profile.specs.Limits.{deepest_brackets, most_letters, most_typed}
use Rattle.profile.specs.declared.Refusal.{Refusal}
use Rattle.profile.specs.declared.Refusal.TheVariants.{BadText, DeepText, LongText, OutOfRange, ShortBuffer}
use Rattle.profile.specs.declared.Shape.{Shape}
use Rattle.profile.specs.Refusals.{lowest, refused_by}
use Rattle.expressions.specs.Expressions.{Expr, size}
use Rattle.expressions.specs.Positions.{finals_of}
use Rattle.expressions.specs.Texts.{Typed, expression}
use Rattle.expressions.specs.Passes.{fault, letters_of}
use Rattle.expressions.proofs.Letters.{letters_typed}
use Rattle.expressions.proofs.Numbers.{length_leaves}
use Rattle.expressions.proofs.Passes.{right_is}
use Rattle.expressions.proofs.Trees.{tree_of}
use Rattle.expressions.specs.Trees.{tree}
use Rattle.theory.proofs.Refusals.{lowest_none}
use Rattle.scanner.specs.Scan.{right_as, scanned}
use Rattle.scanner.proofs.Scans.{scanned_broken, scanned_right}
use Rattle.std.specs.Prelude.{Result, Ok, Err}
use Rattle.expression.specs.Making.{RightText, buffer_as, made_as, made_buffer, making, broken, broken_place, k_out_of_range, make_refusal, make_refusals, moves_put, shape_of, too_deep, too_many, too_short}

-- what the call shows of its answer r and of the buffer `after`, the buffer `before` being lent
pub record Makes (k : ℕ) (u before : List ℕ) (r : Result Shape Refusal) (after : List ℕ) : Type 0 where
  -- a profile, or the lowest refusal that applies; a refusal leaves the buffer unchanged
  pub refused : refused_by r ≡ make_refusal k u (length before)
  pub kept : (x : Refusal) → r ≡ Err x → after ≡ before
  -- whatever expression the text types, the profile is made of it
  pub made : (e : Expr) → Typed k expression u e → make_refusal k u (length before) ≡ none → (r ≡ Ok (shape_of k e)) × (after ≡ moves_put k e before)

-- the refusal of the five conditions
abbrev pub five : Bool → Option ℕ → Bool → Bool → Bool → Option Refusal
five a f c d e = lowest ((a, OutOfRange) ∷ (broken f, BadText (broken_place f)) ∷ (c, DeepText) ∷ (d, LongText) ∷ (e, ShortBuffer) ∷ [])

k_low : (k : ℕ) → k < 1 → k_out_of_range k ≡ true
k_low k h = rw (lt-ltb k 1 h)

k_high : (k : ℕ) → 1 ≤ k → most_letters < k → k_out_of_range k ≡ true
k_high k a b = ap₂ (λ x y. x || y) (le-ltb k 1 a) (lt-ltb most_letters k b)

pub k_good : (k : ℕ) → 1 ≤ k → k ≤ most_letters → k_out_of_range k ≡ false
k_good k a b = ap₂ (λ x y. x || y) (le-ltb k 1 a) (le-ltb most_letters k b)

-- ---- a text that is not refused

or_false : (a b : Bool) → (a || b) ≡ false → (a ≡ false) × (b ≡ false)
or_false true b e = absurd (subst T e tt)
or_false false b e = (refl, e)

broken_none : (o : Option ℕ) → broken o ≡ false → o ≡ none
broken_none none e = refl
broken_none (some i) e = absurd (subst T e tt)

-- what is known of it
pub record GoodText (k : ℕ) (u : List ℕ) : Type 0 where
  pub some_letter : 1 ≤ k
  pub few : k ≤ most_letters
  pub tree : Expr
  pub typed : Typed k expression u tree
  pub short : size tree ≤ most_typed

pub good_text : (k : ℕ) (u : List ℕ) (n : ℕ) → make_refusal k u n ≡ none → GoodText k u
good_text k u n h =
    let all = (lowest_none (make_refusals k u n)).0 h in
    let range = or_false (ltb k 1) (ltb most_letters k) (all (k_out_of_range k, OutOfRange) (Memᴰ.head refl)) in
    let few : k ≤ most_letters = ltb-false most_letters k range.1 in
    let right = (right_is k few u).0 (broken_none (fault k u) (all (broken (fault k u), BadText (broken_place (fault k u))) (Memᴰ.tail (Memᴰ.head refl)))) in
    let letters = ltb-false most_typed (length (letters_of k u)) (all (too_many k u, LongText) (Memᴰ.tail (Memᴰ.tail (Memᴰ.tail (Memᴰ.head refl))))) in
    record {
      some_letter = ltb-false k 1 range.0;
      few = few;
      tree = right.tree;
      typed = right.typed;
      short = omega (arith, letters, ap length (letters_typed k few right.typed), length_leaves right.tree);
    }

pub refused_is : (r : Result Shape Refusal) (x : Refusal) → refused_by r ≡ some x → r ≡ Err x
refused_is (Ok h) x e = absurd (none-ne-some _ e)
refused_is (Err y) x e = ap Err (some-injective _ _ e)

-- what the call shows is what the definitions say
pub makes_equal : (k : ℕ) (u before : List ℕ) (r : Result Shape Refusal) (after : List ℕ) → Makes k u before r after → (r ≡ making k u (length before)) × (after ≡ made_buffer k u before)
makes_equal k u before r after m = go (make_refusal k u (length before)) refl
  where
    go : (o : Option Refusal) → make_refusal k u (length before) ≡ o → (r ≡ making k u (length before)) × (after ≡ made_buffer k u before)
    go none h =
        let g = good_text k u (length before) h in
        let n = m.made g.tree g.typed h in
        let t = tree_of k g.few g.typed in
        (n.0 ∙ sym (ap₂ (made_as k) h t), n.1 ∙ sym (ap₂ (λ o t. buffer_as k o t before) h t))
    go (some x) h =
        let q = refused_is r x (m.refused ∙ h) in
        (q ∙ sym (ap (λ o. made_as k o (tree k u)) h), m.kept x q ∙ sym (ap (λ o. buffer_as k o (tree k u) before) h))

module _ (k : ℕ) (u before : List ℕ) where
  refused_makes : (x : Refusal) → make_refusal k u (length before) ≡ some x → Makes k u before (Err x) before
  refused_makes x e = record { refused = sym e; kept = λ y q. refl; made = λ t ty h. absurd (some-ne-none _ (sym e ∙ h)) }

  abbrev rest_of : Bool → Option ℕ → Option Refusal
  rest_of a f = five a f (too_deep u) (too_many k u) (too_short k u (length before))

  pub makes_low : k < 1 → Makes k u before (Err OutOfRange) before
  makes_low h = refused_makes OutOfRange (ap (λ a. rest_of a (fault k u)) (k_low k h))

  pub makes_high : 1 ≤ k → most_letters < k → Makes k u before (Err OutOfRange) before
  makes_high a b = refused_makes OutOfRange (ap (λ a. rest_of a (fault k u)) (k_high k a b))

  module _ (some_letter : 1 ≤ k) (few : k ≤ most_letters) where
    pub makes_broken : (i : ℕ) → scanned k u ≡ Err i → Makes k u before (Err (BadText i)) before
    makes_broken i e = refused_makes (BadText i) (ap₂ rest_of (k_good k some_letter few) (scanned_broken k u e))

    -- a right text whose brackets go d deep and that types n letters
    module _ (d n : ℕ) (right : scanned k u ≡ right_as d n) where
      abbrev short : Bool
      short = ltb (length before) ((n + 1) * k)

      right_refusal : make_refusal k u (length before) ≡ five false none (ltb deepest_brackets d) (ltb most_typed n) short
      right_refusal =
          let r = scanned_right k u right in
          ap₂ rest_of (k_good k some_letter few) r.0 ∙ ap₂ (λ d n. five false none (ltb deepest_brackets d) (ltb most_typed n) (ltb (length before) ((n + 1) * k))) (sym r.1) (sym r.2)

      pub makes_deep : deepest_brackets < d → Makes k u before (Err DeepText) before
      makes_deep h = refused_makes DeepText (right_refusal ∙ ap (λ c. five false none c (ltb most_typed n) short) (lt-ltb deepest_brackets d h))

      module _ (shallow : d ≤ deepest_brackets) where
        pub makes_long : most_typed < n → Makes k u before (Err LongText) before
        makes_long h = refused_makes LongText (right_refusal ∙ ap₂ (λ c l. five false none c l short) (le-ltb deepest_brackets d shallow) (lt-ltb most_typed n h))

        module _ (few_letters : n ≤ most_typed) where
          lengths_fine : make_refusal k u (length before) ≡ five false none false false short
          lengths_fine = right_refusal ∙ ap₂ (λ c l. five false none c l short) (le-ltb deepest_brackets d shallow) (le-ltb most_typed n few_letters)

          pub makes_short : length before < (n + 1) * k → Makes k u before (Err ShortBuffer) before
          makes_short h = refused_makes ShortBuffer (lengths_fine ∙ ap (five false none false false) (lt-ltb (length before) ((n + 1) * k) h))

          module _ (fits : (n + 1) * k ≤ length before) where
            sized : (e : Expr) → Typed k expression u e → n ≡ size e
            sized e t = (scanned_right k u right).2 ∙ (ap length (letters_typed k few t) ∙ length_leaves e)

            abbrev typed_text : (e : Expr) → Typed k expression u e → RightText k (n + 1) u before
            typed_text e t = record {
              tree = e;
              typed = t;
              some_letter = some_letter;
              few = few;
              states = add-one n ∙ ap suc (sized e t);
              short = subst (λ m. m ≤ most_typed) (sized e t) few_letters;
              fits = fits;
            }

            pub right_text : RightText k (n + 1) u before
            right_text = let r = (right_is k few u).0 (scanned_right k u right).0 in typed_text r.tree r.typed

            pub makes_profile : (x : ℕ) (after : List ℕ)
                → ((t : RightText k (n + 1) u before) → (x ≡ finals_of t.tree) × (after ≡ moves_put k t.tree before))
                → Makes k u before (Ok (record { k = k; s = n + 1; start = 0; finals = x })) after
            makes_profile x after w = record {
              refused = sym (lengths_fine ∙ ap (five false none false false) (le-ltb (length before) ((n + 1) * k) fits));
              kept = λ y q. absurd (none-ne-some _ (ap refused_by q));
              made = λ e t h.
                  let m = w (typed_text e t) in
                  let shape : ℕ → ℕ → Shape = λ s f. record { k = k; s = s; start = 0; finals = f } in
                  (ap Ok (ap₂ shape (add-one n ∙ ap suc (sized e t)) m.0), m.1);
            }

-- the first two refusals of a text that keeps the rules, as the function tells them
pub told_deep : (k : ℕ) (u before : List ℕ) (d n : ℕ) → scanned k u ≡ right_as d n → 1 ≤ k → k ≤ most_letters → deepest_brackets < d → (Err DeepText ≡ making k u (length before)) × (before ≡ made_buffer k u before)
told_deep k u before d n r h few more = makes_equal k u before _ _ (makes_deep k u before h few d n r more)

pub told_long : (k : ℕ) (u before : List ℕ) (d n : ℕ) → scanned k u ≡ right_as d n → 1 ≤ k → k ≤ most_letters → d ≤ deepest_brackets → most_typed < n → (Err LongText ≡ making k u (length before)) × (before ≡ made_buffer k u before)
told_long k u before d n r h few shallow more = makes_equal k u before _ _ (makes_long k u before h few d n r shallow more)
