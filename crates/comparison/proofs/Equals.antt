-- `eq` of two iterators of numbers answers whether their lists are equal.
use mathlib.Core.Path.{◌≡◌, refl, sym, ◌∙◌, ap, ap₂, subst}
use mathlib.Core.Bool.{Bool, true, false, ◌&&◌}
use mathlib.Core.List.{List, [], ◌∷◌}
use Prim.Native.Nat.{ℕ}
use lib.Dec.{eqb}
use Rattle.std.specs.Prelude.{Option, Some, None}
use Rattle.std.specs.Option.{IfSome, MatchOption}
use Rattle.std.specs.List.{AllZip, filter}
use Rattle.std.specs.Iterator.{AlwaysYields, ComparesItemsByEq, Yields}
use Rattle.std.proofs.lemmas.Iterator.{YieldsList}
use Rattle.profile.specs.Lists.{equal?}
use Rattle.profile.specs.Lists.{filter as kept}

-- std's filter is that of the definitions
pub filter_std : (p : ℕ → Bool) (l : List ℕ) → filter p l ≡ kept p l
filter_std p [] = refl
filter_std p (a ∷ l) = go (p a) refl (filter_std p l)
  where
    go : (b : Bool) → p a ≡ b → filter p l ≡ kept p l → filter p (a ∷ l) ≡ kept p (a ∷ l)
    go true e h = rw (e, kept) (ap (◌∷◌ a) h)
    go false e h = rw (e, kept) h

module _ {S T A : Type 0} (steps : S → Option A → S → Type 0) (others : T → Option A → T → Type 0) (v : A → ℕ) (eq : A → A → Bool)
    (same : (x y : A) → eq x y ≡ eqb (v x) (v y)) where
  module _ (r : Bool) (o p : Option A) (s u : S) (t w : T) (gives : steps s o u) (other_gives : others t p w)
      (e : MatchOption o (MatchOption p (r ≡ true) (λ _. r ≡ false)) (λ x. (r ≡ false) × IfSome p (λ y. eq x y ≡ false))) where
    -- the last of the two answers, or one of the lists has ended
    last : (ys zs : List ℕ) → AlwaysYields steps v s ys → AlwaysYields others v t zs → r ≡ equal? ys zs
    last ys zs a b = at o p ys zs gives other_gives e a b
      where
        at : (o p : Option A) (ys zs : List ℕ) → steps s o u → others t p w
            → MatchOption o (MatchOption p (r ≡ true) (λ _. r ≡ false)) (λ x. (r ≡ false) × IfSome p (λ y. eq x y ≡ false))
            → AlwaysYields steps v s ys → AlwaysYields others v t zs → r ≡ equal? ys zs
        at None None [] [] g h e a b = e
        at None None [] (z ∷ zs) g h e a b = absurd (b.0 w h)
        at None None (y ∷ ys) zs g h e a b = absurd (a.0 u g)
        at None (Some q) [] [] g h e a b = absurd (b q w h)
        at None (Some q) [] (z ∷ zs) g h e a b = e
        at None (Some q) (y ∷ ys) zs g h e a b = absurd (a.0 u g)
        at (Some x) p [] zs g h e a b = absurd (a x u g)
        at (Some x) p (y ∷ ys) [] g h e a b = e.0
        at (Some x) None (y ∷ ys) (z ∷ zs) g h e a b = absurd (b.0 w h)
        at (Some x) (Some q) (y ∷ ys) (z ∷ zs) g h e a b =
            e.0 ∙ sym (ap (λ c. c && equal? ys zs) (ap₂ eqb (sym (a.1 x u g).0) (sym (b.1 q w h).0) ∙ sym (same x q) ∙ e.1))

    compared : (xs ws : List A) (ys zs : List ℕ) (i : S) (j : T) → AlwaysYields steps v i ys → AlwaysYields others v j zs
        → Yields steps i xs s → Yields others j ws t → AllZip (λ x y. eq x y ≡ true) xs ws → r ≡ equal? ys zs
    compared [] [] ys zs i j a b g h z = last ys zs (subst (λ i. AlwaysYields steps v i ys) g a) (subst (λ j. AlwaysYields others v j zs) h b)
    compared [] (q ∷ ws) ys zs i j a b g h z = absurd z
    compared (x ∷ xs) [] ys zs i j a b g h z = absurd z
    compared (x ∷ xs) (q ∷ ws) [] zs i j a b g h z = absurd (a x g.0 g.1)
    compared (x ∷ xs) (q ∷ ws) (y ∷ ys) [] i j a b g h z = absurd (b q h.0 h.1)
    compared (x ∷ xs) (q ∷ ws) (y ∷ ys) (m ∷ zs) i j a b g h z =
        let c = a.1 x g.0 g.1 in
        let d = b.1 q h.0 h.1 in
        compared xs ws ys zs g.0 h.0 c.1 d.1 g.2 h.2 z.1
        ∙ sym (ap (λ n. n && equal? ys zs) (ap₂ eqb (sym c.0) (sym d.0) ∙ sym (same x q) ∙ z.0))

  pub eq_from_yields_List : {s : S} (other : T) (r : Bool) {ys zs : List ℕ}
      → ComparesItemsByEq steps (λ i j. j ≡ i) others s other eq r → YieldsList steps v s ys → YieldsList others v other zs → r ≡ equal? ys zs
  eq_from_yields_List {s} other r {ys} {zs} c a b =
      compared r c.3 c.4 c.8.0 c.5 c.9.0 c.6 c.8.2 c.9.2 c.11 c.1 c.2 ys zs s c.0 a.runs (subst (λ j. AlwaysYields others v j zs) (sym c.7) b.runs) c.8.1 c.9.1 c.10
