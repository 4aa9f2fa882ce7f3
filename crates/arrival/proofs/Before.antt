-- Lists in which one element stands before another: what the search for a prefix with one letter less stands on.
use mathlib.Core.Path.{◌≡◌, refl, sym, subst}
use mathlib.Core.Bool.{Bool}
use mathlib.Core.Logic.{◌⊎◌, inl, inr, ⊎_elim}
use mathlib.Core.List.Memᴰ
use mathlib.Core.List.{List, [], ◌∷◌, ◌++◌, map}
use lib.Dec.{T}
use Rattle.profile.specs.Lists.{Mem, filter}
use Rattle.profile.proofs.Lists.{filter_at, filter_of, filter_no, filter_yes, test}

-- c stands before d in the list
pub data Before {A : Type 0} : List A → A → A → Type 0 where
  begins : {c d : A} {l : List A} → Mem d l → Before (c ∷ l) c d
  behind : {x c d : A} {l : List A} → Before l c d → Before (x ∷ l) c d

module _ {A : Type 0} where
  -- in two lists, one behind the other
  pub before_left : {l : List A} (r : List A) {c d : A} → Before l c d → Before (l ++ r) c d
  before_left r (begins m) = begins (Memᴰ.append_left r m)
  before_left r (behind b) = behind (before_left r b)

  pub before_right : (l : List A) {r : List A} {c d : A} → Before r c d → Before (l ++ r) c d
  before_right [] b = b
  before_right (x ∷ l) b = behind (before_right l b)

  pub before_across : (l : List A) {r : List A} {c d : A} → Mem c l → Mem d r → Before (l ++ r) c d
  before_across (x ∷ l) {r} {c} {d} m n = ⊎_elim
      (λ e. subst (λ z. Before (x ∷ (l ++ r)) z d) (sym e) (begins (Memᴰ.append_right l n)))
      (λ q. behind (before_across l q n)) (Memᴰ.cases_cons m)
  before_across [] m n = absurd (none_in m)
    where
      none_in : {c : A} → Mem c [] → ⊥
      none_in m = elim m [ ]

module _ {A B : Type 0} (f : A → B) where
  pub before_map : {l : List A} {c d : A} → Before l c d → Before (map f l) (f c) (f d)
  before_map (begins m) = begins (Memᴰ.map f m)
  before_map (behind b) = behind (before_map b)

-- what passes a test keeps its order
module _ {A : Type 0} (p : A → Bool) where
  pub before_filter : {l : List A} {c d : A} → T (p c) → T (p d) → Before l c d → Before (filter p l) c d
  before_filter {c = c} {d = d} t u (begins {l = l} m) = subst (λ z. Before z c d) (sym (filter_yes p c l t)) (begins (filter_of p m u))
  before_filter {c = c} {d = d} t u (behind {x = x} {l = l} b) = ⊎_elim
      (λ q. subst (λ z. Before z c d) (sym (filter_yes p x l q)) (behind (before_filter t u b)))
      (λ q. subst (λ z. Before z c d) (sym (filter_no p x l q)) (before_filter t u b)) (test (p x))

-- taken apart
module _ {A : Type 0} where
  pub before_cases : (l r : List A) {c d : A} → Before (l ++ r) c d → Before l c d ⊎ (Before r c d ⊎ (Mem c l × Mem d r))
  before_cases [] r b = inr (inl b)
  before_cases (x ∷ l) r (begins m) = ⊎_elim (λ q. inl (begins q)) (λ q. inr (inr (Memᴰ.head refl, q))) (Memᴰ.append_cases l m)
  before_cases (x ∷ l) r (behind b) = ⊎_elim (λ q. inl (behind q)) (λ q. inr (⊎_elim (λ z. inl z) (λ z. inr (Memᴰ.tail z.0, z.1)) q)) (before_cases l r b)

  -- both stand in the list
  pub before_mem : {l : List A} {c d : A} → Before l c d → Mem c l × Mem d l
  before_mem (begins m) = (Memᴰ.head refl, Memᴰ.tail m)
  before_mem (behind b) = let q = before_mem b in (Memᴰ.tail q.0, Memᴰ.tail q.1)

  here_too : (p : A → Bool) (x : A) (l : List A) {c d : A} → (Before (filter p l) c d → Before l c d) → Before (x ∷ filter p l) c d → Before (x ∷ l) c d
  here_too p x l ih (begins q) = begins (filter_at p l q).0
  here_too p x l ih (behind q) = behind (ih q)

  pub before_unfilter : (p : A → Bool) (l : List A) {c d : A} → Before (filter p l) c d → Before l c d
  before_unfilter p [] b = b
  before_unfilter p (x ∷ l) {c} {d} b = ⊎_elim
      (λ q. here_too p x l (λ z. before_unfilter p l z) (subst (λ z. Before z c d) (filter_yes p x l q) b))
      (λ q. behind (before_unfilter p l (subst (λ z. Before z c d) (filter_no p x l q) b))) (test (p x))

module _ {A B : Type 0} (f : A → B) where
  pub before_unmap : (l : List A) {x y : B} → Before (map f l) x y → (c d : A) × Before l c d × (f c ≡ x) × (f d ≡ y)
  before_unmap (a ∷ l) (begins m) = let q = Memᴰ.of_map f l m in (a, q.0, begins q.1, refl, q.2)
  before_unmap (a ∷ l) (behind b) = let q = before_unmap l b in (q.0, q.1, behind q.2, q.3, q.4)
  before_unmap [] {y = y} x3 = elim x3 [ ]
