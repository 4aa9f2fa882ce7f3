-- P of events within the ceiling of their letters: a log with terms, as one without.
use mathlib.Core.Path.{◌≡◌, refl, sym, ◌∙◌, ap, ap₂, subst}
use mathlib.Core.Bool.{Bool}
use mathlib.Core.Logic.{⊎_elim}
use mathlib.Core.List.Memᴰ
use mathlib.Core.List.{List, [], ◌∷◌, map}
use Prim.Native.Nat.{ℕ, suc, ◌*◌, ◌≤◌}
use native.Mathlib.Omega.{arith}
use lib.Dec.{T, ltb}
use lib.ListN.{length}
use Rattle.profile.specs.Prefixes.{prefix_count}
use Rattle.profile.specs.Traces.{bit, independent, letters_below}
use Rattle.profile.proofs.Lists.{all_at, all_of, filter_no, filter_yes, test}
use Rattle.ceilings.specs.Ceilings.{GoodGroups, ceiling_of, events_in}
use Rattle.ceilings.proofs.Prefixes.{count_ceiling}

-- the events of a group are those of the log of their letters
events_letters : (letter : ℕ → ℕ) (g : ℕ) (v : List ℕ) → events_in letter g v ≡ events_in (λ a. a) g (map letter v)
events_letters letter g [] = refl
events_letters letter g (a ∷ v) = ⊎_elim
    (λ t. ap length (filter_yes (λ b. bit g (letter b)) a v t) ∙ ap suc (events_letters letter g v) ∙ sym (ap length (filter_yes (bit g) (letter a) (map letter v) t)))
    (λ t. ap length (filter_no (λ b. bit g (letter b)) a v t) ∙ events_letters letter g v ∙ sym (ap length (filter_no (bit g) (letter a) (map letter v) t)))
    (test (bit g (letter a)))

ceiling_letters : (letter : ℕ → ℕ) (groups v : List ℕ) → ceiling_of letter groups v ≡ ceiling_of (λ a. a) groups (map letter v)
ceiling_letters letter [] v = refl
ceiling_letters letter (g ∷ groups) v = ap₂ (λ m n. suc m * n) (events_letters letter g v) (ceiling_letters letter groups v)

letters_of_events : (letter : ℕ → ℕ) (k : ℕ) (v : List ℕ) → T (letters_below (λ a. a) k (map letter v)) → T (letters_below letter k v)
letters_of_events letter k v h = all_of (λ a. ltb (letter a) k) v (λ a m. all_at (λ a. ltb a k) h (Memᴰ.map letter m))

-- "P never exceeds it, with terms or without": v is a list of events, w the log of their letters, and events are exchanged only where the masks let their
-- letters be (with terms, only in one term besides)
pub events_within : (k : ℕ) (masks groups : List ℕ) → GoodGroups k masks groups → (w : List ℕ) → T (letters_below (λ a. a) k w)
    → (may : ℕ → ℕ → Bool) (letter : ℕ → ℕ) → ((a b : ℕ) → T (may a b) → T (independent masks (letter a) (letter b))) → (v : List ℕ) → map letter v ≡ w
    → prefix_count may letter k v ≤ ceiling_of (λ a. a) groups w
events_within k masks groups h w letters may letter sub v e =
    let b = count_ceiling may letter k groups h.together (λ g m x y s t u. h.apart g m (letter x) (letter y) s t (sub x y u)) v
    (letters_of_events letter k v (subst (λ l. T (letters_below (λ a. a) k l)) (sym e) letters)) in
    omega (arith, b, ceiling_letters letter groups v ∙ ap (ceiling_of (λ a. a) groups) e)
