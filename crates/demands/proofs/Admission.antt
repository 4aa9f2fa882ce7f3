-- Admitted logs: a call gets no refusal exactly when the log is admitted and its prefixes fit the table, and an admitted log gets 10 exactly when they do not.
use mathlib.Core.Path.{◌≡◌, refl, sym, ◌∙◌, ap, subst}
use mathlib.Core.Bool.{Bool, true, false, not, ◌&&◌, ◌||◌}
use mathlib.Core.Logic.{⊎_elim, ◌↔◌}
use mathlib.Core.List.Memᴰ
use mathlib.Core.List.{List}
use mathlib.Core.Option.{Option, none, some}
use Prim.Native.Nat.{ℕ, ◌<◌}
use native.Mathlib.Omega.{arith}
use borrow.Author.Tests.{le-ltb, ltb-false}
use lib.Dec.{T, not_T, lt→ltb, ltb→lt}
use Rattle.profile.specs.Lists.{Mem, any}
use Rattle.profile.specs.Refusals.{full_table, lowest}
use Rattle.profile.specs.Tables.{capacity, layout}
use Rattle.profile.specs.declared.Refusal.{Refusal}
use Rattle.profile.specs.declared.Refusal.TheVariants.{ShortFile, OutOfRange, Distance, MaskBit, StateBit, LongLog, BadLetter, ShortBuffer, FullTable, BadText, DeepText, LongText, BadDay, BadTerm, NoTerm, ShortCosts, BadGroups, HighCeiling, ViewBit, BadRule, ShortSets}
use Rattle.profile.proofs.Lists.{all_at, all_of, any_at, any_of, both, either, is_false, or_right, snd_of}
use Rattle.theory.proofs.Refusals.{lowest_at, lowest_none}
use Rattle.demands.specs.Admitted.{Admitted, AdmittedAndFits, passes?, ten?}

-- ---- refusals

-- no other refusal has the number 10
pub ten_full : (r : Refusal) → T (ten? r) → r ≡ FullTable
ten_full ShortFile t = absurd t
ten_full OutOfRange t = absurd t
ten_full Distance t = absurd t
ten_full MaskBit t = absurd t
ten_full StateBit t = absurd t
ten_full LongLog t = absurd t
ten_full (BadLetter i) t = absurd t
ten_full ShortBuffer t = absurd t
ten_full FullTable t = refl
ten_full (BadText i) t = absurd t
ten_full DeepText t = absurd t
ten_full LongText t = absurd t
ten_full BadDay t = absurd t
ten_full BadTerm t = absurd t
ten_full NoTerm t = absurd t
ten_full ShortCosts t = absurd t
ten_full BadGroups t = absurd t
ten_full HighCeiling t = absurd t
ten_full ViewBit t = absurd t
ten_full BadRule t = absurd t
ten_full ShortSets t = absurd t

-- 10 applies
abbrev pub full? : List (Bool × Refusal) → Bool
full? l = any (λ (c : Bool × Refusal). ten? c.1 && c.0) l

-- a condition of an admitted log that holds is that of 10
holds_ten : (l : List (Bool × Refusal)) → Admitted l → (c : Bool × Refusal) → Mem c l → c.0 ≡ true → T (ten? c.1)
holds_ten l a c m e = ⊎_elim (λ t. t) (λ n. absurd (subst (λ b. T (not b)) e n)) (either (ten? c.1) (not c.0) (all_at passes? a m))

-- nothing is refused exactly when the log is admitted and 10 does not apply
pub none_exactly : (l : List (Bool × Refusal)) → (lowest l ≡ none) ↔ (Admitted l × (full? l ≡ false))
none_exactly l = (
  λ e. let f = (lowest_none l).0 e in (
    all_of passes? l (λ c m. or_right (ten? c.1) (not c.0) (subst (λ b. T (not b)) (sym (f c m)) tt)),
    is_false (full? l) (not_T (full? l) (λ t.
        let n = any_at (λ (c : Bool × Refusal). ten? c.1 && c.0) l t in
        absurd (subst T (f n.0 n.1) (snd_of (ten? n.0.1) n.0.0 n.2)))),
  ),
  λ h. (lowest_none l).1 (λ c m. go c m c.0 refl h.0 h.1),
)
  where
    go : (c : Bool × Refusal) → Mem c l → (b : Bool) → c.0 ≡ b → Admitted l → full? l ≡ false → c.0 ≡ false
    go c m false e a f = e
    go c m true e a f =
        absurd (subst T f (any_of (λ (d : Bool × Refusal). ten? d.1 && d.0) m (both (ten? c.1) c.0 (holds_ten l a c m e) (subst T (sym e) tt))))

-- an admitted log gets 10 exactly when that applies, and no other refusal
pub ten_only : (l : List (Bool × Refusal)) → Admitted l → (r : Refusal) → lowest l ≡ some r → r ≡ FullTable
ten_only l a r e =
    let n = lowest_at l e in
    sym n.5 ∙ ten_full n.2.1 (holds_ten l a n.2 (subst (Mem n.2) (sym n.3) (Memᴰ.append_right n.0 (Memᴰ.head refl))) n.4)

pub full_exactly : (l : List (Bool × Refusal)) → Admitted l → (lowest l ≡ some FullTable) ↔ T (full? l)
full_exactly l a = (
  λ e.
      let n = lowest_at l e in
      any_of (λ (c : Bool × Refusal). ten? c.1 && c.0) (subst (Mem n.2) (sym n.3) (Memᴰ.append_right n.0 (Memᴰ.head refl)))
      (both (ten? n.2.1) n.2.0 (subst (λ r. T (ten? r)) (sym n.5) tt) (subst T (sym n.4) tt)),
  λ t. go (lowest l) refl t,
)
  where
    go : (o : Option Refusal) → lowest l ≡ o → T (full? l) → lowest l ≡ some FullTable
    go none e t = absurd (subst T ((none_exactly l).0 e).1 t)
    go (some r) e t = e ∙ ap some (ten_only l a r e)

-- ---- P records and a table of m numbers

-- a condition and none behind it
pub or_none : (b : Bool) → (b || false) ≡ b
or_none true = refl
or_none false = refl

-- 10 is given for P records that do not fit
module _ (l : List (Bool × Refusal)) (P m : ℕ) (tenth : full? l ≡ full_table P m) where
  pub unrefused_exactly : (lowest l ≡ none) ↔ AdmittedAndFits l P m
  unrefused_exactly = (
    λ e. let h = (none_exactly l).0 e in record { admitted = h.0; fits = ltb-false (capacity layout m) P (sym tenth ∙ h.1) },
    λ h. (none_exactly l).1 (h.admitted, tenth ∙ le-ltb (capacity layout m) P h.fits),
  )

  pub ten_exactly : Admitted l → (lowest l ≡ some FullTable) ↔ (capacity layout m < P)
  ten_exactly a = let h = full_exactly l a in (
    λ e. ltb→lt (capacity layout m) P (subst T tenth (h.0 e)),
    λ lt. h.1 (subst T (sym tenth) (lt→ltb (capacity layout m) P lt)),
  )
