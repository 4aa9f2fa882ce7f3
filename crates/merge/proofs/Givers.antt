-- The letters whose cursors give the least counts.
use mathlib.Core.Path.{◌≡◌, refl, sym, subst}
use mathlib.Core.Bool.{Bool, true, false, cond}
use mathlib.Core.Logic.{◌⊎◌, inl, inr, ⊎_elim}
use mathlib.Core.Option.{Option, none, some}
use mathlib.Core.List.{List}
use Prim.Native.Nat.{ℕ, zero, suc, ◌^◌, ◌<◌}
use lib.Bits.{bit_or}
use lib.Dec.{T, ltb, ltb→lt}
use Rattle.profile.specs.Lists.{equal?}
use Rattle.profile.specs.Traces.{bit}
use Rattle.profile.specs.Prefixes.{at}
use Rattle.profile.specs.Tables.{layout}
use Rattle.profile.proofs.Lists.{either}
use Rattle.profile.proofs.Sets.{bit_of_or, bit_single, not_in_none}
use Rattle.counts.specs.Counts.{before?}
use Rattle.records.specs.Records.{records_in}
use Rattle.merge.specs.Merge.{better, givers, grown, joined, least_of}

pub better_none : (o : Option (List ℕ)) → better o none ≡ o
better_none none = refl
better_none (some b) = refl

joined_at : (c : List ℕ) (o : Option (List ℕ)) (S n x : ℕ) → T (bit (joined (some c) o S n) x) → (n ≡ x) ⊎ T (bit S x)
joined_at c none S n x h = inl (bit_single n x h)
joined_at c (some b) S n x h = go (equal? c b) (before? layout c b) h
  where
    go : (p q : Bool) → T (bit (cond p (bit_or S (2 ^ n)) (cond q (2 ^ n) S)) x) → (n ≡ x) ⊎ T (bit S x)
    go true q h = ⊎_elim (λ a. inr a) (λ a. inl (bit_single n x a)) (either (bit S x) (bit (2 ^ n) x) (rw (bit_of_or S (2 ^ n) x) at h))
    go false true h = inl (bit_single n x h)
    go false false h = inr h

-- each of them is at a record
pub givers_inside : (t cs : List ℕ) (n x : ℕ) → T (bit (givers t n cs) x) → at cs x < records_in t
givers_inside t cs zero x h = absurd (not_in_none x h)
givers_inside t cs (suc n) x h = go (ltb (at cs n) (records_in t)) refl (givers_inside t cs n x)
  where
    go : (b : Bool) → ltb (at cs n) (records_in t) ≡ b → (T (bit (givers t n cs) x) → at cs x < records_in t) → at cs x < records_in t
    go false e ih = ih (subst (λ b. T (bit (joined (cond b (some (grown t (at cs n) n)) none) (least_of t n cs) (givers t n cs) n) x)) e h)
    go true e ih = ⊎_elim
        (λ q. subst (λ z. at cs z < records_in t) q (ltb→lt (at cs n) (records_in t) (subst T (sym e) tt)))
        ih
        (joined_at (grown t (at cs n) n) (least_of t n cs) (givers t n cs) n x (subst (λ b. T (bit (joined (cond b (some (grown t (at cs n) n)) none) (least_of t n cs) (givers t n cs) n) x)) e h))
