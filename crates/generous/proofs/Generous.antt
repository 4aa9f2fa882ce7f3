-- Paper 9 as theorems: over the definitions, and about what two calls of the judge promise. `judged r w order order' table table' j` is what is told by a call
-- with the rules r and the events w that was lent `order` and `table`, left `order'` and `table'`, and answered j; `Promise p w …` is that of the judge.
use mathlib.Core.Path.{◌≡◌, refl, sym, ◌∙◌, ap, subst}
use mathlib.Core.Bool.{Bool}
use mathlib.Core.List.{List}
use mathlib.Core.Option.{Option, some, none-ne-some, some-injective}
use Prim.Native.Nat.{ℕ, ◌≤◌}
use native.Mathlib.Omega.{arith}
use lib.Dec.{T}
use lib.ListN.{length, take, drop}
use lib.Seq.{take_at}
use Rattle.std.specs.Prelude.{Result, Ok, Err}
use Rattle.profile.specs.declared.Refusal.{Refusal}
use Rattle.profile.specs.Traces.{independent}
use Rattle.profile.specs.Automata.{Automaton, Profile, automaton}
use Rattle.profile.specs.Orders.{NoLater, accepted_order}
use Rattle.profile.specs.Prefixes.{looks, prefix_count, prefixes}
use Rattle.profile.specs.Rules.{Rules, looks_by, order_by, prefixes_by}
use Rattle.profile.proofs.Lists.{nodup_length}
use Rattle.theory.proofs.Calls.{order_by_length}
use Rattle.theory.proofs.Comparison.{accepted_order_grows, reach_more}
use Rattle.theory.proofs.Counting.{prefixes_nodup}
use Rattle.theory.proofs.Demands.{Witness}
use Rattle.verdict.specs.Verdict.{Promise, judged, verdict_number}
use Rattle.verdict.specs.declared.Judged.{Judged}
use Rattle.verdict.specs.declared.Judged.TheVariants.{NoOrder, Order}
use Rattle.verdict.proofs.Promises.{told_looks, told_prefixes}
use Rattle.generous.specs.Generous.{HasVerdict, HoldsEveryBit, with_masks}
use Rattle.generous.proofs.Nested.{looks_grow, prefixes_more}

-- ---- over the definitions, for any relation on events and any letters

module _ (may may' : ℕ → ℕ → Bool) (sub : (a b : ℕ) → T (may a b) → T (may' a b)) (letter : ℕ → ℕ) where
  -- "verdict 1 stays 1, the new order is no later in letter order"
  pub order_more_events : (M : Automaton) (w : List ℕ) {u : List ℕ} → accepted_order may letter M w ≡ some u
      → (x : List ℕ) × (accepted_order may' letter M w ≡ some x) × NoLater x u
  order_more_events M w e = accepted_order_grows letter M may may' sub w e

  -- "P does not shrink"
  pub count_more_events : (k : ℕ) (w : List ℕ) → prefix_count may letter k w ≤ prefix_count may' letter k w
  count_more_events k w = nodup_length (prefixes may letter k w) (prefixes may' letter k w) (prefixes_nodup may letter k w) (prefixes_more may may' sub letter k w)

  -- nor does looks
  pub looks_more_events : (k : ℕ) (w : List ℕ) → looks may letter k w ≤ looks may' letter k w
  looks_more_events k w = looks_grow may may' sub letter k w

-- of a profile with more pairs: an accepted log that is reachable stays so
pub witness_more : (p : Profile) (more : List ℕ) → HoldsEveryBit more p.masks → (w : List ℕ) {v : List ℕ} → Witness p w v → Witness (with_masks p more) w v
witness_more p more holds w h =
    record { reached = reach_more (λ a. a) (automaton p) (independent p.masks) (independent more) holds h.reached; accepted = h.accepted }

-- ---- what one call tells

-- the two verdicts are different
zero_one : ◌≡◌ {A = Option ℕ} (some 0) (some 1) → ⊥
zero_one e = let q = some-injective 0 1 e in omega arith

module _ (r : Rules) (w order order' table table' : List ℕ) where
  -- the order told is the definition's; where there is one, the verdict is 1
  told_order : (j : Result Judged Refusal) → judged r w order order' table table' j → verdict_number j ≡ some 1 → order_by r w ≡ some (take (length w) order')
  told_order (Err x) h e = absurd (none-ne-some 1 e)
  told_order (Ok (NoOrder P n)) h e = absurd (zero_one e)
  told_order (Ok (Order P n)) h e = h.1 ∙ ap some (sym (ap (take (length w)) h.2 ∙ take_at h.0 (drop (length w) order) (length w) (order_by_length r w h.1)))

  told_one : (j : Result Judged Refusal) → judged r w order order' table table' j → HasVerdict j → {u : List ℕ} → order_by r w ≡ some u → verdict_number j ≡ some 1
  told_one (Err x) h v e = absurd (v refl)
  told_one (Ok (NoOrder P n)) h v e = absurd (none-ne-some _ (sym h.0 ∙ e))
  told_one (Ok (Order P n)) h v e = refl

  -- so are P and looks
  told_count : (j : Result Judged Refusal) → judged r w order order' table table' j → (P : ℕ) → told_prefixes j ≡ some P → P ≡ prefixes_by r w
  told_count (Err x) h P e = absurd (none-ne-some P e)
  told_count (Ok (NoOrder Q n)) h P e = sym (some-injective Q P e) ∙ h.2.prefixes
  told_count (Ok (Order Q n)) h P e = sym (some-injective Q P e) ∙ h.3.prefixes

  told_pairs : (j : Result Judged Refusal) → judged r w order order' table table' j → (n : ℕ) → told_looks j ≡ some n → n ≡ looks_by r w
  told_pairs (Err x) h n e = absurd (none-ne-some n e)
  told_pairs (Ok (NoOrder Q m)) h n e = sym (some-injective m n e) ∙ h.2.looks
  told_pairs (Ok (Order Q m)) h n e = sym (some-injective m n e) ∙ h.3.looks

-- ---- what two calls tell that differ in the relation on events alone, of which one allows all that the other does

-- i is told with the relation `may`, j with `may'`; buffers are whatever each was lent
module _ (p : Profile) (more : List ℕ) (may may' : ℕ → ℕ → Bool) (sub : (a b : ℕ) → T (may a b) → T (may' a b)) (letter : ℕ → ℕ) (w : List ℕ)
    (order₁ order₁' table₁ table₁' order₂ order₂' table₂ table₂' : List ℕ) (i j : Result Judged Refusal) where
  abbrev few : Rules
  few = record { profile = p; may = may; letter = letter }

  abbrev many : Rules
  many = record { profile = with_masks p more; may = may'; letter = letter }

  module _ (g : judged few w order₁ order₁' table₁ table₁' i) (h : judged many w order₂ order₂' table₂ table₂' j) (verdict : HasVerdict j) where
    found : verdict_number i ≡ some 1 → (x : List ℕ) × (order_by many w ≡ some x) × NoLater x (take (length w) order₁')
    found e = order_more_events may may' sub letter (automaton p) w (told_order few w order₁ order₁' table₁ table₁' i g e)

    pub verdict_stays_by : verdict_number i ≡ some 1 → verdict_number j ≡ some 1
    verdict_stays_by e = told_one many w order₂ order₂' table₂ table₂' j h verdict (found e).1

    pub order_no_later_by : verdict_number i ≡ some 1 → NoLater (take (length w) order₂') (take (length w) order₁')
    order_no_later_by e =
        let x = found e in
        let q = some-injective _ _ (sym x.1 ∙ told_order many w order₂ order₂' table₂ table₂' j h (verdict_stays_by e)) in
        subst (λ z. NoLater z (take (length w) order₁')) q x.2

    pub prefixes_no_fewer_by : (P Q : ℕ) → told_prefixes i ≡ some P → told_prefixes j ≡ some Q → P ≤ Q
    prefixes_no_fewer_by P Q d e = omega (
      arith,
      told_count few w order₁ order₁' table₁ table₁' i g P d,
      told_count many w order₂ order₂' table₂ table₂' j h Q e,
      count_more_events may may' sub letter p.k w,
    )

    pub looks_no_fewer_by : (n m : ℕ) → told_looks i ≡ some n → told_looks j ≡ some m → n ≤ m
    looks_no_fewer_by n m d e = omega (
      arith,
      told_pairs few w order₁ order₁' table₁ table₁' i g n d,
      told_pairs many w order₂ order₂' table₂ table₂' j h m e,
      looks_more_events may may' sub letter p.k w,
    )

-- ---- about what two calls of the judge return

-- "if one profile's masks hold every bit of another's, all else being equal, and both runs get a verdict": p's masks and `more`, on the log w, whatever
-- buffers each was lent
module _ (p : Profile) (more : List ℕ) (holds : HoldsEveryBit more p.masks) (w order₁ order₁' table₁ table₁' order₂ order₂' table₂ table₂' : List ℕ)
    (i j : Result Judged Refusal) (g : Promise p w order₁ order₁' table₁ table₁' i) (h : Promise (with_masks p more) w order₂ order₂' table₂ table₂' j)
    (first : HasVerdict i) (second : HasVerdict j) where
  -- "then verdict 1 stays 1"
  pub verdict_stays : verdict_number i ≡ some 1 → verdict_number j ≡ some 1
  verdict_stays =
      verdict_stays_by p more (independent p.masks) (independent more) holds (λ a. a) w order₁ order₁' table₁ table₁' order₂ order₂' table₂ table₂' i j g.told h.told second

  -- "the new order is no later in letter order"
  pub order_no_later : verdict_number i ≡ some 1 → NoLater (take (length w) order₂') (take (length w) order₁')
  order_no_later =
      order_no_later_by p more (independent p.masks) (independent more) holds (λ a. a) w order₁ order₁' table₁ table₁' order₂ order₂' table₂ table₂' i j g.told h.told second

  -- "and P does not shrink"
  pub prefixes_no_fewer : (P Q : ℕ) → told_prefixes i ≡ some P → told_prefixes j ≡ some Q → P ≤ Q
  prefixes_no_fewer =
      prefixes_no_fewer_by p more (independent p.masks) (independent more) holds (λ a. a) w order₁ order₁' table₁ table₁' order₂ order₂' table₂ table₂' i j g.told h.told second

  -- nor does looks
  pub looks_no_fewer : (n m : ℕ) → told_looks i ≡ some n → told_looks j ≡ some m → n ≤ m
  looks_no_fewer =
      looks_no_fewer_by p more (independent p.masks) (independent more) holds (λ a. a) w order₁ order₁' table₁ table₁' order₂ order₂' table₂ table₂' i j g.told h.told second
