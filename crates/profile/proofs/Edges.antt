-- The edges that document 01 names: which refusal a call gets, and which logs are the same. One theorem over each list of rows.
use mathlib.Core.Path.{◌≡◌, refl, subst, sym}
use mathlib.Core.Bool.{Bool, true, false}
use mathlib.Core.Logic.{◌≢◌}
use mathlib.Core.List.{List, [], ◌∷◌}
use mathlib.Core.Option.{Option, none, some}
use Prim.Native.Nat.{ℕ}
use native.Mathlib.Omega.{arith}
use lib.Dec.{T}
use lib.ListN.{replicate, take}
use Rattle.profile.specs.Lists.{Mem, all, any, equal?}
use Rattle.profile.specs.Traces.{independent}
use Rattle.profile.specs.Automata.{Profile, automaton}
use Rattle.profile.specs.Tables.{capacity, layout}
use Rattle.profile.specs.Orders.{accepted_order, first_order, same?}
use Rattle.profile.specs.Refusals.{admission_refusals, first_order_refusal, judge_refusal, lowest, refusal_number, refusal_place, same_refusal}
use Rattle.profile.specs.declared.Refusal.{Refusal}
use Rattle.profile.specs.declared.Refusal.TheVariants.{ShortFile, OutOfRange, Distance, MaskBit, StateBit, LongLog, BadLetter, ShortBuffer, FullTable, BadText, DeepText, LongText, BadDay, BadTerm, NoTerm, ShortCosts, BadGroups, HighCeiling, ViewBit, BadRule, ShortSets}
use Rattle.profile.proofs.Lists.{all_at, any_at, equal_test}
use Rattle.profile.proofs.Cases.{ab, alt, free}

abbrev M7 : List ℕ
M7 = 0 ∷ 1 ∷ 2 ∷ 1 ∷ 0 ∷ 3 ∷ []

-- what a refused caller is told: number and place; nothing where the call is not refused
abbrev pub told : Option Refusal → List ℕ
told none = []
told (some r) = refusal_number r ∷ refusal_place r ∷ []

-- ---- calls of the judge

pub record Call : Type 0 where
  pub profile : Profile
  pub log : List ℕ
  pub places : ℕ
  pub numbers : ℕ
  pub answer : List ℕ

abbrev pub answer_of : Call → List ℕ
answer_of c = told (judge_refusal c.profile c.log c.places c.numbers)

call : Profile → List ℕ → ℕ → ℕ → List ℕ → Call
call p w n m a = record { profile = p; log = w; places = n; numbers = m; answer = a }

shape : ℕ → List ℕ → ℕ → ℕ → ℕ → List ℕ → Profile
shape k masks s start finals moves = record { k = k; masks = masks; s = s; start = start; finals = finals; moves = moves }

-- the edges of each refusal, and where two apply
pub calls : List Call
unfolding call shape
calls =
    call (alt ab) (1 ∷ 0 ∷ []) 2 40 []
    ∷ call (alt ab) (1 ∷ 0 ∷ []) 2 39 (10 ∷ 0 ∷ [])
    ∷ call (alt ab) (1 ∷ 0 ∷ []) 1 0 (9 ∷ 0 ∷ [])
    ∷ call (alt ab) (1 ∷ 0 ∷ 1 ∷ []) 2 60 (9 ∷ 0 ∷ [])
    ∷ call (alt ab) [] 0 10 []
    ∷ call (alt ab) [] 0 9 (10 ∷ 0 ∷ [])
    ∷ call (free 1 (0 ∷ [])) (replicate 4000 0) 3999 0 (9 ∷ 0 ∷ [])
    ∷ call (free 1 (0 ∷ [])) (replicate 4001 0) 0 0 (7 ∷ 0 ∷ [])
    ∷ call (free 1 (0 ∷ [])) (replicate 4001 1) 0 0 (7 ∷ 0 ∷ [])
    ∷ call (alt ab) (0 ∷ 2 ∷ 3 ∷ []) 0 0 (8 ∷ 1 ∷ [])
    ∷ call (shape 0 [] 1 0 0 []) [] 0 10 (2 ∷ 0 ∷ [])
    ∷ call (free 16 (replicate 16 0)) [] 0 10 []
    ∷ call (free 17 (replicate 17 0)) [] 0 10 (2 ∷ 0 ∷ [])
    ∷ call (free 2 (0 ∷ [])) [] 0 10 (2 ∷ 0 ∷ [])
    ∷ call (shape 1 (0 ∷ []) 0 0 0 []) [] 0 10 (2 ∷ 0 ∷ [])
    ∷ call (shape 1 (0 ∷ []) 32 31 4294967295 (replicate 32 4294967295)) [] 0 10 []
    ∷ call (shape 1 (0 ∷ []) 33 0 0 (replicate 33 0)) [] 0 10 (2 ∷ 0 ∷ [])
    ∷ call (shape 1 (0 ∷ []) 1 1 0 (0 ∷ [])) [] 0 10 (2 ∷ 0 ∷ [])
    ∷ call (shape 1 (0 ∷ []) 1 0 0 []) [] 0 10 (2 ∷ 0 ∷ [])
    ∷ call (shape 1 (2 ∷ []) 1 0 0 (2 ∷ [])) (1 ∷ []) 0 0 (4 ∷ 0 ∷ [])
    ∷ call (shape 1 (1 ∷ []) 1 0 0 (0 ∷ [])) [] 0 10 (4 ∷ 0 ∷ [])
    ∷ call (alt (2 ∷ 0 ∷ [])) (2 ∷ []) 0 0 (8 ∷ 0 ∷ [])
    ∷ call (alt (0 ∷ 1 ∷ [])) [] 0 10 []
    ∷ call (shape 1 (0 ∷ []) 1 0 2 (0 ∷ [])) (1 ∷ []) 0 0 (6 ∷ 0 ∷ [])
    ∷ call (shape 1 (0 ∷ []) 1 0 0 (2 ∷ [])) [] 0 10 (6 ∷ 0 ∷ [])
    ∷ []

answered? : Call → Bool
answered? c = equal? (answer_of c) c.answer

calls_computed : T (all answered? calls)
unfolding answered? calls call shape
calls_computed = tt

-- every call of the list is answered as its row says
pub refused : (c : Call) → Mem c calls → answer_of c ≡ c.answer
unfolding answered?
refused c m = (equal_test (answer_of c) c.answer).0 (all_at answered? calls_computed m)

-- the list has a call for each refusal that the judge gives, so that none of its promises is empty
pub every_refusal : (n : ℕ) → Mem n (2 ∷ 4 ∷ 6 ∷ 7 ∷ 8 ∷ 9 ∷ 10 ∷ []) → (c : Call) × Mem c calls × T (equal? (take 1 (answer_of c)) (n ∷ []))
every_refusal n m =
    let x = any_at (λ c. equal? (take 1 c.answer) (n ∷ [])) calls (all_at (λ n. any (λ c. equal? (take 1 c.answer) (n ∷ [])) calls) met m) in
    (x.0, x.1, subst (λ l. T (equal? (take 1 l) (n ∷ []))) (sym (refused x.0 x.1)) x.2)
  where
    met : T (all (λ n. any (λ c. equal? (take 1 c.answer) (n ∷ [])) calls) (2 ∷ 4 ∷ 6 ∷ 7 ∷ 8 ∷ 9 ∷ 10 ∷ []))
    met = unfold calls call shape in tt

-- "Symmetry is dropped, so 5 never occurs": in no call, since what refuses a call is one of these
pub five_unused : (r : Refusal) → refusal_number r ≢ 5
five_unused ShortFile e = omega arith
five_unused OutOfRange e = omega arith
five_unused Distance e = omega arith
five_unused MaskBit e = omega arith
five_unused StateBit e = omega arith
five_unused LongLog e = omega arith
five_unused (BadLetter i) e = omega arith
five_unused ShortBuffer e = omega arith
five_unused FullTable e = omega arith
five_unused (BadText i) e = omega arith
five_unused DeepText e = omega arith
five_unused LongText e = omega arith
five_unused BadDay e = omega arith
five_unused BadTerm e = omega arith
five_unused NoTerm e = omega arith
five_unused ShortCosts e = omega arith
five_unused BadGroups e = omega arith
five_unused HighCeiling e = omega arith
five_unused ViewBit e = omega arith
five_unused BadRule e = omega arith
five_unused ShortSets e = omega arith

-- calls that are not refused get both verdicts: M3 none, M2 an order
pub both_verdicts : (told (judge_refusal (alt ab) (1 ∷ 0 ∷ 1 ∷ []) 3 60) ≡ []) × (accepted_order (independent ab) (λ a. a) (automaton (alt ab)) (1 ∷ 0 ∷ 1 ∷ []) ≡ none)
    × (told (judge_refusal (alt ab) (1 ∷ 1 ∷ 0 ∷ 0 ∷ []) 4 90) ≡ []) × (accepted_order (independent ab) (λ a. a) (automaton (alt ab)) (1 ∷ 1 ∷ 0 ∷ 0 ∷ []) ≡ some (0 ∷ 1 ∷ 0 ∷ 1 ∷ []))
both_verdicts = (refl, refl, refl, refl)

-- "A log may have 4,000 letters"
pub longest_admitted : lowest (admission_refusals (free 1 (0 ∷ [])) (replicate 4000 0) 4000) ≡ none
longest_admitted = refl

-- no table has place for more than 429,496,729 records
pub capacity_most : capacity layout 18446744073709551615 ≡ 429496729
capacity_most = refl

-- ---- comparisons and first orders

pub record Pair : Type 0 where
  pub k : ℕ
  pub masks : List ℕ
  pub first : List ℕ
  pub second : List ℕ
  pub answer : List ℕ

-- 1 for the same, 0 for different; of a refusal number, place and log
abbrev pub told_same : Option (Refusal × ℕ) → Bool → List ℕ
told_same none true = 1 ∷ []
told_same none false = 0 ∷ []
told_same (some r) b = refusal_number r.0 ∷ refusal_place r.0 ∷ r.1 ∷ []

abbrev pub compared : Pair → List ℕ
compared c = told_same (same_refusal c.k c.masks c.first c.second) (same? (independent c.masks) c.k c.first c.second)

pair : List ℕ → List ℕ → List ℕ → List ℕ → Pair
pair masks v w a = record { k = 2; masks = masks; first = v; second = w; answer = a }

-- ab and abb differ in the count of b alone; ab and ba are not the same where they may be exchanged one way only; the first log is checked before the second
pub pairs : List Pair
unfolding pair
pairs =
    pair ab (0 ∷ 1 ∷ []) (1 ∷ 0 ∷ []) (1 ∷ [])
    ∷ pair ab (0 ∷ 1 ∷ []) (0 ∷ 1 ∷ 1 ∷ []) (0 ∷ [])
    ∷ pair (0 ∷ 0 ∷ []) (0 ∷ 1 ∷ []) (1 ∷ 0 ∷ []) (0 ∷ [])
    ∷ pair ab [] [] (1 ∷ [])
    ∷ pair (0 ∷ []) (2 ∷ []) (2 ∷ []) (2 ∷ 0 ∷ 0 ∷ [])
    ∷ pair (1 ∷ 0 ∷ []) (2 ∷ []) (2 ∷ []) (4 ∷ 0 ∷ 0 ∷ [])
    ∷ pair (2 ∷ 0 ∷ []) (2 ∷ []) (2 ∷ []) (8 ∷ 0 ∷ 1 ∷ [])
    ∷ pair (2 ∷ 0 ∷ []) (0 ∷ 1 ∷ []) (1 ∷ 0 ∷ []) (0 ∷ [])
    ∷ pair (0 ∷ 1 ∷ []) (0 ∷ 1 ∷ []) (1 ∷ 0 ∷ []) (0 ∷ [])
    ∷ pair (0 ∷ 1 ∷ []) (1 ∷ 0 ∷ []) (1 ∷ 0 ∷ []) (1 ∷ [])
    ∷ pair ab (1 ∷ 2 ∷ []) (replicate 4001 0) (8 ∷ 1 ∷ 1 ∷ [])
    ∷ pair ab (replicate 4001 2) (2 ∷ []) (7 ∷ 0 ∷ 1 ∷ [])
    ∷ pair ab (1 ∷ []) (replicate 4001 0) (7 ∷ 0 ∷ 2 ∷ [])
    ∷ pair ab (1 ∷ []) (0 ∷ 1 ∷ 3 ∷ []) (8 ∷ 2 ∷ 2 ∷ [])
    ∷ []

compared? : Pair → Bool
compared? c = equal? (compared c) c.answer

pairs_computed : T (all compared? pairs)
unfolding compared? pairs pair
pairs_computed = tt

pub comparisons : (c : Pair) → Mem c pairs → compared c ≡ c.answer
unfolding compared?
comparisons c m = (equal_test (compared c) c.answer).0 (all_at compared? pairs_computed m)

-- the first order of M7's log in six bytes, and five bytes for it
pub first_order_m7 : (first_order (independent (2 ∷ 1 ∷ 0 ∷ 0 ∷ [])) M7 ≡ some (0 ∷ 1 ∷ 2 ∷ 0 ∷ 1 ∷ 3 ∷ []))
    × (told (first_order_refusal 4 (2 ∷ 1 ∷ 0 ∷ 0 ∷ []) M7 6) ≡ []) × (told (first_order_refusal 4 (2 ∷ 1 ∷ 0 ∷ 0 ∷ []) M7 5) ≡ 9 ∷ 0 ∷ [])
first_order_m7 = (refl, refl, refl)
