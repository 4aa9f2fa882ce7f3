-- The worked cases of document 01, one row each, and one theorem over the rows, proved by one computed test.
use mathlib.Core.Path.{◌≡◌, refl, ap}
use mathlib.Core.Logic.{◌↔◌}
use mathlib.Core.Bool.{Bool, true, false, ◌&&◌}
use mathlib.Core.List.Memᴰ
use mathlib.Core.List.{List, [], ◌∷◌, ◌++◌}
use mathlib.Core.Option.{Option, none, some}
use Prim.Native.Nat.{ℕ}
use lib.Dec.{T, eqb, eqb→eq}
use lib.ListN.{replicate}
use Rattle.profile.specs.Lists.{Mem, all, any, equal?}
use Rattle.profile.specs.Traces.{Reachable, independent, orders}
use Rattle.profile.specs.Automata.{Profile, automaton}
use Rattle.profile.specs.Prefixes.{at, backward, by_total, forward, looks as looks_by, prefix_count}
use Rattle.profile.specs.Orders.{accepted_order}
use Rattle.profile.specs.Tables.{count_field, layout, packed, table_of}
use Rattle.profile.proofs.Lists.{all_at, any_at, equal_test, fst_of, snd_of}
use Rattle.profile.proofs.Traces.{reach_orders}

-- ---- rows

-- a row: a profile and a log, and what is to come out
pub record Row : Type 0 where
  pub profile : Profile
  pub log : List ℕ
  pub order : Option (List ℕ)
  pub number : ℕ
  pub looks : ℕ
  pub reachable : List (List ℕ)
  pub sets : List (List ℕ × ℕ × ℕ)

abbrev pub may_of : Row → ℕ → ℕ → Bool
may_of r = independent r.profile.masks

abbrev pub order_of : Row → Option (List ℕ)
order_of r = accepted_order (may_of r) (λ a. a) (automaton r.profile) r.log

abbrev pub number_of : Row → ℕ
number_of r = prefix_count (may_of r) (λ a. a) r.profile.k r.log

abbrev pub looks_of : Row → ℕ
looks_of r = looks_by (may_of r) (λ a. a) r.profile.k r.log

-- forward and backward at the counts c
abbrev pub forward_of : Row → List ℕ → ℕ
forward_of r c = forward (may_of r) (λ a. a) (automaton r.profile) r.log (at c)

abbrev pub backward_of : Row → List ℕ → ℕ
backward_of r c = backward (may_of r) (λ a. a) (automaton r.profile) r.log (at c)

-- what is right of a row
pub record Right (r : Row) : Type 0 where
  pub orders : order_of r ≡ r.order
  pub numbers : number_of r ≡ r.number
  pub looked : looks_of r ≡ r.looks
  pub reaches : (v : List ℕ) → Reachable (may_of r) r.log v ↔ Mem v r.reachable
  pub records : (e : List ℕ × ℕ × ℕ) → Mem e r.sets → (forward_of r e.0 ≡ e.1) × (backward_of r e.0 ≡ e.2)

-- ---- the table of cases

-- the masks of a and b independent, of two letters
abbrev pub ab : List ℕ
ab = 2 ∷ 1 ∷ []

-- courses ab, abab and so on, and the empty one: a leads from state 0 to 1, b from 1 to 0; 0 starts and is final
abbrev pub alt : List ℕ → Profile
alt masks = record { k = 2; masks = masks; s = 2; start = 0; finals = 1; moves = 2 ∷ 0 ∷ 0 ∷ 1 ∷ [] }

-- every log of k letters is accepted: the cases that name no courses
abbrev pub free : ℕ → List ℕ → Profile
free k masks = record { k = k; masks = masks; s = 1; start = 0; finals = 1; moves = replicate k 1 }

-- M1 to M9, in their order
pub worked : List Row
worked =
    record { profile = alt ab; log = []; order = some []; number = 1; looks = 0; reachable = [] ∷ []; sets = [] }
    ∷ record {
      profile = alt ab;
      log = 1 ∷ 1 ∷ 0 ∷ 0 ∷ [];
      order = some (0 ∷ 1 ∷ 0 ∷ 1 ∷ []);
      number = 9;
      looks = 12;
      reachable =
          (1 ∷ 1 ∷ 0 ∷ 0 ∷ []) ∷ (1 ∷ 0 ∷ 1 ∷ 0 ∷ []) ∷ (1 ∷ 0 ∷ 0 ∷ 1 ∷ []) ∷ (0 ∷ 1 ∷ 1 ∷ 0 ∷ []) ∷ (0 ∷ 1 ∷ 0 ∷ 1 ∷ []) ∷ (0 ∷ 0 ∷ 1 ∷ 1 ∷ []) ∷ [];
      sets = [];
    }
    ∷ record {
      profile = alt ab;
      log = 1 ∷ 0 ∷ 1 ∷ [];
      order = none;
      number = 6;
      looks = 7;
      reachable = (1 ∷ 0 ∷ 1 ∷ []) ∷ (0 ∷ 1 ∷ 1 ∷ []) ∷ (1 ∷ 1 ∷ 0 ∷ []) ∷ [];
      sets = [];
    }
    ∷ record { profile = alt (0 ∷ 0 ∷ []); log = 1 ∷ 0 ∷ []; order = none; number = 3; looks = 2; reachable = (1 ∷ 0 ∷ []) ∷ []; sets = [] }
    ∷ record {
      profile = record { k = 2; masks = ab; s = 3; start = 0; finals = 4; moves = 0 ∷ 2 ∷ 4 ∷ 0 ∷ 0 ∷ 0 ∷ [] };
      log = 0 ∷ 1 ∷ [];
      order = some (1 ∷ 0 ∷ []);
      number = 4;
      looks = 4;
      reachable = (0 ∷ 1 ∷ []) ∷ (1 ∷ 0 ∷ []) ∷ [];
      sets = [];
    }
    ∷ record {
      profile = record { k = 2; masks = ab; s = 4; start = 0; finals = 8; moves = 2 ∷ 4 ∷ 0 ∷ 8 ∷ 8 ∷ 0 ∷ 0 ∷ 0 ∷ [] };
      log = 1 ∷ 0 ∷ [];
      order = some (0 ∷ 1 ∷ []);
      number = 4;
      looks = 4;
      reachable = (0 ∷ 1 ∷ []) ∷ (1 ∷ 0 ∷ []) ∷ [];
      sets = [];
    }
    ∷ record {
      profile = free 4 (2 ∷ 1 ∷ 0 ∷ 0 ∷ []);
      log = 0 ∷ 1 ∷ 2 ∷ 1 ∷ 0 ∷ 3 ∷ [];
      order = some (0 ∷ 1 ∷ 2 ∷ 0 ∷ 1 ∷ 3 ∷ []);
      number = 9;
      looks = 10;
      reachable = (0 ∷ 1 ∷ 2 ∷ 1 ∷ 0 ∷ 3 ∷ []) ∷ (1 ∷ 0 ∷ 2 ∷ 1 ∷ 0 ∷ 3 ∷ []) ∷ (0 ∷ 1 ∷ 2 ∷ 0 ∷ 1 ∷ 3 ∷ []) ∷ (1 ∷ 0 ∷ 2 ∷ 0 ∷ 1 ∷ 3 ∷ []) ∷ [];
      sets = [];
    }
    ∷ record {
      profile = free 3 (2 ∷ 5 ∷ 2 ∷ []);
      log = 2 ∷ 0 ∷ 1 ∷ [];
      order = some (1 ∷ 2 ∷ 0 ∷ []);
      number = 6;
      looks = 7;
      reachable = (2 ∷ 0 ∷ 1 ∷ []) ∷ (2 ∷ 1 ∷ 0 ∷ []) ∷ (1 ∷ 2 ∷ 0 ∷ []) ∷ [];
      sets = [];
    }
    ∷ record {
      profile = alt ab;
      log = 1 ∷ 0 ∷ [];
      order = some (0 ∷ 1 ∷ []);
      number = 4;
      looks = 4;
      reachable = (1 ∷ 0 ∷ []) ∷ (0 ∷ 1 ∷ []) ∷ [];
      sets = (0 ∷ 0 ∷ [], 1, 1) ∷ (1 ∷ 0 ∷ [], 2, 2) ∷ (0 ∷ 1 ∷ [], 0, 0) ∷ (1 ∷ 1 ∷ [], 1, 1) ∷ [];
    }
    ∷ []

-- What the nine do not tell apart. Alt on a: no move fails, and the log ends in a state that is not final. One-way masks on ba, both ways: the
-- direction of the mask test. Courses bacd and abdc with a, b and c, d independent: the states of the letters chosen so far, and not of the
-- prefix, decide the next letter. Only course bac on abc, beside which ab leads on to nothing: the smallest letter that can be added is no choice.
pub further : List Row
further =
    record { profile = alt ab; log = 0 ∷ []; order = none; number = 2; looks = 1; reachable = (0 ∷ []) ∷ []; sets = [] }
    ∷ record { profile = alt (0 ∷ 1 ∷ []); log = 1 ∷ 0 ∷ []; order = some (0 ∷ 1 ∷ []); number = 4; looks = 4; reachable = (1 ∷ 0 ∷ []) ∷ (0 ∷ 1 ∷ []) ∷ []; sets = (0 ∷ 0 ∷ [], 1, 1) ∷ (1 ∷ 1 ∷ [], 1, 1) ∷ [] }
    ∷ record { profile = alt (2 ∷ 0 ∷ []); log = 1 ∷ 0 ∷ []; order = none; number = 3; looks = 2; reachable = (1 ∷ 0 ∷ []) ∷ []; sets = (0 ∷ 0 ∷ [], 1, 0) ∷ (1 ∷ 1 ∷ [], 0, 1) ∷ [] }
    ∷ record {
      profile = record {
        k = 4;
        masks = 2 ∷ 1 ∷ 8 ∷ 4 ∷ [];
        s = 9;
        start = 0;
        finals = 272;
        moves = 32 ∷ 2 ∷ 0 ∷ 0 ∷ 4 ∷ 0 ∷ 0 ∷ 0 ∷ 0 ∷ 0 ∷ 8 ∷ 0 ∷ 0 ∷ 0 ∷ 0 ∷ 16 ∷ 0 ∷ 0 ∷ 0 ∷ 0 ∷ 0 ∷ 64 ∷ 0 ∷ 0 ∷ 0 ∷ 0 ∷ 0 ∷ 128 ∷ 0 ∷ 0 ∷ 256 ∷ 0 ∷ 0 ∷ 0 ∷ 0 ∷ 0 ∷ [];
      };
      log = 0 ∷ 1 ∷ 2 ∷ 3 ∷ [];
      order = some (0 ∷ 1 ∷ 3 ∷ 2 ∷ []);
      number = 7;
      looks = 8;
      reachable = (0 ∷ 1 ∷ 2 ∷ 3 ∷ []) ∷ (1 ∷ 0 ∷ 2 ∷ 3 ∷ []) ∷ (0 ∷ 1 ∷ 3 ∷ 2 ∷ []) ∷ (1 ∷ 0 ∷ 3 ∷ 2 ∷ []) ∷ [];
      sets = [];
    }
    ∷ record {
      profile = record { k = 3; masks = 2 ∷ 1 ∷ 0 ∷ []; s = 6; start = 0; finals = 32; moves = 2 ∷ 8 ∷ 0 ∷ 0 ∷ 4 ∷ 0 ∷ 0 ∷ 0 ∷ 0 ∷ 16 ∷ 0 ∷ 0 ∷ 0 ∷ 0 ∷ 32 ∷ 0 ∷ 0 ∷ 0 ∷ [] };
      log = 0 ∷ 1 ∷ 2 ∷ [];
      order = some (1 ∷ 0 ∷ 2 ∷ []);
      number = 5;
      looks = 5;
      reachable = (0 ∷ 1 ∷ 2 ∷ []) ∷ (1 ∷ 0 ∷ 2 ∷ []) ∷ [];
      sets = (1 ∷ 0 ∷ 0 ∷ [], 2, 0) ∷ (0 ∷ 1 ∷ 0 ∷ [], 8, 8) ∷ [];
    }
    ∷ []

-- ---- the test of a row, and what it says

same_option : Option (List ℕ) → Option (List ℕ) → Bool
same_option none none = true
same_option none (some v) = false
same_option (some u) none = false
same_option (some u) (some v) = equal? u v

-- every list of l stands in r
within : List (List ℕ) → List (List ℕ) → Bool
within l r = all (λ u. any (equal? u) r) l

sets? : Row → List ℕ × ℕ × ℕ → Bool
sets? r e = eqb (forward_of r e.0) e.1 && eqb (backward_of r e.0) e.2

listed? : Row → Bool
listed? r = within (orders (may_of r) r.log) r.reachable && within r.reachable (orders (may_of r) r.log)

right? : Row → Bool
right? r = (same_option (order_of r) r.order && (eqb (number_of r) r.number && eqb (looks_of r) r.looks)) && (listed? r && all (sets? r) r.sets)

computed : T (all right? (worked ++ further))
unfolding right? listed? sets? within same_option worked further
computed = tt

option_eq : (u v : Option (List ℕ)) → T (same_option u v) → u ≡ v
unfolding same_option
option_eq none none t = refl
option_eq none (some v) t = absurd t
option_eq (some u) none t = absurd t
option_eq (some u) (some v) t = ap some ((equal_test u v).0 t)

mem_of_test : (l r : List (List ℕ)) → T (within l r) → (u : List ℕ) → Mem u l → Mem u r
unfolding within
mem_of_test l r t u m = let n = any_at (equal? u) r (all_at (λ u. any (equal? u) r) t m) in Memᴰ.cast ((equal_test u n.0).0 n.2) n.1

right_of : (r : Row) → T (right? r) → Right r
unfolding right? listed? sets?
right_of r t =
    let a = same_option (order_of r) r.order in
    let n = eqb (number_of r) r.number in
    let l = eqb (looks_of r) r.looks in
    let b = n && l in
    let c = within (orders (may_of r) r.log) r.reachable in
    let d = within r.reachable (orders (may_of r) r.log) in
    let f = all (sets? r) r.sets in
    let t₁ = fst_of (a && b) ((c && d) && f) t in
    let t₂ = snd_of (a && b) ((c && d) && f) t in
    let t₃ = fst_of (c && d) f t₂ in
    record {
      orders = option_eq (order_of r) r.order (fst_of a b t₁);
      numbers = eqb→eq (number_of r) r.number (fst_of n l (snd_of a b t₁));
      looked = eqb→eq (looks_of r) r.looks (snd_of n l (snd_of a b t₁));
      reaches = λ v. (
        λ q. mem_of_test (orders (may_of r) r.log) r.reachable (fst_of c d t₃) v ((reach_orders (may_of r) r.log v).0 q),
        λ n. (reach_orders (may_of r) r.log v).1 (mem_of_test r.reachable (orders (may_of r) r.log) (snd_of c d t₃) v n),
      );
      records = λ e n.
          let x = all_at (sets? r) (snd_of (c && d) f t₂) n in (
            eqb→eq (forward_of r e.0) e.1 (fst_of (eqb (forward_of r e.0) e.1) (eqb (backward_of r e.0) e.2) x),
            eqb→eq (backward_of r e.0) e.2 (snd_of (eqb (forward_of r e.0) e.1) (eqb (backward_of r e.0) e.2) x),
          );
    }

-- "letter i in number i div 2, the even letter in the low half", of letters 0, 3 and 4
pub fields : (count_field layout (packed layout (1 ∷ 2 ∷ 3 ∷ 4 ∷ 5 ∷ [])) 0 ≡ 1) × (count_field layout (packed layout (1 ∷ 2 ∷ 3 ∷ 4 ∷ 5 ∷ [])) 3 ≡ 4)
    × (count_field layout (packed layout (1 ∷ 2 ∷ 3 ∷ 4 ∷ 5 ∷ [])) 4 ≡ 5)
fields = (refl, refl, refl)

-- "case M9 now reads empty, b, a, ab" (document 02, Paper 5): its table in 42 numbers, a row for each record, counts in eight numbers, then forward and
-- backward; the last two numbers are as before
pub m9_records : table_of layout (independent ab) (λ a. a) (automaton (alt ab)) 2 (1 ∷ 0 ∷ []) (replicate 42 7)
    ≡ 0 ∷ 0 ∷ 0 ∷ 0 ∷ 0 ∷ 0 ∷ 0 ∷ 0 ∷ 1 ∷ 1
    ∷ 65536 ∷ 0 ∷ 0 ∷ 0 ∷ 0 ∷ 0 ∷ 0 ∷ 0 ∷ 0 ∷ 0
    ∷ 1 ∷ 0 ∷ 0 ∷ 0 ∷ 0 ∷ 0 ∷ 0 ∷ 0 ∷ 2 ∷ 2
    ∷ 65537 ∷ 0 ∷ 0 ∷ 0 ∷ 0 ∷ 0 ∷ 0 ∷ 0 ∷ 1 ∷ 1
    ∷ 7 ∷ 7 ∷ []
m9_records = refl

-- M2's prefixes in the order of their records: by total, then by the count of a
pub m2_order : by_total (independent ab) (λ a. a) 2 (1 ∷ 1 ∷ 0 ∷ 0 ∷ [])
    ≡ (0 ∷ 0 ∷ [])
    ∷ (0 ∷ 1 ∷ []) ∷ (1 ∷ 0 ∷ [])
    ∷ (0 ∷ 2 ∷ []) ∷ (1 ∷ 1 ∷ []) ∷ (2 ∷ 0 ∷ [])
    ∷ (1 ∷ 2 ∷ []) ∷ (2 ∷ 1 ∷ [])
    ∷ (2 ∷ 2 ∷ []) ∷ []
m2_order = refl

-- M1 to M9 and the further rows: verdict with its order, P, looks, exactly the reachable logs, and the sets
pub cases : (r : Row) → Mem r (worked ++ further) → Right r
cases r m = right_of r (all_at right? computed m)
