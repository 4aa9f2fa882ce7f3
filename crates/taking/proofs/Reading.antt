-- What the table of a running judge tells of the prefixes: their counts, and which of them an event joins.
use mathlib.Core.Path.{◌≡◌, refl, sym, ◌∙◌, ap, ap₂, subst}
use mathlib.Core.Bool.{Bool, true, false, not, ◌&&◌, ◌||◌}
use mathlib.Core.Logic.{⊎_elim}
use mathlib.Core.List.Memᴰ
use mathlib.Core.List.{List, [], ◌∷◌}
use Prim.Native.Nat.{ℕ, suc, ◌+◌, ◌*◌, ◌-◌, ◌^◌, ◌<◌, ◌≤◌}
use native.Mathlib.Omega.{arith}
use lib.Dec.{T, eqb, ltb, lt→ltb}
use lib.ListN.{get_or, length, length-append, length-set, get_or-append}
use lib.Seq.{ext_get_or, get_or-append_seam}
use Rattle.profile.specs.Lists.{Mem, all, below, equal?, filter, range}
use Rattle.profile.specs.Traces.{independent}
use Rattle.profile.specs.Automata.{Profile, automaton}
use Rattle.profile.specs.Prefixes.{IsPrefix, at, count, forward, one}
use Rattle.profile.specs.Tables.{count_field, layout, packed}
use Rattle.profile.specs.Refusals.{longest}
use Rattle.profile.proofs.Lists.{all_of, below_at, equal_test, filter_no, filter_yes, mem_getd, mem_place}
use Rattle.theory.proofs.Counting.{at_map, prefixes_at}
use Rattle.theory.proofs.Packing.{field_packed, packed_length}
use Rattle.theory.proofs.Prefixes.{count_le, one_cases, one_same}
use Rattle.theory.proofs.Profiles.{distinct}
use Rattle.theory.proofs.Refusals.{GoodLog, GoodProfile, profile_at}
use Rattle.counts.specs.Counts.{add_count}
use Rattle.counts.proofs.Packed.{add_packed, same_packed}
use Rattle.records.specs.Records.{counts_at, forward_at}
use Rattle.arrival.specs.Arrival.{arrivals, joins?, with_one, written}
use Rattle.arrival.proofs.Arrivals.{all_at_letter, all_of_log, arrivals_full, arrivals_listed}
use Rattle.arrival.proofs.Inner.{one_more_at}
use Rattle.newcomers.specs.Newcomers.{allows?, count_in, gives?, joins_at?}
use Rattle.running.specs.Running.{Runs}
use Rattle.running.specs.declared.Running.{Running}
use Rattle.running.proofs.Lending.{arrivals_are}

-- filtering by index
module _ {A : Type 0} (f : A → Bool) (z : A) where
  pub indexed : (l : List A) (s : ℕ) (g : ℕ → Bool) → ((i : ℕ) → i < length l → g (s + i) ≡ f (get_or l i z)) → length (filter g (range s (length l))) ≡ length (filter f l)
  indexed [] s g h = refl
  indexed (c ∷ l) s g h = go (f c) refl (indexed l (suc s) g (λ i lt. ap g (shift s i) ∙ h (suc i) (omega (arith, lt))))
    where
      shift : (s i : ℕ) → suc s + i ≡ s + suc i
      shift s i = omega arith

      here : g s ≡ f c
      here = ap g (sym (plus s)) ∙ h 0 (omega arith)
        where
          plus : (s : ℕ) → s + 0 ≡ s
          plus s = omega arith

      go : (b : Bool) → f c ≡ b → length (filter g (range (suc s) (length l))) ≡ length (filter f l) → length (filter g (s ∷ range (suc s) (length l))) ≡ length (filter f (c ∷ l))
      go true e ih = ap length (filter_yes g s (range (suc s) (length l)) (subst T (sym (here ∙ e)) tt)) ∙ ap suc ih ∙ sym (ap length (filter_yes f c l (subst T (sym e) tt)))
      go false e ih = ap length (filter_no g s (range (suc s) (length l)) (subst (λ x. T (not x)) (sym (here ∙ e)) tt)) ∙ ih ∙ sym (ap length (filter_no f c l (subst (λ x. T (not x)) (sym e) tt)))

all_agree : (f g : ℕ → Bool) (l : List ℕ) → ((x : ℕ) → Mem x l → f x ≡ g x) → all f l ≡ all g l
all_agree f g [] h = refl
all_agree f g (x ∷ l) h = ap₂ (λ a b. a && b) (h x (Memᴰ.head refl)) (all_agree f g l (λ y m. h y (Memᴰ.tail m)))

-- the prefixes of a log that is not refused
module _ (p : Profile) (g : GoodProfile p) (w : List ℕ) (log : GoodLog p.k w) where
  abbrev listed : List (List ℕ)
  listed = arrivals (independent p.masks) p.k w

  -- k counts, none above the longest log
  pub prefix_in : (c : List ℕ) → Mem c listed → (length c ≡ p.k) × IsPrefix (independent p.masks) (λ a. a) w (at c)
  prefix_in c m = prefixes_at (independent p.masks) (λ a. a) p.k w c log.letters
      ((arrivals_listed (independent p.masks) p.k (distinct p.masks g.relation.own) w log.letters).into c m)

  low_in : (c : List ℕ) → Mem c listed → (x : ℕ) → at c x ≤ longest
  low_in c m x = omega (arith, (prefix_in c m).1.fits x, count_le (independent p.masks) (λ a. a) w x, log.short)

  pub small_in : (c : List ℕ) → Mem c listed → T (all (λ n. ltb n (2 ^ 16)) c)
  small_in c m = all_of (λ n. ltb n (2 ^ 16)) c (λ n q.
      let e = mem_place 0 q in
      lt→ltb n (2 ^ 16) (omega (arith, e.2, low_in c m e.0)))

  small_more : (c : List ℕ) → Mem c listed → (b : ℕ) → b < p.k → T (all (λ n. ltb n (2 ^ 16)) (with_one c b))
  small_more c m b lb = all_of (λ n. ltb n (2 ^ 16)) (with_one c b) (λ n q.
      let e = mem_place 0 q in
      lt→ltb n (2 ^ 16) (omega (arith, e.2, one_more_at c b p.k (prefix_in c m).0 lb e.0, one-most b e.0, low_in c m e.0)))
    where
      one-most : (x y : ℕ) → one x y ≤ 1
      one-most x y = ⊎_elim (λ i. subst (λ z. one x z ≤ 1) i (omega (arith, one_same x))) (λ o. omega (arith, o)) (one_cases x y)

  -- the count of a letter
  pub field_in : (c : List ℕ) → Mem c listed → (b : ℕ) → b < p.k → count_in (packed layout c) b ≡ at c b
  field_in c m b lt = field_packed layout c b (small_in c m) (omega (arith, lt, g.relation.most))

  -- one more of a letter in the numbers of a prefix
  pub more_in : (c : List ℕ) → Mem c listed → (b : ℕ) → b < p.k → add_count layout (packed layout c) b ≡ packed layout (with_one c b)
  more_in c m b lb =
      let l = (prefix_in c m).0 in
      add_packed layout c b refl (omega (arith, l, lb)) (omega (arith, l, g.relation.most)) (small_more c m b lb)

  -- by their numbers d gives c by one more b exactly when it does by counts
  gives_in : (c d : List ℕ) → Mem c listed → Mem d listed → (b : ℕ) → b < p.k → equal? (add_count layout (packed layout d) b) (packed layout c) ≡ equal? (with_one d b) c
  gives_in c d m n b lb =
      let l = length-set d b (suc (at d b)) ∙ (prefix_in d n).0 in
      ap (λ v. equal? v (packed layout c)) (more_in d n b lb)
      ∙ same_packed layout (with_one d b) c (l ∙ sym (prefix_in c m).0) (omega (arith, l, g.relation.most)) (small_more d n b lb) (small_in c m)

  -- a table whose first i records are those of the first i prefixes
  module _ (t : List ℕ) (i : ℕ) (upto : i ≤ length listed)
      (holds : (x j : ℕ) → x < i → j < 9 → get_or t (10 * x + j) 0 ≡ get_or (written layout (independent p.masks) (automaton p) w (get_or listed x [])) j 0) where
    pub counts_of : (j : ℕ) → j < i → counts_at t j ≡ packed layout (get_or listed j [])
    counts_of j lt = ext_get_or 0 (counts_at t j) (packed layout (get_or listed j [])) (sym (packed_length layout (get_or listed j [])))
        (λ x l. at_map (λ x. get_or t (10 * j + x) 0) 8 0 x l ∙ ap (λ n. get_or t (10 * j + n) 0) (zero_left x) ∙ holds j x lt (omega (arith, l))
        ∙ get_or-append (packed layout (get_or listed j [])) (forward (independent p.masks) (λ a. a) (automaton p) w (at (get_or listed j [])) ∷ []) 0 x (omega (arith, l, packed_length layout (get_or listed j []))))
      where
        zero_left : (i : ℕ) → 0 + i ≡ i
        zero_left i = omega arith

    pub forward_of : (j : ℕ) → j < i → forward_at t j ≡ forward (independent p.masks) (λ a. a) (automaton p) w (at (get_or listed j []))
    forward_of j lt = holds j 8 lt (omega arith)
        ∙ ap (λ n. get_or (written layout (independent p.masks) (automaton p) w (get_or listed j [])) n 0) (sym (packed_length layout (get_or listed j [])))
        ∙ get_or-append_seam (packed layout (get_or listed j [])) (forward (independent p.masks) (λ a. a) (automaton p) w (at (get_or listed j []))) [] 0

    -- record j gives the prefix at place x by one more b
    pub gives_at : (b x j : ℕ) → b < p.k → x < length listed → j < i → T (gives? t b (packed layout (get_or listed x [])) j) → with_one (get_or listed j []) b ≡ get_or listed x []
    gives_at b x j lb lx lj h = (equal_test (with_one (get_or listed j []) b) (get_or listed x [])).0
        (subst T (gives_in (get_or listed x []) (get_or listed j []) (mem_getd listed x [] lx) (mem_getd listed j [] (omega (arith, lj, upto))) b lb)
        (subst (λ v. T (equal? (add_count layout v b) (packed layout (get_or listed x [])))) (counts_of j lj) h))

    pub gives_of : (b x j : ℕ) → b < p.k → x < length listed → j < i → with_one (get_or listed j []) b ≡ get_or listed x [] → T (gives? t b (packed layout (get_or listed x [])) j)
    gives_of b x j lb lx lj e = subst (λ v. T (equal? (add_count layout v b) (packed layout (get_or listed x [])))) (sym (counts_of j lj))
        (subst T (sym (gives_in (get_or listed x []) (get_or listed j []) (mem_getd listed x [] lx) (mem_getd listed j [] (omega (arith, lj, upto))) b lb))
        ((equal_test (with_one (get_or listed j []) b) (get_or listed x [])).1 e))

module _ (p : Profile) (w : List ℕ) {r : Running} {t : List ℕ} (h : Runs p w r t) where
  abbrev A : List (List ℕ)
  A = arrivals (independent p.masks) p.k w

  pub p_is : r.prefixes ≡ length A
  p_is = h.prefixes ∙ sym (arrivals_are p w (profile_at p h.sound) h.log.letters)

  pub counts_are : (j : ℕ) → j < length A → counts_at t j ≡ packed layout (get_or A j [])
  counts_are j lt = counts_of p (profile_at p h.sound) w h.log t (length A) (omega arith) (λ x j lx lj. h.keeps.holds x j lx lj) j lt

  field_is : (c : List ℕ) → Mem c A → (b : ℕ) → b < p.k → count_field layout (packed layout c) b ≡ at c b
  field_is c m b lt = field_in p (profile_at p h.sound) w h.log c m b lt

  -- the last record has all events
  pub last_is : (get_or A (r.prefixes - 1) [] ≡ all_of_log (independent p.masks) p.k w) × (r.prefixes - 1 < length A)
  last_is =
      let f = arrivals_full (independent p.masks) p.k w h.log.letters in
      let n : length A ≡ length f.0 + 1 = ap length f.1 ∙ length-append f.0 (all_of_log (independent p.masks) p.k w ∷ []) in
      let i : r.prefixes - 1 ≡ length f.0 = omega (arith, p_is, n) in
      (ap₂ (λ l m. get_or l m []) f.1 i ∙ get_or-append_seam f.0 (all_of_log (independent p.masks) p.k w) [] [], omega (arith, p_is, n))

  -- the event a joins record j exactly when it can be added to that prefix
  pub joins_is : (a j : ℕ) → j < length A → joins_at? (independent p.masks) p.k (counts_at t (r.prefixes - 1)) a (counts_at t j) ≡ joins? (independent p.masks) p.k w a (get_or A j [])
  joins_is a j lt = all_agree (allows? (independent p.masks) (counts_at t (r.prefixes - 1)) a (counts_at t j)) (λ b. independent p.masks b a || eqb (at (get_or A j []) b) (count (λ x. x) w b)) (below p.k)
      (λ b q.
      let l = below_at p.k b q in
      ap₂ (λ x y. independent p.masks b a || eqb x y)
      (ap (λ v. count_field layout v b) (counts_are j lt) ∙ field_is (get_or A j []) (mem_getd A j [] lt) b l)
      (ap (λ v. count_field layout v b) (counts_are (r.prefixes - 1) last_is.1) ∙ field_is (get_or A (r.prefixes - 1) []) (mem_getd A (r.prefixes - 1) [] last_is.1) b l
      ∙ ap (λ c. at c b) last_is.0 ∙ all_at_letter (independent p.masks) p.k w b l))
