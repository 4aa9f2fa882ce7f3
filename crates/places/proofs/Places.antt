-- The places of events: their number, their bounds, the table of them.
use mathlib.Core.Path.{◌≡◌, refl, sym, ◌∙◌, ap, ap₂, subst}
use mathlib.Core.Bool.{not}
use mathlib.Core.Logic.{◌⊎◌, inl, inr, ⊎_elim, ◌≢◌}
use mathlib.Core.List.Memᴰ
use mathlib.Core.List.{List, [], ◌∷◌, ◌++◌, map, append-nil}
use Prim.Native.Nat.{ℕ, zero, suc, ◌+◌, ◌-◌, ◌≤◌, ◌<◌}
use native.Mathlib.Omega.{arith}
use native.Mathlib.Numerals.{add-one}
use lib.Dec.{T, not_T, eqb, eqb→eq, eqb_refl, ltb, ltb→lt, lt→ltb}
use lib.ListN.{length, drop, get_or, length-append, length-drop, drop_of_length-le, get_or-append}
use lib.Seq.{sets, drop-append-add, drop-cons, drop-drop, get_or-append-add, sets-eq, take_at}
use Rattle.profile.specs.Lists.{Mem, below, filter, flat_map, range}
use Rattle.profile.specs.Prefixes.{count, one}
use Rattle.profile.specs.Traces.{letters_below}
use Rattle.profile.proofs.Lists.{below_suc, filter_no, filter_none, filter_yes, flat_map_append, fst_of, is_false, is_true, lt_or_le, snd_of, test, range_append}
use Rattle.theory.proofs.Prefixes.{one_other, one_same}
use Rattle.theory.proofs.Counting.{at_map, length_range}
use Rattle.places.specs.Places.{place_start, place_table, places_from, places_of}

-- ---- the places of one letter

pub places_yes : (i x a : ℕ) (w : List ℕ) → T (eqb a x) → places_from i x (a ∷ w) ≡ i ∷ places_from (suc i) x w
places_yes i x a w t = rw (is_true (eqb a x) t, places_from)

pub places_no : (i x a : ℕ) (w : List ℕ) → T (not (eqb a x)) → places_from i x (a ∷ w) ≡ places_from (suc i) x w
places_no i x a w t = rw (is_false (eqb a x) t, places_from)

-- one place for each event, and the end
pub places_length : (i x : ℕ) (w : List ℕ) → length (places_from i x w) ≡ suc (count (λ a. a) w x)
places_length i x [] = refl
places_length i x (a ∷ w) = go (test (eqb a x)) (places_length (suc i) x w)
  where
    go : T (eqb a x) ⊎ T (not (eqb a x)) → length (places_from (suc i) x w) ≡ suc (count (λ a. a) w x) → length (places_from i x (a ∷ w)) ≡ suc (count (λ a. a) (a ∷ w) x)
    go (inl t) h = let o : one a x ≡ 1 = rw (is_true (eqb a x) t) in omega (arith, ap length (places_yes i x a w t))
    go (inr t) h = let o : one a x ≡ 0 = rw (is_false (eqb a x) t) in omega (arith, ap length (places_no i x a w t))

-- every place is between the first that is counted and the end
pub places_within : (i x : ℕ) (w : List ℕ) {p : ℕ} → Mem p (places_from i x w) → (i ≤ p) × (p ≤ i + length w)
places_within i x [] m = let e = Memᴰ.eq_of_singleton m in omega arith
places_within i x (a ∷ w) {p} m = go (test (eqb a x)) (places_within (suc i) x w)
  where
    go : T (eqb a x) ⊎ T (not (eqb a x)) → (Mem p (places_from (suc i) x w) → (suc i ≤ p) × (p ≤ suc i + length w)) → (i ≤ p) × (p ≤ i + suc (length w))
    go (inl t) f = ⊎_elim (λ e. omega arith) (λ k. let n = f k in omega arith) (Memᴰ.cases_cons (rw (places_yes i x a w t) at m))
    go (inr t) f = let n = f (rw (places_no i x a w t) at m) in omega arith

-- the places that are left at event i of the log, for a loop over the events
pub places_left_yes : (w : List ℕ) (i x : ℕ) → i < length w → get_or w i 0 ≡ x → places_from i x (drop i w) ≡ i ∷ places_from (i + 1) x (drop (i + 1) w)
places_left_yes w i x h e = rw (add-one, drop-cons w i 0) (places_yes i x (get_or w i 0) (drop (suc i) w) (subst (λ z. T (eqb (get_or w i 0) z)) e (eqb_refl (get_or w i 0))))

pub places_left_no : (w : List ℕ) (i x : ℕ) → i < length w → get_or w i 0 ≢ x → places_from i x (drop i w) ≡ places_from (i + 1) x (drop (i + 1) w)
places_left_no w i x h e = rw (add-one, drop-cons w i 0) (places_no i x (get_or w i 0) (drop (suc i) w) (not_T (eqb (get_or w i 0) x) (λ t. e (eqb→eq (get_or w i 0) x t))))

pub places_left_end : (w : List ℕ) (i x : ℕ) → length w ≤ i → places_from i x (drop i w) ≡ i ∷ []
places_left_end w i x h = ap (places_from i x) (drop_of_length-le w h)

-- ---- the table

pub place_table_suc : (k : ℕ) (w : List ℕ) → place_table (suc k) w ≡ place_table k w ++ places_of w k
place_table_suc k w =
    ap (flat_map (places_of w)) (below_suc k) ∙ flat_map_append (places_of w) (below k) (k ∷ []) ∙ ap (λ t. place_table k w ++ t) (append-nil (places_of w k))

-- with the places of one letter more, for a loop over the letters
pub place_table_more : (k : ℕ) (w : List ℕ) → length (place_table (k + 1) w) ≡ length (place_table k w) + length (places_of w k)
place_table_more k w = rw add-one (ap length (place_table_suc k w) ∙ length-append (place_table k w) (places_of w k))

-- a list that begins with t, after v is stored behind t
fill_more : (t v l : List ℕ) (n : ℕ) → length t ≡ n → n + length v ≤ length l → sets (t ++ drop n l) n v ≡ (t ++ v) ++ drop (n + length v) l
fill_more t v l n e h =
    sets-eq v (t ++ drop n l) n (omega (arith, length-append t (drop n l), length-drop n l))
    ∙ ap₂ (λ a b. (a ++ v) ++ b) (take_at t (drop n l) n e)
    (ap (λ m. drop (m + length v) (t ++ drop n l)) (sym e) ∙ drop-append-add t (drop n l) (length v) ∙ drop-drop (length v) n l)

pub places_more : (w l : List ℕ) (k : ℕ) → length (place_table (k + 1) w) ≤ length l
    → sets (place_table k w ++ drop (length (place_table k w)) l) (length (place_table k w)) (places_of w k) ≡ place_table (k + 1) w ++ drop (length (place_table (k + 1) w)) l
places_more w l k h =
    let t = place_table k w in
    let e = place_table_more k w in
    fill_more t (places_of w k) l (length t) refl (omega arith)
    ∙ ap₂ (λ a n. a ++ drop n l) (sym (ap (λ m. place_table m w) (add-one k) ∙ place_table_suc k w)) (sym e)

-- the table is that of the letters below x, the places of x, and those of the letters above
above : ℕ → List ℕ → ℕ → List ℕ
above k w x = flat_map (places_of w) (range (suc x) (k - suc x))

place_table_split : (k : ℕ) (w : List ℕ) (x : ℕ) → x < k → place_table k w ≡ place_table x w ++ (places_of w x ++ above k w x)
unfolding above
place_table_split k w x h =
    let d = k - suc x in
    let e : k ≡ x + suc d = omega arith in
    let z : 0 + x ≡ x = omega arith in
    ap (flat_map (places_of w)) (ap below e ∙ range_append 0 x (suc d) ∙ ap (λ a. below x ++ range a (suc d)) z)
    ∙ flat_map_append (places_of w) (below x) (range x (suc d))

-- from where the places of letter x start, n further: the place of its event that has n before it
pub place_table_at : (k : ℕ) (w : List ℕ) (x n : ℕ) → x < k → n ≤ count (λ a. a) w x → get_or (place_table k w) (place_start w x + n) 0 ≡ get_or (places_of w x) n 0
place_table_at k w x n h le =
    ap (λ l. get_or l (place_start w x + n) 0) (place_table_split k w x h)
    ∙ get_or-append-add (place_table x w) (places_of w x ++ above k w x) n 0
    ∙ get_or-append (places_of w x) (above k w x) 0 n (omega (arith, places_length 0 x w))

-- the same where the starts and the table stand at the front of longer lists
pub place_found : (k : ℕ) (w s p : List ℕ) (x n : ℕ) → x < k → n ≤ count (λ a. a) w x
    → get_or (place_table k w ++ p) (get_or (map (place_start w) (below k) ++ s) x 0 + n) 0 ≡ get_or (places_of w x) n 0
place_found k w s p x n h le =
    let z : 0 + x ≡ x = omega arith in
    let start : get_or (map (place_start w) (below k) ++ s) x 0 ≡ place_start w x =
    get_or-append (map (place_start w) (below k)) s 0 x (omega (arith, length_range (place_start w) k 0)) ∙ at_map (place_start w) k 0 x h ∙ ap (place_start w) z in
    let len : length (place_table k w) ≡ place_start w x + (length (places_of w x) + length (above k w x)) =
    ap length (place_table_split k w x h) ∙ length-append (place_table x w) (places_of w x ++ above k w x)
    ∙ ap (λ m. place_start w x + m) (length-append (places_of w x) (above k w x)) in
    ap (λ m. get_or (place_table k w ++ p) (m + n) 0) start
    ∙ get_or-append (place_table k w) p 0 (place_start w x + n) (omega (arith, places_length 0 x w))
    ∙ place_table_at k w x n h le

-- the letters of w that are below k
abbrev low : ℕ → List ℕ → List ℕ
low k w = filter (λ a. ltb a k) w

low_suc : (k : ℕ) (w : List ℕ) → length (low (suc k) w) ≡ length (low k w) + count (λ a. a) w k
low_suc k [] = refl
low_suc k (a ∷ w) = go (lt_or_le a k) (lt_or_le k a) (low_suc k w)
  where
    yes : (m : ℕ) → a < m → length (low m (a ∷ w)) ≡ suc (length (low m w))
    yes m l = ap length (filter_yes (λ a. ltb a m) a w (lt→ltb a m l))

    no : (m : ℕ) → m ≤ a → length (low m (a ∷ w)) ≡ length (low m w)
    no m l = ap length (filter_no (λ a. ltb a m) a w (not_T (ltb a m) (λ t. let h = ltb→lt a m t in omega arith)))

    go : (a < k) ⊎ (k ≤ a) → (k < a) ⊎ (a ≤ k) → length (low (suc k) w) ≡ length (low k w) + count (λ a. a) w k
        → length (low (suc k) (a ∷ w)) ≡ length (low k (a ∷ w)) + count (λ a. a) (a ∷ w) k
    go (inl l) m h = omega (arith, yes k l, yes (suc k) (omega arith), one_other a k (λ e. omega arith))
    go (inr l) (inl m) h = omega (arith, no k l, no (suc k) m, one_other a k (λ e. omega arith))
    go (inr l) (inr m) h = let e : a ≡ k = omega arith in omega (arith, no k l, yes (suc k) (omega arith), ap (λ b. one a b) e, one_same a)

low_le : (k : ℕ) (w : List ℕ) → length (low k w) ≤ length w
low_le k [] = omega arith
low_le k (a ∷ w) = ⊎_elim
    (λ t. omega (arith, ap length (filter_yes (λ a. ltb a k) a w t), low_le k w)) (λ t. omega (arith, ap length (filter_no (λ a. ltb a k) a w t), low_le k w)) (test (ltb a k))

low_all : (k : ℕ) (w : List ℕ) → T (letters_below (λ a. a) k w) → low k w ≡ w
low_all k [] h = refl
low_all k (a ∷ w) h = filter_yes (λ a. ltb a k) a w (fst_of (ltb a k) (letters_below (λ a. a) k w) h) ∙ ap (◌∷◌ a) (low_all k w (snd_of (ltb a k) (letters_below (λ a. a) k w) h))

table_low : (k : ℕ) (w : List ℕ) → length (place_table k w) ≡ length (low k w) + k
table_low zero w = omega (arith, ap length (filter_none (λ a. ltb a 0) w (λ a m t. omega (arith, ltb→lt a 0 t))))
table_low (suc k) w =
    omega (arith, table_low k w, ap length (place_table_suc k w), length-append (place_table k w) (places_of w k), places_length 0 k w, low_suc k w)

pub place_table_le : (k : ℕ) (w : List ℕ) → length (place_table k w) ≤ length w + k
place_table_le k w = omega (arith, table_low k w, low_le k w)

-- as many numbers as events and letters
pub place_table_length : (k : ℕ) (w : List ℕ) → T (letters_below (λ a. a) k w) → length (place_table k w) ≡ length w + k
place_table_length k w h = table_low k w ∙ ap (λ l. length l + k) (low_all k w h)
