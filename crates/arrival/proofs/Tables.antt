-- What putting records leaves in a table, and that a table which keeps the prefixes of a log keeps those of the log with one event more.
use mathlib.Core.Path.{◌≡◌, refl, sym, ◌∙◌, ap, ap₂, subst}
use mathlib.Core.Bool.{Bool}
use mathlib.Core.Logic.{⊎_elim, ◌≢◌}
use mathlib.Core.List.{List, [], ◌∷◌, ◌++◌, append_assoc, append-nil}
use Prim.Native.Nat.{ℕ, zero, suc, ◌+◌, ◌*◌, ◌-◌, ◌<◌, ◌≤◌}
use native.Mathlib.Omega.{arith}
use lib.Dec.{T, ltb}
use lib.ListN.{drop, get_or, length, length-append, length-drop, take, get_or-append}
use lib.Seq.{drop-cons, get_or-append-add, get_or-drop, get_or-take, length-take-le}
use Rattle.profile.specs.Lists.{Mem}
use Rattle.profile.specs.Traces.{letters_below}
use Rattle.profile.specs.Automata.{Automaton}
use Rattle.profile.specs.Prefixes.{at, forward}
use Rattle.profile.specs.Tables.{layout, packed}
use Rattle.profile.proofs.Lists.{all_split, lt_or_le, mem_getd}
use Rattle.theory.proofs.Counting.{prefixes_at}
use Rattle.theory.proofs.Packing.{packed_length}
use Rattle.arrival.specs.Arrival.{Keeps, arrivals, newcomers, put_numbers, put_written, written}
use Rattle.arrival.proofs.Events.{forward_keep}
use Rattle.arrival.proofs.Arrivals.{arrivals_last, arrivals_listed}

-- ---- numbers put in a list

module _ (t v : List ℕ) (i : ℕ) (h : i + length v ≤ length t) where
  front_length : length (take i t) ≡ i
  front_length = length-take-le i t (omega (arith, h))

  pub put_numbers_length : length (put_numbers t i v) ≡ length t
  put_numbers_length = omega (
    arith,
    h,
    length-append (take i t) (v ++ drop (i + length v) t),
    length-append v (drop (i + length v) t),
    length-drop (i + length v) t,
    front_length,
  )

  pub put_numbers_before : (x : ℕ) → x < i → get_or (put_numbers t i v) x 0 ≡ get_or t x 0
  put_numbers_before x lt = get_or-append (take i t) (v ++ drop (i + length v) t) 0 x (omega (arith, lt, front_length)) ∙ get_or-take i t x 0 lt

  pub put_numbers_in : (x : ℕ) → x < length v → get_or (put_numbers t i v) (i + x) 0 ≡ get_or v x 0
  put_numbers_in x lt =
      ap (λ n. get_or (put_numbers t i v) (n + x) 0) (sym front_length) ∙ get_or-append-add (take i t) (v ++ drop (i + length v) t) x 0
      ∙ get_or-append v (drop (i + length v) t) 0 x lt

  pub put_numbers_behind : (x : ℕ) → get_or (put_numbers t i v) (i + (length v + x)) 0 ≡ get_or t (i + (length v + x)) 0
  put_numbers_behind x =
      ap (λ n. get_or (put_numbers t i v) (n + (length v + x)) 0) (sym front_length) ∙ get_or-append-add (take i t) (v ++ drop (i + length v) t) (length v + x) 0
      ∙ get_or-append-add v (drop (i + length v) t) x 0 ∙ get_or-drop (i + length v) t x 0 ∙ ap (λ n. get_or t n 0) (three i (length v) x)
    where
      three : (a b c : ℕ) → a + b + c ≡ a + (b + c)
      three a b c = omega arith

-- a whole record put, its last number as it was: the numbers before it are put
pub put_kept : (t v : List ℕ) (i f : ℕ) → length v ≡ 8 → i + 10 ≤ length t
    → take i t ++ ((v ++ (f ∷ get_or t (i + 9) 0 ∷ [])) ++ drop (i + 10) t) ≡ put_numbers t i (v ++ (f ∷ []))
put_kept t v i f e h =
    let nine : i + length (v ++ (f ∷ [])) ≡ i + 9 = omega (arith, e, length-append v (f ∷ [])) in
    let ten : suc (i + 9) ≡ i + 10 = omega arith in
    let d : drop (i + length (v ++ (f ∷ []))) t ≡ get_or t (i + 9) 0 ∷ drop (i + 10) t = ap (λ n. drop n t) nine ∙ drop-cons t (i + 9) 0 (omega (arith, h)) ∙ ap (λ n. get_or t (i + 9) 0 ∷ drop n t) ten in
    ap (◌++◌ (take i t)) (append_assoc v (f ∷ get_or t (i + 9) 0 ∷ []) (drop (i + 10) t) ∙ sym (append_assoc v (f ∷ []) (get_or t (i + 9) 0 ∷ drop (i + 10) t)) ∙ ap (◌++◌ (v ++ (f ∷ []))) (sym d))

-- ---- records put in a table

module _ (may : ℕ → ℕ → Bool) (M : Automaton) (w : List ℕ) where
  pub written_length : (c : List ℕ) → length (written layout may M w c) ≡ 9
  written_length c = omega (arith, length-append (packed layout c) (forward may (λ a. a) M w (at c) ∷ []), packed_length layout c)

  pub put_length : (cs : List (List ℕ)) (j : ℕ) (t : List ℕ) → 10 * (j + length cs) ≤ length t → length (put_written layout may M w j cs t) ≡ length t
  put_length [] j t h = refl
  put_length (c ∷ cs) j t h =
      let p = put_numbers_length t (written layout may M w c) (10 * j) (omega (arith, written_length c, h)) in
      put_length cs (suc j) (put_numbers t (10 * j) (written layout may M w c)) (omega (arith, p, h)) ∙ p

  -- what stands before the first record that is put
  pub put_before : (cs : List (List ℕ)) (j : ℕ) (t : List ℕ) → 10 * (j + length cs) ≤ length t → (x : ℕ) → x < 10 * j
      → get_or (put_written layout may M w j cs t) x 0 ≡ get_or t x 0
  put_before [] j t h x lt = refl
  put_before (c ∷ cs) j t h x lt =
      let q : 10 * j + length (written layout may M w c) ≤ length t = omega (arith, written_length c, h) in
      put_before cs (suc j) (put_numbers t (10 * j) (written layout may M w c)) (omega (arith, put_numbers_length t (written layout may M w c) (10 * j) q, h)) x (omega arith)
      ∙ put_numbers_before t (written layout may M w c) (10 * j) q x lt

  -- the records that are put
  pub put_at : (cs : List (List ℕ)) (j : ℕ) (t : List ℕ) → 10 * (j + length cs) ≤ length t → (r m : ℕ) → r < length cs → m < 9
      → get_or (put_written layout may M w j cs t) (10 * (j + r) + m) 0 ≡ get_or (written layout may M w (get_or cs r [])) m 0
  put_at [] j t h r m lt lm = absurd (omega arith)
  put_at (c ∷ cs) j t h zero m lt lm =
      let q : 10 * j + length (written layout may M w c) ≤ length t = omega (arith, written_length c, h) in
      let e : 10 * (j + 0) + m ≡ 10 * j + m = omega arith in
      ap (λ n. get_or (put_written layout may M w (suc j) cs (put_numbers t (10 * j) (written layout may M w c))) n 0) e
      ∙ put_before cs (suc j) (put_numbers t (10 * j) (written layout may M w c)) (omega (arith, put_numbers_length t (written layout may M w c) (10 * j) q, h)) (10 * j + m) (omega arith)
      ∙ put_numbers_in t (written layout may M w c) (10 * j) q m (omega (arith, written_length c))
  put_at (c ∷ cs) j t h (suc r) m lt lm =
      let q : 10 * j + length (written layout may M w c) ≤ length t = omega (arith, written_length c, h) in
      let e : 10 * (j + suc r) + m ≡ 10 * (suc j + r) + m = omega arith in
      ap (λ n. get_or (put_written layout may M w (suc j) cs (put_numbers t (10 * j) (written layout may M w c))) n 0) e
      ∙ put_at cs (suc j) (put_numbers t (10 * j) (written layout may M w c)) (omega (arith, put_numbers_length t (written layout may M w c) (10 * j) q, h)) r m (omega arith) lm

  -- one record more
  pub put_last : (cs : List (List ℕ)) (c : List ℕ) (j : ℕ) (t : List ℕ)
      → put_written layout may M w j (cs ++ (c ∷ [])) t ≡ put_numbers (put_written layout may M w j cs t) (10 * (j + length cs)) (written layout may M w c)
  put_last [] c j t = ap (λ n. put_numbers t (10 * n) (written layout may M w c)) (plus j)
    where
      plus : (j : ℕ) → j ≡ j + 0
      plus j = omega arith
  put_last (d ∷ cs) c j t = put_last cs c (suc j) (put_numbers t (10 * j) (written layout may M w d))
      ∙ ap (λ n. put_numbers (put_written layout may M w (suc j) cs (put_numbers t (10 * j) (written layout may M w d))) (10 * n) (written layout may M w c)) (shift j (length cs))
    where
      shift : (j n : ℕ) → suc j + n ≡ j + suc n
      shift j n = omega arith

  -- "the backward number unwritten"
  pub put_backward : (cs : List (List ℕ)) (j : ℕ) (t : List ℕ) → 10 * (j + length cs) ≤ length t → (r : ℕ)
      → get_or (put_written layout may M w j cs t) (10 * r + 9) 0 ≡ get_or t (10 * r + 9) 0
  put_backward [] j t h r = refl
  put_backward (c ∷ cs) j t h r =
      let q : 10 * j + length (written layout may M w c) ≤ length t = omega (arith, written_length c, h) in
      put_backward cs (suc j) (put_numbers t (10 * j) (written layout may M w c)) (omega (arith, put_numbers_length t (written layout may M w c) (10 * j) q, h)) r
      ∙ ⊎_elim (λ lt. put_numbers_before t (written layout may M w c) (10 * j) q (10 * r + 9) (omega (arith, lt)))
      (λ le.
      let e : 10 * r + 9 ≡ 10 * j + (length (written layout may M w c) + (10 * r - 10 * j)) = omega (arith, written_length c, le) in
      ap (λ n. get_or (put_numbers t (10 * j) (written layout may M w c)) n 0) e ∙ put_numbers_behind t (written layout may M w c) (10 * j) q (10 * r - 10 * j) ∙ ap (λ n. get_or t n 0) (sym e))
      (lt_or_le r j)

  -- what stands past the last record that is put
  pub put_past : (cs : List (List ℕ)) (j : ℕ) (t : List ℕ) → 10 * (j + length cs) ≤ length t → (x : ℕ) → 10 * (j + length cs) ≤ x
      → get_or (put_written layout may M w j cs t) x 0 ≡ get_or t x 0
  put_past [] j t h x le = refl
  put_past (c ∷ cs) j t h x le =
      let q : 10 * j + length (written layout may M w c) ≤ length t = omega (arith, written_length c, h) in
      let e : x ≡ 10 * j + (length (written layout may M w c) + (x - (10 * j + 9))) = omega (arith, written_length c, le) in
      put_past cs (suc j) (put_numbers t (10 * j) (written layout may M w c)) (omega (arith, put_numbers_length t (written layout may M w c) (10 * j) q, h)) x (omega (arith, le))
      ∙ (ap (λ n. get_or (put_numbers t (10 * j) (written layout may M w c)) n 0) e ∙ put_numbers_behind t (written layout may M w c) (10 * j) q (x - (10 * j + 9)) ∙ ap (λ n. get_or t n 0) (sym e))

-- ---- one event more

module _ (may : ℕ → ℕ → Bool) (distinct : (a b : ℕ) → T (may a b) → a ≢ b) (M : Automaton) (k : ℕ) (w : List ℕ) (e : ℕ) (letters : T (letters_below (λ a. a) k (w ++ (e ∷ [])))) where
  -- the number of prefixes with the event
  pub arrivals_more : length (arrivals may k (w ++ (e ∷ []))) ≡ length (arrivals may k w) + length (newcomers may k w e (arrivals may k w))
  arrivals_more = ap length (arrivals_last may k w e) ∙ length-append (arrivals may k w) (newcomers may k w e (arrivals may k w))

  before_letters : T (letters_below (λ a. a) k w)
  before_letters = (all_split (λ a. ltb a k) w (e ∷ []) letters).0

  -- record r of the old ones is what it was
  written_keep : (c : List ℕ) → Mem c (arrivals may k w) → written layout may M (w ++ (e ∷ [])) c ≡ written layout may M w c
  written_keep c m =
      let p = prefixes_at may (λ a. a) k w c before_letters ((arrivals_listed may k distinct w before_letters).into c m) in
      ap (λ f. packed layout c ++ (f ∷ [])) (forward_keep may distinct k w e letters M (at c) p.1)

  module _ (t : List ℕ) (h : Keeps layout may M k w t) where
    -- some of the new records put, in their order: the records are those of the first prefixes with the event
    pub put_holds : (cs rest : List (List ℕ)) → newcomers may k w e (arrivals may k w) ≡ cs ++ rest → 10 * (length (arrivals may k w) + length cs) ≤ length t
        → (r j : ℕ) → r < length (arrivals may k w) + length cs → j < 9
        → get_or (put_written layout may M (w ++ (e ∷ [])) (length (arrivals may k w)) cs t) (10 * r + j) 0 ≡ get_or (written layout may M (w ++ (e ∷ [])) (get_or (arrivals may k (w ++ (e ∷ []))) r [])) j 0
    put_holds cs rest q room r j lr lj = ⊎_elim
        (λ lt.
        let g : get_or (arrivals may k (w ++ (e ∷ []))) r [] ≡ get_or (arrivals may k w) r [] =
        ap (λ l. get_or l r []) (arrivals_last may k w e) ∙ get_or-append (arrivals may k w) (newcomers may k w e (arrivals may k w)) [] r lt in
        put_before may M (w ++ (e ∷ [])) cs (length (arrivals may k w)) t room (10 * r + j) (omega (arith, lt, lj))
        ∙ h.holds r j lt lj ∙ ap (λ v. get_or v j 0) (sym (written_keep (get_or (arrivals may k w) r []) (mem_getd (arrivals may k w) r [] lt)))
        ∙ ap (λ c. get_or (written layout may M (w ++ (e ∷ [])) c) j 0) (sym g))
        (λ le.
        let x = r - length (arrivals may k w) in
        let i : r ≡ length (arrivals may k w) + x = omega (arith, le) in
        let lx : x < length cs = omega (arith, lr, le) in
        let g : get_or (arrivals may k (w ++ (e ∷ []))) r [] ≡ get_or cs x [] =
        ap₂ (λ l n. get_or l n []) (arrivals_last may k w e) i ∙ get_or-append-add (arrivals may k w) (newcomers may k w e (arrivals may k w)) x []
        ∙ ap (λ l. get_or l x []) q ∙ get_or-append cs rest [] x lx in
        ap (λ n. get_or (put_written layout may M (w ++ (e ∷ [])) (length (arrivals may k w)) cs t) (10 * n + j) 0) i
        ∙ put_at may M (w ++ (e ∷ [])) cs (length (arrivals may k w)) t room x j lx lj
        ∙ ap (λ c. get_or (written layout may M (w ++ (e ∷ [])) c) j 0) (sym g))
        (lt_or_le r (length (arrivals may k w)))

    module _ (room : 10 * length (arrivals may k (w ++ (e ∷ []))) ≤ length t) where
      abbrev after : List ℕ
      after = put_written layout may M (w ++ (e ∷ [])) (length (arrivals may k w)) (newcomers may k w e (arrivals may k w)) t

      fit : 10 * (length (arrivals may k w) + length (newcomers may k w e (arrivals may k w))) ≤ length t
      fit = subst (λ n. 10 * n ≤ length t) arrivals_more room

      pub keeps_length : length after ≡ length t
      keeps_length = put_length may M (w ++ (e ∷ [])) (newcomers may k w e (arrivals may k w)) (length (arrivals may k w)) t fit

      pub keeps_next : Keeps layout may M k (w ++ (e ∷ [])) after
      keeps_next = record {
        fits = omega (arith, room, keeps_length);
        holds = λ r j lr lj. put_holds (newcomers may k w e (arrivals may k w)) [] (sym (append-nil (newcomers may k w e (arrivals may k w)))) fit r j (omega (arith, lr, arrivals_more)) (omega (arith, lj));
      }
