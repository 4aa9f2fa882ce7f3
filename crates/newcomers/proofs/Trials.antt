-- While the records are tried one by one: where the next new record stands, and that the old records stay.
use mathlib.Core.Path.{◌≡◌, refl, sym, ◌∙◌, ap, ap₂, subst}
use mathlib.Core.Bool.{Bool, true, false}
use mathlib.Core.List.Memᴰ
use mathlib.Core.List.{List, [], ◌∷◌, ◌++◌, map}
use Prim.Native.Nat.{ℕ, zero, suc, ◌+◌, ◌*◌, ◌-◌, ◌/◌, ◌<◌, ◌≤◌}
use native.Mathlib.Omega.{arith}
use lib.ListN.{drop, get_or, length, length-append, length-replicate, length-set, take}
use Rattle.profile.specs.Lists.{Mem, below, filter}
use Rattle.profile.specs.Traces.{independent}
use Rattle.profile.specs.Automata.{Profile}
use Rattle.profile.specs.Tables.{layout}
use Rattle.profile.proofs.Lists.{below_at}
use Rattle.counts.specs.Counts.{add_count}
use Rattle.records.specs.Records.{counts_at, last_at, put_record}
use Rattle.arrival.proofs.Tables.{put_numbers_before, put_numbers_length}
use Rattle.arrival.specs.Arrival.{put_numbers}
use Rattle.newcomers.specs.Newcomers.{PutIf, Tried, begin, joins_at?, led_from, try}
use Rattle.newcomers.proofs.Loops.{joining_more}

-- a record of ten numbers put in place of record j
module _ (t v : List ℕ) (j : ℕ) (ten : length v ≡ 10) (room : 10 * j + 10 ≤ length t) where
  as_numbers : put_record t j v ≡ put_numbers t (10 * j) v
  as_numbers = ap (λ n. take (10 * j) t ++ (v ++ drop (10 * j + n) t)) (sym ten)

  pub put_record_length : length (put_record t j v) ≡ length t
  put_record_length = ap length as_numbers ∙ put_numbers_length t v (10 * j) (omega (arith, ten, room))

  pub put_record_before : (x : ℕ) → x < 10 * j → get_or (put_record t j v) x 0 ≡ get_or t x 0
  put_record_before x lt = ap (λ u. get_or u x 0) as_numbers ∙ put_numbers_before t v (10 * j) (omega (arith, ten, room)) x lt

  map_agree : (f g : ℕ → ℕ) (l : List ℕ) → ((m : ℕ) → Mem m l → f m ≡ g m) → map f l ≡ map g l
  map_agree f g [] h = refl
  map_agree f g (m ∷ l) h = ap₂ ◌∷◌ (h m (Memᴰ.head refl)) (map_agree f g l (λ x q. h x (Memᴰ.tail q)))

  pub counts_before : (x : ℕ) → x < j → counts_at (put_record t j v) x ≡ counts_at t x
  counts_before x lt = map_agree (λ m. get_or (put_record t j v) (10 * x + m) 0) (λ m. get_or t (10 * x + m) 0) (below 8) (λ m q. put_record_before (10 * x + m) (omega (arith, below_at 8 m q, lt)))

-- the numbers of a new record
pub ten_numbers : (t : List ℕ) (r a f n : ℕ) → length (add_count layout (counts_at t r) a ++ (f ∷ n ∷ [])) ≡ 10
ten_numbers t r a f n = omega (arith, length-append (add_count layout (counts_at t r) a) (f ∷ n ∷ []), eight)
  where
    eight : length (add_count layout (counts_at t r) a) ≡ 8
    eight = length-set (counts_at t r) (a / 2) _

-- how many of the records before r the event joins
abbrev pub joined : Profile → ℕ → ℕ → List ℕ → ℕ → ℕ
joined p n a t₀ r = length (filter (λ x. joins_at? (independent p.masks) p.k (counts_at t₀ (n - 1)) a (counts_at t₀ x)) (below r))

-- no fewer of more records
pub joined_rises : (p : Profile) (n a : ℕ) (t₀ : List ℕ) (r d : ℕ) → joined p n a t₀ r ≤ joined p n a t₀ (r + d)
joined_rises p n a t₀ r zero = omega (arith, ap (joined p n a t₀) (zero_right r))
  where
    zero_right : (r : ℕ) → r + 0 ≡ r
    zero_right r = omega arith
joined_rises p n a t₀ r (suc d) =
    let q : ℕ → Bool = λ x. joins_at? (independent p.masks) p.k (counts_at t₀ (n - 1)) a (counts_at t₀ x) in
    omega (arith, joined_rises p n a t₀ r d, joining_more q (r + d) (q (r + d)) refl, ap (joined p n a t₀) (suc-right r d))
  where
    suc-right : (r d : ℕ) → r + suc d ≡ r + d + 1
    suc-right r d = omega arith

pub joined_upto : (p : Profile) (n a : ℕ) (t₀ : List ℕ) (r : ℕ) → r < n → joined p n a t₀ r ≤ joined p n a t₀ n
joined_upto p n a t₀ r lt = let z : r + (n - r) ≡ n = omega (arith, lt) in omega (arith, joined_rises p n a t₀ r (n - r), ap (joined p n a t₀) z)

pub record Standing (p : Profile) (n a : ℕ) (t₀ : List ℕ) (r i : ℕ) (t places : List ℕ) : Type 0 where
  pub tried : r ≤ n
  pub counted : i ≡ n + joined p n a t₀ r
  pub long : length t ≡ length t₀
  pub wide : length places ≡ 16
  pub old : (x : ℕ) → x < n → counts_at t x ≡ counts_at t₀ x

module _ (p : Profile) (n a : ℕ) (t₀ : List ℕ) (room : 10 * (n + joined p n a t₀ n) ≤ length t₀) where
  -- where the event joins record r, there is place for one more
  pub place_for : {r i : ℕ} {t places : List ℕ} → Standing p n a t₀ r i t places → r < n
      → joins_at? (independent p.masks) p.k (counts_at t₀ (n - 1)) a (counts_at t r) ≡ true → (10 * i + 10 ≤ length t)
      × (joined p n a t₀ r + 1 ≡ joined p n a t₀ (r + 1))
  place_for {r} {i} {t} s lt e =
      let q : ℕ → Bool = λ x. joins_at? (independent p.masks) p.k (counts_at t₀ (n - 1)) a (counts_at t₀ x) in
      let m = joining_more q r true (ap (joins_at? (independent p.masks) p.k (counts_at t₀ (n - 1)) a) (sym (s.old r lt)) ∙ e) in
      let z : r + 1 + (n - (r + 1)) ≡ n = omega (arith, lt) in
      (omega (arith, room, s.counted, s.long, m, joined_rises p n a t₀ (r + 1) (n - (r + 1)), ap (joined p n a t₀) z), m)

  step_standing : {r i j : ℕ} {t t' places places' : List ℕ} → Standing p n a t₀ r i t places → r < n → (b : Bool)
      → joins_at? (independent p.masks) p.k (counts_at t₀ (n - 1)) a (counts_at t r) ≡ b
      → PutIf p b n i r a t t' places places' j → Standing p n a t₀ (r + 1) j t' places'
  step_standing {r} {i} {j} {t} {t'} {places} {places'} s lt true e h =
      let f = place_for s lt e in
      let v = add_count layout (counts_at t r) a ++ (led_from p.k p.s p.moves t places' ∷ last_at t i ∷ []) in
      let k = ten_numbers t r a (led_from p.k p.s p.moves t places') (last_at t i) in
      record {
        tried = omega (arith, lt);
        counted = omega (arith, h.0, s.counted, f.1);
        long = ap length h.1.put ∙ put_record_length t v i k f.0 ∙ s.long;
        wide = h.1.moved.long ∙ s.wide;
        old = λ x l. ap (λ u. counts_at u x) h.1.put ∙ counts_before t v i k f.0 x (omega (arith, l, s.counted)) ∙ s.old x l;
      }
  step_standing {r} {i} {j} {t} {t'} {places} {places'} s lt false e h =
      let q : ℕ → Bool = λ x. joins_at? (independent p.masks) p.k (counts_at t₀ (n - 1)) a (counts_at t₀ x) in
      let m = joining_more q r false (ap (joins_at? (independent p.masks) p.k (counts_at t₀ (n - 1)) a) (sym (s.old r lt)) ∙ e) in
      record {
        tried = omega (arith, lt);
        counted = omega (arith, h.0, s.counted, m);
        long = ap length h.1 ∙ s.long;
        wide = ap length h.2 ∙ s.wide;
        old = λ x l. ap (λ u. counts_at u x) h.1 ∙ s.old x l;
      }

  pub standing : {r i : ℕ} {t places : List ℕ} → Tried p n a t₀ r i t places → Standing p n a t₀ r i t places
  standing begin = record { tried = omega arith; counted = omega arith; long = refl; wide = length-replicate {A = ℕ} 16 0; old = λ x l. refl }
  standing (try {r = r} {t = t} q lt h) =
      step_standing (standing q) lt (joins_at? (independent p.masks) p.k (counts_at t₀ (n - 1)) a (counts_at t r)) refl h

  -- one more record is tried, by the counts `last` of all events
  pub try_again : {r i j : ℕ} {t t' places places' last : List ℕ} → last ≡ counts_at t₀ (n - 1) → Tried p n a t₀ r i t places → r < n
      → PutIf p (joins_at? (independent p.masks) p.k last a (counts_at t r)) n i r a t t' places places' j → (length places' ≡ 16) × Tried p n a t₀ (r + 1) j t' places'
  try_again {r} {i} {j} {t} {t'} {places} {places'} e q lt h =
      let f : Tried p n a t₀ (r + 1) j t' places' = try q lt (subst (λ v. PutIf p (joins_at? (independent p.masks) p.k v a (counts_at t r)) n i r a t t' places places' j) e h) in
      ((standing f).wide, f)
