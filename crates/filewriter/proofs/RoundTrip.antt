-- What the writer puts, the reader reads: no refusal applies to the file, and its numbers, masks, moves and log are those that were written.
use borrow.Author.Tests.{le-ltb}
use mathlib.Core.Path.{◌≡◌, refl, sym, ◌∙◌, ap, ap₂}
use mathlib.Core.Bool.{Bool, false, not, ◌||◌}
use mathlib.Core.Logic.{⊎_elim}
use mathlib.Core.List.Memᴰ
use mathlib.Core.List.{List, [], ◌∷◌, ◌++◌, map, append_assoc}
use mathlib.Core.Option.{none}
use Prim.Native.Nat.{ℕ, zero, suc, ◌+◌, ◌*◌, ◌^◌, ◌≤◌, ◌<◌}
use native.Mathlib.Nat.{mul-le-mul, zero-add}
use native.Mathlib.Omega.{arith}
use lib.Dec.{eqb, nleb→lt}
use lib.ListN.{length, get_or, take, drop, length-append}
use lib.Pow.{pow_mono}
use lib.Seq.{drop-append-add, drop_at, drop-drop, ext_get_or, get_or-drop, take_at}
use Rattle.profile.specs.Limits.{finals_byte, letters_byte, log_byte, masks_byte, most_letters, most_moves, moves_byte, start_byte, states_byte, trailer_length}
use Rattle.profile.specs.Automata.{Profile, profile_of}
use Rattle.profile.specs.Lists.{Mem, any, below, flat_map}
use Rattle.profile.specs.Refusals.{bit_from, log_refusals, longest, lowest, profile_out_of_range, profile_refusals, short_buffer}
use Rattle.profile.specs.Tables.{pack}
use Rattle.profile.specs.Traces.{independent}
use Rattle.profile.specs.declared.Refusal.{Refusal}
use Rattle.profile.specs.declared.Refusal.TheVariants.{Distance, OutOfRange, ShortBuffer, ShortFile}
use Rattle.profile.specs.declared.Shape.{Shape}
use Rattle.theory.proofs.Counting.{at_map, length_range}
use Rattle.profile.proofs.Lists.{any_of, below_of, flat_map_length, mem_getd, mem_place, or_left, test}
use Rattle.theory.proofs.Refusals.{GoodProfile, log_at, lowest_none, profile_at}
use Rattle.logfile.specs.Files.{content_refusals, distance, distance_out_of_range, field, file_log, file_masks, file_moves, file_out_of_range, file_profile, file_refusals, file_shape, log_length, log_part_of, number, numbers_from, outside, read_refusal, section, short_file, trailer, unless, word}
use Rattle.filewriter.specs.Written.{file_bytes, low_bytes, masks_distance, moves_distance, shape, trailer_bytes, write_refusal}
use Rattle.logfile.proofs.Answers.{buffers_long}
use Rattle.filewriter.proofs.Answers.{file_length}
use Rattle.filewriter.proofs.Bytes.{low_length, pack_low}
use Rattle.logfile.proofs.Sections.{content_log}

-- ---- numbers of b bytes each, one behind the other

-- the bytes of the number at place i
bytes_at : (b : ℕ) (l y : List ℕ) (i : ℕ) → i < length l → take b (drop (b * i) (flat_map (low_bytes b) l ++ y)) ≡ low_bytes b (get_or l i 0)
bytes_at b [] y i h = absurd (omega arith)
bytes_at b (a ∷ l) y zero h =
    let r = flat_map (low_bytes b) l in
    let e : b * 0 ≡ 0 = omega arith in
    ap₂ (λ n m. take b (drop n m)) e (append_assoc (low_bytes b a) r y) ∙ take_at (low_bytes b a) (r ++ y) b (low_length b a)
bytes_at b (a ∷ l) y (suc i) h =
    let r = flat_map (low_bytes b) l in
    let e : b * suc i ≡ length (low_bytes b a) + b * i = omega (arith, low_length b a) in
    ap₂ (λ n m. take b (drop n m)) e (append_assoc (low_bytes b a) r y) ∙ ap (take b) (drop-append-add (low_bytes b a) (r ++ y) (b * i)) ∙ bytes_at b l y i (omega arith)

-- they are read back
numbers_back : (b : ℕ) (x l y : List ℕ) → ((m : ℕ) → Mem m l → m < 2 ^ (8 * b))
    → numbers_from b (x ++ (flat_map (low_bytes b) l ++ y)) (length x) (length l) ≡ l
numbers_back b x l y small = ext_get_or 0 (map g (below (length l))) l (length_range g (length l) 0)
    (λ i h. let lt : i < length l = omega (arith, length_range g (length l) 0) in
    at_map g (length l) 0 i lt ∙ ap g (zero-add i) ∙ ap (λ r. pack 8 (take b r)) (drop-append-add x (flat_map (low_bytes b) l ++ y) (b * i))
    ∙ ap (pack 8) (bytes_at b l y i lt) ∙ pack_low b (get_or l i 0) (small (get_or l i 0) (mem_getd l i 0 lt)))
  where
    g : ℕ → ℕ
    g j = number b (x ++ (flat_map (low_bytes b) l ++ y)) (length x + b * j)

-- ---- the trailer of a file of four parts

module _ (m v w t : List ℕ) (sixteen : length t ≡ trailer_length) where
  trailer_eq : trailer (m ++ (v ++ (w ++ t))) ≡ length m + (length v + length w)
  trailer_eq = omega (arith, length-append m (v ++ (w ++ t)), length-append v (w ++ t), length-append w t)

  drop_trailer : drop (trailer (m ++ (v ++ (w ++ t)))) (m ++ (v ++ (w ++ t))) ≡ t
  drop_trailer =
      let f = m ++ (v ++ (w ++ t)) in
      let e : f ≡ (m ++ (v ++ w)) ++ t = sym (append_assoc m (v ++ w) t ∙ ap (λ r. m ++ r) (append_assoc v w t)) in
      ap (drop (trailer f)) e ∙ drop_at (m ++ (v ++ w)) t (trailer f) (length-append m (v ++ w) ∙ ap (λ n. length m + n) (length-append v w) ∙ sym trailer_eq)

  field_eq : (i : ℕ) → field (m ++ (v ++ (w ++ t))) i ≡ get_or t i 0
  field_eq i = let f = m ++ (v ++ (w ++ t)) in sym (get_or-drop (trailer f) f i 0) ∙ ap (λ r. get_or r i 0) drop_trailer

  number_eq : (b i : ℕ) → number b (m ++ (v ++ (w ++ t))) (trailer (m ++ (v ++ (w ++ t))) + i) ≡ number b t i
  number_eq b i =
      let f = m ++ (v ++ (w ++ t)) in
      ap (λ r. pack 8 (take b r)) (sym (drop-drop i (trailer f) f) ∙ ap (drop i) drop_trailer)

-- ---- what refusals 4 and 6 bound

-- a mask without a bit from k on is below 2 ^ k, so it fits 16 bits
masks_small : (p : Profile) → lowest (profile_refusals p) ≡ none → p.k ≤ most_letters → (m : ℕ) → Mem m p.masks → m < 2 ^ 16
masks_small p e le m i =
    let q = mem_place 0 i in
    let bad : ℕ → Bool = λ j. bit_from p.k (get_or p.masks j 0) || independent p.masks j j in
    let none-bad : any bad (below (length p.masks)) ≡ false = (lowest_none (profile_refusals p)).0 e _ (Memᴰ.tail (Memᴰ.head refl)) in
    let lt : get_or p.masks q.0 0 < 2 ^ p.k = ⊎_elim
    (λ t. absurd (rw none-bad at (any_of bad (below_of (length p.masks) q.0 q.1) (or_left (bit_from p.k (get_or p.masks q.0 0)) (independent p.masks q.0 q.0) t))))
    (nleb→lt (2 ^ p.k) (get_or p.masks q.0 0))
    (test (bit_from p.k (get_or p.masks q.0 0))) in
    omega (arith, lt, q.2, pow_mono le)

-- ---- the round trip

pub record RoundTrip (p : Profile) (w : List ℕ) : Type 0 where
  pub none_applies : (c : Bool × Refusal) → Mem c (file_refusals (file_bytes p w)) → c.0 ≡ false
  pub read : (a b : ℕ) → p.k ≤ a → p.s * p.k ≤ b → read_refusal (file_bytes p w) a b ≡ none
  pub numbers : file_shape (file_bytes p w) ≡ shape p
  pub n : log_length (file_bytes p w) ≡ length w
  pub masks : file_masks (file_bytes p w) ≡ p.masks
  pub moves : file_moves (file_bytes p w) ≡ p.moves
  pub log : file_log (file_bytes p w) ≡ w
  pub part : log_part_of (file_bytes p w) ≡ w

module _ (p : Profile) (w : List ℕ) (good : lowest (profile_refusals p) ≡ none) (good_log : lowest (log_refusals p.k w) ≡ none) where
  abbrev f : List ℕ
  f = file_bytes p w

  abbrev m : List ℕ
  m = flat_map (low_bytes 2) p.masks

  abbrev v : List ℕ
  v = flat_map (low_bytes 4) p.moves

  abbrev g : GoodProfile p
  g = profile_at p good

  -- the sizes: each is small
  sizes : (length m ≡ 2 * p.k) × (length v ≡ 4 * (p.s * p.k)) × (p.k ≤ most_letters) × (p.s * p.k ≤ most_moves) × (length w ≤ longest)
  sizes =
      let long = g.relation.long in
      let moves_long = g.long in
      let most = g.relation.most in
      let fl = flat_map_length (low_bytes 2) 2 (low_length 2) p.masks in
      let fv = flat_map_length (low_bytes 4) 4 (low_length 4) p.moves in
      let short = (log_at p.k w good_log).short in
      (omega arith, omega arith, most, omega (arith, mul-le-mul g.states.1 most), short)

  trailer_is : trailer f ≡ masks_distance p w
  trailer_is = let z = sizes in omega (arith, trailer_eq m v w (trailer_bytes p w) refl)

  -- what stands in the trailer
  field_is : (i : ℕ) → field f i ≡ get_or (trailer_bytes p w) i 0
  field_is = field_eq m v w (trailer_bytes p w) refl

  number_is : (b i : ℕ) → number b f (trailer f + i) ≡ number b (trailer_bytes p w) i
  number_is = number_eq m v w (trailer_bytes p w) refl

  k_is : field f letters_byte ≡ p.k
  k_is = field_is 0

  area_is : field f states_byte * field f letters_byte ≡ p.s * p.k
  area_is = ap₂ (λ s k. s * k) (field_is 1) k_is

  to_masks : distance f masks_byte ≡ masks_distance p w
  to_masks = let z = sizes in number_is 2 4 ∙ pack_low 2 (masks_distance p w) (omega arith)

  to_moves : distance f moves_byte ≡ moves_distance p w
  to_moves = let z = sizes in number_is 2 6 ∙ pack_low 2 (moves_distance p w) (omega arith)

  to_log : distance f log_byte ≡ length w
  to_log = let z = sizes in number_is 2 8 ∙ pack_low 2 (length w) (omega arith)

  n_is : log_length f ≡ length w
  n_is = let z = sizes in omega (arith, field_is 3, field_is 10)

  finals_is : word f (trailer f + finals_byte) ≡ p.finals
  finals_is = number_is 4 12 ∙ pack_low 4 p.finals (omega (arith, g.finals_inside, pow_mono g.states.1))

  -- the sections stand one behind the other
  at_masks : section f masks_byte ≡ 0
  at_masks = omega (arith, trailer_is, to_masks)

  at_moves : section f moves_byte ≡ length m
  at_moves = let z = sizes in omega (arith, trailer_is, to_moves)

  at_log : section f log_byte ≡ length (m ++ v)
  at_log = let z = sizes in omega (arith, trailer_is, to_log, length-append m v)

  masks_are : file_masks f ≡ p.masks
  masks_are =
      ap₂ (numbers_from 2 f) at_masks (k_is ∙ sym g.relation.long)
      ∙ numbers_back 2 [] p.masks (v ++ (w ++ trailer_bytes p w)) (masks_small p good g.relation.most)

  moves_are : file_moves f ≡ p.moves
  moves_are =
      ap₂ (numbers_from 4 f) at_moves (area_is ∙ sym g.long)
      ∙ numbers_back 4 m p.moves (w ++ trailer_bytes p w) (λ x i. omega (arith, g.moves_inside x i, pow_mono g.states.1))

  log_is : file_log f ≡ w
  log_is =
      ap₂ (λ n l. take n l) n_is (ap₂ drop at_log (sym (append_assoc m v (w ++ trailer_bytes p w))) ∙ drop_at (m ++ v) (w ++ trailer_bytes p w) (length (m ++ v)) refl)
      ∙ take_at w (trailer_bytes p w) (length w) refl

  shape_is : file_shape f ≡ shape p
  shape_is = ap₂ (λ k s. numbered k s (field f start_byte) (word f (trailer f + finals_byte))) k_is (field_is 1) ∙ ap₂ (numbered p.k p.s) (field_is 2) finals_is
    where
      numbered : ℕ → ℕ → ℕ → ℕ → Shape
      numbered k s start finals = record { k = k; s = s; start = start; finals = finals }

  profile_is : file_profile f ≡ p
  profile_is = ap (λ h. profile_of h (file_masks f) (file_moves f)) shape_is ∙ ap₂ (profile_of (shape p)) masks_are moves_are

  in_range : file_out_of_range f ≡ false
  in_range = ap₂ (λ q n. profile_out_of_range q || not (eqb n 0)) profile_is (field_is 11)
      ∙ ap (λ t. t || false) ((lowest_none (profile_refusals p)).0 good _ (Memᴰ.head refl))

  -- a distance in its range
  within : (i size : ℕ) → size ≤ distance f i → distance f i ≤ trailer f → outside f i size ≡ false
  within i size h k = ap₂ (λ t u. t || u) (le-ltb (distance f i) size h) (le-ltb (trailer f) (distance f i) k)

  distances_in : distance_out_of_range f ≡ false
  distances_in =
      let z = sizes in
      let e = trailer_is in
      let a = within 4 (2 * field f letters_byte) (omega (arith, to_masks, k_is)) (omega (arith, to_masks)) in
      let b = within 6 (4 * (field f states_byte * field f letters_byte)) (omega (arith, to_moves, area_is)) (omega (arith, to_moves)) in
      let c = within 8 (log_length f) (omega (arith, to_log, n_is)) (omega (arith, to_log)) in
      ap₂ (λ t u. t || u) a (ap₂ (λ t u. t || u) b c)

  none_applies : lowest (file_refusals f) ≡ none
  none_applies =
      let long : short_file f ≡ false = le-ltb (length f) trailer_length (omega (arith, file_length p w)) in
      let l = content_refusals (file_profile f) (file_log f) in
      ap (λ t. lowest ((t, ShortFile) ∷ (file_out_of_range f, OutOfRange) ∷ (distance_out_of_range f, Distance) ∷ l)) long
      ∙ ap₂ (λ t u. lowest ((t, OutOfRange) ∷ (u, Distance) ∷ l)) in_range distances_in
      ∙ content_log f (file_log f) in_range (ap (λ q. lowest (profile_refusals q)) profile_is ∙ good)
      ∙ ap₂ (λ k u. lowest (log_refusals k u)) k_is log_is ∙ good_log

-- a call of the writer that nothing refuses
pub round_trip : (p : Profile) (w : List ℕ) (n : ℕ) → write_refusal p w n ≡ none → RoundTrip p w
round_trip p w n e =
    let h = (lowest_none (profile_refusals p ++ (log_refusals p.k w ++ last))).0 e in
    let good = (lowest_none (profile_refusals p)).1 (λ c i. h c (Memᴰ.append_left (log_refusals p.k w ++ last) i)) in
    let good_log = (lowest_none (log_refusals p.k w)).1 (λ c i. h c (Memᴰ.append_right (profile_refusals p) (Memᴰ.append_left last i))) in
    let applies = none_applies p w good good_log in
    record {
      none_applies = (lowest_none (file_refusals (file_bytes p w))).0 applies;
      read = λ a b i j. buffers_long (file_bytes p w) a b applies (omega (arith, k_is p w good good_log)) (omega (arith, area_is p w good good_log));
      numbers = shape_is p w good good_log;
      n = n_is p w good good_log;
      masks = masks_are p w good good_log;
      moves = moves_are p w good good_log;
      log = log_is p w good good_log;
      part = ap (λ o. unless o (file_log (file_bytes p w)) []) applies ∙ log_is p w good good_log;
    }
  where
    last : List (Bool × Refusal)
    last = (short_buffer n (file_bytes p w), ShortBuffer) ∷ []
