-- The table is built by a profile that 2, 4 and 6 do not refuse.
use mathlib.Core.Path.{◌≡◌, refl, sym, ◌∙◌, ap, subst}
use mathlib.Core.Bool.{Bool, true, false}
use mathlib.Core.List.Memᴰ
use mathlib.Core.List.{List, [], ◌∷◌, ◌++◌}
use mathlib.Core.Option.{none, some, none-ne-some, some-injective, some-ne-none}
use Prim.Native.Nat.{ℕ, zero, suc, ◌-◌, ◌*◌, ◌≤◌, ◌<◌}
use native.Mathlib.Omega.{arith}
use borrow.Author.Tests.{ltb-false}
use lib.Dec.{T, eqb, eqb_refl, ltb→lt}
use lib.ListN.{get_or, length, replicate, set, take}
use lib.Seq.{length-take-le}
use Rattle.profile.specs.Limits.{count_numbers, record_numbers}
use Rattle.profile.specs.Lists.{Mem, any}
use Rattle.profile.specs.Traces.{independent}
use Rattle.profile.specs.Prefixes.{by_total}
use Rattle.profile.specs.Tables.{capacity, layout}
use Rattle.profile.specs.Refusals.{bit_from, full_table, log_refusals, lowest, profile_out_of_range, profile_refusals, relation_refusals}
use Rattle.profile.specs.declared.Refusal.{Refusal}
use Rattle.profile.specs.declared.Refusal.TheVariants.{FullTable}
use Rattle.profile.proofs.Lists.{is_true, mem_place}
use Rattle.theory.proofs.Levels.{by_total_length}
use Rattle.theory.proofs.Refusals.{log_at, lowest_append, lowest_none, relation_at}
use Rattle.theory.proofs.Profiles.{distinct}
use Rattle.theory.proofs.Prefixes.{front_none, prefix_of_front}
use Rattle.grammars.proofs.Places.{place_of}
use Rattle.table.specs.Table.{build_refusals}
use Rattle.table.specs.Table.{Promise as Filling}
use Rattle.table.specs.declared.Filled.{Filled}
use Rattle.std.specs.Prelude.{Ok, Err}
use Rattle.bare.specs.Bare.{BuiltIs, prefixes_of}
use Rattle.bare.proofs.Silent.{bare_is, silent}

module _ (k : ℕ) (masks moves w : List ℕ) (none_moves : (i : ℕ) → get_or moves i 0 ≡ 0) (many : length moves ≡ k)
    (good : lowest (relation_refusals k masks) ≡ none) (log : lowest (log_refusals k w) ≡ none) where
  abbrev P : ℕ
  P = prefixes_of k masks w

  no_move : any (bit_from 1) moves ≡ false
  no_move = go moves (λ m i. let q = mem_place 0 i in sym q.2 ∙ none_moves q.0)
    where
      go : (l : List ℕ) → ((m : ℕ) → Mem m l → m ≡ 0) → any (bit_from 1) l ≡ false
      go [] h = refl
      go (m ∷ l) h = rw (h m (Memᴰ.head refl)) (go l (λ x i. h x (Memᴰ.tail i)))

  in_range : profile_out_of_range (silent k masks moves none_moves) ≡ false
  in_range =
      let e = (lowest_none (relation_refusals k masks)).0 good _ (Memᴰ.head refl) in
      let n : length moves ≡ 1 * k = omega arith in
      rw (e, n, is_true (eqb (1 * k) (1 * k)) (eqb_refl (1 * k))) refl

  profile_good : lowest (profile_refusals (silent k masks moves none_moves)) ≡ none
  profile_good =
      let m = (lowest_none (relation_refusals k masks)).0 good _ (Memᴰ.tail (Memᴰ.head refl)) in
      rw (in_range, m, no_move, lowest) refl

  behind : (n : ℕ) → lowest (build_refusals (silent k masks moves none_moves) w n) ≡ lowest ((full_table P n, FullTable) ∷ [])
  behind n = lowest_append (profile_refusals (silent k masks moves none_moves)) (log_refusals k w ++ ((full_table P n, FullTable) ∷ [])) profile_good
      ∙ lowest_append (log_refusals k w) ((full_table P n, FullTable) ∷ []) log

  some_prefix : 0 < length (by_total (independent masks) (λ a. a) k w)
  some_prefix =
      let d = distinct masks (relation_at k masks good).own in
      let m = place_of (independent masks) d k w (log_at k w log).letters (prefix_of_front (independent masks) (λ a. a) d (front_none (independent masks) w)) in
      omega (arith, m.1)

  pub built_full : (before after : List ℕ) (r : Refusal) → Filling (silent k masks moves none_moves) w before after (Err r) → BuiltIs k masks w before after (Err r)
  built_full before after r f = let g = go (full_table P (length before)) refl (f.refused ∙ behind (length before)) in (g.0, g.1, f.table.1)
    where
      go : (b : Bool) → full_table P (length before) ≡ b → some r ≡ lowest ((full_table P (length before), FullTable) ∷ []) → (r ≡ FullTable) × (capacity layout (length before) < P)
      go true e q = (let z : lowest ((full_table P (length before), FullTable) ∷ []) ≡ some FullTable = rw (e, lowest) in some-injective _ _ (q ∙ z), ltb→lt (capacity layout (length before)) P (subst T (sym e) tt))
      go false e q = let z : lowest ((full_table P (length before), FullTable) ∷ []) ≡ none = rw (e, lowest) in absurd (some-ne-none _ (q ∙ z))

  pub fits : (before after : List ℕ) (t : Filled) → Filling (silent k masks moves none_moves) w before after (Ok t) → P ≤ capacity layout (length before)
  fits before after t f = go (full_table P (length before)) refl (f.refused ∙ behind (length before))
    where
      go : (b : Bool) → full_table P (length before) ≡ b → none ≡ lowest ((full_table P (length before), FullTable) ∷ []) → P ≤ capacity layout (length before)
      go true e q = let z : lowest ((full_table P (length before), FullTable) ∷ []) ≡ some FullTable = rw (e, lowest) in absurd (none-ne-some _ (q ∙ z))
      go false e q = ltb-false (capacity layout (length before)) P e

  pub built_filled : (before after : List ℕ) (t : Filled) → Filling (silent k masks moves none_moves) w before after (Ok t) → BuiltIs k masks w before (set after count_numbers 0) (Ok t)
  built_filled before after t f = (
    record {
      prefixes = f.table.0;
      looks = f.table.1;
      table = ap (λ t. set t count_numbers 0) f.table.2 ∙ bare_is k masks moves none_moves w (log_at k w log).letters before some_prefix;
    },
    omega (arith, f.table.0, fits before after t f),
  )

  -- there is a record to be put
  pub room : (before after : List ℕ) (t : Filled) → Filling (silent k masks moves none_moves) w before after (Ok t) → record_numbers ≤ length before
  room before after t f =
      let a = fits before after t f in
      let b = by_total_length (independent masks) (λ a. a) k w (log_at k w log).letters in
      let c : 1 ≤ capacity layout (length before) = omega (arith, some_prefix) in
      omega arith

-- the part of an array of zeros
pub none_part : (n k i : ℕ) → ◌≡◌ {A = ℕ} (get_or (take k (replicate n 0)) i 0) 0
none_part n zero i = refl
none_part zero (suc k) i = refl
none_part (suc n) (suc k) zero = refl
none_part (suc n) (suc k) (suc i) = none_part n k i

pub part_long : (n k : ℕ) → k ≤ n → length {A = ℕ} (take (k - 0) (replicate n 0)) ≡ k
part_long n k h = length-take-le (k - 0) (replicate n 0) (omega (arith, length-replicate n)) ∙ minus-none k
  where
    minus-none : (k : ℕ) → k - 0 ≡ k
    minus-none k = omega arith

    length-replicate : (n : ℕ) → length {A = ℕ} (replicate n 0) ≡ n
    length-replicate zero = refl
    length-replicate (suc n) = ap suc (length-replicate n)
