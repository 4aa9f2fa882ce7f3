-- Paper 7: which records an event can be added to, read from the table, and where a prefix with one letter less stands.
use Rattle.std.specs.Prelude.{◌≡◌, Bool, true, false, ◌||◌, cond, List, [], ◌∷◌, ◌++◌, ℕ, suc, ◌+◌, ◌-◌, ◌*◌, ◌<◌, ◌≤◌, T, eqb, get_or, length, replicate}
use Rattle.profile.specs.Limits.{most_letters}
use Rattle.profile.specs.Lists.{all, below, equal?, filter}
use Rattle.profile.specs.Traces.{independent}
use Rattle.profile.specs.Automata.{Profile, forward_step, union}
use Rattle.profile.specs.Tables.{count_field, layout, record_length}
use Rattle.counts.specs.Counts.{add_count}
use Rattle.records.specs.Records.{counts_at, forward_at, last_at, put_record}

-- the count of letter b in numbers of counts
abbrev pub count_in : List ℕ → ℕ → ℕ
count_in c b = count_field layout c b

-- letter b does not keep an event of letter a after the counts `last` from being added to the counts c
abbrev pub allows? : (ℕ → ℕ → Bool) → List ℕ → ℕ → List ℕ → ℕ → Bool
allows? may last a c b = may b a || eqb (count_in c b) (count_in last b)

-- an event of letter a after the counts `last` can be added to the counts c: of each letter that a may not pass c has as many as `last`
abbrev pub joins_at? : (ℕ → ℕ → Bool) → ℕ → List ℕ → ℕ → List ℕ → Bool
joins_at? may k last a c = all (allows? may last a c) (below k)

-- the records, of the first n, to which it can be added; the last of them has all events
abbrev pub joining : (ℕ → ℕ → Bool) → ℕ → List ℕ → ℕ → ℕ → List ℕ
joining may k t n a = filter (λ j. joins_at? may k (counts_at t (n - 1)) a (counts_at t j)) (below n)

-- record j gives the counts c by one more of letter b
abbrev pub gives? : List ℕ → ℕ → List ℕ → ℕ → Bool
gives? t b c j = equal? (add_count layout (counts_at t j) b) c

-- what a search from `from` to before i tells: one more than a place that passes, or 0 where none does
pub data Scanned (pass : ℕ → Bool) (from i : ℕ) : ℕ → Type 0 where
  found : (j : ℕ) → from ≤ j → j < i → T (pass j) → Scanned pass from i (suc j)
  absent : ((j : ℕ) → from ≤ j → j < i → T (pass j) → ⊥) → Scanned pass from i 0

-- the place of c, which is to be record i, with one b less, among the records from `first` on; `before` is that of record i − 1
pub record PlaceTold (t : List ℕ) (first i b : ℕ) (c : List ℕ) (before r : ℕ) : Type 0 where
  pub rises : count_in (counts_at t (i - 1)) b < count_in c b → Scanned (gives? t b c) first i r
  pub falls : count_in c b < count_in (counts_at t (i - 1)) b → r ≡ 0
  pub ends : count_in (counts_at t (i - 1)) b ≡ count_in c b → before ≡ 0 → r ≡ 0
  pub goes : count_in (counts_at t (i - 1)) b ≡ count_in c b → 0 < before → Scanned (gives? t b c) before i r

-- a place for each letter below k, none past a table of n numbers
pub record Inside (k n : ℕ) (places : List ℕ) : Type 0 where
  pub long : k ≤ length places
  pub low : (b : ℕ) → b < k → record_length layout * get_or places b 0 ≤ n

-- the states to which letter b leads from the record before the place; none at place 0
abbrev pub led_at : ℕ → ℕ → List ℕ → List ℕ → ℕ → ℕ → ℕ
led_at k s moves t at b = cond (eqb at 0) 0 (forward_step k s moves (forward_at t (at - 1)) b)

abbrev pub led_from : ℕ → ℕ → List ℕ → List ℕ → List ℕ → ℕ
led_from k s moves t places = union (λ b. led_at k s moves t (get_or places b 0) b) (below k)

-- the place of letter b: behind record r for the letter of the event, none for the first new record, and else as `PlaceTold` has it
pub record PlaceFor (t : List ℕ) (first i r a b : ℕ) (c : List ℕ) (before v : ℕ) : Type 0 where
  pub own : b ≡ a → v ≡ r + 1
  pub begins : (b ≡ a → ⊥) → i ≡ first → v ≡ 0
  pub other : (b ≡ a → ⊥) → (i ≡ first → ⊥) → PlaceTold t first i b c before v
  pub low : v ≤ i

-- the places of record i, from those of record i − 1
pub record Moved (t : List ℕ) (first i r a k : ℕ) (c places places' : List ℕ) : Type 0 where
  pub long : length places' ≡ length places
  pub each : (b : ℕ) → b < k → PlaceFor t first i r a b c (get_or places b 0) (get_or places' b 0)

-- record r with one more of letter a is put as record i
pub record Put (p : Profile) (first i r a : ℕ) (t t' places places' : List ℕ) : Type 0 where
  pub moved : Moved t first i r a p.k (add_count layout (counts_at t r) a) places places'
  pub put : t' ≡ put_record t i (add_count layout (counts_at t r) a ++ (led_from p.k p.s p.moves t places' ∷ last_at t i ∷ []))

-- the same, where the event can be added to record r; j is the place behind the last record then
abbrev pub PutIf : Profile → Bool → ℕ → ℕ → ℕ → ℕ → List ℕ → List ℕ → List ℕ → List ℕ → ℕ → Type 0
PutIf p true first i r a t t' places places' j = (j ≡ i + 1) × Put p first i r a t t' places places'
PutIf p false first i r a t t' places places' j = (j ≡ i) × (t' ≡ t) × (places' ≡ places)

-- the first r records are tried, i is the place behind the last record, and t₀ has become t
pub data Tried (p : Profile) (n a : ℕ) (t₀ : List ℕ) : ℕ → ℕ → List ℕ → List ℕ → Type 0 where
  begin : Tried p n a t₀ 0 n t₀ (replicate most_letters 0)
  try : {r i j : ℕ} {t t' places places' : List ℕ} → Tried p n a t₀ r i t places → r < n
      → PutIf p (joins_at? (independent p.masks) p.k (counts_at t₀ (n - 1)) a (counts_at t r)) n i r a t t' places places' j → Tried p n a t₀ (r + 1) j t' places'

pub record Brought (p : Profile) (n a : ℕ) (t₀ t : List ℕ) : Type 0 where
  pub behind : ℕ
  pub places : List ℕ
  pub tried : Tried p n a t₀ n behind t places
