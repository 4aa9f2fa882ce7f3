-- The places that the search gives are those of the prefixes with one letter less, and so the forward set of a new record is that of its prefix.
use mathlib.Core.Path.{◌≡◌, refl, sym, ◌∙◌, ap, ap₂, subst}
use mathlib.Core.Bool.{Bool, not}
use mathlib.Core.Logic.{⊎_elim}
use mathlib.Core.List.Memᴰ
use mathlib.Core.List.{List, [], ◌∷◌, ◌++◌}
use Prim.Native.Nat.{ℕ, suc, ◌+◌, ◌*◌, ◌-◌, ◌<◌, ◌≤◌}
use native.Mathlib.Omega.{arith}
use lib.Bits.{bit_or}
use lib.Dec.{T, T_not}
use lib.ListN.{get_or, length}
use Rattle.profile.specs.Lists.{Mem, below, filter}
use Rattle.profile.specs.Traces.{independent}
use Rattle.profile.specs.Automata.{Profile, automaton, forward_step, union}
use Rattle.profile.specs.Prefixes.{IsPrefix, at, forward, less, one}
use Rattle.profile.specs.Tables.{layout, packed}
use Rattle.profile.proofs.Lists.{below_at, filter_no, filter_yes, lt_or_le, mem_getd, mem_place, test}
use Rattle.theory.proofs.Automata.{forward_eq}
use Rattle.theory.proofs.Counting.{prefixes_of}
use Rattle.theory.proofs.Levels.{at_bump, debump}
use Rattle.theory.proofs.Prefixes.{one_cases, one_same, removable_at, removable_of, removable?}
use Rattle.theory.proofs.Profiles.{distinct, lawful}
use Rattle.theory.proofs.Refusals.{GoodLog, GoodProfile}
use Rattle.records.specs.Records.{counts_at, forward_at}
use Rattle.arrival.specs.Arrival.{arrivals, newcomers, with_one, written}
use Rattle.arrival.proofs.Arrivals.{arrivals_listed}
use Rattle.arrival.proofs.Places.{Right, less_before, less_between, less_kept, less_new, new_at, nowhere, old_at, there}
use Rattle.arrival.proofs.Tables.{arrivals_more}
use Rattle.newcomers.specs.Newcomers.{PlaceFor, PlaceTold, Scanned, absent, count_in, found, gives?, led_at, led_from}
use Rattle.newcomers.proofs.Loops.{led_some}
use Rattle.taking.proofs.Reading.{counts_of, field_in, forward_of, gives_at, gives_of, prefix_in}

-- a union over those that pass a test, where the others give nothing
union_passed : (f g : ℕ → ℕ) (p : ℕ → Bool) (l : List ℕ) → ((x : ℕ) → Mem x l → T (p x) → g x ≡ f x) → ((x : ℕ) → Mem x l → T (not (p x)) → g x ≡ 0) → union g l ≡ union f (filter p l)
union_passed f g p [] h n = refl
union_passed f g p (x ∷ l) h n =
    let ih = union_passed f g p l (λ y m. h y (Memᴰ.tail m)) (λ y m. n y (Memᴰ.tail m)) in
    ⊎_elim
    (λ t. ap₂ bit_or (h x (Memᴰ.head refl) t) ih ∙ sym (ap (union f) (filter_yes p x l t)))
    (λ t. ap₂ bit_or (n x (Memᴰ.head refl) t) ih ∙ sym (ap (union f) (filter_no p x l t)))
    (test (p x))

-- what is told, by its number
none_told : {l : List (List ℕ)} {b i v : ℕ} → Right l b i v → v ≡ 0 → (j : ℕ) → j < length l → with_one (get_or l j []) b ≡ get_or l i [] → ⊥
none_told (there j lt e) z = absurd (omega (arith, z))
none_told (nowhere f) z = f

some_told : {l : List (List ℕ)} {b i v : ℕ} → Right l b i v → 0 < v → (j : ℕ) × (v ≡ suc j) × (j < i) × (with_one (get_or l j []) b ≡ get_or l i [])
some_told (there j lt e) o = (j, refl, lt, e)
some_told (nowhere f) o = absurd (omega (arith, o))

module _ (p : Profile) (g : GoodProfile p) (w : List ℕ) (a : ℕ) (log : GoodLog p.k (w ++ (a ∷ []))) where
  abbrev W : List ℕ
  W = w ++ (a ∷ [])

  abbrev may : ℕ → ℕ → Bool
  may = independent p.masks

  abbrev old : List (List ℕ)
  old = arrivals may p.k w

  abbrev L : List (List ℕ)
  L = arrivals may p.k W

  apart : (x y : ℕ) → T (may x y) → x ≡ y → ⊥
  apart = distinct p.masks g.relation.own

  -- the first i records are put, and the next is that of a new prefix
  module _ (t : List ℕ) (i : ℕ) (from : length old ≤ i) (upto : i < length L)
      (holds : (x j : ℕ) → x < i → j < 9 → get_or t (10 * x + j) 0 ≡ get_or (written layout may (automaton p) W (get_or L x [])) j 0) where
    abbrev c : List ℕ
    c = get_or L i []

    -- it is new
    fresh : (x : ℕ) × (x < length (newcomers may p.k w a old)) × (c ≡ get_or (newcomers may p.k w a old) x [])
    fresh =
        let x = i - length old in
        let e : i ≡ length old + x = omega (arith, from) in
        let lx : x < length (newcomers may p.k w a old) = omega (arith, upto, e, arrivals_more may apart (automaton p) p.k w a log.letters) in
        (x, lx, ap (λ n. get_or L n []) e ∙ new_at may apart p.k w a log.letters x)

    -- what gives it by another letter is new
    gives_new : (b j : ℕ) → b < p.k → (b ≡ a → ⊥) → with_one (get_or L j []) b ≡ c → length old ≤ j
    gives_new b j lb ne q = ⊎_elim
        (λ lt. absurd (less_new may apart p.k w a log.letters b fresh.0 j lb ne fresh.1 lt
        (ap (λ v. with_one v b) (sym (old_at may apart p.k w a log.letters j lt)) ∙ q ∙ fresh.2)))
        (λ le. le) (lt_or_le j (length old))

    -- a search that begins no further than the place
    scanned : {b start v : ℕ} → b < p.k → Scanned (gives? t b (packed layout c)) start i v → ((j : ℕ) → j < i → with_one (get_or L j []) b ≡ c → start ≤ j) → Right L b i v
    scanned {b} lb (found j l u h) q = there j u (gives_at p g W log t i (omega (arith, upto)) holds b i j lb upto u h)
    scanned {b} lb (absent f) q = nowhere (λ j lj e.
        let u = less_before may apart p.k W log.letters b i j lb upto lj e in
        f j (q j u e) u (gives_of p g W log t i (omega (arith, upto)) holds b i j lb upto u e))

    module _ (b before v : ℕ) (lb : b < p.k) (ne : b ≡ a → ⊥) (behind : length old < i) (right : Right L b (i - 1) before) where
      field : count_in (packed layout c) b ≡ at c b
      field = field_in p g W log c (mem_getd L i [] upto) b lb

      field_before : count_in (counts_at t (i - 1)) b ≡ at (get_or L (i - 1) []) b
      field_before = ap (λ u. count_in u b) (counts_of p g W log t i (omega (arith, upto)) holds (i - 1) (omega (arith, behind)))
          ∙ field_in p g W log (get_or L (i - 1) []) (mem_getd L (i - 1) [] (omega (arith, upto))) b lb

      -- one that gives c stands no further than record i − 1
      between : (j : ℕ) → j < length L → with_one (get_or L j []) b ≡ c
          → (at (get_or L (i - 1) []) b ≤ at c b) × (at (get_or L (i - 1) []) b ≡ at c b → (y : ℕ) × (y < length L) × (with_one (get_or L y []) b ≡ get_or L (i - 1) []))
      between j lj e = less_between may apart p.k W log.letters b (i - 1) j i lb upto (omega (arith, less_before may apart p.k W log.letters b i j lb upto lj e)) (omega (arith, behind)) e

      told_right : PlaceTold t (length old) i b (packed layout c) before v → Right L b i v
      told_right h = ⊎_elim
          (λ lt. scanned lb (h.rises (omega (arith, lt, field, field_before))) (λ j u e. gives_new b j lb ne e))
          (λ le. ⊎_elim
          (λ lt. subst (Right L b i) (sym (h.falls (omega (arith, lt, field, field_before)))) (nowhere (λ j lj e. omega (arith, (between j lj e).0, lt))))
          (λ ge.
          let s : at (get_or L (i - 1) []) b ≡ at c b = omega (arith, le, ge) in
          let q : count_in (counts_at t (i - 1)) b ≡ count_in (packed layout c) b = field_before ∙ s ∙ sym field in
          ⊎_elim
          (λ o.
          let n = some_told right o in
          scanned lb (h.goes q o) (λ j u e. omega (arith, n.1, less_kept may apart p.k W log.letters b (i - 1) i n.0 j lb (omega (arith, behind)) upto (omega (arith, n.2, upto)) (omega (arith, u, upto)) n.3 e s)))
          (λ o.
          let z : before ≡ 0 = omega (arith, o) in
          subst (Right L b i) (sym (h.ends q z)) (nowhere (λ j lj e. let y = (between j lj e).1 s in none_told right z y.0 y.1 y.2)))
          (lt_or_le 0 before))
          (lt_or_le (at c b) (at (get_or L (i - 1) []) b)))
          (lt_or_le (at (get_or L (i - 1) []) b) (at c b))

    -- the place of a letter is right, where those of record i − 1 are
    pub place_right : {r b before v : ℕ} → b < p.k → r < length old → with_one (get_or old r []) a ≡ c → (length old < i → Right L b (i - 1) before)
        → PlaceFor t (length old) i r a b (packed layout c) before v → Right L b i v
    place_right {r} {b} {before} {v} lb lr q right h = ⊎_elim
        (λ e.
        let z : v ≡ suc r = omega (arith, h.own e) in
        subst (Right L b i) (sym z) (there r (omega (arith, lr, from)) (ap₂ with_one (old_at may apart p.k w a log.letters r lr) e ∙ q)))
        (λ o.
        let ne : b ≡ a → ⊥ = λ e. omega (arith, o, one_same a, ap (λ x. one x a) e) in
        ⊎_elim
        (λ lt. told_right b before v lb ne lt (right lt) (h.other ne (λ e. omega (arith, e, lt))))
        (λ le.
        let e : i ≡ length old = omega (arith, le, from) in
        subst (Right L b i) (sym (h.begins ne e)) (nowhere (λ j lj q. omega (arith, gives_new b j lb ne q, e, less_before may apart p.k W log.letters b i j lb upto lj q))))
        (lt_or_le (length old) i))
        (one_cases b a)

    -- so the forward set that they lead to is that of the prefix
    pub forward_right : (places : List ℕ) → ((b : ℕ) → b < p.k → Right L b i (get_or places b 0)) → (at c ≡ (λ x. 0) → ⊥)
        → led_from p.k p.s p.moves t places ≡ forward may (λ x. x) (automaton p) W (at c)
    forward_right places right some = union_passed itself (λ b. led_at p.k p.s p.moves t (get_or places b 0) b) passed (below p.k)
        (λ b m y. yes b (below_at p.k b m) (right b (below_at p.k b m)) y) (λ b m n. no_one b (below_at p.k b m) (right b (below_at p.k b m)) n)
        ∙ sym (forward_eq may (λ x. x) (automaton p) (lawful p) W apart p.k log.letters (at c) (prefix_in p g W log c (mem_getd L i [] upto)).1 some)
      where
        passed : ℕ → Bool
        passed = removable? may (λ x. x) W (at c)

        itself : ℕ → ℕ
        itself x = (automaton p).step (forward may (λ x. x) (automaton p) W (less (at c) x)) x

        removed : (b j : ℕ) → b < p.k → j < i → with_one (get_or L j []) b ≡ c → T (passed b) × (less (at c) b ≡ at (get_or L j []))
        removed b j lb lj e =
            let q = prefix_in p g W log (get_or L j []) (mem_getd L j [] (omega (arith, lj, upto))) in
            removable_of may (λ x. x) apart (at c) b q.1 (ap at (sym e) ∙ at_bump (get_or L j []) b (omega (arith, q.0, lb)))

        yes : (b : ℕ) → b < p.k → {v : ℕ} → Right L b i v → T (passed b) → led_at p.k p.s p.moves t v b ≡ itself b
        yes b lb {v} x y = ⊎_elim
            (λ o.
            let n = some_told x o in
            let z : v - 1 ≡ n.0 = omega (arith, n.1) in
            sym (led_some {at = v} (forward_step p.k p.s p.moves (forward_at t (v - 1)) b) (λ e. omega (arith, e, o)) refl)
            ∙ ap (λ S. forward_step p.k p.s p.moves S b)
            (ap (forward_at t) z ∙ forward_of p g W log t i (omega (arith, upto)) holds n.0 n.2 ∙ ap (forward may (λ x. x) (automaton p) W) (sym (removed b n.0 lb n.2 n.3).1)))
            (λ o.
            let q = prefix_in p g W log c (mem_getd L i [] upto) in
            let n = removable_at may (λ x. x) apart q.1 y in
            let d = debump c b (less (at c) b) (omega (arith, q.0, lb)) (sym n.4) in
            let m = mem_place [] ((arrivals_listed may p.k apart W log.letters).onto d.0 (prefixes_of may (λ x. x) p.k W d.0 (d.1 ∙ q.0) (subst (IsPrefix may (λ x. x) W) (sym d.2) n.0))) in
            absurd (none_told x (omega (arith, o)) m.0 m.1 (ap (λ u. with_one u b) m.2 ∙ d.3)))
            (lt_or_le 0 v)

        no_one : (b : ℕ) → b < p.k → {v : ℕ} → Right L b i v → T (not (passed b)) → led_at p.k p.s p.moves t v b ≡ 0
        no_one b lb {v} x y = ⊎_elim
            (λ o. let n = some_told x o in absurd (T_not (passed b) y (removed b n.0 lb n.2 n.3).0))
            (λ o. let z : v ≡ 0 = omega (arith, o) in ap (λ u. led_at p.k p.s p.moves t u b) z)
            (lt_or_le 0 v)
