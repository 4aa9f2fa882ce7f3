-- While the old records are tried one by one: the records that are put are those of the new prefixes, in their order.
use mathlib.Core.Path.{◌≡◌, refl, sym, ◌∙◌, ap, ap₂, subst, subst₂}
use mathlib.Core.Bool.{Bool, true, false, not}
use mathlib.Core.List.{List, [], ◌∷◌, ◌++◌, map, map-append}
use Prim.Native.Nat.{ℕ, suc, ◌+◌, ◌*◌, ◌-◌, ◌<◌, ◌≤◌}
use native.Mathlib.Omega.{arith}
use native.Mathlib.Numerals.{add-one}
use lib.Dec.{T}
use lib.ListN.{drop, get_or, length, length-append, take, take-append-drop}
use lib.Seq.{drop-cons, get_or-append_seam, take-length, take-suc}
use Rattle.profile.specs.Lists.{filter}
use Rattle.profile.specs.Traces.{independent}
use Rattle.profile.specs.Automata.{Profile, automaton}
use Rattle.profile.specs.Prefixes.{at, forward}
use Rattle.profile.specs.Tables.{layout, packed}
use Rattle.profile.proofs.Lists.{filter_append, filter_last_no, filter_last_yes, filter_yes, mem_getd}
use Rattle.theory.proofs.Packing.{packed_length}
use Rattle.theory.proofs.Prefixes.{one_same}
use Rattle.theory.proofs.Profiles.{distinct}
use Rattle.theory.proofs.Refusals.{GoodLog, GoodProfile}
use Rattle.counts.specs.Counts.{add_count}
use Rattle.records.specs.Records.{counts_at, last_at, put_record}
use Rattle.arrival.specs.Arrival.{Keeps, arrivals, joins?, newcomers, put_numbers, put_written, with_one, written}
use Rattle.arrival.proofs.Inner.{one_more_at}
use Rattle.arrival.proofs.Places.{Right, new_at, old_at}
use Rattle.arrival.proofs.Tables.{arrivals_more, put_holds, put_kept, put_last, put_length}
use Rattle.newcomers.specs.Newcomers.{PlaceFor, Put, PutIf, Tried, begin, joins_at?, try}
use Rattle.taking.proofs.Placing.{forward_right, place_right}
use Rattle.taking.proofs.Reading.{counts_of, more_in, prefix_in}

module _ (p : Profile) (g : GoodProfile p) (w : List ℕ) (a : ℕ) (low : a < p.k) (log : GoodLog p.k (w ++ (a ∷ []))) (t₀ : List ℕ) where
  abbrev W : List ℕ
  W = w ++ (a ∷ [])

  abbrev may : ℕ → ℕ → Bool
  may = independent p.masks

  abbrev old : List (List ℕ)
  old = arrivals may p.k w

  abbrev L : List (List ℕ)
  L = arrivals may p.k W

  -- the new prefixes of the first r old ones, and of the others
  abbrev front : ℕ → List (List ℕ)
  front r = newcomers may p.k w a (take r old)

  abbrev rest : ℕ → List (List ℕ)
  rest r = newcomers may p.k w a (drop r old)

  split : (r : ℕ) → newcomers may p.k w a old ≡ front r ++ rest r
  split r = ap (newcomers may p.k w a) (sym (take-append-drop r old))
      ∙ ap (map (λ c. with_one c a)) (filter_append (joins? may p.k w a) (take r old) (drop r old))
      ∙ map-append (λ c. with_one c a) (filter (joins? may p.k w a) (take r old)) (filter (joins? may p.k w a) (drop r old))

  module _ (r : ℕ) (lt : r < length old) where
    front_yes : T (joins? may p.k w a (get_or old r [])) → front (r + 1) ≡ front r ++ (with_one (get_or old r []) a ∷ [])
    front_yes y = ap (λ n. front n) (add-one r) ∙ ap (newcomers may p.k w a) (take-suc old r [] lt)
        ∙ ap (map (λ c. with_one c a)) (filter_last_yes (joins? may p.k w a) (take r old) (get_or old r []) y)
        ∙ map-append (λ c. with_one c a) (filter (joins? may p.k w a) (take r old)) (get_or old r [] ∷ [])

    front_no : T (not (joins? may p.k w a (get_or old r []))) → front (r + 1) ≡ front r
    front_no n = ap (λ n. front n) (add-one r) ∙ ap (newcomers may p.k w a) (take-suc old r [] lt)
        ∙ ap (map (λ c. with_one c a)) (filter_last_no (joins? may p.k w a) (take r old) (get_or old r []) n)

    rest_yes : T (joins? may p.k w a (get_or old r [])) → rest r ≡ with_one (get_or old r []) a ∷ rest (suc r)
    rest_yes y = ap (newcomers may p.k w a) (drop-cons old r [] lt) ∙ ap (map (λ c. with_one c a)) (filter_yes (joins? may p.k w a) (get_or old r []) (drop (suc r) old) y)

  -- what holds when r records were tried
  record Settled (r i : ℕ) (t places : List ℕ) : Type 0 where
    tried : r ≤ length old
    counted : i ≡ length old + length (front r)
    table : t ≡ put_written layout may (automaton p) W (length old) (front r) t₀
    right : length old < i → (b : ℕ) → b < p.k → Right L b (i - 1) (get_or places b 0)

  module _ (keeps : Keeps layout may (automaton p) p.k w t₀) (room : 10 * length L ≤ length t₀)
      (joins-right : (r : ℕ) → r < length old → joins_at? may p.k (counts_at t₀ (length old - 1)) a (packed layout (get_or old r [])) ≡ joins? may p.k w a (get_or old r [])) where
    apart : (x y : ℕ) → T (may x y) → x ≡ y → ⊥
    apart = distinct p.masks g.relation.own

    size : (r : ℕ) → length L ≡ length old + (length (front r) + length (rest r))
    size r = omega (arith, arrivals_more may apart (automaton p) p.k w a log.letters, ap length (split r), length-append (front r) (rest r))

    module _ {r i : ℕ} {t places : List ℕ} (s : Settled r i t places) (lt : r < length old) where
      upto : i ≤ length L
      upto = omega (arith, s.counted, size r)

      holds : (x j : ℕ) → x < i → j < 9 → get_or t (10 * x + j) 0 ≡ get_or (written layout may (automaton p) W (get_or L x [])) j 0
      holds x j lx lj = ap (λ u. get_or u (10 * x + j) 0) s.table
          ∙ put_holds may apart (automaton p) p.k w a log.letters t₀ keeps (front r) (rest r) (split r) (omega (arith, room, size r)) x j (omega (arith, lx, s.counted)) lj

      own_counts : counts_at t r ≡ packed layout (get_or old r [])
      own_counts = counts_of p g W log t i upto holds r (omega (arith, lt, s.counted)) ∙ ap (packed layout) (old_at may apart p.k w a log.letters r lt)

      joins_told : joins_at? may p.k (counts_at t₀ (length old - 1)) a (counts_at t r) ≡ joins? may p.k w a (get_or old r [])
      joins_told = ap (joins_at? may p.k (counts_at t₀ (length old - 1)) a) own_counts ∙ joins-right r lt

      long : length t ≡ length t₀
      long = ap length s.table ∙ put_length may (automaton p) W (front r) (length old) t₀ (omega (arith, room, size r))

      module _ (y : T (joins? may p.k w a (get_or old r []))) {t' places' : List ℕ} (h : Put p (length old) i r a t t' places places') where
        inside : i < length L
        inside = omega (arith, s.counted, size r, ap length (rest_yes r lt y))

        next_is : with_one (get_or old r []) a ≡ get_or L i []
        next_is = sym (ap (λ n. get_or L n []) s.counted ∙ new_at may apart p.k w a log.letters (length (front r))
            ∙ ap (λ l. get_or l (length (front r)) []) (split r ∙ ap (λ l. front r ++ l) (rest_yes r lt y)) ∙ get_or-append_seam (front r) (with_one (get_or old r []) a) (rest (suc r)) [])

        numbers : add_count layout (counts_at t r) a ≡ packed layout (get_or L i [])
        numbers =
            let e = old_at may apart p.k w a log.letters r lt in
            ap (λ v. add_count layout v a) (own_counts ∙ ap (packed layout) (sym e)) ∙ more_in p g W log (get_or L r []) (mem_getd L r [] (omega (arith, lt, s.counted, upto))) a low
            ∙ ap (packed layout) (ap (λ c. with_one c a) e ∙ next_is)

        places_right : (b : ℕ) → b < p.k → Right L b i (get_or places' b 0)
        places_right b lb = place_right p g w a log t i (omega (arith, s.counted)) inside holds {r = r} {b = b} {before = get_or places b 0} {v = get_or places' b 0} lb lt next_is (λ o. s.right o b lb)
            (subst (λ v. PlaceFor t (length old) i r a b v (get_or places b 0) (get_or places' b 0)) numbers (h.moved.each b lb))

        some : at (get_or L i []) ≡ (λ x. 0) → ⊥
        some e =
            let m = mem_getd L r [] (omega (arith, lt, s.counted, upto)) in
            omega (
              arith,
              ap (λ f. f a) e,
              ap (λ c. at c a) next_is,
              one_more_at (get_or old r []) a p.k (ap length (sym (old_at may apart p.k w a log.letters r lt)) ∙ (prefix_in p g W log (get_or L r []) m).0) low a,
              one_same a,
            )

        put_right : t' ≡ put_numbers t (10 * i) (written layout may (automaton p) W (get_or L i []))
        put_right = h.put
            ∙ ap₂ (λ v f. put_record t i (v ++ (f ∷ last_at t i ∷ []))) numbers (forward_right p g w a log t i (omega (arith, s.counted)) inside holds places' places_right some)
            ∙ put_kept t (packed layout (get_or L i [])) (10 * i) (forward may (λ x. x) (automaton p) W (at (get_or L i []))) (packed_length layout (get_or L i [])) (omega (arith, inside, room, long))

        settled_yes : {j : ℕ} → j ≡ i + 1 → Settled (r + 1) j t' places'
        settled_yes {j} e = record {
          tried = omega (arith, lt);
          counted = omega (arith, e, s.counted, ap length (front_yes r lt y), length-append (front r) (with_one (get_or old r []) a ∷ []));
          table = put_right ∙ ap₂ (λ u n. put_numbers u (10 * n) (written layout may (automaton p) W (get_or L i []))) s.table s.counted
              ∙ sym (put_last may (automaton p) W (front r) (get_or L i []) (length old) t₀)
              ∙ ap (λ l. put_written layout may (automaton p) W (length old) l t₀) (ap (λ c. front r ++ (c ∷ [])) (sym next_is) ∙ sym (front_yes r lt y));
          right = λ o b lb. let z : i ≡ j - 1 = omega (arith, e) in subst (λ n. Right L b n (get_or places' b 0)) z (places_right b lb);
        }

      settled_no : T (not (joins? may p.k w a (get_or old r []))) → {j : ℕ} {t' places' : List ℕ} → (j ≡ i) × (t' ≡ t) × (places' ≡ places) → Settled (r + 1) j t' places'
      settled_no n {j} {t'} {places'} h = record {
        tried = omega (arith, lt);
        counted = omega (arith, h.0, s.counted, ap length (front_no r lt n));
        table = h.1 ∙ s.table ∙ ap (λ l. put_written layout may (automaton p) W (length old) l t₀) (sym (front_no r lt n));
        right = λ o b lb. subst₂ (λ m v. Right L b (m - 1) (get_or v b 0)) (sym h.0) (sym h.2) (s.right (omega (arith, o, h.0)) b lb);
      }

      settled_next : (q : Bool) → joins? may p.k w a (get_or old r []) ≡ q → {j : ℕ} {t' places' : List ℕ} → PutIf p q (length old) i r a t t' places places' j → Settled (r + 1) j t' places'
      settled_next true e h = settled_yes (subst T (sym e) tt) h.1 h.0
      settled_next false e h = settled_no (subst (λ b. T (not b)) (sym e) tt) h

    settled : {r i : ℕ} {t places : List ℕ} → Tried p (length old) a t₀ r i t places → Settled r i t places
    settled begin = record { tried = omega arith; counted = omega arith; table = refl; right = λ o. absurd (omega (arith, o)) }
    settled (try {r = r} {i = i} {j = j} {t = t} {t' = t'} {places = places} {places' = places'} q lt h) =
        let s = settled q in
        settled_next s lt (joins? may p.k w a (get_or old r [])) refl (subst (λ b. PutIf p b (length old) i r a t t' places places' j) (joins_told s lt) h)

    -- all are tried
    pub all_put : {i : ℕ} {t places : List ℕ} → Tried p (length old) a t₀ (length old) i t places → t ≡ put_written layout may (automaton p) W (length old) (newcomers may p.k w a old) t₀
    all_put q = (settled q).table ∙ ap (λ l. put_written layout may (automaton p) W (length old) (newcomers may p.k w a l) t₀) (take-length old)
