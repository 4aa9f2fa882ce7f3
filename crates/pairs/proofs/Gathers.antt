-- Sets that are gathered over the places between two, and the names that the rules give them.
use mathlib.Core.Path.{◌≡◌, refl, sym, subst}
use mathlib.Core.Bool.{◌&&◌, cond}
use mathlib.Core.Logic.{inl, inr, ⊎_elim}
use mathlib.Core.List.{List}
use Prim.Native.Nat.{ℕ, zero, suc, ◌+◌, ◌^◌, ◌≤◌}
use native.Mathlib.Omega.{arith}
use lib.Dec.{T, eqb, eqb→eq}
use lib.ListN.{get_or, replicate}
use Rattle.profile.specs.Traces.{bit}
use Rattle.profile.proofs.Lists.{any_at, any_of, both, fst_of, lt_or_le, snd_of}
use Rattle.profile.proofs.Sets.{not_in_none, union_at, union_of}
use Rattle.grammars.specs.Grammars.{first_of, gives_two?, grammar_of, kind_of, name_of, second_of}
use Rattle.grammars.proofs.Rules.{eq_test, two_test, when_at, when_of}
use Rattle.rulesets.specs.Rulesets.{Spread, closed, closed_by}
use Rattle.pairs.specs.Pairs.{Gathered, JoinedIs}

module _ (a b : List ℕ) (from : ℕ) (before : List ℕ) where
  pub gather_start : Gathered a b from from before before
  gather_start = record { given = λ l r t. inl t; kept = λ l r t. t; added = λ l r m h k x y. absurd (omega arith) }

  pub gather_more : (m : ℕ) (acc acc' : List ℕ) → from ≤ m → Gathered a b from m before acc → Spread (get_or a m 0) (get_or b m 0) acc acc' → Gathered a b from (m + 1) before acc'
  gather_more m acc acc' h g s = record {
    given = λ l r t. ⊎_elim
        (λ u. ⊎_elim inl (λ v. inr (v.0, v.1, omega (arith, v.2), v.3, v.4)) (g.given l r u))
        (λ v. inr (m, h, omega arith, v.0, v.1)) (s.given l r t);
    kept = λ l r t. s.kept l r (g.kept l r t);
    added = λ l r i h' k x y. ⊎_elim
        (λ lt. s.kept l r (g.added l r i h' lt x y))
        (λ le.
        let e : i ≡ m = omega arith in
        s.added l r (subst (λ j. T (bit (get_or a j 0) l)) e x) (subst (λ j. T (bit (get_or b j 0) r)) e y)) (lt_or_le i m);
  }

-- the names of the rules over what is gathered
pub closed_at : (rules acc : List ℕ) (n : ℕ) → T (bit (closed rules acc) n) → (l r : ℕ) × T ((grammar_of rules).two n l r) × T (bit (get_or acc l 0) r)
closed_at rules acc n t =
    let u = union_at (closed_by acc) rules n t in
    let x = u.0 in
    let k = eqb (kind_of x) 1 in
    let s = bit (get_or acc (first_of x) 0) (second_of x) in
    let h = when_at (k && s) (name_of x) n u.2 in (
      first_of x,
      second_of x,
      any_of (gives_two? n (first_of x) (second_of x)) u.1 ((two_test n (first_of x) (second_of x) x).1 (record {
        kind = eqb→eq (kind_of x) 1 (fst_of k s h.0);
        name = h.1;
        first = refl;
        second = refl;
      })),
      snd_of k s h.0,
    )

pub closed_of : (rules acc : List ℕ) (n l r : ℕ) → T ((grammar_of rules).two n l r) → T (bit (get_or acc l 0) r) → T (bit (closed rules acc) n)
closed_of rules acc n l r t b =
    let u = any_at (gives_two? n l r) rules t in
    let x = u.0 in
    let g = (two_test n l r x).0 u.2 in
    let k = eqb (kind_of x) 1 in
    let s = bit (get_or acc (first_of x) 0) (second_of x) in
    union_of (closed_by acc) n u.1 (subst (λ m. T (bit (cond (k && s) (2 ^ name_of x) 0) m)) g.name
    (when_of (k && s) (name_of x) (both k s (eq_test (kind_of x) 1 g.kind)
    (subst (λ m. T (bit (get_or acc m 0) (second_of x))) (sym g.first) (subst (λ m. T (bit (get_or acc l 0) m)) (sym g.second) b)))))

-- gathered from nothing
pub joined_is : (rules a b : List ℕ) (from to : ℕ) (before acc : List ℕ) → ((l : ℕ) → get_or before l 0 ≡ 0) → Gathered a b from to before acc → JoinedIs rules a b from to (closed rules acc)
joined_is rules a b from to before acc z g n = (
  λ t.
      let c = closed_at rules acc n t in
      ⊎_elim (λ u. absurd (not_in_none c.1 (subst (λ m. T (bit m c.1)) (z c.0) u)))
      (λ v. (v.0, c.0, c.1, v.1, v.2, (c.2, v.3, v.4))) (g.given c.0 c.1 c.3),
  λ v. closed_of rules acc n v.1 v.2 v.5.0 (g.added v.1 v.2 v.0 v.3 v.4 v.5.1 v.5.2),
)

pub none_yet : (n l : ℕ) → ◌≡◌ {A = ℕ} (get_or (replicate n 0) l 0) 0
none_yet zero l = refl
none_yet (suc n) zero = refl
none_yet (suc n) (suc l) = none_yet n l
