-- A rule that gives a name two names, the first of one set and the second of another.
use mathlib.Core.Path.{◌≡◌, refl, sym, ◌∙◌, ap, subst}
use mathlib.Core.Bool.{Bool, cond, ◌&&◌}
use mathlib.Core.List.{List}
use Prim.Native.Nat.{ℕ}
use lib.Dec.{T, eqb, ltb, eqb→eq}
use lib.ListN.{get_or, length}
use Rattle.std.specs.Prelude.{None, Some, position}
use Rattle.std.specs.List.{position_or_len}
use Rattle.std.proofs.lemmas.Option.{none-some}
use Rattle.std.proofs.lemmas.List.Quantifiers.{position-Some}
use Rattle.profile.specs.Lists.{Mem, any}
use Rattle.profile.specs.Traces.{bit}
use Rattle.profile.proofs.Chains.{first_std}
use Rattle.profile.proofs.Lists.{any_at, any_of, both, fst_of, is_true, mem_getd, snd_of}
use Rattle.logcheck.proofs.Search.{any_first}
use Rattle.grammars.specs.Grammars.{first_of, gives_two?, grammar_of, kind_of, name_of, second_of}
use Rattle.grammars.proofs.Rules.{eq_test, two_test}
use Rattle.rulesets.specs.Rulesets.{fits?}

pub fits_at : (rules : List ℕ) (n x y z : ℕ) → Mem z rules → T (fits? n x y z) → T ((grammar_of rules).two n (first_of z) (second_of z)) × T (bit x (first_of z)) × T (bit y (second_of z))
fits_at rules n x y z i t =
    let k = eqb (kind_of z) 1 in
    let m = eqb (name_of z) n in
    let f = bit x (first_of z) in
    let s = bit y (second_of z) in
    let t₁ = snd_of k (m && (f && s)) t in
    let t₂ = snd_of m (f && s) t₁ in (
      any_of (gives_two? n (first_of z) (second_of z)) i ((two_test n (first_of z) (second_of z) z).1 (record {
        kind = eqb→eq (kind_of z) 1 (fst_of k (m && (f && s)) t);
        name = eqb→eq (name_of z) n (fst_of m (f && s) t₁);
        first = refl;
        second = refl;
      })),
      fst_of f s t₂,
      snd_of f s t₂,
    )

pub fits_of : (rules : List ℕ) (n x y l r : ℕ) → T ((grammar_of rules).two n l r) → T (bit x l) → T (bit y r) → T (any (fits? n x y) rules)
fits_of rules n x y l r t a b =
    let u = any_at (gives_two? n l r) rules t in
    let z = u.0 in
    let g = (two_test n l r z).0 u.2 in
    let k = eqb (kind_of z) 1 in
    let m = eqb (name_of z) n in
    let f = bit x (first_of z) in
    let s = bit y (second_of z) in
    any_of (fits? n x y) u.1 (both k (m && (f && s)) (eq_test (kind_of z) 1 g.kind) (both m (f && s) (eq_test (name_of z) n g.name)
    (both f s (subst (λ j. T (bit x j)) (sym g.first) a) (subst (λ j. T (bit y j)) (sym g.second) b))))

-- a list with an element that passes has a first place where one does
no_place : (p : ℕ → Bool) (l : List ℕ) → None ≡ position p l → T (any p l) → ⊥
no_place p l e t =
    let lt : T (ltb (position_or_len p l) (length l)) = subst (λ n. T (ltb n (length l))) (sym (first_std p l)) (subst T (any_first p l) t) in
    none-some (position_or_len p l) (e ∙ ap (λ b. cond b (Some (position_or_len p l)) None) (is_true (ltb (position_or_len p l) (length l)) lt))

-- where no place is found, no rule fits
pub none_fits : (rules : List ℕ) (n x y l r : ℕ) → None ≡ position (fits? n x y) rules → T ((grammar_of rules).two n l r) → T (bit x l) → T (bit y r) → ⊥
none_fits rules n x y l r e t a b = no_place (fits? n x y) rules e (fits_of rules n x y l r t a b)

-- and at a place that is found one does
pub some_fits : (rules : List ℕ) (n x y i : ℕ) → Some i ≡ position (fits? n x y) rules
    → T ((grammar_of rules).two n (first_of (get_or rules i 0)) (second_of (get_or rules i 0))) × T (bit x (first_of (get_or rules i 0))) × T (bit y (second_of (get_or rules i 0)))
some_fits rules n x y i e =
    let q = position-Some (fits? n x y) rules i 0 (sym e) in
    fits_at rules n x y (get_or rules i 0) (mem_getd rules i 0 q.0) (subst T (sym q.1) tt)
