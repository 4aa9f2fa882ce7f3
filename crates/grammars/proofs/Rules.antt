-- Rules as numbers: the sets of names are those that the rules say.
use mathlib.Core.Path.{◌≡◌, refl, sym, subst}
use mathlib.Core.Bool.{Bool, true, false, ◌&&◌, cond}
use mathlib.Core.Logic.{◌↔◌}
use mathlib.Core.List.{List}
use Prim.Native.Nat.{ℕ, ◌^◌, ◌<◌}
use native.Mathlib.Omega.{arith}
use lib.Dec.{T, eqb, eqb→eq, eqb_refl}
use Rattle.profile.specs.Traces.{bit}
use Rattle.profile.proofs.Lists.{any_at, any_of, both, fst_of, snd_of}
use Rattle.profile.proofs.Sets.{bit_self, bit_single, not_in_none, union_at, union_of}
use Rattle.grammars.specs.Grammars.{first_of, gives_one?, gives_two?, grammar_of, kind_of, letter_of, letter_rule, name_of, names_rule, second_of}
use Rattle.grammars.specs.Sets.{lettered, lettered_by, paired, paired_by}

pub eq_test : (m n : ℕ) → m ≡ n → T (eqb m n)
eq_test m n e = subst (λ k. T (eqb m k)) e (eqb_refl m)

-- a name that is in the set of one rule
pub when_at : (b : Bool) (m n : ℕ) → T (bit (cond b (2 ^ m) 0) n) → T b × (m ≡ n)
when_at true m n t = (tt, bit_single m n t)
when_at false m n t = absurd (not_in_none n t)

pub when_of : (b : Bool) (m : ℕ) → T b → T (bit (cond b (2 ^ m) 0) m)
when_of true m t = bit_self m
when_of false m t = elim t [ ]

-- what one rule gives
pub record GivesTwo (n l r x : ℕ) : Type 0 where
  pub kind : kind_of x ≡ 1
  pub name : name_of x ≡ n
  pub first : first_of x ≡ l
  pub second : second_of x ≡ r

pub record GivesOne (n a x : ℕ) : Type 0 where
  pub kind : kind_of x ≡ 0
  pub name : name_of x ≡ n
  pub letter : letter_of x ≡ a

pub two_test : (n l r x : ℕ) → T (gives_two? n l r x) ↔ GivesTwo n l r x
two_test n l r x = (
  λ t.
      let k = eqb (kind_of x) 1 in
      let m = eqb (name_of x) n in
      let f = eqb (first_of x) l in
      let s = eqb (second_of x) r in
      let t₁ = snd_of k (m && (f && s)) t in
      let t₂ = snd_of m (f && s) t₁ in
      record {
        kind = eqb→eq (kind_of x) 1 (fst_of k (m && (f && s)) t);
        name = eqb→eq (name_of x) n (fst_of m (f && s) t₁);
        first = eqb→eq (first_of x) l (fst_of f s t₂);
        second = eqb→eq (second_of x) r (snd_of f s t₂);
      },
  λ g.
      let k = eqb (kind_of x) 1 in
      let m = eqb (name_of x) n in
      let f = eqb (first_of x) l in
      let s = eqb (second_of x) r in
      both k (m && (f && s)) (eq_test (kind_of x) 1 g.kind)
      (both m (f && s) (eq_test (name_of x) n g.name) (both f s (eq_test (first_of x) l g.first) (eq_test (second_of x) r g.second))),
)

pub one_test : (n a x : ℕ) → T (gives_one? n a x) ↔ GivesOne n a x
one_test n a x = (
  λ t.
      let k = eqb (kind_of x) 0 in
      let m = eqb (name_of x) n in
      let l = eqb (letter_of x) a in
      let t₁ = snd_of k (m && l) t in
      record {
        kind = eqb→eq (kind_of x) 0 (fst_of k (m && l) t);
        name = eqb→eq (name_of x) n (fst_of m l t₁);
        letter = eqb→eq (letter_of x) a (snd_of m l t₁);
      },
  λ g.
      let k = eqb (kind_of x) 0 in
      let m = eqb (name_of x) n in
      let l = eqb (letter_of x) a in
      both k (m && l) (eq_test (kind_of x) 0 g.kind) (both m l (eq_test (name_of x) n g.name) (eq_test (letter_of x) a g.letter)),
)

-- the rules that a caller writes are read as meant
pub names_rule_is : (n l r : ℕ) → n < 16 → l < 16 → r < 16 → GivesTwo n l r (names_rule n l r)
names_rule_is n l r hn hl hr = record { kind = omega arith; name = omega arith; first = omega arith; second = omega arith }

pub letter_rule_is : (n a : ℕ) → n < 16 → a < 16 → GivesOne n a (letter_rule n a)
letter_rule_is n a hn ha = record { kind = omega arith; name = omega arith; letter = omega arith }

module _ (rules : List ℕ) where
  -- the names to which a rule gives the letter a
  pub lettered_is : (a n : ℕ) → T (bit (lettered rules a) n) ↔ T ((grammar_of rules).one n a)
  lettered_is a n = (
    λ t.
        let u = union_at (lettered_by a) rules n t in
        let x = u.0 in
        let k = eqb (kind_of x) 0 in
        let l = eqb (letter_of x) a in
        let h = when_at (k && l) (name_of x) n u.2 in
        any_of (gives_one? n a) u.1 ((one_test n a x).1 (record {
          kind = eqb→eq (kind_of x) 0 (fst_of k l h.0);
          name = h.1;
          letter = eqb→eq (letter_of x) a (snd_of k l h.0);
        })),
    λ t.
        let u = any_at (gives_one? n a) rules t in
        let x = u.0 in
        let g = (one_test n a x).0 u.2 in
        let k = eqb (kind_of x) 0 in
        let l = eqb (letter_of x) a in
        union_of (lettered_by a) n u.1 (subst (λ m. T (bit (cond (k && l) (2 ^ name_of x) 0) m)) g.name
        (when_of (k && l) (name_of x) (both k l (eq_test (kind_of x) 0 g.kind) (eq_test (letter_of x) a g.letter)))),
  )

  -- the names to which a rule gives two names, the first of X and the second of Y
  pub paired_at : (X Y n : ℕ) → T (bit (paired rules X Y) n) → (l r : ℕ) × T ((grammar_of rules).two n l r) × T (bit X l) × T (bit Y r)
  paired_at X Y n t =
      let u = union_at (paired_by X Y) rules n t in
      let x = u.0 in
      let k = eqb (kind_of x) 1 in
      let f = bit X (first_of x) in
      let s = bit Y (second_of x) in
      let h = when_at (k && (f && s)) (name_of x) n u.2 in
      let h₁ = snd_of k (f && s) h.0 in (
        first_of x,
        second_of x,
        any_of (gives_two? n (first_of x) (second_of x)) u.1 ((two_test n (first_of x) (second_of x) x).1 (record {
          kind = eqb→eq (kind_of x) 1 (fst_of k (f && s) h.0);
          name = h.1;
          first = refl;
          second = refl;
        })),
        fst_of f s h₁,
        snd_of f s h₁,
      )

  pub paired_of : (X Y n l r : ℕ) → T ((grammar_of rules).two n l r) → T (bit X l) → T (bit Y r) → T (bit (paired rules X Y) n)
  paired_of X Y n l r t a b =
      let u = any_at (gives_two? n l r) rules t in
      let x = u.0 in
      let g = (two_test n l r x).0 u.2 in
      let k = eqb (kind_of x) 1 in
      let f = bit X (first_of x) in
      let s = bit Y (second_of x) in
      union_of (paired_by X Y) n u.1 (subst (λ m. T (bit (cond (k && (f && s)) (2 ^ name_of x) 0) m)) g.name
      (when_of (k && (f && s)) (name_of x) (both k (f && s) (eq_test (kind_of x) 1 g.kind)
      (both f s (subst (λ m. T (bit X m)) (sym g.first) a) (subst (λ m. T (bit Y m)) (sym g.second) b)))))
