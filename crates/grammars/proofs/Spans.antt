-- The recurrence of Paper 13 over pairs of prefixes: a name derives some order of the events between two prefixes exactly when a rule gives it the one
-- letter between them, or gives it two names that do so for the two parts up to and behind a prefix between them. Pairs may be one-way.
use mathlib.Core.Path.{◌≡◌, sym, ap, subst, fun_ext}
use mathlib.Core.Bool.{Bool}
use mathlib.Core.Logic.{◌⊎◌, inl, inr, ◌≢◌}
use mathlib.Core.List.{List, [], ◌∷◌, ◌++◌}
use Prim.Native.Nat.{ℕ, ◌+◌, ◌≤◌}
use native.Mathlib.Omega.{arith}
use lib.Dec.{T}
use lib.ListN.{length, length-append}
use Rattle.profile.specs.Traces.{Reachable}
use Rattle.profile.specs.Prefixes.{IsPrefix, count, marked, more, unmarked}
use Rattle.profile.proofs.Traces.{Takes, done, next, order_of_reach, reach_of_order, takes_refl, takes_split, takes_trans}
use Rattle.theory.proofs.Prefixes.{count_append, count_marked, count_order, front_all, front_marked, front_none, pick_of_more, prefix_of_takes, takes_of_prefix}
use Rattle.grammars.specs.Grammars.{Derives, Grammar, leaf, node}

-- no log without letters can be derived
pub derived_some : {G : Grammar} {n : ℕ} {u : List ℕ} → Derives G n u → 1 ≤ length u
derived_some (leaf t) = omega arith
derived_some (node {u = u} {v = v} t f g) = omega (arith, length-append u v, derived_some f)

module _ (may : ℕ → ℕ → Bool) (G : Grammar) (w : List ℕ) where
  -- the name n derives `word`, an order of the events between the prefixes c and d
  pub record Spans (c d : ℕ → ℕ) (n : ℕ) (word : List ℕ) : Type 0 where
    pub takes : Takes may (unmarked (λ a. a) w c) word (unmarked (λ a. a) w d)
    pub adds : (x : ℕ) → d x ≡ count (λ a. a) word x + c x
    pub derives : Derives G n word

  -- it derives some order of them: "A derives an order of the events between two prefixes, one inside the other"
  abbrev pub Between : (ℕ → ℕ) → (ℕ → ℕ) → ℕ → Type 0
  Between c d n = (word : List ℕ) × Spans c d n word

  module _ (distinct : (a b : ℕ) → T (may a b) → a ≢ b) where
    -- one letter, by a rule with a letter; or two parts, by a rule with two names, that meet in a prefix
    pub between_split : {c d : ℕ → ℕ} {n : ℕ} → IsPrefix may (λ a. a) w c → Between c d n
        → ((x : ℕ) × T (G.one n x) × (d ≡ more c x))
        ⊎ ((e : ℕ → ℕ) × (l r : ℕ) × T (G.two n l r) × IsPrefix may (λ a. a) w e × Between c e l × Between e d r)
    between_split {c} {d} {n} p s = go s.1.derives s.1.takes s.1.adds
      where
        go : {u : List ℕ} → Derives G n u → Takes may (unmarked (λ a. a) w c) u (unmarked (λ a. a) w d) → ((x : ℕ) → d x ≡ count (λ a. a) u x + c x)
            → ((x : ℕ) × T (G.one n x) × (d ≡ more c x))
            ⊎ ((e : ℕ → ℕ) × (l r : ℕ) × T (G.two n l r) × IsPrefix may (λ a. a) w e × Between c e l × Between e d r)
        go (leaf {a = a} m) t h = inl (a, m, fun_ext (λ x. omega (arith, h x)))
        go (node {l = l} {r = r} {u = u} {v = v} m f g) t h =
            let k = takes_split may u t in
            let o = takes_trans may (takes_of_prefix may (λ a. a) p (takes_refl may (marked (λ a. a) w c))) k.1 in
            let q = prefix_of_takes may (λ a. a) distinct o in
            let e = count (λ a. a) (marked (λ a. a) w c ++ u) in
            let ce : (x : ℕ) → e x ≡ count (λ a. a) u x + c x = λ x. omega (arith, count_append may (λ a. a) (marked (λ a. a) w c) u x, count_marked may (λ a. a) w c p.fits x) in
            inr (
              e,
              l,
              r,
              m,
              q.0,
              (u, record { takes = subst (Takes may (unmarked (λ a. a) w c) u) (sym q.1) k.1; adds = ce; derives = f }),
              (
                v,
                record {
                  takes = subst (λ z. Takes may z v (unmarked (λ a. a) w d)) (sym q.1) k.2;
                  adds = λ x. omega (arith, h x, ce x, count_append may (λ a. a) u v x);
                  derives = g;
                },
              ),
            )

    -- the other way: one letter more
    pub spans_letter : {c d : ℕ → ℕ} {n x : ℕ} → IsPrefix may (λ a. a) w c → IsPrefix may (λ a. a) w d → d ≡ more c x → T (G.one n x) → Spans c d n (x ∷ [])
    spans_letter {c} {d} {n} {x} p q e t =
        let k = pick_of_more may (λ a. a) distinct p (subst (IsPrefix may (λ a. a) w) e q) in record {
          takes = subst (λ f. Takes may (unmarked (λ a. a) w c) (x ∷ []) (unmarked (λ a. a) w f)) (sym e)
              (subst (λ a. Takes may (unmarked (λ a. a) w c) (a ∷ []) (unmarked (λ a. a) w (more c x))) k.1 (next k.2 done));
          adds = λ y. omega (arith, ap (λ f. f y) e);
          derives = leaf t;
        }

    -- and two parts
    pub spans_join : {c e d : ℕ → ℕ} {n l r : ℕ} {u v : List ℕ} → T (G.two n l r) → Spans c e l u → Spans e d r v → Spans c d n (u ++ v)
    spans_join {u = u} {v = v} m f g = record {
      takes = takes_trans may f.takes g.takes;
      adds = λ x. omega (arith, f.adds x, g.adds x, count_append may (λ a. a) u v x);
      derives = node m f.derives g.derives;
    }

    -- some reachable log can be derived exactly when the name does so between the empty prefix and the whole log
    pub start : unmarked (λ a. a) w (λ x. 0) ≡ w
    start = (front_marked may (λ a. a) distinct (front_none may w)).1

    pub end : unmarked (λ a. a) w (count (λ a. a) w) ≡ []
    end = (front_marked may (λ a. a) distinct (front_all may w)).1

    pub spans_whole : {n : ℕ} {v : List ℕ} → Spans (λ x. 0) (count (λ a. a) w) n v → Reachable may w v × Derives G n v
    spans_whole {n} {v} s = (
      reach_of_order may (subst (λ z. Takes may z v []) start (subst (Takes may (unmarked (λ a. a) w (λ x. 0)) v) end s.takes)),
      s.derives,
    )

    pub whole_spans : {n : ℕ} {v : List ℕ} → Reachable may w v → Derives G n v → Spans (λ x. 0) (count (λ a. a) w) n v
    whole_spans {n} {v} r d = record {
      takes = subst (Takes may (unmarked (λ a. a) w (λ x. 0)) v) (sym end) (subst (λ z. Takes may z v []) (sym start) (order_of_reach may r));
      adds = λ x. omega (arith, ap (λ f. f x) (count_order may (λ a. a) (order_of_reach may r)));
      derives = d;
    }
