-- The computed set of names of a list is the set of the names from which it can be derived.
use mathlib.Core.Path.{◌≡◌, refl, sym, ◌∙◌, ap, subst}
use mathlib.Core.Bool.{Bool}
use mathlib.Core.Logic.{◌↔◌, ⊎_elim}
use mathlib.Core.List.Memᴰ
use mathlib.Core.List.{List, [], ◌∷◌, ◌++◌}
use Prim.Native.Nat.{ℕ, zero, suc, ◌≤◌}
use native.Mathlib.Omega.{arith}
use lib.Dec.{T}
use lib.ListN.{length, length-append}
use Rattle.profile.specs.Lists.{Mem}
use Rattle.profile.specs.Traces.{bit, orders}
use Rattle.profile.specs.Automata.{union}
use Rattle.profile.proofs.Lists.{any_at, any_of, either, or_left, or_right}
use Rattle.profile.proofs.Sets.{bit_of_or, not_in_none, union_at, union_of}
use Rattle.profile.proofs.Traces.{reach_orders}
use Rattle.grammars.specs.Grammars.{Derivable, Derives, grammar_of, leaf, node}
use Rattle.grammars.specs.Sets.{cut_behind, cuts, derivable?, lettered, names_in, names_of, paired, single}
use Rattle.grammars.proofs.Rules.{lettered_is, paired_at, paired_of}
use Rattle.grammars.proofs.Spans.{derived_some}

-- a cut is two parts, and each two parts that are not empty are a cut
abbrev Cut : Type 0
Cut = List ℕ × List ℕ

pub cuts_at : (u : List ℕ) (s : List ℕ × List ℕ) → Mem s (cuts u) → u ≡ s.0 ++ s.1
cuts_at [] s m = absurd (Memᴰ.not-nil m)
cuts_at (a ∷ u) s m = go u (cuts u) (λ t k. cuts_at u t k) m
  where
    go : (v : List ℕ) (l : List (List ℕ × List ℕ)) → ((t : List ℕ × List ℕ) → Mem t l → v ≡ t.0 ++ t.1) → Mem s (cut_behind a v l) → a ∷ v ≡ s.0 ++ s.1
    go [] l ih m = absurd (Memᴰ.not-nil m)
    go (b ∷ v) l ih m = ⊎_elim
        (λ e. ap (λ (t : List ℕ × List ℕ). t.0 ++ t.1) (sym e))
        (λ k.
        let n = Memᴰ.of_map (λ (t : List ℕ × List ℕ). (a ∷ t.0, t.1)) l k in
        ap (◌∷◌ a) (ih n.0 n.1) ∙ ap (λ (t : List ℕ × List ℕ). t.0 ++ t.1) n.2)
        (Memᴰ.cases_cons m)

pub cuts_of : (u v : List ℕ) → 1 ≤ length u → 1 ≤ length v → Mem (u, v) (cuts (u ++ v))
cuts_of [] v h k = absurd (omega arith)
cuts_of (a ∷ u) v h k = go u v k (λ i. cuts_of u v i k)
  where
    go : (u v : List ℕ) → 1 ≤ length v → (1 ≤ length u → Mem (u, v) (cuts (u ++ v))) → Mem (a ∷ u, v) (cut_behind a (u ++ v) (cuts (u ++ v)))
    go [] [] k ih = absurd (omega arith)
    go [] (b ∷ v) k ih = Memᴰ.head refl
    go (b ∷ u) v k ih = Memᴰ.tail (Memᴰ.map (λ (t : List ℕ × List ℕ). (a ∷ t.0, t.1)) (ih (omega arith)))

module _ (rules : List ℕ) where
  single_at : (u : List ℕ) (n : ℕ) → T (bit (single rules u) n) → Derives (grammar_of rules) n u
  single_at [] n t = absurd (not_in_none n t)
  single_at (a ∷ []) n t = leaf ((lettered_is rules a n).0 t)
  single_at (a ∷ b ∷ u) n t = absurd (not_in_none n t)

  pub names_at : (f : ℕ) (u : List ℕ) (n : ℕ) → T (bit (names_in rules f u) n) → Derives (grammar_of rules) n u
  names_at zero u n t = absurd (not_in_none n t)
  names_at (suc f) u n t = go (λ v m k. names_at f v m k)
    where
      go : ((v : List ℕ) (m : ℕ) → T (bit (names_in rules f v) m) → Derives (grammar_of rules) m v) → Derives (grammar_of rules) n u
      go ih =
          let P : List ℕ × List ℕ → ℕ = λ s. paired rules (names_in rules f s.0) (names_in rules f s.1) in
          ⊎_elim (λ k. single_at u n k)
          (λ k.
          let c = union_at P (cuts u) n k in
          let q = paired_at rules (names_in rules f c.0.0) (names_in rules f c.0.1) n c.2 in
          subst (Derives (grammar_of rules) n) (sym (cuts_at u c.0 c.1)) (node q.2 (ih c.0.0 q.0 q.3) (ih c.0.1 q.1 q.4)))
          (either (bit (single rules u) n) (bit (union P (cuts u)) n) (subst T (bit_of_or (single rules u) (union P (cuts u)) n) t))

  pub names_from : (f : ℕ) {u : List ℕ} {n : ℕ} → Derives (grammar_of rules) n u → length u ≤ f → T (bit (names_in rules f u) n)
  names_from zero d h = absurd (omega (arith, derived_some d))
  names_from (suc f) d h = go d h (λ v m e k. names_from f e k)
    where
      go : {u : List ℕ} {n : ℕ} → Derives (grammar_of rules) n u → length u ≤ suc f
          → ((v : List ℕ) (m : ℕ) → Derives (grammar_of rules) m v → length v ≤ f → T (bit (names_in rules f v) m)) → T (bit (names_in rules (suc f) u) n)
      go (leaf {n = n} {a = a} t) h ih =
          let P : List ℕ × List ℕ → ℕ = λ s. paired rules (names_in rules f s.0) (names_in rules f s.1) in
          subst T (sym (bit_of_or (lettered rules a) (union P (cuts (a ∷ []))) n)) (or_left (bit (lettered rules a) n) (bit (union P (cuts (a ∷ []))) n) ((lettered_is rules a n).1 t))
      go (node {n = n} {l = l} {r = r} {u = u} {v = v} t d e) h ih =
          let P : List ℕ × List ℕ → ℕ = λ s. paired rules (names_in rules f s.0) (names_in rules f s.1) in
          let hu = derived_some d in
          let hv = derived_some e in
          let hl = length-append u v in
          subst T (sym (bit_of_or (single rules (u ++ v)) (union P (cuts (u ++ v))) n)) (or_right (bit (single rules (u ++ v)) n) (bit (union P (cuts (u ++ v))) n)
          (union_of P n (cuts_of u v hu hv)
          (paired_of rules (names_in rules f u) (names_in rules f v) n l r t (ih u l d (omega arith)) (ih v r e (omega arith)))))

  -- name n is in the set exactly when u can be derived from it
  pub names_is : (u : List ℕ) (n : ℕ) → T (bit (names_of rules u) n) ↔ Derives (grammar_of rules) n u
  names_is u n = (names_at (length u) u n, λ d. names_from (length u) d (omega arith))

  -- "The verdict is 1 exactly when some reachable log can be derived from name 0"
  pub derivable_is : (may : ℕ → ℕ → Bool) (w : List ℕ) → T (derivable? rules may w) ↔ ((v : List ℕ) × Derivable (grammar_of rules) may w v)
  derivable_is may w = (
    λ t.
        let m = any_at (λ v. bit (names_of rules v) 0) (orders may w) t in
        (m.0, record { reached = (reach_orders may w m.0).1 m.1; derived = (names_is m.0 0).0 m.2 }),
    λ v. any_of (λ v. bit (names_of rules v) 0) ((reach_orders may w v.0).0 v.1.reached) ((names_is v.0 0).1 v.1.derived),
  )
