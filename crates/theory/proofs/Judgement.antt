-- What the judge answers, and that the choice of the smallest possible letter, prefix by prefix, finds it.
use mathlib.Core.Path.{◌≡◌, refl, sym, ◌∙◌, ap, subst, fun_ext}
use mathlib.Core.Bool.{Bool}
use mathlib.Core.Logic.{⊎_elim, ◌≢◌}
use mathlib.Core.List.Memᴰ
use mathlib.Core.List.{List, [], ◌∷◌, map}
use mathlib.Core.Option.{none, some, some-ne-none}
use Prim.Native.Nat.{ℕ, ◌<◌}
use lib.Dec.{T, ltb, ltb→lt}
use Rattle.profile.specs.Automata.{Accepted, Automaton, accepted?, meets, run, run_back, union}
use Rattle.profile.specs.Lists.{Mem, filter}
use Rattle.profile.specs.Orders.{NoLater, accepted_order, earliest}
use Rattle.profile.specs.Prefixes.{IsPrefix, addable?, backward, more, unmarked}
use Rattle.profile.specs.Traces.{Reachable, letters_below, orders}
use Rattle.theory.proofs.Automata.{Lawful, back_at_leads, back_of_leads, backward_first, run_at, run_of, unmarked_none}
use Rattle.theory.proofs.Earliest.{Greedy, earliest_at, end, good, greedy_first, greedy_none, take}
use Rattle.profile.proofs.Lists.{filter_at, filter_of, lt_or_le}
use Rattle.theory.proofs.Prefixes.{addable_at, addable_of, all_of_pick, more_of_pick}
pub use Rattle.profile.proofs.Paths.{accepted_at, accepted_of}
use Rattle.profile.proofs.Sets.{meets_at, meets_of, union_at, union_of}
use Rattle.profile.proofs.Traces.{Order, mem_of_order, order_of_mem, order_of_reach, reach_of_order}

-- ---- what the answer says

-- v is the letters of an accepted order of w, and no accepted order of w is earlier
pub record Earliest (may : ℕ → ℕ → Bool) (letter : ℕ → ℕ) (M : Automaton) (w v : List ℕ) : Type 0 where
  pub order : List ℕ
  pub letters : map letter order ≡ v
  pub reached : Reachable may w order
  pub accepted : Accepted M letter order
  pub least : (u : List ℕ) → Reachable may w u → Accepted M letter u → NoLater v (map letter u)

module _ (may : ℕ → ℕ → Bool) (letter : ℕ → ℕ) (M : Automaton) (L : Lawful M) where
  listed : {w u : List ℕ} → Reachable may w u → Accepted M letter u → Mem (map letter u) (map (map letter) (filter (accepted? M letter) (orders may w)))
  listed {w} r a = Memᴰ.map (map letter) (filter_of (accepted? M letter) (mem_of_order may w (order_of_reach may r)) (accepted_of M L letter a))

  pub accepted_order_at : {w v : List ℕ} → accepted_order may letter M w ≡ some v → Earliest may letter M w v
  accepted_order_at {w} {v} e =
      let l = map (map letter) (filter (accepted? M letter) (orders may w)) in
      let n = earliest_at l e in
      let m = Memᴰ.of_map (map letter) (filter (accepted? M letter) (orders may w)) n.0 in
      let k = filter_at (accepted? M letter) (orders may w) m.1 in
      record {
        order = m.0;
        letters = m.2;
        reached = reach_of_order may (order_of_mem may w k.0);
        accepted = accepted_at M L letter m.0 k.1;
        least = λ u r a. n.1 (map letter u) (listed r a);
      }

  pub accepted_order_not : {w u : List ℕ} → accepted_order may letter M w ≡ none → Reachable may w u → Accepted M letter u → ⊥
  accepted_order_not {w} {u} e r a = go (map (map letter) (filter (accepted? M letter) (orders may w))) e (listed r a)
    where
      go : (l : List (List ℕ)) → earliest l ≡ none → Mem (map letter u) l → ⊥
      go [] e m = Memᴰ.not-nil m
      go (x ∷ l) e m = some-ne-none _ e

-- ---- letter by letter

module _ (may : ℕ → ℕ → Bool) (letter : ℕ → ℕ) (M : Automaton) (L : Lawful M) where
  abbrev ok : ℕ → Bool
  ok S = meets S M.final

  -- some order of r leads from S to a final state
  abbrev pub live : ℕ → List ℕ → Bool
  live S r = meets S (union (run_back M letter M.final) (orders may r))

  good_run : (u : List ℕ) (S : ℕ) → good may letter M.step ok S u ≡ meets (run M letter S u) M.final
  good_run [] S = refl
  good_run (a ∷ u) S = good_run u (M.step S (letter a))

  live_of : (S : ℕ) (r v : List ℕ) → Order may r v → T (good may letter M.step ok S v) → T (live S r)
  live_of S r v o h =
      let n = meets_at (run M letter S v) M.final (rw (good_run v S) at h) in
      let k = run_at M L letter S v n.0 n.1 in
      meets_of S (union (run_back M letter M.final) (orders may r)) k.0 k.1
      (union_of (run_back M letter M.final) k.0 (mem_of_order may r o) (back_of_leads M L letter M.final k.2 n.2))

  live_at : (S : ℕ) (r : List ℕ) → T (live S r) → (v : List ℕ) × Order may r v × T (good may letter M.step ok S v)
  live_at S r h =
      let n = meets_at S (union (run_back M letter M.final) (orders may r)) h in
      let b = union_at (run_back M letter M.final) (orders may r) n.0 n.2 in
      let k = back_at_leads M L letter M.final b.0 n.0 b.2 in
      (b.0, order_of_mem may r b.1, rw (good_run b.0 S) (meets_of (run M letter S b.0) M.final k.0 (run_of M L letter S n.1 k.1) k.2))

  -- u is chosen letter by letter from w, S is reached and r is left
  abbrev pub Chosen : ℕ → List ℕ → List ℕ → ℕ → List ℕ → Type 0
  Chosen = Greedy may letter M.step ok live

  module _ (distinct : (a b : ℕ) → T (may a b) → letter a ≢ letter b) where
    good_test : good may letter M.step ok M.start ≡ accepted? M letter
    good_test = fun_ext (λ u. good_run u M.start)

    pub accepted_order_some : {w v : List ℕ} {S : ℕ} → T (live M.start w) → Chosen M.start w v S [] → accepted_order may letter M w ≡ some (map letter v)
    accepted_order_some {w} h g = ap (λ p. earliest (map (map letter) (filter p (orders may w)))) (sym good_test)
        ∙ greedy_first may letter M.step ok live distinct live_of live_at h g

    pub accepted_order_none : (w : List ℕ) → (T (live M.start w) → ⊥) → accepted_order may letter M w ≡ none
    accepted_order_none w h = ap (λ p. earliest (map (map letter) (filter p (orders may w)))) (sym good_test)
        ∙ greedy_none may letter M.step ok live distinct live_of live_at M.start w h

    -- the test at the empty prefix is the table's backward set
    pub live_start : (w : List ℕ) → live M.start w ≡ meets M.start (backward may letter M w (λ x. 0))
    live_start w = ap (live M.start) (sym (unmarked_none may letter M L w distinct))

    module _ (w : List ℕ) where
      -- one choice: x is the smallest letter with which c is still a prefix and the states reached meet the backward set there
      pub choice : {c : ℕ → ℕ} (S x : ℕ) → IsPrefix may letter w c → T (addable? may letter w c x) → T (meets (M.step S x) (backward may letter M w (more c x)))
          → ((y : ℕ) → y < x → T (addable? may letter w c y) → T (meets (M.step S y) (backward may letter M w (more c y))) → ⊥)
          → (a : ℕ) × (letter a ≡ x) × Chosen S (unmarked letter w c) (a ∷ []) (M.step S x) (unmarked letter w (more c x))
      choice {c} S x p t h least =
          let n = addable_at may letter distinct p t in (
            n.1,
            n.2,
            subst (λ y. Chosen S (unmarked letter w c) (n.1 ∷ []) (M.step S y) (unmarked letter w (more c x))) n.2
                (take n.3 (subst (λ y. T (meets (M.step S y) (backward may letter M w (more c x)))) (sym n.2) h)
                (λ b y k l. ⊎_elim
                (λ lt.
                let m = more_of_pick may letter distinct p k in
                absurd (least (letter b) (subst (λ z. letter b < z) n.2 lt) (addable_of may letter distinct c (letter b) m.0)
                (subst (λ z. T (live (M.step S (letter b)) z)) (sym m.1) l)))
                (λ le. le) (lt_or_le (letter b) (letter n.1)))
                end),
          )

      -- there is a choice as long as something is left
      pub some_choice : (k : ℕ) → T (letters_below letter k w) → {c : ℕ → ℕ} (S : ℕ) → IsPrefix may letter w c → (unmarked letter w c ≡ [] → ⊥)
          → T (meets S (backward may letter M w c)) → (x : ℕ) × (x < k) × T (addable? may letter w c x) × T (meets (M.step S x) (backward may letter M w (more c x)))
      some_choice k letters {c} S p ne h =
          let n = meets_at S (backward may letter M w c) h in
          ⊎_elim (λ z. absurd (ne z.0))
          (λ b.
          let x = letter b.0 in
          let r = L.back_at (backward may letter M w (more c x)) x n.0 b.3 in (
            x,
            ltb→lt x k (all_of_pick may letter distinct (λ a. ltb (letter a) k) p b.2 letters),
            addable_of may letter distinct c x b.1,
            meets_of (M.step S x) (backward may letter M w (more c x)) r.0 (L.step_of S x n.0 r.0 n.1 r.2) r.1,
          ))
          (backward_first may letter M L w distinct n.0 p n.2)
