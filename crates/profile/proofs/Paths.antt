-- What the states that a log leads to say of its paths.
use mathlib.Core.List.{List, [], ◌∷◌}
use Prim.Native.Nat.{ℕ}
use lib.Dec.{T}
use Rattle.profile.specs.Automata.{Accepted, Automaton, PathOf, accepted?, goes, run, stop}
use Rattle.profile.specs.Traces.{bit}
use Rattle.profile.proofs.Sets.{meets_at, meets_of}

-- step and back are what the moves say
pub record Lawful (M : Automaton) : Type 0 where
  pub step_of : (S x q r : ℕ) → T (bit S q) → T (M.move q x r) → T (bit (M.step S x) r)
  pub step_at : (S x r : ℕ) → T (bit (M.step S x) r) → (q : ℕ) × T (bit S q) × T (M.move q x r)
  pub back_of : (R x q r : ℕ) → T (bit R r) → T (M.move q x r) → T (bit (M.back R x) q)
  pub back_at : (R x q : ℕ) → T (bit (M.back R x) q) → (r : ℕ) × T (bit R r) × T (M.move q x r)

module _ (M : Automaton) (L : Lawful M) (letter : ℕ → ℕ) where
  pub run_of : (S : ℕ) {q r : ℕ} {u : List ℕ} → T (bit S q) → PathOf M letter q u r → T (bit (run M letter S u) r)
  run_of S h stop = h
  run_of S h (goes {q = q} {a = a} {r = r} m l) = run_of (M.step S (letter a)) (L.step_of S (letter a) q r h m) l

  pub run_at : (S : ℕ) (u : List ℕ) (r : ℕ) → T (bit (run M letter S u) r) → (q : ℕ) × T (bit S q) × PathOf M letter q u r
  run_at S [] r h = (r, h, stop)
  run_at S (a ∷ u) r h =
      let n = run_at (M.step S (letter a)) u r h in
      let k = L.step_at S (letter a) n.0 n.1 in
      (k.0, k.1, goes k.2 n.2)

-- "accepted", by its test
pub accepted_of : (M : Automaton) (L : Lawful M) (letter : ℕ → ℕ) {u : List ℕ} → Accepted M letter u → T (accepted? M letter u)
accepted_of M L letter {u} a = meets_of (run M letter M.start u) M.final a.to (run_of M L letter M.start a.starts a.leads) a.ends

pub accepted_at : (M : Automaton) (L : Lawful M) (letter : ℕ → ℕ) (u : List ℕ) → T (accepted? M letter u) → Accepted M letter u
accepted_at M L letter u h =
    let n = meets_at (run M letter M.start u) M.final h in
    let k = run_at M L letter M.start u n.0 n.1 in
    record { from = k.0; to = n.0; starts = k.1; leads = k.2; ends = n.2 }
