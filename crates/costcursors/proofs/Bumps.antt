-- One more of a letter in two prefixes leaves their order, so that each letter's cursor only moves on.
use mathlib.Core.Path.{◌≡◌, sym, ◌∙◌, ap}
use mathlib.Core.List.{List, [], ◌∷◌, tail-eq_of_cons-eq}
use Prim.Native.Nat.{ℕ, zero, suc, ◌<◌}
use native.Mathlib.Omega.{arith}
use lib.ListN.{length}
use lib.Seq.{ext_get_or}
use Rattle.profile.specs.Orders.{Earlier, NoLater, agrees, ends, smaller}
use Rattle.profile.specs.Prefixes.{at, ranked, total}
use Rattle.theory.proofs.Levels.{at_bump, bump}

pub total_bump : (c : List ℕ) (x : ℕ) → x < length c → total (bump c x) ≡ suc (total c)
total_bump [] x h = absurd (omega arith)
total_bump (n ∷ c) zero h = omega arith
total_bump (n ∷ c) (suc x) h = omega (arith, total_bump c x (omega (arith, h)))

bump_later : {u v : List ℕ} (x : ℕ) → length u ≡ length v → NoLater u v → NoLater (bump u x) (bump v x)
bump_later {v = []} x e ends = ends
bump_later {v = b ∷ v} x e ends = absurd (omega (arith, e))
bump_later zero e (smaller {a = a} {b = b} h) = let k : suc a < suc b = omega (arith, h) in smaller k
bump_later (suc x) e (smaller h) = smaller h
bump_later zero e (agrees q h) = agrees (ap suc q) h
bump_later (suc x) e (agrees q h) = agrees q (bump_later x (omega (arith, e)) h)

bump_inj : (u v : List ℕ) (x : ℕ) → length u ≡ length v → x < length u → bump u x ≡ bump v x → u ≡ v
bump_inj u v x e h q = ext_get_or 0 u v e (λ i l.
    let a = ap (λ f. f i) (sym (at_bump u x h) ∙ ap at q ∙ at_bump v x (omega (arith, e, h))) in omega (arith, a))

-- two prefixes, one before the other: so they stand with one x more
pub bump_earlier : (u v : List ℕ) (x : ℕ) → length u ≡ length v → x < length u → Earlier (ranked u) (ranked v) → Earlier (ranked (bump u x)) (ranked (bump v x))
bump_earlier u v x e h (n, ne) = (go n, λ q. ne (ap ranked (bump_inj u v x e h (tail-eq_of_cons-eq q))))
  where
    go : NoLater (ranked u) (ranked v) → NoLater (ranked (bump u x)) (ranked (bump v x))
    go (smaller k) = let l : total (bump u x) < total (bump v x) = omega (arith, k, total_bump u x h, total_bump v x (omega (arith, e, h))) in smaller l
    go (agrees q k) = let l : total (bump u x) ≡ total (bump v x) = omega (arith, q, total_bump u x h, total_bump v x (omega (arith, e, h))) in agrees l (bump_later x e k)
