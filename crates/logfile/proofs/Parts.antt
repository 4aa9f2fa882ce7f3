-- The log part of a file and where its log section stands: the part is that place and length of the file.
use mathlib.Core.Path.{◌≡◌, refl, sym, ◌∙◌, ap, subst}
use mathlib.Core.Logic.{◌⊎◌, inl, inr, ⊎_elim, ◌↔◌}
use mathlib.Core.List.{List, []}
use mathlib.Core.Option.{Option, none, some}
use Prim.Native.Nat.{ℕ, ◌+◌, ◌≤◌}
use native.Mathlib.Omega.{arith}
use lib.ListN.{length, take, drop, length-drop, length-take}
use Rattle.profile.specs.Limits.{log_byte}
use Rattle.profile.specs.Refusals.{lowest}
use Rattle.profile.specs.declared.Refusal.{Refusal}
use Rattle.logfile.specs.Files.{file_log, file_refusals, located, log_length, log_location, log_part_of, section, trailer, unless}
use Rattle.std.specs.Prelude.{Result, Ok, Err}
use Rattle.logfile.proofs.Sections.{inside, open_file}

-- the bytes at an answer's place; none where it is a refusal
abbrev pub part_at : List ℕ → Result (ℕ × ℕ) Refusal → List ℕ
part_at f (Ok (i, n)) = take n (drop i f)
part_at f (Err r) = []

-- an answer that is a place
abbrev pub length_at : Result (ℕ × ℕ) Refusal → ℕ
length_at (Ok (i, n)) = n
length_at (Err r) = 0

-- what `log_part` hands back is what `locate_log` points at
pub part_located : (f : List ℕ) → log_part_of f ≡ part_at f (log_location f)
part_located f = go (lowest (file_refusals f))
  where
    go : (q : Option Refusal) → unless q (file_log f) [] ≡ part_at f (located q (section f log_byte) (log_length f))
    go none = refl
    go (some r) = refl

-- that place is inside the file, so the part has the length that is told
pub record Stands (f : List ℕ) (i n : ℕ) : Type 0 where
  pub within : i + n ≤ trailer f
  pub part : log_part_of f ≡ take n (drop i f)
  pub long : length (log_part_of f) ≡ n

pub part_stands : (f : List ℕ) (i n : ℕ) → log_location f ≡ Ok (i, n) → Stands f i n
part_stands f i n e = go (lowest (file_refusals f)) refl
  where
    place_of : Result (ℕ × ℕ) Refusal → ℕ
    place_of (Ok (j, m)) = j
    place_of (Err r) = 0

    refused? : Result (ℕ × ℕ) Refusal → Type 0
    refused? (Ok (j, m)) = ⊥
    refused? (Err r) = Unit {0}

    go : (q : Option Refusal) → lowest (file_refusals f) ≡ q → Stands f i n
    go none h =
        let a : located none (section f log_byte) (log_length f) ≡ Ok (i, n) = sym (ap (λ q. located q (section f log_byte) (log_length f)) h) ∙ e in
        let at : section f log_byte ≡ i = ap place_of a in
        let m : log_length f ≡ n = ap length_at a in
        let w = (inside f (open_file f h).1).log in
        let p = part_located f ∙ ap (part_at f) e in
        record {
          within = omega (arith, w, at, m);
          part = p;
          long = ap length p ∙ length-take n (drop i f) ∙ (omega (arith, w, at, m, length-drop i f));
        }
    go (some r) h = absurd (subst refused? (sym (ap (λ q. located q (section f log_byte) (log_length f)) h) ∙ e) tt)

-- the part is empty exactly where the file is refused, or its log is
pub part_empty : (f : List ℕ) → (log_part_of f ≡ []) ↔ (((r : Refusal) × (log_location f ≡ Err r)) ⊎ ((i : ℕ) × (log_location f ≡ Ok (i, 0))))
part_empty f = (empty (log_location f) refl, none-there)
  where
    empty : (r : Result (ℕ × ℕ) Refusal) → log_location f ≡ r → log_part_of f ≡ [] → ((x : Refusal) × (log_location f ≡ Err x)) ⊎ ((i : ℕ) × (log_location f ≡ Ok (i, 0)))
    empty (Err x) h e = inl (x, h)
    empty (Ok (i, n)) h e = inr (i, h ∙ ap (λ n. Ok (i, n)) (sym (part_stands f i n h).long ∙ ap length e))

    none-there : ((x : Refusal) × (log_location f ≡ Err x)) ⊎ ((i : ℕ) × (log_location f ≡ Ok (i, 0))) → log_part_of f ≡ []
    none-there c = part_located f ∙ ⊎_elim (λ r. ap (part_at f) r.1) (λ i. ap (part_at f) i.1) c
