-- A part of the table with the records of a list of counts: what is read of it, and what it is after a record or a last number is put.
use mathlib.Core.Path.{◌≡◌, refl, sym, ◌∙◌, ap, ap₂}
use mathlib.Core.List.{List, [], ◌∷◌, ◌++◌, append_assoc}
use Prim.Native.Nat.{ℕ, ◌+◌, ◌*◌, ◌<◌}
use native.Mathlib.Omega.{arith}
use lib.ListN.{length, get_or, set, drop, length-append, get_or-append}
use lib.Seq.{drop-append-add, set_at, take_at}
use Rattle.profile.specs.Lists.{flat_map}
use Rattle.profile.specs.Tables.{layout, packed, record_length}
use Rattle.profile.proofs.Lists.{flat_map_append, flat_map_getd, flat_map_length}
use Rattle.records.specs.Records.{counts_at, forward_at, last_at, put_record, records_in}
use Rattle.records.specs.Drafts.{draft}

module _ (f g : List ℕ → ℕ) (C : List (List ℕ)) where
  pub drafts_length : length (flat_map (draft f g) C) ≡ record_length layout * length C
  drafts_length = flat_map_length (draft f g) (record_length layout) (λ c. refl) C

  module _ (t rest : List ℕ) (e : t ≡ flat_map (draft f g) C ++ rest) where
    -- the part has the records of C and no further one
    pub records_of_drafts : length rest < record_length layout → records_in t ≡ length C
    records_of_drafts h = omega (arith, ap length e, length-append (flat_map (draft f g) C) rest, drafts_length)

    -- number i of record j is number i of the record of element j of C
    module _ (j : ℕ) (h : j < length C) where
      draft_number : (i : ℕ) → i < record_length layout → get_or t (record_length layout * j + i) 0 ≡ get_or (draft f g (get_or C j [])) i 0
      draft_number i k =
          ap (λ l. get_or l (record_length layout * j + i) 0) e
          ∙ get_or-append (flat_map (draft f g) C) rest 0 (record_length layout * j + i) (omega (arith, drafts_length))
          ∙ flat_map_getd (draft f g) (record_length layout) (λ c. refl) C j i [] 0 h k

      pub counts_of_draft : counts_at t j ≡ packed layout (get_or C j [])
      counts_of_draft = ap₂ ◌∷◌ (draft_number 0 (omega arith)) (ap₂ ◌∷◌ (draft_number 1 (omega arith)) (ap₂ ◌∷◌ (draft_number 2 (omega arith)) (ap₂ ◌∷◌ (draft_number 3 (omega arith)) (ap₂ ◌∷◌ (draft_number 4 (omega arith)) (ap₂ ◌∷◌ (draft_number 5 (omega arith)) (ap₂ ◌∷◌ (draft_number 6 (omega arith)) (ap (λ n. n ∷ []) (draft_number 7 (omega arith)))))))))

      pub forward_of_draft : forward_at t j ≡ f (get_or C j [])
      forward_of_draft = draft_number layout.numbers (omega arith)

      pub last_of_draft : last_at t j ≡ g (get_or C j [])
      last_of_draft = draft_number (layout.numbers + 1) (omega arith)

    -- a record put behind the last
    pub put_draft : (c : List ℕ) → put_record t (length C) (draft f g c) ≡ flat_map (draft f g) (C ++ (c ∷ [])) ++ drop (record_length layout) rest
    put_draft c =
        let F = flat_map (draft f g) C in
        let n = record_length layout * length C in
        ap (λ l. put_record l (length C) (draft f g c)) e
        ∙ ap₂ (λ l r. l ++ (draft f g c ++ r)) (take_at F rest n drafts_length)
        (ap (λ m. drop (m + record_length layout) (F ++ rest)) (sym drafts_length) ∙ drop-append-add F rest (record_length layout))
        ∙ sym (append_assoc F (draft f g c) (drop (record_length layout) rest))
        ∙ ap (λ l. l ++ drop (record_length layout) rest) (sym (flat_map_append (draft f g) C (c ∷ [])))

-- the last number put in place of that of the record behind those of C: it is h of the counts, as in those before it
pub put_last_draft : (f g h : List ℕ → ℕ) (C : List (List ℕ)) (c rest : List ℕ)
    → set (flat_map (draft f h) C ++ (draft f g c ++ rest)) (record_length layout * length C + (layout.numbers + 1)) (h c) ≡ flat_map (draft f h) (C ++ (c ∷ [])) ++ rest
put_last_draft f g h C c rest =
    let F = flat_map (draft f h) C in
    let front = packed layout c ++ (f c ∷ []) in
    let n = record_length layout * length C + (layout.numbers + 1) in
    let e : length (F ++ front) ≡ n = length-append F front ∙ ap (λ m. m + (layout.numbers + 1)) (drafts_length f h C) in
    ap (λ l. set l n (h c)) (sym (append_assoc F front (g c ∷ rest)))
    ∙ set_at (F ++ front) (g c) rest (h c) n e
    ∙ append_assoc F front (h c ∷ rest)
    ∙ sym (append_assoc F (draft f h c) rest)
    ∙ ap (λ l. l ++ rest) (sym (flat_map_append (draft f h) C (c ∷ [])))
