-- The table while it is built: records behind others, a total behind those before it, and the parts that are lent.
use mathlib.Core.Path.{◌≡◌, refl, sym, ◌∙◌, ap, ap₂, subst}
use mathlib.Core.List.{List, [], ◌∷◌, ◌++◌, append_assoc, append-nil}
use Prim.Native.Nat.{ℕ, zero, suc, ◌+◌, ◌-◌, ◌*◌, ◌≤◌}
use native.Mathlib.Nat.{add-zero}
use native.Mathlib.Omega.{arith}
use borrow.Rule.Slice.PartMut.{mid_of, post_of, put_mid}
use lib.ListN.{length, take, drop, length-append, length-drop, drop_of_length-le}
use lib.Seq.{drop-append-add, drop_at, drop-drop, take-add, take_all, take_at}
use Rattle.profile.specs.Rules.{Rules}
use Rattle.profile.specs.Lists.{below, flat_map}
use Rattle.profile.specs.Tables.{layout, record_length}
use Rattle.profile.proofs.Lists.{below_suc, flat_map_append, flat_map_length}
use Rattle.records.specs.Records.{put_record}
use Rattle.records.proofs.Drafts.{put_draft}
use Rattle.forward.specs.Merging.{begun, totals}
use Rattle.records.specs.Drafts.{draft, drafted, forward_set, letters_set, of_total}

module _ (p : Rules) (w : List ℕ) where
  pub totals_suc : (t : ℕ) → totals p w (suc t) ≡ totals p w t ++ of_total p w t
  totals_suc t =
      ap (flat_map (of_total p w)) (below_suc t) ∙ flat_map_append (of_total p w) (below t) (t ∷ [])
      ∙ ap (λ l. totals p w t ++ l) (append-nil (of_total p w t))

  -- what comes behind the totals below t
  pub totals_more : (t n : ℕ) → t ≤ n → (D : List (List ℕ)) × (totals p w n ≡ totals p w t ++ D)
  totals_more t n le =
      let e : t + (n - t) ≡ n = omega arith in
      subst (λ m. (D : List (List ℕ)) × (totals p w m ≡ totals p w t ++ D)) e (go (n - t))
    where
      go : (d : ℕ) → (D : List (List ℕ)) × (totals p w (t + d) ≡ totals p w t ++ D)
      go zero = ([], ap (totals p w) (add-zero t) ∙ sym (append-nil (totals p w t)))
      go (suc d) =
          let r = go d in
          let e : t + suc d ≡ suc (t + d) = omega arith in (
            r.0 ++ of_total p w (t + d),
            ap (totals p w) e ∙ totals_suc (t + d) ∙ ap (λ l. l ++ of_total p w (t + d)) r.1 ∙ append_assoc (totals p w t) r.0 (of_total p w (t + d)),
          )

  pub totals_le : (t n : ℕ) → t ≤ n → length (totals p w t) ≤ length (totals p w n)
  totals_le t n le = let r = totals_more t n le in omega (arith, ap length r.1, length-append (totals p w t) r.0)

  drafted_length : (C : List (List ℕ)) → length (drafted p w C) ≡ record_length layout * length C
  drafted_length = flat_map_length (draft (forward_set p w) (letters_set p w)) (record_length layout) (λ c. refl)

  drafted_append : (C D : List (List ℕ)) → drafted p w (C ++ D) ≡ drafted p w C ++ drafted p w D
  drafted_append = flat_map_append (draft (forward_set p w) (letters_set p w))

  -- more records over those of C
  pub begun_again : (C D : List (List ℕ)) (t : List ℕ) → begun p w (C ++ D) (begun p w C t) ≡ begun p w (C ++ D) t
  begun_again C D t =
      let n = record_length layout * length C in
      let m = record_length layout * length D in
      let e : record_length layout * length (C ++ D) ≡ n + m = omega (arith, length-append C D) in
      ap (λ l. drafted p w (C ++ D) ++ l)
      (ap (λ i. drop i (begun p w C t)) (e ∙ ap (λ i. i + m) (sym (drafted_length C)))
      ∙ drop-append-add (drafted p w C) (drop n t) m ∙ drop-drop m n t ∙ ap (λ i. drop i t) (sym e))

  pub begun_same : (C : List (List ℕ)) (t : List ℕ) → begun p w C (begun p w C t) ≡ begun p w C t
  begun_same C t = ap (λ D. begun p w D (begun p w C t)) (sym (append-nil C)) ∙ begun_again C [] t ∙ ap (λ D. begun p w D t) (append-nil C)

  -- the record of c behind those of C
  pub begun_put : (C : List (List ℕ)) (c t : List ℕ) → t ≡ begun p w C t
      → put_record t (length C) (draft (forward_set p w) (letters_set p w) c) ≡ begun p w (C ++ (c ∷ [])) t
  begun_put C c t h =
      let n = record_length layout * length C in
      let e : n + record_length layout ≡ record_length layout * length (C ++ (c ∷ [])) = omega (arith, length-append C (c ∷ [])) in
      put_draft (forward_set p w) (letters_set p w) C t (drop n t) h c
      ∙ ap (λ l. drafted p w (C ++ (c ∷ [])) ++ l) (drop-drop (record_length layout) n t ∙ ap (λ i. drop i t) e)

  -- the part with the records of C, between those of B and of D
  pub begun_part : (B C D : List (List ℕ)) (t : List ℕ) (start end : ℕ) → t ≡ begun p w ((B ++ C) ++ D) t
      → start ≡ record_length layout * length B → end ≡ record_length layout * length (B ++ C) → take (end - start) (drop start t) ≡ drafted p w C
  begun_part B C D t start end h b e =
      let rest = drop (record_length layout * length ((B ++ C) ++ D)) t in
      let m : length (drafted p w C) ≡ end - start = omega (arith, length-append B C, drafted_length C) in
      let q : t ≡ drafted p w B ++ (drafted p w C ++ (drafted p w D ++ rest)) = h
      ∙ ap (λ l. l ++ rest) (drafted_append (B ++ C) D ∙ ap (λ l. l ++ drafted p w D) (drafted_append B C)) ∙ simp append_assoc in
      ap (take (end - start)) (ap (drop start) q ∙ drop_at (drafted p w B) (drafted p w C ++ (drafted p w D ++ rest)) start (drafted_length B ∙ sym b))
      ∙ take_at (drafted p w C) (drafted p w D ++ rest) (end - start) m

-- a record put into the part of the table from record `first` on, which was lent
pub put_part : (t v : List ℕ) (first j : ℕ)
    → put_mid (record_length layout * first) (length t - record_length layout * first) t (put_record (mid_of (record_length layout * first) (length t - record_length layout * first) t) j v)
    ≡ put_record t (first + j) v
put_part t v first j =
    let a = record_length layout * first in
    let b = record_length layout * j in
    let m : a + b ≡ record_length layout * (first + j) = omega arith in
    let n : a + (b + record_length layout) ≡ record_length layout * (first + j) + record_length layout = omega arith in
    let part : mid_of a (length t - a) t ≡ drop a t = take_all (length t - a) (drop a t) (omega (arith, length-drop a t)) in
    let none : post_of a (length t - a) t ≡ [] = drop_of_length-le (drop a t) {i = length t - a} (omega (arith, length-drop a t)) in
    ap₂ (λ l r. take a t ++ (put_record l j v ++ r)) part none
    ∙ ap (λ l. take a t ++ l) (append-nil (put_record (drop a t) j v))
    ∙ sym (append_assoc (take a t) (take b (drop a t)) (v ++ drop (b + record_length layout) (drop a t)))
    ∙ ap₂ (λ l r. l ++ (v ++ r)) (sym (take-add a b t) ∙ ap (λ i. take i t) m) (drop-drop (b + record_length layout) a t ∙ ap (λ i. drop i t) n)
