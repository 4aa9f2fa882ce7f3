-- What the prefixes with one letter less hand on to the next prefix: some letters that can be added to it, and others that can if they are among those.
use mathlib.Core.Path.{◌≡◌, sym, ◌∙◌, ap, subst}
use mathlib.Core.Bool.{Bool, true, false, true≢false}
use mathlib.Core.Logic.{◌≢◌}
use mathlib.Core.List.{List, []}
use Prim.Native.Nat.{ℕ, suc, ◌-◌, ◌%◌, ◌^◌, ◌≤◌, ◌<◌}
use native.Mathlib.Omega.{arith}
use lib.Bits.{bit_and, bit_or, and_mask}
use lib.Dec.{T, T_not, not_T}
use lib.ListN.{length, get_or, take, drop}
use lib.Pow.{pow-lt}
use lib.Seq.{split_at}
use Rattle.profile.specs.Rules.{Rules}
use Rattle.profile.specs.Automata.{Profile, union}
use Rattle.profile.specs.Lists.{Mem, below, filter}
use Rattle.profile.specs.Prefixes.{IsPrefix, addable?, at, less}
use Rattle.profile.specs.Tables.{layout, packed}
use Rattle.profile.specs.Traces.{bit, independent}
use Rattle.profile.proofs.Lists.{below_at, below_of, both, filter_agree, filter_at, filter_of, fst_of, mem_getd, snd_of}
use Rattle.profile.proofs.Sets.{bit_of_and, bit_below, bit_self, bit_single, union_at, union_of}
use Rattle.theory.proofs.Merge.{hits, hits_at}
use Rattle.theory.proofs.Prefixes.{removable?}
use Rattle.theory.proofs.Profiles.{distinct}
use Rattle.theory.proofs.SetLoops.{passing_below, passing_bit}
use Rattle.terms.specs.Coded.{event_letter, may_of}
use Rattle.parents.proofs.Complements.{bits_below, complement_bit}
use Rattle.parents.proofs.Parents.{hits_less, hits_removable, inherited as handed_on, passed_before}
use Rattle.cursors.proofs.Levels.{level_whole}
use Rattle.letters.specs.Letters.{Hands, letters_by, neither, tested_by}
use Rattle.letters.proofs.Handing.{handed_tested}
use Rattle.merge.specs.Merge.{givers, inherited, other_letters, passing}
use Rattle.records.specs.Records.{last_at}
use Rattle.records.proofs.Drafts.{last_of_draft}
use Rattle.forward.specs.Forward.{Ready}
use Rattle.forward.specs.Merging.{Placed}
use Rattle.forward.proofs.Steps.{cursor_at, next_givers, next_letters}
use Rattle.forward.proofs.Totals.{apart, counted}
use Rattle.records.proofs.Halves.{lower_half}
use Rattle.records.specs.Drafts.{addable_set, drafted, forward_set, letters_set, of_total, removable_set}

-- without terms an event is its letter
pub freely : (q : Profile) (termed : Bool) → termed ≡ false → (a b : ℕ) → T (independent q.masks (event_letter termed a) (event_letter termed b)) → T (may_of q.masks termed a b)
freely q false e a b h = h
freely q true e a b h = absurd (true≢false e)

module _ {p : Rules} {w : List ℕ} {m room : ℕ} {found : List ℕ → List ℕ} (r : Ready p w m room found) (n : ℕ) (t : List ℕ)
    (written : t ≡ drafted p w (of_total p w n)) (cursors : List ℕ) (long : p.profile.k ≤ length cursors) (j : ℕ) (placed : Placed p w n j cursors)
    (lt : j < length (of_total p w (suc n))) where
  abbrev k : ℕ
  k = p.profile.k

  abbrev masks : List ℕ
  masks = p.profile.masks

  abbrev C : List (List ℕ)
  C = of_total p w n

  abbrev E : List (List ℕ)
  E = of_total p w (suc n)

  abbrev e : List ℕ
  e = get_or E j []

  abbrev G : ℕ
  G = givers t k cursors

  abbrev I : ℕ
  I = inherited k t cursors G

  abbrev P : ℕ
  P = passing k masks G

  abbrev add : ℕ → Bool
  add = addable? p.may p.letter w (at e)

  abbrev own : ℕ → List ℕ
  own x = get_or C (at cursors x) []

  prefix : IsPrefix p.may p.letter w (at e)
  prefix = (counted r (suc n) e (mem_getd E j [] lt)).2

  -- the letters of G: e can have one less, and their cursors stand at that prefix
  module _ (x : ℕ) (i : Mem x (filter (bit G) (below k))) where
    inside : x < k
    inside = below_at k x (filter_at (bit G) (below k) i).0

    hit : T (hits C x e (at cursors x))
    hit = subst T (next_letters r n t written cursors long j placed lt x inside) (filter_at (bit G) (below k) i).1

    removable : T (removable? p.may p.letter w (at e) x)
    removable = subst T (hits_removable p.may p.letter (apart r) k w r.log.letters n (take j E) e (drop (suc j) E) (split_at E j [] lt) x (at cursors x) inside
        (cursor_at r n t written cursors long j placed lt x inside)) hit

    one_less : less (at e) x ≡ at (own x)
    one_less = hits_less p.may p.letter (apart r) k w r.log.letters n (take j E) e (drop (suc j) E) (split_at E j [] lt) x (at cursors x) inside
        (cursor_at r n t written cursors long j placed lt x inside) hit

    last_own : bit_and (last_at t (at cursors x)) 65535 ≡ addable_set p w (own x)
    last_own = and_mask (last_at t (at cursors x)) 16
        ∙ ap (λ n. n % 65536) (last_of_draft (forward_set p w) (letters_set p w) C t [] (level_whole (forward_set p w) (letters_set p w) C t written) (at cursors x) (hits_at C x e (at cursors x) hit).0)
        ∙ lower_half p w (own x) r.profile.relation.most

    -- its bits are the letters that can be added there, x aside
    others_at : (q : ℕ) → T (bit (other_letters t (at cursors x) x) q) → (q < k) × (x ≢ q) × T (addable? p.may p.letter w (less (at e) x) q)
    others_at q b =
        let s = subst T (bit_of_and (bit_and (last_at t (at cursors x)) 65535) (2 ^ 32 - 1 - 2 ^ x) q) b in
        let f = subst (λ S. T (bit S q)) last_own (fst_of (bit (bit_and (last_at t (at cursors x)) 65535) q) (bit (2 ^ 32 - 1 - 2 ^ x) q) s) in
        let h : q < k = bit_below k (addable_set p w (own x)) q (passing_below (addable? p.may p.letter w (at (own x))) k) f in
        let most = r.profile.relation.most in
        let c = subst T (complement_bit 32 (2 ^ x) q (pow-lt {j = 32} (omega (arith, inside))) (omega arith)) (snd_of (bit (bit_and (last_at t (at cursors x)) 65535) q) (bit (2 ^ 32 - 1 - 2 ^ x) q) s) in (
          h,
          (λ z. T_not (bit (2 ^ x) q) c (subst (λ y. T (bit (2 ^ x) y)) z (bit_self x))),
          subst (λ d. T (addable? p.may p.letter w d q)) (sym one_less) (subst T (passing_bit (addable? p.may p.letter w (at (own x))) k q h) f),
        )

    others_of : (q : ℕ) → q < k → x ≢ q → T (addable? p.may p.letter w (less (at e) x) q) → T (bit (other_letters t (at cursors x) x) q)
    others_of q h ne a =
        let most = r.profile.relation.most in
        let b : T (bit (bit_and (last_at t (at cursors x)) 65535) q) = subst (λ S. T (bit S q)) (sym last_own)
        (subst T (sym (passing_bit (addable? p.may p.letter w (at (own x))) k q h)) (subst (λ d. T (addable? p.may p.letter w d q)) one_less a)) in
        let c : T (bit (2 ^ 32 - 1 - 2 ^ x) q) = subst T (sym (complement_bit 32 (2 ^ x) q (pow-lt {j = 32} (omega (arith, inside))) (omega arith)))
        (not_T (bit (2 ^ x) q) (λ z. ne (bit_single x q z))) in
        subst T (sym (bit_of_and (bit_and (last_at t (at cursors x)) 65535) (2 ^ 32 - 1 - 2 ^ x) q)) (both (bit (bit_and (last_at t (at cursors x)) 65535) q) (bit (2 ^ 32 - 1 - 2 ^ x) q) b c)

  -- what is handed on can be added
  given_at : (q : ℕ) → T (bit I q) → (q < k) × T (add q)
  given_at q b =
      let u = union_at (λ x. other_letters t (at cursors x) x) (filter (bit G) (below k)) q b in
      let o = others_at u.0 u.1 q u.2 in
      (o.0, handed_on p.may p.letter (apart r) prefix u.0 q (removable u.0 u.1) o.1 o.2)

  -- letters that the masks let pass may pass
  module _ (free : (a b : ℕ) → T (independent masks (p.letter a) (p.letter b)) → T (p.may a b)) where
    -- what can be added and may pass one of the letters of G is handed on
    passed_at : (q : ℕ) → q < k → T (bit P q) → T (add q) → T (bit I q)
    passed_at q h b a =
        let u = union_at (λ x. get_or masks x 0) (filter (bit G) (below k)) q b in
        let x = u.0 in
        let before = passed_before p.may p.letter (apart r) prefix x q (removable x u.1)
        (λ a b l m. free a b (subst (λ y. T (independent masks y (p.letter b))) (sym l) (subst (λ y. T (independent masks x y)) (sym m) u.2))) a in
        union_of (λ x. other_letters t (at cursors x) x) q u.1 (others_of x u.1 q h (distinct masks r.profile.relation.own x q u.2) before)

  -- so what the finder is told is true
  pub hands : (termed : Bool) → (termed ≡ false → (a b : ℕ) → T (independent masks (p.letter a) (p.letter b)) → T (p.may a b)) → Hands termed (found (packed layout e)) I P
  hands termed free = (
    (λ q b. let g = given_at q b in subst (Mem q) (sym same) (filter_of add (below_of k q g.0) g.1)),
    λ plain q m b. let i = filter_at add (below k) (subst (Mem q) same m) in passed_at (free plain) q (below_at k q i.0) b i.1,
  )
    where
      same : found (packed layout e) ≡ filter add (below k)
      same = r.finds e prefix

  -- so, without terms, what is handed on and what passes the test by places are the letters that can be added
  pub handed_letters : (starts places : List ℕ) → found (packed layout e) ≡ letters_by (independent masks) k (length w) starts places (packed layout e)
      → ((a b : ℕ) → T (independent masks (p.letter a) (p.letter b)) → T (p.may a b))
      → bit_or I (tested_by (independent masks) k (length w) starts places (packed layout e) (neither k I P)) ≡ addable_set p w e
  handed_letters starts places by free =
      handed_tested (independent masks) k (length w) starts places (packed layout e) r.profile.relation.most I P
      (bits_below 32 I (λ q b. let most = r.profile.relation.most in omega (arith, (given_at q b).0)))
      (bits_below 32 P (λ q b. let u = union_at (λ x. get_or masks x 0) (filter (bit G) (below k)) q b in
      let most = r.profile.relation.most in omega (arith, (r.profile.relation.inside u.0 q u.2).1)))
      (subst (λ l. Hands false l I P) by (hands false (λ z. free)))
      ∙ ap (union (λ x. 2 ^ x)) (sym by ∙ r.finds e prefix)

  -- the letters whose cursors give it are those of which it can have one less
  pub handed_removable : G ≡ removable_set p w e
  handed_removable = next_givers r n t written cursors long j placed lt
      ∙ ap (union (λ x. 2 ^ x)) (filter_agree (λ x. hits C x e (at cursors x)) (removable? p.may p.letter w (at e)) (below k) (λ x m.
      let h = below_at k x m in
      hits_removable p.may p.letter (apart r) k w r.log.letters n (take j E) e (drop (suc j) E) (split_at E j [] lt) x (at cursors x) h
      (cursor_at r n t written cursors long j placed lt x h)))
