-- The records of a table that holds the prefixes of a log are the prefixes of its trace, where the masks are symmetric.
use mathlib.Core.Path.{◌≡◌, refl, sym, ◌∙◌, ap, subst, fun_ext}
use mathlib.Core.Logic.{⊎_elim, ◌↔◌, ◌≢◌}
use mathlib.Core.List.Memᴰ
use mathlib.Core.List.{List, []}
use Prim.Native.Nat.{ℕ, ◌+◌, ◌*◌, ◌/◌, ◌%◌, ◌^◌, ◌≤◌, ◌<◌}
use native.Mathlib.Nat.{zero-add}
use native.Mathlib.Omega.{arith}
use lib.Dec.{T}
use lib.ListN.{length, get_or, drop, get_or-eq_default}
use lib.Seq.{ext_get_or, get_or-drop}
use Rattle.profile.specs.Limits.{most_letters}
use Rattle.profile.specs.Automata.{Profile, automaton}
use Rattle.profile.specs.Prefixes.{IsPrefix, at, backward, by_total, count, forward, marked, prefix_count, prefixes}
use Rattle.profile.specs.Source.{InTrace, TracePrefix}
use Rattle.profile.specs.Tables.{count_field, layout, record_length}
use Rattle.profile.specs.Traces.{Symmetric, bit, independent}
use Rattle.profile.proofs.Lists.{lt_or_le}
use Rattle.theory.proofs.Agreement.{counts_identify, forward_trace, marked_representatives, prefix_trace}
use Rattle.theory.proofs.Counting.{at_map, count_above, prefixes_at}
use Rattle.theory.proofs.OldRecords.{count_is}
use Rattle.theory.proofs.Prefixes.{count_of_prefix}
use Rattle.theory.proofs.Profiles.{distinct, lawful}
use Rattle.theory.proofs.Refusals.{GoodLog, GoodProfile}
use Rattle.theory.proofs.Tables.{Holds, holds_backward, holds_find, holds_forward, holds_once, holds_prefix}
use Rattle.demands.specs.Rests.{LeadsToFinal}
use Rattle.demands.specs.Traces.{HoldsTraces, RecordOf}
use Rattle.demands.proofs.Rests.{backward_trace}

module _ (p : Profile) (w before t : List ℕ) (good : GoodProfile p) (log : GoodLog p.k w) (symmetric : Symmetric (independent p.masks))
    (h : Holds layout (independent p.masks) (λ a. a) (automaton p) p.k w before t) where
  abbrev P : ℕ
  P = prefix_count (independent p.masks) (λ a. a) p.k w

  -- letters that may be exchanged are different
  apart : (a b : ℕ) → T (independent p.masks a b) → a ≢ b
  apart = distinct p.masks good.relation.own

  -- the counts of record r
  abbrev listed : ℕ → List ℕ
  listed r = get_or (by_total (independent p.masks) (λ a. a) p.k w) r []

  listed_prefix : (r : ℕ) → r < P → (length (listed r) ≡ p.k) × IsPrefix (independent p.masks) (λ a. a) w (at (listed r))
  listed_prefix r lt = prefixes_at (independent p.masks) (λ a. a) p.k w (listed r) h.letters (holds_prefix h r lt)

  count_here : (r : ℕ) → r < P → (a : ℕ) → a < most_letters → count_field layout (drop (record_length layout * r) t) a ≡ at (listed r) a
  count_here r lt a l =
      let small : a / 2 < 8 = omega arith in
      ap (λ n. n / 2 ^ (16 * (a % 2)) % 2 ^ 16) (get_or-drop (record_length layout * r) t (a / 2) 0
      ∙ ap (λ j. get_or t (record_length layout * r + j) 0) (sym (zero-add (a / 2))) ∙ sym (at_map (λ j. get_or t (record_length layout * r + j) 0) 8 0 (a / 2) small))
      ∙ count_is h r lt (omega (arith, log.short)) a (omega arith)

  -- no letter from k on is in a prefix
  none_above : {x : List ℕ} → TracePrefix (independent p.masks) w x → (a : ℕ) → p.k ≤ a → count (λ b. b) x a ≡ 0
  none_above {x} t a le =
      let c = (prefix_trace (independent p.masks) (λ b. b) symmetric apart w (count (λ b. b) x)).1 (x, t, refl) in
      omega (arith, c.fits a, count_above (λ b. b) p.k w a h.letters le)

  -- record r has all counts of x
  counts_are : (r : ℕ) (x : List ℕ) → RecordOf p w t P r x → count (λ a. a) x ≡ at (listed r)
  counts_are r x o = fun_ext (λ a. ⊎_elim (λ l. sym (o.counts a l) ∙ count_here r o.placed a l)
      (λ le. none_above o.prefix a (omega (arith, good.relation.most))
      ∙ sym (get_or-eq_default (listed r) 0 {n = a} (omega (arith, (listed_prefix r o.placed).0, good.relation.most)))) (lt_or_le a most_letters))

  -- and the other way round
  record_is : (r : ℕ) (x : List ℕ) → r < P → TracePrefix (independent p.masks) w x → count (λ a. a) x ≡ at (listed r) → RecordOf p w t P r x
  record_is r x lt q e = record { placed = lt; prefix = q; counts = λ a l. count_here r lt a l ∙ ap (λ f. f a) (sym e) }

  -- the place of a prefix of [w]
  place : (x : List ℕ) → TracePrefix (independent p.masks) w x → (r : ℕ) × RecordOf p w t P r x
  place x q =
      let all = marked_representatives (independent p.masks) (λ a. a) symmetric apart p.k w h.letters in
      let n = all.every x q in
      let f = Memᴰ.of_map (λ c. marked (λ a. a) w (at c)) (prefixes (independent p.masks) (λ a. a) p.k w) n.1 in
      let c = (prefixes_at (independent p.masks) (λ a. a) p.k w f.0 h.letters f.1).1 in
      let r = holds_find h f.0 f.1 in
      let e = (counts_identify (independent p.masks) (λ a. a) symmetric apart q (all.prefix n.0 n.1)).1 n.2 in
      (r.0, record_is r.0 x r.1 q (e ∙ ap (count (λ a. a)) (sym f.2) ∙ count_of_prefix (independent p.masks) (λ a. a) c ∙ ap at (sym r.2)))

  pub holds_traces : HoldsTraces p w t P
  holds_traces = record {
    has_prefix = λ r lt. let n = (prefix_trace (independent p.masks) (λ a. a) symmetric apart w (at (listed r))).0 (listed_prefix r lt).1 in (n.0, record_is r n.0 lt n.1 n.2);
    one_prefix = λ r x y o q. (counts_identify (independent p.masks) (λ a. a) symmetric apart o.prefix q.prefix).0 (counts_are r x o ∙ sym (counts_are r y q));
    has_record = place;
    one_record = λ r r' x y o q c. holds_once h r r' o.placed q.placed
        (ext_get_or 0 (listed r) (listed r') ((listed_prefix r o.placed).0 ∙ sym (listed_prefix r' q.placed).0)
        (λ i l. ap (λ f. f i) (sym (counts_are r x o) ∙ (counts_identify (independent p.masks) (λ a. a) symmetric apart o.prefix q.prefix).1 c ∙ counts_are r' y q)));
    forward = λ r x o q. subst (λ n. T (bit n q) ↔ InTrace (independent p.masks) (λ a. a) (automaton p) x q)
        (sym (holds_forward h r o.placed ∙ ap (forward (independent p.masks) (λ a. a) (automaton p) w) (sym (counts_are r x o))))
        (forward_trace (independent p.masks) (λ a. a) symmetric apart (automaton p) (lawful p) q o.prefix);
    backward = λ r x o q. subst (λ n. T (bit n q) ↔ LeadsToFinal (independent p.masks) (λ a. a) (automaton p) o.prefix.rest q)
        (sym (holds_backward h r o.placed ∙ ap (backward (independent p.masks) (λ a. a) (automaton p) w) (sym (counts_are r x o))))
        (backward_trace (independent p.masks) (λ a. a) symmetric apart (automaton p) (lawful p) q o.prefix);
  }
