-- Agreement with Avellone and Goldwurm (1998), where exchanges go both ways: reachable logs are the words of a trace, prefixes are the prefixes of
-- a trace, P is their number, forward sets are their sets V_t, and a log has an accepted order exactly when its trace is in the trace language.
use mathlib.Core.Path.{◌≡◌, refl, sym, ◌∙◌, ap, subst, fun_ext}
use mathlib.Core.Bool.{Bool}
use mathlib.Core.Logic.{⊎_elim, ◌↔◌, ◌≢◌}
use mathlib.Core.List.Memᴰ
use mathlib.Core.List.{List, map}
use mathlib.Core.Option.{Option, none, some}
use Prim.Native.Nat.{ℕ, ◌≤◌}
use native.Mathlib.Nat.{zero-add}
use native.Mathlib.Omega.{arith}
use lib.Dec.{T}
use lib.ListN.{length, length-map, get_or-eq_default}
use lib.Seq.{ext_get_or}
use Rattle.profile.specs.Automata.{Automaton}
use Rattle.profile.specs.Lists.{Mem, below}
use Rattle.profile.specs.Orders.{Same, accepted_order, first_order}
use Rattle.profile.specs.Prefixes.{IsPrefix, at, count, forward, marked, prefix_count, prefixes}
use Rattle.profile.specs.Source.{Congruent, InLanguage, InTrace, TracePrefix, cong_sym}
use Rattle.profile.specs.Traces.{Reachable, Symmetric, bit, letters_below}
use Rattle.theory.proofs.Automata.{Lawful, forward_at, forward_of}
use Rattle.theory.proofs.Counting.{at_map, count_above, length_range, prefix_count_of, prefixes_at, prefixes_nodup, prefixes_of}
use Rattle.theory.proofs.Earliest.{first_same, same_first}
use Rattle.theory.proofs.Judgement.{accepted_order_at, accepted_order_not}
use Rattle.profile.proofs.Lists.{NoDup, lt_or_le, map_nodup_on}
use Rattle.theory.proofs.Prefixes.{count_of_prefix, count_order, prefix_of_takes, takes_of_prefix}
use Rattle.profile.proofs.Traces.{Order, Takes, cong_of_reach, order_of_reach, order_trans, reach_of_cong, reach_of_order, reach_of_takes, reach_sym, reach_trans, takes_refl, takes_split}

-- l holds one word of each prefix of [w]
pub record Representatives (may : ℕ → ℕ → Bool) (w : List ℕ) (l : List (List ℕ)) : Type 0 where
  pub prefix : (x : List ℕ) → Mem x l → TracePrefix may w x
  pub once : NoDup l
  pub apart : (x y : List ℕ) → Mem x l → Mem y l → Congruent may x y → x ≡ y
  pub every : (x : List ℕ) → TracePrefix may w x → (y : List ℕ) × Mem y l × Congruent may x y

module _ (may : ℕ → ℕ → Bool) (letter : ℕ → ℕ) (symmetric : Symmetric may) where
  -- ---- traces

  -- the logs reachable from w are the words of [w]
  pub reachable_congruent : (w v : List ℕ) → Reachable may w v ↔ Congruent may w v
  reachable_congruent w v = (cong_of_reach may, reach_of_cong may symmetric)

  -- same logs have the same trace
  pub same_congruent : (v w : List ℕ) → Same may v w ↔ Congruent may v w
  same_congruent v w = (λ s. cong_of_reach may s.0, λ c. let r = reach_of_cong may symmetric c in (r, reach_sym may symmetric r))

  -- the first order is a normal form of the trace
  pub first_order_normal_form : (v w : List ℕ) → (first_order may v ≡ first_order may w) ↔ Congruent may v w
  first_order_normal_form v w = (
    λ e. (same_congruent v w).0 (first_same may symmetric e),
    λ c. let s = (same_congruent v w).1 c in same_first may s.0 s.1,
  )

  -- the words of a trace have the same counts
  count_congruent : {x y : List ℕ} → Congruent may x y → count letter x ≡ count letter y
  count_congruent c = count_order may letter (order_of_reach may (reach_of_cong may symmetric c))

  -- what may be taken from w one by one is a prefix of [w], and the other way round
  trace_of_takes : {w x r : List ℕ} → Takes may w x r → TracePrefix may w x
  trace_of_takes {r = r} t = record { rest = r; whole = cong_sym (cong_of_reach may (reach_of_takes may t)) }

  takes_of_trace : {w x : List ℕ} → TracePrefix may w x → (r : List ℕ) × Takes may w x r
  takes_of_trace {x = x} p = let n = takes_split may x (order_of_reach may (reach_of_cong may symmetric (cong_sym p.whole))) in (n.0, n.1)

  -- ---- the verdict

  -- there is an accepted order exactly when [w] is in [L]
  pub verdict_language : (M : Automaton) (L : Lawful M) (w : List ℕ) → ((v : List ℕ) × (accepted_order may letter M w ≡ some v)) ↔ InLanguage may letter M w
  verdict_language M L w = (
    λ n. let e = accepted_order_at may letter M L n.1 in record { word = e.order; same = cong_of_reach may e.reached; accepted = e.accepted },
    λ l. go l (accepted_order may letter M w) refl,
  )
    where
      go : InLanguage may letter M w → (o : Option (List ℕ)) → accepted_order may letter M w ≡ o → (v : List ℕ) × (accepted_order may letter M w ≡ some v)
      go l none e = absurd (accepted_order_not may letter M L e (reach_of_cong may symmetric l.same) l.accepted)
      go l (some v) e = (v, e)

  -- ---- prefixes of a trace

  -- the marked events of a prefix are a prefix of [w]
  trace_of_prefix : {w : List ℕ} {c : ℕ → ℕ} → IsPrefix may letter w c → TracePrefix may w (marked letter w c)
  trace_of_prefix {w} {c} p = trace_of_takes (takes_of_prefix may letter p (takes_refl may (marked letter w c)))

  module _ (distinct : (a b : ℕ) → T (may a b) → letter a ≢ letter b) where
    -- the counts of a prefix of [w] are a prefix of w, and its marked events are in the same trace
    prefix_of_trace : {w x : List ℕ} → TracePrefix may w x → IsPrefix may letter w (count letter x) × Order may (marked letter w (count letter x)) x
    prefix_of_trace p = let n = prefix_of_takes may letter distinct (takes_of_trace p).1 in (n.0, n.2)

    -- the prefixes of w are the counts of the prefixes of [w]
    pub prefix_trace : (w : List ℕ) (c : ℕ → ℕ) → IsPrefix may letter w c ↔ ((x : List ℕ) × TracePrefix may w x × (count letter x ≡ c))
    prefix_trace w c = (
      λ p. (marked letter w c, trace_of_prefix p, count_of_prefix may letter p),
      λ n. subst (IsPrefix may letter w) n.2 (prefix_of_trace n.1).0,
    )

    -- a prefix of [w] is known by its counts
    pub counts_identify : {w x y : List ℕ} → TracePrefix may w x → TracePrefix may w y → (count letter x ≡ count letter y) ↔ Congruent may x y
    counts_identify {w} {x} {y} p q = (
      λ e. cong_of_reach may (reach_trans may (reach_sym may symmetric (reach_of_order may (prefix_of_trace p).1))
          (reach_of_order may (subst (λ c. Order may (marked letter w c) y) (sym e) (prefix_of_trace q).1))),
      count_congruent,
    )

    -- the forward set of a prefix is V_t, t the prefix of [w] with these counts
    pub forward_trace : (M : Automaton) (L : Lawful M) {w x : List ℕ} (q : ℕ) → TracePrefix may w x
        → T (bit (forward may letter M w (count letter x)) q) ↔ InTrace may letter M x q
    forward_trace M L {w} {x} q p = let o = (prefix_of_trace p).1 in (
      λ h. let f = forward_at may letter M L w (count letter x) q h in record {
        word = f.0;
        same = cong_of_reach may (reach_trans may (reach_sym may symmetric (reach_of_order may o)) (reach_of_order may f.2));
        from = f.1;
        starts = f.3;
        leads = f.4;
      },
      λ t. forward_of may letter M L w (count letter x) (order_trans may o (order_of_reach may (reach_of_cong may symmetric t.same))) t.starts t.leads,
    )

    -- ---- the number of prefixes

    module _ (k : ℕ) (w : List ℕ) (letters : T (letters_below letter k w)) where
      -- the counts of a log, listed
      abbrev counts : List ℕ → List ℕ
      counts x = map (count letter x) (below k)

      -- no letter from k on is counted, so the list has all counts
      at_counts : {x : List ℕ} → TracePrefix may w x → at (counts x) ≡ count letter x
      at_counts {x} p = fun_ext (λ y. ⊎_elim (λ lt. at_map (count letter x) k 0 y lt ∙ ap (count letter x) (zero-add y))
          (λ le. get_or-eq_default (counts x) 0 {n = y} (omega (arith, length_range (count letter x) k 0)) ∙ sym (none_above y le)) (lt_or_le y k))
        where
          none_above : (y : ℕ) → k ≤ y → count letter x y ≡ 0
          none_above y le = omega (arith, (prefix_of_trace p).0.fits y, count_above letter k w y letters le)

      -- the counts of a prefix of [w] stand in the list of prefixes
      listed : {x : List ℕ} → TracePrefix may w x → Mem (counts x) (prefixes may letter k w)
      listed {x} p = prefixes_of may letter k w (counts x) (length_range (count letter x) k 0) (subst (IsPrefix may letter w) (sym (at_counts p)) (prefix_of_trace p).0)

      -- the marked events of a listed prefix have its counts
      counts_marked : (c : List ℕ) → Mem c (prefixes may letter k w) → TracePrefix may w (marked letter w (at c)) × (counts (marked letter w (at c)) ≡ c)
      counts_marked c m =
          let p = prefixes_at may letter k w c letters m in
          let t = trace_of_prefix p.1 in
          let x = marked letter w (at c) in
          (t, ext_get_or 0 (counts x) c (length_range (count letter x) k 0 ∙ sym p.0) (λ i h. ap (λ f. f i) (at_counts t ∙ count_of_prefix may letter p.1)))

      -- the marked events of the prefixes of w represent the prefixes of [w]
      pub marked_representatives : Representatives may w (map (λ c. marked letter w (at c)) (prefixes may letter k w))
      marked_representatives = record {
        prefix = λ x m. let n = Memᴰ.of_map word (prefixes may letter k w) m in subst (TracePrefix may w) n.2 (counts_marked n.0 n.1).0;
        once = map_nodup_on word (prefixes may letter k w) (λ c d m n e. sym (counts_marked c m).1 ∙ ap counts e ∙ (counts_marked d n).1) (prefixes_nodup may letter k w);
        apart = λ x y m n c.
            let f = Memᴰ.of_map word (prefixes may letter k w) m in
            let g = Memᴰ.of_map word (prefixes may letter k w) n in
            let e : f.0 ≡ g.0 = sym (counts_marked f.0 f.1).1 ∙ ap counts f.2 ∙ ap (λ h. map h (below k)) (count_congruent c)
            ∙ sym (ap counts g.2) ∙ (counts_marked g.0 g.1).1 in
            sym f.2 ∙ ap word e ∙ g.2;
        every = λ x p. (
          word (counts x),
          Memᴰ.map word (listed p),
          subst (λ c. Congruent may x (marked letter w c)) (sym (at_counts p)) (cong_sym (cong_of_reach may (reach_of_order may (prefix_of_trace p).1))),
        );
      }
        where
          word : List ℕ → List ℕ
          word c = marked letter w (at c)

      -- P is the number of prefixes of [w]
      pub prefix_count_traces : (l : List (List ℕ)) × Representatives may w l × (length l ≡ prefix_count may letter k w)
      prefix_count_traces = (_, marked_representatives, length-map (prefixes may letter k w) (λ c. marked letter w (at c)))

      -- and so many words represent them, however they are chosen
      pub representatives_length : (l : List (List ℕ)) → Representatives may w l → length l ≡ prefix_count may letter k w
      representatives_length l r = sym (length-map l counts) ∙ prefix_count_of may letter k w (map counts l)
          (map_nodup_on counts l (λ x y m n e. r.apart x y m n ((counts_identify (r.prefix x m) (r.prefix y n)).0
          (sym (at_counts (r.prefix x m)) ∙ ap at e ∙ at_counts (r.prefix y n)))) r.once)
          (λ c m. let n = Memᴰ.of_map counts l m in Memᴰ.cast (sym n.2) (listed (r.prefix n.0 n.1)))
          (λ c m.
          let n = counts_marked c m in
          let y = r.every (marked letter w (at c)) n.0 in
          Memᴰ.cast (sym n.1 ∙ ap (λ f. map f (below k)) (count_congruent y.2)) (Memᴰ.map counts y.1))
