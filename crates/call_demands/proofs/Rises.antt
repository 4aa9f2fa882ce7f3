-- Every call's refusals stand in the order of the documents, so that the first that applies is "the lowest".
use mathlib.Core.Path.{◌≡◌, refl, sym, ◌∙◌, ap}
use mathlib.Core.Bool.{Bool, true, false, ◌&&◌, true≢false}
use mathlib.Core.Logic.{◌⊎◌, inl, inr}
use mathlib.Core.List.Memᴰ
use mathlib.Core.List.{List, [], ◌∷◌, ◌++◌, map}
use mathlib.Core.Option.{some, none-ne-some, some-injective}
use Prim.Native.Nat.{ℕ, ◌+◌, ◌*◌, ◌≤◌}
use native.Mathlib.Omega.{arith}
use lib.Dec.{T, leb, leb→le}
use Rattle.profile.specs.Automata.{Profile}
use Rattle.profile.specs.Lists.{Mem, all}
use Rattle.profile.specs.Refusals.{first_order_refusals, judge_refusals, log_refusals, lowest, of_log, refusal_number, relation_refusals}
use Rattle.profile.specs.declared.Refusal.{Refusal}
use Rattle.profile.proofs.Lists.{Rising, all_at, fst_of, snd_of}
use Rattle.table.specs.Table.{build_refusals}
use Rattle.logfile.specs.Files.{file_refusals, read_refusals}
use Rattle.filewriter.specs.Written.{write_refusals}
use Rattle.expression.specs.Making.{make_refusals}
use Rattle.running.specs.Running.{event_refusals, question_refusals, start_refusals}
use Rattle.running.specs.declared.Running.{Running}
use Rattle.terms.specs.Terms.{dated_refusals}
use Rattle.views.specs.Views.{view_refusals}
use Rattle.ceilings.specs.Ceilings.{bound_refusals}
use Rattle.grammar_judge.specs.GrammarJudge.{grammar_refusals}
use Rattle.closestanswer.specs.Answers.{closest_refusals}
use Rattle.closestterms.specs.Dated.{dated_closest_refusals}
use Rattle.call_demands.specs.Turns.{numbers, turns}

-- ---- the law

-- where the refusals rise by some rank, no other that applies has a lower one than the refusal that is given
module _ {A : Type 0} (rank : A → ℕ) where
  pub given_lowest : (l : List (Bool × A)) → Rising (map (λ (c : Bool × A). rank c.1) l) → {r : A} → lowest l ≡ some r
      → (c : Bool × A) → Mem c l → c.0 ≡ true → rank r ≤ rank c.1
  given_lowest [] h e c m t = absurd (none-ne-some _ e)
  given_lowest (d ∷ l) h {r} e c m t = go d.0 refl e (Memᴰ.cases_cons m) (λ s. given_lowest l h.1 {r = s})
    where
      same : c ≡ d → r ≡ d.1 → rank r ≤ rank c.1
      same i q = let z : rank r ≡ rank c.1 = ap rank q ∙ ap (λ (x : Bool × A). rank x.1) (sym i) in omega arith

      go : (b : Bool) → d.0 ≡ b → lowest (d ∷ l) ≡ some r → (c ≡ d) ⊎ Mem c l
          → ((s : A) → lowest l ≡ some s → (x : Bool × A) → Mem x l → x.0 ≡ true → rank s ≤ rank x.1) → rank r ≤ rank c.1
      go true q e (inl i) ih = same i (sym (some-injective _ _ (rw (q, lowest) at e)))
      go true q e (inr m) ih =
          let z : rank d.1 ≡ rank r = ap rank (some-injective _ _ (rw (q, lowest) at e)) in
          omega (arith, h.0 (rank c.1) (Memᴰ.map (λ (x : Bool × A). rank x.1) m))
      go false q e (inl i) ih = absurd (true≢false (sym t ∙ ap (λ (x : Bool × A). x.0) i ∙ q))
      go false q e (inr m) ih = ih r (rw (q, lowest) at e) c m t

-- rising, as a test
abbrev rising? : List ℕ → Bool
rising? [] = true
rising? (n ∷ l) = all (leb n) l && rising? l

rises : (l : List ℕ) → T (rising? l) → Rising l
rises [] t = tt
rises (n ∷ l) t = ((λ m i. leb→le n m (all_at (leb n) (fst_of (all (leb n) l) (rising? l) t) i)), rises l (snd_of (all (leb n) l) (rising? l) t))

-- ---- in turn, each call

-- 2, 4, 6, 7, 8, 9, 10
pub judge_turns : (p : Profile) (w : List ℕ) (n m : ℕ) → Rising (turns (judge_refusals p w n m))
judge_turns p w n m = rises (turns (judge_refusals p w n m)) tt

-- 2, 4, 6, 7, 8, 10
pub build_turns : (p : Profile) (w : List ℕ) (m : ℕ) → Rising (turns (build_refusals p w m))
build_turns p w m = rises (turns (build_refusals p w m)) tt

-- 2, 4, 7, 8, 9
pub first_order_turns : (k : ℕ) (masks w : List ℕ) (n : ℕ) → Rising (turns (first_order_refusals k masks w n))
first_order_turns k masks w n = rises (turns (first_order_refusals k masks w n)) tt

-- 1, 2, 3, 4, 6, 7, 8: `log_part` and `locate_log`; the reader, with 9
pub file_turns : (f : List ℕ) → Rising (turns (file_refusals f))
file_turns f = rises (turns (file_refusals f)) tt

pub read_turns : (f : List ℕ) (a b : ℕ) → Rising (turns (read_refusals f a b))
read_turns f a b = rises (turns (read_refusals f a b)) tt

-- 2, 4, 6, 7, 8, 9
pub write_turns : (p : Profile) (w : List ℕ) (m : ℕ) → Rising (turns (write_refusals p w m))
write_turns p w m = rises (turns (write_refusals p w m)) tt

-- 2, 11, 12, 13, 9
pub expression_turns : (k : ℕ) (u : List ℕ) (n : ℕ) → Rising (turns (make_refusals k u n))
expression_turns k u n = rises (turns (make_refusals k u n)) tt

-- 2, 4, 6, 10; 2, 4, 6, 7, 8, 10; 2, 4, 6, 10: the running judge's start, event and question
pub start_turns : (p : Profile) (n : ℕ) → Rising (turns (start_refusals p n))
start_turns p n = rises (turns (start_refusals p n)) tt

pub event_turns : (p : Profile) (w : List ℕ) (r : Running) (a n : ℕ) → Rising (turns (event_refusals p w r a n))
event_turns p w r a n = rises (turns (event_refusals p w r a n)) tt

pub question_turns : (p : Profile) (r : Running) (n : ℕ) → Rising (turns (question_refusals p r n))
question_turns p r n = rises (turns (question_refusals p r n)) tt

-- 2, 4, 6, 7, 8, 14, 15, 16, 9, 10
pub terms_turns : (p : Profile) (w days terms : List ℕ) (n m : ℕ) → Rising (turns (dated_refusals p w days terms n m))
terms_turns p w days terms n m = rises (turns (dated_refusals p w days terms n m)) tt

-- the judge's, then 17; those of the judge with terms, then 17
pub closest_turns : (p : Profile) (w : List ℕ) (n m l : ℕ) → Rising (turns (closest_refusals p w n m l))
closest_turns p w n m l = rises (turns (closest_refusals p w n m l)) tt

pub closest_terms_turns : (p : Profile) (w days terms : List ℕ) (n m l : ℕ) → Rising (turns (dated_closest_refusals p w days terms n m l))
closest_terms_turns p w days terms n m l = rises (turns (dated_closest_refusals p w days terms n m l)) tt

-- 2, 4, 7, 8, 18, 19
pub ceiling_turns : (k : ℕ) (masks w groups : List ℕ) → Rising (turns (bound_refusals k masks w groups))
ceiling_turns k masks w groups = rises (turns (bound_refusals k masks w groups)) tt

-- 2, 4, 6, 20, 7, 8, 9, 10
pub view_turns : (p : Profile) (visible : ℕ) (w : List ℕ) (n m : ℕ) → Rising (turns (view_refusals p visible w n m))
view_turns p visible w n m = rises (turns (view_refusals p visible w n m)) tt

-- 2, 4, 21, 7, 8, 9, 10, 22
pub grammar_turns : (k : ℕ) (masks : List ℕ) (names : ℕ) (rules w : List ℕ) (n m z : ℕ) → Rising (turns (grammar_refusals k masks names rules w n m z))
grammar_turns k masks names rules w n m z = rises (turns (grammar_refusals k masks names rules w n m z)) tt

-- "Same alone departs from this: it checks its first log by 7 and 8, then its second": by the log's number, then by turn
pub same_turns : (k : ℕ) (masks v w : List ℕ) → Rising (map (λ (c : Bool × (Refusal × ℕ)). 100 * c.1.1 + refusal_number c.1.0)
    (of_log 0 (relation_refusals k masks) ++ (of_log 1 (log_refusals k v) ++ of_log 2 (log_refusals k w))))
same_turns k masks v w = rises (map (λ (c : Bool × (Refusal × ℕ)). 100 * c.1.1 + refusal_number c.1.0)
    (of_log 0 (relation_refusals k masks) ++ (of_log 1 (log_refusals k v) ++ of_log 2 (log_refusals k w)))) tt

-- ---- by number too, beside `judge_rises`, `first_order_rises`, `read_rises`, `write_rises` and `bound_rises`

pub build_rises : (p : Profile) (w : List ℕ) (m : ℕ) → Rising (numbers (build_refusals p w m))
build_rises p w m = rises (numbers (build_refusals p w m)) tt

pub file_rises : (f : List ℕ) → Rising (numbers (file_refusals f))
file_rises f = rises (numbers (file_refusals f)) tt

pub start_rises : (p : Profile) (n : ℕ) → Rising (numbers (start_refusals p n))
start_rises p n = rises (numbers (start_refusals p n)) tt

pub event_rises : (p : Profile) (w : List ℕ) (r : Running) (a n : ℕ) → Rising (numbers (event_refusals p w r a n))
event_rises p w r a n = rises (numbers (event_refusals p w r a n)) tt

pub question_rises : (p : Profile) (r : Running) (n : ℕ) → Rising (numbers (question_refusals p r n))
question_rises p r n = rises (numbers (question_refusals p r n)) tt

pub closest_rises : (p : Profile) (w : List ℕ) (n m l : ℕ) → Rising (numbers (closest_refusals p w n m l))
closest_rises p w n m l = rises (numbers (closest_refusals p w n m l)) tt
