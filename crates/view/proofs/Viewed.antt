-- The answer of a view from that for the visible part.
use mathlib.Core.Path.{◌≡◌, refl, sym, ◌∙◌, ap, subst}
use mathlib.Core.Bool.{Bool, false, not, cond}
use mathlib.Core.List.Memᴰ
use mathlib.Core.List.{List, [], ◌∷◌}
use mathlib.Core.Option.{none, some}
use Prim.Native.Nat.{ℕ, ◌≤◌, ◌<◌}
use borrow.Author.Tests.{lt-ltb}
use lib.Dec.{T, eqb}
use lib.ListN.{length}
use Rattle.profile.specs.Lists.{Mem, all}
use Rattle.profile.specs.Traces.{independent}
use Rattle.profile.specs.Automata.{Profile}
use Rattle.profile.specs.Orders.{accepted_order}
use Rattle.profile.specs.Prefixes.{looks, prefix_count}
use Rattle.profile.specs.Tables.{layout, table_of}
use Rattle.profile.specs.Refusals.{full_table, lowest, refusal_number}
use Rattle.profile.specs.declared.Refusal.{Refusal}
use Rattle.profile.specs.declared.Refusal.TheVariants.{FullTable, ShortBuffer}
use Rattle.profile.proofs.Lists.{all_at, is_false}
use Rattle.theory.proofs.Refusals.{GoodLog, log_at, lowest_at, lowest_first, profile_at}
use Rattle.verdict.specs.declared.Judged.{Judged}
use Rattle.std.specs.Prelude.{Result, Err}
use Rattle.views.specs.Views.{buffer_refusals, entry_refusals, seen, view, view_refusal}
use Rattle.views.proofs.Refused.{entry_log, entry_profile, seen_passes, view_buffers}
use Rattle.cleared.specs.Cleared.{Clean, answer, cleared, order_as, order_left, table_as, table_left, told_as}
use Rattle.view.specs.Viewing.{Viewed}

module _ (p : Profile) (visible : ℕ) (w : List ℕ) where
  -- the refusals up to 8 are not 10
  pub entry_not_ten : {r : Refusal} → lowest (entry_refusals p visible w) ≡ some r → eqb (refusal_number r) 10 ≡ false
  entry_not_ten {r} e =
      let n = lowest_at (entry_refusals p visible w) e in
      let t : T (all (λ (c : Bool × Refusal). not (eqb (refusal_number c.1) 10)) (entry_refusals p visible w)) = tt in
      let m : Mem n.2 (entry_refusals p visible w) = subst (λ l. Mem n.2 l) (sym n.3) (Memᴰ.append_right n.0 (Memᴰ.head refl)) in
      is_false (eqb (refusal_number r) 10) (subst (λ x. T (not (eqb (refusal_number x) 10))) n.5 (all_at (λ (c : Bool × Refusal). not (eqb (refusal_number c.1) 10)) t m))

  module _ (order t : List ℕ) where
    -- a refusal that is not 10
    refused_as : {r : Refusal} → view_refusal p visible w (length order) (length t) ≡ some r → eqb (refusal_number r) 10 ≡ false → Viewed p visible w order order t t (Err r)
    refused_as {r} e h =
        let v = accepted_order (independent p.masks) (λ a. a) (view p visible) (seen visible w) in
        let P = prefix_count (independent p.masks) (λ a. a) p.k (seen visible w) in
        let L = looks (independent p.masks) (λ a. a) p.k (seen visible w) in
        let F = table_of layout (independent p.masks) (λ a. a) (view p visible) p.k (seen visible w) t in record {
          told = sym (ap (λ o. told_as o v P L) e);
          order_is = sym (ap (λ o. order_as o v order) e);
          table_is = sym (ap (λ o. table_as o F t) e ∙ ap (λ b. cond b (cleared t) t) h);
        }

    pub told_entry : {r : Refusal} → lowest (entry_refusals p visible w) ≡ some r → Viewed p visible w order order t t (Err r)
    told_entry e = refused_as (lowest_first (entry_refusals p visible w) (buffer_refusals p (seen visible w) (length order) (length t)) e) (entry_not_ten e)

    module _ (clean : lowest (entry_refusals p visible w) ≡ none) where
      pub told_short : length order < length (seen visible w) → Viewed p visible w order order t t (Err ShortBuffer)
      told_short h = refused_as
          (view_buffers p visible w clean (length order) (length t)
          ∙ ap (λ b. lowest ((b, ShortBuffer) ∷ (full_table (prefix_count (independent p.masks) (λ a. a) p.k (seen visible w)) (length t), FullTable) ∷ [])) (lt-ltb (length order) (length (seen visible w)) h)) refl

      pub told_seen : (u : List ℕ) → u ≡ seen visible w → (j : Result Judged Refusal) (order' t' : List ℕ)
          → j ≡ answer p (view p visible) u (length order) (length t) → order' ≡ order_left p (view p visible) u (length t) order → t' ≡ table_left p (view p visible) u (length order) t → Viewed p visible w order order' t t' j
      told_seen u e j order' t' a b c =
          let v = accepted_order (independent p.masks) (λ a. a) (view p visible) (seen visible w) in
          let P = prefix_count (independent p.masks) (λ a. a) p.k (seen visible w) in
          let L = looks (independent p.masks) (λ a. a) p.k (seen visible w) in
          let F = table_of layout (independent p.masks) (λ a. a) (view p visible) p.k (seen visible w) t in
          let q = sym (view_buffers p visible w clean (length order) (length t)) in record {
            told = a ∙ ap (λ x. answer p (view p visible) x (length order) (length t)) e ∙ ap (λ o. told_as o v P L) q;
            order_is = b ∙ ap (λ x. order_left p (view p visible) x (length t) order) e ∙ ap (λ o. order_as o v order) q;
            table_is = c ∙ ap (λ x. table_left p (view p visible) x (length order) t) e ∙ ap (λ o. table_as o F t) q;
          }

  -- what the checks leave
  module _ (clean : lowest (entry_refusals p visible w) ≡ none) where
    pub entry_good : GoodLog p.k w
    entry_good = log_at p.k w (entry_log p visible w clean)

    pub entry_few : p.k ≤ 16
    entry_few = (profile_at p (entry_profile p visible w clean)).relation.most

    pub entry_clean : (u : List ℕ) → u ≡ seen visible w → Clean p u
    entry_clean u e = subst (Clean p) (sym e) (record { profile = entry_profile p visible w clean; log = seen_passes p.k visible w (entry_log p visible w clean) })
