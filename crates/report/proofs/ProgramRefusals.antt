-- The program prints no refusal 9: its buffers have place for the masks, the moves and the order of every file. What 1 to 8 leave is 10 alone.
use borrow.Author.Tests.{le-ltb}
use mathlib.Core.Path.{◌≡◌, refl, sym, ◌∙◌, ap}
use mathlib.Core.Bool.{Bool}
use mathlib.Core.List.Memᴰ
use mathlib.Core.List.{List, [], ◌∷◌, ◌++◌}
use mathlib.Core.Option.{Option, none, some, some-ne-none}
use Prim.Native.Nat.{ℕ}
use native.Mathlib.Nat.{mul-le-mul}
use native.Mathlib.Omega.{arith}
use lib.ListN.{length}
use Rattle.profile.specs.Limits.{most_letters, most_moves}
use Rattle.profile.specs.Automata.{Profile}
use Rattle.profile.specs.Rules.{plain, prefixes_by}
use Rattle.profile.specs.Refusals.{admission_refusals, full_table, judge_refusal, log_refusals, longest, lowest, profile_refusals, short_buffer}
use Rattle.profile.specs.declared.Refusal.{Refusal}
use Rattle.profile.specs.declared.Refusal.TheVariants.{FullTable, ShortBuffer}
use Rattle.theory.proofs.Refusals.{log_at, lowest_append, lowest_first, lowest_none}
use Rattle.logfile.specs.Files.{content_refusals, file_log, file_profile, file_refusals, read_refusal, short_buffers}
use Rattle.logfile.proofs.Answers.{buffers_long}
use Rattle.logfile.proofs.Sections.{content_log, content_profile, numbers_in, open_file}

-- the reader, with 16 and 512 places, refuses by 1 to 8 alone
pub read_by_eight : (f : List ℕ) → read_refusal f most_letters most_moves ≡ lowest (file_refusals f)
read_by_eight f = go (lowest (file_refusals f)) refl
  where
    go : (q : Option Refusal) → lowest (file_refusals f) ≡ q → read_refusal f most_letters most_moves ≡ lowest (file_refusals f)
    go none e = let n = numbers_in f (open_file f e).0 in buffers_long f most_letters most_moves e n.0 (omega (arith, mul-le-mul n.1 n.0)) ∙ sym e
    go (some r) e = lowest_first (file_refusals f) ((short_buffers f most_letters most_moves, ShortBuffer) ∷ []) e ∙ sym e

module _ (f : List ℕ) (good : lowest (file_refusals f) ≡ none) where
  abbrev p : Profile
  p = file_profile f

  abbrev w : List ℕ
  w = file_log f

  content_good : lowest (content_refusals p w) ≡ none
  content_good =
      let h = (lowest_none (file_refusals f)).0 good in
      (lowest_none (content_refusals p w)).1 (λ c m. h c (Memᴰ.tail (Memᴰ.tail (Memᴰ.tail m))))

  profile_good : lowest (profile_refusals p) ≡ none
  profile_good = go (lowest (profile_refusals p)) refl
    where
      go : (q : Option Refusal) → lowest (profile_refusals p) ≡ q → lowest (profile_refusals p) ≡ none
      go none e = e
      go (some r) e = absurd (some-ne-none r (sym (content_profile f w (open_file f good).0 e) ∙ content_good))

  log_good : lowest (log_refusals p.k w) ≡ none
  log_good = sym (content_log f w (open_file f good).0 profile_good) ∙ content_good

  -- the judge, with places for the longest log and m numbers, refuses a file that is read by 10 alone
  pub judged_by_ten : (m : ℕ) → judge_refusal p w longest m ≡ lowest ((full_table (prefixes_by (plain p) w) m, FullTable) ∷ [])
  judged_by_ten m =
      let s : List (Bool × Refusal) = (short_buffer longest w, ShortBuffer) ∷ [] in
      lowest_append (admission_refusals p w longest) ((full_table (prefixes_by (plain p) w) m, FullTable) ∷ [])
      (lowest_append (profile_refusals p) (log_refusals p.k w ++ s) profile_good ∙ lowest_append (log_refusals p.k w) s log_good
      ∙ ap (λ b. lowest ((b, ShortBuffer) ∷ [])) (le-ltb longest (length w) (log_at p.k w log_good).short))
