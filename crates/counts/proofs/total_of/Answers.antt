-- `counts::total_of` meets its contract: the sum of the totals of the numbers.
use Rattle.std.proofs.Common.{◌≡◌, ℕ, ◌+◌, sym, ap, ◌∙◌, arith}
use Rattle.profile.specs.Prefixes.{total}
use Rattle.profile.specs.Tables.{layout}
use Rattle.counts.specs.Counts.{word_counts, words}
use Rattle.counts.proofs.Words.{counts_by_word}
use Rattle.counts.proofs.Packed.{total_flat}
use Rattle.counts.proofs.total_of.Goals as goal

-- eight sums, each known, as the total of a list of eight
sum : (a0 a1 a2 a3 a4 a5 a6 a7 p0 p1 p2 p3 p4 p5 p6 p7 : ℕ)
    → a0 ≡ p0 → a1 ≡ p1 → a2 ≡ p2 → a3 ≡ p3 → a4 ≡ p4 → a5 ≡ p5 → a6 ≡ p6 → a7 ≡ p7
    → (((((((a0 + a1) + a2) + a3) + a4) + a5) + a6) + a7) ≡ (p0 + (p1 + (p2 + (p3 + (p4 + (p5 + (p6 + (p7 + 0))))))))
sum a0 a1 a2 a3 a4 a5 a6 a7 p0 p1 p2 p3 p4 p5 p6 p7 e0 e1 e2 e3 e4 e5 e6 e7 = omega arith

pub returns : goal.returns
returns c =
    let a = c.args in
    sum _ _ _ _ _ _ _ _ _ _ _ _ _ _ _ _
    c.word_total.ensures.value
    c.word_total-2.ensures.value
    c.word_total-3.ensures.value
    c.word_total-4.ensures.value
    c.word_total-5.ensures.value
    c.word_total-6.ensures.value
    c.word_total-7.ensures.value
    c.word_total-8.ensures.value
    ∙ sym (ap total (counts_by_word a.c) ∙ total_flat (word_counts layout) (words a.c))
