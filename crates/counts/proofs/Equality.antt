-- Paper 3: the numbers of two records are equal exactly when every letter's two counts are, since numbers are their counts, packed.
use Rattle.std.proofs.Common.{◌≡◌, ℕ, ◌*◌, ◌^◌, ◌<◌, ◌&&◌, eqb, List, [], ◌∷◌, map, sym, refl, ap, ◌∙◌, ap₂}
use Rattle.profile.specs.Lists.{all, below, equal?}
use Rattle.profile.specs.Tables.{Layout, count_field, layout, pack, packed}
use Rattle.profile.proofs.Lists.{equal_test}
use Rattle.profile.proofs.Sets.{t_eq}
use Rattle.counts.specs.declared.Counts.{Counts}
use Rattle.counts.specs.Counts.{counts_in, every_equal?, word_count, word_counts, words}
use Rattle.counts.proofs.Words.{pack_word_counts}

-- every number is below n
abbrev pub Below : ℕ → List ℕ → Type 0
Below n [] = Unit {0}
Below n (m ∷ l) = (m < n) × Below n l

-- numbers, each packed from its counts
packed_each : (L : Layout) (t : List ℕ) → Below (2 ^ (L.width * L.per)) t → map (λ w. pack L.width (word_counts L w)) t ≡ t
packed_each L [] h = refl
packed_each L (w ∷ t) h = ap₂ ◌∷◌ (pack_word_counts L w h.0) (packed_each L t h.1)

-- the numbers of a record are its counts, packed
pub packed_counts : (c : Counts) → Below (2 ^ 32) (words c) → packed layout (counts_in layout (words c)) ≡ words c
unfolding word_count
packed_counts c h = packed_each layout (words c) h

-- equality of two lists of values is equality at every argument
equal_map : {A : Type 0} (f g : A → ℕ) (l : List A) → equal? (map f l) (map g l) ≡ all (λ i. eqb (f i) (g i)) l
equal_map f g [] = refl
equal_map f g (a ∷ l) = ap (λ b. eqb (f a) (g a) && b) (equal_map f g l)

-- equality by numbers is equality letter by letter, whatever the letters past a profile's last hold
pub equal_counts : (a b : Counts) → Below (2 ^ 32) (words a) → Below (2 ^ 32) (words b) → equal? (words a) (words b) ≡ every_equal? layout (words a) (words b)
equal_counts a b h k =
    let u = counts_in layout (words a) in
    let v = counts_in layout (words b) in
    t_eq (equal? (words a) (words b)) (equal? u v)
    (λ t. (equal_test u v).1 (ap (counts_in layout) ((equal_test (words a) (words b)).0 t)))
    (λ t. (equal_test (words a) (words b)).1 (sym (packed_counts a h) ∙ ap (packed layout) ((equal_test u v).0 t) ∙ packed_counts b k))
    ∙ equal_map (count_field layout (words a)) (count_field layout (words b)) (below (layout.per * layout.numbers))
