-- Document 02, Paper 13: grammars, derived logs, the verdict. Names are the numbers 0 to 15; events are letters.
use Rattle.std.specs.Prelude.{Bool, ◌&&◌, ◌||◌, List, [], ◌∷◌, ◌++◌, ℕ, ◌+◌, ◌*◌, ◌/◌, ◌%◌, T, eqb, ltb, leb, length}
use Rattle.profile.specs.Lists.{any}
use Rattle.profile.specs.Traces.{Reachable}

-- "a grammar of 1 to 16 names and up to 64 rules"
abbrev pub most_names : ℕ
most_names = 16

abbrev pub most_rules : ℕ
most_rules = 64

-- "a grammar": `two n l r`, some rule gives name n the two names l and r; `one n a`, some rule gives name n the letter a
pub record Grammar : Type 0 where
  pub two : ℕ → ℕ → ℕ → Bool
  pub one : ℕ → ℕ → Bool

-- "can be derived from" a name: the letter of a rule; or, where a rule gives two names, what the first derives and behind it what the second derives
pub data Derives (G : Grammar) : ℕ → List ℕ → Type 0 where
  leaf : {n a : ℕ} → T (G.one n a) → Derives G n (a ∷ [])
  node : {n l r : ℕ} {u v : List ℕ} → T (G.two n l r) → Derives G l u → Derives G r v → Derives G n (u ++ v)

-- "some reachable log can be derived from name 0": v is such a log
pub record Derivable (G : Grammar) (may : ℕ → ℕ → Bool) (w v : List ℕ) : Type 0 where
  pub reached : Reachable may w v
  pub derived : Derives G 0 v

-- ---- rules as numbers

-- A rule is a number of 16 bits, four digits of base 16: 1 n l r gives name n the names l and r, 0 n and two digits of a letter gives name n that letter.
abbrev pub kind_of : ℕ → ℕ
kind_of x = x / 4096

abbrev pub name_of : ℕ → ℕ
name_of x = x / 256 % 16

abbrev pub first_of : ℕ → ℕ
first_of x = x / 16 % 16

abbrev pub second_of : ℕ → ℕ
second_of x = x % 16

abbrev pub letter_of : ℕ → ℕ
letter_of x = x % 256

-- the number of a rule, for a caller
abbrev pub names_rule : ℕ → ℕ → ℕ → ℕ
names_rule n l r = 4096 + 256 * n + 16 * l + r

abbrev pub letter_rule : ℕ → ℕ → ℕ
letter_rule n a = 256 * n + a

-- "each giving a name two names or one letter"
abbrev pub gives_two? : ℕ → ℕ → ℕ → ℕ → Bool
gives_two? n l r x = eqb (kind_of x) 1 && (eqb (name_of x) n && (eqb (first_of x) l && eqb (second_of x) r))

abbrev pub gives_one? : ℕ → ℕ → ℕ → Bool
gives_one? n a x = eqb (kind_of x) 0 && (eqb (name_of x) n && eqb (letter_of x) a)

-- the grammar of a slice of rules
abbrev pub grammar_of : List ℕ → Grammar
grammar_of rules = record { two = λ n l r. any (gives_two? n l r) rules; one = λ n a. any (gives_one? n a) rules }

-- 21, of one rule: "uses a name or letter out of range", or is of neither kind
abbrev pub rule_out_of_range : ℕ → ℕ → ℕ → Bool
rule_out_of_range k names x =
    leb names (name_of x)
    || (eqb (kind_of x) 0 && leb k (letter_of x)
    || (eqb (kind_of x) 1 && (leb names (first_of x) || leb names (second_of x))
    || ltb 1 (kind_of x)))

-- 21: "when a rule uses a name or letter out of range or there are no names or too many names or rules"
abbrev pub bad_rules : ℕ → ℕ → List ℕ → Bool
bad_rules k names rules = ltb names 1 || (ltb most_names names || (ltb most_rules (length rules) || any (rule_out_of_range k names) rules))
