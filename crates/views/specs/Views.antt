-- Paper 12, "A teacher's view": the visible part of a log, what a view says of it, the automaton with hidden letters anywhere, and the refusals.
use Rattle.std.specs.Prelude.{◌≡◌, Bool, true, false, not, ◌&&◌, List, [], ◌∷◌, ◌++◌, map, ℕ, zero, suc, ◌*◌, ◌/◌, ◌%◌, ◌^◌, T, ltb}
use Rattle.std.proofs.Math.Option.{Option}
use Rattle.std.specs.Int.Bits.{bit_or}
use Rattle.profile.specs.Lists.{below, filter}
use Rattle.profile.specs.Traces.{Reachable, bit, independent, letters_below}
use Rattle.profile.specs.Automata.{Accepted, Automaton, PathOf, Profile, automaton, forward_step, meets, row, union}
use Rattle.profile.specs.Prefixes.{looks, marked, prefix_count, unmarked}
use Rattle.profile.specs.Orders.{accepted_order}
use Rattle.profile.specs.Refusals.{bit_from, full_table, log_refusals, lowest, profile_refusals, short_buffer}
use Rattle.profile.specs.declared.Refusal.{Refusal}
use Rattle.profile.specs.declared.Refusal.TheVariants.{FullTable, ShortBuffer, ViewBit}

-- "the visible part of the log": its letters that the mask `visible` has, in their order; "visible part" of any list of letters
abbrev pub seen : ℕ → List ℕ → List ℕ
seen visible w = filter (bit visible) w

-- ---- in the paper's words

-- "some list of letters, of any length, that leads the profile from its start to a final state has a visible part": u is this visible part
pub record Behind (p : Profile) (visible : ℕ) (u : List ℕ) : Type 0 where
  pub list : List ℕ
  pub letters : T (letters_below (λ a. a) p.k list)
  pub accepted : Accepted (automaton p) (λ a. a) list
  pub shows : seen visible list ≡ u

-- "… a visible part reachable from that part", the visible part of the log w
pub record Shown (p : Profile) (visible : ℕ) (w u : List ℕ) : Type 0 where
  pub reached : Reachable (independent p.masks) (seen visible w) u
  pub behind : Behind p visible u

-- "forward and backward allow hidden letters anywhere, at either end too": a list of letters leads from the start to r, and its visible part is an order of
-- the marked events of the visible part; a list of letters leads from q to a final state, and its visible part is an order of the unmarked ones
pub record InForward (p : Profile) (visible : ℕ) (w : List ℕ) (c : ℕ → ℕ) (r : ℕ) : Type 0 where
  pub list : List ℕ
  pub letters : T (letters_below (λ a. a) p.k list)
  pub leads : PathOf (automaton p) (λ a. a) p.start list r
  pub reached : Reachable (independent p.masks) (marked (λ a. a) (seen visible w) c) (seen visible list)

pub record InBackward (p : Profile) (visible : ℕ) (w : List ℕ) (c : ℕ → ℕ) (q : ℕ) : Type 0 where
  pub list : List ℕ
  pub letters : T (letters_below (λ a. a) p.k list)
  pub to : ℕ
  pub leads : PathOf (automaton p) (λ a. a) q list to
  pub ends : T (bit p.finals to)
  pub reached : Reachable (independent p.masks) (unmarked (λ a. a) (seen visible w) c) (seen visible list)

-- hidden letters, perhaps none, lead from q to r
pub record Hiding (p : Profile) (visible q r : ℕ) : Type 0 where
  pub list : List ℕ
  pub letters : T (letters_below (λ a. a) p.k list)
  pub hides : seen visible list ≡ []
  pub leads : PathOf (automaton p) (λ a. a) q list r

-- ---- as sets

-- the letters that the mask lacks
abbrev pub hidden : ℕ → ℕ → List ℕ
hidden k visible = filter (λ x. not (bit visible x)) (below k)

-- the sets of states over which the others are reached, one state after the other (Warshall): from q over states below n
module _ (next : ℕ → ℕ) where
  abbrev pub reaches : ℕ → ℕ → ℕ
  reaches zero q = next q
  reaches (suc n) q = elim (bit (reaches n q) n) [ true ↦ bit_or (reaches n q) (reaches n n) | false ↦ reaches n q ]

module _ (p : Profile) (visible : ℕ) where
  -- state q, and the states to which one hidden letter leads from it
  abbrev pub unseen : ℕ → ℕ
  unseen q = bit_or (2 ^ q) (union (λ x. row p.k p.moves q x) (hidden p.k visible))

  -- the states to which hidden letters lead from q; from the states of S
  unfoldable pub reach : ℕ → ℕ
  reach q = reaches unseen p.s q

  abbrev pub hull : ℕ → ℕ
  hull S = union reach (filter (bit S) (below p.s))

  -- the states to which x leads from q, with hidden letters before it; the states from which hidden letters lead to a final state
  abbrev pub leads_late : ℕ → ℕ → ℕ
  leads_late q x = forward_step p.k p.s p.moves (reach q) x

  abbrev pub finals_late : ℕ
  finals_late = union (λ q. 2 ^ q) (filter (λ q. meets (reach q) p.finals) (below p.s))

  -- the automaton of a view: hidden letters stand before the first visible letter, behind each, and behind the last
  abbrev pub view : Automaton
  view = record {
    start = hull (2 ^ p.start);
    final = finals_late;
    move = λ q x r. ltb q p.s && bit (hull (leads_late q x)) r;
    step = λ S x. hull (forward_step p.k p.s p.moves (hull S) x);
    back = λ R x. union (λ q. 2 ^ q) (filter (λ q. meets (hull (leads_late q x)) R) (below p.s));
  }

  -- a profile for the visible letters: hidden letters stand before each visible one and behind the last
  abbrev pub late : Profile
  late = record {
    k = p.k;
    masks = p.masks;
    s = p.s;
    start = p.start;
    finals = finals_late;
    moves = map (λ j. leads_late (j / p.k) (j % p.k)) (below (p.s * p.k));
  }

  -- "The order is the earliest such visible part"; none is verdict 0
  abbrev pub view_order : List ℕ → Option (List ℕ)
  view_order w = accepted_order (independent p.masks) (λ a. a) view (seen visible w)

  -- "P and looks belong to the visible part"
  abbrev pub view_prefixes : List ℕ → ℕ
  view_prefixes w = prefix_count (independent p.masks) (λ a. a) p.k (seen visible w)

  abbrev pub view_looks : List ℕ → ℕ
  view_looks w = looks (independent p.masks) (λ a. a) p.k (seen visible w)

-- ---- refusals

-- "20 when the mask has a bit from k on, after 6"; 7 and 8 are of the whole log
abbrev pub entry_refusals : Profile → ℕ → List ℕ → List (Bool × Refusal)
entry_refusals p visible w = profile_refusals p ++ ((bit_from p.k visible, ViewBit) ∷ log_refusals p.k w)

-- "9 asks for the visible length", 10 for the prefixes of the visible part u; n places for the order and m numbers of table
abbrev pub buffer_refusals : Profile → List ℕ → ℕ → ℕ → List (Bool × Refusal)
buffer_refusals p u n m = (short_buffer n u, ShortBuffer) ∷ (full_table (prefix_count (independent p.masks) (λ a. a) p.k u) m, FullTable) ∷ []

abbrev pub view_refusals : Profile → ℕ → List ℕ → ℕ → ℕ → List (Bool × Refusal)
view_refusals p visible w n m = entry_refusals p visible w ++ buffer_refusals p (seen visible w) n m

abbrev pub view_refusal : Profile → ℕ → List ℕ → ℕ → ℕ → Option Refusal
view_refusal p visible w n m = lowest (view_refusals p visible w n m)
