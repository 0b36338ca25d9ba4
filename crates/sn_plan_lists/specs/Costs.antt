-- to be believed
-- The cost of a plan: the sum of the entries of its pieces.
use Rattle.std.specs.Prelude.{ℕ, ◌+◌, ◌*◌, List, [], ◌∷◌, Bool, ◌&&◌, nat_le, if◌then◌else◌}
use Rattle.std.specs.List.{sum_by}
use Rattle.sn_plan_grammar.specs.declared.plan.Entry.{Entry}
use Rattle.sn_plan_grammar.specs.declared.plan.Piece.{Piece}
use Rattle.sn_switch.specs.declared.switch.Switch.{Switch}
use Rattle.sn_types.specs.declared.typed_query.TypedQuery.{TypedQuery}
use Rattle.sn_plan_fit.specs.Paths.{is_among}
use Rattle.sn_plan_lists.specs.Chosen.{option_of}

-- some of these levels as a number: bit i is set where level i passes the test
abbrev pub bits_of : (ℕ → Bool) → List ℕ → ℕ
bits_of test [] = 0
bits_of test (l ∷ ls) = (if test l then 1 else 0) + 2 * bits_of test ls

-- the levels of a path up to one
abbrev pub is_upto : List ℕ → ℕ → ℕ → Bool
is_upto path level l = is_among path l && nat_le l level

-- the front of a path, as a number
abbrev pub front_of : List ℕ → List ℕ → ℕ → ℕ
front_of levels path level = bits_of (is_upto path level) levels

module _ (s : Switch) (entry : ℕ → ℕ → ℕ → ℕ → ℕ) where
  -- the entry of a piece of query n: of the front of its path, its branch and its option
  abbrev pub piece_cost : ℕ → TypedQuery → List ℕ → Piece → ℕ
  piece_cost n q path p = entry n (front_of q.levels path p.level) p.branch (option_of s q p)

  abbrev pub entry_cost : ℕ → TypedQuery → Entry → ℕ
  entry_cost n q e = sum_by (piece_cost n q e.levels) e.pieces

  -- of all pieces, where the first query has this number
  abbrev pub plan_cost : ℕ → List TypedQuery → List Entry → ℕ
  plan_cost n [] es = 0
  plan_cost n (q ∷ qs) [] = 0
  plan_cost n (q ∷ qs) (e ∷ es) = entry_cost n q e + plan_cost (n + 1) qs es
