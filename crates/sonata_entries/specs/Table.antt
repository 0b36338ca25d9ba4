-- to be believed
-- The text of a cost table.
use Rattle.std.specs.Prelude.{ℕ, ◌-◌, ◌^◌, List, [], ◌∷◌, ◌++◌, codes, length}
use Rattle.std.specs.Fmt.{decimal}
use Rattle.std.specs.List.{flat_map, range_with_len}
use Rattle.sn_cost.specs.Entries.{entry_count, front_of}
use Rattle.sn_plan_choices.specs.Options.{Setting, options, option_at}
use Rattle.sn_switch.specs.declared.switch.Switch.{Switch}
use Rattle.sn_types.specs.declared.typed_query.TypedQuery.{TypedQuery}
use Rattle.sn_types.specs.Typed.{branch_at, query_at}
use Rattle.sn_windows.specs.Rising.{Window}

-- words and then numbers, with a comma and a space between these; without a number nothing
abbrev pub list_text : List ℕ → List ℕ → List ℕ
list_text words [] = []
list_text words (n ∷ rest) = words ++ decimal n ++ list_text (codes ", ") rest

-- the line of an entry: the query, the levels of the path up to the piece, its branch, its cut, the sizes of its registers and what it costs
abbrev pub entry_text : List ℕ → List ℕ → ℕ → Setting → ℕ → List ℕ
entry_text name levels b o cost =
    name ++ list_text (codes " levels ") levels ++ codes " branch " ++ decimal b ++ codes " cut " ++ decimal o.0 ++ list_text (codes " slots ") o.1
    ++ codes " cost " ++ decimal cost ++ codes "\n"

-- The entries of queries on a switch are given by query, front of a path, branch and option.
module _ (s : Switch) (entry : ℕ → ℕ → ℕ → ℕ → ℕ) (queries : List TypedQuery) where
  -- the line of one
  abbrev pub option_text : ℕ → ℕ → ℕ → ℕ → List ℕ
  option_text q front b n =
      entry_text (query_at queries q).name (front_of front (query_at queries q).levels) b (option_at s (branch_at queries q b) n) (entry q front b n)

  -- those of a branch at a front, by its options
  abbrev pub options_text : ℕ → ℕ → ℕ → List ℕ
  options_text q front b = flat_map (option_text q front b) (range_with_len 0 (length (options s (branch_at queries q b))))

  -- those of a front, branch by branch
  abbrev pub branches_text : ℕ → ℕ → List ℕ
  branches_text q front = flat_map (options_text q front) (range_with_len 0 (length (query_at queries q).branches))

  -- those of a query, front by front: each with at least one level
  abbrev pub fronts_text : ℕ → List ℕ
  fronts_text q = flat_map (branches_text q) (range_with_len 1 (2 ^ length (query_at queries q).levels - 1))

  -- all, query by query
  abbrev pub table_text : List ℕ
  table_text = flat_map fronts_text (range_with_len 0 (length queries))

-- the entries that training windows give
abbrev pub counted : Switch → List TypedQuery → List Window → ℕ → ℕ → ℕ → ℕ → ℕ
counted s queries given q front b n = entry_count s.chain s.entries s.weight (query_at queries q) given front b (option_at s (branch_at queries q b) n)
