-- to be believed
-- The canonical text of a plan.
use Rattle.std.specs.Prelude.{ℕ, List, [], ◌∷◌, ◌++◌, codes}
use Rattle.std.specs.Fmt.{decimal}
use Rattle.sn_plan_grammar.specs.declared.plan.Plan.{Plan}
use Rattle.sn_plan_grammar.specs.declared.plan.Entry.{Entry}
use Rattle.sn_plan_grammar.specs.declared.plan.Piece.{Piece}

-- the texts of the items, one after the other
abbrev pub texts : {A : Type 0} → (A → List ℕ) → List A → List ℕ
texts text [] = []
texts text (a ∷ rest) = text a ++ texts text rest

abbrev pub next_text : ℕ → List ℕ
next_text n = codes ", " ++ decimal n

-- numbers with a comma and a space between them
abbrev pub list_text : List ℕ → List ℕ
list_text [] = []
list_text (n ∷ rest) = decimal n ++ texts next_text rest

abbrev pub sizes_text : List ℕ → List ℕ → List ℕ
sizes_text [] stages = []
sizes_text (n ∷ rest) stages = codes " slots " ++ list_text (n ∷ rest) ++ codes " stages " ++ list_text stages

-- a line for each piece
abbrev pub piece_text : Piece → List ℕ
piece_text p = codes "piece " ++ decimal p.level ++ codes " " ++ decimal p.branch ++ codes " cut " ++ decimal p.cut ++ sizes_text p.slots p.stages
    ++ codes ";\n"

-- a line for the entry, and those of its pieces
abbrev pub entry_text : Entry → List ℕ
entry_text e = codes "query " ++ e.name ++ codes " path " ++ list_text e.levels ++ codes ";\n" ++ texts piece_text e.pieces

abbrev pub plan_text : Plan → List ℕ
plan_text p = codes "plan\n" ++ texts entry_text p.entries
