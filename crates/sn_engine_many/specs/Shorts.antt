-- serves proofs
-- What one switch of several runs of a plan.
use Rattle.std.specs.Prelude.{ℕ, suc, List, [], ◌∷◌, map, take}
use Rattle.sn_emit.specs.Plans.{Placed}
use Rattle.sn_plan_grammar.specs.declared.plan.Entry.{Entry}
use Rattle.sn_plan_grammar.specs.declared.plan.Piece.{Piece}
use Rattle.sn_types.specs.Typed.{branch_of, query_at}
use Rattle.sn_types.specs.declared.typed_op.TOp.{TOp}
use Rattle.sn_types.specs.declared.typed_op.TOp.TheVariants.{Filter, Map, Distinct, Reduce as Reduced}
use Rattle.sn_types.specs.declared.typed_query.TypedQuery.{TypedQuery}

-- how many operators stand up to the first that has registers, this one too; all, where none has
abbrev pub up_to_stateful : List TOp → ℕ
up_to_stateful [] = 0
up_to_stateful (Filter conds ∷ ops) = suc (up_to_stateful ops)
up_to_stateful (Map exprs ∷ ops) = suc (up_to_stateful ops)
up_to_stateful (Distinct ∷ ops) = 1
up_to_stateful (Reduced r ∷ ops) = 1

-- a piece, cut there
abbrev pub short_piece : TypedQuery → Piece → Piece
short_piece query p = record p { cut = up_to_stateful (take p.cut (branch_of query p.branch).ops) }

abbrev pub short_placed : List TypedQuery → Placed → Placed
short_placed queries x = record x { piece = short_piece (query_at queries x.query) x.piece }

abbrev pub short_entry : TypedQuery → Entry → Entry
short_entry query e = record e { pieces = map (short_piece query) e.pieces }

-- the entries of a plan so, of which the first is that of this query
abbrev pub short_entries : List TypedQuery → ℕ → List Entry → List Entry
short_entries queries q [] = []
short_entries queries q (e ∷ es) = short_entry (query_at queries q) e ∷ short_entries queries (suc q) es
