-- to be believed
-- The walk through a file, place by place, and its first fault.
use Rattle.std.specs.Prelude.{ℕ, List, [], ◌∷◌, ◌++◌, Bool, true, false, ◌||◌, Option, Some, None, slice_get}
use Rattle.std.specs.List.{flat_map}
use Rattle.std.specs.Option.{option_map, option_map_or}
use Rattle.sn_query_grammar.specs.declared.ast.QueryFile.{QueryFile}
use Rattle.sn_query_grammar.specs.declared.ast.Query.{Query}
use Rattle.sn_query_grammar.specs.declared.ast.Branch.{Branch}
use Rattle.sn_query_grammar.specs.declared.ast.Refine.{Refine}
use Rattle.sn_query_grammar.specs.declared.ast.Join.{Join}
use Rattle.sn_query_grammar.specs.declared.ast.Op.{Op}
use Rattle.sn_query_grammar.specs.declared.ast.What.{What}
use Rattle.sn_types_faults.specs.declared.fault.TypeFault.{TypeFault}
use Rattle.sn_types_faults.specs.declared.scope.Scope.{Scope}
use Rattle.sn_types_faults.specs.Names.{Name, names_read, is_map}
use Rattle.sn_types_faults.specs.Columns.{columns_after, packet_columns, carried_after, joined_columns, as_schema}
use Rattle.sn_types_faults.specs.Faults.{operator_fault, refine_fault, join_fault}

-- a place of the walk
pub data Place : Type 0 where
  RefineLine : Refine → Place
  Operator : List ℕ → Scope → Op → Bool → Place
  JoinLine : Scope → Scope → Join → Place

-- the fault of a place
abbrev pub fault_at : Place → Option TypeFault
fault_at (RefineLine r) = refine_fault r
fault_at (Operator levels scope op last) = operator_fault levels scope op last
fault_at (JoinLine left right join) = join_fault left right join

-- what is known where a branch begins
abbrev pub scope_before : Option Refine → List Op → Scope
scope_before refine ops = record { mapped = false; read = []; columns = packet_columns ops; carried = option_map (λ r. r.field) refine }

abbrev pub carried_along : Option Name → What → Option Name
carried_along None what = None
carried_along (Some name) what = carried_after name what

-- what is known after an operator
abbrev pub scope_after : Scope → What → Scope
scope_after scope what = record {
  mapped = scope.mapped || is_map what;
  read = scope.read ++ names_read what;
  columns = columns_after scope.columns what;
  carried = carried_along scope.carried what;
}

-- what is known after the join line
abbrev pub scope_joined : Scope → Scope → Join → Scope
scope_joined left right join = record {
  mapped = true;
  read = [];
  columns = as_schema
      (joined_columns join.keys left.columns right.columns);
  carried = left.carried;
}

-- what is known after operators
abbrev pub scope_end : Scope → List Op → Scope
scope_end scope [] = scope
scope_end scope (op ∷ ops) = scope_end (scope_after scope op.what) ops

abbrev pub is_end : List Op → Bool
is_end [] = true
is_end (op ∷ ops) = false

-- the operators of a branch, or those after a join, one after another
abbrev pub operator_places : List ℕ → Scope → List Op → List Place
operator_places levels scope [] = []
operator_places levels scope (op ∷ ops) = Operator levels scope op (is_end ops) ∷ operator_places levels (scope_after scope op.what) ops

-- a query without a refine line has no levels for a relaxed constant
abbrev pub refine_levels : Option Refine → List ℕ
refine_levels refine = option_map_or (λ r. r.levels) refine []

abbrev pub refine_places : Option Refine → List Place
refine_places None = []
refine_places (Some r) = RefineLine r ∷ []

abbrev pub branch_places : Option Refine → List Op → List Place
branch_places refine ops = operator_places (refine_levels refine) (scope_before refine ops) ops

-- what is known at the end of a branch
abbrev pub branch_end : Option Refine → List Op → Scope
branch_end refine ops = scope_end (scope_before refine ops) ops

-- the operators of a branch by its number
abbrev pub ops_at : List Branch → ℕ → List Op
ops_at branches b = option_map_or (λ x. x.ops) (slice_get branches b) []

-- the join line, and the operators after it
abbrev pub join_places : Option Refine → List Branch → Option Join → List Place
join_places refine branches None = []
join_places refine branches (Some join) =
    JoinLine (branch_end refine (ops_at branches 0)) (branch_end refine (ops_at branches 1)) join
    ∷ operator_places (refine_levels refine) (scope_joined (branch_end refine (ops_at branches 0)) (branch_end refine (ops_at branches 1)) join) join.post

-- the walk through a query: its refine line, each operator of each branch, its join line, each operator after it
abbrev pub query_places : Query → List Place
query_places q = refine_places q.refine ++ flat_map (λ b. branch_places q.refine b.ops) q.branches ++ join_places q.refine q.branches q.join

abbrev pub walk : QueryFile → List Place
walk file = flat_map query_places file.queries

-- a fault, or else the later one
abbrev pub or_later : Option TypeFault → Option TypeFault → Option TypeFault
or_later (Some f) later = Some f
or_later None later = later

-- the fault of the first place that has one
abbrev pub first_fault : List Place → Option TypeFault
first_fault [] = None
first_fault (p ∷ ps) = or_later (fault_at p) (first_fault ps)
