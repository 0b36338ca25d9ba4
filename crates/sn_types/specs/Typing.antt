-- to be believed
-- What a well typed file becomes: names are places, and every schema stands beside its operator.
use Rattle.std.specs.Prelude.{ℕ, List, [], ◌∷◌, map, Option, Some, None, unwrap_or}
use Rattle.std.specs.Option.{option_map}
use Rattle.sn_base.specs.declared.column.Column.{Column}
use Rattle.sn_fields.specs.declared.field.Field.{Field}
use Rattle.sn_fields.specs.Fields.{with_name}
use Rattle.sn_query_grammar.specs.declared.ast.Query.{Query}
use Rattle.sn_query_grammar.specs.declared.ast.Branch.{Branch}
use Rattle.sn_query_grammar.specs.declared.ast.Refine.{Refine}
use Rattle.sn_query_grammar.specs.declared.ast.Join.{Join}
use Rattle.sn_query_grammar.specs.declared.ast.Op.{Op}
use Rattle.sn_query_grammar.specs.declared.ast.Cond.{Cond}
use Rattle.sn_query_grammar.specs.declared.ast.Reduce.{Reduce}
use Rattle.sn_query_grammar.specs.declared.ast.What.{What}
use Rattle.sn_query_grammar.specs.declared.ast.What.TheVariants as what
use Rattle.sn_query_grammar.specs.declared.ast.Expr.{Expr}
use Rattle.sn_query_grammar.specs.declared.ast.Expr.TheVariants as expr
use Rattle.sn_types_faults.specs.declared.scope.Scope.{Scope}
use Rattle.sn_types.specs.declared.typed_op.TOp.{TOp}
use Rattle.sn_types.specs.declared.typed_op.TOp.TheVariants.{Filter, Map, Distinct, Reduce as Reduced}
use Rattle.sn_types.specs.declared.typed_op.TCond.{TCond}
use Rattle.sn_types.specs.declared.typed_op.TExpr.{TExpr}
use Rattle.sn_types.specs.declared.typed_op.TExpr.TheVariants as texpr
use Rattle.sn_types.specs.declared.typed_op.TReduce.{TReduce}
use Rattle.sn_types.specs.declared.typed_op.JoinKey.{JoinKey}
use Rattle.sn_types.specs.declared.typed_query.TypedBranch.{TypedBranch}
use Rattle.sn_types.specs.declared.typed_query.TypedQuery.{TypedQuery}
use Rattle.sn_types_faults.specs.Names.{Name, packet_fields}
use Rattle.sn_types_faults.specs.Widths.{fold_of, folded_width}
use Rattle.sn_types_faults.specs.Columns.{place_of, column_named, columns_after, packet_columns}
use Rattle.sn_types.specs.Cuts.{greatest_cut}
use Rattle.sn_types.specs.Values.{all_bits}
use Rattle.sn_types_faults.specs.Walk.{scope_end, scope_joined, branch_end, ops_at}

-- ---- operators

abbrev pub typed_cond : List Column → Cond → TCond
typed_cond columns c = record { col = place_of columns c.name; and = unwrap_or c.and all_bits; cmp = c.cmp; own = c.own; relaxed = c.relaxed }

abbrev pub typed_expr : List Column → Expr → TExpr
typed_expr columns (expr.Const n) = texpr.Const n
typed_expr columns (expr.Copy a) = texpr.Copy (place_of columns a)
typed_expr columns (expr.Mask a bits) = texpr.Mask (place_of columns a) bits
typed_expr columns (expr.Shift a k) = texpr.Shift (place_of columns a) k
typed_expr columns (expr.Sum a b) = texpr.Sum (place_of columns a) (place_of columns b)
typed_expr columns (expr.Ratio a k b) = texpr.Ratio (place_of columns a) k (place_of columns b)

abbrev pub typed_reduce : List Column → Reduce → TReduce
typed_reduce columns r = record {
  keys = map (place_of columns) r.keys;
  value = place_of columns r.value;
  fold = fold_of r.fold (folded_width r.fold r.width (column_named columns r.value).width);
}

abbrev pub typed_op : List Column → What → TOp
typed_op columns (what.Filter conds) = Filter (map (typed_cond columns) conds)
typed_op columns (what.Map cols) = Map (map (λ c. typed_expr columns c.expr) cols)
typed_op columns what.Distinct = Distinct
typed_op columns (what.Reduce r) = Reduced (typed_reduce columns r)

-- operators one after another, from these columns on
abbrev pub typed_ops : List Column → List Op → List TOp
typed_ops columns [] = []
typed_ops columns (op ∷ ops) = typed_op columns op.what ∷ typed_ops (columns_after columns op.what) ops

-- the columns before each operator, and those after the last one
abbrev pub schemas_along : List Column → List Op → List (List Column)
schemas_along columns [] = columns ∷ []
schemas_along columns (op ∷ ops) = columns ∷ schemas_along (columns_after columns op.what) ops

-- ---- branches and queries

abbrev pub typed_branch : List Op → TypedBranch
typed_branch ops = record {
  fields = packet_fields ops;
  ops = typed_ops (packet_columns ops) ops;
  schemas = schemas_along (packet_columns ops) ops;
  max_cut = greatest_cut (typed_ops (packet_columns ops) ops);
}

-- what is known after the branches: at the end of the one, or after the join line
abbrev pub after_branches : Option Refine → List Branch → Option Join → Scope
after_branches refine branches None = branch_end refine (ops_at branches 0)
after_branches refine branches (Some join) = scope_joined (branch_end refine (ops_at branches 0)) (branch_end refine (ops_at branches 1)) join

abbrev pub join_key : List Column → List Column → Name → JoinKey
join_key left right key = record { left = place_of left key; right = place_of right key }

abbrev pub join_keys : Option Refine → List Branch → Option Join → List JoinKey
join_keys refine branches None = []
join_keys refine branches (Some join) = map (join_key (branch_end refine (ops_at branches 0)).columns (branch_end refine (ops_at branches 1)).columns) join.keys

-- the operators after the join
abbrev pub posts_of : Option Join → List Op
posts_of None = []
posts_of (Some join) = join.post

-- the refinement field
abbrev pub field_of : Option Refine → Option Field
field_of None = None
field_of (Some r) = with_name r.field

-- the levels of a query: the one level 0 where it isn't refined
abbrev pub levels_of : Option Refine → List ℕ
levels_of None = 0 ∷ []
levels_of (Some r) = r.levels

-- the place of the carried column
abbrev pub carried_place : Scope → Option ℕ
carried_place scope = option_map (place_of scope.columns) scope.carried

-- a query of which this is known after its branches
abbrev pub typed_from : Query → Scope → TypedQuery
typed_from q scope = record {
  name = q.name;
  field = field_of q.refine;
  column = carried_place (scope_end scope (posts_of q.join));
  levels = levels_of q.refine;
  branches = map (λ b. typed_branch b.ops) q.branches;
  keys = join_keys q.refine q.branches q.join;
  posts = typed_ops scope.columns (posts_of q.join);
  schemas = schemas_along scope.columns (posts_of q.join);
}

abbrev pub typed_query : Query → TypedQuery
typed_query q = typed_from q (after_branches q.refine q.branches q.join)
