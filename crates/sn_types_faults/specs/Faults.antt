-- to be believed
-- The eight faults of types, each at one place of a file.
use Rattle.std.specs.Prelude.{ℕ, List, [], ◌∷◌, ◌++◌, length, Bool, true, false, not, ◌&&◌, ◌||◌, ◌==◌, nat_lt, nat_eq, Option, Some, None, is_none}
use Rattle.std.specs.Prelude.{if◌then◌else◌}
use Rattle.std.specs.List.{list_any, list_all, count_by}
use Rattle.std.specs.Option.{option_map_or}
use Rattle.sn_base.specs.declared.column.Column.{Column}
use Rattle.sn_fields.specs.declared.field.Field.{Field}
use Rattle.sn_fields.specs.Fields.{with_name, width_of, is_address}
use Rattle.sn_query_grammar.specs.declared.ast.Refine.{Refine}
use Rattle.sn_query_grammar.specs.declared.ast.Relax.{Relax}
use Rattle.sn_query_grammar.specs.declared.ast.MapCol.{MapCol}
use Rattle.sn_query_grammar.specs.declared.ast.Expr.{Expr}
use Rattle.sn_query_grammar.specs.declared.ast.Expr.TheVariants as expr
use Rattle.sn_query_grammar.specs.declared.ast.Join.{Join}
use Rattle.sn_query_grammar.specs.declared.ast.Op.{Op}
use Rattle.sn_query_grammar.specs.declared.ast.What.{What}
use Rattle.sn_query_grammar.specs.declared.ast.What.TheVariants.{Filter, Map, Distinct, Reduce}
use Rattle.sn_query_grammar.specs.declared.ast.FoldWord.TheVariants as fold
use Rattle.sn_query_grammar.specs.declared.ast.FoldWord.{FoldWord}
use Rattle.sn_types_faults.specs.declared.fault.TypeFault.{TypeFault}
use Rattle.sn_types_faults.specs.declared.fault.TypeFault.TheVariants.{UnknownField, UnknownColumn, TooWide, NoMap, RefineLost, RefineFilter, Levels, JoinKeys}
use Rattle.sn_types_faults.specs.declared.scope.Scope.{Scope}
use Rattle.sn_types_faults.specs.Names.{Name, same_name, is_in, names_in, names_read, is_map, needs_map, fields_among}
use Rattle.sn_types_faults.specs.Columns.{has_column, column_named, joined_columns, others, is_copy}

-- the least fault of those that hold, in the order of their numbers
abbrev pub least : List (Bool × TypeFault) → Option TypeFault
least [] = None
least (f ∷ fs) = if f.0 then Some f.1 else least fs

-- ---- an operator

-- before the first map, and in what that map reads, names are fields; where a distinct or a reduce stands there, its names aren't looked at
abbrev pub reads_fields : Scope → What → Bool
reads_fields scope what = not scope.mapped && not (needs_map what)

-- a name in a branch before its first map, or that this map reads, isn't a field
abbrev pub unknown_field : Scope → What → Bool
unknown_field scope what = reads_fields scope what && list_any (λ n. is_none (with_name n)) (names_read what)

-- a name after the first map isn't a column
abbrev pub unknown_column : Scope → What → Bool
unknown_column scope what = scope.mapped && list_any (λ n. not (has_column scope.columns n)) (names_read what)

-- a ninth field is read
abbrev pub ninth_field : Scope → What → Bool
ninth_field scope what = reads_fields scope what && nat_lt 8 (length (fields_among (scope.read ++ names_read what)))

abbrev pub is_sum : FoldWord → Bool
is_sum fold.Sum = true
is_sum fold.Max = false
is_sum fold.Min = false
is_sum fold.Or = false

-- a fold's column is wider than 64 bits, or a sum's than its width
abbrev pub wide_fold : List Column → What → Bool
wide_fold columns (Filter conds) = false
wide_fold columns (Map cols) = false
wide_fold columns Distinct = false
wide_fold columns (Reduce r) = nat_lt 64 (column_named columns r.value).width || (is_sum r.fold && nat_lt r.width (column_named columns r.value).width)

-- a column is wider than 64 bits
abbrev pub is_wide : List Column → Name → Bool
is_wide columns n = nat_lt 64 (column_named columns n).width

-- an operand of a sum of columns or of a ratio is wider than 64 bits
abbrev pub wide_operand : List Column → Expr → Bool
wide_operand columns (expr.Const n) = false
wide_operand columns (expr.Copy a) = false
wide_operand columns (expr.Mask a bits) = false
wide_operand columns (expr.Shift a k) = false
wide_operand columns (expr.Sum a b) = is_wide columns a || is_wide columns b
wide_operand columns (expr.Ratio a k b) = is_wide columns a || is_wide columns b

abbrev pub wide_operands : List Column → What → Bool
wide_operands columns (Filter conds) = false
wide_operands columns (Map cols) = list_any (λ c. wide_operand columns c.expr) cols
wide_operands columns Distinct = false
wide_operands columns (Reduce r) = false

abbrev pub too_wide : Scope → What → Bool
too_wide scope what = ninth_field scope what || (scope.mapped && (wide_fold scope.columns what || wide_operands scope.columns what))

-- a distinct or a reduce stands before the branch's first map
abbrev pub no_map : Scope → What → Bool
no_map scope what = not scope.mapped && needs_map what

-- a map has no copy of the carried column, or a reduce hasn't it among its keys
abbrev pub loses : Name → What → Bool
loses carried (Filter conds) = false
loses carried (Map cols) = not (list_any (λ c. is_copy carried c.expr) cols)
loses carried Distinct = false
loses carried (Reduce r) = not (is_in carried r.keys)

-- the last operator of a branch is reached without a map
abbrev pub ends_unmapped : Scope → What → Bool → Bool
ends_unmapped scope what last = last && not scope.mapped && not (is_map what)

abbrev pub refine_lost : Scope → What → Bool → Bool
refine_lost scope what last = option_map_or (λ carried. loses carried what || ends_unmapped scope what last) scope.carried false

-- a column of a map that isn't a copy of the carried column reads it
abbrev pub reads_otherwise : Name → MapCol → Bool
reads_otherwise carried c = not (is_copy carried c.expr) && is_in carried (names_in c.expr)

-- the carried column is read other than as the one copy of a map or as a key
abbrev pub filters : Name → What → Bool
filters carried (Filter conds) = list_any (λ c. same_name c.name carried) conds
filters carried (Map cols) = nat_lt 1 (count_by (λ c. is_copy carried c.expr) cols) || list_any (reads_otherwise carried) cols
filters carried Distinct = false
filters carried (Reduce r) = same_name r.value carried

abbrev pub refine_filter : Scope → What → Bool
refine_filter scope what = option_map_or (λ carried. filters carried what) scope.carried false

-- the level of a relaxed constant isn't a level of the query, or stands twice
abbrev pub wrong_relax : List ℕ → List Relax → Relax → Bool
wrong_relax levels relaxed r = not (list_any (nat_eq r.level) levels) || nat_lt 1 (count_by (λ o. o.level == r.level) relaxed)

abbrev pub wrong_levels : List ℕ → What → Bool
wrong_levels levels (Filter conds) = list_any (λ c. list_any (wrong_relax levels c.relaxed) c.relaxed) conds
wrong_levels levels (Map cols) = false
wrong_levels levels Distinct = false
wrong_levels levels (Reduce r) = false

-- the fault of an operator; `levels` are those of the refine line, and `last` says that it is the branch's last operator
abbrev pub operator_fault : List ℕ → Scope → Op → Bool → Option TypeFault
operator_fault levels scope op last =
    least ((unknown_field scope op.what, UnknownField op.line)
    ∷ (unknown_column scope op.what, UnknownColumn op.line)
    ∷ (too_wide scope op.what, TooWide op.line)
    ∷ (no_map scope op.what, NoMap op.line)
    ∷ (refine_lost scope op.what last, RefineLost op.line)
    ∷ (refine_filter scope op.what, RefineFilter op.line)
    ∷ (wrong_levels levels op.what, Levels op.line) ∷ [])

-- ---- the refine line

-- each number is below the one after it
abbrev pub are_rising : List ℕ → Bool
are_rising [] = true
are_rising (x ∷ xs) = list_all (nat_lt x) xs && are_rising xs

-- a level is 0 or above the width
abbrev pub out_of_range : ℕ → ℕ → Bool
out_of_range width level = (level == 0) || nat_lt width level

-- levels of a field that isn't an address, or levels that aren't strictly rising or not from 1 to its width
abbrev pub wrong_field_levels : Field → List ℕ → Bool
wrong_field_levels f levels = not (is_address f) || not (are_rising levels) || list_any (out_of_range (width_of f)) levels

abbrev pub wrong_refine : Refine → Bool
wrong_refine r = option_map_or (λ f. wrong_field_levels f r.levels) (with_name r.field) false

abbrev pub refine_fault : Refine → Option TypeFault
refine_fault r = least ((is_none (with_name r.field), UnknownField r.line) ∷ (wrong_refine r, Levels r.line) ∷ [])

-- ---- the join line

-- a name is a column of both branches
abbrev pub in_both : List Column → List Column → Name → Bool
in_both left right name = has_column left name && has_column right name

-- the joined row has more than eight columns, where each key is a column of both branches
abbrev pub join_too_wide : List Column → List Column → List Name → Bool
join_too_wide left right keys = list_all (in_both left right) keys && nat_lt 8 (length (joined_columns keys left right))

-- the carried columns of the two branches aren't a key under one name
abbrev pub join_loses : Option Name → Option Name → List Name → Bool
join_loses None right keys = false
join_loses (Some l) None keys = true
join_loses (Some l) (Some r) keys = not (same_name l r && is_in l keys)

-- a key isn't a column of both branches, its widths differ, or another column's name is in both branches
abbrev pub wrong_key : List Column → List Column → Name → Bool
wrong_key left right key = not (in_both left right key) || not ((column_named left key).width == (column_named right key).width)

abbrev pub wrong_keys : List Column → List Column → List Name → Bool
wrong_keys left right keys = list_any (wrong_key left right) keys || list_any (λ c. has_column right c.name) (others keys left)

abbrev pub join_fault : Scope → Scope → Join → Option TypeFault
join_fault left right join =
    least ((join_too_wide left.columns right.columns join.keys, TooWide join.line)
    ∷ (join_loses left.carried right.carried join.keys, RefineLost join.line)
    ∷ (wrong_keys left.columns right.columns join.keys, JoinKeys join.line) ∷ [])
