-- to be believed
-- The names that operators read.
use Rattle.std.specs.Prelude.{ℕ, List, [], ◌∷◌, ◌++◌, map, filter, Bool, true, false, nat_eq, if◌then◌else◌}
use Rattle.std.specs.List.{list_any, flat_map}
use Rattle.std.specs.Cmp.Lexicographic.{pointwise}
use Rattle.sn_fields.specs.declared.field.Field.{Field}
use Rattle.sn_fields.specs.Fields.{fields, name_of}
use Rattle.sn_query_grammar.specs.declared.ast.Expr.{Expr}
use Rattle.sn_query_grammar.specs.declared.ast.Expr.TheVariants.{Const, Copy, Mask, Shift, Sum, Ratio}
use Rattle.sn_query_grammar.specs.declared.ast.What.{What}
use Rattle.sn_query_grammar.specs.declared.ast.What.TheVariants.{Filter, Map, Distinct, Reduce}
use Rattle.sn_query_grammar.specs.declared.ast.Op.{Op}

-- a name, as contracts see it: its bytes
abbrev pub Name : Type 0
Name = List ℕ

-- two names are the same
abbrev pub same_name : Name → Name → Bool
same_name = pointwise nat_eq

abbrev pub is_in : Name → List Name → Bool
is_in name names = list_any (λ n. same_name n name) names

-- the names in an expression
abbrev pub names_in : Expr → List Name
names_in (Const n) = []
names_in (Copy a) = a ∷ []
names_in (Mask a bits) = a ∷ []
names_in (Shift a k) = a ∷ []
names_in (Sum a b) = a ∷ b ∷ []
names_in (Ratio a k b) = a ∷ b ∷ []

-- the names that an operator reads, in the order of the text
abbrev pub names_read : What → List Name
names_read (Filter conds) = map (λ c. c.name) conds
names_read (Map cols) = flat_map (λ c. names_in c.expr) cols
names_read Distinct = []
names_read (Reduce r) = r.keys ++ r.value ∷ []

abbrev pub is_map : What → Bool
is_map (Filter conds) = false
is_map (Map cols) = true
is_map Distinct = false
is_map (Reduce r) = false

-- the operators that may not stand before a branch's first map
abbrev pub needs_map : What → Bool
needs_map (Filter conds) = false
needs_map (Map cols) = false
needs_map Distinct = true
needs_map (Reduce r) = true

-- the names that a branch reads up to and with its first map
abbrev pub names_to_map : List Op → List Name
names_to_map [] = []
names_to_map (op ∷ ops) = names_read op.what ++ (if is_map op.what then [] else names_to_map ops)

-- the fields that are among these names, in the order of their numbers
unfoldable pub fields_among : List Name → List Field
fields_among names = filter (λ f. is_in (name_of f) names) fields

-- the fields of a branch: those that it reads up to and with its first map
abbrev pub packet_fields : List Op → List Field
packet_fields ops = fields_among (names_to_map ops)
