-- The columns of a join: names are apart along a branch, and a join line without a fault has its keys in both branches.
use Rattle.std.proofs.Common.{◌≡◌, ◌≤◌, List, [], ◌∷◌, ◌++◌, map, filter, length, Bool, true, false, not, ◌&&◌, ◌==◌, cond, nat_lt, Option, None, Some, unwrap_or, refl, ap, sym, ◌∙◌, subst}
use Rattle.std.proofs.lemmas.Bool.{ltb-false}
use Rattle.std.proofs.lemmas.List.{map-append}
use Rattle.std.specs.List.{AllByRecursion, list_any, list_all, find}
use Rattle.std.specs.Cmp.{IsEquivalence}
use Rattle.std.specs.Cmp.Lexicographic.{nat_list_eq_equiv}
use Rattle.sn_base.proofs.Lists.{by_test, not_false, map_both, all_append, all_filter, or_none, and_parts, none_all as fails_for_each}
use Rattle.sn_base.proofs.FoldedLemmas.{same_row_exact}
use Rattle.sn_base.specs.declared.column.Column.{Column}
use Rattle.sn_base.specs.Groups.{Apart, same_row}
use Rattle.sn_fields.specs.Fields.{fields, row_of, name_of}
use Rattle.sn_query_grammar.specs.declared.ast.Join.{Join}
use Rattle.sn_query_grammar.specs.declared.ast.Op.{Op}
use Rattle.sn_query_grammar.specs.declared.ast.Reduce.{Reduce}
use Rattle.sn_query_grammar.specs.declared.ast.What.{What}
use Rattle.sn_query_grammar.specs.declared.ast.What.TheVariants as what
use Rattle.sn_types_faults.specs.declared.fault.TypeFault.{TypeFault}
use Rattle.sn_types_faults.specs.declared.fault.TypeFault.TheVariants.{TooWide, RefineLost, JoinKeys}
use Rattle.sn_types_faults.specs.declared.scope.Scope.{Scope}
use Rattle.sn_types_faults.specs.Names.{Name, same_name, is_in, fields_among, names_to_map, packet_fields}
use Rattle.sn_types_faults.specs.Columns.{has_column, column_named, field_column, mapped_column, folded_column, columns_after, packet_columns, as_schema, others, joined_columns}
use Rattle.sn_types_faults.specs.Faults.{in_both, wrong_key, wrong_keys, join_too_wide, join_loses}
use Rattle.sn_types_faults.specs.Walk.{fault_at}
use Rattle.sn_types_faults.specs.Walk.Place.{JoinLine}
use Rattle.sn_types.proofs.Facts.{if_none}
use Rattle.sn_types.proofs.Known.{IsKnown, whole_schema}
use Rattle.sn_types.proofs.Schemas.{IsSchema, HasWidth, mapped_whole, reduced_whole, columns_along, named_widths, packet_whole, schema_after}
use Rattle.sn_types.proofs.Sound.{IsSound, AreSound}
use Rattle.sn_base.proofs.Tests.{not_to_false}

and_false : (a b : Bool) → a ≡ true → (a && b) ≡ false → b ≡ false
and_false true b is e = e
and_false false b is e = cc

-- ---- names are apart along a branch

abbrev pub AreNamed : List Column → Type 0
AreNamed columns = Apart same_row (map (λ c. c.name) columns)

pub same_turned : (m n : Name) → same_row m n ≡ same_row n m
same_turned m n = let E : IsEquivalence same_row = nat_list_eq_equiv in E.symm m n

apart_last : (names : List Name) (n : Name) → Apart same_row names → list_any (same_row n) names ≡ false → Apart same_row (names ++ n ∷ [])
apart_last [] n apart none = (tt, tt)
apart_last (m ∷ names) n apart none =
    let parts = or_none (same_row n m) (list_any (same_row n) names) none in (
      all_append (λ x. same_row m x ≡ false) names (n ∷ []) apart.0 (same_turned m n ∙ parts.0, tt),
      apart_last names n apart.1 parts.1,
    )

found_name : (n : Name) (d : Column) (columns : List Column) → d.name ≡ n → (unwrap_or (find (λ (c : Column). same_name c.name n) columns) d).name ≡ n
found_name n d [] e = e
found_name n d (c ∷ columns) e =
    let later = found_name n d columns e in
    let rest : Option Column = find (λ (x : Column). same_name x.name n) columns in
    by_test (same_name c.name n)
    (λ is. subst (λ b. (unwrap_or (cond b (Some c) rest) d).name ≡ n) (sym is) (same_row_exact c.name n is))
    (λ isnt. subst (λ b. (unwrap_or (cond b (Some c) rest) d).name ≡ n) (sym isnt) later)

names_of : (columns : List Column) (names : List Name) → map (λ c. c.name) (map (column_named columns) names) ≡ names
names_of columns [] = refl
names_of columns (n ∷ names) =
    ap (λ m. m ∷ map (λ c. c.name) (map (column_named columns) names)) (found_name n (record { name = n; width = 1; address = false }) columns refl) ∙ ap (λ ms. n ∷ ms) (names_of columns names)

names_push : (columns : List Column) (c : Column) → map (λ x. x.name) (columns ++ c ∷ []) ≡ map (λ x. x.name) columns ++ c.name ∷ []
names_push columns c = map-append (λ (x : Column). x.name) columns (c ∷ [])

names_after_reduce : (columns : List Column) (r : Reduce) → length columns ≤ 8 → IsSound columns (what.Reduce r) → AreNamed (columns_after columns (what.Reduce r))
names_after_reduce columns r few s =
    subst AreNamed (sym (reduced_whole columns r few s))
    (subst (Apart same_row) (sym (names_push (map (column_named columns) r.keys) (folded_column columns r) ∙ ap (λ ns. ns ++ r.value ∷ []) (names_of columns r.keys))) (apart_last r.keys r.value s.limits.apart s.limits.no_key))

names_after : (columns : List Column) (w : What) → length columns ≤ 8 → IsSound columns w → AreNamed columns → AreNamed (columns_after columns w)
names_after columns (what.Filter conds) few s h = h
names_after columns (what.Map cols) few s h = subst AreNamed (sym (mapped_whole columns cols s.limits.0)) (subst (Apart same_row) (sym (map_both (mapped_column columns) (λ (c : Column). c.name) cols)) s.limits.1)
names_after columns what.Distinct few s h = h
names_after columns (what.Reduce r) few s h = names_after_reduce columns r few s

pub names_along : (columns : List Column) (ops : List Op) → IsSchema columns → AreSound columns ops → AreNamed columns → AreNamed (columns_along columns ops)
names_along columns [] h s named = named
names_along columns (op ∷ ops) h s named = names_along (columns_after columns op.what) ops (schema_after columns op.what h s.0) s.1 (names_after columns op.what h.few s.0 named)

-- ---- packet rows

all_kept : {X : Type 0} (P : Name → Type 0) (f : X → Name) (t : X → Bool) (xs : List X) → AllByRecursion P (map f xs) → AllByRecursion P (map f (filter t xs))
all_kept P f t [] h = tt
all_kept P f t (x ∷ xs) h =
    let rest = all_kept P f t xs h.1 in
    by_test (t x)
    (λ is. subst (λ b. AllByRecursion P (map f (cond b (x ∷ filter t xs) (filter t xs)))) (sym is) (h.0, rest))
    (λ isnt. subst (λ b. AllByRecursion P (map f (cond b (x ∷ filter t xs) (filter t xs)))) (sym isnt) rest)

apart_kept : {X : Type 0} (f : X → Name) (t : X → Bool) (xs : List X) → Apart same_row (map f xs) → Apart same_row (map f (filter t xs))
apart_kept f t [] h = tt
apart_kept f t (x ∷ xs) h =
    let rest = apart_kept f t xs h.1 in
    by_test (t x)
    (λ is. subst (λ b. Apart same_row (map f (cond b (x ∷ filter t xs) (filter t xs)))) (sym is) (all_kept (λ n. same_row (f x) n ≡ false) f t xs h.0, rest))
    (λ isnt. subst (λ b. Apart same_row (map f (cond b (x ∷ filter t xs) (filter t xs)))) (sym isnt) rest)

are_apart : List Name → Bool
are_apart [] = true
are_apart (n ∷ names) = not (list_any (same_row n) names) && are_apart names

apart_of : (names : List Name) → are_apart names ≡ true → Apart same_row names
unfolding are_apart
apart_of [] e = tt
apart_of (n ∷ names) e =
    let parts = and_parts (not (list_any (same_row n) names)) (are_apart names) e in
    (fails_for_each (same_row n) names (not_to_false (list_any (same_row n) names) parts.0), apart_of names parts.1)

fields_apart : Apart same_row (map name_of fields)
unfolding are_apart row_of
fields_apart = apart_of (map name_of fields) refl

pub packet_named : (ops : List Op) → length (packet_fields ops) ≤ 8 → AreNamed (packet_columns ops)
unfolding fields_among
packet_named ops few =
    subst AreNamed (sym (packet_whole ops few))
    (subst (Apart same_row) (sym (map_both field_column (λ (c : Column). c.name) (packet_fields ops))) (apart_kept name_of (λ f. is_in (name_of f) (names_to_map ops)) fields fields_apart))

-- ---- a join line without a fault

pub record IsSoundJoin (left right : List Column) (keys : List Name) : Type 0 where
  pub in_left : AllByRecursion (IsKnown left) keys
  pub in_right : AllByRecursion (IsKnown right) keys
  pub few : length (joined_columns keys left right) ≤ 8

keys_in : (left right : List Column) (keys : List Name) → AllByRecursion (λ k. wrong_key left right k ≡ false) keys → AllByRecursion (λ k. in_both left right k ≡ true) keys
keys_in left right [] h = tt
keys_in left right (k ∷ keys) h =
    let here = or_none (not (in_both left right k)) (not ((column_named left k).width == (column_named right k).width)) h.0 in
    (not_false (in_both left right k) here.0, keys_in left right keys h.1)

left_in : (left right : List Column) (keys : List Name) → AllByRecursion (λ k. in_both left right k ≡ true) keys → AllByRecursion (IsKnown left) keys
left_in left right [] h = tt
left_in left right (k ∷ keys) h = ((and_parts (has_column left k) (has_column right k) h.0).0, left_in left right keys h.1)

right_in : (left right : List Column) (keys : List Name) → AllByRecursion (λ k. in_both left right k ≡ true) keys → AllByRecursion (IsKnown right) keys
right_in left right [] h = tt
right_in left right (k ∷ keys) h = ((and_parts (has_column left k) (has_column right k) h.0).1, right_in left right keys h.1)

all_in : (left right : List Column) (keys : List Name) → AllByRecursion (λ k. in_both left right k ≡ true) keys → list_all (in_both left right) keys ≡ true
all_in left right [] h = refl
all_in left right (k ∷ keys) h = ap (λ b. b && list_all (in_both left right) keys) h.0 ∙ all_in left right keys h.1

pub sound_join : (left right : Scope) (j : Join) → fault_at (JoinLine left right j) ≡ None → IsSoundJoin left.columns right.columns j.keys
sound_join left right j none =
    let of_keys : Option TypeFault = cond (wrong_keys left.columns right.columns j.keys) (Some (JoinKeys j.line)) None in
    let of_lost : Option TypeFault = cond (join_loses left.carried right.carried j.keys) (Some (RefineLost j.line)) of_keys in
    let a = if_none (join_too_wide left.columns right.columns j.keys) (TooWide j.line) of_lost none in
    let b = if_none (join_loses left.carried right.carried j.keys) (RefineLost j.line) of_keys a.1 in
    let c = if_none (wrong_keys left.columns right.columns j.keys) (JoinKeys j.line) None b.1 in
    let wrong = or_none (list_any (wrong_key left.columns right.columns) j.keys) (list_any (λ (x : Column). has_column right.columns x.name) (others j.keys left.columns)) c.0 in
    let keys = keys_in left.columns right.columns j.keys (fails_for_each (wrong_key left.columns right.columns) j.keys wrong.0) in
    record {
      in_left = left_in left.columns right.columns j.keys keys;
      in_right = right_in left.columns right.columns j.keys keys;
      few = ltb-false 8 (length (joined_columns j.keys left.columns right.columns))
          (and_false (list_all (in_both left.columns right.columns) j.keys) (nat_lt 8 (length (joined_columns j.keys left.columns right.columns))) (all_in left.columns right.columns j.keys keys) a.0);
    }

pub joined_whole : (left right : List Column) (keys : List Name) → IsSoundJoin left right keys → as_schema (joined_columns keys left right) ≡ joined_columns keys left right
joined_whole left right keys s = whole_schema (joined_columns keys left right) s.few

pub joined_schema : (left right : List Column) (keys : List Name) → IsSchema left → IsSchema right → IsSoundJoin left right keys → IsSchema (as_schema (joined_columns keys left right))
joined_schema left right keys l r s =
    let on_left = all_filter HasWidth (λ c. not (is_in c.name keys)) left l.widths in
    let on_right = all_filter HasWidth (λ c. not (is_in c.name keys)) right r.widths in
    subst IsSchema (sym (joined_whole left right keys s))
    (record { few = s.few; widths = all_append HasWidth (map (column_named left) keys ++ others keys left) (others keys right) (all_append HasWidth (map (column_named left) keys) (others keys left) (named_widths left keys l.widths) on_left) on_right })
