use Rattle.std.proofs.Common.{◌≡◌, ℕ, ◌<◌, [], length, map, ◌&&◌, nat_eq, get_or, ap, sym, subst, ◌∙◌, arith}
use Rattle.std.proofs.lemmas.Bool.{eq-eqb}
use Rattle.std.proofs.lemmas.List.{get_or-map, get_or_default, length-map}
use Rattle.sn_base.specs.Groups.{Row, same_row}
use Rattle.sn_base.proofs.Lists.{not_true, nat_same}
use Rattle.sn_chain.specs.Codes.{code_of, key_in}
use Rattle.sn_chain.specs.Stored.{bare_head, code_in}
use Rattle.sn_chain.specs.declared.code.Code.{Code}
use Rattle.sn_chain.proofs.CodeLemmas.{other_kind, whole_same, words_same, first_test, second_test}
use Rattle.sn_chain.proofs.StoredLemmas.{within_heads, within_kinds, within_wholes, kept_is, cell_is, head_is}
use Rattle.sn_chain.proofs.cells.Cells.has.Goals as goal

pub index-requires : goal.index-requires
index-requires g c =
    let a = c.self.inside in
    let s = c.args.self.now in
    let at = c.args.at in
    let limit = g.R.Number.Number.limit in
    let wholes = map g.R.Columns.columns a.wholes.items in
    omega (arith, within_kinds limit a.heads.items a.kinds.items wholes s c.self.view_is c.self.invariant at c.requires, a.kinds.ok.0)

pub index-requires-then-code-eq-WHOLE : goal.index-requires-then-code-eq-WHOLE
index-requires-then-code-eq-WHOLE g c =
    let a = c.self.inside in
    let s = c.args.self.now in
    let at = c.args.at in
    let limit = g.R.Number.Number.limit in
    let wholes = map g.R.Columns.columns a.wholes.items in
    omega (arith, within_wholes limit a.heads.items a.kinds.items wholes s c.self.view_is c.self.invariant at c.requires, length-map a.wholes.items g.R.Columns.columns, a.wholes.ok.0)

pub index-head-requires : goal.index-head-requires
index-head-requires g c =
    let a = c.self.inside in
    let s = c.args.self.now in
    let at = c.args.at in
    let limit = g.R.Number.Number.limit in
    let wholes = map g.R.Columns.columns a.wholes.items in
    omega (arith, within_heads limit a.heads.items a.kinds.items wholes s c.self.view_is c.self.invariant at c.requires, a.heads.ok.0)

pub returns-then-index-code : goal.returns-then-index-code
returns-then-index-code g c =
    let a = c.self.inside in
    let s = c.args.self.now in
    let at = c.args.at in
    let limit = g.R.Number.Number.limit in
    let wholes = map g.R.Columns.columns a.wholes.items in
    let key = g.R.Columns.columns c.args.key.now in
    let within = within_heads limit a.heads.items a.kinds.items wholes s c.self.view_is c.self.invariant at c.requires in
    let inside = within_kinds limit a.heads.items a.kinds.items wholes s c.self.view_is c.self.invariant at c.requires in
    let own = code_in (get_or a.kinds.items at 9) (get_or a.heads.items at (bare_head 0)) in
    let read : c.index.result.now ≡ get_or a.kinds.items at 9 = c.index.ensures ∙ get_or_default a.kinds.items at c.index.result.now 9 inside in
    sym (ap (λ (x : Row × ℕ). same_row key x.0) (kept_is limit a.heads.items a.kinds.items wholes s c.self.view_is c.self.invariant at within ([], 0))
    ∙ other_kind limit own (get_or wholes at []) key (c.self.invariant.each at within)
    (λ e. c.if-index-code.true (read ∙ e ∙ sym (ap (λ (d : Code). d.kind) c.code_of-code.ensures.code))))

pub returns-then-code-eq-WHOLE : goal.returns-then-code-eq-WHOLE
returns-then-code-eq-WHOLE g c =
    let a = c.self.inside in
    let s = c.args.self.now in
    let at = c.args.at in
    let limit = g.R.Number.Number.limit in
    let wholes = map g.R.Columns.columns a.wholes.items in
    let key = g.R.Columns.columns c.args.key.now in
    let seen = g.R.Columns.columns in
    let within = within_heads limit a.heads.items a.kinds.items wholes s c.self.view_is c.self.invariant at c.requires in
    let inside = within_kinds limit a.heads.items a.kinds.items wholes s c.self.view_is c.self.invariant at c.requires in
    let there = within_wholes limit a.heads.items a.kinds.items wholes s c.self.view_is c.self.invariant at c.requires in
    let held : at < length a.wholes.items = subst (λ (n : ℕ). at < n) (length-map a.wholes.items seen) there in
    let own = code_in (get_or a.kinds.items at 9) (get_or a.heads.items at (bare_head 0)) in
    let row = c.index-then-code-eq-WHOLE.result.now in
    let read : c.index.result.now ≡ get_or a.kinds.items at 9 = c.index.ensures ∙ get_or_default a.kinds.items at c.index.result.now 9 inside in
    let nine : own.kind ≡ 9 = sym read ∙ c.if-index-code.false ∙ c.if-code-eq-WHOLE.true in
    let whole : seen row ≡ get_or wholes at [] = ap seen c.index-then-code-eq-WHOLE.ensures ∙ sym (get_or-map seen a.wholes.items at row [] held) in
    c.eq.ensures ∙ g.met.R.AnyRow.same row c.args.key.now ∙ ap (λ (w : Row). same_row w key) whole
    ∙ whole_same limit own (get_or wholes at []) key (c.self.invariant.each at within) nine
    ∙ sym (ap (λ (x : Row × ℕ). same_row key x.0) (kept_is limit a.heads.items a.kinds.items wholes s c.self.view_is c.self.invariant at within ([], 0)))

pub returns-then-head-code : goal.returns-then-head-code
returns-then-head-code g c =
    let a = c.self.inside in
    let s = c.args.self.now in
    let at = c.args.at in
    let limit = g.R.Number.Number.limit in
    let wholes = map g.R.Columns.columns a.wholes.items in
    let key = g.R.Columns.columns c.args.key.now in
    let code = c.code_of-code.result in
    let head = c.index-head.result.now in
    let within = within_heads limit a.heads.items a.kinds.items wholes s c.self.view_is c.self.invariant at c.requires in
    let inside = within_kinds limit a.heads.items a.kinds.items wholes s c.self.view_is c.self.invariant at c.requires in
    let own = code_in (get_or a.kinds.items at 9) head in
    let is = c.code_of-code.ensures.code in
    let read : c.index.result.now ≡ get_or a.kinds.items at 9 = c.index.ensures ∙ get_or_default a.kinds.items at c.index.result.now 9 inside in
    let kind : own.kind ≡ (code_of key).kind = sym read ∙ c.if-index-code.false ∙ ap (λ (d : Code). d.kind) is in
    let all : (nat_eq head.first code.first && nat_eq head.second code.second) ≡ same_row key (key_in own (get_or wholes at [])) =
    ap (λ (d : Code). nat_eq head.first d.first && nat_eq head.second d.second) is
    ∙ words_same limit own (get_or wholes at []) key (head_is limit a.heads.items a.kinds.items wholes s c.self.view_is c.self.invariant at head within c.index-head.ensures) kind
    (λ nine. c.if-code-eq-WHOLE.false (ap (λ (d : Code). d.kind) is ∙ nine)) in
    second_test (nat_eq head.first code.first) (nat_eq head.second code.second) (same_row key (get_or s at ([], 0)).0)
    (all ∙ sym (ap (λ (x : Row × ℕ). same_row key x.0) (cell_is limit a.heads.items a.kinds.items wholes s c.self.view_is c.self.invariant at head within c.index-head.ensures ([], 0))))
    (eq-eqb head.first code.first c.if-head-code.true)

pub returns-else-head-code : goal.returns-else-head-code
returns-else-head-code g c =
    let a = c.self.inside in
    let s = c.args.self.now in
    let at = c.args.at in
    let limit = g.R.Number.Number.limit in
    let wholes = map g.R.Columns.columns a.wholes.items in
    let key = g.R.Columns.columns c.args.key.now in
    let code = c.code_of-code.result in
    let head = c.index-head.result.now in
    let within = within_heads limit a.heads.items a.kinds.items wholes s c.self.view_is c.self.invariant at c.requires in
    let inside = within_kinds limit a.heads.items a.kinds.items wholes s c.self.view_is c.self.invariant at c.requires in
    let own = code_in (get_or a.kinds.items at 9) head in
    let is = c.code_of-code.ensures.code in
    let read : c.index.result.now ≡ get_or a.kinds.items at 9 = c.index.ensures ∙ get_or_default a.kinds.items at c.index.result.now 9 inside in
    let kind : own.kind ≡ (code_of key).kind = sym read ∙ c.if-index-code.false ∙ ap (λ (d : Code). d.kind) is in
    let all : (nat_eq head.first code.first && nat_eq head.second code.second) ≡ same_row key (key_in own (get_or wholes at [])) =
    ap (λ (d : Code). nat_eq head.first d.first && nat_eq head.second d.second) is
    ∙ words_same limit own (get_or wholes at []) key (head_is limit a.heads.items a.kinds.items wholes s c.self.view_is c.self.invariant at head within c.index-head.ensures) kind
    (λ nine. c.if-code-eq-WHOLE.false (ap (λ (d : Code). d.kind) is ∙ nine)) in
    first_test (nat_eq head.first code.first) (nat_eq head.second code.second) (same_row key (get_or s at ([], 0)).0)
    (all ∙ sym (ap (λ (x : Row × ℕ). same_row key x.0) (cell_is limit a.heads.items a.kinds.items wholes s c.self.view_is c.self.invariant at head within c.index-head.ensures ([], 0))))
    (not_true (nat_eq head.first code.first) (λ e. c.if-head-code.false (nat_same head.first code.first e)))
