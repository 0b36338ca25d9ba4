use Rattle.std.proofs.Common.{ℕ, List, [], map, get_or, set, refl, ap, sym, subst, ◌∙◌, arith}
use Rattle.std.proofs.lemmas.List.{length-map, map-set}
use Rattle.sn_base.specs.Groups.{Row}
use Rattle.sn_chain.specs.Stored.{cell_of, cells_of, AreStored}
use Rattle.sn_chain.specs.declared.head.Head.{Head}
use Rattle.sn_chain.proofs.CodeLemmas.{key_reported, reported_stored}
use Rattle.sn_chain.proofs.StoredLemmas.{within_heads, within_kinds, within_wholes, kind_written, all_written, kind_stored, all_stored}
use Rattle.sn_chain.proofs.cells.Cells.take.Goals as goal

pub index_mut-requires : goal.index_mut-requires
index_mut-requires g c =
    let a = c.self.inside in
    let s = c.args.self.now in
    let at = c.args.at in
    let limit = g.R.Number.Number.limit in
    let wholes = map g.R.Columns.columns a.wholes.items in
    omega (arith, within_heads limit a.heads.items a.kinds.items wholes s c.self.view_is c.self.invariant at c.requires, a.heads.ok.0)

pub index_mut-requires-2 : goal.index_mut-requires-2
index_mut-requires-2 g c =
    let a = c.self.inside in
    let s = c.args.self.now in
    let at = c.args.at in
    let limit = g.R.Number.Number.limit in
    let wholes = map g.R.Columns.columns a.wholes.items in
    omega (arith, within_kinds limit a.heads.items a.kinds.items wholes s c.self.view_is c.self.invariant at c.requires, a.kinds.ok.0)

pub index_mut-requires-then-code-eq-WHOLE : goal.index_mut-requires-then-code-eq-WHOLE
index_mut-requires-then-code-eq-WHOLE g c =
    let a = c.self.inside in
    let s = c.args.self.now in
    let at = c.args.at in
    let limit = g.R.Number.Number.limit in
    let wholes = map g.R.Columns.columns a.wholes.items in
    omega (arith, within_wholes limit a.heads.items a.kinds.items wholes s c.self.view_is c.self.invariant at c.requires, length-map a.wholes.items g.R.Columns.columns, a.wholes.ok.0)

pub invariant_of-self : goal.invariant_of-self
invariant_of-self g c =
    let a = c.self.inside in
    let s = c.args.self.now in
    let at = c.args.at in
    let limit = g.R.Number.Number.limit in
    let wholes = map g.R.Columns.columns a.wholes.items in
    let code = c.code_of-code.result in
    let key = g.R.Columns.columns c.args.key.now in
    let head : Head = record { first = code.first; second = code.second; value = c.args.value } in
    subst (λ (ws : List Row). AreStored limit (set a.heads.items at head) (set a.kinds.items at code.kind) ws) (sym (map-set g.R.Columns.columns a.wholes.items at c.args.key.now))
    (all_stored limit a.heads.items a.kinds.items wholes c.self.invariant at head code.kind key (reported_stored limit code key key c.code_of-code.ensures.code (λ nine. refl) c.code_of-code.ensures.single))

pub invariant_of-self-else-code-eq-WHOLE : goal.invariant_of-self-else-code-eq-WHOLE
invariant_of-self-else-code-eq-WHOLE g c =
    let a = c.self.inside in
    let s = c.args.self.now in
    let at = c.args.at in
    let limit = g.R.Number.Number.limit in
    let wholes = map g.R.Columns.columns a.wholes.items in
    let code = c.code_of-code.result in
    let key = g.R.Columns.columns c.args.key.now in
    let head : Head = record { first = code.first; second = code.second; value = c.args.value } in
    kind_stored limit a.heads.items a.kinds.items wholes c.self.invariant at head code.kind
    (λ there. reported_stored limit code key (get_or wholes at []) c.code_of-code.ensures.code (λ nine. absurd (c.if-code-eq-WHOLE.false nine)) c.code_of-code.ensures.single)

pub returns-then-code-eq-WHOLE : goal.returns-then-code-eq-WHOLE
returns-then-code-eq-WHOLE g c =
    let a = c.self.inside in
    let s = c.args.self.now in
    let at = c.args.at in
    let limit = g.R.Number.Number.limit in
    let wholes = map g.R.Columns.columns a.wholes.items in
    let code = c.code_of-code.result in
    let key = g.R.Columns.columns c.args.key.now in
    let head : Head = record { first = code.first; second = code.second; value = c.args.value } in
    ap (λ (ws : List Row). cells_of (set a.heads.items at head) (set a.kinds.items at code.kind) ws) (map-set g.R.Columns.columns a.wholes.items at c.args.key.now)
    ∙ all_written a.heads.items a.kinds.items wholes at head code.kind key c.self.invariant.kinds_level c.self.invariant.wholes_level
    ∙ ap (λ (cells : List (Row × ℕ)). set cells at (cell_of head code.kind key)) c.self.view_is
    ∙ ap (λ (k : Row). set s at (k, c.args.value)) (key_reported limit code key key c.code_of-code.ensures.code (λ nine. refl))

pub returns-else-code-eq-WHOLE : goal.returns-else-code-eq-WHOLE
returns-else-code-eq-WHOLE g c =
    let a = c.self.inside in
    let s = c.args.self.now in
    let at = c.args.at in
    let limit = g.R.Number.Number.limit in
    let wholes = map g.R.Columns.columns a.wholes.items in
    let code = c.code_of-code.result in
    let key = g.R.Columns.columns c.args.key.now in
    let whole = get_or wholes at [] in
    let head : Head = record { first = code.first; second = code.second; value = c.args.value } in
    kind_written a.heads.items a.kinds.items wholes at head code.kind c.self.invariant.kinds_level c.self.invariant.wholes_level
    ∙ ap (λ (cells : List (Row × ℕ)). set cells at (cell_of head code.kind whole)) c.self.view_is
    ∙ ap (λ (k : Row). set s at (k, c.args.value)) (key_reported limit code key whole c.code_of-code.ensures.code (λ nine. absurd (c.if-code-eq-WHOLE.false nine)))
