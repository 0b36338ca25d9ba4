use Rattle.std.proofs.Common.{◌≡◌, ℕ, ◌+◌, ◌*◌, ◌^◌, ◌<◌, [], length, map, get_or, ap, sym, subst, ◌∙◌, arith}
use Rattle.std.proofs.lemmas.List.{get_or-map, get_or_default, length-map}
use Rattle.sn_base.specs.Groups.{Row}
use Rattle.sn_chain.specs.Codes.{key_in}
use Rattle.sn_chain.specs.Stored.{code_in}
use Rattle.sn_chain.proofs.StoredLemmas.{within_heads, within_kinds, within_wholes, cell_is, head_is}
use Rattle.sn_chain.proofs.cells.Cells.at.Goals as goal

pub index-head-requires : goal.index-head-requires
index-head-requires g c =
    let a = c.self.inside in
    let s = c.args.self.now in
    let at = c.args.at in
    let limit = g.R.Number.Number.limit in
    let wholes = map g.R.Columns.columns a.wholes.items in
    omega (arith, within_heads limit a.heads.items a.kinds.items wholes s c.self.view_is c.self.invariant at c.requires, a.heads.ok.0)

pub index-requires : goal.index-requires
index-requires g c =
    let a = c.self.inside in
    let s = c.args.self.now in
    let at = c.args.at in
    let limit = g.R.Number.Number.limit in
    let wholes = map g.R.Columns.columns a.wholes.items in
    omega (arith, within_kinds limit a.heads.items a.kinds.items wholes s c.self.view_is c.self.invariant at c.requires, a.kinds.ok.0)

pub index-requires-2 : goal.index-requires-2
index-requires-2 g c =
    let a = c.self.inside in
    let s = c.args.self.now in
    let at = c.args.at in
    let limit = g.R.Number.Number.limit in
    let wholes = map g.R.Columns.columns a.wholes.items in
    omega (arith, within_wholes limit a.heads.items a.kinds.items wholes s c.self.view_is c.self.invariant at c.requires, length-map a.wholes.items g.R.Columns.columns, a.wholes.ok.0)

pub key_of-key-requires : goal.key_of-key-requires
key_of-key-requires g c =
    let a = c.self.inside in
    let s = c.args.self.now in
    let at = c.args.at in
    let limit = g.R.Number.Number.limit in
    let wholes = map g.R.Columns.columns a.wholes.items in
    let head = c.index-head.result.now in
    let within = within_heads limit a.heads.items a.kinds.items wholes s c.self.view_is c.self.invariant at c.requires in
    let inside = within_kinds limit a.heads.items a.kinds.items wholes s c.self.view_is c.self.invariant at c.requires in
    let kind : c.index.result.now ≡ get_or a.kinds.items at 9 = c.index.ensures ∙ get_or_default a.kinds.items at c.index.result.now 9 inside in
    subst (λ (k : ℕ). k ≡ 1 → head.first + head.second * 2 ^ 64 < limit) (sym kind)
    (head_is limit a.heads.items a.kinds.items wholes s c.self.view_is c.self.invariant at head within c.index-head.ensures).single

pub returns : goal.returns
returns g c =
    let a = c.self.inside in
    let s = c.args.self.now in
    let at = c.args.at in
    let limit = g.R.Number.Number.limit in
    let wholes = map g.R.Columns.columns a.wholes.items in
    let head = c.index-head.result.now in
    let seen = g.R.Columns.columns in
    let within = within_heads limit a.heads.items a.kinds.items wholes s c.self.view_is c.self.invariant at c.requires in
    let inside = within_kinds limit a.heads.items a.kinds.items wholes s c.self.view_is c.self.invariant at c.requires in
    let there = within_wholes limit a.heads.items a.kinds.items wholes s c.self.view_is c.self.invariant at c.requires in
    let held : at < length a.wholes.items = subst (λ (n : ℕ). at < n) (length-map a.wholes.items seen) there in
    let kind : c.index.result.now ≡ get_or a.kinds.items at 9 = c.index.ensures ∙ get_or_default a.kinds.items at c.index.result.now 9 inside in
    let whole : seen c.index-2.result.now ≡ get_or wholes at [] = ap seen c.index-2.ensures ∙ sym (get_or-map seen a.wholes.items at c.index-2.result.now [] held) in
    ap (λ (k : Row). (k, head.value))
    (c.key_of-key.ensures ∙ ap (λ (k : ℕ). key_in (code_in k head) (seen c.index-2.result.now)) kind ∙ ap (λ (w : Row). key_in (code_in (get_or a.kinds.items at 9) head) w) whole)
    ∙ sym (cell_is limit a.heads.items a.kinds.items wholes s c.self.view_is c.self.invariant at head within c.index-head.ensures ([], 0))
