use Rattle.std.proofs.Common.{◌≡◌, ◌<◌, ◌∙◌, List, length, sym, subst}
use Rattle.sn_types.specs.declared.typed_query.TypedQuery.{TypedQuery}
use Rattle.sn_types.specs.Kinds.{AreBelow}
use Rattle.sn_types.specs.Typed.{branch_at, query_at}
use Rattle.sn_types.specs.Cuts.{size_at}
use Rattle.sn_pipe.specs.Pipes.{AreRowsOf, IsPipe, asking, passing}
use Rattle.sn_pipe.specs.Prefixes.{PrefixState}
use Rattle.sn_pipe.specs.declared.rows.PacketRows.{PacketRows}
use Rattle.sn_pipe.proofs.Takes.{new_pipe}
use Rattle.sn_pipe.proofs.pipe.Pipe.make.Goals as goal

pub invariant_of-result : goal.invariant_of-result
invariant_of-result g c =
    let a = c.args in
    let prefix : PrefixState = c.in_ok-prefix.prefix in
    let of = c.in_ok-prefix.ensures in
    let query = query_at a.t.now.queries a.q in
    let rows : PacketRows = c.in_ok-rows.rows in
    let made = c.in_ok-rows.ensures in
    let is = new_pipe query a.b a.level a.cut a.coarser c.front.result.now a.chain (size_at c.front.result.now a.slots.now) prefix c.requires.branch c.requires.level c.requires.coarser of.level of.stages c.front.ensures.ops in
    subst (λ (queries : List TypedQuery). (a.q < length queries) × IsPipe (query_at queries a.q) a.b a.coarser prefix × AreBelow g.R.Number.Number.limit (branch_at queries a.q a.b).fields ×
    (asking c.asks.result c.new-members.result ≡ passing a.coarser c.new-members.result) × AreRowsOf (query_at queries a.q) a.b prefix.level rows)
    (sym c.in_ok-copy.ensures.queries) (
      c.requires.query,
      is,
      c.requires.below,
      c.asks.ensures,
      (made.refined ∙ c.packets.ensures.refined, made.level ∙ c.packets.ensures.level ∙ sym of.level, made.fields ∙ c.packets.ensures.fields),
    )
