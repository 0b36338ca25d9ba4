use Rattle.std.proofs.Common.{◌≡◌, List, map, ap, sym, ◌∙◌, subst}
use Rattle.sn_base.specs.Groups.{Row}
use Rattle.sn_base.specs.Operators.{through}
use Rattle.sn_base.specs.Columns.{IsOf}
use Rattle.sn_types.specs.declared.typed_op.JoinKey.{JoinKey}
use Rattle.sn_types.specs.declared.typed_op.TOp.{TOp}
use Rattle.sn_types.specs.declared.typed_query.TypedQuery.{TypedQuery}
use Rattle.sn_types.specs.Typed.{query_at, schema_at, final_columns}
use Rattle.sn_types.specs.Values.{op_at}
use Rattle.sn_types.proofs.RowsAfter.{AreOf}
use Rattle.sn_ops.specs.Flow.{AllFit, FrontsFit}
use Rattle.sn_ops.specs.Joins.{joined}
use Rattle.sn_ops.proofs.Queries.{CanBeJoined, query_joined, query_posts, query_posts_final}
use Rattle.sn_ops.proofs.Steps.{ok_weaker}
use Rattle.sn_ops.proofs.plain.join_branches.Goals as goal
use Rattle.sn_ops.proofs.plain.join_branches.Goals.{After-as_slice}
use Rattle.sn_ops.proofs.plain.join_branches.Given.{Over}
use Rattle.sn_base.proofs.Lists.{all_front}

posts_are : (g : Over) (c : After-as_slice g) → c.as_slice.result.now ≡ (query_at c.args.t.now.queries c.args.q).posts
posts_are g c = c.as_slice.ensures ∙ ap (λ (x : TypedQuery). x.posts) c.query.ensures

-- the rows of the two branches can be joined
can_join : (g : Over) (c : After-as_slice g) → CanBeJoined c.join_keys.result.now (schema_at (query_at c.args.t.now.queries c.args.q).schemas 0) c.args.left.now c.args.right.now
can_join g c =
    let queries = c.args.t.now.queries in
    let q = c.args.q in
    subst (λ (ks : List JoinKey). CanBeJoined ks (schema_at (query_at queries q).schemas 0) c.args.left.now c.args.right.now) (sym c.join_keys.ensures)
    (query_joined c.args.t.now.window_us queries q c.args.left.now c.args.right.now c.args.t.now.typed c.requires.query c.requires.branches c.requires.left c.requires.right)

-- and the operators after the join can be evaluated at the first of the pairs, as many as may be
fronts_fit : (g : Over) (c : After-as_slice g) → FrontsFit c.args.level c.as_slice.result.now (joined c.join_keys.result.now c.args.left.now c.args.right.now)
fronts_fit g c front following e =
    let queries = c.args.t.now.queries in
    let q = c.args.q in
    let columns = schema_at (query_at queries q).schemas 0 in
    let of : AreOf columns front = all_front (IsOf columns) front following (subst (AreOf columns) (sym e) (can_join g c).of) in
    subst (λ (os : List TOp). AllFit c.args.level os front) (sym (posts_are g c)) (query_posts c.args.t.now.window_us queries q c.args.level front c.args.t.now.typed c.requires.query of)

pub join_through-requires : goal.join_through-requires
join_through-requires g c =
    let at = (goal.at.join_through-requires g c).After-as_slice in
    let f = can_join g at in
    record { keys = f.few_keys; left_places = f.left_places; right_places = f.right_places; few = f.few; fit = fronts_fit g at }

pub returns : goal.returns
returns g c =
    let at = (goal.at.returns g c).After-as_slice in
    let queries = c.args.t.now.queries in
    let query = query_at queries c.args.q in
    let level = c.args.level in
    let left = c.args.left.now in
    let right = c.args.right.now in
    let out = through (map (op_at level) c.as_slice.result.now) (joined c.join_keys.result.now left right) in
    let whole = through (map (op_at level) query.posts) (joined query.keys left right) in
    let columns = final_columns query in
    let pairs : AreOf (schema_at query.schemas 0) (joined query.keys left right) =
    (query_joined c.args.t.now.window_us queries c.args.q left right c.args.t.now.typed c.requires.query c.requires.branches c.requires.left c.requires.right).of in
    let same : out ≡ whole =
    ap (λ (os : List TOp). through (map (op_at level) os) (joined c.join_keys.result.now left right)) (posts_are g at)
    ∙ ap (λ (ks : List JoinKey). through (map (op_at level) query.posts) (joined ks left right)) c.join_keys.ensures in
    let of : AreOf columns whole = query_posts_final c.args.t.now.window_us queries c.args.q level (joined query.keys left right) c.args.t.now.typed c.requires.query pairs in
    record {
      rows = ok_weaker (λ (rows : List Row). rows ≡ out) (λ (rows : List Row). rows ≡ whole) (λ rows h. h ∙ same) c.join_through.result c.join_through.ensures;
      columns = ok_weaker (λ (rows : List Row). rows ≡ out) (AreOf columns) (λ rows h. subst (AreOf columns) (sym (h ∙ same)) of) c.join_through.result c.join_through.ensures;
    }
