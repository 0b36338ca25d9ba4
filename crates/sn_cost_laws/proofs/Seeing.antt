-- What a level sees of a window goes by the path up to that level.
use Rattle.std.proofs.Common.{◌≡◌, ℕ, zero, suc, ◌+◌, ◌-◌, ◌*◌, ◌≤◌, ◌<◌, List, [], ◌∷◌, length, take, slice_index, cond, Option, None, Some, true, refl, ap}
use Rattle.std.proofs.Common.{◌∙◌, arith}
use Rattle.std.specs.Option.{option_map}
use Rattle.std.proofs.lemmas.List.{length-take-le}
use Rattle.sn_base.specs.Groups.{Row}
use Rattle.sn_cost.specs.Entries as cost
use Rattle.sn_cost_laws.specs.Sent.{piece_installed}
use Rattle.sn_engine_lockstep.specs.Windows.{count_of, piece_count}
use Rattle.sn_engine_split.specs.Opened.{is_open}
use Rattle.sn_refine.specs.Steps.{Set, prefixes_of}
use Rattle.sn_switch.specs.declared.switch.Switch.{Switch}
use Rattle.sn_engine_lockstep.proofs.Apart.{place_is}
use Rattle.sn_emit.specs.Plans.{placed, tables_of}
use Rattle.sn_plan_fit.specs.Paths.{is_among, place_in}
use Rattle.sn_plan_grammar.specs.declared.plan.Piece.{Piece}
use Rattle.sn_refine.specs.Passes.{passes_at, prefixes_before}
use Rattle.sn_refine.specs.Refined.{Windows, answered, before, level_rows, refined_rows, seen_at}
use Rattle.sn_types.specs.declared.typed_query.TypedQuery.{TypedQuery}
use Rattle.sn_types.specs.Typed.{query_at}

take_index : (path : List ℕ) (k i : ℕ) → i < k → slice_index (take k path) i ≡ slice_index path i
take_index path zero i lt = absurd (omega (arith, lt))
take_index [] (suc k) i lt = refl
take_index (l ∷ path) (suc k) zero lt = refl
take_index (l ∷ path) (suc k) (suc i) lt = take_index path k i (omega (arith, lt))

before_same : (f g : ℕ → List Row) → ((w : ℕ) → f w ≡ g w) → (w : ℕ) → before f w ≡ before g w
before_same f g e zero = refl
before_same f g e (suc w) = e w

module _ (query : TypedQuery) (windows : Windows) (path : List ℕ) (k : ℕ) where
  refined_same : (j : ℕ) → j < k → (w : ℕ) → refined_rows query windows (take k path) j w ≡ refined_rows query windows path j w
  refined_same zero lt w = ap (λ (level : ℕ). level_rows query level (windows w)) (take_index path k 0 lt)
  refined_same (suc j) lt w =
      let less : j < k = omega (arith, lt) in
      ap (λ (level : ℕ). level_rows query level (option_map (answered query (slice_index (take k path) j) (before (refined_rows query windows (take k path) j) w)) (windows w))) (take_index path k (suc j) lt)
      ∙ ap (λ (bits : ℕ). level_rows query (slice_index path (suc j)) (option_map (answered query bits (before (refined_rows query windows (take k path) j) w)) (windows w))) (take_index path k j less)
      ∙ ap (λ (rows : List Row). level_rows query (slice_index path (suc j)) (option_map (answered query (slice_index path j) rows) (windows w)))
      (before_same (refined_rows query windows (take k path) j) (refined_rows query windows path j) (refined_same j less) w)

  seen_same : (j : ℕ) → j < k → (w : ℕ) → seen_at query windows (take k path) j w ≡ seen_at query windows path j w
  seen_same zero lt w = refl
  seen_same (suc j) lt w =
      let less : j < k = omega (arith, lt) in
      ap (λ (bits : ℕ). option_map (answered query bits (before (refined_rows query windows (take k path) j) w)) (windows w)) (take_index path k j less)
      ∙ ap (λ (rows : List Row). option_map (answered query (slice_index path j) rows) (windows w))
      (before_same (refined_rows query windows (take k path) j) (refined_rows query windows path j) (refined_same j less) w)

  prefixes_same : (j : ℕ) → j < k → (w : ℕ) → prefixes_before query windows (take k path) j w ≡ prefixes_before query windows path j w
  prefixes_same j lt w = ap (prefixes_of query) (before_same (refined_rows query windows (take k path) j) (refined_rows query windows path j) (refined_same j lt) w)

  passes_same : (limit : Option ℕ) (j : ℕ) → j < k → (w : ℕ) → passes_at query limit windows (take k path) j w ≡ passes_at query limit windows path j w
  passes_same limit zero lt w = refl
  passes_same limit (suc j) lt w =
      let less : j < k = omega (arith, lt) in
      ap (λ (prefixes : Set). cond (is_open limit prefixes) (windows w) (seen_at query windows (take k path) (suc j) w)) (prefixes_same j less w)
      ∙ ap (cond (is_open limit (prefixes_before query windows path j w)) (windows w)) (seen_same (suc j) lt w)

  installed_same : (limit : Option ℕ) (j : ℕ) → j < k → (w : ℕ) → cost.installed_in query limit windows (take k path) j w ≡ cost.installed_in query limit windows path j w
  installed_same limit zero lt w = refl
  installed_same limit (suc j) lt w = let less : j < k = omega (arith, lt) in ap (cost.held_of limit) (prefixes_same j less w)

sent_same : (queries : List TypedQuery) (depth n : ℕ) (path : List ℕ) (p : Piece) (seen : Option (List (List ℕ)))
    → cost.sent_of (query_at queries n) p.branch p.level depth (p.cut, p.slots) seen ≡ count_of queries depth (placed n path p) seen
sent_same queries depth n path p None = refl
sent_same queries depth n path p (Some seen) = refl

-- what a piece costs in a window, by the path up to its level
pub piece_costs : (s : Switch) (queries : List TypedQuery) (n : ℕ) (windows : Windows) (path front : List ℕ) (p : Piece) (w : ℕ) → is_among path p.level ≡ true → front ≡ take (suc (place_in path p.level)) path
    → cost.cost_in (query_at queries n) s.entries s.weight windows front p.branch s.chain (p.cut, p.slots) w ≡ piece_count queries (tables_of s) windows w (placed n path p) + s.weight * piece_installed s queries windows w (placed n path p)
piece_costs s queries n windows path front p w among is =
    let query : TypedQuery = query_at queries n in
    let j : ℕ = place_in path p.level in
    let at = place_is path p.level among in
    let within : suc j ≤ length path = omega (arith, at.within) in
    let long : length (take (suc j) path) ≡ suc j = length-take-le (suc j) path within in
    let last : length (take (suc j) path) - 1 ≡ j = omega (arith, long) in
    let less : j < suc j = omega arith in
    let some : List ℕ → ℕ → ℕ → ℕ = λ xs m level. cost.sent_of query p.branch level s.chain (p.cut, p.slots) (passes_at query s.entries windows xs m w) in
    let sent : cost.sent_in query s.entries windows front p.branch s.chain (p.cut, p.slots) w ≡ piece_count queries (tables_of s) windows w (placed n path p) =
    ap (λ (xs : List ℕ). some xs (length xs - 1) (slice_index xs (length xs - 1))) is
    ∙ ap (λ (m : ℕ). some (take (suc j) path) m (slice_index (take (suc j) path) m)) last
    ∙ ap (some (take (suc j) path) j) (take_index path (suc j) j less ∙ at.is)
    ∙ ap (cost.sent_of query p.branch p.level s.chain (p.cut, p.slots)) (passes_same query windows path (suc j) s.entries j less w)
    ∙ sent_same queries s.chain n path p (passes_at query s.entries windows path j w) in
    let installed : cost.installed_in query s.entries windows front (length front - 1) w ≡ piece_installed s queries windows w (placed n path p) =
    ap (λ (xs : List ℕ). cost.installed_in query s.entries windows xs (length xs - 1) w) is
    ∙ ap (λ (m : ℕ). cost.installed_in query s.entries windows (take (suc j) path) m w) last
    ∙ installed_same query windows path (suc j) s.entries j less w in
    ap (λ (m : ℕ). m + s.weight * cost.installed_in query s.entries windows front (length front - 1) w) sent
    ∙ ap (λ (m : ℕ). piece_count queries (tables_of s) windows w (placed n path p) + s.weight * m) installed
