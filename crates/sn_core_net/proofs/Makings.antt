-- A net as it is made.
use Rattle.std.proofs.Common.{◌≡◌, ℕ, ◌<◌, ◌≤◌, ◌==◌, ◌&&◌, List, [], ◌∷◌, map, length, Bool, true, false, not, Option, None, Some, refl, ap, ap₂, sym, ◌∙◌, arith}
use Rattle.std.specs.FinSet as set
use Rattle.std.specs.List.{AllByRecursion, list_all}
use Rattle.std.proofs.Math.Bridge.{le_prop}
use Rattle.std.proofs.Math.Logic.{∥∥₁_elim}
use Rattle.std.proofs.lemmas.List.{length-append, length-map}
use Rattle.sn_base.proofs.Lists.{map_both, nat_self, and_both as both}
use Rattle.sn_base.specs.declared.lane.Lane.{Lane as Name}
use Rattle.sn_core.proofs.StandingKept.{new_is_net}
use Rattle.sn_core.specs.Calls.{made}
use Rattle.sn_core.specs.Due.{fresh}
use Rattle.sn_core.specs.Nets.{Lane}
use Rattle.sn_core.specs.Standing.{IsNet}
use Rattle.sn_engine_lockstep.proofs.Changes.{own_name}
use Rattle.sn_engine_lockstep.specs.Work.{AreApart, intake_of, name_of}
use Rattle.sn_engine_lockstep.specs.declared.source.Source.{Source}
use Rattle.sn_emit.proofs.PlanLanes.{lanes_of_new, pipe_start}
use Rattle.sn_emit.specs.Plans.{AreLanesOf, AreNewLanes, IsNewLane, Placed, pieces_from, placed}
use Rattle.sn_emit.specs.declared.sender.Sender.{Sender}
use Rattle.sn_emit.specs.declared.tables.Tables.{Tables}
use Rattle.sn_engine.specs.Intakes.{emptied, is_lane}
use Rattle.sn_engine.specs.declared.intake.Intake.{Intake}
use Rattle.sn_plan_fit.specs.Fits.{AreEntriesOf, IsEntryOf}
use Rattle.sn_plan_fit.specs.Paths.{Place, last_of, piece_place, places}
use Rattle.sn_core_net.proofs.Lawful.{lawful_of}
use Rattle.sn_core_net.proofs.Settling.{unread_settled}
use Rattle.sn_core_net.specs.PlanWorkings.{AreLanesFor, workings_of}
use Rattle.sn_core_net.specs.Settled.{settled}
use Rattle.sn_pipe.specs.Pipes.{PipeState, at_start}
use Rattle.sn_plan_grammar.specs.declared.plan.Entry.{Entry}
use Rattle.sn_query_grammar.specs.Limits.{AreJoined}
use Rattle.sn_query_grammar.specs.declared.ast.Branch.{Branch}
use Rattle.sn_query_grammar.specs.declared.ast.Join.{Join}
use Rattle.sn_report.specs.Items.{Item}
use Rattle.sn_types.proofs.Sources.{source_of as query_source}
use Rattle.sn_types.specs.Typed.{IsTyped, query_at}
use Rattle.sn_types.specs.Typing.{typed_branch, typed_query}
use Rattle.sn_types.specs.declared.typed_query.TypedBranch.{TypedBranch}
use Rattle.sn_types.specs.declared.typed_query.TypedQuery.{TypedQuery}
use Rattle.sn_core_net.specs.Facts.{are_named, are_own, are_roomy, are_unread, names_of}
use Rattle.sn_core_net.specs.Holders.{with_ring}
use Rattle.sn_core_net.specs.States.{lane_of, lanes_of, works_of}

-- ---- what holds of new lanes

pub new_roomy : (room : ℕ) (ss : List Sender) → are_roomy room (map (with_ring room) ss) ≡ true
new_roomy room [] = refl
new_roomy room (s ∷ ss) = both (room == room) (are_roomy room (map (with_ring room) ss)) (nat_self room) (new_roomy room ss)

pub new_own : (window room : ℕ) (ss : List Sender) → are_own window (map (with_ring room) ss) ≡ true
new_own window room [] = refl
new_own window room (s ∷ ss) = new_own window room ss

module _ (queries : List TypedQuery) (tables : Tables) (room : ℕ) where
  new_names : (xs : List Placed) (ss : List Sender) → AreNewLanes queries tables xs ss → names_of (map (with_ring room) ss) ≡ map name_of xs
  new_names [] [] are = refl
  new_names [] (s ∷ ss) are = absurd are
  new_names (x ∷ xs) [] are = absurd are
  new_names (x ∷ xs) (s ∷ ss) are = ap₂ (λ name names. name ∷ names) are.0.lane (new_names xs ss are.1)

  pub new_unread : (xs : List Placed) (ss : List Sender) → AreNewLanes queries tables xs ss → are_unread (map (with_ring room) ss) ≡ true
  new_unread [] [] are = refl
  new_unread [] (s ∷ ss) are = absurd are
  new_unread (x ∷ xs) [] are = absurd are
  new_unread (x ∷ xs) (s ∷ ss) are = both (s.pipe.prefix.place == 0) (are_unread (map (with_ring room) ss)) (ap (λ n. n == 0) are.0.pipe.unread) (new_unread xs ss are.1)

  -- they are those of the pieces
  lanes_for : (xs : List Placed) (ss : List Sender) (is : List Intake) → length is ≡ length ss → AreLanesOf queries tables xs ss → AreLanesFor queries tables xs (lanes_of (map (with_ring room) ss) is)
  lanes_for [] [] is e are = tt
  lanes_for [] (s ∷ ss) is e are = absurd are
  lanes_for (x ∷ xs) [] is e are = absurd are
  lanes_for (x ∷ xs) (s ∷ ss) [] e are = absurd (omega (arith, e))
  lanes_for (x ∷ xs) (s ∷ ss) (i ∷ is) e are = (are.0.pipe, lanes_for xs ss is (omega (arith, e)) are.1)

  pub new_lanes_for : (xs : List Placed) (ss : List Sender) (is : List Intake) → length is ≡ length ss → AreNewLanes queries tables xs ss → AreLanesFor queries tables xs (lanes_of (map (with_ring room) ss) is)
  new_lanes_for xs ss is e are = lanes_for xs ss is e (lanes_of_new queries tables xs ss are)

  -- and as a net is made
  module _ (intakes : List Intake) (sources : List Source) where
    fresh_lane : (x : Placed) (s : Sender) → IsNewLane queries tables x s → lane_of (with_ring room s) (intake_of x) ≡ fresh (workings_of queries intakes sources) set.empty (lane_of (with_ring room s) (intake_of x))
    fresh_lane x s new =
        let start : settled s.pipe ≡ at_start s.pipe set.empty = unread_settled s.pipe new.pipe.unread ∙ sym (pipe_start queries tables x s new) in
        ap (λ (p : PipeState). record (lane_of (with_ring room s) (intake_of x)) { pipe = p }) start
        ∙ ap (λ (b : Bool). record (lane_of (with_ring room s) (intake_of x)) { pipe = at_start s.pipe set.empty; ended = b }) new.no_end

    pub fresh_lanes : (xs : List Placed) (ss : List Sender) → AreNewLanes queries tables xs ss
        → lanes_of (map (with_ring room) ss) (map intake_of xs) ≡ map (fresh (workings_of queries intakes sources) set.empty) (lanes_of (map (with_ring room) ss) (map intake_of xs))
    fresh_lanes [] [] are = refl
    fresh_lanes [] (s ∷ ss) are = absurd are
    fresh_lanes (x ∷ xs) [] are = absurd are
    fresh_lanes (x ∷ xs) (s ∷ ss) are = ap₂ (λ lane lanes. lane ∷ lanes) (fresh_lane x s are.0) (fresh_lanes xs ss are.1)

  -- ---- names

  none_other : (x : Placed) (ys : List Placed) → AllByRecursion (λ y. is_lane (name_of y) (intake_of x) ≡ false) ys → list_all (λ other. not (is_lane other (intake_of x))) (map name_of ys) ≡ true
  none_other x [] h = refl
  none_other x (y ∷ ys) h = both (not (is_lane (name_of y) (intake_of x))) (list_all (λ other. not (is_lane other (intake_of x))) (map name_of ys)) (ap not h.0) (none_other x ys h.1)

  pieces_named : (xs : List Placed) → AreApart xs → are_named (map name_of xs) (map emptied (map intake_of xs)) ≡ true
  pieces_named [] h = refl
  pieces_named (x ∷ xs) h =
      both (is_lane (name_of x) (intake_of x) && list_all (λ other. not (is_lane other (intake_of x))) (map name_of xs)) (are_named (map name_of xs) (map emptied (map intake_of xs)))
      (both (is_lane (name_of x) (intake_of x)) (list_all (λ other. not (is_lane other (intake_of x))) (map name_of xs)) (own_name x) (none_other x xs h.0)) (pieces_named xs h.1)

  pub new_named : (xs : List Placed) (ss : List Sender) (is : List Intake) → AreApart xs → AreNewLanes queries tables xs ss → is ≡ map intake_of xs → are_named (names_of (map (with_ring room) ss)) (map emptied is) ≡ true
  new_named xs ss is apart are e =
      ap₂ (λ (names : List Name) (ys : List Intake). are_named names (map emptied ys)) (new_names xs ss are) e ∙ pieces_named xs apart

pub emptied_intakes : (xs : List Placed) → map emptied (map intake_of xs) ≡ map intake_of xs
emptied_intakes xs = map_both intake_of emptied xs

-- ---- there is a lane

some_joined : (branches : List Branch) (join : Option Join) → AreJoined branches join → 1 ≤ length branches
some_joined branches None h = omega (arith, h)
some_joined branches (Some j) h = omega (arith, h.0)

some_branches : (window : ℕ) (queries : List TypedQuery) (q : ℕ) → ∥ IsTyped window queries ∥₁ → q < length queries → 1 ≤ length (query_at queries q).branches
some_branches window queries q t lt =
    ∥∥₁_elim t le_prop (λ t.
    let s = query_source window queries q t lt in
    let same = ap (λ (x : TypedQuery). length x.branches) s.is ∙ length-map s.query.branches (λ (x : Branch). typed_branch x.ops) in
    let least = some_joined s.query.branches s.query.join s.limits.joined in
    omega (arith, same, least))

some_queries : (window : ℕ) (queries : List TypedQuery) → ∥ IsTyped window queries ∥₁ → 1 ≤ length queries
some_queries window queries t =
    ∥∥₁_elim t le_prop (λ t. let same = ap length t.1.same_queries ∙ length-map t.0.queries typed_query in let least = t.1.limits.count.from_least in omega (arith, same, least))

some_places : (branches : List TypedBranch) (path : List ℕ) (level : ℕ) → 1 ≤ length branches → last_of path ≡ Some level → 1 ≤ length (places branches path)
some_places [] path level some last = absurd (omega (arith, some))
some_places (b ∷ branches) [] level some last = cc
some_places (b ∷ branches) (l ∷ path) level some last = omega arith

some_pieces_of : (q : TypedQuery) (e : Entry) (es : List Entry) → 1 ≤ length q.branches → IsEntryOf q e → 0 < length (pieces_from 0 (e ∷ es))
some_pieces_of q e es some is =
    let here : length e.pieces ≡ length (places q.branches e.levels) = sym (length-map e.pieces piece_place) ∙ ap (λ (ps : List Place). length ps) is.pieces in
    let least = some_places q.branches e.levels is.path.finest.0 some is.path.finest.1 in
    let own = length-map e.pieces (placed 0 e.levels) in
    omega (arith, here, least, own, length-append (map (placed 0 e.levels) e.pieces) (pieces_from 1 es))

pub some_pieces : (window : ℕ) (queries : List TypedQuery) (es : List Entry) → ∥ IsTyped window queries ∥₁ → AreEntriesOf queries es → 0 < length (pieces_from 0 es)
some_pieces window [] es t h = let some = some_queries window [] t in absurd (omega (arith, some))
some_pieces window (q ∷ queries) [] t h = absurd h
some_pieces window (q ∷ queries) (e ∷ es) t h = some_pieces_of q e es (some_branches window (q ∷ queries) 0 t (omega arith)) h.0

-- ---- the state stands

pub made_stands : (queries : List TypedQuery) (intakes : List Intake) (sources : List Source) (room : ℕ) (lanes : List (Lane PipeState Item)) → 0 < room → 0 < length lanes → IsNet (works_of queries intakes sources) (made (works_of queries intakes sources) room lanes)
made_stands queries intakes sources room lanes some_room some_lane = new_is_net (works_of queries intakes sources) (lawful_of queries (map emptied intakes) sources) room lanes some_room some_lane
