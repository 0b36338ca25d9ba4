-- Where a reader stands as it reads a partial plan.
use Rattle.std.proofs.Common.{◌≡◌, ℕ, zero, suc, ◌+◌, ◌-◌, ◌<◌, List, [], ◌∷◌, ◌++◌, map, drop, length, get_or, refl, ap, sym, ◌∙◌, subst, arith}
use Rattle.std.specs.Prelude.{fold, Some, None}
use Rattle.std.specs.List.{sum_by}
use Rattle.std.proofs.lemmas.List.Sums.{sum_by-cons, sum_by-append}
use Rattle.sn_switch.specs.declared.switch.Switch.{Switch}
use Rattle.sn_types.specs.declared.typed_query.TypedQuery.{TypedQuery}
use Rattle.sn_plan_fit.specs.Capped.{capped}
use Rattle.sn_tree_space.specs.declared.follow.Follow.TheVariants.{Complete, Choices}
use Rattle.sn_tree_space.specs.Space.{IsPartial}
use Rattle.sn_tree_space.specs.Readers.{Reader}
use Rattle.sn_tree_space.specs.Agendas.{Agenda, agenda_reader, agenda_space, first_choices}
use Rattle.sn_plan_choices.specs.Options.{paths}
use Rattle.sn_plan_choices.specs.Within.{least_below}
use Rattle.sn_plan_choices.specs.Planning.{Task, for_path, for_piece, for_stage, StageTask, PieceTask, PathTask, Taken, least_of, least_entry, least_path, pieces_of, planning, first_tasks}
use Rattle.sn_plan_space.specs.declared.known.KnownPiece.{KnownPiece}
use Rattle.sn_plan_space.specs.declared.known.KnownQuery.{KnownQuery}
use Rattle.sn_plan_space.specs.declared.waiting.Waiting.{Waiting}
use Rattle.sn_plan_space.specs.declared.position.Position.{Position}
use Rattle.sn_plan_space.specs.declared.position.Took.{Took}
use Rattle.sn_plan_space.specs.declared.totals.Totals.{Totals}
use Rattle.sn_plan_space.specs.Known.{known_piece, known_query, numbered}
use Rattle.sn_plan_space.specs.Positions.{WaitsFor, IsTook, Stands, GoesTo}
use Rattle.sn_plan_space.specs.Reading.{Follows, after_choices}
use Rattle.sn_plan_space.specs.Totals.{AreTotals}
use Rattle.sn_plan_space.proofs.Following.{partial_follows, from_place}
use Rattle.sn_plan_space.proofs.Making.{leasts}

module _ (s : Switch) (entry : ℕ → ℕ → ℕ → ℕ → ℕ) (queries : List TypedQuery) where
  abbrev pub plan_reader : Reader (Agenda Task Taken)
  plan_reader = agenda_reader (planning s entry) (first_tasks 0 queries)

  -- a position on the way through a list, with these choices still to be read
  pub record Reaches (p : Position) (left whole : List ℕ) : Type 0 where
    pub at : Agenda Task Taken
    pub stands : Stands s entry p at
    pub follows : Follows plan_reader at left
    pub ends : fold plan_reader.step at left ≡ after_choices s entry queries whole

  pub record ReachesWith (p : Position) (totals : Totals) (left whole : List ℕ) : Type 0 where
    pub at : Agenda Task Taken
    pub stands : Stands s entry p at
    pub follows : Follows plan_reader at left
    pub ends : fold plan_reader.step at left ≡ after_choices s entry queries whole
    pub totals_at : AreTotals totals at.taken

  pub begins : (p : Position) (whole : List ℕ) → Stands s entry p (after_choices s entry queries []) → IsPartial (agenda_space (planning s entry) (first_tasks 0 queries)) whole → Reaches p whole whole
  begins p whole stands part = record { at = plan_reader.start; stands = stands; follows = partial_follows plan_reader (sum_by (planning s entry).most (first_tasks 0 queries)) whole part; ends = refl }

  pub begins_with : (p : Position) (totals : Totals) (whole : List ℕ) → Stands s entry p (after_choices s entry queries []) → AreTotals totals []
      → IsPartial (agenda_space (planning s entry) (first_tasks 0 queries)) whole → ReachesWith p totals whole whole
  begins_with p totals whole stands are part =
      record { at = plan_reader.start; stands = stands; follows = partial_follows plan_reader (sum_by (planning s entry).most (first_tasks 0 queries)) whole part; ends = refl; totals_at = are }

  step_with : (stages : ℕ) (p next : Position) (totals later : Totals) (took : Took) (x : ℕ) (rest whole : List ℕ) → s.stages ≡ stages → GoesTo stages p x next took
      → ((taken more : List Taken) → AreTotals totals taken → IsTook took more → AreTotals later (taken ++ more)) → ReachesWith p totals (x ∷ rest) whole → ReachesWith next later rest whole
  step_with stages p next totals later took x rest whole e goes adds r =
      let to = goes s entry r.at e r.stands r.follows.0 in
      record {
        at = plan_reader.step r.at x;
        stands = subst (Stands s entry next) to.is_next to.stands;
        follows = r.follows.1;
        ends = r.ends;
        totals_at = subst (λ (a : Agenda Task Taken). AreTotals later a.taken) to.is_next (subst (AreTotals later) (sym to.adds) (adds r.at.taken to.taken r.totals_at to.is_took));
      }

  pub steps_with : (stages : ℕ) (p next : Position) (totals later : Totals) (took : Took) (i : ℕ) (whole : List ℕ) → s.stages ≡ stages → i < length whole
      → GoesTo stages p (get_or whole i 0) next took → ((taken more : List Taken) → AreTotals totals taken → IsTook took more → AreTotals later (taken ++ more))
      → ReachesWith p totals (drop i whole) whole → ReachesWith next later (drop (i + 1) whole) whole
  steps_with stages p next totals later took i whole e h goes adds r =
      step_with stages p next totals later took (get_or whole i 0) (drop (i + 1) whole) whole e goes adds (subst (λ l. ReachesWith p totals l whole) (from_place whole i h) r)

  pub arrives : (p : Position) (i : ℕ) (whole : List ℕ) → drop i whole ≡ [] → Reaches p (drop i whole) whole → Stands s entry p (after_choices s entry queries whole)
  arrives p i whole e r = let k : Reaches p [] whole = subst (λ l. Reaches p l whole) e r in subst (Stands s entry p) k.ends k.stands

  pub arrives_with : (p : Position) (totals : Totals) (i : ℕ) (whole : List ℕ) → drop i whole ≡ [] → ReachesWith p totals (drop i whole) whole
      → AreTotals totals (after_choices s entry queries whole).taken
  arrives_with p totals i whole e r =
      let k : ReachesWith p totals [] whole = subst (λ l. ReachesWith p totals l whole) e r in subst (λ (a : Agenda Task Taken). AreTotals totals a.taken) k.ends k.totals_at

first_numbered : (n : ℕ) (queries : List TypedQuery) → first_tasks n queries ≡ map for_path (numbered n queries)
first_numbered n [] = refl
first_numbered n (q ∷ qs) = ap (λ l. for_path (record { query = n; typed = q }) ∷ l) (first_numbered (n + 1) qs)

pub starts : (s : Switch) (entry : ℕ → ℕ → ℕ → ℕ → ℕ) (queries : List TypedQuery) (p : Position) → p.waiting ≡ None → p.pieces.now ≡ [] → p.queries.now ≡ map (known_query s entry) (numbered 0 queries)
    → p.spent ≡ 0 → Stands s entry p (after_choices s entry queries [])
starts s entry queries p w x y z = record {
  stages = [];
  some_pieces = [];
  some_paths = numbered 0 queries;
  left = first_numbered 0 queries;
  waits = subst (λ o. WaitsFor o []) (sym w) refl;
  of_pieces = x;
  of_queries = y;
  of_spent = z;
}

-- ---- what follows

module _ (s : Switch) (entry : ℕ → ℕ → ℕ → ℕ → ℕ) (a : Agenda Task Taken) where
  follow_stage_at : (w : Waiting) (stages : List StageTask) (rest : List Task) → a.left ≡ map for_stage stages ++ rest → WaitsFor (Some w) stages
      → Choices w.least (s.stages - w.least) ≡ first_choices (planning s entry) a.left
  follow_stage_at w [] rest l h = absurd h
  follow_stage_at w (t ∷ ts) rest l h = ap (λ k. Choices k (s.stages - k)) h.1 ∙ sym (ap (first_choices (planning s entry)) l)

  pub follow_stage : (p : Position) (w : Waiting) → p.waiting ≡ Some w → Stands s entry p a → Choices w.least (s.stages - w.least) ≡ first_choices (planning s entry) a.left
  follow_stage p w e h = follow_stage_at w h.stages (map for_piece h.some_pieces ++ map for_path h.some_paths) h.left (subst (λ o. WaitsFor o h.stages) e h.waits)

  left_pieces : (p : Position) → p.waiting ≡ None → (h : Stands s entry p a) → a.left ≡ map for_piece h.some_pieces ++ map for_path h.some_paths
  left_pieces p e h = h.left ∙ ap (λ l. map for_stage l ++ (map for_piece h.some_pieces ++ map for_path h.some_paths)) (subst (λ o. WaitsFor o h.stages) e h.waits)

  follow_piece_at : (piece : KnownPiece) (following : List KnownPiece) (pieces : List PieceTask) (rest : List Task) → a.left ≡ map for_piece pieces ++ rest → piece ∷ following ≡ map (known_piece s entry) pieces
      → Choices 0 piece.count ≡ first_choices (planning s entry) a.left
  follow_piece_at piece following [] rest l e = cc
  follow_piece_at piece following (t ∷ ts) rest l e = let here : piece ≡ known_piece s entry t = cc in ap (λ (k : KnownPiece). Choices 0 k.count) here ∙ sym (ap (first_choices (planning s entry)) l)

  pub follow_piece : (p : Position) (piece : KnownPiece) (following : List KnownPiece) → p.waiting ≡ None → p.pieces.now ≡ piece ∷ following → Stands s entry p a
      → Choices 0 piece.count ≡ first_choices (planning s entry) a.left
  follow_piece p piece following e u h = follow_piece_at piece following h.some_pieces (map for_path h.some_paths) (left_pieces p e h) (sym u ∙ h.of_pieces)

  no_pieces : (pieces : List PieceTask) (known : List KnownPiece) → known ≡ [] → known ≡ map (known_piece s entry) pieces → pieces ≡ []
  no_pieces [] known e f = refl
  no_pieces (t ∷ ts) known e f = cc

  left_paths : (p : Position) → p.waiting ≡ None → p.pieces.now ≡ [] → (h : Stands s entry p a) → a.left ≡ map for_path h.some_paths
  left_paths p e u h = left_pieces p e h ∙ ap (λ l. map for_piece l ++ map for_path h.some_paths) (no_pieces h.some_pieces p.pieces.now u h.of_pieces)

  follow_query_at : (query : KnownQuery) (following : List KnownQuery) (queries : List PathTask) → a.left ≡ map for_path queries → query ∷ following ≡ map (known_query s entry) queries
      → Choices 0 query.count ≡ first_choices (planning s entry) a.left
  follow_query_at query following [] l e = cc
  follow_query_at query following (t ∷ ts) l e = let here : query ≡ known_query s entry t = cc in ap (λ (k : KnownQuery). Choices 0 k.count) here ∙ sym (ap (first_choices (planning s entry)) l)

  pub follow_query : (p : Position) (query : KnownQuery) (following : List KnownQuery) → p.waiting ≡ None → p.pieces.now ≡ [] → p.queries.now ≡ query ∷ following → Stands s entry p a
      → Choices 0 query.count ≡ first_choices (planning s entry) a.left
  follow_query p query following e u v h = follow_query_at query following h.some_paths (left_paths p e u h) (sym v ∙ h.of_queries)

  no_queries : (queries : List PathTask) (known : List KnownQuery) → known ≡ [] → known ≡ map (known_query s entry) queries → queries ≡ []
  no_queries [] known e f = refl
  no_queries (t ∷ ts) known e f = cc

  pub follow_none : (p : Position) → p.waiting ≡ None → p.pieces.now ≡ [] → p.queries.now ≡ [] → Stands s entry p a → Complete ≡ first_choices (planning s entry) a.left
  follow_none p e u v h = sym (ap (first_choices (planning s entry)) (left_paths p e u h ∙ ap (map for_path) (no_queries h.some_paths p.queries.now v h.of_queries)))

  -- ---- the least that is still to be spent

  capped_least : (f : ℕ → ℕ) (n : ℕ) → least_below (λ x. capped (f x)) n ≡ capped (least_below f n)
  capped_least f zero = refl
  capped_least f (suc zero) = refl
  capped_least f (suc (suc n)) = let k = capped_least f (suc n) in omega arith

  least_queries : (ts : List PathTask) (n : ℕ) → capped (n + sum_by (λ (q : KnownQuery). q.least) (map (known_query s entry) ts)) ≡ capped (n + sum_by (least_path s entry) ts)
  least_queries [] n = refl
  least_queries (t ∷ ts) n =
      let one = sum_by-cons (λ (q : KnownQuery). q.least) (known_query s entry t) (map (known_query s entry) ts) in
      let two = sum_by-cons (least_path s entry) t ts in
      let same : (known_query s entry t).least ≡ capped (least_path s entry t) = capped_least (λ m. sum_by (least_entry s entry) (pieces_of t m)) (paths t.typed.levels) in
      let rest = least_queries ts (n + (known_query s entry t).least) in omega arith

  least_stages : (ts : List StageTask) → sum_by (least_of s entry) (map for_stage ts) ≡ 0
  least_stages [] = refl
  least_stages (t ∷ ts) = let one = sum_by-cons (least_of s entry) (for_stage t) (map for_stage ts) in let rest = least_stages ts in omega arith

  least_pieces : (ts : List PieceTask) → sum_by (least_of s entry) (map for_piece ts) ≡ sum_by (least_entry s entry) ts
  least_pieces [] = refl
  least_pieces (t ∷ ts) = sum_by-cons (least_of s entry) (for_piece t) (map for_piece ts) ∙ ap (λ n. least_entry s entry t + n) (least_pieces ts) ∙ sym (sum_by-cons (least_entry s entry) t ts)

  least_paths : (ts : List PathTask) → sum_by (least_of s entry) (map for_path ts) ≡ sum_by (least_path s entry) ts
  least_paths [] = refl
  least_paths (t ∷ ts) = sum_by-cons (least_of s entry) (for_path t) (map for_path ts) ∙ ap (λ n. least_path s entry t + n) (least_paths ts) ∙ sym (sum_by-cons (least_path s entry) t ts)

  pub lower_is : (p : Position) (chosen total : ℕ) → Stands s entry p a → chosen ≡ capped (p.spent + sum_by (λ (k : KnownPiece). k.least) p.pieces.now)
      → total ≡ capped (chosen + sum_by (λ (q : KnownQuery). q.least) p.queries.now) → total ≡ capped (a.spent + sum_by (least_of s entry) a.left)
  lower_is p chosen total h c t =
      let left = ap (sum_by (least_of s entry)) h.left ∙ sum_by-append (least_of s entry) (map for_stage h.stages) (map for_piece h.some_pieces ++ map for_path h.some_paths) in
      let more = sum_by-append (least_of s entry) (map for_piece h.some_pieces) (map for_path h.some_paths) in
      let none = least_stages h.stages in
      let pieces = least_pieces h.some_pieces in
      let paths = least_paths h.some_paths in
      let known = ap (sum_by (λ (k : KnownPiece). k.least)) h.of_pieces ∙ leasts s entry h.some_pieces in
      let queries = ap (sum_by (λ (q : KnownQuery). q.least)) h.of_queries in
      let spent = h.of_spent in
      let rest = least_queries h.some_paths chosen in omega arith
