-- Where a choice leads, and what it takes up.
use Rattle.std.proofs.Common.{◌≡◌, ℕ, ◌+◌, ◌≤◌, ◌<◌, List, [], ◌∷◌, ◌++◌, map, length, get_or, Bool, true, false, refl, ap, sym, ◌∙◌, subst, arith}
use Rattle.std.specs.Prelude.{Option, Some, None, slice_get, nat_lt, if◌then◌else◌}
use Rattle.std.specs.List.{sum_by, range_with_len}
use Rattle.std.proofs.lemmas.List.FromFn.{length-map-range_with_len, get_or-map-range_with_len}
use Rattle.std.proofs.lemmas.List.Sums.{sum_by-cons}
use Rattle.std.proofs.lemmas.Option.{slice_get-get_or, slice_get_past}
use Rattle.sn_switch.specs.declared.switch.Switch.{Switch}
use Rattle.sn_plan_fit.specs.Capped.{capped}
use Rattle.sn_tree_space.specs.Readers.{MayFollow}
use Rattle.sn_tree_space.specs.Agendas.{Agenda, first_choices, after_choice}
use Rattle.sn_plan_choices.specs.Options.{Slot, plain, keyed, paths}
use Rattle.sn_plan_choices.specs.Planning.{Task, for_path, for_piece, for_stage, StageTask, PieceTask, PathTask, Taken, in_register, in_metadata, past_stages, metadata_of, registers_in, next_stage, past_by, pieces_of, slots_of, settings, choices_of, leaves_of, cost_of, takes_of, planning}
use Rattle.sn_plan_space.specs.declared.known.KnownOption.{KnownOption}
use Rattle.sn_plan_space.specs.declared.known.KnownPiece.{KnownPiece}
use Rattle.sn_plan_space.specs.declared.known.KnownQuery.{KnownQuery}
use Rattle.sn_plan_space.specs.declared.waiting.Waiting.{Waiting}
use Rattle.sn_plan_space.specs.declared.position.Position.{Position}
use Rattle.sn_plan_space.specs.Known.{known_slot, known_option, known_piece, known_path, known_query}
use Rattle.sn_plan_space.specs.Positions.{WaitsFor, IsNext, Stands, IsAfter}

past_registers : (stages least : ℕ) (tables : List Slot) → registers_in (past_by stages least tables) ≡ []
past_registers stages least [] = of_test (nat_lt stages least)
  where
    of_test : (b : Bool) → registers_in (if b then past_stages ∷ [] else []) ≡ []
    of_test true = refl
    of_test false = refl
past_registers stages least (plain ∷ tables) = past_registers stages (least + 1) tables
past_registers stages least (keyed bits ∷ tables) = refl

past_metadata : (stages least : ℕ) (tables : List Slot) → sum_by metadata_of (past_by stages least tables) ≡ 0
past_metadata stages least [] = of_test (nat_lt stages least)
  where
    of_test : (b : Bool) → sum_by metadata_of (if b then past_stages ∷ [] else []) ≡ 0
    of_test true = refl
    of_test false = refl
past_metadata stages least (plain ∷ tables) = past_metadata stages (least + 1) tables
past_metadata stages least (keyed bits ∷ tables) = refl

mapped_at : {A : Type 0} (f : ℕ → A) (k n : ℕ) → n < k → slice_get (map f (range_with_len 0 k)) n ≡ Some (f n)
mapped_at f k n h =
    let long = length-map-range_with_len f 0 k in
    slice_get-get_or (map f (range_with_len 0 k)) n (f n) (omega arith) ∙ ap Some (get_or-map-range_with_len f 0 k n n (f n) h (omega arith))

pub got_from : {A : Type 0} (xs ys : List A) (n : ℕ) (d : A) → xs ≡ ys → n < length xs → d ≡ get_or xs n d → slice_get ys n ≡ Some d
got_from xs ys n d e h g = sym (ap (λ l. slice_get l n) e) ∙ slice_get-get_or xs n d h ∙ ap Some (sym g)

pub none_from : {A : Type 0} (xs ys : List A) (n : ℕ) → xs ≡ ys → length xs ≤ n → slice_get ys n ≡ None
none_from xs ys n e h = sym (ap (λ l. slice_get l n) e) ∙ slice_get_past xs n h

module _ (s : Switch) (entry : ℕ → ℕ → ℕ → ℕ → ℕ) (a : Agenda Task Taken) where
  made : Task → List Task → ℕ → Agenda Task Taken
  made t ts x = record { left = leaves_of s entry t x ++ ts; spent = a.spent + cost_of s entry t x; taken = a.taken ++ takes_of s entry t x }

  after_first : (t : Task) (ts : List Task) (x : ℕ) → a.left ≡ t ∷ ts → made t ts x ≡ after_choice (planning s entry) a a.left x
  unfolding made
  after_first t ts x e = sym (ap (λ l. after_choice (planning s entry) a l x) e)

  may_first : (t : Task) (ts : List Task) (x : ℕ) → a.left ≡ t ∷ ts → MayFollow (first_choices (planning s entry) a.left) x → MayFollow (choices_of s entry t) x
  may_first t ts x e m = subst (λ l. MayFollow (first_choices (planning s entry) l) x) e m

  -- ---- a stage

  placed_at : (p : Position) (w : Waiting) (x : ℕ) (next : Option Waiting) (past : Bool) (stages : List StageTask) (pieces : List PieceTask) (queries : List PathTask)
      → a.left ≡ map for_stage stages ++ (map for_piece pieces ++ map for_path queries) → WaitsFor (Some w) stages → p.pieces.now ≡ map (known_piece s entry) pieces
      → p.queries.now ≡ map (known_query s entry) queries → p.spent ≡ capped a.spent
      → ((tables : List Slot) → w.following.now ≡ map known_slot tables → IsNext s.stages (x + 1) tables next past)
      → IsAfter s entry a x (record { waiting = next; pieces = p.pieces; queries = p.queries; spent = p.spent })
      (record { register = Some (record { stage = x; bits = w.bits }); metadata = 0; is_past = past })
  unfolding made
  placed_at p w x next past [] pieces queries l h b c d f = absurd h
  placed_at p w x next past (t ∷ ts) pieces queries l h b c d f =
      let rest : List Task = map for_piece pieces ++ map for_path queries in
      let first : a.left ≡ for_stage t ∷ rest = l ∙ ap (λ k. for_stage t ∷ (map for_stage k ++ rest)) h.0 in
      let n = f t.following h.3 in
      let none = past_registers s.stages (x + 1) t.following in
      let zero = past_metadata s.stages (x + 1) t.following in
      record {
        next = made (for_stage t) rest x;
        is_next = after_first (for_stage t) rest x first;
        stands = record {
          stages = next_stage (x + 1) t.following;
          some_pieces = pieces;
          some_paths = queries;
          left = refl;
          waits = n.waits;
          of_pieces = b;
          of_queries = c;
          of_spent = omega arith;
        };
        taken = takes_of s entry (for_stage t) x;
        adds = refl;
        is_took = record {
          of_register = (t.bits, h.2, ap (λ r. record { stage = x; bits = t.bits } ∷ r) none);
          of_metadata = sym (sum_by-cons metadata_of (in_register x t.bits) (past_by s.stages (x + 1) t.following) ∙ (let e : 0 + sum_by metadata_of (past_by s.stages (x + 1) t.following) ≡ 0 = omega arith in e));
          of_past = n.is_past;
        };
      }

  pub placed : (p : Position) (w : Waiting) (x : ℕ) (next : Option Waiting) (past : Bool) → p.waiting ≡ Some w → Stands s entry p a
      → ((tables : List Slot) → w.following.now ≡ map known_slot tables → IsNext s.stages (x + 1) tables next past)
      → IsAfter s entry a x (record { waiting = next; pieces = p.pieces; queries = p.queries; spent = p.spent })
      (record { register = Some (record { stage = x; bits = w.bits }); metadata = 0; is_past = past })
  placed p w x next past e h f =
      placed_at p w x next past h.stages h.some_pieces h.some_paths h.left (subst (λ o. WaitsFor o h.stages) e h.waits) h.of_pieces h.of_queries h.of_spent f

  stage_below : (w : Waiting) (x : ℕ) (stages : List StageTask) (rest : List Task) → a.left ≡ map for_stage stages ++ rest → WaitsFor (Some w) stages
      → MayFollow (first_choices (planning s entry) a.left) x → x < s.stages
  stage_below w x [] rest l h m = absurd h
  stage_below w x (t ∷ ts) rest l h m = let k = may_first (for_stage t) (map for_stage ts ++ rest) x l m in let low = k.0 in let high = k.1 in omega arith

  pub may_stage : (p : Position) (w : Waiting) (x : ℕ) → p.waiting ≡ Some w → Stands s entry p a → MayFollow (first_choices (planning s entry) a.left) x → x < s.stages
  may_stage p w x e h m = stage_below w x h.stages (map for_piece h.some_pieces ++ map for_path h.some_paths) h.left (subst (λ o. WaitsFor o h.stages) e h.waits) m

  -- ---- an option

  left_pieces : (p : Position) → p.waiting ≡ None → (h : Stands s entry p a) → a.left ≡ map for_piece h.some_pieces ++ map for_path h.some_paths
  left_pieces p e h = h.left ∙ ap (λ l. map for_stage l ++ (map for_piece h.some_pieces ++ map for_path h.some_paths)) (subst (λ o. WaitsFor o h.stages) e h.waits)

  chosen_at : (p : Position) (piece : KnownPiece) (following : List KnownPiece) (n : ℕ) (o : KnownOption) (q : Position) (past : Bool) (pieces : List PieceTask) (queries : List PathTask)
      → a.left ≡ map for_piece pieces ++ map for_path queries → piece ∷ following ≡ map (known_piece s entry) pieces → p.queries.now ≡ map (known_query s entry) queries
      → p.spent ≡ capped a.spent → MayFollow (first_choices (planning s entry) a.left) n → slice_get piece.options n ≡ Some o
      → ((tables : List Slot) → o.slots ≡ map known_slot tables → IsNext s.stages 0 tables q.waiting past) → q.pieces.now ≡ following → q.queries.now ≡ p.queries.now → q.spent ≡ capped (p.spent + o.cost)
      → IsAfter s entry a n q (record { register = None; metadata = o.metadata; is_past = past })
  unfolding made
  chosen_at p piece following n o q past [] queries l b c d m g f x y z = cc
  chosen_at p piece following n o q past (t ∷ ts) queries l b c d m g f x y z =
      let rest : List Task = map for_piece ts ++ map for_path queries in
      let may = may_first (for_piece t) rest n l m in
      let here : piece ≡ known_piece s entry t = cc in
      let there : following ≡ map (known_piece s entry) ts = cc in
      let at = mapped_at (known_option s entry t) (settings s entry t) n (let k = may.1 in omega arith) in
      let got : slice_get piece.options n ≡ Some (known_option s entry t n) = ap (λ (k : KnownPiece). slice_get k.options n) here ∙ at in
      let is : o ≡ known_option s entry t n = cc in
      let next = f (slots_of s entry t n) (ap (λ (k : KnownOption). k.slots) is) in
      let cost = ap (λ (k : KnownOption). k.cost) is in
      let none = past_registers s.stages 0 (slots_of s entry t n) in
      let zero = past_metadata s.stages 0 (slots_of s entry t n) in
      record {
        next = made (for_piece t) rest n;
        is_next = after_first (for_piece t) rest n l;
        stands = record {
          stages = next_stage 0 (slots_of s entry t n);
          some_pieces = ts;
          some_paths = queries;
          left = refl;
          waits = next.waits;
          of_pieces = x ∙ there;
          of_queries = y ∙ c;
          of_spent = omega arith;
        };
        taken = takes_of s entry (for_piece t) n;
        adds = refl;
        is_took = record {
          of_register = none;
          of_metadata = ap (λ (k : KnownOption). k.metadata) is ∙ sym (sum_by-cons metadata_of (in_metadata (known_option s entry t n).metadata) (past_by s.stages 0 (slots_of s entry t n)) ∙ (let e : (known_option s entry t n).metadata + sum_by metadata_of (past_by s.stages 0 (slots_of s entry t n)) ≡ (known_option s entry t n).metadata = omega arith in e));
          of_past = next.is_past;
        };
      }

  pub chosen : (p : Position) (piece : KnownPiece) (following : List KnownPiece) (n : ℕ) (o : KnownOption) (q : Position) (past : Bool) → p.waiting ≡ None → p.pieces.now ≡ piece ∷ following
      → Stands s entry p a → MayFollow (first_choices (planning s entry) a.left) n → slice_get piece.options n ≡ Some o
      → ((tables : List Slot) → o.slots ≡ map known_slot tables → IsNext s.stages 0 tables q.waiting past) → q.pieces.now ≡ following → q.queries.now ≡ p.queries.now → q.spent ≡ capped (p.spent + o.cost)
      → IsAfter s entry a n q (record { register = None; metadata = o.metadata; is_past = past })
  chosen p piece following n o q past e u h m g f x y z =
      chosen_at p piece following n o q past h.some_pieces h.some_paths (left_pieces p e h) (sym u ∙ h.of_pieces) h.of_queries h.of_spent m g f x y z

  some_at : (piece : KnownPiece) (following : List KnownPiece) (n : ℕ) (pieces : List PieceTask) (rest : List Task) → a.left ≡ map for_piece pieces ++ rest
      → piece ∷ following ≡ map (known_piece s entry) pieces → MayFollow (first_choices (planning s entry) a.left) n → slice_get piece.options n ≡ None → ⊥
  some_at piece following n [] rest l b m g = cc
  some_at piece following n (t ∷ ts) rest l b m g =
      let may = may_first (for_piece t) (map for_piece ts ++ rest) n l m in
      let here : piece ≡ known_piece s entry t = cc in
      let at = mapped_at (known_option s entry t) (settings s entry t) n (let k = may.1 in omega arith) in
      let got : slice_get piece.options n ≡ Some (known_option s entry t n) = ap (λ (k : KnownPiece). slice_get k.options n) here ∙ at in cc

  pub may_option : (p : Position) (piece : KnownPiece) (following : List KnownPiece) (n : ℕ) → p.waiting ≡ None → p.pieces.now ≡ piece ∷ following → Stands s entry p a
      → MayFollow (first_choices (planning s entry) a.left) n → slice_get piece.options n ≡ None → ⊥
  may_option p piece following n e u h m g = some_at piece following n h.some_pieces (map for_path h.some_paths) (left_pieces p e h) (sym u ∙ h.of_pieces) m g

  -- ---- a path

  no_pieces : (pieces : List PieceTask) (known : List KnownPiece) → known ≡ [] → known ≡ map (known_piece s entry) pieces → pieces ≡ []
  no_pieces [] known e f = refl
  no_pieces (t ∷ ts) known e f = cc

  left_paths : (p : Position) → p.waiting ≡ None → p.pieces.now ≡ [] → (h : Stands s entry p a) → a.left ≡ map for_path h.some_paths
  left_paths p e u h = left_pieces p e h ∙ ap (λ l. map for_piece l ++ map for_path h.some_paths) (no_pieces h.some_pieces p.pieces.now u h.of_pieces)

  gone_at : (query : KnownQuery) (following : List KnownQuery) (m : ℕ) (path : List KnownPiece) (q : Position) (queries : List PathTask)
      → a.left ≡ map for_path queries → query ∷ following ≡ map (known_query s entry) queries → MayFollow (first_choices (planning s entry) a.left) m → slice_get query.paths m ≡ Some path
      → q.waiting ≡ None → q.pieces.now ≡ path → q.queries.now ≡ following → q.spent ≡ capped a.spent → IsAfter s entry a m q (record { register = None; metadata = 0; is_past = false })
  unfolding made
  gone_at query following m path q [] l b may g w x y z = cc
  gone_at query following m path q (t ∷ ts) l b may g w x y z =
      let can = may_first (for_path t) (map for_path ts) m l may in
      let here : query ≡ known_query s entry t = cc in
      let there : following ≡ map (known_query s entry) ts = cc in
      let at = mapped_at (known_path s entry t) (paths t.typed.levels) m (let k = can.1 in omega arith) in
      let got : slice_get query.paths m ≡ Some (known_path s entry t m) = ap (λ (k : KnownQuery). slice_get k.paths m) here ∙ at in
      let is : path ≡ known_path s entry t m = cc in
      record {
        next = made (for_path t) (map for_path ts) m;
        is_next = after_first (for_path t) (map for_path ts) m l;
        stands = record {
          stages = [];
          some_pieces = pieces_of t m;
          some_paths = ts;
          left = refl;
          waits = subst (λ o. WaitsFor o []) (sym w) refl;
          of_pieces = x ∙ is;
          of_queries = y ∙ there;
          of_spent = omega arith;
        };
        taken = [];
        adds = refl;
        is_took = record { of_register = refl; of_metadata = refl; of_past = refl };
      }

  pub gone : (p : Position) (query : KnownQuery) (following : List KnownQuery) (m : ℕ) (path : List KnownPiece) (q : Position) → p.waiting ≡ None → p.pieces.now ≡ [] → p.queries.now ≡ query ∷ following
      → Stands s entry p a → MayFollow (first_choices (planning s entry) a.left) m → slice_get query.paths m ≡ Some path
      → q.waiting ≡ None → q.pieces.now ≡ path → q.queries.now ≡ following → q.spent ≡ p.spent → IsAfter s entry a m q (record { register = None; metadata = 0; is_past = false })
  gone p query following m path q e u v h may g w x y z =
      gone_at query following m path q h.some_paths (left_paths p e u h) (sym v ∙ h.of_queries) may g w x y (z ∙ h.of_spent)

  path_at : (query : KnownQuery) (following : List KnownQuery) (m : ℕ) (queries : List PathTask) → a.left ≡ map for_path queries → query ∷ following ≡ map (known_query s entry) queries
      → MayFollow (first_choices (planning s entry) a.left) m → slice_get query.paths m ≡ None → ⊥
  path_at query following m [] l b may g = cc
  path_at query following m (t ∷ ts) l b may g =
      let can = may_first (for_path t) (map for_path ts) m l may in
      let here : query ≡ known_query s entry t = cc in
      let at = mapped_at (known_path s entry t) (paths t.typed.levels) m (let k = can.1 in omega arith) in
      let got : slice_get query.paths m ≡ Some (known_path s entry t m) = ap (λ (k : KnownQuery). slice_get k.paths m) here ∙ at in cc

  pub may_path : (p : Position) (query : KnownQuery) (following : List KnownQuery) (m : ℕ) → p.waiting ≡ None → p.pieces.now ≡ [] → p.queries.now ≡ query ∷ following → Stands s entry p a
      → MayFollow (first_choices (planning s entry) a.left) m → slice_get query.paths m ≡ None → ⊥
  may_path p query following m e u v h may g = path_at query following m h.some_paths (left_paths p e u h) (sym v ∙ h.of_queries) may g

  -- ---- nothing is left

  no_queries : (queries : List PathTask) (known : List KnownQuery) → known ≡ [] → known ≡ map (known_query s entry) queries → queries ≡ []
  no_queries [] known e f = refl
  no_queries (t ∷ ts) known e f = cc

  pub nothing_left : (p : Position) → p.waiting ≡ None → p.pieces.now ≡ [] → p.queries.now ≡ [] → Stands s entry p a → a.left ≡ []
  nothing_left p e u v h = left_paths p e u h ∙ ap (map for_path) (no_queries h.some_paths p.queries.now v h.of_queries)

  pub may_none : (p : Position) (x : ℕ) → p.waiting ≡ None → p.pieces.now ≡ [] → p.queries.now ≡ [] → Stands s entry p a → MayFollow (first_choices (planning s entry) a.left) x → ⊥
  may_none p x e u v h m = subst (λ l. MayFollow (first_choices (planning s entry) l) x) (nothing_left p e u v h) m
