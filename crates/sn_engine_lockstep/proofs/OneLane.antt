-- One lane of a window after a tuple, and at its end.
use Rattle.std.proofs.Common.{◌≡◌, ℕ, List, [], ◌∷◌, ◌++◌, map, fold, Option, Some, None, refl, ap, sym, ◌∙◌, subst, append_assoc, append-nil}
use Rattle.std.specs.List.{AllByRecursion}
use Rattle.std.specs.Option.{option_map, option_to_list}
use Rattle.sn_base.specs.declared.lane.Lane.{Lane}
use Rattle.sn_emit.specs.declared.sender.Sender.{Sender}
use Rattle.sn_emit.specs.Making.{CanMake}
use Rattle.sn_emit.specs.Plans.{Placed, items_of}
use Rattle.sn_emit.specs.Runs.{ReadsOut}
use Rattle.sn_emit.specs.Senders.{packet_frames, row_frame, sender_after, sender_next, sender_start}
use Rattle.sn_emit.proofs.EmitLaw.{lane_gives}
use Rattle.sn_engine.specs.declared.intake.Intake.{Intake}
use Rattle.sn_pipe.specs.Pipes.{item_of}
use Rattle.sn_refine.specs.Steps.{Set}
use Rattle.sn_report.specs.Frames.{lane_of as lane_in}
use Rattle.sn_report.specs.Items.{Frame}
use Rattle.sn_report.specs.declared.frame.Frame.TheVariants.{End}
use Rattle.sn_report.specs.Items.{Item}
use Rattle.sn_types.specs.declared.typed_query.TypedQuery.{TypedQuery}
use Rattle.sn_types.specs.Typed.{HasWidths, IsTyped}
use Rattle.sn_engine_lockstep.specs.declared.source.Source.{Source}
use Rattle.sn_engine_lockstep.specs.Sources.{source_of}
use Rattle.sn_engine_lockstep.specs.Work.{IsAtWork, done, intake_of, name_of, taken}
use Rattle.sn_base.proofs.Lists.{all_rest}
use Rattle.sn_emit.proofs.LaneLaw.{same_lane}
use Rattle.sn_emit.specs.declared.tables.Tables.{Tables}

fold_append : {S X : Type 0} (f : S → X → S) (s : S) (xs ys : List X) → fold f s (xs ++ ys) ≡ fold f (fold f s xs) ys
fold_append f s [] ys = refl
fold_append f s (x ∷ xs) ys = fold_append f (f s x) xs ys

-- ---- tuples

frames_more : (s : Sender) (tuples : List (List ℕ)) (tuple : List ℕ)
    → packet_frames s (tuples ++ tuple ∷ []) ≡ packet_frames s tuples ++ option_to_list (option_map (row_frame (sender_after s tuples).lane) (item_of (sender_after s tuples).pipe tuple))
frames_more s [] tuple = append-nil (option_to_list (option_map (row_frame s.lane) (item_of s.pipe tuple)))
frames_more s (t ∷ tuples) tuple =
    let one = option_to_list (option_map (row_frame s.lane) (item_of s.pipe t)) in
    ap (λ fs. one ++ fs) (frames_more (sender_next s t) tuples tuple)
    ∙ sym (append_assoc one (packet_frames (sender_next s t) tuples) (option_to_list (option_map (row_frame (sender_after s (t ∷ tuples)).lane) (item_of (sender_after s (t ∷ tuples)).pipe tuple))))

same_place : (s : Sender) (tuples : List (List ℕ)) → (sender_after s tuples).pipe.prefix.place ≡ s.pipe.prefix.place
same_place s [] = refl
same_place s (tuple ∷ tuples) = same_place (sender_next s tuple) tuples

-- frames that a tuple gives are of the lane
given_own : (n : Lane) (o : Option Item) → AllByRecursion (λ f. lane_in f ≡ n) (option_to_list (option_map (row_frame n) o))
given_own n None = tt
given_own n (Some item) = (refl, tt)

module _ (queries : List TypedQuery) (tables : Tables) (x : Placed) (kept : Set) (tuples : List (List ℕ)) (s : Sender) (l : Intake) (w : IsAtWork queries tables x kept tuples s l) where
  lane_is : s.lane ≡ name_of x
  lane_is = ap (λ (r : Sender). r.lane) w.sender ∙ same_lane (sender_start w.base kept) tuples ∙ w.lane.lane

  pub more_own : (tuple : List ℕ) → AllByRecursion (λ f. lane_in f ≡ name_of x) (option_to_list (option_map (row_frame s.lane) (item_of s.pipe tuple)))
  more_own tuple = subst (λ n. AllByRecursion (λ f. lane_in f ≡ n) (option_to_list (option_map (row_frame s.lane) (item_of s.pipe tuple)))) lane_is (given_own s.lane (item_of s.pipe tuple))

  -- one tuple more
  pub work_more : (tuple : List ℕ) → IsAtWork queries tables x kept (tuples ++ tuple ∷ []) (sender_next s tuple) (fold taken l (option_to_list (option_map (row_frame s.lane) (item_of s.pipe tuple))))
  work_more tuple =
      let start = sender_start w.base kept in
      let last : Sender → List Frame = λ r. option_to_list (option_map (row_frame r.lane) (item_of r.pipe tuple)) in
      record {
        base = w.base;
        lane = w.lane;
        sender = ap (λ r. sender_next r tuple) w.sender ∙ sym (fold_append sender_next start tuples (tuple ∷ []));
        intake = ap (λ m. fold taken m (last s)) w.intake
            ∙ ap (λ r. fold taken (fold taken (intake_of x) (packet_frames start tuples)) (last r)) w.sender
            ∙ sym (fold_append taken (intake_of x) (packet_frames start tuples) (last (sender_after start tuples)))
            ∙ ap (fold taken (intake_of x)) (sym (frames_more start tuples tuple));
      }

-- ---- the end

rows_taken : (l : Intake) (n : Lane) (items : List Item) → fold taken l (map (row_frame n) items) ≡ record l { items = l.items ++ items }
rows_taken l n [] = ap (λ (is : List Item). record l { items = is }) (sym (append-nil l.items))
rows_taken l n (item ∷ items) =
    rows_taken (record l { items = l.items ++ item ∷ [] }) n items
    ∙ ap (λ (is : List Item). record l { items = is }) (append_assoc l.items (item ∷ []) items)

rows_own : (n : Lane) (items : List Item) (window : ℕ) → AllByRecursion (λ f. lane_in f ≡ n) (map (row_frame n) items ++ End n window ∷ [])
rows_own n [] window = (refl, tt)
rows_own n (item ∷ items) window = (refl, rows_own n items window)

module _ (typed_for window : ℕ) (tables : Tables) (queries : List TypedQuery) (x : Placed) (kept : Source → Set) (tuples : List (List ℕ)) (s t : Sender) (l : Intake) (frames : List Frame)
    (typed : ∥ IsTyped typed_for queries ∥₁) (can : CanMake queries x) (widths : AllByRecursion HasWidths tuples)
    (w : IsAtWork queries tables x (kept (source_of x)) tuples s l) (run : ReadsOut window s frames t) where
  all_frames : packet_frames (sender_start w.base (kept (source_of x))) tuples ++ frames ≡ map (row_frame w.base.lane) (items_of queries tables x (kept (source_of x)) tuples) ++ End w.base.lane window ∷ []
  all_frames =
      lane_gives typed_for tables window queries x w.base t (kept (source_of x)) tuples frames typed can.query can.branch can.cut w.lane widths
      (subst (λ r. ReadsOut window r frames t) w.sender run)

  -- the frames that are read out are of the lane
  pub read_own : AllByRecursion (λ f. lane_in f ≡ name_of x) frames
  read_own =
      all_rest (λ f. lane_in f ≡ name_of x) (packet_frames (sender_start w.base (kept (source_of x))) tuples) frames
      (subst (AllByRecursion (λ f. lane_in f ≡ name_of x)) (sym all_frames)
      (subst (λ n. AllByRecursion (λ f. lane_in f ≡ n) (map (row_frame w.base.lane) (items_of queries tables x (kept (source_of x)) tuples) ++ End w.base.lane window ∷ [])) w.lane.lane
      (rows_own w.base.lane (items_of queries tables x (kept (source_of x)) tuples) window)))

  -- the engine's lane has the items of the piece, and the End
  pub work_done : fold taken l frames ≡ done queries tables kept tuples window x
  work_done =
      let start = sender_start w.base (kept (source_of x)) in
      let items = items_of queries tables x (kept (source_of x)) tuples in
      let rows = map (row_frame w.base.lane) items in
      ap (λ m. fold taken m frames) w.intake
      ∙ sym (fold_append taken (intake_of x) (packet_frames start tuples) frames)
      ∙ ap (fold taken (intake_of x)) all_frames
      ∙ fold_append taken (intake_of x) rows (End w.base.lane window ∷ [])
      ∙ ap (λ m. taken m (End w.base.lane window)) (rows_taken (intake_of x) w.base.lane items)
