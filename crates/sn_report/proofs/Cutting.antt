-- Bytes are cut into frames in one way.
use Rattle.std.proofs.Common.{◌≡◌, ℕ, zero, suc, ◌<◌, ◌≤◌, List, [], ◌∷◌, ◌++◌, length, get_or, take, drop, refl, ap, sym, ◌∙◌, subst, arith, inl, append_assoc, append-nil}
use Rattle.std.specs.List.{AllByRecursion}
use Rattle.std.proofs.lemmas.List.{length-drop, take-append-drop, drop_at}
use Rattle.sn_report.specs.declared.decode.Decoded.{Decoded}
use Rattle.sn_report.specs.declared.decode.Decoded.TheVariants.{Whole, More, Bad}
use Rattle.sn_report.specs.Items.{Frame}
use Rattle.sn_report.specs.declared.frame.Frame.TheVariants.{Row, End}
use Rattle.sn_report.specs.Decoding.{Stands}
use Rattle.sn_report.specs.Frames.{spelling}
use Rattle.sn_report.proofs.Headers.{goes_on}
use Rattle.sn_report.proofs.Outcomes.{one_outcome, stands_again, version_first}
use Rattle.sn_report.specs.Framed.{AreReports, Framed, HasOneCutting, IsNoFrame, IsWritten, Written, bytes_in, bytes_of}
use Rattle.sn_report.proofs.FramedOutcomes.{some_outcome}

-- no frame is shorter than eight bytes
pub frame_long : (version : ℕ) (frame : Frame) → 8 ≤ length (spelling version frame)
frame_long version (Row lane item) = omega arith
frame_long version (End lane window) = omega arith

whole_frame : (frame other : Frame) (len m : ℕ) → ◌≡◌ {A = Decoded} (Whole frame len) (Whole other m) → (frame ≡ other) × (len ≡ m)
whole_frame frame other len m e = (cc, cc)

whole_no_frame : (left : Decoded) (frame : Frame) (len : ℕ) → left ≡ Whole frame len → IsNoFrame left → ⊥
whole_no_frame left frame len e none = subst IsNoFrame e none

-- the frame that stands at the front is the first of the frames, in some version
pub record Begins (bytes : List ℕ) (frame : Frame) (len : ℕ) (frames : List Written) (left : Decoded) : Type 0 where
  pub version : ℕ
  pub more : List Written
  pub first : frames ≡ record { version = version; frame = frame } ∷ more
  pub long : len ≡ length (spelling version frame)
  pub rest : AreReports (drop len bytes) more left

-- what is left of reports after their first frame
rest_of : (bytes : List ℕ) (w : Written) (ws : List Written) (left : Decoded) (len : ℕ) → len ≡ length (bytes_in w) → AreReports bytes (w ∷ ws) left → AreReports (drop len bytes) ws left
rest_of bytes w ws left len long r =
    let parts : bytes ≡ bytes_in w ++ (bytes_of ws ++ r.rest) = r.cut ∙ append_assoc (bytes_in w) (bytes_of ws) r.rest in
    record { each = r.each.1; rest = r.rest; cut = ap (drop len) parts ∙ drop_at (bytes_in w) (bytes_of ws ++ r.rest) len (sym long); following = r.following; no_frame = r.no_frame }

-- their first frame stands at the front
stands_first : (bytes : List ℕ) (w : Written) (ws : List Written) (left : Decoded) → AreReports bytes (w ∷ ws) left → Stands bytes (Whole w.frame (length (bytes_in w)))
stands_first bytes w ws left r =
    stands_again bytes w.version w.frame (bytes_of ws ++ r.rest) r.each.0 (r.cut ∙ append_assoc (bytes_in w) (bytes_of ws) r.rest)

begins_so : (bytes : List ℕ) (w : Written) (ws : List Written) (left : Decoded) → AreReports bytes (w ∷ ws) left → (frame : Frame) (len : ℕ) → frame ≡ w.frame → len ≡ length (bytes_in w) → Begins bytes frame len (w ∷ ws) left
begins_so bytes w ws left r frame len same long =
    record {
      version = w.version;
      more = ws;
      first = ap (λ (g : Frame). record { version = w.version; frame = g } ∷ ws) (sym same);
      long = long ∙ ap (λ g. length (spelling w.version g)) (sym same);
      rest = rest_of bytes w ws left len long r;
    }

pub first_frame : (bytes : List ℕ) (frame : Frame) (len : ℕ) (frames : List Written) (left : Decoded) → Stands bytes (Whole frame len) → AreReports bytes frames left → Begins bytes frame len frames left
first_frame bytes frame len [] left h r =
    absurd (whole_no_frame left frame len (one_outcome bytes (Whole frame len) left h (subst (λ xs. Stands xs left) (sym r.cut) r.following)) r.no_frame)
first_frame bytes frame len (w ∷ ws) left h r =
    let same = whole_frame frame w.frame len (length (bytes_in w)) (one_outcome bytes (Whole w.frame (length (bytes_in w))) (Whole frame len) (stands_first bytes w ws left r) h) in
    begins_so bytes w ws left r frame len same.0 same.1

-- byte 0 is the version of the first frame
version_of : (bytes : List ℕ) (w : Written) (ws : List Written) (left : Decoded) → AreReports bytes (w ∷ ws) left → get_or bytes 0 0 ≡ w.version
version_of bytes w ws left r =
    ap (λ xs. get_or xs 0 0) (r.cut ∙ append_assoc (bytes_in w) (bytes_of ws) r.rest) ∙ version_first w.version w.frame (bytes_of ws ++ r.rest)

-- where no frame stands at the front, there are none
pub no_frames : (bytes : List ℕ) (d : Decoded) (frames : List Written) (left : Decoded) → Stands bytes d → IsNoFrame d → AreReports bytes frames left → (frames ≡ []) × (left ≡ d)
no_frames bytes d [] left h none r = (refl, one_outcome bytes d left h (subst (λ xs. Stands xs left) (sym r.cut) r.following))
no_frames bytes d (w ∷ ws) left h none r =
    absurd (whole_no_frame d w.frame (length (bytes_in w)) (one_outcome bytes (Whole w.frame (length (bytes_in w))) d (stands_first bytes w ws left r) h) none)

-- ---- there is one cutting

same_written : (w : Written) (version : ℕ) → version ≡ w.version → ◌≡◌ {A = Written} (record { version = version; frame = w.frame }) w
same_written w version same = ap (λ (v : ℕ). record { version = v; frame = w.frame }) same

once : (frames others : List Written) (bytes : List ℕ) (left right : Decoded) → AreReports bytes frames left → AreReports bytes others right → (others ≡ frames) × (right ≡ left)
once [] others bytes left right r s = no_frames bytes left others right (subst (λ xs. Stands xs left) (sym r.cut) r.following) r.no_frame s
once (w ∷ ws) others bytes left right r s =
    let len : ℕ = length (bytes_in w) in
    let b = first_frame bytes w.frame len others right (stands_first bytes w ws left r) s in
    let first : Written = record { version = b.version; frame = w.frame } in
    let version : b.version ≡ w.version = sym (version_of bytes first b.more right (subst (λ (fs : List Written). AreReports bytes fs right) b.first s)) ∙ version_of bytes w ws left r in
    let rest = once ws b.more (drop len bytes) left right (rest_of bytes w ws left len refl r) b.rest in
    (b.first ∙ ap (λ (v : Written). v ∷ b.more) (same_written w b.version version) ∙ ap (λ (vs : List Written). w ∷ vs) rest.0, rest.1)

pub cut_once : (bytes : List ℕ) (first second : Framed) → AreReports bytes first.frames first.left → AreReports bytes second.frames second.left → first ≡ second
cut_once bytes first second r s =
    let same = once first.frames second.frames bytes first.left second.left r s in
    ap (λ (fs : List Written). record { frames = fs; left = first.left }) (sym same.0) ∙ ap (λ (d : Decoded). record { frames = second.frames; left = d }) (sym same.1)

record HasCutting (bytes : List ℕ) : Type 0 where
  framed : Framed
  is : AreReports bytes framed.frames framed.left

-- a frame before what is cut
after_frame : (bytes : List ℕ) (frame : Frame) (len : ℕ) → Stands bytes (Whole frame len) → HasCutting (drop len bytes) → HasCutting bytes
after_frame bytes frame len h c =
    let r = c.is in
    record {
      framed = record { frames = record { version = h.1; frame = frame } ∷ c.framed.frames; left = c.framed.left };
      is = record {
        each = (h.2.in_range, r.each);
        rest = r.rest;
        cut = sym (take-append-drop len bytes) ∙ ap (λ xs. xs ++ drop len bytes) h.2.spelled ∙ ap (λ xs. spelling h.1 frame ++ xs) r.cut
            ∙ sym (append_assoc (spelling h.1 frame) (bytes_of c.framed.frames) r.rest);
        following = r.following;
        no_frame = r.no_frame;
      };
    }

len_long : (bytes : List ℕ) (frame : Frame) (len : ℕ) → Stands bytes (Whole frame len) → 8 ≤ len
len_long bytes frame len h =
    let long = frame_long h.1 frame in
    let spelled = ap length h.2.spelled in
    omega (arith, long, spelled, length-take-most len bytes)
  where
    length-take-most : (n : ℕ) (xs : List ℕ) → length (take n xs) ≤ n
    length-take-most zero xs = omega arith
    length-take-most (suc n) [] = omega arith
    length-take-most (suc n) (x ∷ xs) = let less = length-take-most n xs in omega arith

cut_of : (fuel : ℕ) (bytes : List ℕ) → length bytes ≤ fuel → (d : Decoded) → Stands bytes d → HasCutting bytes
cut_of zero bytes few (Whole frame len) h = absurd (let long = len_long bytes frame len h in let within = h.0 in omega arith)
cut_of (suc fuel) bytes few (Whole frame len) h =
    let long = len_long bytes frame len h in
    let within = h.0 in
    let next = some_outcome (drop len bytes) in
    after_frame bytes frame len h (cut_of fuel (drop len bytes) (omega (arith, few, long, within, length-drop len bytes)) next.outcome next.stands)
cut_of fuel bytes few More h = record { framed = record { frames = []; left = More }; is = record { each = tt; rest = bytes; cut = refl; following = h; no_frame = tt } }
cut_of fuel bytes few (Bad n) h = record { framed = record { frames = []; left = Bad n }; is = record { each = tt; rest = bytes; cut = refl; following = h; no_frame = tt } }

pub one_cutting : (bytes : List ℕ) → HasOneCutting bytes
one_cutting bytes =
    let first = some_outcome bytes in
    let c = cut_of (length bytes) bytes (omega arith) first.outcome first.stands in
    record { framed = c.framed; is = c.is; once = cut_once bytes }

-- ---- frames that were written

no_numbers : (i : ℕ) → i < 8 → i < length {A = ℕ} [] → ⊥
no_numbers i few within = omega arith

-- no bytes begin a frame
pub nothing_left : Stands [] More
nothing_left = goes_on [] (λ i. omega arith) (λ i few within. absurd (no_numbers i few within)) (inl (omega arith))

pub frames_again : (frames : List Written) → AllByRecursion IsWritten frames → AreReports (bytes_of frames) frames More
frames_again frames each = record { each = each; rest = []; cut = sym (append-nil (bytes_of frames)); following = nothing_left; no_frame = tt }
