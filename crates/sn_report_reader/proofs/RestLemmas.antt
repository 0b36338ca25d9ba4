-- What stands at the front of a file, by the bytes that are held of it.
use Rattle.std.proofs.Common.{ℕ, zero, suc, ◌+◌, ◌<◌, ◌≤◌, List, ◌∷◌, ◌++◌, length, ap, sym, subst, arith}
use Rattle.std.proofs.lemmas.List.{take-append-le, length-append, length-take}
use Rattle.sn_report.specs.Items.{Frame}
use Rattle.sn_report.specs.declared.frame.Frame.TheVariants.{Row, End}
use Rattle.sn_report.specs.declared.decode.Decoded.TheVariants.{Whole, Bad}
use Rattle.sn_report.specs.Decoding.{IsFront, IsProperFront, Stands}
use Rattle.sn_report.specs.Frames.{IsFrame, Spells, column_bytes, spelling}
use Rattle.sn_report.proofs.Columns.{words_length, wides_length}
use Rattle.sn_report.proofs.Cutting.{frame_long}

-- ---- how long a frame is

columns_long : (version : ℕ) (columns : List ℕ) → 1 ≤ version → version ≤ 2 → length columns ≤ 8 → length (column_bytes version columns) ≤ 128
columns_long zero columns some most few = absurd (omega (arith, some))
columns_long (suc zero) columns some most few = omega (arith, words_length columns, few)
columns_long (suc (suc zero)) columns some most few = omega (arith, wides_length columns, few)
columns_long (suc (suc (suc n))) columns some most few = absurd (omega (arith, most))

-- no frame has more than 136 bytes
frame_short : (version : ℕ) (frame : Frame) → IsFrame version frame → length (spelling version frame) ≤ 136
frame_short version (Row lane item) f = let long = columns_long version item.row f.some_version f.most_version f.content.0 in omega arith
frame_short version (End lane window) f = omega arith

-- so the first bytes of one that goes on are fewer
pub front_short : (bytes : List ℕ) → IsProperFront bytes → length bytes < 136
front_short bytes (version, frame, next, rest, spells) =
    let most = frame_short version frame spells.in_range in
    let long = ap length spells.spelled in
    omega (arith, most, long, length-append bytes (next ∷ rest))

-- ---- what stands at the front of bytes, and of more

pub whole_stays : (held more : List ℕ) (frame : Frame) (len : ℕ) → Stands held (Whole frame len) → Stands (held ++ more) (Whole frame len)
whole_stays held more frame len (fits, version, spells) =
    (omega (arith, fits, length-append held more), version, subst (λ (xs : List ℕ). Spells xs version frame) (sym (take-append-le len held more fits)) spells)

pub bad_stays : (held more : List ℕ) (n : ℕ) → Stands held (Bad n) → Stands (held ++ more) (Bad n)
bad_stays held more n (fits, front, none) = (
  omega (arith, fits, length-append held more),
  subst IsProperFront (sym (take-append-le n held more (omega (arith, fits)))) front,
  λ longer. none (subst IsFront (take-append-le (n + 1) held more (omega (arith, fits))) longer),
)

pub whole_long : (held : List ℕ) (frame : Frame) (len : ℕ) → Stands held (Whole frame len) → 1 ≤ len
whole_long held frame len h =
    let long = frame_long h.1 frame in
    let spelled = ap length h.2.spelled in
    omega (arith, long, spelled, length-take len held)
