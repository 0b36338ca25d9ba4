-- to be believed
-- Bytes as report frames.
use Rattle.std.specs.Prelude.{◌≡◌, ℕ, List, ◌++◌}
use Rattle.std.specs.List.{flat_map, AllByRecursion}
use Rattle.sn_report.specs.declared.decode.Decoded.{Decoded}
use Rattle.sn_report.specs.declared.decode.Decoded.TheVariants.{Whole, More, Bad}
use Rattle.sn_report.specs.Decoding.{Stands}
use Rattle.sn_report.specs.Frames.{IsFrame, spelling}
use Rattle.sn_report.specs.Items.{Frame}

-- a frame, and the version in which it is written
pub record Written : Type 0 where
  pub version : ℕ
  pub frame : Frame

-- its bytes
abbrev pub bytes_in : Written → List ℕ
bytes_in w = spelling w.version w.frame

-- its numbers are in the range of the version
abbrev pub IsWritten : Written → Type 0
IsWritten w = IsFrame w.version w.frame

-- the bytes of frames, one after another; versions may be mixed
abbrev pub bytes_of : List Written → List ℕ
bytes_of frames = flat_map bytes_in frames

abbrev pub IsNoFrame : Decoded → Type 0
IsNoFrame (Whole frame len) = ⊥
IsNoFrame More = Unit {0}
IsNoFrame (Bad n) = Unit {0}

-- The bytes are those of whole frames, one after another, and of no further frame: after them stand the first bytes of a
-- frame that goes on, or none; or bytes as no frame has them, of which one is the first that shows it.
pub record AreReports (bytes : List ℕ) (frames : List Written) (left : Decoded) : Type 0 where
  pub each : AllByRecursion IsWritten frames
  pub rest : List ℕ
  pub cut : bytes ≡ bytes_of frames ++ rest
  pub following : Stands rest left
  pub no_frame : IsNoFrame left

-- frames, and what stands after them
pub record Framed : Type 0 where
  pub frames : List Written
  pub left : Decoded

-- there are such frames, and there is one list of them
pub record HasOneCutting (bytes : List ℕ) : Type 0 where
  pub framed : Framed
  pub is : AreReports bytes framed.frames framed.left
  pub once : (first second : Framed) → AreReports bytes first.frames first.left → AreReports bytes second.frames second.left → first ≡ second
