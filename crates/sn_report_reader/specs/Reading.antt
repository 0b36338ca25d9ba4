-- serves proofs
-- Reports that are read from front to back, one frame after another.
use Rattle.std.specs.Prelude.{◌≡◌, ℕ, ◌<◌, ◌≤◌, ◌+◌, ◌^◌, List, [], ◌++◌, length, drop, Result, Ok, Err, ◌==◌, if◌then◌else◌}
use Rattle.sn_io.specs.declared.inputs.ReadError.{ReadError}
use Rattle.sn_io.specs.declared.inputs.ReadError.TheVariants as errors
use Rattle.sn_report.specs.declared.decode.Decoded.TheVariants as decoded
use Rattle.sn_report.specs.Decoding.{Stands}
use Rattle.sn_report_reader.specs.declared.reader.Next.{Next}
use Rattle.sn_report_reader.specs.declared.reader.Next.TheVariants as next
use Rattle.sn_report_reader.specs.declared.room.Reached.{Reached}
use Rattle.sn_report_reader.specs.declared.room.Reached.TheVariants as reached
use Rattle.sn_report_reader.specs.Within.{within}

-- a reader: the byte after the frames that it gave, and the bytes from there on that it holds
pub record ReaderState : Type 0 where
  pub offset : ℕ
  pub held : List ℕ

-- a reader as it is made
abbrev pub made : ReaderState
made = record { offset = 0; held = [] }

-- the byte after those that it holds
abbrev pub place_of : ReaderState → ℕ
place_of reader = reader.offset + length reader.held

-- of the first 2^30 bytes of a file, those that stand after the frames that were given
abbrev pub rest_of : List ℕ → ReaderState → List ℕ
rest_of file reader = drop reader.offset (within file)

-- what the reader holds stands first among these
pub record Follows (file : List ℕ) (reader : ReaderState) : Type 0 where
  pub within_file : place_of reader ≤ length (within file)
  pub held : rest_of file reader ≡ reader.held ++ drop (place_of reader) (within file)

-- What one call says of a file, where no read fails: a frame stands first, and the reader goes on after it; or a byte is the first
-- that shows that no frame does; or the file ends in a frame that goes on, or after a frame; or it goes on past the bytes that are read, in
-- which the frame that stands first isn't whole.
abbrev pub IsStep : List ℕ → ReaderState → Result Next ReadError → ReaderState → Type 0
IsStep file before (Ok (next.Frame frame)) now = (len : ℕ) × Stands (rest_of file before) (decoded.Whole frame len) × (now.offset ≡ before.offset + len)
IsStep file before (Ok (next.Bad at)) now = (n : ℕ) × Stands (rest_of file before) (decoded.Bad n) × (at ≡ before.offset + n)
IsStep file before (Ok next.Cut) now = Stands (rest_of file before) decoded.More × (before.offset < length file) × (length file ≤ 2 ^ 30)
IsStep file before (Ok next.End) now = (before.offset ≡ length file) × (length file ≤ 2 ^ 30)
IsStep file before (Err errors.TooLarge) now = Stands (rest_of file before) decoded.More × (2 ^ 30 < length file)
IsStep file before (Err error) now = Unit {0}

-- over any file: after a frame the reader stands further on, within the bytes that are read, and else where it stood
abbrev pub Moves : ReaderState → Result Next ReadError → ReaderState → Type 0
Moves before (Ok (next.Frame frame)) now = (before.offset < now.offset) × (now.offset ≤ 2 ^ 30)
Moves before answer now = now.offset ≡ before.offset

-- what a read gave of a file: bytes, which are held now; its end; or that it goes on past the bytes that are read
abbrev pub Reaches : List ℕ → ReaderState → Reached → ReaderState → Type 0
Reaches file before reached.Bytes now = Follows file now
Reaches file before reached.End now = (place_of before ≡ length file) × (length file ≤ 2 ^ 30)
Reaches file before reached.Past now = (place_of before ≡ 2 ^ 30) × (2 ^ 30 < length file)

-- how a file ends after the bytes that are held, in which no frame is whole
abbrev pub ending_of : ReaderState → Next
ending_of reader = if length reader.held == 0 then next.End else next.Cut
