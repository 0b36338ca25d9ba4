-- serves proofs
-- A line that is printed piece by piece.
use Rattle.std.specs.Prelude.{◌≡◌, ℕ, ◌≤◌, List, Bool, true, false}
use Rattle.std.specs.Fmt.{decimal}
use Rattle.std.specs.List.{flat_map}
use Rattle.std.specs.Io.KnownBytes.{append_known}
use Rattle.sn_command.specs.declared.pieces.Piece.{Piece}
use Rattle.sn_command.specs.declared.pieces.Piece.TheVariants.{Text, Number}
use Rattle.sn_command.specs.Worlds.{Sunk, OutRose}
use Rattle.sn_command.specs.Outcomes.{WentOutFront}

abbrev pub piece_text : Piece → List ℕ
piece_text (Text text) = text.now
piece_text (Number number) = decimal number

abbrev pub pieces_text : List Piece → List ℕ
pieces_text = flat_map piece_text

-- What was printed is a front of the text: all of it, or a count rose. No count fell.
pub record Tells (text : List ℕ) (all : Bool) (before now : Sunk) : Type 0 where
  pub front : WentOutFront text before.written now.written
  pub whole : all ≡ true → now.written ≡ append_known before.written text
  pub rose : all ≡ false → OutRose before now
  pub faults : before.faults ≤ now.faults
  pub takes : before.empty_takes ≤ now.empty_takes
