-- serves proofs
-- What a call with the words of `live --trace` leaves, in one statement.
use Rattle.std.specs.Prelude.{◌≡◌, ◌⊎◌, ℕ, List, [], ◌∷◌, Option, Some}
use Rattle.std.specs.Io.KnownBytes.{append_known}
use Rattle.sn_command.specs.Ends.{Around, end_status}
use Rattle.sn_command.specs.Refusals.{refusing}
use Rattle.sn_command.specs.Worlds.{AnyRose, OutRose}
use Rattle.sn_command_capture.specs.Capture.{ending_verdict}
use Rattle.sn_command_live.specs.Headline.{AreAccepted, Headline, KeepsLimits}
use Rattle.sn_io.specs.Counts.{ByName}
use Rattle.sn_pcap.specs.declared.packet.Ending.{Ending}
use Rattle.sn_pcap.specs.declared.packet.Ending.TheVariants.{Clean}
use Rattle.sn_top_laws.specs.Events.{without_events}

-- a text is written that is the headline of these files without its lines of events, and the status says how the records of the second capture end
pub record IsTraced {switch queries train capture : List ℕ} {files : ByName (List ℕ)} {ending : Ending}
    (given : AreAccepted switch queries train capture files ending) (status : ℕ) (before now : Option (List ℕ)) : Type 0 where
  pub text : List ℕ
  pub headline : Headline given (without_events text)
  pub written : now ≡ append_known before text
  pub status_is : status ≡ end_status (refusing (ending_verdict ending))

-- over files whose contents are known
pub record KeepsTracedHeadline (switch queries train capture : List ℕ) (nodes : ℕ) (before : Around) (status : ℕ) (now : Around) : Type 0 where
  -- Of accepted files with limits that are kept it is written, where no count rose, unless memory ran out.
  pub printed : (files : ByName (List ℕ)) → before.files.reported ≡ Some files → (ending : Ending) (given : AreAccepted switch queries train capture files ending)
      → KeepsLimits given nodes
      → (AnyRose (queries ∷ switch ∷ train ∷ capture ∷ []) before.files now.files → ⊥) → (OutRose before.out now.out → ⊥)
      → (status ≡ 1) ⊎ IsTraced given status before.out.written now.out.written
  -- Where the status is 0, the files are accepted, and it is written.
  pub only : (files : ByName (List ℕ)) → before.files.reported ≡ Some files → status ≡ 0
      → (given : AreAccepted switch queries train capture files Clean) × IsTraced given status before.out.written now.out.written
