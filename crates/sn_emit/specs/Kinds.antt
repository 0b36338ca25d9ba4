-- serves proofs
-- Lanes and frames over rows of either kind, as contracts see them.
use Rattle.sn_pipe.specs.Pipes.{PipeState}
use Rattle.sn_report.specs.Items.{Frame}
use Rattle.sn_emit.specs.declared.any_sender.AnySender.{AnySender}
use Rattle.sn_emit.specs.declared.any_sender.AnySender.TheVariants as senders
use Rattle.sn_emit.specs.declared.given.AnyFrame.{AnyFrame}
use Rattle.sn_emit.specs.declared.given.AnyFrame.TheVariants as frames
use Rattle.sn_emit.specs.declared.sender_of.SenderOf.{SenderOf}

abbrev pub frame_in : AnyFrame → Frame
frame_in (frames.Short frame) = frame
frame_in (frames.Wide frame) = frame

abbrev pub sender_in : AnySender → SenderOf PipeState
sender_in (senders.Short s) = s
sender_in (senders.Wide s) = s
