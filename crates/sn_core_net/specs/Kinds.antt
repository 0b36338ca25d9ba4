-- serves proofs
-- Lanes of the switch over rows of either kind, as contracts see them.
use Rattle.circular_buffer.specs.Buffer.{Buffer}
use Rattle.sn_emit.specs.declared.sender_of.SenderOf.{SenderOf}
use Rattle.sn_pipe.specs.Pipes.{PipeState}
use Rattle.sn_report.specs.Items.{Frame}
use Rattle.sn_core_net.specs.declared.any_holder.AnyHolder.{AnyHolder}
use Rattle.sn_core_net.specs.declared.any_holder.AnyHolder.TheVariants.{Short, Wide}
use Rattle.sn_core_net.specs.declared.holder_of.HolderOf.{HolderOf}

abbrev pub holder_in : AnyHolder → HolderOf (SenderOf PipeState) (Buffer Frame)
holder_in (Short h) = h
holder_in (Wide h) = h
