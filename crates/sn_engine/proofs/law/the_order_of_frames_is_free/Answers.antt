use Rattle.sn_engine.proofs.Orders.{order_is_free}
use Rattle.sn_engine.proofs.law.the_order_of_frames_is_free.Goals as goal

pub returns : goal.returns
returns c = λ window queries sets lanes frames others t sound same. order_is_free window queries sets lanes frames others t sound same
