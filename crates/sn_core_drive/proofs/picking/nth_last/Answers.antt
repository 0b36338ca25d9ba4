use Rattle.std.proofs.Common.{arith}
use Rattle.sn_base.proofs.Lists.{not_false}
use Rattle.sn_core_drive.proofs.Found.{close_first, install_alone, install_second, no_more}
use Rattle.sn_core_drive.proofs.picking.nth_last.Goals as goal

pub returns-then-not-found : goal.returns-then-not-found
returns-then-not-found c = install_alone c.args.found c.args.n (no_more c.args.found.close c.if-not-found.true) c.requires

pub returns-then-n-eq0 : goal.returns-then-n-eq0
returns-then-n-eq0 c = close_first c.args.found c.args.n (not_false c.args.found.close c.if-not-found.false) c.if-n-eq0.true

pub returns-else-n-eq0 : goal.returns-else-n-eq0
returns-else-n-eq0 c = install_second c.args.found c.args.n (not_false c.args.found.close c.if-not-found.false) (omega (arith, c.if-n-eq0.false)) c.requires
