use Rattle.std.proofs.Common.{ap, ◌∙◌}
use Rattle.sn_command_captures.proofs.WalkLemmas.{share_is}
use Rattle.sn_command_captures.specs.Counted.{share_if_few}
use Rattle.sn_command_captures.proofs.capture.Capture.into_share.Goals as goal

pub returns : goal.returns
returns c =
    c.of.ensures ∙ share_is c.args.window_ns c.args.start c.self.inside.header c.self.inside.file ∙ ap (share_if_few c.args.window_ns c.args.start) c.self.view_is
