use Rattle.std.proofs.Common.{◌∙◌, [], ◌∷◌, ◌++◌, map, ap, List, Bool}
use Rattle.std.proofs.lemmas.List.{map-append}
use Rattle.circular_buffer.specs.Buffer.{Buffer}
use Rattle.sn_core.specs.declared.supply.Frame.{Frame}
use Rattle.sn_core_net.specs.Settled.{settled}
use Rattle.sn_emit.specs.declared.sender.Sender.{Sender}
use Rattle.sn_report.specs.Items.{Frame as Report, frame_by}
use Rattle.sn_report.specs.Items.{Item}
use Rattle.sn_core_net.specs.Reports.{frame_of}
use Rattle.sn_core_net.specs.declared.holder.Holder.{Holder}
use Rattle.sn_core_net.specs.States.{lane_of}
use Rattle.sn_core_net.proofs.Reading.{next_is, own_more, some_left}
use Rattle.sn_core_net.proofs.holder_of.HolderOf+SenderOf+Pipe+R+RingOf+R.append_next.Goals as goal

pub returns-in-Some-clause-lane : goal.returns-in-Some-clause-lane
returns-in-Some-clause-lane g c = λ queries intakes sources x.
    let h : Holder = c.args.self.now in
    let t : Sender = c.read_out.new.self in
    let f : Report = frame_by g.R.Columns.columns c.in-Some.frame in
    ap (λ (b : Buffer Report). record (lane_of h x) { pipe = settled t.pipe; ended = t.ended; ring = map frame_of b.items }) c.append.ensures
    ∙ ap (λ (fs : List (Frame Item)). record (lane_of h x) { pipe = settled t.pipe; ended = t.ended; ring = fs }) (map-append frame_of h.ring.items (f ∷ []))
    ∙ ap (λ (e : Bool). record (lane_of h x) { pipe = settled t.pipe; ended = e; ring = map frame_of h.ring.items ++ frame_of f ∷ [] }) c.read_out.ensures.ended
    ∙ next_is queries intakes sources h t.pipe x c.read_out.ensures.rest c.in-Some.ensures.frame.rows c.args.window f c.requires.runs c.in-Some.ensures.frame.first

pub returns-in-Some-clause-own : goal.returns-in-Some-clause-own
returns-in-Some-clause-own g c = λ own.
    let h : Holder = c.args.self.now in
    own_more h.sender c.args.window (frame_by g.R.Columns.columns c.in-Some.frame) h.ring.items c.append.new.self.items c.requires.runs c.in-Some.ensures.frame.first (ap (λ (b : Buffer Report). b.items) c.append.ensures) own

pub returns-in-None-clause-lane : goal.returns-in-None-clause-lane
returns-in-None-clause-lane g c = λ queries intakes sources x. some_left c.args.self.now.sender c.args.window c.requires.runs c.in-None.ensures.frame.first
