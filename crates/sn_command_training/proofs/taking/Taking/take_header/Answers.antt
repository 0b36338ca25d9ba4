use Rattle.std.proofs.Common.{◌≡◌, ◌≤◌, ℕ, List, length, ap, sym, ◌∙◌, arith}
use Rattle.sn_pcap.specs.Capture.{head_of}
use Rattle.sn_command_training.proofs.TakeLemmas.{front_reaches, head_held, header_taken, on_ok_map, refused_head}
use Rattle.sn_command_training.proofs.taking.Taking.take_header.Goals as goal

pub returns-in-Ok-clause-taken : goal.returns-in-Ok-clause-taken
returns-in-Ok-clause-taken c =
    let held : List ℕ = c.args.self.now.held.items in
    let long : length held ≡ c.len.result = ap length (sym c.deref.ensures.value) ∙ c.deref.ensures.len ∙ sym c.len.ensures in
    let some = c.if-len-lt-HEADER_BYTES.false in
    let enough : 24 ≤ length held = omega (arith, long, some) in
    on_ok_map c.take_records.result c.take_records.ensures.taken (λ taken window file place within is none.
    let whole : 24 ≤ place = front_reaches file held place is enough in
    taken window file place (header_taken window file place c.in-Ok.header held c.args.self.now.collected within is whole
    (sym (c.in-Ok.ensures.first ∙ ap head_of c.deref.ensures.value ∙ head_held file held place is whole)) none))

pub returns-in-Err-clause-taken : goal.returns-in-Err-clause-taken
returns-in-Err-clause-taken c = λ window file place within is none.
    let held : List ℕ = c.args.self.now.held.items in
    let long : length held ≡ c.len.result = ap length (sym c.deref.ensures.value) ∙ c.deref.ensures.len ∙ sym c.len.ensures in
    let some = c.if-len-lt-HEADER_BYTES.false in
    let enough : 24 ≤ length held = omega (arith, long, some) in
    let whole : 24 ≤ place = front_reaches file held place is enough in
    refused_head window file c.in-Err.fault (sym (c.in-Err.ensures.first ∙ ap head_of c.deref.ensures.value ∙ head_held file held place is whole))
