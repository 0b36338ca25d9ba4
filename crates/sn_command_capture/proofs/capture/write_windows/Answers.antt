use Rattle.std.proofs.Common.{◌≡◌, ℕ, List, [], ◌∷◌, Ok, Err, length, take, subst, ap, refl, sym, ◌∙◌, arith}
use Rattle.std.proofs.lemmas.Bool.{false≢true}
use Rattle.std.proofs.lemmas.Result.{err_from_is_err_and}
use Rattle.sn_fields.specs.Tuples.{tuple}
use Rattle.sn_pcap.specs.declared.packet.Ending.{Ending}
use Rattle.sn_pcap.specs.Reading.{ReaderState, Follows, MovesOn}
use Rattle.sn_pcap.proofs.ReportedLemmas.{reported_still}
use Rattle.sn_command.specs.Desks.{files_of, world}
use Rattle.sn_command.specs.declared.refusal.Refusal.{Refusal}
use Rattle.std.specs.Prelude.{Result}
use Rattle.sn_command.specs.Refusals.{seen_as}
use Rattle.sn_command.specs.Runs.{Runs}
use Rattle.sn_command.specs.Stages.{Does}
use Rattle.sn_command_capture.specs.Capture.{WindowsOf}
use Rattle.sn_command_capture.specs.Gathering.{Gathering, after, all_closed, closing, none_gathered, Stops, taken}
use Rattle.sn_command_capture.specs.Wording.{Closed, Wording}
use Rattle.sn_command_capture.proofs.StandLemmas.{ok_weaker, seen_same}
use Rattle.sn_command_capture.proofs.StreamLemmas.{runs_memory}
use Rattle.sn_command_capture.proofs.TurnLemmas.{leads_first, follows_first, packet_goes, packet_stops, end_stops, error_stops, read_on}
use Rattle.sn_command_capture.proofs.capture.write_windows.Goals as goal
use Rattle.sn_windows.specs.Rising.{Window}

pub returns-in_err-reader-clause-runs : goal.returns-in_err-reader-clause-runs
returns-in_err-reader-clause-runs g c = let p = err_from_is_err_and c.from_residual.result c.from_residual.ensures.1 in rw (p.1, p.2) ([], runs_memory _ _ _, tt)

pub records-init : goal.records-init
records-init g c =
    let here = world g.I.Inputs g.O.Sink c.args.desk.now in
    let wording = g.A.Answering.wording c.args.answering.now in
    let causal = g.met.A.Answering.causal c.args.answering.now in
    let in_time = g.met.A.Answering.in_time c.args.answering.now in
    let window = c.args.window_ns in
    let header = c.args.header.now in
    let name = c.args.capture.now in
    let reader = c.in_ok-reader.reader in
    let first : Gathering = none_gathered window in
    let offset : reader.offset ≡ 24 = ap (λ (r : ReaderState). r.offset) c.in_ok-reader.ensures in
    record {
      state = first;
      stands = record {
        numbering = sym c.new.ensures;
        closed = refl;
        some = λ e. absurd (false≢true e);
        none = λ e. refl;
        fresh = λ e. (refl, refl);
        begun = λ e. absurd (false≢true e);
        count = λ e. absurd (false≢true e);
        few = omega arith;
        at_hand = c.requires.begun;
        rising = (tt, tt);
      };
      leads = leads_first wording causal in_time window header name reader first here c.in_ok-reader.ensures refl (g.met.I.Inputs.same_names c.args.desk.now.files.now) c.requires.known;
      same = refl;
      follows = follows_first wording causal in_time window header name reader first here c.in_ok-reader.ensures refl;
      known = c.requires.known;
      counted = omega arith;
      most = omega arith;
    }

pub returns-in_err-gathered-in-Ok-Packet-clause-runs : goal.returns-in_err-gathered-in-Ok-Packet-clause-runs
returns-in_err-gathered-in-Ok-Packet-clause-runs g c =
    let here = world g.I.Inputs g.O.Sink c.records.desk in
    let begin = world g.I.Inputs g.O.Sink c.args.desk.now in
    let mid = c.records.invariant in
    let wording = g.A.Answering.wording c.args.answering.now in
    let header = c.args.header.now in
    let name = c.args.capture.now in
    let seen = c.next.new.seen in
    let there = world g.I.Inputs g.O.Sink c.take_packet.new.desk in
    let refusal = c.in_err-gathered-in-Ok-Packet.field-0.0 in
    let p = err_from_is_err_and c.from_residual-in_err-gathered-in-Ok-Packet.result c.from_residual-in_err-gathered-in-Ok-Packet.ensures.1 in
    rw (p.1, p.2) (
      [],
      (packet_stops wording header.link name c.records.reader c.next.new.self seen mid.state (WindowsOf wording c.args.window_ns name header) begin here (files_of g.I.Inputs c.next.new.files) c.next.ensures.reported c.next.ensures.faults mid.leads
          refusal there (rw c.in-Ok-Packet.field-0-is at c.in-Ok-Packet.ensures).takes
          (subst (λ (w : Wording). Runs [] (Does (taken w mid.state seen.time (tuple header.link seen.wire (take seen.len seen.front)))) (read_on here (files_of g.I.Inputs c.next.new.files)) (Err refusal) there) mid.same (c.in_err-gathered-in-Ok-Packet.ensures.runs mid.state mid.stands))),
      tt,
    )

pub records-preserved : goal.records-preserved
records-preserved g c =
    let here = world g.I.Inputs g.O.Sink c.records.desk in
    let begin = world g.I.Inputs g.O.Sink c.args.desk.now in
    let mid = c.records.invariant in
    let wording = g.A.Answering.wording c.args.answering.now in
    let header = c.args.header.now in
    let name = c.args.capture.now in
    let now = c.next.new.self in
    let seen = c.next.new.seen in
    let there = world g.I.Inputs g.O.Sink c.take_packet.new.desk in
    let shown = tuple header.link seen.wire (take seen.len seen.front) in
    let runs = c.in_ok-gathered-in-Ok-Packet.ensures.runs mid.state mid.stands in
    let moves : MovesOn c.records.reader seen now = (rw c.in-Ok-Packet.field-0-is at c.in-Ok-Packet.ensures).packet refl in
    record {
      state = after mid.state seen.time shown;
      stands = c.in_ok-gathered-in-Ok-Packet.ensures.stands mid.state mid.stands;
      leads = packet_goes wording header.link name c.records.reader now seen mid.state (WindowsOf wording c.args.window_ns name header) begin here (files_of g.I.Inputs c.next.new.files) c.next.ensures.reported c.next.ensures.faults mid.leads
          (after mid.state seen.time shown) there (rw c.in-Ok-Packet.field-0-is at c.in-Ok-Packet.ensures).takes
          (subst (λ (w : Wording). Runs [] (Does (taken w mid.state seen.time shown)) (read_on here (files_of g.I.Inputs c.next.new.files)) (Ok (after mid.state seen.time shown)) there) mid.same runs);
      same = c.in_ok-gathered-in-Ok-Packet.ensures.wording ∙ mid.same;
      follows = reported_still (g.I.Inputs.reported c.next.new.files) (g.I.Inputs.reported c.take_packet.new.desk.files.now) name (λ file. Follows file now) runs.follows.reported c.next.ensures.follows;
      known = runs.follows.known name ∙ c.next.ensures.faults.known ∙ mid.known;
      counted = let few = mid.counted in let more = c.in_ok-gathered-in-Ok-Packet.ensures.closed in let on = moves.offset in omega arith;
      most = moves.most;
    }

pub returns-in-Ok-End-clause-runs : goal.returns-in-Ok-End-clause-runs
returns-in-Ok-End-clause-runs g c =
    let here = world g.I.Inputs g.O.Sink c.records.desk in
    let begin = world g.I.Inputs g.O.Sink c.args.desk.now in
    let mid = c.records.invariant in
    let wording = g.A.Answering.wording c.args.answering.now in
    let header = c.args.header.now in
    let name = c.args.capture.now in
    let seen = c.next.new.seen in
    let ending = c.in-Ok-End.ending in
    let there = world g.I.Inputs g.O.Sink c.close_last.new.desk in
    let all : List Window = all_closed mid.state in
    let whole = WindowsOf wording c.args.window_ns name header in
    let idle = g.A.Answering.idle c.close_last.new.answering in
    let hand = g.A.Answering.hand c.close_last.new.answering in
    let reported = ok_weaker _ (λ (found : ℕ × Ending). found.1 ≡ ending) c.close_last.result (λ found f. (f mid.state mid.stands).1) c.close_last.ensures.closed in
    let closes = ok_weaker _ (λ (found : ℕ × Ending). (found.0 ≡ length all) × Closed idle hand all) c.close_last.result (λ found f. ((f mid.state mid.stands).0, (f mid.state mid.stands).2)) c.close_last.ensures.closed in
    let runs = end_stops wording header.link name c.records.reader c.next.new.self seen mid.state whole begin here (files_of g.I.Inputs c.next.new.files) c.next.ensures.reported c.next.ensures.faults mid.leads
    ending (seen_as (λ (found : ℕ × Ending). (all, ending)) c.close_last.result) there (rw c.in-Ok-End.field-0-is at c.in-Ok-End.ensures).takes
    (subst (λ (w : Wording). Runs [] (Does (closing w mid.state ending)) (read_on here (files_of g.I.Inputs c.next.new.files)) (seen_as (λ (found : ℕ × Ending). (all, ending)) c.close_last.result) there) mid.same (c.close_last.ensures.runs mid.state mid.stands)) in (
      all,
      (subst (λ (r : Result (List Window × Ending) Refusal). Runs (name ∷ []) whole begin r there) (seen_same all ending c.close_last.result reported) runs),
      closes,
    )

pub returns-in-Err-clause-runs : goal.returns-in-Err-clause-runs
returns-in-Err-clause-runs g c =
    let here = world g.I.Inputs g.O.Sink c.records.desk in
    let begin = world g.I.Inputs g.O.Sink c.args.desk.now in
    let mid = c.records.invariant in
    let wording = g.A.Answering.wording c.args.answering.now in
    let header = c.args.header.now in
    let name = c.args.capture.now in
    let seen = c.next.new.seen in
    let hand = g.A.Answering.hand c.records.answering in
    let files = files_of g.I.Inputs c.next.new.files in
    let refusal = c.refuse_capture.result in
    let there = world g.I.Inputs g.O.Sink c.refuse_capture.new.desk in (
      [],
      (error_stops wording header.link name c.records.reader c.next.new.self seen mid.state (WindowsOf wording c.args.window_ns name header) begin here files c.next.ensures.reported c.next.ensures.faults mid.leads
          hand c.records.gathered mid.stands c.in-Err.error refusal there mid.known c.in-Err.ensures.missing.0 c.in-Err.ensures.fault c.in-Err.ensures.no_memory c.in-Err.ensures.takes
          (subst (λ (w : Wording). Stops hand w c.records.gathered c.in-Err.error (read_on here files) refusal there) mid.same c.refuse_capture.ensures)),
      tt,
    )
