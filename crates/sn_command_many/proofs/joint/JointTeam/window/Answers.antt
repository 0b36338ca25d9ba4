use Rattle.std.proofs.Common.{◌≡◌, ℕ, List, ◌++◌, ap, arith, map, true, ◌∙◌}
use Rattle.std.proofs.lemmas.List.{length-map}
use Rattle.sn_command_capture.proofs.StandLemmas.{ok_weaker}
use Rattle.sn_command_captures.proofs.AnswerLemmas.{all_rise}
use Rattle.sn_command_captures.specs.Answered.{Shared, windows_in}
use Rattle.sn_command_captures.specs.Counted.{left_of}
use Rattle.sn_command_many.proofs.WindowLemmas.{WasClosed, answers_fit, answers_right, as_many, begun_isnt_between, between_isnt_begun, next_stands, on_ok, window_over}
use Rattle.sn_command_many.specs.Joining.{IsAfter, plan_of}
use Rattle.sn_command_many.specs.Together.{answers_in}
use Rattle.sn_out.specs.Text.{block_text}
use Rattle.sn_types.specs.declared.answers.Answers.{Answers}
use Rattle.sn_windows.specs.Windows.{in_window}
use Rattle.sn_windows_together.proofs.MergeLemmas.{least}
use Rattle.sn_windows_together.specs.Merging.{after_window}
use Rattle.sn_windows_together.specs.Together.{windows_of}
use Rattle.sn_command_many.proofs.joint.JointTeam.window.Goals as goal

pub begin-requires : goal.begin-requires
begin-requires c = between_isnt_begun c.args.self.now.many.phase c.requires.stands.2.phase

pub take_window-requires-clause-begun : goal.take_window-requires-clause-begun
take_window-requires-clause-begun c = begun_isnt_between c.begin.new.self.phase c.args.number c.in_ok-begin.ensures.begun

pub take_window-requires-clause-each : goal.take_window-requires-clause-each
take_window-requires-clause-each c =
    let a = c.args.self.now in
    let shares = c.args.shares.now in
    let number = c.args.number in
    let captures = map (in_window number) (map left_of shares) in
    let rest = windows_of (map (after_window number) (map left_of shares)) in
    let s = c.requires.stands in
    let many = as_many a s.0 s.1 rest number captures s.2 (next_stands shares number s.0 s.1 c.requires.sound c.requires.next s.3) in
    let one = length-map (map left_of shares) (in_window number) in
    let two = length-map shares left_of in
    let begun = c.in_ok-begin.ensures.count in
    omega (arith, many, one, two, begun)

pub take_window-requires-clause-few : goal.take_window-requires-clause-few
take_window-requires-clause-few c =
    let few = c.requires.stands.2.few in
    let begun = c.in_ok-begin.ensures.count in
    omega (arith, few, begun)

pub take_window-requires-clause-least : goal.take_window-requires-clause-least
take_window-requires-clause-least c =
    let shares = c.args.shares.now in
    (least (map left_of shares) (all_rise shares c.requires.sound) c.args.number c.requires.next).all

pub close_window-requires : goal.close_window-requires
close_window-requires c =
    begun_isnt_between c.take_window.new.many.phase c.args.number (c.in_ok-take_window.ensures.taken.phase ∙ c.in_ok-begin.ensures.begun)

pub block-requires : goal.block-requires
block-requires c =
    let a = c.args.self.now in
    let shares = c.args.shares.now in
    let number = c.args.number in
    let captures = map (in_window number) (map left_of shares) in
    let rest = windows_of (map (after_window number) (map left_of shares)) in
    let k : WasClosed a number captures c.close_window.new.self c.in_ok-answers.answers =
    record {
      begun = c.begin.new.self;
      taken = c.take_window.new.many;
      begins = c.in_ok-begin.ensures.work;
      phase = c.in_ok-begin.ensures.begun;
      begun_count = c.in_ok-begin.ensures.count;
      begun_queries = c.in_ok-begin.ensures.queries;
      came = c.in_ok-take_window.ensures.taken;
      widths = c.in_ok-take_window.ensures.widths;
      closes = c.in_ok-answers.ensures.answers;
      ends = c.in_ok-answers.ensures.window;
      empties = c.in_ok-answers.ensures.between;
      between = c.in_ok-answers.ensures.phase;
      last = c.in_ok-answers.ensures.last;
      count = c.in_ok-answers.ensures.count;
      queries = c.in_ok-answers.ensures.queries;
    } in
    let s = c.requires.stands in
    answers_fit a s.0 s.1 rest number captures s.2 (next_stands shares number s.0 s.1 c.requires.sound c.requires.next s.3) k

pub returns-clause-text : goal.returns-clause-text
returns-clause-text c =
    let a = c.args.self.now in
    let shares = c.args.shares.now in
    let number = c.args.number in
    let captures = map (in_window number) (map left_of shares) in
    let rest = windows_of (map (after_window number) (map left_of shares)) in
    let k : WasClosed a number captures c.close_window.new.self c.in_ok-answers.answers =
    record {
      begun = c.begin.new.self;
      taken = c.take_window.new.many;
      begins = c.in_ok-begin.ensures.work;
      phase = c.in_ok-begin.ensures.begun;
      begun_count = c.in_ok-begin.ensures.count;
      begun_queries = c.in_ok-begin.ensures.queries;
      came = c.in_ok-take_window.ensures.taken;
      widths = c.in_ok-take_window.ensures.widths;
      closes = c.in_ok-answers.ensures.answers;
      ends = c.in_ok-answers.ensures.window;
      empties = c.in_ok-answers.ensures.between;
      between = c.in_ok-answers.ensures.phase;
      last = c.in_ok-answers.ensures.last;
      count = c.in_ok-answers.ensures.count;
      queries = c.in_ok-answers.ensures.queries;
    } in
    let answers = c.in_ok-answers.answers in
    ok_weaker (λ (text : List ℕ). text ≡ block_text a.typed.queries answers true)
    (λ (text : List ℕ). (all done : List Shared) → IsAfter a all done → all ≡ done ++ windows_in shares → text ≡ block_text a.typed.queries (answers_in (plan_of a) all (number, captures)) true)
    c.block.result
    (λ text is all done h parts. is ∙ ap (λ (x : Answers). block_text a.typed.queries x true)
    (answers_right a all done rest number captures h (next_stands shares number all done c.requires.sound c.requires.next parts) k)) c.block.ensures

pub returns-clause-answered : goal.returns-clause-answered
returns-clause-answered c =
    let a = c.args.self.now in
    let shares = c.args.shares.now in
    let number = c.args.number in
    let captures = map (in_window number) (map left_of shares) in
    let rest = windows_of (map (after_window number) (map left_of shares)) in
    let k : WasClosed a number captures c.close_window.new.self c.in_ok-answers.answers =
    record {
      begun = c.begin.new.self;
      taken = c.take_window.new.many;
      begins = c.in_ok-begin.ensures.work;
      phase = c.in_ok-begin.ensures.begun;
      begun_count = c.in_ok-begin.ensures.count;
      begun_queries = c.in_ok-begin.ensures.queries;
      came = c.in_ok-take_window.ensures.taken;
      widths = c.in_ok-take_window.ensures.widths;
      closes = c.in_ok-answers.ensures.answers;
      ends = c.in_ok-answers.ensures.window;
      empties = c.in_ok-answers.ensures.between;
      between = c.in_ok-answers.ensures.phase;
      last = c.in_ok-answers.ensures.last;
      count = c.in_ok-answers.ensures.count;
      queries = c.in_ok-answers.ensures.queries;
    } in
    on_ok c.block.result
    (λ all done h parts. window_over a all done rest number captures h (next_stands shares number all done c.requires.sound c.requires.next parts) k _ c.in_ok-self.ensures)
