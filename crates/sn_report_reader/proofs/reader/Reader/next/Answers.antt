use Rattle.std.proofs.Common.{◌≡◌, ◌<◌, ℕ, List, Option, length, refl, ap, subst, ◌∙◌, arith}
use Rattle.sn_io.specs.Counts.{ByName}
use Rattle.sn_io.specs.Inputs.{stated_file}
use Rattle.sn_report.specs.declared.decode.Decoded.TheVariants.{Bad, More, Whole}
use Rattle.sn_report.specs.Decoding.{Stands}
use Rattle.sn_report_reader.specs.Reading.{ReaderState, ending_of}
use Rattle.sn_report_reader.proofs.RestLemmas.{front_short}
use Rattle.sn_report_reader.proofs.StepLemmas.{follows_passed, held_none, not_end, step_bad, step_end, step_frame, step_past}
use Rattle.std.specs.FinMap.{get}
use Rattle.sn_report_reader.proofs.reader.Reader.next.Goals as goal

pub reading-init : goal.reading-init
reading-init g c = record {
  offset = refl;
  follows = c.requires.follows;
  unknown = held_none c.args.self.now.held (get (g.I.Inputs.faults c.args.files.now) c.args.name.now) c.requires.known;
  reported = refl;
  faults = record { others = λ other apart. refl; known = refl; later = omega arith };
}

pub read_on-requires : goal.read_on-requires
read_on-requires g c = subst (λ (xs : List ℕ). length xs < 136) c.held.ensures (front_short c.held.result.now c.in-More.ensures.stands)

pub returns-in-Whole-clause-step : goal.returns-in-Whole-clause-step
returns-in-Whole-clause-step g c =
    let before = c.reading.self in
    let stands = subst (λ (xs : List ℕ). Stands xs (Whole c.in-Whole.frame c.in-Whole.len)) c.held.ensures c.in-Whole.ensures.stands in
    step_frame (stated_file (g.I.Inputs.reported c.args.files.now) c.args.name.now) c.args.self.now before c.pass.new.self c.reading.invariant.offset c.reading.invariant.follows c.in-Whole.frame c.in-Whole.len stands (ap (λ (r : ReaderState). r.offset) c.pass.ensures.state)

pub returns-in-Whole-clause-follows : goal.returns-in-Whole-clause-follows
returns-in-Whole-clause-follows g c =
    let stands = subst (λ (xs : List ℕ). Stands xs (Whole c.in-Whole.frame c.in-Whole.len)) c.held.ensures c.in-Whole.ensures.stands in
    follows_passed (stated_file (g.I.Inputs.reported c.args.files.now) c.args.name.now) (stated_file (g.I.Inputs.reported c.reading.files) c.args.name.now) c.reading.self c.pass.new.self c.in-Whole.len
    (ap (λ (t : Option (ByName (List ℕ))). stated_file t c.args.name.now) c.reading.invariant.reported) c.reading.invariant.follows stands.0 c.pass.ensures.state

pub returns-in-Bad-clause-step : goal.returns-in-Bad-clause-step
returns-in-Bad-clause-step g c =
    let before = c.reading.self in
    let stands = subst (λ (xs : List ℕ). Stands xs (Bad c.in-Bad.place)) c.held.ensures c.in-Bad.ensures.stands in
    step_bad (stated_file (g.I.Inputs.reported c.args.files.now) c.args.name.now) c.args.self.now before before c.reading.invariant.offset c.reading.invariant.follows c.in-Bad.place c.byte_at.result stands c.byte_at.ensures

pub returns-in-End-clause-step : goal.returns-in-End-clause-step
returns-in-End-clause-step g c =
    let before = c.reading.self in
    let now = c.read_on.new.self in
    let stands = subst (λ (xs : List ℕ). Stands xs More) c.held.ensures c.in-More.ensures.stands in
    let same : now ≡ before = c.in_ok-read_on.ensures.same (not_end c.in_ok-read_on.field-0 c.in-End.is) in
    step_end (stated_file (g.I.Inputs.reported c.args.files.now) c.args.name.now) c.args.self.now before now c.reading.invariant.offset c.reading.invariant.follows (stated_file (g.I.Inputs.reported c.reading.files) c.args.name.now) c.in_ok-read_on.field-0
    (ap (λ (t : Option (ByName (List ℕ))). stated_file t c.args.name.now) c.reading.invariant.reported) stands c.in_ok-read_on.ensures.reached c.ending.result c.in-End.is (c.ending.ensures ∙ ap ending_of same)

pub returns-in-Past-clause-step : goal.returns-in-Past-clause-step
returns-in-Past-clause-step g c =
    let before = c.reading.self in
    let stands = subst (λ (xs : List ℕ). Stands xs More) c.held.ensures c.in-More.ensures.stands in
    step_past (stated_file (g.I.Inputs.reported c.args.files.now) c.args.name.now) c.args.self.now before c.read_on.new.self c.reading.invariant.offset c.reading.invariant.follows (stated_file (g.I.Inputs.reported c.reading.files) c.args.name.now) c.in_ok-read_on.field-0
    (ap (λ (t : Option (ByName (List ℕ))). stated_file t c.args.name.now) c.reading.invariant.reported) stands c.in_ok-read_on.ensures.reached c.in-Past.is
