use Rattle.std.proofs.Common.{List, ℕ, [], ◌∷◌, subst}
use Rattle.sn_cli.specs.Grammar.{Spells}
use Rattle.sn_cli.specs.Words.{texts}
use Rattle.sn_command_check.specs.Check.{Check}
use Rattle.sn_command_detect.specs.Detects.{Detects}
use Rattle.sn_command_emit.specs.Emit.{Emit}
use Rattle.sn_command_finish.specs.Finish.{Finish}
use Rattle.sn_command_live.specs.Live.{Plan}
use Rattle.sn_command_priced.specs.PlanPrices.{PlansByPrices}
use Rattle.sn_command_replan.specs.Replan.{Replans}
use Rattle.sn_command_run.specs.Run.{Run}
use Rattle.sn_command.specs.Desks.{world}
use Rattle.sn_command.specs.Runs.{WorksFrom}
use Rattle.sn_top.specs.Plain.{Plain}
use Rattle.sn_top.proofs.TopLemmas.{of_two, of_three, of_four}
use Rattle.sn_top.proofs.top.work.Goals as goal

pub returns-in-Plain : goal.returns-in-Plain
returns-in-Plain g c =
    rw c.in-Plain.is (of_two (λ (queries capture : List ℕ). WorksFrom 2 (queries ∷ capture ∷ []) (Plain queries capture) (world g.I.Inputs g.O.Sink c.args.desk.now) c.plain.result (world g.I.Inputs g.O.Sink c.plain.new.desk)) c.word-first.ensures c.word-second.ensures c.plain.ensures)

pub returns-in-Plan : goal.returns-in-Plan
returns-in-Plan g c =
    rw c.in-Plan.is (of_three (λ (switch queries train : List ℕ). WorksFrom 2 (queries ∷ switch ∷ train ∷ []) (Plan switch queries train c.in-Plan.nodes) (world g.I.Inputs g.O.Sink c.args.desk.now) c.plan.result (world g.I.Inputs g.O.Sink c.plan.new.desk)) c.word-first.ensures c.word-second.ensures c.word-third.ensures c.plan.ensures)

pub returns-in-PlanPrices : goal.returns-in-PlanPrices
returns-in-PlanPrices g c =
    rw c.in-PlanPrices.is (of_three (λ (switch queries train : List ℕ). PlansByPrices switch queries train (world g.I.Inputs g.O.Sink c.args.desk.now) c.plan_by_prices.result (world g.I.Inputs g.O.Sink c.plan_by_prices.new.desk)) c.word-first.ensures c.word-second.ensures c.word-third.ensures c.plan_by_prices.ensures)

pub returns-in-Run : goal.returns-in-Run
returns-in-Run g c =
    rw c.in-Run.is (of_four (λ (switch queries plan capture : List ℕ). WorksFrom 2 (queries ∷ switch ∷ plan ∷ capture ∷ []) (Run g.M.Machine.reported c.in-Run.csv switch queries plan capture) (world g.I.Inputs g.O.Sink c.args.desk.now) c.run.result (world g.I.Inputs g.O.Sink c.run.new.desk)) c.word-first.ensures c.word-second.ensures c.word-third.ensures c.word-fourth.ensures c.run.ensures)

pub returns-in-Emit : goal.returns-in-Emit
returns-in-Emit g c =
    rw c.in-Emit.is (of_four (λ (switch queries plan capture : List ℕ). WorksFrom 2 (queries ∷ switch ∷ plan ∷ capture ∷ []) (Emit switch queries plan capture) (world g.I.Inputs g.O.Sink c.args.desk.now) c.emit.result (world g.I.Inputs g.O.Sink c.emit.new.desk)) c.word-first.ensures c.word-second.ensures c.word-third.ensures c.word-fourth.ensures c.emit.ensures)

pub returns-in-Finish : goal.returns-in-Finish
returns-in-Finish g c =
    rw c.in-Finish.is (of_three (λ (queries plan reports : List ℕ). WorksFrom 2 (queries ∷ plan ∷ reports ∷ []) (Finish queries plan reports) (world g.I.Inputs g.O.Sink c.args.desk.now) c.finish.result (world g.I.Inputs g.O.Sink c.finish.new.desk)) c.word-first.ensures c.word-second.ensures c.word-third.ensures c.finish.ensures)

pub returns-in-Check : goal.returns-in-Check
returns-in-Check g c =
    rw c.in-Check.is (of_four (λ (switch queries train plantree : List ℕ). WorksFrom 2 (queries ∷ switch ∷ train ∷ plantree ∷ []) (Check switch queries train plantree) (world g.I.Inputs g.O.Sink c.args.desk.now) c.check.result (world g.I.Inputs g.O.Sink c.check.new.desk)) c.word-first.ensures c.word-second.ensures c.word-third.ensures c.word-fourth.ensures c.check.ensures)

pub returns-in-Detect : goal.returns-in-Detect
returns-in-Detect g c =
    rw c.in-Detect.is (of_three (λ (queries plan capture : List ℕ). WorksFrom 2 (queries ∷ plan ∷ capture ∷ []) (Detects queries plan capture) (world g.I.Inputs g.O.Sink c.args.desk.now) c.detect.result (world g.I.Inputs g.O.Sink c.detect.new.desk)) c.word-first.ensures c.word-second.ensures c.word-third.ensures c.detect.ensures)

pub work_many-requires : goal.work_many-requires
work_many-requires g c = (c.in-Many.captures, subst (Spells (texts c.args.given.now)) c.in-Many.is c.requires)

pub returns-in-Many : goal.returns-in-Many
returns-in-Many g c = rw c.in-Many.is c.work_many.ensures

pub returns-in-Replan : goal.returns-in-Replan
returns-in-Replan g c =
    rw c.in-Replan.is (of_four (λ (switch queries train capture : List ℕ). WorksFrom 2 (queries ∷ switch ∷ train ∷ capture ∷ []) (Replans switch queries train capture c.in-Replan.most c.in-Replan.nodes) (world g.I.Inputs g.O.Sink c.args.desk.now) c.replan.result (world g.I.Inputs g.O.Sink c.replan.new.desk)) c.word-first.ensures c.word-second.ensures c.word-third.ensures c.word-fourth.ensures c.replan.ensures)

pub returns-in-Gen : goal.returns-in-Gen
returns-in-Gen g c = rw c.in-Gen.is c.generate.ensures

pub returns-in-Job : goal.returns-in-Job
returns-in-Job g c = rw c.in-Job.is c.job.ensures
