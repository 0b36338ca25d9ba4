-- to be believed
-- The line of each refusal.
use Rattle.std.specs.Prelude.{ℕ, List, [], ◌∷◌, ◌++◌, codes}
use Rattle.std.specs.Fmt.{decimal}
use Rattle.sn_plan_fit.specs.declared.misfit.MisfitKind.{MisfitKind}
use Rattle.sn_plan_fit.specs.declared.misfit.MisfitKind.TheVariants as misfits
use Rattle.sn_pcap.specs.declared.header.HeadFault.{HeadFault}
use Rattle.sn_pcap.specs.declared.header.HeadFault.TheVariants as heads
use Rattle.sn_types_read.specs.declared.fault.Kind.{Kind}
use Rattle.sn_types_read.specs.declared.fault.Kind.TheVariants as kinds
use Rattle.sn_command.specs.declared.fault.ReportKind.{ReportKind}
use Rattle.sn_command.specs.declared.fault.ReportKind.TheVariants as reports
use Rattle.sn_command.specs.declared.fault.TextKind.{TextKind}
use Rattle.sn_command.specs.declared.fault.TextKind.TheVariants as texts
use Rattle.sn_command.specs.declared.fault.TreeKind.{TreeKind}
use Rattle.sn_command.specs.declared.fault.TreeKind.TheVariants as trees
use Rattle.sn_command.specs.declared.fault.Fault.{Fault}
use Rattle.sn_command.specs.declared.fault.Fault.TheVariants.{Queries, Switch, Head, Cut, Bad, HeadOf, CutOf, BadOf}
use Rattle.sn_command.specs.declared.fault.Fault.TheVariants.{Plan, Misfit, Tree, Unshown, Budget, Reports, TooLarge}
use Rattle.sn_command.specs.declared.refusal.Refusal.{Refusal}
use Rattle.sn_command.specs.declared.refusal.Refusal.TheVariants.{Memory, Usage, Missing, ReadFault, WriteFault, Refused}

-- the name of what is wrong with a query file
abbrev pub query_kind : Kind → List ℕ
query_kind kinds.Lex = codes "Lex"
query_kind kinds.Expected = codes "Expected"
query_kind kinds.TooMany = codes "TooMany"
query_kind kinds.Twice = codes "Twice"
query_kind kinds.UnknownField = codes "UnknownField"
query_kind kinds.UnknownColumn = codes "UnknownColumn"
query_kind kinds.TooWide = codes "TooWide"
query_kind kinds.NoMap = codes "NoMap"
query_kind kinds.RefineLost = codes "RefineLost"
query_kind kinds.RefineFilter = codes "RefineFilter"
query_kind kinds.Levels = codes "Levels"
query_kind kinds.JoinKeys = codes "JoinKeys"

-- the name of what is wrong with a switch, plan or tree text
abbrev pub text_kind : TextKind → List ℕ
text_kind texts.Lex = codes "Lex"
text_kind texts.Expected = codes "Expected"
text_kind texts.Range = codes "Range"
text_kind texts.Twice = codes "Twice"
text_kind texts.Missing = codes "Missing"

-- the name of the check that a plan fails
abbrev pub misfit_kind : MisfitKind → List ℕ
misfit_kind misfits.Path = codes "Path"
misfit_kind misfits.Cut = codes "Cut"
misfit_kind misfits.Slots = codes "Slots"
misfit_kind misfits.Order = codes "Order"
misfit_kind misfits.Stage = codes "Stage"
misfit_kind misfits.Actions = codes "Actions"
misfit_kind misfits.Bits = codes "Bits"
misfit_kind misfits.Meta = codes "Meta"

-- the name of what a tree lacks
abbrev pub tree_kind : TreeKind → List ℕ
tree_kind trees.Cost = codes "Cost"
tree_kind trees.Shape = codes "Shape"
tree_kind trees.Bound = codes "Bound"
tree_kind trees.NotBroken = codes "NotBroken"
tree_kind trees.NoPlan = codes "NoPlan"

-- the name of what is wrong with report frames
abbrev pub report_kind : ReportKind → List ℕ
report_kind reports.Bad = codes "Bad"
report_kind reports.Cut = codes "Cut"
report_kind reports.Stranger = codes "Stranger"
report_kind reports.Width = codes "Width"
report_kind reports.AfterEnd = codes "AfterEnd"
report_kind reports.Window = codes "Window"
report_kind reports.Unfinished = codes "Unfinished"

-- what is said of a refused header
abbrev pub head_words : HeadFault → List ℕ
head_words heads.Short = codes "sonata: capture Short byte 0"
head_words heads.Magic = codes "sonata: capture Magic byte 0"
head_words heads.Version = codes "sonata: capture Version byte 4"
head_words heads.Link = codes "sonata: capture Link byte 20"

abbrev pub fault_line : Fault → List ℕ
fault_line (Queries fault) = codes "sonata: queries " ++ query_kind fault.kind ++ codes " line " ++ decimal fault.line ++ 10 ∷ []
fault_line (Switch fault) = codes "sonata: switch " ++ text_kind fault.kind ++ codes " line " ++ decimal fault.line ++ 10 ∷ []
fault_line (Head fault) = head_words fault ++ 10 ∷ []
fault_line (Cut at) = codes "sonata: capture Cut byte " ++ decimal at ++ 10 ∷ []
fault_line (Bad at) = codes "sonata: capture Bad byte " ++ decimal at ++ 10 ∷ []
fault_line (HeadOf fault file) = head_words fault ++ codes " file " ++ decimal file ++ 10 ∷ []
fault_line (CutOf at file) = codes "sonata: capture Cut byte " ++ decimal at ++ codes " file " ++ decimal file ++ 10 ∷ []
fault_line (BadOf at file) = codes "sonata: capture Bad byte " ++ decimal at ++ codes " file " ++ decimal file ++ 10 ∷ []
fault_line (Plan fault) = codes "sonata: plan " ++ text_kind fault.kind ++ codes " line " ++ decimal fault.line ++ 10 ∷ []
fault_line (Misfit misfit) = (codes "sonata: plan " ++ misfit_kind misfit.kind ++ codes " want ") ++
    (decimal misfit.want ++ codes " got " ++ decimal misfit.got ++ 10 ∷ [])
fault_line (Tree fault) = codes "sonata: tree " ++ text_kind fault.kind ++ codes " line " ++ decimal fault.line ++ 10 ∷ []
fault_line (Unshown flaw) = (codes "sonata: tree " ++ tree_kind flaw.kind ++ codes " node " ++ decimal flaw.node ++ codes " want ") ++
    (decimal flaw.want ++ codes " got " ++ decimal flaw.got ++ 10 ∷ [])
fault_line (Budget spent) = codes "sonata: budget " ++ decimal spent.nodes ++ codes " bound " ++ decimal spent.bound ++ 10 ∷ []
fault_line (Reports fault) = codes "sonata: reports " ++ report_kind fault.kind ++ codes " byte " ++ decimal fault.at ++ 10 ∷ []
fault_line TooLarge = codes "sonata: too large\n"

abbrev pub line_of : Refusal → List ℕ
line_of Memory = codes "sonata: memory\n"
line_of Usage = codes "sonata: usage\n"
line_of Missing = codes "sonata: read fault\n"
line_of ReadFault = codes "sonata: read fault\n"
line_of WriteFault = codes "sonata: write fault\n"
line_of (Refused fault) = fault_line fault
