-- The cost and the tree of a text.
use Rattle.std.proofs.Common.{◌≡◌, ℕ, true, List, [], sym, ap, subst, ◌∙◌}
use Rattle.sn_text_rules.specs.declared.Flaw.{Flaw}
use Rattle.sn_text_rules.specs.declared.Flaw.TheVariants as kinds
use Rattle.sn_text_rules.specs.Tokens.{Tok, Read, got, fails, first_line}
use Rattle.sn_text_rules.specs.Rules.{kept, FirstFault}
use Rattle.sn_text_rules.proofs.Faults.{found_of, only_of, none_of, fault_of as first_fault}
use Rattle.sn_text_rules.proofs.Bounded.{Ended, whole_ok}
use Rattle.sn_text.specs.Lexing.{left}
use Rattle.sn_text.specs.declared.stop.Stop.{Stop}
use Rattle.sn_text.specs.declared.stop.Stop.TheVariants as stops
use Rattle.sn_text.specs.Reading.{Halts}
use Rattle.sn_tree_space.specs.declared.node.Node.{Node}
use Rattle.sn_plan_grammar.specs.TreeGrammar.{tree_rule}
use Rattle.sn_plan_grammar.proofs.TreeGoods.{tree_good, ends}
use Rattle.sn_plan_grammar.proofs.TreeStarts.{tree_starts}
use Rattle.sn_plan_grammar.proofs.TreeBounded.{flaws, tree_whole}
use Rattle.sn_tree_text.specs.declared.fault.TextFault.{TextFault}
use Rattle.sn_tree_text.specs.declared.fault.TextFault.TheVariants as faults
use Rattle.sn_tree_text.specs.Texts.{StandsFor, IsFault, fault_of, Answers}

abbrev pub both : ℕ → List Node → ℕ × List Node
both cost nodes = (cost, nodes)

here : (ts ls : List Tok) (r : Read (ℕ × List Node)) → ls ≡ ts → tree_rule.read kept ls ≡ r → tree_rule.read kept ts ≡ r
here ts ls r h e = ap (tree_rule.read kept) (sym h) ∙ e

pub found_so : (ts ls : List Tok) (cost : ℕ) (nodes : List Node) → ls ≡ ts → tree_rule.read kept ls ≡ got (both cost nodes) [] → StandsFor ts cost nodes
found_so ts ls cost nodes h e = found_of tree_rule tree_good ts (both cost nodes) (here ts ls (got (both cost nodes) []) h e)

pub only_so : (ts ls : List Tok) (cost other : ℕ) (nodes more : List Node) → ls ≡ ts → tree_rule.read kept ls ≡ got (both cost nodes) [] → StandsFor ts other more → (cost ≡ other) × (nodes ≡ more)
only_so ts ls cost other nodes more h e s =
    let k = only_of tree_rule tree_good ends ts (both cost nodes) (both other more) (here ts ls (got (both cost nodes) []) h e) s in
    (ap (λ (x : ℕ × List Node). x.0) k, ap (λ (x : ℕ × List Node). x.1) k)

-- a first fault of the format is the text's, under its name
pub shown : (ts : List Tok) (x : Flaw) (line column : ℕ) → flaws.ok x ≡ true → FirstFault tree_rule ts x line column → IsFault ts (fault_of x line)
shown ts kinds.Lex line column o f = (column, f)
shown ts kinds.Expected line column o f = (column, f)
shown ts kinds.TooMany line column o f = absurd cc
shown ts kinds.Range line column o f = absurd cc
shown ts kinds.Twice line column o f = absurd cc
shown ts kinds.Missing line column o f = absurd cc

-- where reading stops, the answer is the first fault, and the tokens stand for no tree, unless memory ran out
pub fault_so : (ts ls : List Tok) (e : Stop) (f : TextFault) → Ended ts → ls ≡ ts → Halts e (tree_rule.read kept ls) → Answers e f → IsFault ts f
fault_so ts ls stops.NoMemory f d g h k = subst (λ (s : TextFault). IsFault ts s) (sym k) tt
fault_so ts ls (stops.Fault x l) f d g h k =
    let e = here ts ls (fails x (left l)) g h in
    let s = tree_good.stands kept ts (left l) x e in
    let ok = whole_ok tree_whole ts (left l) x d e in
    subst (λ (r : TextFault). IsFault ts r) (sym (k ∙ ap (λ (us : List Tok). fault_of x (first_line us)) s.head)) (shown ts x s.at.line s.at.column ok (first_fault tree_rule tree_good tree_starts ends ts (left l) s.rest s.at x e s.head))

pub none_so : (ts ls : List Tok) (e : Stop) (f : TextFault) (cost : ℕ) (nodes : List Node) → ls ≡ ts → Halts e (tree_rule.read kept ls) → Answers e f → StandsFor ts cost nodes → f ≡ faults.Memory
none_so ts ls stops.NoMemory f cost nodes g h k s = k
none_so ts ls (stops.Fault x l) f cost nodes g h k s = absurd (none_of tree_rule tree_good ends ts (left l) x (both cost nodes) (here ts ls (fails x (left l)) g h) s)
