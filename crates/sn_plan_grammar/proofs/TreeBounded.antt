-- A tree text is read to its end or to a fault of a token that can't stand there: it has no limit with a fault of its own.
use Rattle.std.proofs.Common.{Bool, true, false, refl}
use Rattle.std.specs.Prelude.{codes}
use Rattle.sn_text_rules.specs.declared.Flaw.{Flaw}
use Rattle.sn_text_rules.specs.declared.Flaw.TheVariants.{Lex, Expected}
use Rattle.sn_text_rules.specs.Words.{is_word, any_number}
use Rattle.sn_text_rules.proofs.Bounded.{Flaws, Bounded, Whole, number_in_bounded, keyword_bounded, sign_bounded, pair_whole, renamed_bounded, after_bounded, before_bounded, either_bounded, many_bounded, the_end_whole, after_whole, before_whole}
use Rattle.sn_plan_grammar.specs.TreeGrammar.{to_node, from_node, node_rule, nodes_rule, tree_rule}
use Rattle.sn_plan_grammar.proofs.TreeGoods.{nodes_alike}

abbrev of_tree : Flaw → Bool
of_tree Lex = true
of_tree Expected = true
of_tree _ = false

abbrev pub flaws : Flaws
flaws = record { ok = of_tree; lex = refl; expected = refl }

any_bounded : Bounded flaws any_number
any_bounded = number_in_bounded flaws 0 18446744073709551615

node_bounded : Bounded flaws node_rule
unfolding node_rule
node_bounded = renamed_bounded to_node from_node (either_bounded (is_word (codes "X")) (keyword_bounded flaws (codes "X"))
    (either_bounded (is_word (codes "E")) (after_bounded (keyword_bounded flaws (codes "E")) any_bounded)
    (either_bounded (is_word (codes "B")) (after_bounded (keyword_bounded flaws (codes "B")) any_bounded) (after_bounded (keyword_bounded flaws (codes "P")) any_bounded))))

nodes_bounded : Bounded flaws nodes_rule
unfolding nodes_rule
nodes_bounded = many_bounded nodes_alike (λ seen. tt) (λ seen. node_bounded)

pub tree_whole : Whole flaws tree_rule
unfolding tree_rule
tree_whole = after_whole (keyword_bounded flaws (codes "cost")) (pair_whole (before_bounded any_bounded (sign_bounded flaws 2))
    (after_whole (keyword_bounded flaws (codes "tree")) (before_whole (before_bounded nodes_bounded (keyword_bounded flaws (codes "done"))) (the_end_whole flaws))))
