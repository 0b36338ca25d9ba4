-- Tokens of the tree text that are read without a fault begin an accepted one.
use Rattle.std.proofs.Common.{refl, arith}
use Rattle.std.specs.Prelude.{codes}
use Rattle.sn_text_rules.specs.Words.{is_word, any_number}
use Rattle.sn_text_rules.proofs.Starts.{Able, Starting, starting, pair_able, renamed_able, either_able, keyword_able, sign_able, end_able, number_in_able, before_able, after_word_able, kept_steps, many_able}
use Rattle.sn_text_rules.proofs.Words.{before_sign}
use Rattle.sn_plan_grammar.specs.TreeGrammar.{to_node, from_node, node_rule, nodes_rule, tree_rule}
use Rattle.sn_plan_grammar.proofs.TreeGoods.{any_good, back, nodes_alike, nodes_good, closed_good}

any_able : Able any_number
any_able = number_in_able 0 18446744073709551615 (omega arith)

node_able : Able node_rule
unfolding node_rule
node_able =
    let bound = either_able (is_word (codes "B")) (after_word_able (codes "B") any_able) (after_word_able (codes "P") any_able) in
    let expand = either_able (is_word (codes "E")) (after_word_able (codes "E") any_able) bound in
    renamed_able to_node from_node back (either_able (is_word (codes "X")) (keyword_able (codes "X")) expand)

nodes_able : Able nodes_rule
unfolding nodes_rule
nodes_able = many_able nodes_alike (λ seen e. kept_steps node_able.keeps)

tree_able : Able tree_rule
unfolding tree_rule
tree_able =
    let body = before_able closed_good (before_able nodes_good nodes_able (keyword_able (codes "done"))) end_able in
    after_word_able (codes "cost") (pair_able (before_sign 2 any_good (λ t us e. refl)) (before_able any_good any_able (sign_able 2)) (after_word_able (codes "tree") body))

pub tree_starts : Starting tree_rule
tree_starts = starting tree_able
