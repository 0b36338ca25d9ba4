use Rattle.sn_engine_split.proofs.Queries.{value_bags}
use Rattle.sn_types.specs.Typed.{query_at}
use Rattle.sn_engine_split.specs.Opened.{left_in}
use Rattle.sn_engine_split.proofs.Whole.{left_bag, left_of_branch}
use Rattle.sn_engine_split.proofs.dropped.values_of_what_is_left_keep_bags.Goals as goal

pub returns : goal.returns
returns c = λ window q level queries ps left others_left right others_right t lt of bag of' bag'.
    let query = query_at queries q in
    value_bags window queries q level (left_in query 0 ps left) (left_in query 0 ps others_left) (left_in query 1 ps right) (left_in query 1 ps others_right) t lt
    (left_of_branch queries q 0 ps left of) (left_bag query 0 ps left others_left bag) (left_of_branch queries q 1 ps right of') (left_bag query 1 ps right others_right bag')
