use Rattle.std.proofs.Common.{◌<◌, ◌+◌, ◌++◌, ◌∙◌, List, ℕ, arith, get_or, length, subst, sym, take}
use Rattle.std.proofs.lemmas.Grind.{drop_more_same}
use Rattle.std.proofs.lemmas.List.{drop-set-lt, take_all, take_more_set}
use Rattle.sn_ops_stream.specs.Streams.{HaveTaken, QueryHasTakenMore}
use Rattle.sn_ops_stream.specs.declared.query.QueryStream.{QueryStream}
use Rattle.sn_ops_stream.proofs.QueryLemmas.{at_hand, count, one_more}
use Rattle.sn_ops_stream.proofs.queries.take_all.Goals as goal

pub take-requires-clause-taking : goal.take-requires-clause-taking
take-requires-clause-taking c =
    let l = c.loop-stream in
    let given = c.requires.taking in
    let within : l.stream-index < length l.streams = let test = c.loop-stream-test.true in let same = l.auto.streams in omega (arith, test, same) in
    let here = at_hand given.0 given.1 c.args.streams.now l.streams l.stream-index c.stream-item.result given.2 within l.invariant.rest in
    (given.0, given.1, here.taken)

pub loop-stream-preserved : goal.loop-stream-preserved
loop-stream-preserved c =
    let l = c.loop-stream in
    let i = l.stream-index in
    let more = c.args.tuples.now in
    let within : i < length l.streams = let test = c.loop-stream-test.true in let same = l.auto.streams in omega (arith, test, same) in
    let stream = get_or l.streams i c.stream-item.result in
    let gave : QueryHasTakenMore more stream c.take.new.self = c.in_ok-take.ensures.taken in
    record {
      given = λ queries tuples h.
          let here = at_hand queries tuples c.args.streams.now l.streams i c.stream-item.result h within l.invariant.rest in
          subst (HaveTaken queries (tuples ++ more) 0 (i + 1)) (sym (take_more_set l.streams i c.take.new.self within))
          (one_more queries (tuples ++ more) 0 i (take i l.streams) c.take.new.self (l.invariant.given queries tuples h) (gave.same_query ∙ here.number_is) (gave.same_level ∙ here.level_is) (gave.taken queries tuples here.taken));
      rest = drop-set-lt (i + 1) l.streams i c.take.new.self (omega arith) ∙ drop_more_same l.streams c.args.streams.now i l.invariant.rest;
      asked = c.in_ok-take.ensures.asked;
    }

pub returns : goal.returns
returns c queries tuples h =
    let l = c.loop-stream in
    let i = l.stream-index in
    let more = tuples ++ c.args.tuples.now in
    let end = c.loop-stream-test.false in
    let same = l.auto.streams in
    let given : HaveTaken queries more 0 i l.streams =
    subst (λ (streams : List QueryStream). HaveTaken queries more 0 i streams) (take_all i l.streams (omega (arith, end, same))) (l.invariant.given queries tuples h) in
    let counted = count queries more 0 i l.streams given in
    let all = count queries tuples 0 (length queries) c.args.streams.now h in
    subst (λ (stop : ℕ). HaveTaken queries more 0 stop l.streams) (omega (arith, counted, all, same)) given
