use Rattle.std.proofs.Common.{◌/◌, ◌<◌, ◌&&◌, length, ap, arith}
use Rattle.sn_cost_tally.proofs.Bits.{mark_looked, mark_seen, word_there}
use Rattle.sn_cost_tally.proofs.marks.Marks.take.Goals as goal

pub index_mut-word-requires : goal.index_mut-word-requires
index_mut-word-requires c =
    let words = c.self.inside.words in
    omega (arith, word_there c.self.inside.count words.items c.args.self.now c.args.place c.self.invariant c.self.view_is c.requires, words.ok.0)

pub returns-clause-still : goal.returns-clause-still
returns-clause-still c =
    let words = c.self.inside.words.items in
    let word : c.args.place / 64 < length words = word_there c.self.inside.count words c.args.self.now c.args.place c.self.invariant c.self.view_is c.requires in
    let seen = mark_seen c.self.inside.count words c.args.self.now c.args.place c.index_mut-word.result.now c.self.view_is c.requires word c.index_mut-word.ensures.value in
    ap (λ b. c.args.looking && b) seen

pub returns-clause-taken : goal.returns-clause-taken
returns-clause-taken c =
    mark_looked c.self.inside.count c.self.inside.words.items c.args.self.now c.args.place c.index_mut-word.result.now c.args.looking c.from.result c.from.ensures c.self.invariant c.self.view_is c.requires c.index_mut-word.ensures.value
