use Rattle.std.proofs.Common.{List, ℕ, ◌∷◌, ap, arith, sym, ◌∙◌}
use Rattle.std.proofs.lemmas.List.{drop-map, length-map}
use Rattle.std.specs.String.{string_bytes}
use Rattle.sn_cli.specs.Words.{texts}
use Rattle.sn_command.specs.Desks.{world}
use Rattle.sn_command.specs.Runs.{WorksFrom}
use Rattle.sn_command_many.specs.Several.{Several}
use Rattle.sn_top.proofs.TopLemmas.{many_words, of_captures}
use Rattle.sn_top.proofs.top.work_many.Goals as goal

pub split_at-requires : goal.split_at-requires
split_at-requires g c =
    let least = (many_words (texts c.args.given.now) c.requires.0 c.requires.1).least in
    let same = length-map c.args.given.now string_bytes in
    omega (arith, least, same)

pub many-requires : goal.many-requires
many-requires g c =
    let most = (many_words (texts c.args.given.now) c.requires.0 c.requires.1).most in
    let same = length-map c.args.given.now string_bytes in
    let following = c.split_at.ensures.back_len in
    omega (arith, most, same, following)

pub returns : goal.returns
returns g c =
    of_captures (λ (switch queries plan : List ℕ) (captures : List (List ℕ)).
    WorksFrom 2 (queries ∷ switch ∷ plan ∷ captures) (Several switch queries plan captures) (world g.I.Inputs g.O.Sink c.args.desk.now) c.many.result (world g.I.Inputs g.O.Sink c.many.new.desk))
    c.word-switch.ensures c.word-queries.ensures c.word-plan.ensures (ap texts c.split_at.ensures.back ∙ sym (drop-map string_bytes 4 c.args.given.now)) c.many.ensures
