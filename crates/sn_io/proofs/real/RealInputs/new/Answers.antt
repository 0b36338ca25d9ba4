use Rattle.std.proofs.Common.{◌≤◌, ℕ, List, String, Global, length, map, is_some, ap, sym, ◌∙◌, arith}
use Rattle.std.specs.String.{string_bytes}
use Rattle.std.specs.FinMap.{get}
use Rattle.std.proofs.lemmas.List.{take_all}
use Rattle.sn_io.specs.Known.{Known, counts_of}
use Rattle.sn_io.proofs.Raised.{knows_is}
use Rattle.sn_io.proofs.real.RealInputs.new.Goals as goal

pub returns-clause-known : goal.returns-clause-known
returns-clause-known c name =
    let words = c.args.words.now in
    let shown : String Global → List ℕ × ℕ = λ w. (string_bytes w, 0) in
    let past : length words ≤ c.loop-word.word-index = omega arith in
    ap (λ (known : Known). is_some (get (counts_of known) name)) (c.loop-word.invariant ∙ ap (map shown) (take_all c.loop-word.word-index words past))
    ∙ sym (knows_is shown name words)
