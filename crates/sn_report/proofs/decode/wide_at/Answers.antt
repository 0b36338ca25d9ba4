use Rattle.std.proofs.Common.{◌≡◌, ◌+◌, ◌*◌, ◌^◌, take, drop, ap, ap₂, sym, ◌∙◌, arith}
use Rattle.std.specs.Int.{w64, from_be_bytes}
use Rattle.std.proofs.lemmas.List.{drop-drop}
use Rattle.sn_report.proofs.decode.wide_at.Goals as goal

pub returns : goal.returns
returns c =
    let at = c.args.at in
    let bytes = c.args.bytes.now in
    let following : drop (at + 8) bytes ≡ drop 8 (drop at bytes) = ap (λ n. drop n bytes) (omega arith) ∙ sym (drop-drop 8 at bytes) in
    ap₂ (λ a b. a * 2 ^ 64 + b) (c.from-upper.ensures ∙ c.word_at.ensures) (c.from-lower.ensures ∙ c.word_at-2.ensures ∙ ap (λ xs. from_be_bytes w64 (take 8 xs)) following)
