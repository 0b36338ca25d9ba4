use Rattle.std.proofs.Common.{◌≡◌, Some, true, false, ap, sym, ◌∙◌}
use Rattle.std.specs.String.{string_bytes}
use Rattle.sn_cli.specs.Reading.{is_flag, flag_of, numbered_of}
use Rattle.sn_cli.proofs.GrammarLemmas.{flag_read, number_read}
use Rattle.sn_cli.proofs.options.+read_options.Goals as goal

pub returns-in_ok-flag : goal.returns-in_ok-flag
returns-in_ok-flag n c =
    let word = string_bytes c.in-Some.word.now in
    let given = c.args.given in
    let is : is_flag word ≡ true = sym (ap is_flag c.as_str-2.ensures.value) ∙ sym c.is_flag.ensures ∙ c.if-is_flag.true in
    let found : flag_of word given ≡ Some c.in_ok-flag.field-0 = sym (ap (λ w. flag_of w given) c.as_str-then-is_flag.ensures.value) ∙ sym c.flag-then-is_flag.ensures ∙ c.in_ok-flag.was in
    c.read_options.ensures ∙ sym (flag_read given c.in_ok-flag.field-0 c.args.words.now c.in-Some.rest.now c.in-Some.word.now c.in-Some.ensures.cases.0 is found)

pub returns-in_ok-numbered : goal.returns-in_ok-numbered
returns-in_ok-numbered n c =
    let word = string_bytes c.in-Some.word.now in
    let next = string_bytes c.in-Some-split_first.following.now in
    let given = c.args.given in
    let isnt : is_flag word ≡ false = sym (ap is_flag c.as_str-2.ensures.value) ∙ sym c.is_flag.ensures ∙ c.if-is_flag.false in
    let found : numbered_of word next given ≡ Some c.in_ok-numbered.field-0 =
    sym (ap (λ w. numbered_of w next given) c.as_str-else-is_flag.ensures.value) ∙ sym (ap (λ w. numbered_of c.as_str-else-is_flag.result.now w given) c.as_str-else-is_flag-2.ensures.value) ∙ sym c.numbered.ensures ∙ c.in_ok-numbered.was in
    c.read_options-else-is_flag.ensures
    ∙ sym (number_read given c.in_ok-numbered.field-0 c.args.words.now c.in-Some.rest.now c.in-Some-split_first.after.now c.in-Some.word.now c.in-Some-split_first.following.now c.in-Some.ensures.cases.0 c.in-Some-split_first.ensures.cases.0 isnt found)
