use Rattle.std.proofs.Common.{◌≡◌, drop}
use Rattle.sn_cli.specs.Reading.{all_file_words}
use Rattle.sn_cli.specs.Words.{texts}
use Rattle.sn_cli.proofs.words.are_file_words.Given as goal

abbrev pub invariant-loop-word : goal.invariant-loop-word
invariant-loop-word l = all_file_words (texts (drop l.word-index l.words)) ≡ all_file_words (texts l.words)
