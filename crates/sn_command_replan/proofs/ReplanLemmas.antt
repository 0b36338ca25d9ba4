-- The line of the first epoch, over plain values.
use Rattle.std.proofs.Common.{◌≡◌, ℕ, List, [], ◌∷◌, ◌++◌, Result, ap, sym, subst, arith}
use Rattle.std.proofs.lemmas.Fmt.{decimal_digit}
use Rattle.std.specs.Prelude.{codes}
use Rattle.sn_command.specs.declared.refusal.Refusal.{Refusal}
use Rattle.sn_command.specs.Runs.{WorksFrom}
use Rattle.sn_command.specs.Worlds.{World}
use Rattle.sn_command_live.specs.Live.{CertifiesAfter, Searched}
use Rattle.sn_command_replan.specs.Replan.{epoch_line}

abbrev first_text : List ℕ
first_text = codes "epoch 0\n"

first_line : first_text ≡ epoch_line 0
first_line = sym (ap (λ (digits : List ℕ). codes "epoch " ++ digits ++ 10 ∷ []) (decimal_digit 0 (omega arith)))

pub after_line : {names : List (List ℕ)} {before now : World} (switch queries train : List ℕ) (nodes : ℕ) (answer : Result Searched Refusal) → WorksFrom 2 names (CertifiesAfter first_text switch queries train nodes) before answer now
    → WorksFrom 2 names (CertifiesAfter (epoch_line 0) switch queries train nodes) before answer now
after_line {names} {before} {now} switch queries train nodes answer w = subst (λ (line : List ℕ). WorksFrom 2 names (CertifiesAfter line switch queries train nodes) before answer now) first_line w
