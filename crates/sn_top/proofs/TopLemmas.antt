-- The words and the work of a command, over plain values.
use Rattle.std.proofs.Common.{◌≡◌, ℕ, suc, ◌+◌, ◌≤◌, List, ◌∷◌, ◌++◌, append-nil, arith, length, Bool, true, false, Option, Some, None, Result, Err, refl, ap, subst, sym, ◌∙◌}
use Rattle.std.specs.Prelude.{codes}
use Rattle.sn_cli.specs.declared.command.Command.{Command}
use Rattle.sn_cli.specs.declared.command.Command.TheVariants as commands
use Rattle.sn_cli.specs.Grammar.{Spells, no_options}
use Rattle.sn_cli.specs.Reading.{command_of}
use Rattle.sn_cli.proofs.GrammarLemmas.{read_is_spelled, spelled_is_read}
use Rattle.sn_cli.proofs.NumberLemmas.{none_some}
use Rattle.sn_cli.proofs.OptionLemmas.{no_words}
use Rattle.sn_command.specs.declared.refusal.Refusal.{Refusal}
use Rattle.sn_command.specs.declared.refusal.Refusal.TheVariants.{Usage, WriteFault}
use Rattle.sn_command.specs.Outcomes.{Stage}
use Rattle.sn_command.specs.Runs.{WorksFrom}
use Rattle.sn_command.specs.Worlds.{World, OutRose, Follows}
use Rattle.sn_command_run.specs.Planned.{Telling, as_they_are}
use Rattle.sn_top.specs.Top.{IsLiveWork, IsWork}

-- what holds of the words that were passed holds of the words
pub of_two : (P : List ℕ → List ℕ → Type 0) {a b x y : List ℕ} → a ≡ x → b ≡ y → P a b → P x y
of_two P e f h = rw (← e, ← f) h

pub of_four : (P : List ℕ → List ℕ → List ℕ → List ℕ → Type 0) {a b c d x y z v : List ℕ} → a ≡ x → b ≡ y → c ≡ z → d ≡ v → P a b c d → P x y z v
of_four P e f g h here = rw (← e, ← f, ← g, ← h) here

pub of_three : (P : List ℕ → List ℕ → List ℕ → Type 0) {a b c x y z : List ℕ} → a ≡ x → b ≡ y → c ≡ z → P a b c → P x y z
of_three P e f g h = rw (← e, ← f, ← g) h

pub of_captures : (P : List ℕ → List ℕ → List ℕ → List (List ℕ) → Type 0) {a b c x y z : List ℕ} {d v : List (List ℕ)} → a ≡ x → b ≡ y → c ≡ z → d ≡ v → P a b c d → P x y z v
of_captures P e f g h here = rw (← e, ← f, ← g, ← h) here

-- the words spell a command or none
pub by_command : {G : Type 0} (words : List (List ℕ)) → ((command : Command) → Spells words command → G) → (((command : Command) → Spells words command → ⊥) → G) → G
by_command {G} words some none = of (command_of words) refl
  where
    of : (o : Option Command) → command_of words ≡ o → G
    of None e = none (λ command spells. none_some (sym e ∙ spelled_is_read words command spells))
    of (Some command) e = some command (read_is_spelled words command e)

-- the words of `many`: the command word, three texts, and the captures
pub record IsMany (words : List (List ℕ)) : Type 0 where
  pub least : 4 ≤ length words
  pub most : length words ≤ 12

pub many_words : (words : List (List ℕ)) (captures : ℕ) → Spells words (commands.Many captures) → IsMany words
many_words words captures s =
    let l = s.2 in
    let few : captures ≤ 8 = s.1 in
    let names : length l.names ≡ 3 + captures = l.as_many in
    let all : words ≡ codes "many" ∷ l.names =
    l.are ∙ ap (λ (ws : List (List ℕ)). codes "many" ∷ (l.names ++ ws)) (no_words l.following no_options l.options_are refl) ∙ ap (λ (ws : List (List ℕ)). codes "many" ∷ ws) (append-nil l.names) in
    let long : length words ≡ suc (length l.names) = ap length all in
    record { least = omega (arith, names, long); most = omega (arith, few, names, long) }

-- work that was begun
pub record Begun (before : World) (answer : Result (Unit {0}) Refusal) (now : World) : Type 0 where
  pub words : answer ≡ Err Usage → ⊥
  pub write_fault : answer ≡ Err WriteFault → OutRose before.out now.out
  pub follows : Follows before now

begun : {names : List (List ℕ)} {stage : Stage (Unit {0})} {before now : World} {answer : Result (Unit {0}) Refusal} → WorksFrom 2 names stage before answer now → Begun before answer now
begun w = record { words = w.runs.words; write_fault = w.runs.write_fault; follows = w.runs.follows }

-- the work of `live`, where answers are reported as they are
pub live_as_they_are : {reported : Telling} (nodes schedule : ℕ) (words : List (List ℕ)) {before now : World} {answer : Result (Unit {0}) Refusal} → reported ≡ as_they_are → IsWork reported (commands.Live nodes schedule false) words before answer now
    → IsLiveWork as_they_are nodes schedule false words before answer now
live_as_they_are nodes schedule words {before} {now} {answer} as_they w = subst (λ (t : Telling). IsLiveWork t nodes schedule false words before answer now) as_they w

by_live : (reported : Telling) (nodes schedule : ℕ) (trace : Bool) (words : List (List ℕ)) {before now : World} {answer : Result (Unit {0}) Refusal} → IsLiveWork reported nodes schedule trace words before answer now → Begun before answer now
by_live reported nodes schedule true words w = begun w
by_live reported nodes schedule false words w = begun w

-- the work of each command was begun
pub by_work : (reported : Telling) (command : Command) (words : List (List ℕ)) {before now : World} {answer : Result (Unit {0}) Refusal} → IsWork reported command words before answer now → Begun before answer now
by_work reported commands.Plain words w = begun w
by_work reported (commands.Plan nodes) words w = begun w
by_work reported (commands.PlanPrices nodes) words w = begun w.works
by_work reported (commands.Run csv) words w = begun w
by_work reported commands.Emit words w = begun w
by_work reported commands.Finish words w = begun w
by_work reported commands.Check words w = begun w
by_work reported (commands.Live nodes schedule trace) words w = by_live reported nodes schedule trace words w
by_work reported commands.Detect words w = begun w
by_work reported (commands.Many captures) words w = begun w
by_work reported (commands.Replan early most) words w = begun w
by_work reported (commands.Gen number) words w = begun w
by_work reported (commands.Job number) words w = begun w

-- so the answer is no usage
pub no_usage : (reported : Telling) (command : Command) (words : List (List ℕ)) (before : World) (answer : Result (Unit {0}) Refusal) (now : World) → IsWork reported command words before answer now → answer ≡ Err Usage → ⊥
no_usage reported command words before answer now w e = (by_work reported command words w).words e

-- where a write failed, a count of the output rose
pub write_fault_of : (reported : Telling) (command : Command) (words : List (List ℕ)) (before : World) (answer : Result (Unit {0}) Refusal) (now : World) → IsWork reported command words before answer now → answer ≡ Err WriteFault → OutRose before.out now.out
write_fault_of reported command words before answer now w e = (by_work reported command words w).write_fault e

-- the files and the output stay where they stand
pub places_of : (reported : Telling) (command : Command) (words : List (List ℕ)) (before : World) (answer : Result (Unit {0}) Refusal) (now : World) → IsWork reported command words before answer now → now.places ≡ before.places
places_of reported command words before answer now w = (by_work reported command words w).follows.places
