-- serves proofs
-- How words are read, one after another. That this finds what words spell is proved.
use Rattle.std.specs.Prelude.{ℕ, ◌-◌, List, [], ◌∷◌, Bool, true, false, not, ◌&&◌, ◌||◌, ◌==◌, nat_eq, nat_lt, nat_le, length, take, drop, Option, Some, None, is_none}
use Rattle.std.specs.Prelude.{unwrap_or, option_and_then, option_map, codes, if◌then◌else◌}
use Rattle.std.specs.List.{list_all}
use Rattle.std.specs.Cmp.Lexicographic.{pointwise}
use Rattle.sn_cli.specs.declared.command.Command.{Command}
use Rattle.sn_cli.specs.declared.command.Command.TheVariants as commands
use Rattle.sn_cli.specs.declared.options.Options.{Options}
use Rattle.sn_cli.specs.Words.{is_file_word, is_digit, decimal_value, word_at}
use Rattle.sn_cli.specs.Grammar.{no_options}

-- two words are the same
abbrev pub same : List ℕ → List ℕ → Bool
same = pointwise nat_eq

-- ---- numbers

abbrev pub value_within : ℕ → List ℕ → Option ℕ
value_within most digits = if list_all is_digit digits && nat_le (decimal_value digits) most then Some (decimal_value digits) else None

abbrev pub at_least : ℕ → ℕ → Option ℕ
at_least least n = if nat_lt n least then None else Some n

abbrev pub number_of : ℕ → ℕ → List ℕ → Option ℕ
number_of least most word = if (length word == 0) || nat_lt 10 (length word) then None else option_and_then (at_least least) (value_within most word)

-- ---- options

abbrev pub is_flag : List ℕ → Bool
is_flag word = same word (codes "--csv") || same word (codes "--trace") || same word (codes "--prices")

abbrev pub flag_of : List ℕ → Options → Option Options
flag_of word given =
    if same word (codes "--csv") && not given.csv then Some (record given { csv = true })
    else if same word (codes "--trace") && not given.trace then Some (record given { trace = true })
    else if same word (codes "--prices") && not given.prices then Some (record given { prices = true })
    else None

abbrev pub with_nodes : Options → ℕ → Options
with_nodes given n = record given { nodes = Some n }

abbrev pub with_schedule : Options → ℕ → Options
with_schedule given n = record given { schedule = Some n }

abbrev pub numbered_of : List ℕ → List ℕ → Options → Option Options
numbered_of word following given =
    if same word (codes "--nodes") && is_none given.nodes then option_map (with_nodes given) (number_of 1 1000000 following)
    else if same word (codes "--schedule") && is_none given.schedule then option_map (with_schedule given) (number_of 0 4294967295 following)
    else None

abbrev pub options_from : Options → List (List ℕ) → Option Options
options_from given [] = Some given
options_from given (word ∷ []) = flag_of word given
options_from given (word ∷ following ∷ words) =
    if is_flag word then option_and_then (λ more. options_from more (following ∷ words)) (flag_of word given)
    else option_and_then (λ more. options_from more words) (numbered_of word following given)

-- ---- lines

abbrev pub all_file_words : List (List ℕ) → Bool
all_file_words = list_all is_file_word

abbrev pub line_of : ℕ → List (List ℕ) → Option Options
line_of files words =
    if nat_lt (length words) files then None
    else if all_file_words (take files words) then options_from no_options (drop files words)
    else None

abbrev pub lone_number : List (List ℕ) → Option ℕ
lone_number (word ∷ []) = number_of 0 4294967295 word
lone_number words = None

abbrev pub bare_of : Command → Options → Option Command
bare_of command given =
    if is_none given.nodes && is_none given.schedule && not given.csv && not given.trace && not given.prices then Some command else None

-- with prices or without them
abbrev pub plan_with : Bool → ℕ → Command
plan_with true most = commands.PlanPrices most
plan_with false most = commands.Plan most

abbrev pub plan_of : Options → Option Command
plan_of given = if is_none given.schedule && not given.csv && not given.trace then Some (plan_with given.prices (unwrap_or given.nodes 100000)) else None

abbrev pub run_of : Options → Option Command
run_of given = if is_none given.nodes && is_none given.schedule && not given.trace && not given.prices then Some (commands.Run given.csv) else None

abbrev pub live_of : Options → Option Command
live_of given =
    if not given.csv && not given.prices then Some (commands.Live (unwrap_or given.nodes 100000) (unwrap_or given.schedule 0) given.trace) else None

-- each word names a file: three texts, and the captures
abbrev pub many_of : List (List ℕ) → Option Command
many_of rest =
    if nat_lt (length rest) 5 || nat_lt 11 (length rest) then None
    else option_and_then (bare_of (commands.Many (length rest - 3))) (line_of (length rest) rest)

abbrev pub replan_with : ℕ → Options → Option Command
replan_with most given =
    if is_none given.schedule && not given.csv && not given.trace && not given.prices then Some (commands.Replan most (unwrap_or given.nodes 100000)) else None

-- the fifth word is a number too
abbrev pub replan_at : List (List ℕ) → Options → Option Command
replan_at rest given = option_and_then (λ most. replan_with most given) (number_of 0 4294967295 (word_at rest 4))

abbrev pub replan_of : List (List ℕ) → Option Command
replan_of rest = option_and_then (replan_at rest) (line_of 5 rest)

abbrev pub command_with : List ℕ → List (List ℕ) → Option Command
command_with word rest =
    if same word (codes "plain") then option_and_then (bare_of commands.Plain) (line_of 2 rest)
    else if same word (codes "plan") then option_and_then plan_of (line_of 3 rest)
    else if same word (codes "run") then option_and_then run_of (line_of 4 rest)
    else if same word (codes "emit") then option_and_then (bare_of commands.Emit) (line_of 4 rest)
    else if same word (codes "finish") then option_and_then (bare_of commands.Finish) (line_of 3 rest)
    else if same word (codes "check") then option_and_then (bare_of commands.Check) (line_of 4 rest)
    else if same word (codes "live") then option_and_then live_of (line_of 4 rest)
    else if same word (codes "detect") then option_and_then (bare_of commands.Detect) (line_of 3 rest)
    else if same word (codes "many") then many_of rest
    else if same word (codes "replan") then replan_of rest
    else if same word (codes "gen") then option_map (λ n. commands.Gen n) (lone_number rest)
    else if same word (codes "job") then option_map (λ n. commands.Job n) (lone_number rest)
    else None

abbrev pub command_of : List (List ℕ) → Option Command
command_of [] = None
command_of (word ∷ rest) = command_with word rest
