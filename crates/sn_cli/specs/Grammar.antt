-- to be believed
-- The words that spell a command.
use Rattle.std.specs.Prelude.{◌≡◌, ℕ, ◌+◌, ◌≤◌, List, [], ◌∷◌, ◌++◌, true, false, Option, Some, None, unwrap_or, length, codes}
use Rattle.std.specs.List.{list_all}
use Rattle.sn_cli.specs.declared.command.Command.{Command}
use Rattle.sn_cli.specs.declared.command.Command.TheVariants as commands
use Rattle.sn_cli.specs.declared.options.Options.{Options}
use Rattle.sn_cli.specs.Words.{is_file_word, word_at, IsNumber}

-- no option is given
abbrev pub no_options : Options
no_options = record { nodes = None; schedule = None; csv = false; trace = false; prices = false }

-- words that are options, in any order and each at most once, and what they say
pub data AreOptions : List (List ℕ) → Options → Type 0 where
  -- no words
  none : AreOptions [] no_options
  -- `--nodes N` before options without it, N from 1 to 1000000
  nodes : (word : List ℕ) (number : ℕ) (words : List (List ℕ)) (rest : Options) → IsNumber 1 1000000 word number → rest.nodes ≡ None → AreOptions words rest
      → AreOptions (codes "--nodes" ∷ word ∷ words) (record rest { nodes = Some number })
  -- `--schedule K` before options without it, K from 0 to 4294967295
  schedule : (word : List ℕ) (number : ℕ) (words : List (List ℕ)) (rest : Options) → IsNumber 0 4294967295 word number → rest.schedule ≡ None
      → AreOptions words rest → AreOptions (codes "--schedule" ∷ word ∷ words) (record rest { schedule = Some number })
  -- `--csv` before options without it
  csv : (words : List (List ℕ)) (rest : Options) → rest.csv ≡ false → AreOptions words rest → AreOptions (codes "--csv" ∷ words) (record rest { csv = true })
  -- `--trace` before options without it
  trace : (words : List (List ℕ)) (rest : Options) → rest.trace ≡ false → AreOptions words rest
      → AreOptions (codes "--trace" ∷ words) (record rest { trace = true })
  -- `--prices` before options without it
  prices : (words : List (List ℕ)) (rest : Options) → rest.prices ≡ false → AreOptions words rest
      → AreOptions (codes "--prices" ∷ words) (record rest { prices = true })

-- a command word, this many file words, and after all of them the options that say this
pub record Line (command : List ℕ) (files : ℕ) (options : Options) (words : List (List ℕ)) : Type 0 where
  pub names : List (List ℕ)
  pub following : List (List ℕ)
  pub are : words ≡ command ∷ (names ++ following)
  pub as_many : length names ≡ files
  pub named : list_all is_file_word names ≡ true
  pub options_are : AreOptions following options

-- a command word and a number from 0 to 4294967295
pub record Numbered (command : List ℕ) (number : ℕ) (words : List (List ℕ)) : Type 0 where
  pub word : List ℕ
  pub are : words ≡ command ∷ word ∷ []
  pub is : IsNumber 0 4294967295 word number

-- The words spell this command: the command word first, then its file words or its number, then its options. A number
-- that isn't given is 100000 for `--nodes`, and 0 for `--schedule`.
abbrev pub Spells : List (List ℕ) → Command → Type 0
-- `plain QUERIES CAPTURE`
Spells words commands.Plain = Line (codes "plain") 2 no_options words
-- `plan SWITCH QUERIES TRAIN [--nodes N]`
Spells words (commands.Plan most) =
    (given : Option ℕ) × Line (codes "plan") 3 (record { nodes = given; schedule = None; csv = false; trace = false; prices = false }) words
    × (most ≡ unwrap_or given 100000)
-- `plan SWITCH QUERIES TRAIN --prices [--nodes N]`
Spells words (commands.PlanPrices most) =
    (given : Option ℕ) × Line (codes "plan") 3 (record { nodes = given; schedule = None; csv = false; trace = false; prices = true }) words
    × (most ≡ unwrap_or given 100000)
-- `run SWITCH QUERIES PLAN CAPTURE [--csv]`
Spells words (commands.Run table) = Line (codes "run") 4 (record { nodes = None; schedule = None; csv = table; trace = false; prices = false }) words
-- `emit SWITCH QUERIES PLAN CAPTURE`
Spells words commands.Emit = Line (codes "emit") 4 no_options words
-- `finish QUERIES PLAN REPORTS`
Spells words commands.Finish = Line (codes "finish") 3 no_options words
-- `check SWITCH QUERIES TRAIN PLANTREE`
Spells words commands.Check = Line (codes "check") 4 no_options words
-- `live SWITCH QUERIES TRAIN CAPTURE [--nodes N] [--schedule K] [--trace]`
Spells words (commands.Live most turn events) =
    (given chosen : Option ℕ) × Line (codes "live") 4 (record { nodes = given; schedule = chosen; csv = false; trace = events; prices = false }) words
    × (most ≡ unwrap_or given 100000) × (turn ≡ unwrap_or chosen 0)
-- `detect QUERIES PLAN CAPTURE`
Spells words commands.Detect = Line (codes "detect") 3 no_options words
-- `many SWITCH QUERIES PLAN CAPTURE CAPTURE { CAPTURE }`, of 2 to 8 captures
Spells words (commands.Many captures) = (2 ≤ captures) × (captures ≤ 8) × Line (codes "many") (3 + captures) no_options words
-- `replan SWITCH QUERIES TRAIN CAPTURE MOST [--nodes N]`: the fifth word is a number from 0 to 4294967295
Spells words (commands.Replan early most) =
    (given : Option ℕ) × Line (codes "replan") 5 (record { nodes = given; schedule = None; csv = false; trace = false; prices = false }) words
    × IsNumber 0 4294967295 (word_at words 5) early × (most ≡ unwrap_or given 100000)
-- `gen NUMBER`
Spells words (commands.Gen number) = Numbered (codes "gen") number words
-- `job NUMBER`
Spells words (commands.Job number) = Numbered (codes "job") number words
