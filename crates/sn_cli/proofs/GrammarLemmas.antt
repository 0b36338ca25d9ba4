-- What is read is what the words spell.
use Rattle.std.proofs.Common.{◌≡◌, ℕ, zero, suc, ◌+◌, ◌-◌, ◌≤◌, List, [], ◌∷◌, ◌++◌, Bool, true, false, not, cond, ◌&&◌, ◌||◌, length, take, drop, Option, Some, None, unwrap_or, refl, ap, sym, ◌∙◌, subst, arith, length-append}
use Rattle.std.specs.Prelude.{nat_lt, is_none, option_and_then, option_map, codes, String}
use Rattle.std.specs.String.{string_bytes}
use Rattle.std.specs.declared.alloc.Global.{Global}
use Rattle.std.proofs.lemmas.Bool.{le-ltb, ltb-false}
use Rattle.std.proofs.lemmas.List.{append-nil, length-take-le}
use Rattle.sn_base.proofs.Lists.{by_test, or_none, none_is as is_free}
use Rattle.sn_cli.specs.declared.command.Command.{Command}
use Rattle.sn_cli.specs.declared.command.Command.TheVariants as commands
use Rattle.sn_cli.specs.declared.options.Options.{Options}
use Rattle.sn_cli.specs.Words.{IsNumber, texts, word_at}
use Rattle.sn_cli.specs.Grammar.{no_options, Line, Numbered, Spells}
use Rattle.sn_cli.specs.Reading.{same, is_flag, flag_of, numbered_of, options_from, all_file_words, line_of, lone_number, bare_of, plan_with, plan_of, run_of, live_of, many_of, number_of, replan_at, replan_of, replan_with, command_with, command_of}
use Rattle.sn_cli.proofs.NumberLemmas.{and_left, and_right, none_some, some_same, taken, passed, number_is, is_number}
use Rattle.sn_cli.proofs.OptionLemmas.{flag_step, options_found, options_are_said, no_words, word_is}
use Rattle.sn_base.proofs.Tests.{not_to_false as is_false}

-- what was found after a step
record After {A B : Type 0} (f : A → Option B) (from : Option A) (to : B) : Type 0 where
  value : A
  is : from ≡ Some value
  gives : f value ≡ Some to

following : {A B : Type 0} (f : A → Option B) (from : Option A) (to : B) → option_and_then f from ≡ Some to → After f from to
following f None to e = absurd (none_some e)
following f (Some a) to e = record { value = a; is = refl; gives = e }

mapped : {A B : Type 0} (f : A → B) (from : Option A) (to : B) → option_map f from ≡ Some to → (a : A) × (from ≡ Some a) × (to ≡ f a)
mapped f None to e = absurd (none_some e)
mapped f (Some a) to e = (a, refl, sym (some_same e))

-- ---- lines

front_back : {A : Type 0} (n : ℕ) (xs : List A) → xs ≡ take n xs ++ drop n xs
front_back zero xs = refl
front_back (suc n) [] = refl
front_back (suc n) (x ∷ xs) = ap (λ ys. x ∷ ys) (front_back n xs)

take_front : {A : Type 0} (xs ys : List A) → take (length xs) (xs ++ ys) ≡ xs
take_front [] ys = refl
take_front (x ∷ xs) ys = ap (λ zs. x ∷ zs) (take_front xs ys)

drop_front : {A : Type 0} (xs ys : List A) → drop (length xs) (xs ++ ys) ≡ ys
drop_front [] ys = refl
drop_front (x ∷ xs) ys = drop_front xs ys

line_is : (command : List ℕ) (files : ℕ) (rest : List (List ℕ)) (options : Options) → line_of files rest ≡ Some options → Line command files options (command ∷ rest)
line_is command files rest options e =
    by_test (nat_lt (length rest) files)
    (λ few. absurd (none_some (taken (nat_lt (length rest) files) _ _ few e)))
    (λ enough.
    let long : files ≤ length rest = ltb-false (length rest) files enough in
    let next : cond (all_file_words (take files rest)) (options_from no_options (drop files rest)) None ≡ Some options = passed (nat_lt (length rest) files) _ _ enough e in
    by_test (all_file_words (take files rest))
    (λ named. record {
      names = take files rest;
      following = drop files rest;
      are = ap (λ ws. command ∷ ws) (front_back files rest);
      as_many = length-take-le files rest long;
      named = named;
      options_are = options_are_said (drop files rest) options (taken (all_file_words (take files rest)) _ _ named next);
    })
    (λ unnamed. absurd (none_some (passed (all_file_words (take files rest)) _ _ unnamed next))))

record Stands (command : List ℕ) (files : ℕ) (options : Options) (words : List (List ℕ)) : Type 0 where
  rest : List (List ℕ)
  are : words ≡ command ∷ rest
  is : line_of files rest ≡ Some options

stands : (command : List ℕ) (files : ℕ) (options : Options) (words : List (List ℕ)) → Line command files options words → Stands command files options words
stands command files options words l =
    let rest : List (List ℕ) = l.names ++ l.following in
    let many = l.as_many in
    let long : nat_lt (length rest) files ≡ false = le-ltb (length rest) files (rw length-append (omega arith)) in
    let front : take files rest ≡ l.names = ap (λ n. take n rest) (sym l.as_many) ∙ take_front l.names l.following in
    let back : drop files rest ≡ l.following = ap (λ n. drop n rest) (sym l.as_many) ∙ drop_front l.names l.following in
    record {
      rest = rest;
      are = l.are;
      is = ap (λ b. cond b None (cond (all_file_words (take files rest)) (options_from no_options (drop files rest)) None)) long
          ∙ ap (λ ws. cond (all_file_words ws) (options_from no_options (drop files rest)) None) front
          ∙ ap (λ b. cond b (options_from no_options (drop files rest)) None) l.named
          ∙ ap (options_from no_options) back
          ∙ options_found l.following options l.options_are;
    }

lone_is : (command : List ℕ) (rest : List (List ℕ)) (n : ℕ) → lone_number rest ≡ Some n → Numbered command n (command ∷ rest)
lone_is command [] n e = absurd (none_some e)
lone_is command (word ∷ []) n e = record { word = word; are = refl; is = number_is 0 4294967295 word n e }
lone_is command (word ∷ more ∷ rest) n e = absurd (none_some e)

-- ---- what a command takes of the options

made : (a b : Options) → a.nodes ≡ b.nodes → a.schedule ≡ b.schedule → a.csv ≡ b.csv → a.trace ≡ b.trace → a.prices ≡ b.prices → a ≡ b
made a b e f g h i = of a.nodes b.nodes a.schedule b.schedule a.csv b.csv a.trace b.trace a.prices b.prices e f g h i
  where
    of : (n m s t : Option ℕ) (c d u v w x : Bool) → n ≡ m → s ≡ t → c ≡ d → u ≡ v → w ≡ x → ◌≡◌ {A = Options} (record { nodes = n; schedule = s; csv = c; trace = u; prices = w }) (record { nodes = m; schedule = t; csv = d; trace = v; prices = x })
    of n m s t c d u v w x e f g h i = rw (e, f, g, h, i) refl

bare_is : (k : Command) (o : Options) (c : Command) → bare_of k o ≡ Some c → (c ≡ k) × (o ≡ no_options)
bare_is k o c e =
    let test : Bool = is_none o.nodes && is_none o.schedule && not o.csv && not o.trace && not o.prices in
    by_test test
    (λ is.
    let z = and_left (is_none o.nodes && is_none o.schedule && not o.csv && not o.trace) (not o.prices) is in
    let a = and_left (is_none o.nodes && is_none o.schedule && not o.csv) (not o.trace) z in
    let b = and_left (is_none o.nodes && is_none o.schedule) (not o.csv) a in (
      sym (some_same (taken test _ _ is e)),
      made o no_options (is_free o.nodes (and_left (is_none o.nodes) (is_none o.schedule) b)) (is_free o.schedule (and_right (is_none o.nodes) (is_none o.schedule) b)) (is_false o.csv (and_right (is_none o.nodes && is_none o.schedule) (not o.csv) a)) (is_false o.trace (and_right (is_none o.nodes && is_none o.schedule && not o.csv) (not o.trace) z))
          (is_false o.prices (and_right (is_none o.nodes && is_none o.schedule && not o.csv && not o.trace) (not o.prices) is)),
    ))
    (λ isnt. absurd (none_some (passed test _ _ isnt e)))

plan_is : (o : Options) (c : Command) → plan_of o ≡ Some c → (c ≡ plan_with o.prices (unwrap_or o.nodes 100000)) × (o ≡ record { nodes = o.nodes; schedule = None; csv = false; trace = false; prices = o.prices })
plan_is o c e =
    let test : Bool = is_none o.schedule && not o.csv && not o.trace in
    by_test test
    (λ is.
    let a = and_left (is_none o.schedule && not o.csv) (not o.trace) is in (
      sym (some_same (taken test _ _ is e)),
      made o (record { nodes = o.nodes; schedule = None; csv = false; trace = false; prices = o.prices }) refl (is_free o.schedule (and_left (is_none o.schedule) (not o.csv) a)) (is_false o.csv (and_right (is_none o.schedule) (not o.csv) a)) (is_false o.trace (and_right (is_none o.schedule && not o.csv) (not o.trace) is)) refl,
    ))
    (λ isnt. absurd (none_some (passed test _ _ isnt e)))

run_is : (o : Options) (c : Command) → run_of o ≡ Some c → (c ≡ commands.Run o.csv) × (o ≡ record { nodes = None; schedule = None; csv = o.csv; trace = false; prices = false })
run_is o c e =
    let test : Bool = is_none o.nodes && is_none o.schedule && not o.trace && not o.prices in
    by_test test
    (λ is.
    let z = and_left (is_none o.nodes && is_none o.schedule && not o.trace) (not o.prices) is in
    let a = and_left (is_none o.nodes && is_none o.schedule) (not o.trace) z in (
      sym (some_same (taken test _ _ is e)),
      made o (record { nodes = None; schedule = None; csv = o.csv; trace = false; prices = false }) (is_free o.nodes (and_left (is_none o.nodes) (is_none o.schedule) a)) (is_free o.schedule (and_right (is_none o.nodes) (is_none o.schedule) a)) refl (is_false o.trace (and_right (is_none o.nodes && is_none o.schedule) (not o.trace) z))
          (is_false o.prices (and_right (is_none o.nodes && is_none o.schedule && not o.trace) (not o.prices) is)),
    ))
    (λ isnt. absurd (none_some (passed test _ _ isnt e)))

live_is : (o : Options) (c : Command) → live_of o ≡ Some c → (c ≡ commands.Live (unwrap_or o.nodes 100000) (unwrap_or o.schedule 0) o.trace) × (o ≡ record { nodes = o.nodes; schedule = o.schedule; csv = false; trace = o.trace; prices = false })
live_is o c e =
    let test : Bool = not o.csv && not o.prices in
    by_test test
    (λ is. (
      sym (some_same (taken test _ _ is e)),
      made o (record { nodes = o.nodes; schedule = o.schedule; csv = false; trace = o.trace; prices = false }) refl refl (is_false o.csv (and_left (not o.csv) (not o.prices) is)) refl (is_false o.prices (and_right (not o.csv) (not o.prices) is)),
    ))
    (λ isnt. absurd (none_some (passed test _ _ isnt e)))

replan_is : (n : ℕ) (o : Options) (c : Command) → replan_with n o ≡ Some c → (c ≡ commands.Replan n (unwrap_or o.nodes 100000)) × (o ≡ record { nodes = o.nodes; schedule = None; csv = false; trace = false; prices = false })
replan_is n o c e =
    let test : Bool = is_none o.schedule && not o.csv && not o.trace && not o.prices in
    by_test test
    (λ is.
    let z = and_left (is_none o.schedule && not o.csv && not o.trace) (not o.prices) is in
    let a = and_left (is_none o.schedule && not o.csv) (not o.trace) z in (
      sym (some_same (taken test _ _ is e)),
      made o (record { nodes = o.nodes; schedule = None; csv = false; trace = false; prices = false }) refl (is_free o.schedule (and_left (is_none o.schedule) (not o.csv) a)) (is_false o.csv (and_right (is_none o.schedule) (not o.csv) a)) (is_false o.trace (and_right (is_none o.schedule && not o.csv) (not o.trace) z))
          (is_false o.prices (and_right (is_none o.schedule && not o.csv && not o.trace) (not o.prices) is)),
    ))
    (λ isnt. absurd (none_some (passed test _ _ isnt e)))

-- the line of `plan`, with prices or without them
plan_spelled : (words : List (List ℕ)) (prices : Bool) (given : Option ℕ) → Line (codes "plan") 3 (record { nodes = given; schedule = None; csv = false; trace = false; prices = prices }) words → Spells words (plan_with prices (unwrap_or given 100000))
plan_spelled words true given l = (given, l, refl)
plan_spelled words false given l = (given, l, refl)

-- ---- commands

module _ (rest : List (List ℕ)) (c : Command) where
  bare_found : (name : List ℕ) (files : ℕ) (k : Command) → ((words : List (List ℕ)) → Line name files no_options words → Spells words k) → option_and_then (bare_of k) (line_of files rest) ≡ Some c → Spells (name ∷ rest) c
  bare_found name files k spells e =
      let b = following (bare_of k) (line_of files rest) c e in
      let is = bare_is k b.value c b.gives in
      subst (λ (d : Command). Spells (name ∷ rest) d) (sym is.0) (spells (name ∷ rest) (line_is name files rest no_options (b.is ∙ ap (λ o. Some o) is.1)))

  plan_found : option_and_then plan_of (line_of 3 rest) ≡ Some c → Spells (codes "plan" ∷ rest) c
  plan_found e =
      let b = following plan_of (line_of 3 rest) c e in
      let is = plan_is b.value c b.gives in
      subst (λ (d : Command). Spells (codes "plan" ∷ rest) d) (sym is.0) (plan_spelled (codes "plan" ∷ rest) b.value.prices b.value.nodes (line_is (codes "plan") 3 rest _ (b.is ∙ ap (λ o. Some o) is.1)))

  run_found : option_and_then run_of (line_of 4 rest) ≡ Some c → Spells (codes "run" ∷ rest) c
  run_found e =
      let b = following run_of (line_of 4 rest) c e in
      let is = run_is b.value c b.gives in
      subst (λ (d : Command). Spells (codes "run" ∷ rest) d) (sym is.0) (line_is (codes "run") 4 rest _ (b.is ∙ ap (λ o. Some o) is.1))

  live_found : option_and_then live_of (line_of 4 rest) ≡ Some c → Spells (codes "live" ∷ rest) c
  live_found e =
      let b = following live_of (line_of 4 rest) c e in
      let is = live_is b.value c b.gives in
      subst (λ (d : Command). Spells (codes "live" ∷ rest) d) (sym is.0) (b.value.nodes, b.value.schedule, line_is (codes "live") 4 rest _ (b.is ∙ ap (λ o. Some o) is.1), refl, refl)

  replan_found : replan_of rest ≡ Some c → Spells (codes "replan" ∷ rest) c
  replan_found e =
      let b = following (replan_at rest) (line_of 5 rest) c e in
      let n = following (λ most. replan_with most b.value) (number_of 0 4294967295 (word_at rest 4)) c b.gives in
      let is = replan_is n.value b.value c n.gives in
      subst (λ (d : Command). Spells (codes "replan" ∷ rest) d) (sym is.0)
      (b.value.nodes, line_is (codes "replan") 5 rest _ (b.is ∙ ap (λ o. Some o) is.1), number_is 0 4294967295 (word_at rest 4) n.value n.is, refl)

  gen_found : option_map (λ n. commands.Gen n) (lone_number rest) ≡ Some c → Spells (codes "gen" ∷ rest) c
  gen_found e = let m = mapped (λ n. commands.Gen n) (lone_number rest) c e in subst (λ (d : Command). Spells (codes "gen" ∷ rest) d) (sym m.2) (lone_is (codes "gen") rest m.0 m.1)

  job_found : option_map (λ n. commands.Job n) (lone_number rest) ≡ Some c → Spells (codes "job" ∷ rest) c
  job_found e = let m = mapped (λ n. commands.Job n) (lone_number rest) c e in subst (λ (d : Command). Spells (codes "job" ∷ rest) d) (sym m.2) (lone_is (codes "job") rest m.0 m.1)

  -- no option stands after the file words
  many_found : many_of rest ≡ Some c → Spells (codes "many" ∷ rest) c
  many_found e =
      let outside : Bool = nat_lt (length rest) 5 || nat_lt 11 (length rest) in
      by_test outside
      (λ is. absurd (none_some (taken outside _ _ is e)))
      (λ isnt.
      let few : 5 ≤ length rest = ltb-false (length rest) 5 (or_none (nat_lt (length rest) 5) (nat_lt 11 (length rest)) isnt).0 in
      let most : length rest ≤ 11 = ltb-false 11 (length rest) (or_none (nat_lt (length rest) 5) (nat_lt 11 (length rest)) isnt).1 in
      let b = following (bare_of (commands.Many (length rest - 3))) (line_of (length rest) rest) c (passed outside _ _ isnt e) in
      let is = bare_is (commands.Many (length rest - 3)) b.value c b.gives in
      let line = line_is (codes "many") (length rest) rest no_options (b.is ∙ ap (λ o. Some o) is.1) in
      let all : length rest ≡ 3 + (length rest - 3) = omega arith in
      subst (λ (d : Command). Spells (codes "many" ∷ rest) d) (sym is.0)
      (omega arith, omega arith, subst (λ (n : ℕ). Line (codes "many") n no_options (codes "many" ∷ rest)) all line))

  -- a word is this one, or another
  by_word : (word name : List ℕ) (x y : Option Command) → (x ≡ Some c → Spells (name ∷ rest) c) → (y ≡ Some c → Spells (word ∷ rest) c) → cond (same word name) x y ≡ Some c → Spells (word ∷ rest) c
  by_word word name x y here there e = by_test (same word name)
      (λ is. subst (λ (w : List ℕ). Spells (w ∷ rest) c) (sym (word_is word name is)) (here (taken (same word name) _ _ is e)))
      (λ isnt. there (passed (same word name) _ _ isnt e))

  command_is : (word : List ℕ) → command_with word rest ≡ Some c → Spells (word ∷ rest) c
  command_is word =
      by_word word (codes "plain") _ _ (bare_found (codes "plain") 2 commands.Plain (λ words l. l))
      (by_word word (codes "plan") _ _ plan_found
      (by_word word (codes "run") _ _ run_found
      (by_word word (codes "emit") _ _ (bare_found (codes "emit") 4 commands.Emit (λ words l. l))
      (by_word word (codes "finish") _ _ (bare_found (codes "finish") 3 commands.Finish (λ words l. l))
      (by_word word (codes "check") _ _ (bare_found (codes "check") 4 commands.Check (λ words l. l))
      (by_word word (codes "live") _ _ live_found
      (by_word word (codes "detect") _ _ (bare_found (codes "detect") 3 commands.Detect (λ words l. l))
      (by_word word (codes "many") _ _ many_found
      (by_word word (codes "replan") _ _ replan_found
      (by_word word (codes "gen") _ _ gen_found
      (by_word word (codes "job") _ _ job_found (λ e. absurd (none_some e)))))))))))))

-- what is read is spelled
pub read_is_spelled : (words : List (List ℕ)) (c : Command) → command_of words ≡ Some c → Spells words c
read_is_spelled [] c e = absurd (none_some e)
read_is_spelled (word ∷ rest) c e = command_is rest c word e

same_rest : {a b : List ℕ} {xs ys : List (List ℕ)} → a ∷ xs ≡ b ∷ ys → xs ≡ ys
same_rest e = cc

many_read : (rest : List (List ℕ)) (captures : ℕ) → 2 ≤ captures → captures ≤ 8 → length rest ≡ 3 + captures → line_of (3 + captures) rest ≡ Some no_options → many_of rest ≡ Some (commands.Many captures)
many_read rest captures few most all is =
    let inside : (nat_lt (length rest) 5 || nat_lt 11 (length rest)) ≡ false = ap (λ b. b || nat_lt 11 (length rest)) (le-ltb (length rest) 5 (omega arith)) ∙ le-ltb 11 (length rest) (omega arith) in
    ap (λ b. cond b None (option_and_then (bare_of (commands.Many (length rest - 3))) (line_of (length rest) rest))) inside
    ∙ ap (λ n. option_and_then (bare_of (commands.Many (n - 3))) (line_of n rest)) all
    ∙ ap (option_and_then (bare_of (commands.Many (3 + captures - 3)))) is
    ∙ ap (λ n. Some (commands.Many n)) (omega arith)

-- what is spelled is read
pub spelled_is_read : (words : List (List ℕ)) (c : Command) → Spells words c → command_of words ≡ Some c
spelled_is_read words commands.Plain l = let s = stands (codes "plain") 2 no_options words l in ap command_of s.are ∙ ap (option_and_then (bare_of commands.Plain)) s.is
spelled_is_read words (commands.Plan nodes) (given, l, e) = let s = stands (codes "plan") 3 _ words l in ap command_of s.are ∙ ap (option_and_then plan_of) s.is ∙ ap (λ n. Some (commands.Plan n)) (sym e)
spelled_is_read words (commands.PlanPrices nodes) (given, l, e) = let s = stands (codes "plan") 3 _ words l in ap command_of s.are ∙ ap (option_and_then plan_of) s.is ∙ ap (λ n. Some (commands.PlanPrices n)) (sym e)
spelled_is_read words (commands.Run csv) l = let s = stands (codes "run") 4 _ words l in ap command_of s.are ∙ ap (option_and_then run_of) s.is
spelled_is_read words commands.Emit l = let s = stands (codes "emit") 4 no_options words l in ap command_of s.are ∙ ap (option_and_then (bare_of commands.Emit)) s.is
spelled_is_read words commands.Finish l = let s = stands (codes "finish") 3 no_options words l in ap command_of s.are ∙ ap (option_and_then (bare_of commands.Finish)) s.is
spelled_is_read words commands.Check l = let s = stands (codes "check") 4 no_options words l in ap command_of s.are ∙ ap (option_and_then (bare_of commands.Check)) s.is
spelled_is_read words (commands.Live nodes schedule trace) (given, turn, l, e, f) =
    let s = stands (codes "live") 4 _ words l in
    ap command_of s.are ∙ ap (option_and_then live_of) s.is ∙ ap (λ n. Some (commands.Live n (unwrap_or turn 0) trace)) (sym e) ∙ ap (λ k. Some (commands.Live nodes k trace)) (sym f)
spelled_is_read words commands.Detect l = let s = stands (codes "detect") 3 no_options words l in ap command_of s.are ∙ ap (option_and_then (bare_of commands.Detect)) s.is
spelled_is_read words (commands.Many captures) (few, most, l) =
    let s = stands (codes "many") (3 + captures) no_options words l in
    let all : words ≡ codes "many" ∷ l.names = l.are ∙ ap (λ ws. codes "many" ∷ (l.names ++ ws)) (no_words l.following no_options l.options_are refl) ∙ ap (λ ws. codes "many" ∷ ws) (append-nil l.names) in
    let rest : s.rest ≡ l.names = same_rest (sym s.are ∙ all) in
    ap command_of s.are ∙ many_read s.rest captures few most (ap length rest ∙ l.as_many) s.is
spelled_is_read words (commands.Replan early most) (given, l, n, e) =
    let opts : Options = record { nodes = given; schedule = None; csv = false; trace = false; prices = false } in
    let s = stands (codes "replan") 5 opts words l in
    ap command_of s.are ∙ ap (option_and_then (replan_at s.rest)) s.is
    ∙ ap (option_and_then (λ k. replan_with k opts)) (is_number 0 4294967295 (word_at s.rest 4) early (subst (λ (ws : List (List ℕ)). IsNumber 0 4294967295 (word_at ws 5) early) s.are n))
    ∙ ap (λ k. Some (commands.Replan early k)) (sym e)
spelled_is_read words (commands.Gen number) n = ap command_of n.are ∙ ap (option_map (λ n. commands.Gen n)) (is_number 0 4294967295 n.word number n.is)
spelled_is_read words (commands.Job number) n = ap command_of n.are ∙ ap (option_map (λ n. commands.Job n)) (is_number 0 4294967295 n.word number n.is)

-- words spell one command at most
pub spells_once : (words : List (List ℕ)) (first second : Command) → Spells words first → Spells words second → first ≡ second
spells_once words first second a b = some_same (sym (spelled_is_read words first a) ∙ spelled_is_read words second b)

-- the words, the first one and the others
pub first_word : {f : List ℕ} {w : String Global} {ws rest : List (String Global)} → ws ≡ w ∷ rest → f ≡ string_bytes w → texts ws ≡ f ∷ texts rest
first_word {w = w} {rest = rest} e f = ap texts e ∙ ap (λ g. g ∷ texts rest) (sym f)

-- an option without a number is read
pub flag_read : (given more : Options) (words rest : List (String Global)) (word : String Global) → words ≡ word ∷ rest → is_flag (string_bytes word) ≡ true → flag_of (string_bytes word) given ≡ Some more → options_from given (texts words) ≡ options_from more (texts rest)
flag_read given more words rest word are is found =
    ap (λ ws. options_from given (texts ws)) are ∙ flag_step given (string_bytes word) (texts rest) is ∙ ap (option_and_then (λ m. options_from m (texts rest))) found

-- an option with its number is read
pub number_read : (given more : Options) (words rest after : List (String Global)) (word next : String Global) → words ≡ word ∷ rest → rest ≡ next ∷ after → is_flag (string_bytes word) ≡ false → numbered_of (string_bytes word) (string_bytes next) given ≡ Some more → options_from given (texts words) ≡ options_from more (texts after)
number_read given more words rest after word next are others isnt found =
    ap (λ ws. options_from given (texts ws)) are
    ∙ ap (λ ws. options_from given (string_bytes word ∷ texts ws)) others
    ∙ ap (λ b. cond b (option_and_then (λ m. options_from m (string_bytes next ∷ texts after)) (flag_of (string_bytes word) given)) (option_and_then (λ m. options_from m (texts after)) (numbered_of (string_bytes word) (string_bytes next) given))) isnt
    ∙ ap (option_and_then (λ m. options_from m (texts after))) found
