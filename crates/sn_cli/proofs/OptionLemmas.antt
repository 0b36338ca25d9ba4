-- What options say, in whatever order they stand.
use Rattle.std.proofs.Common.{◌≡◌, ◌⊎◌, ℕ, List, [], ◌∷◌, Bool, true, false, not, cond, ◌&&◌, ◌||◌, Option, Some, None, inl, inr, refl, ap, sym, ◌∙◌, subst}
use Rattle.std.specs.Prelude.{is_none, option_and_then, option_map, codes}
use Rattle.std.specs.Cmp.Lexicographic.{bytes_decides}
use Rattle.std.proofs.lemmas.Bool.{false≢true}
use Rattle.sn_base.proofs.Lists.{by_test, none_is, or_false}
use Rattle.sn_cli.specs.declared.options.Options.{Options}
use Rattle.sn_cli.specs.Words.{IsNumber}
use Rattle.sn_cli.specs.Grammar.{no_options, AreOptions, none, nodes, schedule, csv, trace, prices}
use Rattle.sn_cli.specs.Reading.{same, number_of, is_flag, flag_of, with_nodes, with_schedule, numbered_of, options_from}
use Rattle.sn_cli.proofs.NumberLemmas.{and_left, and_right, none_some, some_same, passed, number_is, is_number}
use Rattle.sn_base.proofs.Tests.{not_to_false, and_never as never_both}

-- no option is in both
record Apart (a b : Options) : Type 0 where
  nodes : (a.nodes ≡ None) ⊎ (b.nodes ≡ None)
  schedule : (a.schedule ≡ None) ⊎ (b.schedule ≡ None)
  csv : (a.csv && b.csv) ≡ false
  trace : (a.trace && b.trace) ≡ false
  prices : (a.prices && b.prices) ≡ false

abbrev or_else : {A : Type 0} → Option A → Option A → Option A
or_else None b = b
or_else (Some a) b = Some a

abbrev both : Options → Options → Options
both a b = record { nodes = or_else a.nodes b.nodes; schedule = or_else a.schedule b.schedule; csv = a.csv || b.csv; trace = a.trace || b.trace; prices = a.prices || b.prices }

options_are : (a b : Options) → a.nodes ≡ b.nodes → a.schedule ≡ b.schedule → a.csv ≡ b.csv → a.trace ≡ b.trace → a.prices ≡ b.prices → a ≡ b
options_are a b e f g h i = made a.nodes b.nodes a.schedule b.schedule a.csv b.csv a.trace b.trace a.prices b.prices e f g h i
  where
    made : (n m : Option ℕ) (s t : Option ℕ) (c d u v w x : Bool) → n ≡ m → s ≡ t → c ≡ d → u ≡ v → w ≡ x → ◌≡◌ {A = Options} (record { nodes = n; schedule = s; csv = c; trace = u; prices = w }) (record { nodes = m; schedule = t; csv = d; trace = v; prices = x })
    made n m s t c d u v w x e f g h i = rw (e, f, g, h, i) refl

or_else_none : {A : Type 0} (a : Option A) → or_else a None ≡ a
or_else_none None = refl
or_else_none (Some a) = refl

both_none : (given : Options) → both given no_options ≡ given
both_none given = options_are (both given no_options) given (or_else_none given.nodes) (or_else_none given.schedule) (or_false given.csv) (or_false given.trace) (or_false given.prices)

-- an option more, whether it is given before or after
nodes_both : (given rest : Options) (n : ℕ) → given.nodes ≡ None → both (with_nodes given n) rest ≡ both given (with_nodes rest n)
nodes_both given rest n free = options_are (both (with_nodes given n) rest) (both given (with_nodes rest n)) (sym (ap (λ o. or_else o (Some n)) free)) refl refl refl refl

schedule_both : (given rest : Options) (n : ℕ) → given.schedule ≡ None → both (with_schedule given n) rest ≡ both given (with_schedule rest n)
schedule_both given rest n free = options_are (both (with_schedule given n) rest) (both given (with_schedule rest n)) refl (sym (ap (λ o. or_else o (Some n)) free)) refl refl refl

abbrev with_csv : Options → Options
with_csv given = record given { csv = true }

abbrev with_trace : Options → Options
with_trace given = record given { trace = true }

abbrev with_prices : Options → Options
with_prices given = record given { prices = true }

csv_both : (given rest : Options) → given.csv ≡ false → both (with_csv given) rest ≡ both given (with_csv rest)
csv_both given rest free = options_are (both (with_csv given) rest) (both given (with_csv rest)) refl refl (sym (ap (λ b. b || true) free)) refl refl

trace_both : (given rest : Options) → given.trace ≡ false → both (with_trace given) rest ≡ both given (with_trace rest)
trace_both given rest free = options_are (both (with_trace given) rest) (both given (with_trace rest)) refl refl refl (sym (ap (λ b. b || true) free)) refl

prices_both : (given rest : Options) → given.prices ≡ false → both (with_prices given) rest ≡ both given (with_prices rest)
prices_both given rest free = options_are (both (with_prices given) rest) (both given (with_prices rest)) refl refl refl refl (sym (ap (λ b. b || true) free))

left_free : {A : Type 0} (a : Option A) (b : A) → (a ≡ None) ⊎ (Some b ≡ None) → a ≡ None
left_free a b (inl e) = e
left_free a b (inr e) = absurd (none_some (sym e))

right_free : {A : Type 0} (a : A) (b : Option A) → (Some a ≡ None) ⊎ (b ≡ None) → b ≡ None
right_free a b (inl e) = absurd (none_some (sym e))
right_free a b (inr e) = e

left_false : (a : Bool) → (a && true) ≡ false → a ≡ false
left_false true e = e
left_false false e = refl

-- ---- one step

and_some : (o : Option Options) → option_and_then (λ more. options_from more []) o ≡ o
and_some None = refl
and_some (Some o) = refl

pub flag_step : (given : Options) (word : List ℕ) (words : List (List ℕ)) → is_flag word ≡ true → options_from given (word ∷ words) ≡ option_and_then (λ more. options_from more words) (flag_of word given)
flag_step given word [] is = sym (and_some (flag_of word given))
flag_step given word (following ∷ words) is = ap (λ b. cond b (option_and_then (λ more. options_from more (following ∷ words)) (flag_of word given)) (option_and_then (λ more. options_from more words) (numbered_of word following given))) is

-- ---- what is written is read

options_read : (words : List (List ℕ)) (said : Options) → AreOptions words said → (given : Options) → Apart given said → options_from given words ≡ Some (both given said)
options_read _ _ none given apart = ap (λ o. Some o) (sym (both_none given))
options_read _ _ (nodes word number words rest is free more) given apart =
    let open_now : given.nodes ≡ None = left_free given.nodes number apart.nodes in
    let step : numbered_of (codes "--nodes") word given ≡ Some (with_nodes given number) =
    ap (λ o. cond (is_none o) (option_map (with_nodes given) (number_of 1 1000000 word)) None) open_now ∙ ap (option_map (with_nodes given)) (is_number 1 1000000 word number is) in
    let left : Apart (with_nodes given number) rest = record { nodes = inr free; schedule = apart.schedule; csv = apart.csv; trace = apart.trace; prices = apart.prices } in
    ap (option_and_then (λ more. options_from more words)) step ∙ options_read words rest more (with_nodes given number) left ∙ ap (λ o. Some o) (nodes_both given rest number open_now)
options_read _ _ (schedule word number words rest is free more) given apart =
    let open_now : given.schedule ≡ None = left_free given.schedule number apart.schedule in
    let step : numbered_of (codes "--schedule") word given ≡ Some (with_schedule given number) =
    ap (λ o. cond (is_none o) (option_map (with_schedule given) (number_of 0 4294967295 word)) None) open_now ∙ ap (option_map (with_schedule given)) (is_number 0 4294967295 word number is) in
    let left : Apart (with_schedule given number) rest = record { nodes = apart.nodes; schedule = inr free; csv = apart.csv; trace = apart.trace; prices = apart.prices } in
    ap (option_and_then (λ more. options_from more words)) step ∙ options_read words rest more (with_schedule given number) left ∙ ap (λ o. Some o) (schedule_both given rest number open_now)
options_read _ _ (csv words rest free more) given apart =
    let open_now : given.csv ≡ false = left_false given.csv apart.csv in
    let step : flag_of (codes "--csv") given ≡ Some (with_csv given) = ap (λ b. cond (not b) (Some (with_csv given)) None) open_now in
    let left : Apart (with_csv given) rest = record { nodes = apart.nodes; schedule = apart.schedule; csv = free; trace = apart.trace; prices = apart.prices } in
    flag_step given (codes "--csv") words refl ∙ ap (option_and_then (λ more. options_from more words)) step ∙ options_read words rest more (with_csv given) left ∙ ap (λ o. Some o) (csv_both given rest open_now)
options_read _ _ (trace words rest free more) given apart =
    let open_now : given.trace ≡ false = left_false given.trace apart.trace in
    let step : flag_of (codes "--trace") given ≡ Some (with_trace given) = ap (λ b. cond (not b) (Some (with_trace given)) None) open_now in
    let left : Apart (with_trace given) rest = record { nodes = apart.nodes; schedule = apart.schedule; csv = apart.csv; trace = free; prices = apart.prices } in
    flag_step given (codes "--trace") words refl ∙ ap (option_and_then (λ more. options_from more words)) step ∙ options_read words rest more (with_trace given) left ∙ ap (λ o. Some o) (trace_both given rest open_now)
options_read _ _ (prices words rest free more) given apart =
    let open_now : given.prices ≡ false = left_false given.prices apart.prices in
    let step : flag_of (codes "--prices") given ≡ Some (with_prices given) = ap (λ b. cond (not b) (Some (with_prices given)) None) open_now in
    let left : Apart (with_prices given) rest = record { nodes = apart.nodes; schedule = apart.schedule; csv = apart.csv; trace = apart.trace; prices = free } in
    flag_step given (codes "--prices") words refl ∙ ap (option_and_then (λ more. options_from more words)) step ∙ options_read words rest more (with_prices given) left ∙ ap (λ o. Some o) (prices_both given rest open_now)

-- from no options on
pub options_found : (words : List (List ℕ)) (said : Options) → AreOptions words said → options_from no_options words ≡ Some said
options_found words said are = options_read words said are no_options (record { nodes = inl refl; schedule = inl refl; csv = refl; trace = refl; prices = refl })

-- words that say nothing as options are none
pub no_words : (words : List (List ℕ)) (said : Options) → AreOptions words said → said ≡ no_options → words ≡ []
no_words _ _ none e = refl
no_words _ _ (nodes word number words rest is free more) e = absurd (none_some (sym (ap (λ o. o.nodes) e)))
no_words _ _ (schedule word number words rest is free more) e = absurd (none_some (sym (ap (λ o. o.schedule) e)))
no_words _ _ (csv words rest free more) e = absurd (false≢true (sym (ap (λ o. o.csv) e)))
no_words _ _ (trace words rest free more) e = absurd (false≢true (sym (ap (λ o. o.trace) e)))
no_words _ _ (prices words rest free more) e = absurd (false≢true (sym (ap (λ o. o.prices) e)))

-- ---- what is read is written

record Found (words : List (List ℕ)) (given all : Options) : Type 0 where
  said : Options
  are : AreOptions words said
  apart : Apart given said
  is : all ≡ both given said

nodes_more : (word : List ℕ) (number : ℕ) (words : List (List ℕ)) (given all : Options) → given.nodes ≡ None → IsNumber 1 1000000 word number → Found words (with_nodes given number) all → Found (codes "--nodes" ∷ word ∷ words) given all
nodes_more word number words given all free is f = record {
  said = with_nodes f.said number;
  are = nodes word number words f.said is (right_free number f.said.nodes f.apart.nodes) f.are;
  apart = record { nodes = inl free; schedule = f.apart.schedule; csv = f.apart.csv; trace = f.apart.trace; prices = f.apart.prices };
  is = f.is ∙ nodes_both given f.said number free;
}

schedule_more : (word : List ℕ) (number : ℕ) (words : List (List ℕ)) (given all : Options) → given.schedule ≡ None → IsNumber 0 4294967295 word number → Found words (with_schedule given number) all → Found (codes "--schedule" ∷ word ∷ words) given all
schedule_more word number words given all free is f = record {
  said = with_schedule f.said number;
  are = schedule word number words f.said is (right_free number f.said.schedule f.apart.schedule) f.are;
  apart = record { nodes = f.apart.nodes; schedule = inl free; csv = f.apart.csv; trace = f.apart.trace; prices = f.apart.prices };
  is = f.is ∙ schedule_both given f.said number free;
}

csv_more : (words : List (List ℕ)) (given all : Options) → given.csv ≡ false → Found words (with_csv given) all → Found (codes "--csv" ∷ words) given all
csv_more words given all free f = record {
  said = with_csv f.said;
  are = csv words f.said f.apart.csv f.are;
  apart = record { nodes = f.apart.nodes; schedule = f.apart.schedule; csv = ap (λ b. b && true) free; trace = f.apart.trace; prices = f.apart.prices };
  is = f.is ∙ csv_both given f.said free;
}

trace_more : (words : List (List ℕ)) (given all : Options) → given.trace ≡ false → Found words (with_trace given) all → Found (codes "--trace" ∷ words) given all
trace_more words given all free f = record {
  said = with_trace f.said;
  are = trace words f.said f.apart.trace f.are;
  apart = record { nodes = f.apart.nodes; schedule = f.apart.schedule; csv = f.apart.csv; trace = ap (λ b. b && true) free; prices = f.apart.prices };
  is = f.is ∙ trace_both given f.said free;
}

prices_more : (words : List (List ℕ)) (given all : Options) → given.prices ≡ false → Found words (with_prices given) all → Found (codes "--prices" ∷ words) given all
prices_more words given all free f = record {
  said = with_prices f.said;
  are = prices words f.said f.apart.prices f.are;
  apart = record { nodes = f.apart.nodes; schedule = f.apart.schedule; csv = f.apart.csv; trace = f.apart.trace; prices = ap (λ b. b && true) free };
  is = f.is ∙ prices_both given f.said free;
}

pub word_is : (word other : List ℕ) → same word other ≡ true → word ≡ other
word_is word other is = (bytes_decides word other).0 is

module _ (word : List ℕ) (words : List (List ℕ)) (given all : Options) (rest : (more : Options) → options_from more words ≡ Some all → Found words more all) where
  abbrev go : Option Options → Option Options
  go = option_and_then (λ more. options_from more words)

  -- the word is this option, which wasn't given before, or what follows holds
  one_flag : (name : List ℕ) (was : Bool) (now : Options) (other : Option Options) → (was ≡ false → Found words now all → Found (name ∷ words) given all) → (go other ≡ Some all → Found (word ∷ words) given all)
      → go (cond (same word name && not was) (Some now) other) ≡ Some all → Found (word ∷ words) given all
  one_flag name was now other here there e =
      by_test (same word name && not was)
      (λ is.
      let first : word ≡ name = word_is word name (and_left (same word name) (not was) is) in
      let free : was ≡ false = not_to_false was (and_right (same word name) (not was) is) in
      let more : options_from now words ≡ Some all = sym (ap (λ b. go (cond b (Some now) other)) is) ∙ e in
      subst (λ (w : List ℕ). Found (w ∷ words) given all) (sym first) (here free (rest now more)))
      (λ isnt. there (sym (ap (λ b. go (cond b (Some now) other)) isnt) ∙ e))

  flag_case : go (flag_of word given) ≡ Some all → Found (word ∷ words) given all
  flag_case =
      one_flag (codes "--csv") given.csv (with_csv given) _ (csv_more words given all)
      (one_flag (codes "--trace") given.trace (with_trace given) _ (trace_more words given all)
      (one_flag (codes "--prices") given.prices (with_prices given) None (prices_more words given all) (λ e. absurd (none_some e))))

  module _ (first : List ℕ) where
    nodes_found : (n : Option ℕ) → number_of 1 1000000 word ≡ n → given.nodes ≡ None → option_and_then (λ more. options_from more words) (option_map (with_nodes given) n) ≡ Some all → Found (codes "--nodes" ∷ word ∷ words) given all
    nodes_found None is free e = absurd (none_some e)
    nodes_found (Some n) is free e = nodes_more word n words given all free (number_is 1 1000000 word n is) (rest (with_nodes given n) e)

    schedule_found : (n : Option ℕ) → number_of 0 4294967295 word ≡ n → given.schedule ≡ None → option_and_then (λ more. options_from more words) (option_map (with_schedule given) n) ≡ Some all → Found (codes "--schedule" ∷ word ∷ words) given all
    schedule_found None is free e = absurd (none_some e)
    schedule_found (Some n) is free e = schedule_more word n words given all free (number_is 0 4294967295 word n is) (rest (with_schedule given n) e)

    -- the words begin with an option and its number
    number_case : option_and_then (λ more. options_from more words) (numbered_of first word given) ≡ Some all → Found (first ∷ word ∷ words) given all
    number_case e =
        let K : Option Options → Option Options = option_and_then (λ more. options_from more words) in
        let A : Option Options = option_map (with_nodes given) (number_of 1 1000000 word) in
        let B : Option Options = option_map (with_schedule given) (number_of 0 4294967295 word) in
        by_test (same first (codes "--nodes") && is_none given.nodes)
        (λ is.
        let is_nodes : first ≡ codes "--nodes" = word_is first (codes "--nodes") (and_left (same first (codes "--nodes")) (is_none given.nodes) is) in
        let free : given.nodes ≡ None = none_is given.nodes (and_right (same first (codes "--nodes")) (is_none given.nodes) is) in
        subst (λ (w : List ℕ). Found (w ∷ word ∷ words) given all) (sym is_nodes) (nodes_found (number_of 1 1000000 word) refl free (sym (ap (λ b. K (cond b A (cond (same first (codes "--schedule") && is_none given.schedule) B None))) is) ∙ e)))
        (λ isnt.
        let next : K (cond (same first (codes "--schedule") && is_none given.schedule) B None) ≡ Some all = sym (ap (λ b. K (cond b A (cond (same first (codes "--schedule") && is_none given.schedule) B None))) isnt) ∙ e in
        by_test (same first (codes "--schedule") && is_none given.schedule)
        (λ is.
        let is_schedule : first ≡ codes "--schedule" = word_is first (codes "--schedule") (and_left (same first (codes "--schedule")) (is_none given.schedule) is) in
        let free : given.schedule ≡ None = none_is given.schedule (and_right (same first (codes "--schedule")) (is_none given.schedule) is) in
        subst (λ (w : List ℕ). Found (w ∷ word ∷ words) given all) (sym is_schedule) (schedule_found (number_of 0 4294967295 word) refl free (sym (ap (λ b. K (cond b B None)) is) ∙ next)))
        (λ none. absurd (none_some (sym (ap (λ b. K (cond b B None)) none) ∙ next))))

found : (words : List (List ℕ)) (given all : Options) → options_from given words ≡ Some all → Found words given all
found [] given all e = record {
  said = no_options;
  are = none;
  apart = record { nodes = inr refl; schedule = inr refl; csv = never_both given.csv; trace = never_both given.trace; prices = never_both given.prices };
  is = sym (some_same e) ∙ sym (both_none given);
}
found (word ∷ []) given all e = flag_case word [] given all (λ more f. found [] more all f) (and_some (flag_of word given) ∙ e)
found (word ∷ following ∷ words) given all e =
    by_test (is_flag word)
    (λ is. flag_case word (following ∷ words) given all (λ more f. found (following ∷ words) more all f) (sym (flag_step given word (following ∷ words) is) ∙ e))
    (λ isnt. number_case following words given all (λ more f. found words more all f) word
    (passed (is_flag word) _ _ isnt e))

-- from no options on
pub options_are_said : (words : List (List ℕ)) (all : Options) → options_from no_options words ≡ Some all → AreOptions words all
options_are_said words all e = let f = found words no_options all e in subst (λ (o : Options). AreOptions words o) (sym f.is) f.are
