-- A machine that is given one supply more, over plain values.
use Rattle.std.proofs.Common.{◌≡◌, ℕ, List, [], ◌∷◌, ◌++◌, map, Option, None, true, refl, ap, sym, subst, ◌∙◌, append_assoc, append-nil}
use Rattle.std.specs.List.{AllByRecursion}
use Rattle.sn_command_capture.specs.Gathering.{all_of}
use Rattle.sn_windows.specs.Rising.{AreRising, Window}
use Rattle.sn_core.specs.Due.{due, due_in, windows_of}
use Rattle.sn_core.specs.Needs.{is_done}
use Rattle.sn_core.specs.Numbers.{DontFall}
use Rattle.sn_core.specs.Workings.{AreLawful}
use Rattle.sn_core.specs.declared.supply.Supply.{Supply}
use Rattle.sn_core.specs.declared.supply.Supply.TheVariants.{Numbered, End}
use Rattle.sn_core.specs.declared.supply.Window.{Window as At}
use Rattle.sn_core.specs.declared.supply.Window.TheVariants.{Begun}
use Rattle.sn_core.proofs.Calling.{done_owes_none}
use Rattle.sn_plan_fit.specs.Fits.{AreEntriesOf}
use Rattle.sn_core_net.specs.States.{State, Works}
use Rattle.sn_core_net.specs.PlanWorkings.{HaveWidths}
use Rattle.sn_types.specs.declared.answers.Answers.{Answers}
use Rattle.sn_command_run.specs.Along.{IsSound, Owes, answers_for, supplies_of, reported_of}
use Rattle.sn_command_run.specs.Planned.{Planned, Telling}
use Rattle.sn_command_run.proofs.AlongLemmas.{next_answers, reported_more}
use Rattle.sn_command_run.proofs.SupplyLemmas.{all_answers, given_widths, one_supply, rising_falls}
use Rattle.std.specs.Option.{option_to_list}

abbrev Supplies : Type 0
Supplies = List (Supply (List ℕ))

-- ---- lists of answers

front_same : {X : Type 0} (xs ys : List X) (x y : X) → xs ++ x ∷ [] ≡ ys ++ y ∷ [] → xs ≡ ys
front_same [] [] x y e = refl
front_same [] (b ∷ []) x y e = absurd cc
front_same [] (b ∷ c ∷ ys) x y e = absurd cc
front_same (a ∷ []) [] x y e = absurd cc
front_same (a ∷ c ∷ xs) [] x y e = absurd cc
front_same (a ∷ xs) (b ∷ ys) x y e =
    let heads : a ≡ b = cc in
    let tails : xs ≡ ys = front_same xs ys x y cc in
    rw (heads, tails) refl

-- ---- one supply more

module _ (w : Works) (reported : Telling) (p : Planned) where
  -- what is owed, once a supply was given and these answers were found
  owes_more : (given : Supplies) (taken found : List Answers) (s t : State) (next : Supply (List ℕ)) → Owes w reported p given taken s
      → ((following : Supplies) → map reported (due w s (next ∷ following)) ≡ found ++ map reported (due w t following)) → Owes w reported p (given ++ next ∷ []) (taken ++ found) t
  owes_more given taken found s t next owes moves = λ following falls widths.
      let same : (given ++ next ∷ []) ++ following ≡ given ++ next ∷ following = append_assoc given (next ∷ []) following in
      append_assoc taken found (map reported (due w t following))
      ∙ ap (λ (rest : List Answers). taken ++ rest) (sym (moves following))
      ∙ owes (next ∷ following) (subst (DontFall 0) same falls) (subst (λ (xs : Supplies). HaveWidths (windows_of xs)) same widths)
      ∙ ap (λ (xs : Supplies). map reported (answers_for p xs)) (sym same)

  -- what is owed at the end
  pub owed : (given : List Window) (taken : List Answers) (s : State) → AreEntriesOf p.queries p.entries → AreRising None given → AllByRecursion IsSound given → Owes w reported p (supplies_of given) taken s
      → taken ++ map reported (due w s (End ∷ [])) ≡ reported_of reported p given
  owed given taken s entries r sound owes = owes (End ∷ []) (rising_falls given r) (given_widths given r sound) ∙ ap (map reported) (all_answers p given entries r sound)

  -- a begun window owes its own answers alone, where the end comes
  record One (s : State) : Type 0 where
    one : Answers
    is : due w s (End ∷ []) ≡ one ∷ []

  due_one : (s : State) (number : ℕ) → s.held ≡ None → s.window ≡ Begun number → s.waiting ≡ None → One s
  due_one s number held window waiting =
      let made : Option Answers → Option (Supply (List ℕ)) → At → List Answers = λ wait hold at. option_to_list wait ++ due_in w s (option_to_list hold ++ End ∷ []) at in
      record {
        one = _;
        is = ap (λ (wait : Option Answers). made wait s.held s.window) waiting ∙ ap (λ (hold : Option (Supply (List ℕ))). made None hold s.window) held ∙ ap (made None None) window;
      }

  -- a tuple was given, of the current window or the next one
  module _ (closed : List Window) (number : ℕ) (tuples : List (List ℕ)) (tuple : List ℕ) (taken found : List Answers) (s t : State) (entries : AreEntriesOf p.queries p.entries)
      (rising : AreRising None (closed ++ (number, tuples ++ tuple ∷ []) ∷ [])) (sound : AllByRecursion IsSound (closed ++ (number, tuples ++ tuple ∷ []) ∷ []))
      (owes : Owes w reported p (supplies_of (all_of number closed tuples)) taken s)
      (moves : (following : Supplies) → map reported (due w s (Numbered number tuple ∷ following)) ≡ found ++ map reported (due w t following))
      (held : t.held ≡ None) (window : t.window ≡ Begun number) (waiting : t.waiting ≡ None) where
    abbrev now : List Window
    now = closed ++ (number, tuples ++ tuple ∷ []) ∷ []

    some_owes : Owes w reported p (supplies_of now) (taken ++ found) t
    some_owes = subst (λ (xs : Supplies). Owes w reported p xs (taken ++ found) t) (sym (one_supply closed number tuples tuple)) (owes_more (supplies_of (all_of number closed tuples)) taken found s t (Numbered number tuple) owes moves)

    -- what was reported are the answers of the windows that were closed
    pub tuple_reported : taken ++ found ≡ reported_of reported p closed
    tuple_reported =
        let last = due_one t number held window waiting in
        front_same (taken ++ found) (reported_of reported p closed) (reported last.one) (reported (next_answers p closed number (tuples ++ tuple ∷ [])))
        (ap (λ (xs : List Answers). (taken ++ found) ++ map reported xs) (sym last.is)
        ∙ owed now (taken ++ found) t entries rising sound some_owes
        ∙ reported_more p reported closed number (tuples ++ tuple ∷ []))

    pub tuple_owes : Owes w reported p (supplies_of now) (reported_of reported p closed) t
    tuple_owes = subst (λ (xs : List Answers). Owes w reported p (supplies_of now) xs t) tuple_reported some_owes

  -- the end was given
  pub end_reported : AreLawful w → (given : List Window) (taken found : List Answers) (s t : State) → AreEntriesOf p.queries p.entries → AreRising None given → AllByRecursion IsSound given → Owes w reported p (supplies_of given) taken s
      → ((following : Supplies) → map reported (due w s (End ∷ following)) ≡ found ++ map reported (due w t following)) → is_done t ≡ true → taken ++ found ≡ reported_of reported p given
  end_reported law given taken found s t entries r sound owes moves done =
      ap (λ (xs : List Answers). taken ++ xs) (sym (append-nil found) ∙ ap (λ (xs : List Answers). found ++ map reported xs) (sym (done_owes_none w law t [] done)) ∙ sym (moves []))
      ∙ owed given taken s entries r sound owes

  -- one window more was reported, so these are its answers
  pub found_is : (closed : List Window) (number : ℕ) (tuples : List (List ℕ)) (found : List Answers) → reported_of reported p closed ++ found ≡ reported_of reported p (closed ++ (number, tuples) ∷ []) → found ≡ reported (next_answers p closed number tuples) ∷ []
  found_is closed number tuples found e = same_after (reported_of reported p closed) found (reported (next_answers p closed number tuples) ∷ []) (e ∙ reported_more p reported closed number tuples)
    where
      same_after : {X : Type 0} (xs ys zs : List X) → xs ++ ys ≡ xs ++ zs → ys ≡ zs
      same_after [] ys zs e = e
      same_after (x ∷ xs) ys zs e = same_after xs ys zs cc
