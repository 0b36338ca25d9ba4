-- What windows give to a machine, and back.
use Rattle.std.proofs.Common.{◌≡◌, ℕ, ◌<◌, ◌≤◌, List, [], ◌∷◌, ◌++◌, map, Option, None, Some, true, false, refl, ap, sym, subst, ◌∙◌, append_assoc, append-nil, arith}
use Rattle.std.specs.Prelude.{nat_eq}
use Rattle.std.specs.List.{AllByRecursion}
use Rattle.std.proofs.lemmas.Bool.{eq-eqb, ne_eqb}
use Rattle.std.proofs.lemmas.Grind.{flat_map-append}
use Rattle.std.proofs.lemmas.List.{map-append}
use Rattle.sn_base.proofs.Lists.{map_both, all_unmap}
use Rattle.sn_command_capture.specs.Gathering.{all_of}
use Rattle.sn_windows.specs.Rising.{AreRising, Window}
use Rattle.sn_core.specs.Due.{Tuples, before_windows, windows_of}
use Rattle.sn_core.specs.Numbers.{DontFall}
use Rattle.sn_core.specs.declared.supply.Supply.{Supply}
use Rattle.sn_core.specs.declared.supply.Supply.TheVariants.{Numbered, End}
use Rattle.sn_engine_lockstep.specs.Windows.{plan_answers}
use Rattle.sn_engine_lockstep.proofs.Laws.{all_windows}
use Rattle.sn_plan_fit.specs.Fits.{AreEntriesOf}
use Rattle.sn_core_net.specs.PlanWorkings.{HaveWidths, given_of}
use Rattle.sn_refine.specs.Steps as refine
use Rattle.sn_types.specs.declared.answers.Answers.{Answers}
use Rattle.sn_types.specs.Typed.{HasWidths}
use Rattle.sn_command_run.specs.Along.{IsSound, answers_for, answers_of, supplies_in, supplies_of}
use Rattle.sn_command_run.specs.Planned.{Planned}

abbrev Supplies : Type 0
Supplies = List (Supply (List ℕ))

-- the end comes after the windows
abbrev pub and_end : List Window → Supplies
and_end given = supplies_of given ++ End ∷ []

-- ---- one tuple more

pub one_supply : (closed : List Window) (number : ℕ) (tuples : List (List ℕ)) (tuple : List ℕ) → supplies_of (closed ++ (number, tuples ++ tuple ∷ []) ∷ []) ≡ supplies_of (all_of number closed tuples) ++ Numbered number tuple ∷ []
one_supply closed number [] tuple = flat_map-append supplies_in closed ((number, tuple ∷ []) ∷ [])
one_supply closed number (t ∷ ts) tuple =
    let one : Supplies = Numbered number tuple ∷ [] in
    let own : Supplies = map (Numbered number) (t ∷ ts) in
    let split : map (Numbered number) ((t ∷ ts) ++ tuple ∷ []) ≡ own ++ one = map-append (Numbered number) (t ∷ ts) (tuple ∷ []) in
    flat_map-append supplies_in closed ((number, (t ∷ ts) ++ tuple ∷ []) ∷ [])
    ∙ ap (λ (xs : Supplies). supplies_of closed ++ xs) (append-nil (map (Numbered number) ((t ∷ ts) ++ tuple ∷ [])) ∙ split)
    ∙ sym (append_assoc (supplies_of closed) own one)
    ∙ ap (λ (xs : Supplies). (supplies_of closed ++ xs) ++ one) (sym (append-nil own))
    ∙ ap (λ (xs : Supplies). xs ++ one) (sym (flat_map-append supplies_in closed ((number, t ∷ ts) ∷ [])))

-- ---- the numbers don't fall

falls_weaker : (least n : ℕ) (rest : Supplies) → least ≤ n → DontFall n rest → DontFall least rest
falls_weaker least n [] le h = tt
falls_weaker least n (End ∷ rest) le h = tt
falls_weaker least n (Numbered m t ∷ rest) le h = (let first = h.0 in omega arith, h.1)

falls_front : (least n : ℕ) (tuples : List (List ℕ)) (rest : Supplies) → least ≤ n → DontFall n rest → DontFall least (map (Numbered n) tuples ++ rest)
falls_front least n [] rest le h = falls_weaker least n rest le h
falls_front least n (t ∷ ts) rest le h = (le, falls_front n n ts rest (omega arith) h)

falls_from : (least : ℕ) (w : Window) (given : List Window) → least ≤ w.0 → AreRising (Some w.0) given → DontFall least (and_end (w ∷ given))
falls_from least w [] le r = subst (DontFall least) (sym (append_assoc (supplies_in w) [] (End ∷ []))) (falls_front least w.0 w.1 (End ∷ []) le tt)
falls_from least w (v ∷ given) le r =
    subst (DontFall least) (sym (append_assoc (supplies_in w) (supplies_of (v ∷ given)) (End ∷ [])))
    (falls_front least w.0 w.1 (and_end (v ∷ given)) le (falls_from w.0 v given (let lt = r.0 in omega arith) r.1))

pub rising_falls : (given : List Window) → AreRising None given → DontFall 0 (and_end given)
rising_falls [] r = tt
rising_falls (w ∷ given) r = falls_from 0 w given (omega arith) r.1

-- ---- the windows are those that were given

abbrev Later : ℕ → List (Tuples (List ℕ)) → Type 0
Later n [] = Unit {0}
Later n (x ∷ xs) = n < x.number

later_of : (n : ℕ) (xs : List (Tuples (List ℕ))) → AreRising (Some n) (map given_of xs) → Later n xs
later_of n [] r = tt
later_of n (x ∷ xs) r = r.0

before_later : (n : ℕ) (t : List ℕ) (xs : List (Tuples (List ℕ))) → Later n xs → before_windows n t xs ≡ (record { number = n; tuples = t ∷ [] }) ∷ xs
before_later n t [] h = refl
before_later n t (x ∷ xs) h = let no : nat_eq x.number n ≡ false = ne_eqb x.number n (λ e. omega arith) in rw no refl

before_same : (n : ℕ) (t : List ℕ) (tuples : List (List ℕ)) (xs : List (Tuples (List ℕ))) → before_windows n t ((record { number = n; tuples = tuples }) ∷ xs) ≡ (record { number = n; tuples = t ∷ tuples }) ∷ xs
before_same n t tuples xs = let same : nat_eq n n ≡ true = eq-eqb n n refl in rw same refl

window_front : (n : ℕ) (t : List ℕ) (ts : List (List ℕ)) (rest : Supplies) → Later n (windows_of rest) → windows_of (map (Numbered n) (t ∷ ts) ++ rest) ≡ (record { number = n; tuples = t ∷ ts }) ∷ windows_of rest
window_front n t [] rest h = before_later n t (windows_of rest) h
window_front n t (u ∷ us) rest h = ap (before_windows n t) (window_front n u us rest h) ∙ before_same n t (u ∷ us) (windows_of rest)

pub windows_back : (before : Option ℕ) (given : List Window) → AreRising before given → AllByRecursion IsSound given → map given_of (windows_of (and_end given)) ≡ given
windows_back before [] r sound = refl
windows_back before ((n, []) ∷ given) r sound = absurd (let some = sound.0.some in omega arith)
windows_back before ((n, t ∷ ts) ∷ given) r sound =
    let rest : Supplies = and_end given in
    let back : map given_of (windows_of rest) ≡ given = windows_back (Some n) given r.1 sound.1 in
    let later : Later n (windows_of rest) = later_of n (windows_of rest) (subst (AreRising (Some n)) (sym back) r.1) in
    ap (λ (xs : Supplies). map given_of (windows_of xs)) (append_assoc (map (Numbered n) (t ∷ ts)) (supplies_of given) (End ∷ []))
    ∙ ap (map given_of) (window_front n t ts rest later)
    ∙ ap (λ (ws : List Window). (n, t ∷ ts) ∷ ws) back

all_widths : (given : List Window) → AllByRecursion IsSound given → AllByRecursion (λ (w : Window). AllByRecursion HasWidths w.1) given
all_widths [] h = tt
all_widths (w ∷ given) h = (h.0.widths, all_widths given h.1)

pub given_widths : (given : List Window) → AreRising None given → AllByRecursion IsSound given → HaveWidths (windows_of (and_end given))
given_widths given r sound =
    all_unmap (λ (w : Window). AllByRecursion HasWidths w.1) given_of (windows_of (and_end given))
    (subst (AllByRecursion (λ (w : Window). AllByRecursion HasWidths w.1)) (sym (windows_back None given r sound)) (all_widths given sound))

-- ---- and so are the answers

pub all_answers : (p : Planned) (given : List Window) → AreEntriesOf p.queries p.entries → AreRising None given → AllByRecursion IsSound given → answers_for p (and_end given) ≡ answers_of p given
all_answers p given entries r sound =
    let xs : List (Tuples (List ℕ)) = windows_of (and_end given) in
    let back : map given_of xs ≡ given = windows_back None given r sound in
    let right : List Window → Window → Answers = λ ws g. plan_answers p.queries p.tables p.entries (refine.windows_of ws) g.0 in
    sym (map_both given_of (right (map given_of xs)) xs)
    ∙ ap (λ (ws : List Window). map (right ws) ws) back
    ∙ sym (all_windows p.queries p.tables p.entries given entries r)
