-- The epochs of windows, one after another.
use Rattle.std.proofs.Common.{◌≡◌, ℕ, List, [], ◌∷◌, ◌++◌, true, false, cond, None, Result, Ok, Err, refl, ap, sym, ◌∙◌, subst, append_assoc, append-nil}
use Rattle.std.specs.List.{flat_map}
use Rattle.sn_base.proofs.Lists.{by_test}
use Rattle.sn_plan_grammar.specs.declared.plan.Entry.{Entry}
use Rattle.sn_types.specs.declared.typed_query.TypedQuery.{TypedQuery}
use Rattle.sn_windows.specs.Rising.{Window}
use Rattle.sn_replan.specs.Epochs.{AreEpochs, Follow, GoesOn, IsLeft, Span, Spans, epochs_from, is_over, only, span, then_from}
use Rattle.sn_emit.specs.declared.tables.Tables.{Tables}

-- a list that holds a window isn't empty
cons_nil : {w : Window} {rest : List Window} → w ∷ rest ≡ [] → ⊥
cons_nil e = cc

some_window : {G : Type 0} {w : Window} {rest : List Window} → w ∷ rest ≡ [] → G
some_window e = absurd (cons_nil e)

module _ {P F : Type 0} (queries : List TypedQuery) (tables : Tables) (entries_of : P → List Entry) (planned : Window → Result P F) (most : ℕ) where
  abbrev all : List (Span P) → List Window
  all spans = flat_map (λ (a : Span P). a.windows) spans

  abbrev Goes : P → List Window → List Window → Type 0
  Goes = GoesOn queries tables entries_of planned most

  abbrev from : P → List Window → List Window → Spans P F
  from = epochs_from queries tables entries_of planned most

  -- the epochs from one on, of which these windows were before
  record AreFrom (p : P) (past given : List Window) (s : Spans P F) : Type 0 where
    begins : Span P
    more : List (Span P)
    spans : s.spans ≡ begins ∷ more
    plan : begins.plan ≡ p
    own : List Window
    windows : begins.windows ≡ past ++ own
    holds : own ≡ [] → given ≡ []
    goes_on : Goes p past own
    follow : Follow queries tables entries_of planned most begins more s.refused
    left : List Window
    joined : all s.spans ++ left ≡ past ++ given
    is_left : IsLeft queries tables entries_of planned most left s.refused

  goes_more : (plan : P) (before own : List Window) (w : Window) → is_over queries tables entries_of planned most plan (before ++ w ∷ []) w.0 ≡ false → Goes plan (before ++ w ∷ []) own → Goes plan before (w ∷ own)
  goes_more plan before [] w under goes = tt
  goes_more plan before (v ∷ own) w under goes = (under, goes)

  -- an epoch of these windows, after which no other comes
  last_one : (plan : P) (before own : List Window) → Goes plan before own → AreFrom plan before own (only (span plan (before ++ own)) None)
  last_one plan before own goes = record {
    begins = span plan (before ++ own);
    more = [];
    spans = refl;
    plan = refl;
    own = own;
    windows = refl;
    holds = λ e. e;
    goes_on = goes;
    follow = tt;
    left = [];
    joined = append-nil _ ∙ append-nil _;
    is_left = refl;
  }

  -- the next epoch, along what is planned on the last window
  turned : (plan : P) (before : List Window) (w v : Window) (rest : List Window) (answer : Result P F) → planned w ≡ answer → is_over queries tables entries_of planned most plan (before ++ w ∷ []) w.0 ≡ true
      → ((next : P) → AreFrom next [] (v ∷ rest) (from next [] (v ∷ rest))) → AreFrom plan before (w ∷ v ∷ rest) (then_from (span plan (before ++ w ∷ [])) (λ next. from next [] (v ∷ rest)) answer)
  turned plan before w v rest (Ok next) is over follows =
      let f = follows next in
      record {
        begins = span plan (before ++ w ∷ []);
        more = (from next [] (v ∷ rest)).spans;
        spans = refl;
        plan = refl;
        own = w ∷ [];
        windows = refl;
        holds = some_window;
        goes_on = tt;
        follow = subst (λ (xs : List (Span P)). Follow queries tables entries_of planned most (span plan (before ++ w ∷ [])) xs (from next [] (v ∷ rest)).refused) (sym f.spans) (
          record { front = before; last = w; windows = refl; over = over; next = is ∙ ap Ok (sym f.plan) },
          λ e. some_window (f.holds (sym f.windows ∙ e)),
          subst (λ (ws : List Window). Goes f.begins.plan [] ws) (sym f.windows) (subst (λ (p : P). Goes p [] f.own) (sym f.plan) f.goes_on),
          f.follow,
        );
        left = f.left;
        joined = append_assoc (before ++ w ∷ []) (all (from next [] (v ∷ rest)).spans) f.left ∙ ap (λ ws. (before ++ w ∷ []) ++ ws) f.joined ∙ append_assoc before (w ∷ []) (v ∷ rest);
        is_left = f.is_left;
      }
  turned plan before w v rest (Err fault) is over follows = record {
    begins = span plan (before ++ w ∷ []);
    more = [];
    spans = refl;
    plan = refl;
    own = w ∷ [];
    windows = refl;
    holds = some_window;
    goes_on = tt;
    follow = record { front = before; last = w; windows = refl; over = over; next = is };
    left = v ∷ rest;
    joined = ap (λ ws. ws ++ v ∷ rest) (append-nil (before ++ w ∷ [])) ∙ append_assoc before (w ∷ []) (v ∷ rest);
    is_left = tt;
  }

  -- the epoch goes on
  gone_on : (plan : P) (before : List Window) (w v : Window) (rest : List Window) (s : Spans P F) → is_over queries tables entries_of planned most plan (before ++ w ∷ []) w.0 ≡ false
      → AreFrom plan (before ++ w ∷ []) (v ∷ rest) s → AreFrom plan before (w ∷ v ∷ rest) s
  gone_on plan before w v rest s under f = record {
    begins = f.begins;
    more = f.more;
    spans = f.spans;
    plan = f.plan;
    own = w ∷ f.own;
    holds = some_window;
    windows = f.windows ∙ append_assoc before (w ∷ []) f.own;
    goes_on = goes_more plan before f.own w under f.goes_on;
    follow = f.follow;
    left = f.left;
    joined = f.joined ∙ append_assoc before (w ∷ []) (v ∷ rest);
    is_left = f.is_left;
  }

  are_from : (plan : P) (before windows : List Window) → AreFrom plan before windows (from plan before windows)
  are_from plan before [] = subst (λ (ws : List Window). AreFrom plan before [] (only (span plan ws) None)) (append-nil before) (last_one plan before [] tt)
  are_from plan before (w ∷ []) = last_one plan before (w ∷ []) tt
  are_from plan before (w ∷ v ∷ rest) =
      let now : List Window = before ++ w ∷ [] in
      let turn : Spans P F = then_from (span plan now) (λ next. from next [] (v ∷ rest)) (planned w) in
      by_test (is_over queries tables entries_of planned most plan now w.0)
      (λ over. subst (λ b. AreFrom plan before (w ∷ v ∷ rest) (cond b turn (from plan now (v ∷ rest)))) (sym over)
      (turned plan before w v rest (planned w) refl over (λ next. are_from next [] (v ∷ rest))))
      (λ under. subst (λ b. AreFrom plan before (w ∷ v ∷ rest) (cond b turn (from plan now (v ∷ rest)))) (sym under)
      (gone_on plan before w v rest (from plan now (v ∷ rest)) under (are_from plan now (v ∷ rest))))

  pub are_epochs : (first : P) (windows : List Window) → AreEpochs queries tables entries_of planned most first windows (from first [] windows)
  are_epochs first windows =
      let f = are_from first [] windows in
      record {
        begins = f.begins;
        more = f.more;
        spans = f.spans;
        plan = f.plan;
        goes_on = subst (λ (ws : List Window). Goes first [] ws) (sym f.windows) f.goes_on;
        follow = f.follow;
        left = f.left;
        joined = f.joined;
        is_left = f.is_left;
      }
