-- One query more is made ready, or left out since it isn't refined.
use Rattle.std.proofs.Common.{◌≡◌, ℕ, ◌+◌, ◌<◌, ◌≤◌, List, [], ◌∷◌, ◌++◌, length, get_or, take, Bool, true, false, cond, is_some, ap, sym, ◌∙◌, subst, append-nil, arith}
use Rattle.std.proofs.lemmas.List.{length-take-le, take_more}
use Rattle.sn_command_detect.specs.Detected.{Watched, watched_from}
use Rattle.sn_command_detect.specs.Watching.{AreAfter, IsAfter}
use Rattle.sn_command_detect.proofs.EntryLemmas.{as_many, entry_at, watched_more}
use Rattle.sn_command_detect.proofs.WatchLemmas.{after_push}
use Rattle.sn_detect.specs.declared.detect.Detect.{Detect}
use Rattle.sn_plan_fit.specs.Fits.{AreEntriesOf, IsEntryOf}
use Rattle.sn_plan_grammar.specs.declared.plan.Entry.{Entry}
use Rattle.sn_types.specs.declared.typed_query.TypedQuery.{TypedQuery}
use Rattle.sn_types.specs.Typed.{query_at}

-- there is an entry for each query
pub entry_within : (queries : List TypedQuery) (entries : List Entry) (q : ℕ) → AreEntriesOf queries entries → q < length queries → q < length entries
entry_within queries entries q h lt = let many = as_many queries entries h in omega (arith, lt, many)

pub entry_of : (queries : List TypedQuery) (entries : List Entry) (q : ℕ) (e d : Entry) → AreEntriesOf queries entries → q < length queries → e ≡ get_or entries q d → IsEntryOf (query_at queries q) e
entry_of queries entries q e d h lt at = subst (IsEntryOf (query_at queries q)) (sym at) (entry_at queries entries q d h lt)

module _ (queries : List TypedQuery) (entries : List Entry) (q : ℕ) (e d : Entry) (within : q < length entries) (at : e ≡ get_or entries q d) where
  abbrev front : List Watched
  front = watched_from queries 0 (take q entries)

  one_more : (b : Bool) → is_some (query_at queries q).field ≡ b → watched_from queries 0 (take (q + 1) entries) ≡ front ++ cond b ((q, e.levels) ∷ []) []
  one_more b is =
      let le : q ≤ length entries = omega (arith, within) in
      let long : length (take q entries) ≡ q = length-take-le q entries le in
      let place : 0 + length (take q entries) ≡ q = omega (arith, long) in
      ap (watched_from queries 0) (take_more entries q d within ∙ ap (λ (f : Entry). take q entries ++ f ∷ []) (sym at))
      ∙ watched_more queries 0 (take q entries) e
      ∙ ap (λ (n : ℕ). front ++ cond (is_some (query_at queries n).field) ((n, e.levels) ∷ []) []) place
      ∙ ap (λ (c : Bool). front ++ cond c ((q, e.levels) ∷ []) []) is

  pub one_made : (ds : List Detect) (made : Detect) → is_some (query_at queries q).field ≡ true → AreAfter queries [] front ds → IsAfter queries [] (q, e.levels) made → AreAfter queries [] (watched_from queries 0 (take (q + 1) entries)) (ds ++ made ∷ [])
  one_made ds made is h new = subst (λ (xs : List Watched). AreAfter queries [] xs (ds ++ made ∷ [])) (sym (one_more true is)) (after_push queries [] front ds (q, e.levels) made h new)

  pub one_left : (ds : List Detect) → is_some (query_at queries q).field ≡ false → AreAfter queries [] front ds → AreAfter queries [] (watched_from queries 0 (take (q + 1) entries)) ds
  one_left ds isnt h = subst (λ (xs : List Watched). AreAfter queries [] xs ds) (sym (one_more false isnt ∙ append-nil front)) h
