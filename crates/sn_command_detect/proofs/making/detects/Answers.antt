use Rattle.std.proofs.Common.{◌≡◌, ℕ, ◌+◌, ◌<◌, ◌≤◌, List, [], ◌∷◌, length, get_or, take, is_some, true, false, ◌++◌, refl, ap, sym, ◌∙◌, subst, arith}
use Rattle.std.proofs.lemmas.List.{take_all}
use Rattle.std.specs.declared.alloc.Global.{Global}
use Rattle.std.specs.declared.vec.Vec.{Vec}
use Rattle.sn_command_detect.specs.Detected.{watched_from}
use Rattle.sn_command_detect.specs.Watching.{AreAfter}
use Rattle.sn_detect.specs.declared.detect.Detect.{Detect}
use Rattle.sn_plan_grammar.specs.declared.plan.Entry.{Entry}
use Rattle.sn_refine.specs.Steps.{IsPathOf}
use Rattle.sn_refine_laws.specs.Reported.{EndsFinest}
use Rattle.sn_types.specs.Typed.{query_at}
use Rattle.sn_command_detect.proofs.EntryLemmas.{as_many, path_ends, path_of, path_some}
use Rattle.sn_command_detect.proofs.MakingLemmas.{entry_of, entry_within, one_left, one_made}
use Rattle.sn_command_detect.proofs.making.detects.Goals as goal
use Rattle.sn_command_detect.proofs.making.detects.Goals.{then-is_some+in_ok-detect+in_ok-push, else-is_some}

blank : Entry
blank = record { name = []; levels = []; pieces = [] }

pub bounds-entries-q : goal.bounds-entries-q
bounds-entries-q c =
    let q = c.loop-q.q in
    let within : q < length c.args.typed.now.queries = let test = c.loop-q-test.true in let end = c.queries-q-end.ensures in omega arith in
    entry_within c.args.typed.now.queries c.args.entries.now q c.requires within

pub make-requires-clause-path : goal.make-requires-clause-path
make-requires-clause-path c =
    let queries = c.args.typed.now.queries in
    let q = c.loop-q.q in
    let e = get_or c.args.entries.now q c.index-entries-q.result in
    let within : q < length queries = let test = c.loop-q-test.true in let end = c.queries-q-end.ensures in omega arith in
    let entry = entry_of queries c.args.entries.now q e c.index-entries-q.result c.requires within refl in
    let some : is_some (query_at queries q).field ≡ true = sym (c.is_some.ensures ∙ ap is_some c.refine_field.ensures) ∙ c.if-is_some.true in
    subst (λ (path : List ℕ). IsPathOf queries q path) (sym c.as_slice-levels.ensures.value) (path_of queries q e.levels within entry.path some)

pub make-requires-clause-some : goal.make-requires-clause-some
make-requires-clause-some c =
    let queries = c.args.typed.now.queries in
    let q = c.loop-q.q in
    let e = get_or c.args.entries.now q c.index-entries-q.result in
    let within : q < length queries = let test = c.loop-q-test.true in let end = c.queries-q-end.ensures in omega arith in
    let entry = entry_of queries c.args.entries.now q e c.index-entries-q.result c.requires within refl in
    subst (λ (path : List ℕ). 1 ≤ length path) (sym c.as_slice-levels.ensures.value) (path_some (query_at queries q).levels e.levels entry.path)

pub make-requires-clause-ends : goal.make-requires-clause-ends
make-requires-clause-ends c =
    let queries = c.args.typed.now.queries in
    let q = c.loop-q.q in
    let e = get_or c.args.entries.now q c.index-entries-q.result in
    let within : q < length queries = let test = c.loop-q-test.true in let end = c.queries-q-end.ensures in omega arith in
    let entry = entry_of queries c.args.entries.now q e c.index-entries-q.result c.requires within refl in
    subst (λ (path : List ℕ). EndsFinest (query_at queries q) path) (sym c.as_slice-levels.ensures.value) (path_ends (query_at queries q) e.levels entry.path)

pub loop-q-preserved : goal.loop-q-preserved
loop-q-preserved c =
    let queries = c.args.typed.now.queries in
    let entries = c.args.entries.now in
    let q = c.loop-q.q in
    let many : length entries ≡ length queries = as_many queries entries c.requires in
    let within : q < length entries = let test = c.loop-q-test.true in let end = c.queries-q-end.ensures in omega (arith, many) in
    let before = c.loop-q.made.items in
    elim c.if-is_some.branch [
      | then-is_some+in_ok-detect+in_ok-push w ↦
          let e = get_or entries q w.index-entries-q.result in
          let some : is_some (query_at queries q).field ≡ true = sym (c.is_some.ensures ∙ ap is_some c.refine_field.ensures) ∙ w.if-is_some.true in
          let d = w.in_ok-detect.ensures in
          let made : w.push.new.self.items ≡ before ++ w.in_ok-detect.detect ∷ [] = w.in_ok-push.ensures.items in
          subst (λ (ds : List Detect). AreAfter queries [] (watched_from queries 0 (take (q + 1) entries)) ds) (sym (ap (λ (v : Vec Detect Global). v.items) w.made-is ∙ made))
          (one_made queries entries q e w.index-entries-q.result within refl before w.in_ok-detect.detect some c.loop-q.invariant
          (record { queries_are = d.queries; query = d.query; path = d.path ∙ w.as_slice-levels.ensures.value; last = d.last; kept = d.kept; looks = d.looks }))
      | else-is_some w ↦
          let isnt : is_some (query_at queries q).field ≡ false = sym (c.is_some.ensures ∙ ap is_some c.refine_field.ensures) ∙ w.if-is_some.false in
          subst (λ (ds : List Detect). AreAfter queries [] (watched_from queries 0 (take (q + 1) entries)) ds) (sym (ap (λ (v : Vec Detect Global). v.items) w.made-is))
          (one_left queries entries q (get_or entries q blank) blank within refl before isnt c.loop-q.invariant)
    ]

pub returns : goal.returns
returns c =
    let queries = c.args.typed.now.queries in
    let entries = c.args.entries.now in
    let many : length entries ≡ length queries = as_many queries entries c.requires in
    let all : length entries ≤ c.loop-q.q = let test = c.loop-q-test.false in let end = c.queries-q-end.ensures in omega (arith, many) in
    subst (λ (es : List Entry). AreAfter queries [] (watched_from queries 0 es) c.loop-q.made.items) (take_all c.loop-q.q entries all) c.loop-q.invariant
