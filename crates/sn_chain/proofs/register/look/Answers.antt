use Rattle.std.proofs.Common.{◌≡◌, ◌-◌, ◌<◌, ℕ, [], Option, Some, None, length, true, false, is_none, get_or, ap, sym, ◌∙◌, arith}
use Rattle.std.proofs.lemmas.List.{get_or_default}
use Rattle.sn_base.specs.Groups.{Row, same_row}
use Rattle.sn_base.proofs.Lists.{nat_same}
use Rattle.sn_chain.specs.Cells.{all_shown}
use Rattle.sn_chain.specs.Chain.{place_for, places_of}
use Rattle.sn_chain.specs.Found.{found_at}
use Rattle.sn_chain.specs.Marks.{mark_at}
use Rattle.sn_chain.specs.Registers.{cell, holds, held_place, empty_place}
use Rattle.sn_chain.proofs.MarkLemmas.{empty_unmarked, held_marked, word_within}
use Rattle.sn_chain.proofs.Places.{place_found, place_passed, register_within}
use Rattle.sn_chain.proofs.ShownLemmas.{length-all_shown, read_held}
use Rattle.sn_chain.proofs.StandLemmas.{none_later}
use Rattle.sn_chain.proofs.register.look.Goals as goal

pub place-at-requires-clause-known : goal.place-at-requires-clause-known
place-at-requires-clause-known g c = λ at is. let below : c.loop-register.register < c.args.depth = omega arith in c.requires.known at is c.loop-register.register below

pub is_marked-requires : goal.is_marked-requires
is_marked-requires g c =
    let cells = all_shown c.args.marks.now c.args.cells.now in
    let register = c.loop-register.register in
    let below : register < c.args.depth = omega arith in
    let inside : c.place-at.result < length cells = omega (arith, register_within c.args.depth register c.args.slots below, length-all_shown c.args.marks.now c.args.cells.now) in
    word_within c.args.marks.now cells c.requires.marks c.place-at.result inside

pub returns-then-not-is_marked-clause-found : goal.returns-then-not-is_marked-clause-found
returns-then-not-is_marked-clause-found g c =
    let cells = all_shown c.args.marks.now c.args.cells.now in
    let key = g.R.Columns.columns c.args.key.now in
    let slots = c.args.slots in
    let depth = c.args.depth in
    let at = c.place-at.result in
    let register = c.loop-register.register in
    let below : register < depth = omega arith in
    let here : is_none (cell cells (place_for slots key register)) ≡ true =
    ap (λ (p : ℕ). is_none (cell cells p)) (sym c.place-at.ensures.value)
    ∙ empty_unmarked c.args.marks.now cells c.requires.marks at (sym c.is_marked.ensures ∙ c.if-not-is_marked.true) in
    let free : empty_place cells (places_of depth slots key) ≡ Some at =
    sym c.loop-register.invariant.empty
    ∙ place_found (λ (p : ℕ). is_none (cell cells p)) slots register depth key below here
    ∙ ap (λ (p : ℕ). Some p) (sym c.place-at.ensures.value) in
    let none : held_place same_row cells (places_of depth slots key) key ≡ None =
    sym c.loop-register.invariant.held ∙ none_later depth slots cells c.requires.stand register (depth - register) key here in
    sym (ap (λ (o : Option ℕ). found_at o (empty_place cells (places_of depth slots key))) none ∙ ap (found_at None) free)

pub returns-then-has-clause-found : goal.returns-then-has-clause-found
returns-then-has-clause-found g c =
    let marks = c.args.marks.now in
    let all = c.args.cells.now in
    let cells = all_shown marks all in
    let key = g.R.Columns.columns c.args.key.now in
    let slots = c.args.slots in
    let at = c.place-at.result in
    let register = c.loop-register.register in
    let below : register < c.args.depth = omega arith in
    let inside : at < length all = omega (arith, register_within c.args.depth register slots below) in
    let x : Row × ℕ = get_or all at ([], 0) in
    let shows : cell cells at ≡ Some x = read_held marks all at x inside (get_or_default all at ([], 0) x inside) (nat_same (mark_at marks at) 1 (sym c.is_marked.ensures ∙ c.if-not-is_marked.false)) in
    let passes : holds same_row key (cell cells (place_for slots key register)) ≡ true =
    ap (λ (p : ℕ). holds same_row key (cell cells p)) (sym c.place-at.ensures.value)
    ∙ ap (holds same_row key) shows ∙ sym c.has.ensures ∙ c.if-has.true in
    let found : held_place same_row cells (places_of c.args.depth slots key) key ≡ Some at =
    sym c.loop-register.invariant.held
    ∙ place_found (λ (p : ℕ). holds same_row key (cell cells p)) slots register c.args.depth key below passes
    ∙ ap (λ (p : ℕ). Some p) (sym c.place-at.ensures.value) in
    sym (ap (λ (o : Option ℕ). found_at o (empty_place cells (places_of c.args.depth slots key))) found)

pub loop-register-preserved : goal.loop-register-preserved
loop-register-preserved g c =
    let marks = c.args.marks.now in
    let all = c.args.cells.now in
    let cells = all_shown marks all in
    let key = g.R.Columns.columns c.args.key.now in
    let slots = c.args.slots in
    let at = c.place-at.result in
    let register = c.loop-register.register in
    let below : register < c.args.depth = omega arith in
    let inside : at < length all = omega (arith, register_within c.args.depth register slots below) in
    let x : Row × ℕ = get_or all at ([], 0) in
    let shows : cell cells at ≡ Some x = read_held marks all at x inside (get_or_default all at ([], 0) x inside) (nat_same (mark_at marks at) 1 (sym c.is_marked.ensures ∙ c.if-not-is_marked.false)) in
    let fails : holds same_row key (cell cells (place_for slots key register)) ≡ false =
    ap (λ (p : ℕ). holds same_row key (cell cells p)) (sym c.place-at.ensures.value)
    ∙ ap (holds same_row key) shows ∙ sym c.has.ensures ∙ c.if-has.false in
    let held : is_none (cell cells (place_for slots key register)) ≡ false =
    ap (λ (p : ℕ). is_none (cell cells p)) (sym c.place-at.ensures.value)
    ∙ held_marked marks cells c.requires.marks at (sym c.is_marked.ensures ∙ c.if-not-is_marked.false) in
    record {
      held = place_passed (λ (p : ℕ). holds same_row key (cell cells p)) slots register c.args.depth key below fails ∙ c.loop-register.invariant.held;
      empty = place_passed (λ (p : ℕ). is_none (cell cells p)) slots register c.args.depth key below held ∙ c.loop-register.invariant.empty;
    }
