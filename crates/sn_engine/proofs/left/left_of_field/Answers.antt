use Rattle.std.proofs.Common.{◌≡◌, List, map, None, Some, Option, unwrap_or, ap, sym, ◌∙◌}
use Rattle.std.specs.Option.{option_map}
use Rattle.sn_base.specs.Groups.{Row}
use Rattle.sn_engine_split.specs.Opened.{keeps_in}
use Rattle.sn_pipe_items.specs.Left.{left_of}
use Rattle.sn_report.specs.Items.{Item, item_by}
use Rattle.sn_engine.specs.AnyItems.{items_in}
use Rattle.sn_engine.proofs.OfKinds.{same_items}
use Rattle.sn_engine.proofs.left.left_of_field.Goals as goal
use Rattle.sn_engine.proofs.left.left_of_field.Goals.{in-Short+in_ok-found-in-Short+in-Some, in-Wide+in_ok-found-in-Wide+in-Some-2}

abbrev as_lists : List Item → List Item
as_lists items = map (item_by (λ (row : Row). row)) items

-- what is left of items: those that are given, or all
given : {V : Type 0} (found : Option V) (of : V → List Item) (test : List Item → List Item) (held items : List Item) → held ≡ items
    → unwrap_or (option_map (λ left. as_lists (of left)) found) (as_lists held) ≡ test (as_lists held) → unwrap_or (option_map of found) items ≡ test items
given None of test held items same is = sym same ∙ sym (same_items held) ∙ is ∙ ap test (same_items held ∙ same)
given (Some left) of test held items same is = sym (same_items (of left)) ∙ is ∙ ap test (same_items held ∙ same)

all_left : {V : Type 0} (found : Option V) (of : V → List Item) (items : List Item) → found ≡ None → items ≡ unwrap_or (option_map of found) items
all_left found of items is = sym (ap (λ o. unwrap_or (option_map of o) items) is)

some_left : {V : Type 0} (found : Option V) (of : V → List Item) (items : List Item) (left : V) → found ≡ Some left → of left ≡ unwrap_or (option_map of found) items
some_left found of items left is = sym (ap (λ o. unwrap_or (option_map of o) items) is)

pub returns-in-None : goal.returns-in-None
returns-in-None c =
    let items = c.args.items.now in
    let test : List Item → List Item = left_of (keeps_in (Some c.args.field) c.args.branch.now (Some (c.args.bits, c.args.members.now))) in
    let found = c.in_ok-found-in-Short.field-0 in
    let same : c.as_slice.result.now ≡ items = c.as_slice.ensures.value ∙ ap items_in (sym c.in-Short.is) ∙ c.kind.ensures in
    all_left found (λ left. left.items) items c.in-None.is ∙ given found (λ left. left.items) test c.as_slice.result.now items same c.in_ok-found-in-Short.ensures

pub returns-in-None-2 : goal.returns-in-None-2
returns-in-None-2 c =
    let items = c.args.items.now in
    let test : List Item → List Item = left_of (keeps_in (Some c.args.field) c.args.branch.now (Some (c.args.bits, c.args.members.now))) in
    let found = c.in_ok-found-in-Wide.field-0 in
    let same : c.as_slice-in-Wide.result.now ≡ items = c.as_slice-in-Wide.ensures.value ∙ ap items_in (sym c.in-Wide.is) ∙ c.kind.ensures in
    all_left found (λ left. left.items) items c.in-None-2.is ∙ given found (λ left. left.items) test c.as_slice-in-Wide.result.now items same c.in_ok-found-in-Wide.ensures

pub returns : goal.returns
returns c =
    let items = c.args.items.now in
    let test : List Item → List Item = left_of (keeps_in (Some c.args.field) c.args.branch.now (Some (c.args.bits, c.args.members.now))) in
    c.of.ensures ∙ elim c.match-kind.branch [
      | in-Short+in_ok-found-in-Short+in-Some w ↦
          let found = w.in_ok-found-in-Short.field-0 in
          let same : w.as_slice.result.now ≡ items = w.as_slice.ensures.value ∙ ap items_in (sym w.in-Short.is) ∙ c.kind.ensures in
          ap items_in w.held-is ∙ some_left found (λ left. left.items) items w.in-Some.found w.in-Some.is
          ∙ given found (λ left. left.items) test w.as_slice.result.now items same w.in_ok-found-in-Short.ensures
      | in-Wide+in_ok-found-in-Wide+in-Some-2 w ↦
          let found = w.in_ok-found-in-Wide.field-0 in
          let same : w.as_slice-in-Wide.result.now ≡ items = w.as_slice-in-Wide.ensures.value ∙ ap items_in (sym w.in-Wide.is) ∙ c.kind.ensures in
          ap items_in w.held-is ∙ some_left found (λ left. left.items) items w.in-Some-2.found w.in-Some-2.is
          ∙ given found (λ left. left.items) test w.as_slice-in-Wide.result.now items same w.in_ok-found-in-Wide.ensures
    ]
