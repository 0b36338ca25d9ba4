use Rattle.std.proofs.Common.{◌≡◌, ℕ, List, [], ◌∷◌, ◌++◌, length, slice_set, slice_index_or, ap, sym, ◌∙◌}
use Rattle.std.proofs.lemmas.List.{set_at, get_or_at}
use Rattle.sn_base.specs.Groups.{Row}
use Rattle.sn_report.specs.Items.{Item}
use Rattle.sn_engine.proofs.lane_row.push_short.Goals as goal

pub returns-clause-ok : goal.returns-clause-ok
returns-clause-ok c =
    let items : List Item = c.args.items.now.items in
    let item : Item = c.args.item.now in
    let blank : Item = record { tag = item.tag; row = c.empty.result } in
    let more : List Item = c.push.new.self.items in
    let held : Item = c.index_mut.result.now in
    let last : ℕ = c.len-last.result in
    let long : length items ≡ last = sym (c.len-last.ensures ∙ c.args.items.now.ok.0) in
    let now : more ≡ items ++ blank ∷ [] = c.in_ok-push.ensures.items in
    let same : held ≡ blank = c.index_mut.ensures.value ∙ ap (λ xs. slice_index_or xs last held) now ∙ get_or_at items blank [] held last long in
    ap (λ (x : Item). slice_set more last (record { tag = x.tag; row = c.fill_row.new.row })) same
    ∙ ap (λ (row : Row). slice_set more last (record { tag = item.tag; row = row })) c.fill_row.ensures
    ∙ ap (λ xs. slice_set xs last item) now
    ∙ set_at items blank [] item last long
