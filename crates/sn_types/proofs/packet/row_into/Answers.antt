use Rattle.std.proofs.Common.{ℕ, ◌≡◌, ◌+◌, ◌<◌, length, map, List, [], ◌∷◌, ◌++◌, take, get_or, ap, sym, subst, ◌∙◌, refl}
use Rattle.std.proofs.lemmas.List.{length-set, take_more, map-append}
use Rattle.std.proofs.lemmas.Grind.{take-set_at}
use Rattle.sn_fields.specs.declared.field.Field.TheVariants.{PacketLength}
use Rattle.sn_types.specs.Typed.{read_at}
use Rattle.sn_types.proofs.KindLemmas.{below_at}
use Rattle.sn_types.proofs.RowsAfter.{field_more}
use Rattle.sn_types.proofs.packet.row_into.Goals as goal

pub loop-place-preserved : goal.loop-place-preserved
loop-place-preserved g c =
    let i = c.loop-place.place in
    let fields = c.args.fields.now in
    let all = g.R.Columns.columns c.loop-place.row in
    let row = take i all in
    let longer = take (i + 1) (g.R.Columns.columns c.set.new.self) in
    let x = g.R.Number.Number.value c.read_at.result in
    let read = read_at c.args.refined c.args.level c.args.tuple.now in
    let within : i < length fields = c.loop-place-test.true in
    let before = c.loop-place.invariant in
    let now : longer ≡ row ++ x ∷ [] = ap (take (i + 1)) c.set.ensures ∙ take-set_at all i (i + 1) x refl (subst (λ n. i < n) (sym before.long) within) in
    record {
      long = ap length c.set.ensures ∙ length-set all i x ∙ before.long;
      row = now ∙ ap (λ (y : ℕ). row ++ y ∷ []) c.read_at.ensures.value ∙ ap (λ (r : List ℕ). r ++ read (get_or fields i PacketLength) ∷ []) before.row
          ∙ sym (ap (map read) (take_more fields i PacketLength within) ∙ map-append read (take i fields) (get_or fields i PacketLength ∷ []));
      columns = field_more fields i PacketLength row longer x within c.read_at.ensures.below now before.columns;
    }

pub read_at-requires-clause-below : goal.read_at-requires-clause-below
read_at-requires-clause-below g c = below_at g.R.Number.Number.limit c.args.fields.now c.loop-place.place c.requires.below c.loop-place-test.true
