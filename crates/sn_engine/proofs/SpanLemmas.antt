-- Spans widened item by item.
use Rattle.std.proofs.Common.{◌≡◌, ℕ, ◌+◌, ◌<◌, List, map, take, length, get_or, false, ap, sym, ◌∙◌}
use Rattle.sn_ops.proofs.Steps.{filter_refused}
use Rattle.sn_pipe_items.specs.Value.{is_at}
use Rattle.sn_report.specs.Items.{Item}
use Rattle.sn_engine.specs.Spans.{Covers, IsOutside}
use Rattle.sn_engine.specs.declared.rows.Span.{Span}

pub covers_more : (before after : Span) (items : List Item) (i : ℕ) (item : Item) → i < length items → item ≡ get_or items i item → Covers before (take i items)
    → ((operator : ℕ) → IsOutside operator after → IsOutside operator before × (is_at operator item.tag ≡ false)) → Covers after (take (i + 1) items)
covers_more before after items i item within at covers wider operator outside =
    let w = wider operator outside in
    sym (ap (map (λ (x : Item). x.row)) (filter_refused (λ (x : Item). is_at operator x.tag) items i item within at w.1)) ∙ covers operator w.0
