-- Queries to which tuples come, with a block of them before them.
use Rattle.std.proofs.Common.{◌≡◌, List, ℕ, [], ◌∷◌, ◌++◌, append-nil, append_assoc, ap, sym, ◌∙◌}
use Rattle.sn_types.specs.declared.typed_query.TypedQuery.{TypedQuery}
use Rattle.sn_ops_stream.specs.Streams.{AllHaveTaken, HaveCome}
use Rattle.sn_ops_stream.specs.declared.streams.Streams.{Streams}

-- a tuple more stands in the block
pub block_more : (queries : List TypedQuery) (tuples : List (List ℕ)) (tuple : List ℕ) (s : Streams) (block : List (List ℕ)) → block ≡ s.block ++ tuple ∷ [] → HaveCome queries tuples s
    → HaveCome queries (tuples ++ tuple ∷ []) (record s { block = block })
block_more queries tuples tuple s block is h =
    (h.0, h.1, ap (λ (ts : List (List ℕ)). h.0 ++ ts) is ∙ sym (append_assoc h.0 s.block (tuple ∷ [])) ∙ ap (λ (ts : List (List ℕ)). ts ++ tuple ∷ []) h.2)

-- queries have taken all tuples, and the block is empty
pub all_come : (queries : List TypedQuery) (tuples : List (List ℕ)) (s : Streams) → AllHaveTaken queries tuples s.streams.items → s.block ≡ [] → HaveCome queries tuples s
all_come queries tuples s all none = (tuples, all, ap (λ (ts : List (List ℕ)). tuples ++ ts) none ∙ append-nil tuples)
