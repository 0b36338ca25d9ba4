-- What prices show is the same by two tables that agree on the pieces of all plans.
use Rattle.std.proofs.Common.{◌≡◌, ℕ, zero, suc, ◌+◌, ◌-◌, ◌*◌, ◌/◌, ◌<◌, List, [], ◌∷◌, drop, take, length, min, false, unwrap_or, Option, refl, ap, sym, ◌∙◌, subst, arith}
use Rattle.std.specs.List.{AllByRecursion, sum_by}
use Rattle.std.proofs.lemmas.List.Sums.{sum_by-cons}
use Rattle.sn_base.proofs.Lists.{all_weaker, index_within}
use Rattle.sn_switch.specs.declared.switch.Switch.{Switch}
use Rattle.sn_types.specs.declared.typed_query.TypedBranch.{TypedBranch}
use Rattle.sn_types.specs.declared.typed_query.TypedQuery.{TypedQuery}
use Rattle.sn_types.specs.Typed.{blank_query, branch_at, query_at}
use Rattle.sn_plan_fit.specs.Registers.{metadata}
use Rattle.sn_plan_choices.specs.Options.{option_at, options, paths}
use Rattle.sn_plan_choices.specs.Planning.{PathTask, PieceTask, pieces_of, settings, slots_of}
use Rattle.sn_plan_choices.specs.Within.{least_below}
use Rattle.sn_windows.specs.Rising.{Window}
use Rattle.sn_cost.specs.Entries.{IsPiece}
use Rattle.sn_cost_laws.specs.Priced.{AreCounted}
use Rattle.sn_cost_laws.specs.Space.{trained_entry}
use Rattle.sn_cost_laws.proofs.Entries.{SamePath, SamePiece}
use Rattle.sn_cost_laws.proofs.Pieces.{IsPieceOf, drop_more, front_some, get_ahead, pieces_are}
use Rattle.sn_prices_grammar.specs.declared.prices.Prices.{Prices}
use Rattle.sn_prices.specs.Limits.{metadata_price, worth}
use Rattle.sn_prices.specs.Least.{least_piece, least_queries, least_query, least_stages, option_price, shown_least}

-- ---- least numbers and sums

least_same : (f g : ℕ → ℕ) (n : ℕ) → ((x : ℕ) → x < n → f x ≡ g x) → least_below f n ≡ least_below g n
least_same f g zero h = refl
least_same f g (suc zero) h = h 0 (omega arith)
least_same f g (suc (suc n)) h =
    let one = h (suc n) (omega arith) in
    let rest = least_same f g (suc n) (λ x lt. h x (omega (arith, lt))) in
    ap (λ (m : ℕ). min m (least_below f (suc n))) one ∙ ap (λ (m : ℕ). min (g (suc n)) m) rest

sums_same : {X : Type 0} (P : X → Type 0) (f g : X → ℕ) → ((x : X) → P x → f x ≡ g x) → (xs : List X) → AllByRecursion P xs → sum_by f xs ≡ sum_by g xs
sums_same P f g h [] all = refl
sums_same P f g h (x ∷ xs) all =
    sum_by-cons f x xs ∙ ap (λ (n : ℕ). n + sum_by f xs) (h x all.0) ∙ ap (λ (n : ℕ). g x + n) (sums_same P f g h xs all.1) ∙ sym (sum_by-cons g x xs)

-- ---- two tables

module _ (s : Switch) (e f : ℕ → ℕ → ℕ → ℕ → ℕ) (p : Prices) where
  option_same : (t : PieceTask) → SamePiece s e f t → (x : ℕ) → x < settings s e t → option_price s e p t x ≡ option_price s f p t x
  option_same t h x lt =
      ap (λ (n : ℕ). p.scale * n + metadata_price p (metadata t.branch.schemas false 0 (take (option_at s t.branch x).0 t.branch.ops)) + least_stages s p 0 (slots_of s e t x)) (h x lt)

  piece_same : (t : PieceTask) → SamePiece s e f t → least_piece s e p t ≡ least_piece s f p t
  piece_same t h = least_same (option_price s e p t) (option_price s f p t) (settings s e t) (option_same t h)

  query_same : (t : PathTask) → SamePath s e f t → least_query s e p t ≡ least_query s f p t
  query_same t h =
      least_same (λ m. sum_by (least_piece s e p) (pieces_of t m)) (λ m. sum_by (least_piece s f p) (pieces_of t m)) (paths t.typed.levels)
      (λ m lt. sums_same (SamePiece s e f) (least_piece s e p) (least_piece s f p) piece_same (pieces_of t m) (h m lt))

-- ---- a table that counts training windows

module _ (s : Switch) (queries : List TypedQuery) (given : List Window) (entry : ℕ → ℕ → ℕ → ℕ → ℕ) (counted : AreCounted s queries given entry) (p : Prices) where
  abbrev counts : ℕ → ℕ → ℕ → ℕ → ℕ
  counts = trained_entry s queries given

  counted_piece : (n : ℕ) → n < length queries → (t : PieceTask) → IsPieceOf n (query_at queries n) t → SamePiece s entry counts t
  counted_piece n lt t is x within =
      let options_of : length (options s t.branch) ≡ length (options s (branch_at queries n t.number)) = ap (λ (b : TypedBranch). length (options s b)) is.of_branch in
      let piece : IsPiece s queries n t.levels t.number x = record {
        of_query = lt;
        of_levels = is.below;
        some_level = front_some t.levels (query_at queries n).levels is.some is.below;
        of_branch = is.of_number;
        of_option = omega (arith, within, options_of);
      } in
      ap (λ (q : ℕ). entry q t.levels t.number x) is.of_query ∙ counted n t.levels t.number x piece ∙ ap (λ (q : ℕ). counts q t.levels t.number x) (sym is.of_query)

  counted_path : (n : ℕ) → n < length queries → SamePath s entry counts (record { query = n; typed = query_at queries n })
  counted_path n lt m within = all_weaker (IsPieceOf n (query_at queries n)) (SamePiece s entry counts) (counted_piece n lt) _ (pieces_are n (query_at queries n) m)

  queries_same : (n : ℕ) (qs : List TypedQuery) → drop n queries ≡ qs → least_queries s entry p n qs ≡ least_queries s counts p n qs
  queries_same n [] at = refl
  queries_same n (q ∷ qs) at =
      let here = get_ahead queries n q qs at in
      let is : query_at queries n ≡ q = ap (λ (o : Option TypedQuery). unwrap_or o blank_query) here in
      let next : n + 1 ≡ suc n = omega arith in
      let path : SamePath s entry counts (record { query = n; typed = q }) =
      subst (λ (x : TypedQuery). SamePath s entry counts (record { query = n; typed = x })) is (counted_path n (index_within queries n q here)) in
      let one = query_same s entry counts p (record { query = n; typed = q }) path in
      let rest = queries_same (n + 1) qs (ap (λ (k : ℕ). drop k queries) next ∙ drop_more queries n q qs at) in
      ap (λ (m : ℕ). m + least_queries s entry p (n + 1) qs) one ∙ ap (λ (m : ℕ). least_query s counts p (record { query = n; typed = q }) + m) rest

  pub shown_alike : shown_least s entry p queries ≡ shown_least s counts p queries
  shown_alike = ap (λ (m : ℕ). (m - worth s p + (p.scale - 1)) / p.scale) (queries_same 0 queries refl)
