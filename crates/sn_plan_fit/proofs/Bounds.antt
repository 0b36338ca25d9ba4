-- The sums of a plan whose pieces fit are small.
use Rattle.std.proofs.Common.{◌≡◌, ℕ, zero, suc, ◌+◌, ◌*◌, ◌^◌, ◌≤◌, ◌<◌, List, [], ◌∷◌, map, take, drop, length, sum_by, Bool, true, false, ◌||◌, cond, nat_eq, Option, Some, None, IfSome, slice_get, refl, ap, sym, ◌∙◌, subst, arith, length-append, length-drop}
use Rattle.std.specs.Prelude.{◌==◌, slice_index}
use Rattle.std.specs.List.{AllByRecursion, list_any}
use Rattle.std.proofs.lemmas.List.{length-map, length-take}
use Rattle.std.proofs.lemmas.List.Sums.{sum_by-cons}
use Rattle.std.proofs.Math.Nat.{mul-le-mul_left}
use Rattle.std.proofs.Math.Bridge.{le_prop}
use Rattle.std.proofs.Math.Logic.{∥∥₁_elim}
use Rattle.sn_base.specs.declared.column.Column.{Column}
use Rattle.sn_base.proofs.Lists.{by_test, nat_same, all_append, all_map, all_weaker}
use Rattle.sn_query_grammar.specs.declared.ast.Query.{Query}
use Rattle.sn_query_grammar.specs.declared.ast.Branch.{Branch}
use Rattle.sn_query_grammar.specs.declared.ast.Refine.{Refine}
use Rattle.sn_query_grammar.specs.declared.ast.Join.{Join}
use Rattle.sn_query_grammar.specs.Limits.{QueryLimits, RefineLimits, BranchLimits, AreJoined}
use Rattle.sn_types_faults.specs.Columns.{packet_columns}
use Rattle.sn_plan_grammar.specs.declared.plan.Entry.{Entry}
use Rattle.sn_plan_grammar.specs.declared.plan.Piece.{Piece}
use Rattle.sn_switch.specs.declared.switch.Switch.{Switch}
use Rattle.sn_switch.specs.Texts.{IsSwitch}
use Rattle.sn_switch_grammar.specs.Wholes.{IsIn}
use Rattle.sn_types.specs.declared.typed_op.TOp.{TOp}
use Rattle.sn_types.specs.declared.typed_query.TypedQuery.{TypedQuery}
use Rattle.sn_types.specs.declared.typed_query.TypedBranch.{TypedBranch}
use Rattle.sn_types.specs.Typed.{IsTyped, schema_at, operator_at}
use Rattle.sn_types.specs.Typing.{typed_query, typed_branch, levels_of}
use Rattle.sn_types.proofs.Facts.{length-typed_ops, joined_few}
use Rattle.sn_plan_fit.specs.Capped.{AreSmall}
use Rattle.sn_plan_fit.specs.Paths.{path_misfit, is_among, piece_place, level_places, places}
use Rattle.sn_base.specs.Rising.{IsRising}
use Rattle.sn_types.specs.Cuts.{is_stateful, stateful}
use Rattle.sn_plan_fit.specs.Registers.{Register, in_stage, register_bits, taken, op_registers, standing_in, count_in, bits_in, row_width, width_if, is_map_op, metadata}
use Rattle.sn_plan_fit.specs.Pieces.{piece_misfit, first_misfit, prefix_of, registers_of, metadata_of, on_branch, piece_branch, entry_registers, all_registers, entry_metadata, all_metadata}
use Rattle.sn_plan_fit.specs.Fits.{IsEntryOf, AreEntriesOf, PieceFits, OnBranch, PiecesFit}
use Rattle.sn_plan_fit.proofs.Entries.{entries_are}
use Rattle.sn_plan_fit.proofs.PiecesFit.{piece_none, pieces_none}
use Rattle.sn_plan_fit.proofs.Widths.{IsNarrowBranch, slot_bits, sum_most, branch_narrow}

-- ---- what typed queries keep

pub record BranchBounds (b : TypedBranch) : Type 0 where
  pub few : length b.ops ≤ 12
  pub narrow : IsNarrowBranch b.schemas b.ops

pub record QueryBounds (q : TypedQuery) : Type 0 where
  pub branches : length q.branches ≤ 2
  pub levels : AllByRecursion (λ l. l ≤ 128) q.levels
  pub each : AllByRecursion BranchBounds q.branches

branch_bounds : (b : Branch) → BranchLimits b → BranchBounds (typed_branch b.ops)
branch_bounds b h =
    let is = length-typed_ops (packet_columns b.ops) b.ops in
    record { few = omega (arith, is, h.count.to_most); narrow = branch_narrow b.ops h.each }

pub levels_low : (refine : Option Refine) → IfSome refine RefineLimits → AllByRecursion (λ l. l ≤ 128) (levels_of refine)
levels_low None h = (omega arith, tt)
levels_low (Some r) h = h.levels

query_bounds : (q : Query) → QueryLimits q → QueryBounds (typed_query q)
query_bounds q h =
    let few = joined_few q.branches q.join h.joined in
    let is = length-map q.branches (λ (b : Branch). typed_branch b.ops) in
    record {
      branches = omega (arith, few, is);
      levels = levels_low q.refine h.refine;
      each = all_map BranchBounds (λ (b : Branch). typed_branch b.ops) q.branches (all_weaker BranchLimits (λ b. BranchBounds (typed_branch b.ops)) branch_bounds q.branches h.branches);
    }

record Bounded (queries : List TypedQuery) : Type 0 where
  count : length queries ≤ 8
  each : AllByRecursion QueryBounds queries

bounded : (window : ℕ) (queries : List TypedQuery) → IsTyped window queries → Bounded queries
bounded window queries t =
    let is = length-map t.0.queries typed_query in
    let most = t.1.limits.count.to_most in
    subst Bounded (sym t.1.same_queries) (record {
      count = omega (arith, is, most);
      each = all_map QueryBounds typed_query t.0.queries (all_weaker QueryLimits (λ q. QueryBounds (typed_query q)) query_bounds t.0.queries t.1.limits.each);
    })

-- ---- pieces of an entry

rising_short : (n : ℕ) (ms : List ℕ) → n ≤ 128 → AllByRecursion (λ q. n < q) ms → IsRising ms → AllByRecursion (λ q. q ≤ 128) ms → length ms + n ≤ 128
rising_short n [] l a h low = omega (arith, l)
rising_short n (m ∷ ms) l a h low = let rest = rising_short m ms low.0 h.0 h.1 low.1 in omega (arith, rest, a.0)

path_short : (path : List ℕ) → IsRising path → AllByRecursion (λ q. q ≤ 128) path → length path ≤ 129
path_short [] h low = omega arith
path_short (n ∷ ns) h low = let k = rising_short n ns low.0 h.0 h.1 low.1 in omega (arith, k)

among_low : (levels : List ℕ) (l : ℕ) → AllByRecursion (λ q. q ≤ 128) levels → is_among levels l ≡ true → l ≤ 128
among_low [] l low e = cc
among_low (m ∷ ms) l low e =
    by_test (nat_eq l m)
    (λ is. let same = nat_same l m is in omega (arith, same, low.0))
    (λ isnt. among_low ms l low.1 (sym (ap (λ (b : Bool). b || list_any (nat_eq l) ms) isnt) ∙ e))

path_low : (levels path : List ℕ) → AllByRecursion (λ q. q ≤ 128) levels → AllByRecursion (λ l. is_among levels l ≡ true) path → AllByRecursion (λ q. q ≤ 128) path
path_low levels path low h = all_weaker (λ (l : ℕ). is_among levels l ≡ true) (λ q. q ≤ 128) (λ l e. among_low levels l low e) path h

pub level_length : (level n : ℕ) (bs : List TypedBranch) → length (level_places level n bs) ≡ length bs
level_length level n [] = refl
level_length level n (b ∷ bs) = ap suc (level_length level (n + 1) bs)

pub places_length : (bs : List TypedBranch) (path : List ℕ) → length bs ≤ 2 → length (places bs path) ≤ 2 * length path
places_length bs [] h = omega arith
places_length bs (l ∷ ls) h =
    let rest = places_length bs ls h in
    let here = level_length l 0 bs in
    let is = length-append (level_places l 0 bs) (places bs ls) in
    omega (arith, rest, here, is, h)

few_pieces : (q : TypedQuery) (e : Entry) → QueryBounds q → IsEntryOf q e → length e.pieces ≤ 258
few_pieces q e b h =
    let short = path_short e.levels h.path.rising (path_low q.levels e.levels b.levels h.path.known) in
    let most = places_length q.branches e.levels b.branches in
    let is : length e.pieces ≡ length (places q.branches e.levels) = sym (length-map e.pieces piece_place) ∙ ap length h.pieces in
    omega (arith, short, most, is)

-- a plan has few pieces
pub few_in_all : (window : ℕ) (qs : List TypedQuery) (es : List Entry) → ∥ IsTyped window qs ∥₁ → AreEntriesOf qs es → sum_by (λ e. length e.pieces) es ≤ 2064
few_in_all window qs es t h =
    ∥∥₁_elim t le_prop (λ t. let b = bounded window qs t in let most = few_in_each qs es b.each h in let count = b.count in omega (arith, most, count))
  where
    few_in_each : (rest : List TypedQuery) (es : List Entry) → AllByRecursion QueryBounds rest → AreEntriesOf rest es → sum_by (λ e. length e.pieces) es ≤ 258 * length rest
    few_in_each [] [] b h = omega arith
    few_in_each [] (e ∷ es) b h = absurd h
    few_in_each (q ∷ rest) [] b h = absurd h
    few_in_each (q ∷ rest) (e ∷ es) b h =
        let here = few_pieces q e b.0 h.0 in
        let more = few_in_each rest es b.1 h.1 in
        let both = sum_by-cons (λ (e : Entry). length e.pieces) e es in
        omega (arith, here, more, both)

-- ---- registers of a piece

stateful_most : (ops : List TOp) (k : ℕ) → stateful (take k ops) ≤ length ops
stateful_most [] zero = omega arith
stateful_most [] (suc k) = omega arith
stateful_most (op ∷ ops) zero = omega arith
stateful_most (op ∷ ops) (suc k) = by_state (is_stateful op) (stateful_most ops k)
  where
    by_state : (b : Bool) → stateful (take k ops) ≤ length ops → cond b (1 + stateful (take k ops)) (stateful (take k ops)) ≤ suc (length ops)
    by_state true h = omega (arith, h)
    by_state false h = omega (arith, h)

registers_length : (d : ℕ) (schemas : List (List Column)) (n : ℕ) (ops : List TOp) (sizes written : List ℕ) → length (op_registers d schemas n ops sizes written) ≤ length written
registers_length d schemas n [] sizes written = omega arith
registers_length d schemas n (op ∷ ops) sizes written =
    let bits : ℕ = register_bits (slice_index sizes 0) (schema_at schemas n) op in
    let own : List ℕ = take (taken op d) written in
    let after : List ℕ = drop (taken op d) written in
    let rest = registers_length d schemas (n + 1) ops (drop (taken op 1) sizes) after in
    let whole = length-append (map (in_stage bits) own) (op_registers d schemas (n + 1) ops (drop (taken op 1) sizes) after) in
    let mapped = length-map own (in_stage bits) in
    let front = length-take (taken op d) written in
    let back = length-drop (taken op d) written in
    omega (arith, rest, whole, mapped, front, back)

mul_most : (a b c d : ℕ) → a ≤ c → b ≤ d → a * b ≤ c * d
mul_most a b c d h k = let e = mul-le-mul_left a k in let f = mul-le-mul_left d h in omega (arith, e, f)

abbrev IsLight : Register → Type 0
IsLight r = r.bits ≤ 65536 * 1089

chain_light : (bits : ℕ) (stages : List ℕ) → bits ≤ 65536 * 1089 → AllByRecursion IsLight (map (in_stage bits) stages)
chain_light bits [] h = tt
chain_light bits (s ∷ ss) h = (h, chain_light bits ss h)

first_size : (sizes : List ℕ) → AllByRecursion (λ n. n ≤ 65536) sizes → slice_index sizes 0 ≤ 65536
first_size [] h = omega arith
first_size (n ∷ ns) h = h.0

later_sizes : (k : ℕ) (sizes : List ℕ) → AllByRecursion (λ n. n ≤ 65536) sizes → AllByRecursion (λ n. n ≤ 65536) (drop k sizes)
later_sizes zero sizes h = h
later_sizes (suc k) [] h = tt
later_sizes (suc k) (n ∷ ns) h = later_sizes k ns h.1

registers_light : (d : ℕ) (schemas : List (List Column)) (n k : ℕ) (ops : List TOp) (sizes written : List ℕ) → ((i : ℕ) → slot_bits (schema_at schemas (n + i)) (operator_at ops i) ≤ 1089)
    → AllByRecursion (λ z. z ≤ 65536) sizes → AllByRecursion IsLight (op_registers d schemas n (take k ops) sizes written)
registers_light d schemas n zero ops sizes written h z = tt
registers_light d schemas n (suc k) [] sizes written h z = tt
registers_light d schemas n (suc k) (op ∷ ops) sizes written h z =
    let here : slot_bits (schema_at schemas n) op ≤ 1089 = subst (λ (m : ℕ). slot_bits (schema_at schemas m) op ≤ 1089) (omega arith) (h 0) in
    let bits : ℕ = register_bits (slice_index sizes 0) (schema_at schemas n) op in
    all_append IsLight (map (in_stage bits) (take (taken op d) written)) (op_registers d schemas (n + 1) (take k ops) (drop (taken op 1) sizes) (drop (taken op d) written))
    (chain_light bits (take (taken op d) written) (mul_most (slice_index sizes 0) (slot_bits (schema_at schemas n) op) 65536 1089 (first_size sizes z) here))
    (registers_light d schemas (n + 1) k ops (drop (taken op 1) sizes) (drop (taken op d) written) (λ i. subst (λ (m : ℕ). slot_bits (schema_at schemas m) (operator_at ops i) ≤ 1089) (omega arith) (h (suc i))) (later_sizes (taken op 1) sizes z))

-- ---- a stage

count_most : (stage : ℕ) (rs : List Register) → count_in stage rs ≤ length rs
count_most stage [] = omega arith
count_most stage (r ∷ rs) = by_stage (r.stage == stage) (count_most stage rs)
  where
    by_stage : (b : Bool) → count_in stage rs ≤ length rs → length (cond b (r ∷ standing_in stage rs) (standing_in stage rs)) ≤ suc (length rs)
    by_stage true h = omega (arith, h)
    by_stage false h = omega (arith, h)

standing_light : (stage : ℕ) (rs : List Register) → AllByRecursion IsLight rs → AllByRecursion IsLight (standing_in stage rs)
standing_light stage [] h = tt
standing_light stage (r ∷ rs) h = by_stage (r.stage == stage) (standing_light stage rs h.1)
  where
    by_stage : (b : Bool) → AllByRecursion IsLight (standing_in stage rs) → AllByRecursion IsLight (cond b (r ∷ standing_in stage rs) (standing_in stage rs))
    by_stage true k = (h.0, k)
    by_stage false k = k

bits_most : (stage : ℕ) (rs : List Register) → AllByRecursion IsLight rs → bits_in stage rs ≤ 65536 * 1089 * count_in stage rs
bits_most stage rs h = sum_most (λ (r : Register). r.bits) (65536 * 1089) (standing_in stage rs) (standing_light stage rs h)

-- ---- one piece

-- what a piece takes is little
record IsLittle (registers : List Register) (metadata : ℕ) : Type 0 where
  few : length registers ≤ 48
  light : AllByRecursion IsLight registers
  narrow : metadata ≤ 1024

metadata_most : (schemas : List (List Column)) → ((i : ℕ) → row_width (schema_at schemas i) ≤ 1024) → (mapped : Bool) (n : ℕ) (ops : List TOp) → metadata schemas mapped n ops ≤ 1024
metadata_most schemas h mapped n [] = omega arith
metadata_most schemas h mapped n (op ∷ ops) =
    let rest = metadata_most schemas h (mapped || is_map_op op) (n + 1) ops in
    let here = width_most (mapped || is_map_op op) in
    omega (arith, rest, here)
  where
    width_most : (b : Bool) → width_if b (schema_at schemas (n + 1)) ≤ 1024
    width_most true = h (n + 1)
    width_most false = omega arith

size_listed : (sizes : List ℕ) (n : ℕ) → AllByRecursion (λ m. IsIn 1 65536 m) sizes → is_among sizes n ≡ true → n ≤ 65536
size_listed [] n h e = cc
size_listed (m ∷ ms) n h e =
    by_test (nat_eq n m)
    (λ is. let same = nat_same n m is in omega (arith, same, h.0.1))
    (λ isnt. size_listed ms n h.1 (sym (ap (λ (b : Bool). b || list_any (nat_eq n) ms) isnt) ∙ e))

piece_little : (s : Switch) (path : List ℕ) (b : TypedBranch) (p : Piece) → IsSwitch s → BranchBounds b → PieceFits s path b p → IsLittle (registers_of s.chain b p) (metadata_of b p)
piece_little s path b p w bounds f =
    let length_most = registers_length s.chain b.schemas 0 (prefix_of b p) p.slots p.stages in
    let count = stateful_most b.ops p.cut in
    let ops = bounds.few in
    let few : stateful (prefix_of b p) ≤ 12 = omega (arith, count, ops) in
    let most = mul_most s.chain (stateful (prefix_of b p)) 4 12 w.chain.1 few in
    let is = f.stages in
    record {
      few = omega (arith, length_most, is, most);
      light = registers_light s.chain b.schemas 0 p.cut b.ops p.slots p.stages (λ i. subst (λ (m : ℕ). slot_bits (schema_at b.schemas m) (operator_at b.ops i) ≤ 1089) (omega arith) (bounds.narrow.slots i))
          (all_weaker (λ (n : ℕ). is_among s.slots n ≡ true) (λ n. n ≤ 65536) (λ n e. size_listed s.slots n w.slots.range e) p.slots f.listed);
      narrow = metadata_most b.schemas bounds.narrow.rows false 0 (prefix_of b p);
    }

branch_little : (s : Switch) (path : List ℕ) (p : Piece) (o : Option TypedBranch) → IsSwitch s → OnBranch BranchBounds o → OnBranch (λ b. PieceFits s path b p) o
    → IsLittle (on_branch [] (λ b. registers_of s.chain b p) o) (on_branch 0 (λ b. metadata_of b p) o)
branch_little s path p None w bounds f = record { few = omega arith; light = tt; narrow = omega arith }
branch_little s path p (Some b) w bounds f = piece_little s path b p w bounds f

-- ---- the pieces of an entry

of_branch : (bs : List TypedBranch) (i : ℕ) → AllByRecursion BranchBounds bs → OnBranch BranchBounds (slice_get bs i)
of_branch [] i h = tt
of_branch (b ∷ bs) zero h = h.0
of_branch (b ∷ bs) (suc i) h = of_branch bs i h.1

-- sums over this many pieces
record AreLittle (pieces : ℕ) (registers : List Register) (metadata : ℕ) : Type 0 where
  few : length registers ≤ 48 * pieces
  light : AllByRecursion IsLight registers
  narrow : metadata ≤ 1024 * pieces

entry_little : (s : Switch) (path : List ℕ) (q : TypedQuery) (ps : List Piece) → IsSwitch s → QueryBounds q → AllByRecursion (λ p. OnBranch (λ b. PieceFits s path b p) (piece_branch q p)) ps
    → AreLittle (length ps) (entry_registers s.chain q ps) (entry_metadata q ps)
entry_little s path q [] w bounds f = record { few = omega arith; light = tt; narrow = omega arith }
entry_little s path q (p ∷ ps) w bounds f =
    let here = branch_little s path p (piece_branch q p) w (of_branch q.branches p.branch bounds.each) f.0 in
    let rest = entry_little s path q ps w bounds f.1 in
    let is = length-append (on_branch [] (λ b. registers_of s.chain b p) (piece_branch q p)) (entry_registers s.chain q ps) in
    record {
      few = omega (arith, is, here.few, rest.few);
      light = all_append IsLight (on_branch [] (λ b. registers_of s.chain b p) (piece_branch q p)) (entry_registers s.chain q ps) here.light rest.light;
      narrow = omega (arith, here.narrow, rest.narrow);
    }

-- ---- all pieces

plan_little : (s : Switch) (qs : List TypedQuery) (es : List Entry) → IsSwitch s → AllByRecursion QueryBounds qs → AreEntriesOf qs es → PiecesFit (PieceFits s) qs es
    → AreLittle (258 * length qs) (all_registers s.chain qs es) (all_metadata qs es)
plan_little s [] es w bounds paths f = record { few = omega arith; light = tt; narrow = omega arith }
plan_little s (q ∷ qs) [] w bounds paths f = absurd paths
plan_little s (q ∷ qs) (e ∷ es) w bounds paths f =
    let here = entry_little s e.levels q e.pieces w bounds.0 f.0 in
    let pieces = few_pieces q e bounds.0 paths.0 in
    let rest = plan_little s qs es w bounds.1 paths.1 f.1 in
    let is = length-append (entry_registers s.chain q e.pieces) (all_registers s.chain qs es) in
    record {
      few = omega (arith, is, here.few, rest.few, pieces);
      light = all_append IsLight (entry_registers s.chain q e.pieces) (all_registers s.chain qs es) here.light rest.light;
      narrow = omega (arith, here.narrow, rest.narrow, pieces);
    }

-- ---- small sums

-- where no path and no piece is at fault
record IsSound (window : ℕ) (s : Switch) (qs : List TypedQuery) (es : List Entry) : Type 0 where
  typed : ∥ IsTyped window qs ∥₁
  limits : IsSwitch s
  paths : AreEntriesOf qs es
  pieces : PiecesFit (PieceFits s) qs es

sound : (window : ℕ) (s : Switch) (qs ps : List TypedQuery) (es : List Entry) → ∥ IsTyped window qs ∥₁ → IsSwitch s → ps ≡ qs → None ≡ path_misfit 0 ps es → None ≡ first_misfit (piece_misfit s) ps es
    → IsSound window s ps es
sound window s qs ps es t w is a b = record {
  typed = subst (λ (xs : List TypedQuery). ∥ IsTyped window xs ∥₁) (sym is) t;
  limits = w;
  paths = (entries_are 0 ps es).0 (sym a);
  pieces = (pieces_none (piece_misfit s) (PieceFits s) (λ path b p. piece_none s path b p w.stages.0) ps es).0 (sym b);
}

pub sums_small : (window : ℕ) (s : Switch) (qs ps : List TypedQuery) (es : List Entry) → ∥ IsTyped window qs ∥₁ → IsSwitch s → ps ≡ qs → None ≡ path_misfit 0 ps es → None ≡ first_misfit (piece_misfit s) ps es
    → AreSmall s (all_registers s.chain ps es)
sums_small window s qs ps es t w is a b = record {
  count = λ stage. ∥∥₁_elim h.typed le_prop (λ t.
      let k = bounded window ps t in
      let little = plan_little s ps es w k.each h.paths h.pieces in
      let most = count_most stage (all_registers s.chain ps es) in
      omega (arith, k.count, little.few, most));
  bits = λ stage few. ∥∥₁_elim h.typed le_prop (λ t.
      let k = bounded window ps t in
      let little = plan_little s ps es w k.each h.paths h.pieces in
      let most = bits_most stage (all_registers s.chain ps es) little.light in
      omega (arith, most, few, w.actions.1));
}
  where
    h : IsSound window s ps es
    h = sound window s qs ps es t w is a b

pub metadata_small : (window : ℕ) (s : Switch) (qs ps : List TypedQuery) (es : List Entry) → ∥ IsTyped window qs ∥₁ → IsSwitch s → ps ≡ qs → None ≡ path_misfit 0 ps es → None ≡ first_misfit (piece_misfit s) ps es
    → all_metadata ps es < 2 ^ 64
metadata_small window s qs ps es t w is a b = ∥∥₁_elim h.typed le_prop (λ t.
    let k = bounded window ps t in
    let little = plan_little s ps es w k.each h.paths h.pieces in
    omega (arith, k.count, little.narrow))
  where
    h : IsSound window s ps es
    h = sound window s qs ps es t w is a b
