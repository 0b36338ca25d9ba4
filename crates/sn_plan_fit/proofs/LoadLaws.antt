-- Registers added one after another.
use Rattle.std.proofs.Common.{◌≡◌, ℕ, ◌+◌, ◌≤◌, ◌<◌, ◌^◌, ◌-◌, List, [], ◌∷◌, ◌++◌, length, get_or, drop, take, map, min, add-one, length-drop, false, nat_eq, Some, None, refl, ap, sym, ◌∙◌, subst, arith, append_assoc}
use Rattle.std.specs.Prelude.{slice_index}
use Rattle.std.proofs.Math.Seq.{drop-cons}
use Rattle.std.proofs.Math.ListN.{set, replicate, length-set, length-replicate}
use Rattle.std.proofs.lemmas.Bool.{eqb-false}
use Rattle.std.proofs.lemmas.List.{append-nil, get_or-set_same, get_or-set_other, get_or-replicate, nil_from_length}
use Rattle.std.proofs.lemmas.Option.{slice_get-get_or, get_or_from_slice_get}
use Rattle.sn_base.proofs.Lists.{by_test, nat_same}
use Rattle.sn_plan_fit.specs.declared.loads.Load.{Load}
use Rattle.sn_plan_fit.specs.Capped.{capped}
use Rattle.sn_base.specs.declared.column.Column.{Column}
use Rattle.sn_plan_grammar.specs.declared.plan.Entry.{Entry}
use Rattle.sn_plan_grammar.specs.declared.plan.Piece.{Piece}
use Rattle.sn_types.specs.declared.typed_op.TOp.{TOp}
use Rattle.sn_types.specs.declared.typed_query.TypedQuery.{TypedQuery}
use Rattle.sn_types.specs.declared.typed_query.TypedBranch.{TypedBranch}
use Rattle.sn_types.specs.Typed.{schema_at}
use Rattle.sn_plan_fit.specs.Pieces.{on_branch, piece_branch, registers_of, entry_registers, all_registers}
use Rattle.sn_plan_fit.specs.Registers.{Register, in_stage, count_in, bits_in, register_bits, taken, op_registers}
use Rattle.sn_plan_fit.specs.Loads.{load_in, AreLoads, Adds}
use Rattle.sn_plan_fit.proofs.Caps.{count_append, bits_append}

-- Of registers that are added one after another: those that are added so far, and those that are left, are the whole.
pub record Adding (before now : List Load) (left whole : List Register) : Type 0 where
  pub done : List Register
  pub parts : done ++ left ≡ whole
  pub adds : Adds before now done

pub nothing_added : (before : List Load) (whole : List Register) → Adding before before whole whole
nothing_added before whole = record {
  done = [];
  parts = refl;
  adds = λ standing are. subst (AreLoads before) (sym (append-nil standing)) are;
}

pub more_added : {before now later : List Load} {some left whole : List Register} → Adding before now (some ++ left) whole → Adds now later some → Adding before later left whole
more_added {before = before} {now = now} {later = later} {some = some} {left = left} {whole = whole} a adds = record {
  done = a.done ++ some;
  parts = rw append_assoc a.parts;
  adds = λ standing are. let h = adds (standing ++ a.done) (a.adds standing are) in rw append_assoc at h;
}

pub all_added : {before now : List Load} {whole : List Register} → Adding before now [] whole → Adds before now whole
all_added {before = before} {now = now} {whole = whole} a standing are =
    let is : standing ++ a.done ≡ standing ++ whole = ap (λ (rs : List Register). standing ++ rs) (sym (append-nil a.done) ∙ a.parts) in
    subst (AreLoads now) is (a.adds standing are)

-- ---- one register more

-- in its own stage
count_here : (stage all : ℕ) → count_in stage (in_stage all stage ∷ []) ≡ 1
count_here stage all = by_test (nat_eq stage stage) (λ is. simp is) (λ isnt. absurd (not_self isnt))
  where
    not_self : nat_eq stage stage ≡ false → ⊥
    not_self e = grind (arith, e)

bits_here : (stage all : ℕ) → bits_in stage (in_stage all stage ∷ []) ≡ all
bits_here stage all = by_test (nat_eq stage stage) (λ is. simp is (omega arith)) (λ isnt. absurd (not_self isnt))
  where
    not_self : nat_eq stage stage ≡ false → ⊥
    not_self e = grind (arith, e)

-- in another
count_there : (stage other all : ℕ) → nat_eq other stage ≡ false → count_in stage (in_stage all other ∷ []) ≡ 0
count_there stage other all e = simp e

bits_there : (stage other all : ℕ) → nat_eq other stage ≡ false → bits_in stage (in_stage all other ∷ []) ≡ 0
bits_there stage other all e = simp e

load_here : (standing : List Register) (stage all bits : ℕ) → bits ≡ capped all
    → record { registers = capped ((load_in standing stage).registers + 1); bits = capped ((load_in standing stage).bits + bits) } ≡ load_in (standing ++ in_stage all stage ∷ []) stage
load_here standing stage all bits e =
    let count = count_append stage standing (in_stage all stage ∷ []) in
    let one = count_here stage all in
    let sum = bits_append stage standing (in_stage all stage ∷ []) in
    let own = bits_here stage all in
    let first : capped ((load_in standing stage).registers + 1) ≡ capped (count_in stage (standing ++ in_stage all stage ∷ [])) = omega (arith, count, one) in
    let second : capped ((load_in standing stage).bits + bits) ≡ capped (bits_in stage (standing ++ in_stage all stage ∷ [])) = omega (arith, sum, own, e) in
    cc

load_there : (standing : List Register) (stage other all : ℕ) → nat_eq other stage ≡ false → load_in standing stage ≡ load_in (standing ++ in_stage all other ∷ []) stage
load_there standing stage other all e =
    let count = count_append stage standing (in_stage all other ∷ []) in
    let none = count_there stage other all e in
    let sum = bits_append stage standing (in_stage all other ∷ []) in
    let no_bits = bits_there stage other all e in
    let first : capped (count_in stage standing) ≡ capped (count_in stage (standing ++ in_stage all other ∷ [])) = omega (arith, count, none) in
    let second : capped (bits_in stage standing) ≡ capped (bits_in stage (standing ++ in_stage all other ∷ [])) = omega (arith, sum, no_bits) in
    cc

-- ---- the loads

abbrev pub none : Load
none = record { registers = 0; bits = 0 }

pub nothing_stands : AreLoads (replicate 32 none) []
nothing_stands = record {
  count = length-replicate 32 none;
  each = λ stage h. slice_get-get_or (replicate 32 none) stage none (rw (length-replicate 32 none) h) ∙ ap (λ (load : Load). Some load) (get_or-replicate 32 stage none none h);
}

-- a register in one of the stages
pub add_within : (loads : List Load) (standing : List Register) (stage all : ℕ) (one : Load) → stage < 32 → AreLoads loads standing → one ≡ load_in (standing ++ in_stage all stage ∷ []) stage
    → AreLoads (set loads stage one) (standing ++ in_stage all stage ∷ [])
add_within loads standing stage all one within are is = record {
  count = count;
  each = λ other h. slice_get-get_or (set loads stage one) other none (rw count h) ∙ ap (λ (load : Load). Some load) (there other h);
}
  where
    count : length (set loads stage one) ≡ 32
    count = length-set loads stage one ∙ are.count

    within_loads : stage < length loads
    within_loads = rw are.count within

    there : (other : ℕ) → other < 32 → get_or (set loads stage one) other none ≡ load_in (standing ++ in_stage all stage ∷ []) other
    there other h = by_test (nat_eq stage other)
        (λ same. let e = nat_same stage other same in
        subst (λ (k : ℕ). get_or (set loads stage one) k none ≡ load_in (standing ++ in_stage all stage ∷ []) k) e (get_or-set_same loads stage one none within_loads ∙ is))
        (λ apart. get_or-set_other loads stage other one none (λ e. eqb-false stage other apart (sym e))
        ∙ get_or_from_slice_get loads other (load_in standing other) none (are.each other h) ∙ load_there standing other stage all apart)

-- a register in a later one
pub add_past : (loads : List Load) (standing : List Register) (stage all : ℕ) → 32 ≤ stage → AreLoads loads standing → AreLoads loads (standing ++ in_stage all stage ∷ [])
add_past loads standing stage all past are = record {
  count = are.count;
  each = λ other h. are.each other h ∙ ap (λ (load : Load). Some load) (load_there standing other stage all (apart other h));
}
  where
    apart : (other : ℕ) → other < 32 → nat_eq stage other ≡ false
    apart other h = by_test (nat_eq stage other) (λ same. let e = nat_same stage other same in absurd (omega (arith, past, h))) (λ differ. differ)

pub added_load : (loads : List Load) (standing : List Register) (stage all bits registers sum : ℕ) → stage < 32 → bits ≡ capped all → AreLoads loads standing
    → registers ≡ min ((get_or loads stage none).registers + 1) (2 ^ 64 - 1) → sum ≡ min ((get_or loads stage none).bits + bits) (2 ^ 64 - 1)
    → record { registers = registers; bits = sum } ≡ load_in (standing ++ in_stage all stage ∷ []) stage
added_load loads standing stage all bits registers sum within e are r b =
    let old = get_or_from_slice_get loads stage (load_in standing stage) none (are.each stage within) in
    let first : registers ≡ capped ((load_in standing stage).registers + 1) = r ∙ ap (λ (load : Load). capped (load.registers + 1)) old in
    let second : sum ≡ capped ((load_in standing stage).bits + bits) = b ∙ ap (λ (load : Load). capped (load.bits + bits)) old in
    let same : record { registers = registers; bits = sum } ≡ record { registers = capped ((load_in standing stage).registers + 1); bits = capped ((load_in standing stage).bits + bits) } = cc in
    same ∙ load_here standing stage all bits e

-- ---- loops

next_item : {A : Type 0} (xs : List A) (i : ℕ) (x default : A) → i < length xs → x ≡ get_or xs i default → drop i xs ≡ x ∷ drop (i + 1) xs
next_item xs i x default h is =
    let cut : drop i xs ≡ get_or xs i default ∷ drop (i + 1) xs = rw add-one (drop-cons xs i default h) in
    cut ∙ ap (λ y. y ∷ drop (i + 1) xs) (sym is)

none_left : {A : Type 0} (xs : List A) (i : ℕ) → length xs ≤ i → drop i xs ≡ []
none_left xs i h = nil_from_length (drop i xs) (let k = length-drop i xs in omega (arith, k, h))

-- what is left is the same
moved : {before now : List Load} {left other whole : List Register} → left ≡ other → Adding before now left whole → Adding before now other whole
moved {before = before} {now = now} {whole = whole} e a = subst (λ (rs : List Register). Adding before now rs whole) e a

pub chain_more : {before now later : List Load} (stages : List ℕ) (i stage all : ℕ) → i < length stages → stage ≡ get_or stages i 0
    → Adding before now (map (in_stage all) (drop i stages)) (map (in_stage all) stages) → Adds now later (in_stage all stage ∷ [])
    → Adding before later (map (in_stage all) (drop (i + 1) stages)) (map (in_stage all) stages)
chain_more stages i stage all h is a adds = more_added (moved (ap (λ (xs : List ℕ). map (in_stage all) xs) (next_item stages i stage 0 h is)) a) adds

pub chain_ends : {before now : List Load} (stages : List ℕ) (i all : ℕ) → length stages ≤ i → Adding before now (map (in_stage all) (drop i stages)) (map (in_stage all) stages) → Adds before now (map (in_stage all) stages)
chain_ends stages i all h a = all_added (moved (ap (λ (xs : List ℕ). map (in_stage all) xs) (none_left stages i h)) a)

pub op_more : {before now later : List Load} {whole : List Register} (d : ℕ) (schemas : List (List Column)) (n : ℕ) (ops : List TOp) (op : TOp) (sizes written : List ℕ) (size : ℕ) (columns : List Column) (own sizes_after following : List ℕ)
    → n < length ops → op ≡ get_or ops n op → size ≡ slice_index sizes 0 → columns ≡ schema_at schemas n
    → own ≡ take (taken op d) written → sizes_after ≡ drop (taken op 1) sizes → following ≡ drop (taken op d) written
    → Adding before now (op_registers d schemas n (drop n ops) sizes written) whole → Adds now later (map (in_stage (register_bits size columns op)) own)
    → Adding before later (op_registers d schemas (n + 1) (drop (n + 1) ops) sizes_after following) whole
op_more d schemas n ops op sizes written size columns own sizes_after following h is first schema front back after a adds =
    let cut = ap (λ (xs : List TOp). op_registers d schemas n xs sizes written) (next_item ops n op op h is) in
    let named : map (in_stage (register_bits (slice_index sizes 0) (schema_at schemas n) op)) (take (taken op d) written) ++ op_registers d schemas (n + 1) (drop (n + 1) ops) (drop (taken op 1) sizes) (drop (taken op d) written)
    ≡ map (in_stage (register_bits size columns op)) own ++ op_registers d schemas (n + 1) (drop (n + 1) ops) sizes_after following = cc in
    more_added (moved (cut ∙ named) a) adds

pub ops_end : {before now : List Load} {whole : List Register} (d : ℕ) (schemas : List (List Column)) (n : ℕ) (ops : List TOp) (sizes written : List ℕ) → length ops ≤ n
    → Adding before now (op_registers d schemas n (drop n ops) sizes written) whole → Adds before now whole
ops_end d schemas n ops sizes written h a = all_added (moved (ap (λ (xs : List TOp). op_registers d schemas n xs sizes written) (none_left ops n h)) a)

pub piece_more : {before now later : List Load} {whole : List Register} (d : ℕ) (query : TypedQuery) (pieces : List Piece) (i : ℕ) (piece : Piece) → i < length pieces → piece ≡ get_or pieces i piece
    → Adding before now (entry_registers d query (drop i pieces)) whole → Adds now later (on_branch [] (λ b. registers_of d b piece) (piece_branch query piece))
    → Adding before later (entry_registers d query (drop (i + 1) pieces)) whole
piece_more d query pieces i piece h is a adds = more_added (moved (ap (λ (xs : List Piece). entry_registers d query xs) (next_item pieces i piece piece h is)) a) adds

pub pieces_end : {before now : List Load} {whole : List Register} (d : ℕ) (query : TypedQuery) (pieces : List Piece) (i : ℕ) → length pieces ≤ i
    → Adding before now (entry_registers d query (drop i pieces)) whole → Adds before now whole
pieces_end d query pieces i h a = all_added (moved (ap (λ (xs : List Piece). entry_registers d query xs) (none_left pieces i h)) a)

pub entry_more : {before now later : List Load} {whole : List Register} (d : ℕ) (queries : List TypedQuery) (i : ℕ) (query : TypedQuery) (rest : List Entry) (entry : Entry) (following : List Entry) → i < length queries → query ≡ get_or queries i query → rest ≡ entry ∷ following
    → Adding before now (all_registers d (drop i queries) rest) whole → Adds now later (entry_registers d query entry.pieces)
    → Adding before later (all_registers d (drop (i + 1) queries) following) whole
entry_more d queries i query rest entry following h is e a adds =
    let cut : all_registers d (drop i queries) rest ≡ all_registers d (query ∷ drop (i + 1) queries) (entry ∷ following) = ap (λ (xs : List TypedQuery). all_registers d xs rest) (next_item queries i query query h is) ∙ ap (λ (es : List Entry). all_registers d (query ∷ drop (i + 1) queries) es) e in
    more_added (moved cut a) adds

pub queries_end : {before now : List Load} {whole : List Register} (d : ℕ) (queries : List TypedQuery) (i : ℕ) (rest : List Entry) → length queries ≤ i
    → Adding before now (all_registers d (drop i queries) rest) whole → Adds before now whole
queries_end d queries i rest h a = all_added (moved (ap (λ (xs : List TypedQuery). all_registers d xs rest) (none_left queries i h)) a)

no_entry : (d : ℕ) (queries : List TypedQuery) → all_registers d queries [] ≡ []
no_entry d [] = refl
no_entry d (q ∷ qs) = refl

pub entries_end : {before now : List Load} {whole : List Register} (d : ℕ) (queries : List TypedQuery) (rest : List Entry) → rest ≡ []
    → Adding before now (all_registers d queries rest) whole → Adds before now whole
entries_end d queries rest e a = all_added (moved (ap (λ (es : List Entry). all_registers d queries es) e ∙ no_entry d queries) a)

-- nothing is added where a piece has no branch
pub no_branch : {loads : List Load} (d : ℕ) (query : TypedQuery) (piece : Piece) → piece_branch query piece ≡ None → Adds loads loads (on_branch [] (λ b. registers_of d b piece) (piece_branch query piece))
no_branch {loads = loads} d query piece e standing are = rw (e, append-nil) are

pub its_branch : {before now : List Load} (d : ℕ) (query : TypedQuery) (piece : Piece) (branch : TypedBranch) → piece_branch query piece ≡ Some branch
    → Adds before now (registers_of d branch piece) → Adds before now (on_branch [] (λ b. registers_of d b piece) (piece_branch query piece))
its_branch d query piece branch e adds standing are = rw e (adds standing are)
