-- The tables of a piece, made one after another.
use Rattle.std.proofs.Common.{◌≡◌, ℕ, suc, zero, ◌+◌, ◌-◌, ◌*◌, ◌≤◌, ◌<◌, List, [], ◌∷◌, ◌++◌, map, take, drop, length, get_or, Bool, true, false, refl, ap, sym, ◌∙◌, subst, arith, append_assoc, append-nil, length-append, add-one}
use Rattle.std.specs.Prelude.{slice_index, if◌then◌else◌}
use Rattle.std.proofs.Math.ListN.{replicate, length-replicate}
use Rattle.std.proofs.Math.Seq.{drop-cons}
use Rattle.std.proofs.lemmas.List.{length-map, map-append}
use Rattle.sn_base.specs.declared.column.Column.{Column}
use Rattle.sn_base.proofs.Lists.{by_test}
use Rattle.sn_types.specs.declared.typed_op.TOp.{TOp}
use Rattle.sn_types.specs.declared.typed_query.TypedBranch.{TypedBranch}
use Rattle.sn_types.specs.Typed.{schema_at}
use Rattle.sn_types.specs.Cuts.{is_stateful}
use Rattle.sn_switch.specs.declared.switch.Switch.{Switch}
use Rattle.sn_plan_fit.specs.Capped.{capped}
use Rattle.sn_plan_fit.specs.Registers.{register_bits}
use Rattle.sn_plan_choices.specs.Options.{Slot, plain, keyed, op_slots, piece_slots}
use Rattle.sn_plan_choices.specs.Options as choices
use Rattle.sn_plan_choices.specs.declared.setting.Setting.{Setting}
use Rattle.sn_plan_choices.specs.Settings.{written}
use Rattle.sn_plan_space.specs.declared.known.Slot as known
use Rattle.sn_plan_space.specs.declared.known.Slot.TheVariants.{Keyed}
use Rattle.sn_plan_space.specs.Known.{known_slot}
use Rattle.sn_plan_space.specs.Made.{op_table, sizes_after, membership}

pub chain_more : {A : Type 0} (slots : List A) (x : A) (d k : ℕ) → k < d → (slots ++ x ∷ []) ++ replicate (d - (k + 1)) x ≡ slots ++ replicate (d - k) x
chain_more slots x d k h =
    let e : suc (d - (k + 1)) ≡ d - k = omega arith in
    append_assoc slots (x ∷ []) (replicate (d - (k + 1)) x) ∙ ap (λ n. slots ++ replicate n x) e

pub chain_done : {A : Type 0} (slots : List A) (x : A) (d k : ℕ) → d ≤ k → slots ≡ slots ++ replicate (d - k) x
chain_done slots x d k h = let e : 0 ≡ d - k = omega arith in sym (append-nil slots) ∙ ap (λ n. slots ++ replicate n x) e

-- the tables of the first operator, and of those after it
op_first : (d : ℕ) (schemas : List (List Column)) (n : ℕ) (op : TOp) (ops : List TOp) (sizes : List ℕ)
    → op_slots d schemas n (op ∷ ops) sizes ≡ op_table d (schema_at schemas n) op (slice_index sizes 0) ++ op_slots d schemas (n + 1) ops (sizes_after op sizes)
op_first d schemas n op ops sizes =
    of_test (is_stateful op) (replicate d (keyed (register_bits (slice_index sizes 0) (schema_at schemas n) op))) (λ l. op_slots d schemas (n + 1) ops l)
  where
    of_test : (b : Bool) (chain : List Slot) (f : List ℕ → List Slot)
        → (if b then chain ++ f (drop 1 sizes) else plain ∷ f sizes) ≡ (if b then chain else plain ∷ []) ++ f (if b then drop 1 sizes else sizes)
    of_test true chain f = refl
    of_test false chain f = refl

pub ops_more : (d : ℕ) (schemas : List (List Column)) (n : ℕ) (op : TOp) (ops : List TOp) (sizes following : List ℕ) (columns : List Column) (size : ℕ) (old now whole : List known.Slot)
    → n < length ops → op ≡ get_or ops n op → columns ≡ schema_at schemas n → size ≡ slice_index sizes 0 → following ≡ sizes_after op sizes
    → now ≡ old ++ map known_slot (op_table d columns op size) → old ++ map known_slot (op_slots d schemas n (drop n ops) sizes) ≡ whole
    → now ++ map known_slot (op_slots d schemas (n + 1) (drop (n + 1) ops) following) ≡ whole
ops_more d schemas n op ops sizes following columns size old now whole h o a b k e w =
    let rest : List Slot = op_slots d schemas (n + 1) (drop (n + 1) ops) (sizes_after op sizes) in
    let table : List Slot = op_table d (schema_at schemas n) op (slice_index sizes 0) in
    let cons : drop n ops ≡ op ∷ drop (n + 1) ops = drop-cons ops n op h ∙ ap (λ f. f ∷ drop (suc n) ops) (sym o) ∙ ap (λ j. op ∷ drop j ops) (sym (add-one n)) in
    let whole_is : map known_slot (op_slots d schemas n (drop n ops) sizes) ≡ map known_slot table ++ map known_slot rest =
    ap (λ l. map known_slot (op_slots d schemas n l sizes)) cons ∙ ap (map known_slot) (op_first d schemas n op (drop (n + 1) ops) sizes) ∙ map-append known_slot table rest in
    let now_is : now ≡ old ++ map known_slot table = e ∙ ap (λ c. old ++ map known_slot (op_table d c op size)) a ∙ ap (λ z. old ++ map known_slot (op_table d (schema_at schemas n) op z)) b in
    ap (λ l. now ++ map known_slot (op_slots d schemas (n + 1) (drop (n + 1) ops) l)) k
    ∙ ap (λ l. l ++ map known_slot rest) now_is ∙ append_assoc old (map known_slot table) (map known_slot rest) ∙ ap (λ l. old ++ l) (sym whole_is) ∙ w

pub ops_done : (d : ℕ) (schemas : List (List Column)) (n : ℕ) (ops : List TOp) (sizes : List ℕ) (now whole : List known.Slot) → drop n ops ≡ []
    → now ++ map known_slot (op_slots d schemas n (drop n ops) sizes) ≡ whole → now ≡ whole
ops_done d schemas n ops sizes now whole e w = sym (append-nil now) ∙ ap (λ l. now ++ map known_slot (op_slots d schemas n l sizes)) (sym e) ∙ w

-- ---- how many they are

few_tables : (d : ℕ) (schemas : List (List Column)) (n : ℕ) (ops : List TOp) (sizes : List ℕ) → 1 ≤ d → d ≤ 4 → length (op_slots d schemas n ops sizes) ≤ 4 * length ops
few_tables d schemas n [] sizes one four = omega arith
few_tables d schemas n (op ∷ ops) sizes one four =
    by_test (is_stateful op)
    (λ is. let l = ap length (stateful_is is) ∙ length-append (replicate d (keyed (register_bits (slice_index sizes 0) (schema_at schemas n) op))) (op_slots d schemas (n + 1) ops (drop 1 sizes)) in
    let k = length-replicate d (keyed (register_bits (slice_index sizes 0) (schema_at schemas n) op)) in
    let rest = few_tables d schemas (n + 1) ops (drop 1 sizes) one four in omega arith)
    (λ isnt. let l = ap length (stateless_is isnt) in let rest = few_tables d schemas (n + 1) ops sizes one four in omega arith)
  where
    stateful_is : is_stateful op ≡ true → op_slots d schemas n (op ∷ ops) sizes ≡ replicate d (keyed (register_bits (slice_index sizes 0) (schema_at schemas n) op)) ++ op_slots d schemas (n + 1) ops (drop 1 sizes)
    stateful_is e = ap (λ b. if b then replicate d (keyed (register_bits (slice_index sizes 0) (schema_at schemas n) op)) ++ op_slots d schemas (n + 1) ops (drop 1 sizes) else plain ∷ op_slots d schemas (n + 1) ops sizes) e

    stateless_is : is_stateful op ≡ false → op_slots d schemas n (op ∷ ops) sizes ≡ plain ∷ op_slots d schemas (n + 1) ops sizes
    stateless_is e = ap (λ b. if b then replicate d (keyed (register_bits (slice_index sizes 0) (schema_at schemas n) op)) ++ op_slots d schemas (n + 1) ops (drop 1 sizes) else plain ∷ op_slots d schemas (n + 1) ops sizes) e

few_members : (is_first : Bool) → length (membership is_first) ≤ 1
few_members true = omega arith
few_members false = omega arith

take_few : {A : Type 0} (k : ℕ) (xs : List A) → length (take k xs) ≤ k
take_few zero xs = omega arith
take_few (suc k) [] = omega arith
take_few (suc k) (x ∷ xs) = let h = take_few k xs in omega arith

pub few_slots : (d cut : ℕ) (is_first : Bool) (schemas : List (List Column)) (ops prefix : List TOp) (sizes : List ℕ) (members whole : List known.Slot) → 1 ≤ d → d ≤ 4 → cut ≤ 12
    → prefix ≡ take cut ops → members ≡ map known_slot (membership is_first) → whole ≡ members ++ map known_slot (op_slots d schemas 0 prefix sizes) → length whole ≤ 64
few_slots d cut is_first schemas ops prefix sizes members whole one four twelve p m w =
    let a = ap length w ∙ length-append members (map known_slot (op_slots d schemas 0 prefix sizes)) in
    let b = ap length m ∙ length-map (membership is_first) known_slot in
    let c = length-map (op_slots d schemas 0 prefix sizes) known_slot in
    let e = few_tables d schemas 0 prefix sizes one four in
    let f = few_members is_first in
    let g = ap length p in
    let h = take_few cut ops in omega arith

-- ---- of a piece

sizes_are : (sizes : List ℕ) → length sizes ≤ 2 → take (length sizes) (take 2 (sizes ++ 0 ∷ 0 ∷ [])) ≡ sizes
sizes_are [] h = refl
sizes_are (a ∷ []) h = refl
sizes_are (a ∷ b ∷ []) h = refl
sizes_are (a ∷ b ∷ c ∷ sizes) h = absurd (omega arith)

pub slots_are : (s : Switch) (is_first : Bool) (b : TypedBranch) (setting : Setting) (o : choices.Setting) (ops : List TOp) (schemas : List (List Column)) (sizes : List ℕ) (members whole : List known.Slot)
    → setting.used ≤ 2 → setting ≡ written o → ops ≡ take setting.cut b.ops → schemas ≡ b.schemas → sizes ≡ take setting.used setting.sizes → members ≡ map known_slot (membership is_first)
    → whole ≡ members ++ map known_slot (op_slots s.chain schemas 0 ops sizes) → whole ≡ map known_slot (piece_slots s is_first b o)
slots_are s is_first b setting o ops schemas sizes members whole few e p c z m w =
    let used : length o.1 ≤ 2 = subst (λ (k : Setting). k.used ≤ 2) e few in
    let of_sizes : sizes ≡ o.1 = z ∙ ap (λ (k : Setting). take k.used k.sizes) e ∙ sizes_are o.1 used in
    let of_ops : ops ≡ take o.0 b.ops = p ∙ ap (λ (k : Setting). take k.cut b.ops) e in
    w ∙ ap (λ l. l ++ map known_slot (op_slots s.chain schemas 0 ops sizes)) m
    ∙ ap (λ l. map known_slot (membership is_first) ++ map known_slot (op_slots s.chain l 0 ops sizes)) c
    ∙ ap (λ l. map known_slot (membership is_first) ++ map known_slot (op_slots s.chain b.schemas 0 l sizes)) of_ops
    ∙ ap (λ l. map known_slot (membership is_first) ++ map known_slot (op_slots s.chain b.schemas 0 (take o.0 b.ops) l)) of_sizes
    ∙ sym (map-append known_slot (membership is_first) (op_slots s.chain b.schemas 0 (take o.0 b.ops) o.1))

-- ---- of an operator

map_copies : (d : ℕ) (slot : Slot) → map known_slot (replicate d slot) ≡ replicate d (known_slot slot)
map_copies zero slot = refl
map_copies (suc d) slot = ap (λ l. known_slot slot ∷ l) (map_copies d slot)

pub chain_table : (d : ℕ) (columns : List Column) (op : TOp) (size bits : ℕ) → is_stateful op ≡ true → bits ≡ capped (register_bits size columns op)
    → replicate d (Keyed bits) ≡ map known_slot (op_table d columns op size)
chain_table d columns op size bits is e =
    ap (λ b. replicate d (Keyed b)) e ∙ sym (map_copies d (keyed (register_bits size columns op)))
    ∙ ap (λ t. map known_slot (if t then replicate d (keyed (register_bits size columns op)) else plain ∷ [])) (sym is)
