-- The tables of a piece with the stages of its registers: they are chosen exactly where their gaps are wide enough.
use Rattle.std.proofs.Common.{◌≡◌, ℕ, zero, suc, ◌+◌, ◌*◌, ◌≤◌, List, [], ◌∷◌, ◌++◌, map, take, drop, length, replicate, Bool, true, false, refl, ap, sym, ◌∙◌, subst, arith, add-one}
use Rattle.std.specs.Prelude.{nat_lt, slice_index, if◌then◌else◌}
use Rattle.std.specs.List.{list_any, sum_by}
use Rattle.std.proofs.Math.Nat.{mul-suc}
use Rattle.std.proofs.lemmas.Bool.Decides.{nat_tests}
use Rattle.std.proofs.lemmas.List.Sums.{sum_by-cons}
use Rattle.sn_base.specs.declared.column.Column.{Column}
use Rattle.sn_switch.specs.declared.switch.Switch.{Switch}
use Rattle.sn_types.specs.declared.typed_op.TOp.{TOp}
use Rattle.sn_types.specs.Cuts.{is_stateful, stateful}
use Rattle.sn_types.specs.Typed.{schema_at}
use Rattle.sn_plan_fit.specs.Placing.{Table, stateless, register, HasGaps}
use Rattle.sn_plan_fit.specs.Registers.{Register, in_stage, register_bits, op_registers}
use Rattle.sn_plan_fit.specs.Tables.{op_tables}
use Rattle.sn_plan_choices.specs.Options.{Slot, plain, keyed, op_slots, registers_among}
use Rattle.sn_plan_choices.specs.Planning.{Taken, in_register, past_stages, is_past, registers_in, metadata_of, Task, for_stage, next_stage, past_by, planning}
use Rattle.sn_plan_lists.proofs.Runs.{Does, spent_by, taken_by}
use Rattle.sn_base.proofs.Tests.{not_less, not_less_is}
use Rattle.sn_plan_fit.proofs.Placings.{room}

-- the tables of slots, with stages for the registers
abbrev pub fill : List Slot → List ℕ → List Table
fill [] ss = []
fill (plain ∷ slots) ss = stateless ∷ fill slots ss
fill (keyed bits ∷ slots) [] = []
fill (keyed bits ∷ slots) (x ∷ ss) = register x ∷ fill slots ss

-- their registers
abbrev pub stand : List Slot → List ℕ → List Register
stand [] ss = []
stand (plain ∷ slots) ss = stand slots ss
stand (keyed bits ∷ slots) [] = []
stand (keyed bits ∷ slots) (x ∷ ss) = in_stage bits x ∷ stand slots ss

-- ---- the slots of operators

chain_count : (d bits : ℕ) (slots : List Slot) → registers_among (replicate d (keyed bits) ++ slots) ≡ d + registers_among slots
chain_count zero bits slots = omega arith
chain_count (suc d) bits slots = let k = chain_count d bits slots in omega arith

chain_tables : (d bits : ℕ) (slots : List Slot) (ss : List ℕ) → d ≤ length ss → fill (replicate d (keyed bits) ++ slots) ss ≡ map register (take d ss) ++ fill slots (drop d ss)
chain_tables zero bits slots ss h = refl
chain_tables (suc d) bits slots [] h = absurd (omega arith)
chain_tables (suc d) bits slots (x ∷ ss) h = ap (λ l. register x ∷ l) (chain_tables d bits slots ss (omega arith))

chain_stand : (d bits : ℕ) (slots : List Slot) (ss : List ℕ) → d ≤ length ss → stand (replicate d (keyed bits) ++ slots) ss ≡ map (in_stage bits) (take d ss) ++ stand slots (drop d ss)
chain_stand zero bits slots ss h = refl
chain_stand (suc d) bits slots [] h = absurd (omega arith)
chain_stand (suc d) bits slots (x ∷ ss) h = ap (λ l. in_stage bits x ∷ l) (chain_stand d bits slots ss (omega arith))

left_after : (d n : ℕ) (ss : List ℕ) → length ss ≡ d + n → length (drop d ss) ≡ n
left_after zero n ss e = omega arith
left_after (suc d) n [] e = absurd (omega arith)
left_after (suc d) n (x ∷ ss) e = left_after d n ss (omega arith)

pub times_next : (d n : ℕ) → d * (1 + n) ≡ d + d * n
times_next d n = ap (λ (k : ℕ). d * k) (let e : 1 + n ≡ suc n = omega arith in e) ∙ mul-suc d n ∙ (let e : d * n + d ≡ d + d * n = omega arith in e)

-- each stateful operator has a chain of registers
pub op_count : (d : ℕ) (schemas : List (List Column)) (n : ℕ) (ops : List TOp) (sizes : List ℕ) → registers_among (op_slots d schemas n ops sizes) ≡ d * stateful ops
op_count d schemas n [] sizes = omega arith
op_count d schemas n (op ∷ ops) sizes =
    by_kind (is_stateful op) (register_bits (slice_index sizes 0) (schema_at schemas n) op) (op_count d schemas (n + 1) ops (drop 1 sizes)) (op_count d schemas (n + 1) ops sizes)
  where
    by_kind : (b : Bool) (bits : ℕ) → registers_among (op_slots d schemas (n + 1) ops (drop 1 sizes)) ≡ d * stateful ops → registers_among (op_slots d schemas (n + 1) ops sizes) ≡ d * stateful ops
        → registers_among (if b then replicate d (keyed bits) ++ op_slots d schemas (n + 1) ops (drop 1 sizes) else plain ∷ op_slots d schemas (n + 1) ops sizes) ≡ d * (if b then 1 + stateful ops else stateful ops)
    by_kind true bits a b = chain_count d bits (op_slots d schemas (n + 1) ops (drop 1 sizes)) ∙ ap (λ (k : ℕ). d + k) a ∙ sym (times_next d (stateful ops))
    by_kind false bits a b = b

pub op_fill : (d : ℕ) (schemas : List (List Column)) (n : ℕ) (ops : List TOp) (sizes ss : List ℕ) → length ss ≡ d * stateful ops → fill (op_slots d schemas n ops sizes) ss ≡ op_tables d ops ss
op_fill d schemas n [] sizes ss e = refl
op_fill d schemas n (op ∷ ops) sizes ss e =
    by_kind (is_stateful op) (register_bits (slice_index sizes 0) (schema_at schemas n) op) e (op_fill d schemas (n + 1) ops (drop 1 sizes) (drop d ss)) (op_fill d schemas (n + 1) ops sizes ss)
  where
    by_kind : (b : Bool) (bits : ℕ) → length ss ≡ d * (if b then 1 + stateful ops else stateful ops)
        → (length (drop d ss) ≡ d * stateful ops → fill (op_slots d schemas (n + 1) ops (drop 1 sizes)) (drop d ss) ≡ op_tables d ops (drop d ss))
        → (length ss ≡ d * stateful ops → fill (op_slots d schemas (n + 1) ops sizes) ss ≡ op_tables d ops ss)
        → fill (if b then replicate d (keyed bits) ++ op_slots d schemas (n + 1) ops (drop 1 sizes) else plain ∷ op_slots d schemas (n + 1) ops sizes) ss
        ≡ (if b then map register (take d ss) ++ op_tables d ops (drop d ss) else stateless ∷ op_tables d ops ss)
    by_kind true bits e a b =
        let long = e ∙ times_next d (stateful ops) in
        chain_tables d bits (op_slots d schemas (n + 1) ops (drop 1 sizes)) ss (omega arith) ∙ ap (λ l. map register (take d ss) ++ l) (a (left_after d (d * stateful ops) ss long))
    by_kind false bits e a b = ap (λ l. stateless ∷ l) (b e)

pub op_stand : (d : ℕ) (schemas : List (List Column)) (n : ℕ) (ops : List TOp) (sizes ss : List ℕ) → length ss ≡ d * stateful ops → stand (op_slots d schemas n ops sizes) ss ≡ op_registers d schemas n ops sizes ss
op_stand d schemas n [] sizes ss e = refl
op_stand d schemas n (op ∷ ops) sizes ss e =
    by_kind (is_stateful op) (register_bits (slice_index sizes 0) (schema_at schemas n) op) e (op_stand d schemas (n + 1) ops (drop 1 sizes) (drop d ss)) (op_stand d schemas (n + 1) ops sizes ss)
  where
    by_kind : (b : Bool) (bits : ℕ) → length ss ≡ d * (if b then 1 + stateful ops else stateful ops)
        → (length (drop d ss) ≡ d * stateful ops → stand (op_slots d schemas (n + 1) ops (drop 1 sizes)) (drop d ss) ≡ op_registers d schemas (n + 1) ops (drop 1 sizes) (drop d ss))
        → (length ss ≡ d * stateful ops → stand (op_slots d schemas (n + 1) ops sizes) ss ≡ op_registers d schemas (n + 1) ops sizes ss)
        → stand (if b then replicate d (keyed bits) ++ op_slots d schemas (n + 1) ops (drop 1 sizes) else plain ∷ op_slots d schemas (n + 1) ops sizes) ss
        ≡ map (in_stage bits) (take (if b then d else 0) ss) ++ op_registers d schemas (n + 1) ops (drop (if b then 1 else 0) sizes) (drop (if b then d else 0) ss)
    by_kind true bits e a b =
        let long = e ∙ times_next d (stateful ops) in
        chain_stand d bits (op_slots d schemas (n + 1) ops (drop 1 sizes)) ss (omega arith) ∙ ap (λ l. map (in_stage bits) (take d ss) ++ l) (a (left_after d (d * stateful ops) ss long))
    by_kind false bits e a b = b e

-- ---- stages are chosen

module _ (s : Switch) (entry : ℕ → ℕ → ℕ → ℕ → ℕ) where
  -- what tasks cost and take up, with something taken up before, where choices do them and nothing goes past the last stage
  pub record Runs (before : List Taken) (ts : List Task) (cs : List ℕ) (cost : ℕ) (registers : List Register) (bits : ℕ) : Type 0 where
    pub does : Does (planning s entry) ts cs
    pub spent : spent_by (planning s entry) ts cs ≡ cost
    pub past : list_any is_past (before ++ taken_by (planning s entry) ts cs) ≡ false
    pub standing : registers_in (before ++ taken_by (planning s entry) ts cs) ≡ registers
    pub metadata : sum_by metadata_of (before ++ taken_by (planning s entry) ts cs) ≡ bits

  pub stages_run : (least : ℕ) (slots : List Slot) (ss rest : List ℕ) (ts : List Task) (cost : ℕ) (registers : List Register) (bits : ℕ) → length ss ≡ registers_among slots
      → HasGaps s.stages least (fill slots ss) → Runs [] ts rest cost registers bits
      → Runs (past_by s.stages least slots) (map for_stage (next_stage least slots) ++ ts) (ss ++ rest) cost (stand slots ss ++ registers) bits
  stages_run least [] [] rest ts cost registers bits e h r =
      subst (λ b. Runs (if b then past_stages ∷ [] else []) ts rest cost registers bits) (sym (not_less s.stages least h)) r
  stages_run least [] (x ∷ ss) rest ts cost registers bits e h r = absurd (omega arith)
  stages_run least (plain ∷ slots) ss rest ts cost registers bits e h r =
      stages_run (least + 1) slots ss rest ts cost registers bits e (subst (λ (n : ℕ). HasGaps s.stages n (fill slots ss)) (sym (add-one least)) h) r
  stages_run least (keyed size ∷ slots) [] rest ts cost registers bits e h r = absurd (omega arith)
  stages_run least (keyed size ∷ slots) (x ∷ ss) rest ts cost registers bits e h r =
      let next = stages_run (x + 1) slots ss rest ts cost registers bits (omega arith) (subst (λ (n : ℕ). HasGaps s.stages n (fill slots ss)) (sym (add-one x)) h.1) r in
      let fits = room s.stages (suc x) (fill slots ss) h.1 in
      let first = h.0 in
      record {
        does = ((first, omega arith), next.does);
        spent = (let e : 0 + spent_by (planning s entry) (map for_stage (next_stage (x + 1) slots) ++ ts) (ss ++ rest) ≡ spent_by (planning s entry) (map for_stage (next_stage (x + 1) slots) ++ ts) (ss ++ rest) = omega arith in e) ∙ next.spent;
        past = next.past;
        standing = ap (λ l. in_stage size x ∷ l) next.standing;
        metadata = sum_by-cons metadata_of (in_register x size) (past_by s.stages (x + 1) slots ++ taken_by (planning s entry) (map for_stage (next_stage (x + 1) slots) ++ ts) (ss ++ rest))
            ∙ (let e : 0 + sum_by metadata_of (past_by s.stages (x + 1) slots ++ taken_by (planning s entry) (map for_stage (next_stage (x + 1) slots) ++ ts) (ss ++ rest))
            ≡ sum_by metadata_of (past_by s.stages (x + 1) slots ++ taken_by (planning s entry) (map for_stage (next_stage (x + 1) slots) ++ ts) (ss ++ rest)) = omega arith in e)
            ∙ next.metadata;
      }

  -- choices split after the stages of a piece
  pub record StageSplit (least : ℕ) (slots : List Slot) (ts : List Task) (cs : List ℕ) : Type 0 where
    pub stages : List ℕ
    pub rest : List ℕ
    pub is : cs ≡ stages ++ rest
    pub count : length stages ≡ registers_among slots
    pub gaps : HasGaps s.stages least (fill slots stages)
    pub does : Does (planning s entry) ts rest
    pub past : list_any is_past (taken_by (planning s entry) ts rest) ≡ false

  pub stages_split : (least : ℕ) (slots : List Slot) (cs : List ℕ) (ts : List Task) → Does (planning s entry) (map for_stage (next_stage least slots) ++ ts) cs
      → list_any is_past (past_by s.stages least slots ++ taken_by (planning s entry) (map for_stage (next_stage least slots) ++ ts) cs) ≡ false → StageSplit least slots ts cs
  stages_split least [] cs ts d p = by_end (nat_lt s.stages least) refl p
    where
      by_end : (b : Bool) → nat_lt s.stages least ≡ b → list_any is_past ((if b then past_stages ∷ [] else []) ++ taken_by (planning s entry) ts cs) ≡ false → StageSplit least [] ts cs
      by_end true e p = absurd (let no : true ≡ false = p in cc)
      by_end false e p = record { stages = []; rest = cs; is = refl; count = refl; gaps = not_less_is s.stages least e; does = d; past = p }
  stages_split least (plain ∷ slots) cs ts d p =
      let k = stages_split (least + 1) slots cs ts d p in
      record { stages = k.stages; rest = k.rest; is = k.is; count = k.count; gaps = subst (λ (n : ℕ). HasGaps s.stages n (fill slots k.stages)) (add-one least) k.gaps; does = k.does; past = k.past }
  stages_split least (keyed size ∷ slots) [] ts d p = absurd d
  stages_split least (keyed size ∷ slots) (x ∷ cs) ts d p =
      let k = stages_split (x + 1) slots cs ts d.1 p in
      let more = k.count in
      record {
        stages = x ∷ k.stages;
        rest = k.rest;
        is = ap (λ l. x ∷ l) k.is;
        count = omega arith;
        gaps = (d.0.0, subst (λ (n : ℕ). HasGaps s.stages n (fill slots k.stages)) (add-one x) k.gaps);
        does = k.does;
        past = k.past;
      }
