-- Packets that come through filters and maps: one packet more, and one operator further.
use Rattle.std.proofs.Common.{◌≡◌, ℕ, zero, suc, ◌+◌, ◌-◌, ◌≤◌, ◌<◌, List, [], ◌∷◌, ◌++◌, map, filter, take, length, replicate, set, get_or, slice_index, Bool, true, false, cond, nat_eq, nat_le, Option, Some, None, Result, Ok, Err, OnOk, refl, ap, sym, subst, ◌∙◌, arith, append_assoc, append-nil}
use Rattle.std.specs.List.{cons_option, filter_map}
use Rattle.std.proofs.lemmas.Bool.{false≢true, true≢false, le-leb, leb-false, leb-true, lt-leb}
use Rattle.std.proofs.lemmas.List.{get_or-replicate, get_or-set_other, get_or-set_same, length-append, length-map, length-replicate, length-set, take_all, take_more}
use Rattle.std.proofs.lemmas.List.Elements.{filter-append, filter_map-append}
use Rattle.sn_base.specs.Groups.{Row}
use Rattle.sn_base.specs.Operators.{Op, apply, through}
use Rattle.sn_base.specs.Operators.Op.{Filter, Map, Distinct, Reduce}
use Rattle.sn_base.proofs.Lists.{by_test, filter_short, nat_same, nat_self}
use Rattle.sn_cost_seats.specs.Ways.{AreStateless, come, reach}
use Rattle.sn_cost_seats.proofs.Going.{reached, through_come}
use Rattle.sn_ops.specs.declared.packets.Kept.{Kept}
use Rattle.sn_ops.specs.Packets.{is_kept, packet_rows}
use Rattle.sn_types.specs.declared.typed_op.TOp.{TOp}
use Rattle.sn_types.specs.declared.typed_query.TypedQuery.{TypedQuery}
use Rattle.sn_types.specs.Typed.{branch_of, packet_row}
use Rattle.sn_types.specs.Values.{op_at}
use Rattle.sn_cost_counts.specs.Coming.{HaveCome, coming_to}

-- ---- filters and maps that a row doesn't pass

pub stopped : (os : List Op) → AreStateless os → (row : Row) → reach os row < length os → come os row ≡ None
stopped [] h row lt = absurd (omega (arith, lt))
stopped (Filter t ∷ os) h row lt =
    by_test (t row)
    (λ is.
    let e : cond (t row) (suc (reach os row)) 0 ≡ suc (reach os row) = ap (λ b. cond b (suc (reach os row)) 0) is in
    ap (λ b. cond b (come os row) None) is ∙ stopped os h row (omega (arith, lt, e)))
    (λ isnt. ap (λ b. cond b (come os row) None) isnt)
stopped (Map f ∷ os) h row lt = stopped os h (f row) (omega (arith, lt))
stopped (Distinct ∷ os) h row lt = absurd h
stopped (Reduce g ∷ os) h row lt = absurd h

nat_less : (n m : ℕ) → n ≤ m → nat_eq n m ≡ false → n < m
nat_less n m le isnt = by_test (nat_le m n) (λ is. let ge = leb-true m n is in let same : n ≡ m = omega (arith, le, ge) in absurd (true≢false (sym (nat_self m) ∙ ap (λ k. nat_eq k m) (sym same) ∙ isnt))) (λ no. leb-false m n no)

-- ---- one packet more

pub few_packets : (query : TypedQuery) (b level : ℕ) (kept : Option Kept) (tuples : List (List ℕ)) → length (packet_rows query b level kept tuples) ≤ length tuples
few_packets query b level kept tuples =
    let few = filter_short (is_kept query.field kept) tuples in
    let same = length-map (filter (is_kept query.field kept) tuples) (packet_row query.field level (branch_of query b).fields) in
    omega (arith, few, same)

pub on_any : {A E : Type 0} (P : Type 0) (r : Result A E) → P → OnOk r P
on_any P (Ok x) p = p
on_any P (Err e) p = tt

pub on_ok : {A E : Type 0} (P Q : Type 0) (r : Result A E) → (P → Q) → OnOk r P → OnOk r Q
on_ok P Q (Ok x) f h = f h
on_ok P Q (Err e) f h = tt

same_either : (b : Bool) (n : ℕ) → n ≡ cond b n n
same_either true n = refl
same_either false n = refl

-- how many of some that are all the same pass a test
filter_each : (t : Row → Bool) (row : Row) (times : ℕ) → length (filter t (replicate times row)) ≡ cond (t row) times 0
filter_each t row zero = same_either (t row) 0
filter_each t row (suc times) =
    let rest : List Row = filter t (replicate times row) in
    let e : length rest ≡ cond (t row) times 0 = filter_each t row times in
    by_test (t row)
    (λ is. ap (λ b. length (cond b (row ∷ rest) rest)) is ∙ ap suc (e ∙ ap (λ b. cond b times 0) is) ∙ sym (ap (λ b. cond b (suc times) 0) is))
    (λ isnt. ap (λ b. length (cond b (row ∷ rest) rest)) isnt ∙ e ∙ ap (λ b. cond b times 0) isnt ∙ sym (ap (λ b. cond b (suc times) 0) isnt))

passed_more : (far : Row → ℕ) (n : ℕ) (rows : List Row) (row : Row) (times : ℕ) → length (filter (λ x. nat_eq n (far x)) (rows ++ replicate times row)) ≡ length (filter (λ x. nat_eq n (far x)) rows) + cond (nat_eq n (far row)) times 0
passed_more far n rows row times =
    let t : Row → Bool = λ x. nat_eq n (far x) in
    ap length (filter-append t rows (replicate times row)) ∙ length-append (filter t rows) (filter t (replicate times row))
    ∙ ap (λ k. length (filter t rows) + k) (filter_each t row times)

-- what comes of so many that are all the same
abbrev each_come : Option Row → ℕ → List Row
each_come None times = []
each_come (Some row) times = replicate times row

come_each : (next : Row → Option Row) (row : Row) (times : ℕ) → filter_map next (replicate times row) ≡ each_come (next row) times
come_each next row zero = elim (next row) as (λ o. [] ≡ each_come o 0) [ None ↦ refl | Some x ↦ refl ]
come_each next row (suc times) = ap (cons_option (next row)) (come_each next row times) ∙ elim (next row) as (λ o. cons_option o (each_come o times) ≡ each_come o (suc times)) [ None ↦ refl | Some x ↦ refl ]

through_more : (os : List Op) → AreStateless os → (rows : List Row) (row : Row) (times : ℕ) → through os (rows ++ replicate times row) ≡ through os rows ++ each_come (come os row) times
through_more os h rows row times =
    through_come os h (rows ++ replicate times row) ∙ filter_map-append (come os) rows (replicate times row)
    ∙ ap (λ xs. filter_map (come os) rows ++ xs) (come_each (come os) row times) ∙ ap (λ xs. xs ++ each_come (come os row) times) (sym (through_come os h rows))

-- as many as pass so many operators aren't more than the packets
pub passed_few : (level : ℕ) (ops : List TOp) (rows out : List Row) (seen n : ℕ) (passed : List ℕ) → n < 13 → HaveCome level ops rows seen passed out → slice_index passed n ≤ length rows
passed_few level ops rows out seen n passed lt h =
    let e = h.each n lt in let few = filter_short (λ row. nat_eq n (reach (map (op_at level) ops) row)) rows in omega (arith, e, few)

pub none_come : (level : ℕ) (ops : List TOp) (seen : ℕ) (passed : List ℕ) (out : List Row) → seen ≡ 0 → passed ≡ replicate 13 0 → out ≡ [] → AreStateless (map (op_at level) ops) → HaveCome level ops [] seen passed out
none_come level ops seen passed out none zeros empty h = record {
  stateless = h;
  total = none;
  places = ap length zeros ∙ length-replicate {A = ℕ} 13 0;
  each = λ n lt. ap (λ ns. slice_index ns n) zeros ∙ get_or-replicate {A = ℕ} 13 n 0 0 lt;
  come = empty ∙ sym (through_come (map (op_at level) ops) h []);
}

module _ (level : ℕ) (ops : List TOp) (rows : List Row) (row : Row) (times n seen next : ℕ) (passed found : List ℕ) (out : List Row) (h : HaveCome level ops rows seen passed out) (far : n ≡ reach (map (op_at level) ops) row)
    (within : n < 13) (more : next ≡ seen + times) (reported : found ≡ set passed n (slice_index passed n + times)) where
  abbrev os : List Op
  os = map (op_at level) ops

  counted : (k : ℕ) → k < 13 → slice_index found k ≡ length (filter (λ x. nat_eq k (reach os x)) (rows ++ replicate times row))
  counted k lt =
      let grown : length (filter (λ x. nat_eq k (reach os x)) (rows ++ replicate times row)) ≡ length (filter (λ x. nat_eq k (reach os x)) rows) + cond (nat_eq k n) times 0 =
      passed_more (reach os) k rows row times ∙ ap (λ m. length (filter (λ x. nat_eq k (reach os x)) rows) + cond (nat_eq k m) times 0) (sym far) in
      by_test (nat_eq k n)
      (λ is.
      let e : k ≡ n = nat_same k n is in
      let a = ap (λ ns. slice_index ns k) reported ∙ ap (slice_index (set passed n (slice_index passed n + times))) e ∙ get_or-set_same passed n (slice_index passed n + times) 0 (omega (arith, within, h.places)) in
      let b = h.each n within in
      let c = ap {B = ℕ} (λ m. length (filter (λ x. nat_eq m (reach os x)) rows)) e in
      let d = ap {B = ℕ} (λ t. cond t times 0) is in
      omega (arith, a, b, c, d, grown))
      (λ isnt.
      let a = ap (λ ns. slice_index ns k) reported ∙ get_or-set_other passed n k (slice_index passed n + times) 0 (λ e. true≢false (sym (nat_self n) ∙ ap (λ m. nat_eq m n) (sym e) ∙ isnt)) in
      let b = h.each k lt in
      let d = ap {B = ℕ} (λ t. cond t times 0) isnt in
      omega (arith, a, b, d, grown))

  come_as : (all : List Row) → all ≡ out ++ each_come (come os row) times → HaveCome level ops (rows ++ replicate times row) next found all
  come_as all grown = record {
    stateless = h.stateless;
    total = let a = length-append rows (replicate times row) in let b = h.total in let c = length-replicate {A = Row} times row in omega (arith, a, b, c, more);
    places = ap length reported ∙ length-set passed n (slice_index passed n + times) ∙ h.places;
    each = counted;
    come = grown ∙ ap (λ xs. xs ++ each_come (come os row) times) h.come ∙ sym (through_more os h.stateless rows row times);
  }

  -- those that don't pass all
  pub they_stop : n < length ops → HaveCome level ops (rows ++ replicate times row) next found (out ++ [])
  they_stop lt =
      let none : come os row ≡ None = stopped os h.stateless row (let long = length-map ops (op_at level) in omega (arith, lt, far, long)) in
      come_as (out ++ []) (ap (λ (o : Option Row). out ++ each_come o times) (sym none))

  -- and those that do
  pub they_come : (x : Row) → come os row ≡ Some x → HaveCome level ops (rows ++ replicate times row) next found (out ++ replicate times x)
  they_come x some = come_as (out ++ replicate times x) (ap (λ (o : Option Row). out ++ each_come o times) (sym some))

  -- which of both, as it's reported
  pub all_or_some : n ≤ length ops → (x : Row) → (n ≡ length ops → come os row ≡ Some x) → HaveCome level ops (rows ++ replicate times row) next found (out ++ cond (nat_eq n (length ops)) (replicate times x) [])
  all_or_some most x comes =
      by_test (nat_eq n (length ops))
      (λ is. subst (λ b. HaveCome level ops (rows ++ replicate times row) next found (out ++ cond b (replicate times x) [])) (sym is) (they_come x (comes (nat_same n (length ops) is))))
      (λ isnt.
      let less : n < length ops = nat_less n (length ops) most isnt in
      subst (λ b. HaveCome level ops (rows ++ replicate times row) next found (out ++ cond b (replicate times x) [])) (sym isnt) (they_stop less))

-- ---- one operator further

here_or_further : (n k : ℕ) → cond (nat_le n k) 1 0 ≡ cond (nat_eq n k) 1 0 + cond (nat_le (n + 1) k) 1 0
here_or_further n k =
    by_test (nat_eq n k)
    (λ is.
    let same = nat_same n k is in
    let a = ap {B = ℕ} (λ t. cond t 1 0) is in
    let b = ap {B = ℕ} (λ t. cond t 1 0) (le-leb n k (omega (arith, same))) in
    let c = ap {B = ℕ} (λ t. cond t 1 0) (lt-leb (n + 1) k (omega (arith, same))) in
    omega (arith, a, b, c))
    (λ isnt.
    let a = ap {B = ℕ} (λ t. cond t 1 0) isnt in
    by_test (nat_le (n + 1) k)
    (λ is.
    let le = leb-true (n + 1) k is in
    let b = ap {B = ℕ} (λ t. cond t 1 0) (le-leb n k (omega (arith, le))) in
    let c = ap {B = ℕ} (λ t. cond t 1 0) is in
    omega (arith, a, b, c))
    (λ no.
    let lt = leb-false (n + 1) k no in
    let less : k < n = by_test (nat_le n k) (λ is. let le = leb-true n k is in let same : n ≡ k = omega (arith, le, lt) in absurd (false≢true (sym isnt ∙ (ap (λ m. nat_eq m k) same ∙ nat_self k)))) (λ far. leb-false n k far) in
    let b = ap {B = ℕ} (λ t. cond t 1 0) (lt-leb n k less) in
    let c = ap {B = ℕ} (λ t. cond t 1 0) no in
    omega (arith, a, b, c)))

long_with : (b : Bool) (x : Row) (xs : List Row) → length (cond b (x ∷ xs) xs) ≡ cond b 1 0 + length xs
long_with true x xs = omega arith
long_with false x xs = omega arith

parts : (far : Row → ℕ) (n : ℕ) (rows : List Row) → length (filter (λ x. nat_le n (far x)) rows) ≡ length (filter (λ x. nat_eq n (far x)) rows) + length (filter (λ x. nat_le (n + 1) (far x)) rows)
parts far n [] = refl
parts far n (row ∷ rows) =
    let rest = parts far n rows in
    let a = long_with (nat_le n (far row)) row (filter (λ x. nat_le n (far x)) rows) in
    let b = long_with (nat_eq n (far row)) row (filter (λ x. nat_eq n (far x)) rows) in
    let c = long_with (nat_le (n + 1) (far row)) row (filter (λ x. nat_le (n + 1) (far x)) rows) in
    let d = here_or_further n (far row) in
    omega (arith, a, b, c, d, rest)

coming_long : (level : ℕ) (ops : List TOp) (rows : List Row) → length (coming_to level ops rows) ≡ length ops
coming_long level [] rows = refl
coming_long level (op ∷ os) rows = ap suc (coming_long level os (apply (op_at level op) rows))

coming_at : (level : ℕ) (ops : List TOp) (rows : List Row) (i : ℕ) → i < length ops → get_or (coming_to level ops rows) i 0 ≡ length (through (take i (map (op_at level) ops)) rows)
coming_at level [] rows i lt = absurd (omega (arith, lt))
coming_at level (op ∷ os) rows zero lt = refl
coming_at level (op ∷ os) rows (suc i) lt = coming_at level os (apply (op_at level op) rows) i (omega (arith, lt))

-- how many come to this operator, and the counts of those before it
pub record AtPlace (level : ℕ) (ops : List TOp) (rows : List Row) (first : List ℕ) (i left : ℕ) (counts : List ℕ) : Type 0 where
  pub at : left ≡ length (filter (λ row. nat_le i (reach (map (op_at level) ops) row)) rows)
  pub reported : counts ≡ first ++ take i (coming_to level ops rows)

module _ (level : ℕ) (ops : List TOp) (rows : List Row) (first : List ℕ) (seen : ℕ) (passed : List ℕ) (out : List Row) (h : HaveCome level ops rows seen passed out) where
  abbrev far : Row → ℕ
  far = reach (map (op_at level) ops)

  pub place_first : AtPlace level ops rows first 0 seen first
  place_first = record {
    at = h.total ∙ reached (map (op_at level) ops) 0 h.stateless (omega arith) rows;
    reported = sym (append-nil first);
  }

  pub passed_within : (i left : ℕ) (counts : List ℕ) → i < 13 → AtPlace level ops rows first i left counts → slice_index passed i ≤ left
  passed_within i left counts lt place = let a = place.at in let b = h.each i lt in let c = parts far i rows in omega (arith, a, b, c)

  pub place_next : (i left next : ℕ) (counts more : List ℕ) → i < length ops → length ops ≤ 12 → AtPlace level ops rows first i left counts → more ≡ counts ++ left ∷ [] → next ≡ left - slice_index passed i → AtPlace level ops rows first (i + 1) next more
  place_next i left next counts more lt short place grown less =
      let within : i < length (map (op_at level) ops) = (let long = length-map ops (op_at level) in omega (arith, lt, long)) in
      let here : left ≡ get_or (coming_to level ops rows) i 0 =
      place.at ∙ sym (reached (map (op_at level) ops) i h.stateless (omega (arith, within)) rows) ∙ sym (coming_at level ops rows i lt) in
      record {
        at = let a = place.at in let b = h.each i (omega (arith, lt, short)) in let c = parts far i rows in omega (arith, a, b, c, less);
        reported =
            grown ∙ ap (λ ns. ns ++ left ∷ []) place.reported ∙ append_assoc first (take i (coming_to level ops rows)) (left ∷ [])
            ∙ ap (λ m. first ++ (take i (coming_to level ops rows) ++ m ∷ [])) here
            ∙ ap (λ ns. first ++ ns) (sym (take_more (coming_to level ops rows) i 0 (let long = coming_long level ops rows in omega (arith, lt, long))));
      }

  -- how many pass all of them
  pub place_left : (i left : ℕ) (counts : List ℕ) → length ops ≤ i → i ≤ length ops → AtPlace level ops rows first i left counts → left ≡ length out
  place_left i left counts le ge place =
      let os : List Op = map (op_at level) ops in
      let long : length os ≡ length ops = length-map ops (op_at level) in
      place.at ∙ sym (reached os i h.stateless (omega (arith, ge, long)) rows)
      ∙ ap (λ (xs : List Op). length (through xs rows)) (take_all i os (omega (arith, le, long))) ∙ sym (ap length h.come)

  pub place_end : (i left : ℕ) (counts : List ℕ) → length ops ≤ i → AtPlace level ops rows first i left counts → counts ≡ first ++ coming_to level ops rows
  place_end i left counts le place = place.reported ∙ ap (λ ns. first ++ ns) (take_all i (coming_to level ops rows) (let long = coming_long level ops rows in omega (arith, le, long)))
