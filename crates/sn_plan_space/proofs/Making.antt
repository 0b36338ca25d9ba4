-- What is known of choices, made one after another.
use Rattle.std.proofs.Common.{◌≡◌, ℕ, suc, zero, ◌+◌, ◌*◌, ◌/◌, ◌%◌, ◌^◌, ◌<◌, List, [], ◌∷◌, ◌++◌, map, drop, get_or, length, min, Bool, refl, ap, sym, ◌∙◌, arith, append_assoc, append-nil, add-one}
use Rattle.std.proofs.Math.Nat.{pow-succ'}
use Rattle.std.proofs.Math.Seq.{drop-cons}
use Rattle.sn_switch.specs.declared.switch.Switch.{Switch}
use Rattle.sn_types.specs.declared.typed_query.TypedBranch.{TypedBranch}
use Rattle.sn_plan_fit.specs.Capped.{capped}
use Rattle.sn_plan_choices.specs.Within.{least_below}
use Rattle.std.specs.List.{sum_by, range_with_len}
use Rattle.std.proofs.lemmas.List.FromFn.{map-range_with_len_more}
use Rattle.std.specs.Prelude.{true, false, ◌||◌, ◌==◌, if◌then◌else◌}
use Rattle.std.proofs.lemmas.List.{map-append}
use Rattle.std.proofs.lemmas.List.Sums.{sum_by-cons}
use Rattle.sn_types.specs.declared.typed_query.TypedQuery.{TypedQuery}
use Rattle.sn_plan_choices.specs.Planning.{PieceTask, level_pieces, path_pieces, least_entry}
use Rattle.sn_plan_space.specs.declared.known.KnownPiece.{KnownPiece}
use Rattle.sn_plan_space.specs.declared.known.KnownQuery.{KnownQuery}
use Rattle.sn_plan_space.specs.Made.{is_none}
use Rattle.sn_plan_space.specs.Known.{known_piece, known_query, numbered}

pub lesser_first : (f : ℕ → ℕ) (n : ℕ) → n ≡ 0 → f n ≡ least_below f (n + 1)
lesser_first f zero e = refl
lesser_first f (suc n) e = absurd (omega arith)

pub lesser_next : (f : ℕ → ℕ) (n least next : ℕ) → (n ≡ 0 → ⊥) → least ≡ least_below f n → next ≡ f n → min next least ≡ least_below f (n + 1)
lesser_next f zero least next h e g = absurd (h refl)
lesser_next f (suc n) least next h e g = ap (λ k. min k least) g ∙ ap (min (f (suc n))) e ∙ ap (least_below f) (let k : suc (suc n) ≡ suc n + 1 = omega arith in k)

pub level_more : (s : Switch) (entry : ℕ → ℕ → ℕ → ℕ → ℕ) (query levels : ℕ) (is_first : Bool) (n : ℕ) (b : TypedBranch) (bs : List TypedBranch) (piece : KnownPiece) (old now whole : List KnownPiece)
    → n < length bs → b ≡ get_or bs n b → piece ≡ known_piece s entry (record { query = query; levels = levels; is_first = is_first; number = n; branch = b })
    → now ≡ old ++ piece ∷ [] → old ++ map (known_piece s entry) (level_pieces query levels is_first n (drop n bs)) ≡ whole
    → now ++ map (known_piece s entry) (level_pieces query levels is_first (n + 1) (drop (n + 1) bs)) ≡ whole
level_more s entry query levels is_first n b bs piece old now whole h o p e w =
    let rest : List KnownPiece = map (known_piece s entry) (level_pieces query levels is_first (n + 1) (drop (n + 1) bs)) in
    let cons : drop n bs ≡ b ∷ drop (n + 1) bs = drop-cons bs n b h ∙ ap (λ f. f ∷ drop (suc n) bs) (sym o) ∙ ap (λ j. b ∷ drop j bs) (sym (add-one n)) in
    let front = ap (λ l. map (known_piece s entry) (level_pieces query levels is_first n l)) cons in
    ap (λ l. l ++ rest) e ∙ append_assoc old (piece ∷ []) rest ∙ ap (λ k. old ++ k ∷ rest) p ∙ ap (λ l. old ++ l) (sym front) ∙ w

-- ---- paths

path_step : (query : ℕ) (bs : List TypedBranch) (m i before l : ℕ) (rest : List ℕ) (chosen : Bool) → chosen ≡ (is_none rest || (m % 2 == 1))
    → path_pieces query bs m i before (l ∷ rest)
    ≡ (if chosen then level_pieces query (before + 2 ^ i) (before == 0) 0 bs else []) ++ path_pieces query bs (m / 2) (i + 1) (if chosen then before + 2 ^ i else before) rest
path_step query bs m i before l [] chosen e =
    sym (ap (λ t. (if t then level_pieces query (before + 2 ^ i) (before == 0) 0 bs else []) ++ []) e ∙ append-nil (level_pieces query (before + 2 ^ i) (before == 0) 0 bs))
path_step query bs m i before l (k ∷ ls) chosen e =
    of_test (m % 2 == 1) (level_pieces query (before + 2 ^ i) (before == 0) 0 bs) (λ j. path_pieces query bs (m / 2) (i + 1) j (k ∷ ls))
    ∙ ap (λ t. (if t then level_pieces query (before + 2 ^ i) (before == 0) 0 bs else []) ++ path_pieces query bs (m / 2) (i + 1) (if t then before + 2 ^ i else before) (k ∷ ls)) (sym e)
  where
    of_test : (b : Bool) (front : List PieceTask) (f : ℕ → List PieceTask)
        → (if b then front ++ f (before + 2 ^ i) else f before) ≡ (if b then front else []) ++ f (if b then before + 2 ^ i else before)
    of_test true front f = refl
    of_test false front f = refl

pub path_more : (s : Switch) (entry : ℕ → ℕ → ℕ → ℕ → ℕ) (query : ℕ) (bs : List TypedBranch) (m i before l front next : ℕ) (levels rest : List ℕ) (chosen is_first : Bool) (own : List TypedBranch) (old now whole : List KnownPiece)
    → own ≡ bs → levels ≡ l ∷ rest → chosen ≡ (is_none rest || (m % 2 == 1)) → front ≡ before + 2 ^ i → is_first ≡ (before == 0) → next ≡ (if chosen then front else before)
    → now ≡ old ++ map (known_piece s entry) (if chosen then level_pieces query front is_first 0 own else [])
    → old ++ map (known_piece s entry) (path_pieces query bs m i before levels) ≡ whole
    → now ++ map (known_piece s entry) (path_pieces query bs (m / 2) (i + 1) next rest) ≡ whole
path_more s entry query bs m i before l front next levels rest chosen is_first own old now whole same e t f first n p w =
    let head : List PieceTask = if chosen then level_pieces query (before + 2 ^ i) (before == 0) 0 bs else [] in
    let tail : List PieceTask = path_pieces query bs (m / 2) (i + 1) (if chosen then before + 2 ^ i else before) rest in
    let now_is : now ≡ old ++ map (known_piece s entry) head =
    p ∙ ap (λ k. old ++ map (known_piece s entry) (if chosen then level_pieces query front is_first 0 k else [])) same ∙ ap (λ k. old ++ map (known_piece s entry) (if chosen then level_pieces query k is_first 0 bs else [])) f
    ∙ ap (λ k. old ++ map (known_piece s entry) (if chosen then level_pieces query (before + 2 ^ i) k 0 bs else [])) first in
    let next_is : next ≡ (if chosen then before + 2 ^ i else before) = n ∙ ap (λ k. if chosen then k else before) f in
    ap (λ k. now ++ map (known_piece s entry) (path_pieces query bs (m / 2) (i + 1) k rest)) next_is
    ∙ ap (λ k. k ++ map (known_piece s entry) tail) now_is ∙ append_assoc old (map (known_piece s entry) head) (map (known_piece s entry) tail)
    ∙ ap (λ k. old ++ k) (sym (ap (λ k. map (known_piece s entry) (path_pieces query bs m i before k)) e ∙ ap (map (known_piece s entry)) (path_step query bs m i before l rest chosen t) ∙ map-append (known_piece s entry) head tail))
    ∙ w

pub query_more : (s : Switch) (entry : ℕ → ℕ → ℕ → ℕ → ℕ) (n : ℕ) (q : TypedQuery) (qs : List TypedQuery) (query : KnownQuery) (old now whole : List KnownQuery)
    → n < length qs → q ≡ get_or qs n q → query ≡ known_query s entry (record { query = n; typed = q }) → now ≡ old ++ query ∷ []
    → old ++ map (known_query s entry) (numbered n (drop n qs)) ≡ whole → now ++ map (known_query s entry) (numbered (n + 1) (drop (n + 1) qs)) ≡ whole
query_more s entry n q qs query old now whole h o p e w =
    let rest : List KnownQuery = map (known_query s entry) (numbered (n + 1) (drop (n + 1) qs)) in
    let cons : drop n qs ≡ q ∷ drop (n + 1) qs = drop-cons qs n q h ∙ ap (λ f. f ∷ drop (suc n) qs) (sym o) ∙ ap (λ j. q ∷ drop j qs) (sym (add-one n)) in
    ap (λ l. l ++ rest) e ∙ append_assoc old (query ∷ []) rest ∙ ap (λ k. old ++ k ∷ rest) p ∙ ap (λ l. old ++ l) (sym (ap (λ l. map (known_query s entry) (numbered n l)) cons)) ∙ w

pub leasts : (s : Switch) (entry : ℕ → ℕ → ℕ → ℕ → ℕ) (ts : List PieceTask) → sum_by (λ (p : KnownPiece). p.least) (map (known_piece s entry) ts) ≡ sum_by (least_entry s entry) ts
leasts s entry [] = refl
leasts s entry (t ∷ ts) = sum_by-cons (λ (p : KnownPiece). p.least) (known_piece s entry t) (map (known_piece s entry) ts) ∙ ap (λ n. least_entry s entry t + n) (leasts s entry ts) ∙ sym (sum_by-cons (least_entry s entry) t ts)

pub pushed : {A : Type 0} (f : ℕ → A) (n : ℕ) (x : A) (old now : List A) → old ≡ map f (range_with_len 0 n) → x ≡ f n → now ≡ old ++ x ∷ [] → now ≡ map f (range_with_len 0 (n + 1))
pushed f n x old now e g p = p ∙ ap (λ l. l ++ x ∷ []) e ∙ ap (λ k. map f (range_with_len 0 n) ++ k ∷ []) g ∙ sym (map-range_with_len_more f 0 n n (omega arith))

pub next_small : (chosen : Bool) (next front before i : ℕ) → next ≡ (if chosen then front else before) → front ≡ before + 2 ^ i → before < 2 ^ i → next < 2 ^ (i + 1)
next_small true next front before i n f h = let e : 2 ^ (i + 1) ≡ 2 * 2 ^ i = ap (λ k. 2 ^ k) (add-one i) ∙ pow-succ' 2 i in omega arith
next_small false next front before i n f h = let e : 2 ^ (i + 1) ≡ 2 * 2 ^ i = ap (λ k. 2 ^ k) (add-one i) ∙ pow-succ' 2 i in omega arith

pub path_least : (s : Switch) (entry : ℕ → ℕ → ℕ → ℕ → ℕ) (ts : List PieceTask) (known : List KnownPiece) (total : ℕ) → known ≡ map (known_piece s entry) ts
    → total ≡ capped (0 + sum_by (λ (p : KnownPiece). p.least) known) → total ≡ capped (sum_by (least_entry s entry) ts)
path_least s entry ts known total e t =
    let k = ap (sum_by (λ (p : KnownPiece). p.least)) e ∙ leasts s entry ts in
    t ∙ ap capped (let j : 0 + sum_by (λ (p : KnownPiece). p.least) known ≡ sum_by (least_entry s entry) ts = omega arith in j)
