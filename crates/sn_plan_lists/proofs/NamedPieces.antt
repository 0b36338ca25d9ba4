-- The plan that choices name, piece by piece.
use Rattle.std.proofs.Common.{◌≡◌, ℕ, zero, suc, ◌+◌, ◌-◌, ◌*◌, ◌<◌, ◌≤◌, inl, inr, List, [], ◌∷◌, ◌++◌, false, take, drop, length, get_or, refl, ap, sym, ◌∙◌, subst, arith, append_assoc, add-one}
use Rattle.std.specs.Prelude.{◌⊎◌, ◌/◌, ◌%◌, ◌==◌, IfOk, Result, Ok, Err, slice_index, if◌then◌else◌}
use Rattle.std.specs.List.{AllByRecursion}
use Rattle.std.proofs.Math.Seq.{drop-cons}
use Rattle.std.proofs.lemmas.Bool.Decides.{nat_tests}
use Rattle.sn_plan_grammar.specs.declared.plan.Piece.{Piece}
use Rattle.sn_switch.specs.declared.switch.Switch.{Switch}
use Rattle.sn_types.specs.declared.typed_op.TOp.{TOp}
use Rattle.sn_types.specs.declared.typed_query.TypedBranch.{TypedBranch}
use Rattle.sn_types.specs.Cuts.{stateful}
use Rattle.sn_plan_choices.specs.declared.setting.Setting as code
use Rattle.sn_plan_choices.specs.Settings.{written}
use Rattle.sn_plan_choices.specs.Options.{option_at, path_of}
use Rattle.sn_plan_lists.specs.Chosen.{Seat, level_seats, path_seats, registers_with, piece_with, first_option, piece_at, after_piece, pieces_at, after_pieces}

-- ---- items

-- ---- a piece

pub sizes_back : (sizes : List ℕ) → length sizes ≤ 2 → take (length sizes) (take 2 (sizes ++ 0 ∷ 0 ∷ [])) ≡ sizes
sizes_back [] h = refl
sizes_back (x ∷ []) h = refl
sizes_back (x ∷ y ∷ []) h = refl
sizes_back (x ∷ y ∷ z ∷ sizes) h = absurd (omega arith)

-- the piece that the code makes is the one that choices name
pub piece_is : (s : Switch) (seat : Seat) (choices : List ℕ) (x count : ℕ) (option : code.Setting) (ops : List TOp) (slots stages following : List ℕ)
    → x ≡ slice_index choices 0 → option ≡ written (option_at s seat.branch x) → option.used ≤ 2 → ops ≡ take option.cut seat.branch.ops → count ≡ stateful ops → following ≡ drop 1 choices
    → stages ≡ take (s.chain * count) following → slots ≡ take option.used option.sizes
    → record { level = seat.level; branch = seat.number; cut = option.cut; slots = slots; stages = stages } ≡ piece_at s seat choices
piece_is s seat choices x count option ops slots stages following ex eo few ep ec eb es ez =
    let o = first_option s seat choices in
    let is : option ≡ written o = eo ∙ ap (λ (n : ℕ). written (option_at s seat.branch n)) ex in
    let used = ap (λ (w : code.Setting). w.used) is in
    let cut : option.cut ≡ o.0 = ap (λ (w : code.Setting). w.cut) is in
    let sizes : slots ≡ o.1 = ez ∙ ap (λ (w : code.Setting). take w.used w.sizes) is ∙ sizes_back o.1 (omega arith) in
    let number : count ≡ stateful (take o.0 seat.branch.ops) = ec ∙ ap stateful ep ∙ ap (λ (n : ℕ). stateful (take n seat.branch.ops)) cut in
    let held : stages ≡ take (registers_with s seat.branch o) (drop 1 choices) = es ∙ ap (λ (n : ℕ). take (s.chain * n) following) number ∙ ap (take (registers_with s seat.branch o)) eb in
    ap (λ (n : ℕ). record { level = seat.level; branch = seat.number; cut = n; slots = slots; stages = stages }) cut
    ∙ ap (λ (l : List ℕ). record { level = seat.level; branch = seat.number; cut = o.0; slots = l; stages = stages }) sizes
    ∙ ap (piece_with seat o) held

-- ---- pieces one after another

pub pieces_two : (s : Switch) (a b : List Seat) (choices : List ℕ) → pieces_at s (a ++ b) choices ≡ pieces_at s a choices ++ pieces_at s b (after_pieces s a choices)
pieces_two s [] b choices = refl
pieces_two s (seat ∷ a) b choices = ap (λ l. piece_at s seat choices ∷ l) (pieces_two s a b (after_piece s seat choices))

pub after_two : (s : Switch) (a b : List Seat) (choices : List ℕ) → after_pieces s (a ++ b) choices ≡ after_pieces s b (after_pieces s a choices)
after_two s [] b choices = refl
after_two s (seat ∷ a) b choices = after_two s a b (after_piece s seat choices)

pub drop_next : (path : List ℕ) (i : ℕ) → i < length path → drop i path ≡ slice_index path i ∷ drop (i + 1) path
drop_next path i h = drop-cons path i 0 h ∙ ap (λ (k : ℕ). slice_index path i ∷ drop k path) (sym (add-one i))

-- the pieces of one more level, with those so far
pub level_more : (s : Switch) (bs : List TypedBranch) (path : List ℕ) (i : ℕ) (pieces added all : List Piece) (rest after : List ℕ) → i < length path
    → added ≡ pieces ++ pieces_at s (level_seats (slice_index path i) 0 bs) rest → after ≡ after_pieces s (level_seats (slice_index path i) 0 bs) rest
    → pieces ++ pieces_at s (path_seats bs (drop i path)) rest ≡ all → added ++ pieces_at s (path_seats bs (drop (i + 1) path)) after ≡ all
level_more s bs path i pieces added all rest after lt e f h =
    let here = level_seats (slice_index path i) 0 bs in
    let more = path_seats bs (drop (i + 1) path) in
    ap (λ l. l ++ pieces_at s more after) e ∙ ap (λ c. (pieces ++ pieces_at s here rest) ++ pieces_at s more c) f
    ∙ append_assoc pieces (pieces_at s here rest) (pieces_at s more (after_pieces s here rest)) ∙ ap (λ l. pieces ++ l) (sym (pieces_two s here more rest))
    ∙ ap (λ l. pieces ++ pieces_at s (path_seats bs l) rest) (sym (drop_next path i lt)) ∙ h

pub level_after : (s : Switch) (bs : List TypedBranch) (path : List ℕ) (i : ℕ) (rest after all : List ℕ) → i < length path
    → after ≡ after_pieces s (level_seats (slice_index path i) 0 bs) rest → after_pieces s (path_seats bs (drop i path)) rest ≡ all → after_pieces s (path_seats bs (drop (i + 1) path)) after ≡ all
level_after s bs path i rest after all lt f h =
    let here = level_seats (slice_index path i) 0 bs in
    let more = path_seats bs (drop (i + 1) path) in
    ap (after_pieces s more) f ∙ sym (after_two s here more rest) ∙ ap (λ l. after_pieces s (path_seats bs l) rest) (sym (drop_next path i lt)) ∙ h

-- ---- a path

stands : (m l : ℕ) (rest : List ℕ) → m % 2 ≡ 1 → path_of m (l ∷ rest) ≡ l ∷ path_of (m / 2) rest
stands m l [] e = refl
stands m l (k ∷ rest) e = ap (λ (n : ℕ). if n == 1 then l ∷ path_of (m / 2) (k ∷ rest) else path_of (m / 2) (k ∷ rest)) e

finest : (m l : ℕ) (rest : List ℕ) → length rest ≡ 0 → path_of m (l ∷ rest) ≡ l ∷ path_of (m / 2) rest
finest m l [] e = refl
finest m l (k ∷ rest) e = absurd (omega arith)

left_out : (m l : ℕ) (rest : List ℕ) → (m % 2 ≡ 1 → ⊥) → 1 ≤ length rest → path_of m (l ∷ rest) ≡ path_of (m / 2) rest
left_out m l [] e h = absurd (omega arith)
left_out m l (k ∷ rest) e h = ap (λ b. if b then l ∷ path_of (m / 2) (k ∷ rest) else path_of (m / 2) (k ∷ rest)) (let f : (m % 2 == 1) ≡ false = grind (arith, nat_tests, e) in f)

length_next : (path : List ℕ) (l : ℕ) → length (path ++ l ∷ []) ≡ length path + 1
length_next [] l = refl
length_next (k ∷ path) l = let e = length_next path l in omega arith

pub left_after : (levels : List ℕ) (i : ℕ) → length (drop i levels) ≡ length levels - i
left_after levels zero = omega arith
left_after [] (suc i) = omega arith
left_after (l ∷ levels) (suc i) = let e = left_after levels i in omega arith

-- one more level is looked at: it stands on the path, or is left out
pub path_pushed : (bits i : ℕ) (levels path more all : List ℕ) → (bits % 2 ≡ 1) ⊎ (i + 1 ≡ length levels) → i < length levels → more ≡ path ++ slice_index levels i ∷ []
    → path ++ path_of bits (drop i levels) ≡ all → length path ≤ i → (more ++ path_of (bits / 2) (drop (i + 1) levels) ≡ all) × (length more ≤ i + 1)
path_pushed bits i levels path more all stand lt e h few =
    let l = slice_index levels i in
    let rest = drop (i + 1) levels in
    let none : i + 1 ≡ length levels → length (drop (i + 1) levels) ≡ 0 = λ k. let e = left_after levels (i + 1) in omega (arith, k, e) in
    let step : path_of bits (l ∷ rest) ≡ l ∷ path_of (bits / 2) rest = elim stand [ inl odd ↦ stands bits l rest odd | inr last ↦ finest bits l rest (none last) ] in
    let long = ap length e ∙ length_next path l in (
      ap (λ p. p ++ path_of (bits / 2) rest) e ∙ append_assoc path (l ∷ []) (path_of (bits / 2) rest) ∙ ap (λ p. path ++ p) (sym step) ∙ ap (λ p. path ++ path_of bits p) (sym (drop_next levels i lt)) ∙ h,
      omega arith,
    )

pub path_left : (bits i : ℕ) (levels path more all : List ℕ) → (bits % 2 ≡ 1 → ⊥) → (i + 1 ≡ length levels → ⊥) → i < length levels → more ≡ path
    → path ++ path_of bits (drop i levels) ≡ all → length path ≤ i → (more ++ path_of (bits / 2) (drop (i + 1) levels) ≡ all) × (length more ≤ i + 1)
path_left bits i levels path more all even further lt e h few =
    let l = slice_index levels i in
    let rest = drop (i + 1) levels in
    let some : 1 ≤ length (drop (i + 1) levels) = let k = left_after levels (i + 1) in omega (arith, further, k) in
    let long = ap length e in
    (ap (λ p. p ++ path_of (bits / 2) rest) e ∙ ap (λ p. path ++ p) (sym (left_out bits l rest even some)) ∙ ap (λ p. path ++ path_of bits p) (sym (drop_next levels i lt)) ∙ h, omega arith)

-- ---- answers

pub if_ok_also : {A E : Type 0} (P Q : A → Type 0) (result : Result A E) → ((a : A) → P a → Q a) → IfOk result P → IfOk result Q
if_ok_also P Q (Ok a) f h = f a h
if_ok_also P Q (Err e) f h = h
