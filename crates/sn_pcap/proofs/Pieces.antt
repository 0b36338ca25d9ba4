-- Fronts and rests of lists, as a buffer cuts them.
use Rattle.std.proofs.Common.{◌≡◌, ℕ, ◌+◌, ◌-◌, ◌<◌, ◌≤◌, List, ◌∷◌, [], ◌++◌, length, take, drop, set, get_or, ap, sym, ◌∙◌, arith, get_or-drop}
use Rattle.std.proofs.lemmas.List.{drop-drop, drop-take, take_more, take_more_set, drop-set-lt}

-- the front of a range is taken off
pub range_passed : (bytes : List ℕ) (start end count : ℕ) → start + count ≤ end → take (end - (start + count)) (drop (start + count) bytes) ≡ drop count (take (end - start) (drop start bytes))
range_passed bytes start end count fits =
    let long : end - start ≡ count + (end - (start + count)) = omega arith in
    sym (ap (λ (n : ℕ). drop count (take n (drop start bytes))) long
    ∙ drop-take count (end - (start + count)) (drop start bytes)
    ∙ ap (take (end - (start + count))) (drop-drop count start bytes))

-- one byte is moved to the front
pub moved_more : (old now : List ℕ) (start i : ℕ) → i < length now → i < length (drop start old) → take i now ≡ take i (drop start old) → drop i now ≡ drop i old
    → take (i + 1) (set now i (get_or now (start + i) 0)) ≡ take (i + 1) (drop start old)
moved_more old now start i room stands moved rest =
    let ahead : get_or now (i + start) 0 ≡ get_or (drop start old) i 0 =
    sym (get_or-drop i now start 0) ∙ ap (λ (xs : List ℕ). get_or xs start 0) rest ∙ get_or-drop i old start 0
    ∙ ap (λ (k : ℕ). get_or old k 0) (let e : i + start ≡ start + i = omega arith in e) ∙ sym (get_or-drop start old i 0) in
    let same : get_or now (start + i) 0 ≡ get_or (drop start old) i 0 = ap (λ (k : ℕ). get_or now k 0) (let e : start + i ≡ i + start = omega arith in e) ∙ ahead in
    take_more_set now i (get_or now (start + i) 0) room
    ∙ ap (λ (xs : List ℕ). xs ++ get_or now (start + i) 0 ∷ []) moved
    ∙ ap (λ (x : ℕ). take i (drop start old) ++ x ∷ []) same
    ∙ sym (take_more (drop start old) i 0 stands)

-- and the bytes after it stay
pub rest_more : (old now : List ℕ) (i y : ℕ) → drop i now ≡ drop i old → drop (i + 1) (set now i y) ≡ drop (i + 1) old
rest_more old now i y rest =
    drop-set-lt (i + 1) now i y (omega arith) ∙ sym (drop-drop 1 i now) ∙ ap (drop 1) rest ∙ drop-drop 1 i old
