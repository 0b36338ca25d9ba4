-- What a buffer holds of a file, and how many bytes stand.
use Rattle.std.proofs.Common.{◌≡◌, ℕ, ◌+◌, ◌-◌, ◌≤◌, ◌^◌, List, [], ◌++◌, length, take, drop, min, refl, ap, sym, subst, ◌∙◌, arith, length-drop, length-take}
use Rattle.std.proofs.Math.Seq.{take-add}
use Rattle.std.proofs.Math.ListN.{drop_of_length-le}
use Rattle.std.proofs.lemmas.List.{drop-drop, drop-take, take_all, take-take}
use Rattle.sn_pcap.specs.Reading.{within, HoldsAt}
use Rattle.sn_base.proofs.Tests.{by_order as below_or_not}

-- more bytes are held
pub holds_more : (file held more : List ℕ) (offset n : ℕ) → HoldsAt file offset held → more ≡ held ++ take n (drop (offset + length held) file) → n ≤ length file - (offset + length held) → HoldsAt file offset more
holds_more file held more offset n holds is stands =
    let rest : take n (drop (offset + length held) file) ≡ take n (drop (length held) (drop offset file)) = ap (take n) (sym (drop-drop (length held) offset file)) in
    let long : more ≡ take (length held + n) (drop offset file) =
    is ∙ ap (λ (xs : List ℕ). held ++ xs) rest ∙ ap (λ (xs : List ℕ). xs ++ take n (drop (length held) (drop offset file))) holds ∙ sym (take-add (length held) n (drop offset file)) in
    let count : length more ≡ length held + n =
    ap length long ∙ length-take (length held + n) (drop offset file) ∙ fits (ap length holds) in
    long ∙ ap (λ (k : ℕ). take k (drop offset file)) (sym count)
  where
    fits : length held ≡ length (take (length held) (drop offset file)) → min (length held + n) (length (drop offset file)) ≡ length held + n
    fits e = omega (arith, e, length-take (length held) (drop offset file), length-drop offset file, stands)

-- how many bytes are held is how many stand there at least
pub held_stand : (file held : List ℕ) (offset : ℕ) → HoldsAt file offset held → length held ≤ length file - offset
held_stand file held offset holds =
    let e : length held ≡ length (take (length held) (drop offset file)) = ap length holds in
    omega (arith, e, length-take (length held) (drop offset file), length-drop offset file)

-- nothing is held
pub holds_none : (file : List ℕ) (offset : ℕ) (held : List ℕ) → held ≡ [] → HoldsAt file offset held
holds_none file offset held none = subst (λ (xs : List ℕ). HoldsAt file offset xs) (sym none) refl

-- a front of what is held
pub holds_front : (file held front : List ℕ) (offset n : ℕ) → HoldsAt file offset held → front ≡ take n held → HoldsAt file offset front
holds_front file held front offset n holds is =
    let m : ℕ = min n (length held) in
    let cut : take n held ≡ take m (drop offset file) = shorter in
    let long : front ≡ take m (drop offset file) = is ∙ cut in
    long ∙ ap (λ (k : ℕ). take k (drop offset file)) (sym (ap length is ∙ length-take n held))
  where
    shorter : take n held ≡ take (min n (length held)) (drop offset file)
    shorter = below_or_not n (length held)
        (λ below. ap (take n) holds ∙ take-take n (length held) (drop offset file) (omega arith) ∙ ap (λ (k : ℕ). take k (drop offset file)) (let e : n ≡ min n (length held) = omega arith in e))
        (λ above. take_all n held above ∙ holds ∙ ap (λ (k : ℕ). take k (drop offset file)) (let e : length held ≡ min n (length held) = omega arith in e))

-- the front of what is held is taken off
pub holds_rest : (file held rest : List ℕ) (offset n : ℕ) → HoldsAt file offset held → rest ≡ drop n held → HoldsAt file (offset + n) rest
holds_rest file held rest offset n holds is =
    below_or_not n (length held)
    (λ below.
    let more : ℕ = length held - n in
    let all : length held ≡ n + more = omega arith in
    let following : rest ≡ take more (drop (offset + n) file) =
    is ∙ ap (drop n) (holds ∙ ap (λ (k : ℕ). take k (drop offset file)) all) ∙ drop-take n more (drop offset file) ∙ ap (take more) (drop-drop n offset file) in
    following ∙ ap (λ (k : ℕ). take k (drop (offset + n) file)) (sym (ap length is ∙ length-drop n held)))
    (λ past. holds_none file (offset + n) rest (is ∙ drop_of_length-le held past))

pub length_within : (file : List ℕ) → length (within file) ≡ min (2 ^ 40) (length file)
length_within file = length-take (2 ^ 40) file
