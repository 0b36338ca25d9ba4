-- The header of a file is that of its first 24 bytes.
use Rattle.std.proofs.Common.{◌≡◌, ℕ, ◌+◌, ◌≤◌, Bool, true, false, if◌then◌else◌, ◌&&◌, ◌%◌, List, ◌++◌, Option, None, Some, Result, Err, IfSome, length, take, drop, min, refl, ap, sym, ◌∙◌, arith, length-take}
use Rattle.std.specs.Prelude.{nat_lt, ◌==◌}
use Rattle.std.proofs.Math.Seq.{take-add}
use Rattle.std.proofs.lemmas.List.{take_all}
use Rattle.sn_pcap.specs.declared.header.Header.{Header}
use Rattle.sn_pcap.specs.declared.header.HeadFault.{HeadFault}
use Rattle.sn_pcap.specs.declared.header.HeadFault.TheVariants as faults
use Rattle.sn_pcap.specs.Capture.{number_at, magic_of, has_version, link_type, form_of, link_of, with_link, with_form, head_of}
use Rattle.sn_pcap.proofs.Fronts.{number_in}
use Rattle.sn_pcap.proofs.ReportedLemmas.{at_reported}
use Rattle.sn_base.proofs.Tests.{by_order as below_or_not, not_less as not_below}

abbrev form : ℕ → ℕ → Option (Bool × Bool)
form low high =
    if low == magic_of false then Some (false, false)
    else (if low == magic_of true then Some (false, true)
    else (if high == magic_of false then Some (true, false)
    else (if high == magic_of true then Some (true, true) else None)))

abbrev bad : Result Header HeadFault
bad = Err faults.Version

abbrev too_short : Result Header HeadFault
too_short = Err faults.Short

form_same : (file : List ℕ) → form_of (take 24 file) ≡ form_of file
form_same file =
    let low : number_at false 4 (take 24 file) 0 ≡ number_at false 4 file 0 = number_in false 4 file 24 0 (omega arith) in
    let high : number_at true 4 (take 24 file) 0 ≡ number_at true 4 file 0 = number_in true 4 file 24 0 (omega arith) in
    ap (λ (n : ℕ). form n (number_at true 4 (take 24 file) 0)) low ∙ ap (λ (n : ℕ). form (number_at false 4 file 0) n) high

version_same : (big : Bool) (file : List ℕ) → has_version big (take 24 file) ≡ has_version big file
version_same big file =
    ap (λ (n : ℕ). (n == 2) && (number_at big 2 (take 24 file) 6 == 4)) (number_in big 2 file 24 4 (omega arith))
    ∙ ap (λ (n : ℕ). (number_at big 2 file 4 == 2) && (n == 4)) (number_in big 2 file 24 6 (omega arith))

link_same : (big : Bool) (file : List ℕ) → link_type big (take 24 file) ≡ link_type big file
link_same big file = ap (λ (n : ℕ). n % 65536) (number_in big 4 file 24 20 (omega arith))

with_same : (file : List ℕ) (form : Option (Bool × Bool)) → with_form (take 24 file) form ≡ with_form file form
with_same file None = refl
with_same file (Some form) =
    ap (λ (b : Bool). if b then with_link form (link_of (link_type form.0 (take 24 file))) else bad) (version_same form.0 file)
    ∙ ap (λ (n : ℕ). if has_version form.0 file then with_link form (link_of n) else bad) (link_same form.0 file)

-- the same is found in the first 24 bytes
pub head_front : (file : List ℕ) → head_of (take 24 file) ≡ head_of file
head_front file =
    below_or_not (length file) 24
    (λ short. ap head_of (take_all 24 file (omega arith)))
    (λ long.
    let enough : nat_lt (length (take 24 file)) 24 ≡ nat_lt (length file) 24 =
    ap (λ (n : ℕ). nat_lt n 24) (length-take 24 file) ∙ not_below (min 24 (length file)) 24 (omega arith) ∙ sym (not_below (length file) 24 long) in
    ap (λ (b : Bool). if b then too_short else with_form (take 24 file) (form_of (take 24 file))) enough
    ∙ ap (λ (form : Option (Bool × Bool)). if nat_lt (length file) 24 then too_short else with_form (take 24 file) form) (form_same file)
    ∙ ap (λ (found : Result Header HeadFault). if nat_lt (length file) 24 then too_short else found) (with_same file (form_of file)))

-- a read adds to the front
pub front_more : (reported now : Option (List ℕ)) (bytes new : List ℕ) (held n : ℕ) → now ≡ reported → IfSome reported (λ file. take held bytes ≡ take held file) → IfSome now (λ file. take (held + n) new ≡ take held bytes ++ take n (drop held file))
    → IfSome reported (λ file. take (held + n) new ≡ take (held + n) file)
front_more None now bytes new held n same front read = tt
front_more (Some file) now bytes new held n same front read =
    at_reported (λ f. take (held + n) new ≡ take held bytes ++ take n (drop held f)) now file same read
    ∙ ap (λ (xs : List ℕ). xs ++ take n (drop held file)) front ∙ sym (take-add held n file)

-- the file ended
pub front_ends : (reported now : Option (List ℕ)) (bytes : List ℕ) (held most : ℕ) → now ≡ reported → held ≤ most → IfSome reported (λ file. take held bytes ≡ take held file) → IfSome now (λ file. length file ≤ held) → IfSome reported (λ file. take held bytes ≡ take most file)
front_ends None now bytes held most same within front ended = tt
front_ends (Some file) now bytes held most same within front ended =
    let short : length file ≤ held = at_reported (λ f. length f ≤ held) now file same ended in
    front ∙ take_all held file short ∙ sym (take_all most file (omega arith))

pub reported_head : (reported : Option (List ℕ)) (front bytes : List ℕ) (n : ℕ) (found : Result Header HeadFault) → front ≡ take n bytes → found ≡ head_of front → IfSome reported (λ file. take n bytes ≡ take 24 file) → IfSome reported (λ file. found ≡ head_of file)
reported_head None front bytes n found same is read = tt
reported_head (Some file) front bytes n found same is read = is ∙ ap head_of (same ∙ read) ∙ head_front file
