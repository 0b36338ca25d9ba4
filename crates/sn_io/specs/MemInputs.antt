-- serves proofs
use Rattle.std.specs.Prelude.{◌≡◌, ℕ, ◌-◌, List, [], ◌∷◌, ◌++◌, length, min, Bool, nat_eq, map, Option, None, Some, Result, Ok, Err, is_some, cond}
use Rattle.std.specs.Prelude.{if◌then◌else◌, true, false}
use Rattle.std.proofs.Common.{refl, ap, sym, ◌∙◌}
use Rattle.std.specs.Ordering.{nat_cmp, eq_by_cmp}
use Rattle.std.specs.Cmp.Lexicographic.{slice_cmp, pointwise, nat_list_cmp_total}
use Rattle.std.specs.FinMap.{find, from_entries, get, insert, get-from_entries}
use Rattle.std.specs.List.{list_any}
use Rattle.sn_io.specs.declared.inputs.InputFault.{InputFault}
use Rattle.sn_io.specs.declared.inputs.InputFault.TheVariants.{Failed, Missing}
use Rattle.sn_io.specs.Counts.{ByName}
use Rattle.sn_io.specs.Known.{Known, counts_of, counted}
use Rattle.sn_base.specs.Changed.{with_first}

-- a file: its name, its count of faults, and its bytes
pub record FileState : Type 0 where
  pub name : List ℕ
  pub count : ℕ
  pub bytes : List ℕ

-- files in memory, the numbers of the reads that are to fail, and the number of the next read of a known name
pub record MemInputsState : Type 0 where
  pub files : List FileState
  pub refused : List ℕ
  pub reads : ℕ

abbrev pub counted_name : FileState → List ℕ × ℕ
counted_name f = (f.name, f.count)

abbrev pub named_bytes : FileState → List ℕ × List ℕ
named_bytes f = (f.name, f.bytes)

-- the names with their counts
abbrev pub known_of : List FileState → Known
known_of = map counted_name

-- the count of each name
abbrev pub faults_of : List FileState → ByName ℕ
faults_of files = counts_of (known_of files)

-- what each file holds
abbrev pub held_by : List FileState → ByName (List ℕ)
held_by files = from_entries (map named_bytes files)

-- whether a file has this name
abbrev pub has_name : List ℕ → FileState → Bool
has_name name f = pointwise nat_eq f.name name

-- the files with other bytes in the one of this name
abbrev pub with_bytes : List ℕ → List ℕ → List FileState → List FileState
with_bytes name bytes = with_first (has_name name) (λ f. record f { bytes = bytes })

-- the files with one more fault of the one of this name
abbrev pub with_fault : List ℕ → List FileState → List FileState
with_fault name = with_first (has_name name) (λ f. record f { count = counted f.count })

-- the files after one is added: a name that is known gets the new bytes and keeps its count, and a new one comes last
abbrev pub files_put : List ℕ → List ℕ → List FileState → List FileState
files_put name bytes files =
    if list_any (has_name name) files then with_bytes name bytes files else files ++ record { name = name; count = 0; bytes = bytes } ∷ []

-- the counts with this name among them, which has none so far if it is new
abbrev pub with_name : ByName ℕ → List ℕ → ByName ℕ
with_name counts name = if is_some (get counts name) then counts else insert counts name 0

-- the next read is one that is to fail
abbrev pub is_read_refused : MemInputsState → Bool
is_read_refused s = list_any (nat_eq s.reads) s.refused

-- what a read of a file answers, where that is known: how many of its bytes there are from the place on that fit
abbrev pub answer_of : Bool → Option (List ℕ) → ℕ → ℕ → Result ℕ InputFault
answer_of refused None at room = Err Missing
answer_of refused (Some file) at room = if refused then Err Failed else Ok (min room (length file - at))

-- what a read answers
abbrev pub read_answer : MemInputsState → List ℕ → ℕ → ℕ → Result ℕ InputFault
read_answer s name at room = answer_of (is_read_refused s) (get (held_by s.files) name) at room

-- the files after a read of a known name
abbrev pub after_known : MemInputsState → List ℕ → MemInputsState
after_known s name = record s { files = if is_read_refused s then with_fault name s.files else s.files; reads = counted s.reads }

-- the files after a read
abbrev pub after_read : MemInputsState → List ℕ → MemInputsState
after_read s name = if is_some (get (held_by s.files) name) then after_known s name else s

same_find : (files : List FileState) (q : List ℕ)
    → is_some (find (slice_cmp nat_cmp) q (map named_bytes files)) ≡ is_some (find (slice_cmp nat_cmp) q (known_of files))
same_find [] q = refl
same_find (f ∷ fs) q = elim (eq_by_cmp (slice_cmp nat_cmp) q f.name) as
    (λ b. is_some (cond b (Some f.bytes) (find (slice_cmp nat_cmp) q (map named_bytes fs)))
    ≡ is_some (cond b (Some f.count) (find (slice_cmp nat_cmp) q (known_of fs)))) [ true ↦ refl | false ↦ same_find fs q ]

-- the names held are the names known
pub held_known : (files : List FileState) (q : List ℕ) → is_some (get (held_by files) q) ≡ is_some (get (faults_of files) q)
held_known files q =
    ap is_some (get-from_entries nat_list_cmp_total (map named_bytes files) q) ∙ same_find files q ∙ sym
    (ap is_some (get-from_entries nat_list_cmp_total (known_of files) q))

some_inner : {X : Type 0} (a b : X) → Some a ≡ Some b → a ≡ b
some_inner {X = X} a b e = ap (inner a) e
  where
    inner : X → Option X → X
    inner d o = elim o [ Some x ↦ x | _ ↦ d ]

pub reported_known : (s : MemInputsState) (files : ByName (List ℕ)) (q : List ℕ) → Some (held_by s.files) ≡ Some files
    → is_some (get files q) ≡ is_some (get (faults_of s.files) q)
reported_known s files q e = ap (λ m. is_some (get m q)) (sym (some_inner (held_by s.files) files e)) ∙ held_known s.files q
