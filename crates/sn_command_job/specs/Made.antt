-- serves proofs
-- Files that were made, of which no read fails.
use Rattle.std.specs.Prelude.{◌≡◌, ℕ, List, [], ◌∷◌, map, Some, is_some}
use Rattle.std.specs.FinMap.{from_entries, get}
use Rattle.std.proofs.Common.{refl, ap, ◌∙◌}
use Rattle.sn_io.specs.Counts.{ByName}
use Rattle.sn_io.specs.MemInputs.{FileState, faults_of, held_by, named_bytes, reported_known}

-- files as they stand where none of their reads failed
abbrev pub unfailed_file : FileState → FileState
unfailed_file f = record { name = f.name; count = 0; bytes = f.bytes }

abbrev pub unfailed : List FileState → List FileState
unfailed files = map unfailed_file files

-- the names, each without a fault
abbrev pub no_faults : List FileState → ByName ℕ
no_faults files = faults_of (unfailed files)

same_bytes : (files : List FileState) → map named_bytes (unfailed files) ≡ map named_bytes files
same_bytes [] = refl
same_bytes (f ∷ fs) = ap (λ (rest : List (List ℕ × List ℕ)). (f.name, f.bytes) ∷ rest) (same_bytes fs)

pub held_unfailed : (files : List FileState) → held_by (unfailed files) ≡ held_by files
held_unfailed files = ap from_entries (same_bytes files)

-- the names held are the names known
pub made_known : (files : List FileState) (held : ByName (List ℕ)) (name : List ℕ) → Some (held_by files) ≡ Some held
    → is_some (get held name) ≡ is_some (get (no_faults files) name)
made_known files held name reported = reported_known (record { files = unfailed files; refused = []; reads = 0 }) held name (ap Some (held_unfailed files) ∙ reported)
