-- serves proofs
-- What is kept of a capture while its records are read one after another.
use Rattle.std.specs.Prelude.{◌≡◌, ℕ, ◌<◌, ◌≤◌, nat_le, ◌==◌, List, [], ◌∷◌, ◌++◌, Bool, true, false, length, if◌then◌else◌}
use Rattle.std.specs.Prelude.{Ok, Err, Option, Some, None, is_some}
use Rattle.sn_io.specs.declared.inputs.ReadError.{ReadError}
use Rattle.sn_io.specs.declared.inputs.ReadError.TheVariants as errors
use Rattle.sn_pcap.specs.declared.packet.Ending.{Ending}
use Rattle.sn_command.specs.declared.fault.Fault.{Fault}
use Rattle.sn_command.specs.declared.fault.Fault.TheVariants.{TooLarge}
use Rattle.sn_command.specs.declared.refusal.Refusal.{Refusal}
use Rattle.sn_command.specs.declared.refusal.Refusal.TheVariants.{Refused}
use Rattle.sn_command.specs.Outcomes.{Outcome, silent}
use Rattle.sn_command.specs.Refusals.{read_refusal}
use Rattle.sn_command.specs.Runs.{Runs}
use Rattle.sn_command.specs.Stages.{Does}
use Rattle.sn_command.specs.Worlds.{World}
use Rattle.sn_windows.specs.Numbering.{Numbering, begun, next_number, next_count, stepped}
use Rattle.sn_windows.specs.NumberingOf.{numbering}
use Rattle.sn_command_capture.specs.Wording.{Wording}
use Rattle.sn_command_capture.specs.declared.gathered.Gathered.{Gathered}
use Rattle.sn_windows.specs.Rising.{AreRising, Window}
use Rattle.sn_windows.specs.Blocks.{most_records}

-- the numbering of the windows, the tuples of the current one, and the windows that were closed
pub record Gathering : Type 0 where
  pub numbering : Numbering
  pub tuples : List (List ℕ)
  pub closed : List Window

-- before any record
abbrev pub none_gathered : ℕ → Gathering
none_gathered window = record { numbering = begun window; tuples = []; closed = [] }

-- the windows that were closed, and the current one
abbrev pub with_hand : Gathering → List Window
with_hand g = g.closed ++ (g.numbering.number, g.tuples) ∷ []

-- the block of the current window
abbrev pub hand_text : Wording → Gathering → List ℕ
hand_text wording g = wording.block (with_hand g) g.numbering.number g.tuples

-- why the current window stops, if it does
abbrev pub hand_stop : Wording → Gathering → Option Fault
hand_stop wording g = wording.stops (with_hand g) g.numbering.number g.tuples

-- a window is closed: it stops, or its block goes out, and this is given
abbrev pub closed_as : {A : Type 0} → Option Fault → List ℕ → A → Outcome A
closed_as None block value = record { text = block; end = Ok value }
closed_as (Some fault) block value = silent (Err (Refused fault))

-- What stands of the current window where the capture is refused. Before the first record no window is open.
abbrev pub unfinished_of : Wording → ℕ → List Window → List (List ℕ) → List ℕ
unfinished_of wording number closed [] = []
unfinished_of wording number closed (t ∷ ts) = wording.unfinished closed number (t ∷ ts)

abbrev pub unfinished_text : Wording → Gathering → List ℕ
unfinished_text wording g = unfinished_of wording g.numbering.number g.closed g.tuples

-- the capture is refused, after what stands of the current window
abbrev pub refused : {A : Type 0} → Wording → Gathering → Outcome A
refused wording g = record { text = unfinished_text wording g; end = Err (Refused TooLarge) }

-- after a record of the current window
abbrev pub joined : Gathering → ℕ → List ℕ → Gathering
joined g time tuple = record { numbering = stepped g.numbering time; tuples = g.tuples ++ tuple ∷ []; closed = g.closed }

-- after a record that begins the next window
abbrev pub begins : Gathering → ℕ → List ℕ → Gathering
begins g time tuple = record { numbering = stepped g.numbering time; tuples = tuple ∷ []; closed = with_hand g }

abbrev pub is_here : Gathering → ℕ → Bool
is_here g time = next_number g.numbering time == g.numbering.number

-- after a record at this time, with this tuple
abbrev pub after : Gathering → ℕ → List ℕ → Gathering
after g time tuple = if is_here g time then joined g time tuple else begins g time tuple

-- A record at this time, with this tuple, is of the current window or begins the next one: then the current one is closed. Where the
-- current window would have too many records, the capture is refused.
abbrev pub taken : Wording → Gathering → ℕ → List ℕ → Outcome Gathering
taken wording g time tuple =
    if nat_le most_records (next_count g.numbering time) then refused wording g
    else (if is_here g time then silent (Ok (joined g time tuple)) else closed_as (hand_stop wording g) (hand_text wording g) (begins g time tuple))

-- The records end: the current window is closed, if there is one.
abbrev pub closing_of : Wording → ℕ → List Window → Ending → List (List ℕ) → Outcome (List Window × Ending)
closing_of wording number closed ending [] = silent (Ok (closed, ending))
closing_of wording number closed ending (t ∷ ts) =
    closed_as (wording.stops (closed ++ (number, t ∷ ts) ∷ []) number (t ∷ ts)) (wording.block (closed ++ (number, t ∷ ts) ∷ []) number (t ∷ ts))
    (closed ++ (number, t ∷ ts) ∷ [], ending)

abbrev pub closing : Wording → Gathering → Ending → Outcome (List Window × Ending)
closing wording g ending = closing_of wording g.numbering.number g.closed ending g.tuples

-- all windows, where the records end
abbrev pub all_of : ℕ → List Window → List (List ℕ) → List Window
all_of number closed [] = closed
all_of number closed (t ∷ ts) = closed ++ (number, t ∷ ts) ∷ []

abbrev pub all_closed : Gathering → List Window
all_closed g = all_of g.numbering.number g.closed g.tuples

-- what is kept in code is this, and what answers holds the same
pub record Stands (hand : List Window → ℕ → List (List ℕ) → Type 0) (kept : Gathered) (g : Gathering) : Type 0 where
  pub numbering : g.numbering ≡ numbering kept.windows
  pub closed : kept.closed ≡ length g.closed
  pub some : kept.some ≡ true → 0 < length g.tuples
  pub none : kept.some ≡ false → g.tuples ≡ []
  pub fresh : kept.some ≡ false → (g.numbering.first ≡ None) × (g.numbering.number ≡ 0)
  pub begun : kept.some ≡ true → is_some g.numbering.first ≡ true
  pub count : is_some g.numbering.first ≡ true → g.numbering.count ≡ length g.tuples
  pub few : length g.tuples ≤ most_records
  pub at_hand : hand g.closed g.numbering.number g.tuples
  pub rising : AreRising None (with_hand g)

-- A capture that can't be read on is refused. Where it has too many bytes, what stands of the current window went out before;
-- else nothing did.
abbrev pub Stops : (List Window → ℕ → List (List ℕ) → Type 0) → Wording → Gathered → ReadError → World → Refusal → World → Type 0
Stops hand wording kept errors.TooLarge before refusal now = (g : Gathering) → Stands hand kept g
    → Runs [] (Does (refused {A = Gathering} wording g)) before (Err refusal) now
Stops hand wording kept error before refusal now = (refusal ≡ read_refusal error) × (now ≡ before)
