-- serves proofs
-- Texts without their lines of events.
use Rattle.std.specs.Prelude.{◌≡◌, ℕ, Bool, true, false, List, [], ◌∷◌, ◌&&◌, ◌==◌, codes, if◌then◌else◌}
use Rattle.std.specs.List.{flat_map}
use Rattle.sn_command.specs.Outcomes.{Outcome}

-- a character before the lines of what follows it: it begins the first of them
abbrev pub on_first : ℕ → List (List ℕ) → List (List ℕ)
on_first c [] = (c ∷ []) ∷ []
on_first c (line ∷ later) = (c ∷ line) ∷ later

-- the lines of a text, each up to its line feed; what stands after the last line feed is one more
abbrev pub lines_in : List ℕ → List (List ℕ)
lines_in [] = []
lines_in (c ∷ cs) = if c == 10 then (c ∷ []) ∷ lines_in cs else on_first c (lines_in cs)

abbrev pub begins_with : List ℕ → List ℕ → Bool
begins_with [] text = true
begins_with (c ∷ cs) [] = false
begins_with (c ∷ cs) (d ∷ ds) = (c == d) && begins_with cs ds

-- a line of an event begins with `event `
abbrev pub is_event : List ℕ → Bool
is_event line = begins_with (codes "event ") line

abbrev pub unless_event : List ℕ → List ℕ
unless_event line = if is_event line then [] else line

-- a text without its lines of events
abbrev pub without_events : List ℕ → List ℕ
without_events text = flat_map unless_event (lines_in text)

-- An outcome is another one with lines of events in its text: without these lines the texts are the same, and both end alike.
pub record AddsEvents (plain traced : Outcome (Unit {0})) : Type 0 where
  pub text : without_events traced.text ≡ plain.text
  pub end : traced.end ≡ plain.end
