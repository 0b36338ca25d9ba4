-- to be believed
-- What the windows that were given hold.
use Rattle.std.specs.Prelude.{ℕ, List, [], Bool, nat_eq, ◌==◌, Option}
use Rattle.std.specs.List.{find, list_any}
use Rattle.std.specs.Option.{option_map_or}
use Rattle.sn_detect.specs.declared.look.Look.{Look}

-- the window of a number, and the addresses in its two answers; a window that wasn't given has none
abbrev pub look_at : List Look → ℕ → Option Look
look_at looks w = find (λ (l : Look). l.window == w) looks

abbrev pub unrefined_at : List Look → ℕ → List ℕ
unrefined_at looks w = option_map_or (λ (l : Look). l.unrefined) (look_at looks w) []

abbrev pub refined_at : List Look → ℕ → List ℕ
refined_at looks w = option_map_or (λ (l : Look). l.refined) (look_at looks w) []

abbrev pub holds : List ℕ → ℕ → Bool
holds addresses a = list_any (nat_eq a) addresses
