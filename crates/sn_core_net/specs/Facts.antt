-- serves proofs
-- What holds of every net besides what its state says.
use Rattle.std.specs.Prelude.{ℕ, List, [], ◌∷◌, map, Bool, true, false, not, ◌&&◌, ◌==◌, Option}
use Rattle.std.specs.List.{list_all}
use Rattle.sn_base.specs.declared.lane.Lane.{Lane}
use Rattle.sn_core.specs.Needs.{is_over}
use Rattle.sn_core.specs.declared.supply.Supply.{Supply}
use Rattle.sn_core.specs.declared.supply.Window.{Window}
use Rattle.sn_core.specs.declared.supply.Window.TheVariants.{Idle, Begun, Closed}
use Rattle.sn_engine.specs.Intakes.{agrees, is_lane}
use Rattle.sn_engine.specs.declared.intake.Intake.{Intake}
use Rattle.sn_core_net.specs.Reports.{is_own}
use Rattle.sn_core_net.specs.declared.holder.Holder.{Holder}

-- each name is that of the engine's lane at its place, and of no lane before it
abbrev pub are_named : List Lane → List Intake → Bool
are_named [] [] = true
are_named [] (x ∷ xs) = false
are_named (name ∷ names) [] = false
are_named (name ∷ names) (x ∷ xs) = is_lane name x && list_all (λ other. not (is_lane other x)) names && are_named names xs

abbrev pub names_of : List Holder → List Lane
names_of hs = map (λ h. h.sender.lane) hs

-- lanes may have been read out: a window is closed, or nothing more comes of it
abbrev pub may_be_read : Window → Option (Supply (List ℕ)) → Bool
may_be_read Idle held = false
may_be_read (Begun number) held = is_over number held
may_be_read (Closed number) held = true

-- no lane was read out in this window
abbrev pub are_unread : List Holder → Bool
are_unread hs = list_all (λ h. h.sender.pipe.prefix.place == 0) hs

-- the engine's lanes have ended no window but this one
abbrev pub ends_agree : Window → List Intake → Bool
ends_agree Idle xs = true
ends_agree (Begun number) xs = list_all (agrees number) xs
ends_agree (Closed number) xs = true

-- each ring holds this many frames at most
abbrev pub are_roomy : ℕ → List Holder → Bool
are_roomy room hs = list_all (λ h. h.ring.capacity == room) hs

-- each frame that a lane holds is one of its own in this window
abbrev pub are_own : ℕ → List Holder → Bool
are_own window hs = list_all (λ h. list_all (is_own h.sender.lane window) h.ring.items) hs
