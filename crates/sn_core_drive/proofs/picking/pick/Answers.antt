use Rattle.std.proofs.Common.{◌≡◌, ◌<◌, ◌∙◌, ◌%◌, zero, suc, refl, ap, ap₂, sym, subst, length, slice_get, ℕ, List, arith}
use Rattle.std.proofs.Math.Nat.{mod-lt}
use Rattle.sn_core.specs.declared.event.Event.{Event}
use Rattle.sn_core_drive.specs.Schedules.{enabled_events, events_of, may_happen}
use Rattle.sn_core_drive.specs.Picking.{events_found}
use Rattle.sn_core_drive.proofs.Found.{all_found}
use Rattle.sn_core_drive.proofs.Listing.{got_known, got_passes, none_enabled}
use Rattle.sn_core_drive.proofs.Owing.{goes_on}
use Rattle.sn_core_drive.proofs.picking.pick.Goals as goal
use Rattle.sn_base.proofs.Lists.{none_is as is_none_none}

some_number : (n : ℕ) → (n ≡ 0 → ⊥) → 0 < n
some_number zero h = absurd (h refl)
some_number (suc n) h = omega arith

pub place_of-n-requires : goal.place_of-n-requires
place_of-n-requires g c =
    let m = c.args.machine.now in
    let s = g.M.Machine.state m in
    let count : c.count_found.result ≡ length (enabled_events s) = c.count_found.ensures ∙ ap (λ (es : List Event). length es) (sym (all_found s c.look-found.result c.look-found.ensures)) in
    some_number c.count_found.result (λ e.
    goes_on (g.M.Machine.works m) (g.met.M.Machine.lawful m) s c.requires.stands c.requires.going c.requires.taken (none_enabled s (sym count ∙ e)))

pub nth_found-requires : goal.nth_found-requires
nth_found-requires g c =
    let m = c.args.machine.now in
    let s = g.M.Machine.state m in
    let found = c.look-found.result in
    let count : c.count_found.result ≡ length (enabled_events s) = c.count_found.ensures ∙ ap (λ (es : List Event). length es) (sym (all_found s found c.look-found.ensures)) in
    subst (λ (n : ℕ). c.place_of-n.result < n) c.count_found.ensures
    (subst (λ (n : ℕ). n < c.count_found.result) (sym c.place_of-n.ensures) (mod-lt c.draw.result (some_number c.count_found.result (λ e.
    goes_on (g.M.Machine.works m) (g.met.M.Machine.lawful m) s c.requires.stands c.requires.going c.requires.taken (none_enabled s (sym count ∙ e))))))

pub returns-clause-picked : goal.returns-clause-picked
returns-clause-picked g c =
    let s = g.M.Machine.state c.args.machine.now in
    let found = c.look-found.result in
    let all : enabled_events s ≡ events_found found = all_found s found c.look-found.ensures in
    let count : c.count_found.result ≡ length (enabled_events s) = c.count_found.ensures ∙ ap (λ (es : List Event). length es) (sym all) in
    ap₂ (λ (x n : ℕ). slice_get (enabled_events s) (x % n)) (sym c.draw.ensures.value) (sym count)
    ∙ ap (λ (n : ℕ). slice_get (enabled_events s) n) (sym c.place_of-n.ensures) ∙ ap (λ (es : List Event). slice_get es c.place_of-n.result) all ∙ c.nth_found.ensures

pub returns-clause-lane : goal.returns-clause-lane
returns-clause-lane g c =
    let s = g.M.Machine.state c.args.machine.now in
    let all : enabled_events s ≡ events_found c.look-found.result = all_found s c.look-found.result c.look-found.ensures in
    got_known s c.place_of-n.result c.nth_found.result (ap (λ (es : List Event). slice_get es c.place_of-n.result) all ∙ c.nth_found.ensures)

pub returns-clause-may : goal.returns-clause-may
returns-clause-may g c =
    let s = g.M.Machine.state c.args.machine.now in
    let all : enabled_events s ≡ events_found c.look-found.result = all_found s c.look-found.result c.look-found.ensures in
    is_none_none _ (got_passes (may_happen s) (events_of _) _ c.nth_found.result (ap (λ (es : List Event). slice_get es c.place_of-n.result) all ∙ c.nth_found.ensures))
