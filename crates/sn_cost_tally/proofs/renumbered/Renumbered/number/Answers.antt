use Rattle.std.proofs.Common.{◌≡◌, ℕ, List, [], ◌∷◌, ◌++◌, slice_get, Some, ap, sym, ◌∙◌, arith}
use Rattle.std.proofs.lemmas.Option.{slice_get-get_or}
use Rattle.sn_base.specs.Groups.{Row}
use Rattle.sn_base.proofs.Lists.{some_same}
use Rattle.sn_cost_seats.specs.Seats.{row_at}
use Rattle.sn_cost_tally.specs.Largest.{largest_slots}
use Rattle.sn_cost_tally.specs.Renumbered.{placed}
use Rattle.sn_cost_tally.proofs.Renumbering.{came_at, came_stays, comes_at, comes_last, comes_renumbered, mapped_read}
use Rattle.sn_cost_tally.proofs.renumbered.Renumbered.number.Goals as goal

pub returns-then-after-gt0-clause-place : goal.returns-then-after-gt0-clause-place
returns-then-after-gt0-clause-place g c =
    let all : List Row = c.args.all.now.keys in
    let ks : List Row = c.args.self.now.keys in
    let key : Row = row_at all c.args.number in
    let after : ℕ = c.index-after.result.now in
    came_at key ks after (mapped_read (placed ks) all key c.args.self.now.places.items c.args.number after c.requires.so_far.each (slice_get-get_or all c.args.number [] c.requires.within) c.index-after.ensures) c.if-after-gt0.true

pub returns-then-after-gt0-clause-keys : goal.returns-then-after-gt0-clause-keys
returns-then-after-gt0-clause-keys g c =
    let all : List Row = c.args.all.now.keys in
    let ks : List Row = c.args.self.now.keys in
    let key : Row = row_at all c.args.number in
    let after : ℕ = c.index-after.result.now in
    came_stays key ks after (mapped_read (placed ks) all key c.args.self.now.places.items c.args.number after c.requires.so_far.each (slice_get-get_or all c.args.number [] c.requires.within) c.index-after.ensures) c.if-after-gt0.true

pub returns-clause-place : goal.returns-clause-place
returns-clause-place g c =
    let all : List Row = c.args.all.now.keys in
    let ks : List Row = c.args.self.now.keys in
    let key : Row = row_at all c.args.number in
    let after : ℕ = c.index-after.result.now in
    let is : slice_get all c.args.number ≡ Some key = slice_get-get_or all c.args.number [] c.requires.within in
    let pushed : c.push.new.self ≡ ks ++ key ∷ [] = c.in_ok-push.ensures.ok ∙ ap (λ (k : Row). ks ++ k ∷ []) (some_same _ key (sym c.at.ensures ∙ is)) in
    comes_at key ks after (mapped_read (placed ks) all key c.args.self.now.places.items c.args.number after c.requires.so_far.each is c.index-after.ensures) c.len-count.result c.push.new.self (omega (arith, c.if-after-gt0.false))
    c.len-count.ensures pushed

pub returns-clause-keys : goal.returns-clause-keys
returns-clause-keys g c =
    let all : List Row = c.args.all.now.keys in
    let ks : List Row = c.args.self.now.keys in
    let key : Row = row_at all c.args.number in
    let after : ℕ = c.index-after.result.now in
    let is : slice_get all c.args.number ≡ Some key = slice_get-get_or all c.args.number [] c.requires.within in
    let pushed : c.push.new.self ≡ ks ++ key ∷ [] = c.in_ok-push.ensures.ok ∙ ap (λ (k : Row). ks ++ k ∷ []) (some_same _ key (sym c.at.ensures ∙ is)) in
    comes_last key ks after (mapped_read (placed ks) all key c.args.self.now.places.items c.args.number after c.requires.so_far.each is c.index-after.ensures) c.push.new.self (omega (arith, c.if-after-gt0.false)) pushed

pub returns-clause-so_far : goal.returns-clause-so_far
returns-clause-so_far g c =
    let all : List Row = c.args.all.now.keys in
    let ks : List Row = c.args.self.now.keys in
    let key : Row = row_at all c.args.number in
    let after : ℕ = c.index-after.result.now in
    let is : slice_get all c.args.number ≡ Some key = slice_get-get_or all c.args.number [] c.requires.within in
    let pushed : c.push.new.self ≡ ks ++ key ∷ [] = c.in_ok-push.ensures.ok ∙ ap (λ (k : Row). ks ++ k ∷ []) (some_same _ key (sym c.at.ensures ∙ is)) in
    comes_renumbered key ks after (mapped_read (placed ks) all key c.args.self.now.places.items c.args.number after c.requires.so_far.each is c.index-after.ensures) all c.push.new.self c.args.self.now.places.items
    c.args.self.now.slots.items c.push-2.new.self.items c.index.result.now c.args.number c.len-count.result c.requires.apart is c.requires.so_far (omega (arith, c.if-after-gt0.false)) c.len-count.ensures pushed
    (mapped_read largest_slots all key c.args.all.now.slots.items c.args.number c.index.result.now c.args.all.now.known is c.index.ensures) c.in_ok-push-2.ensures.items
