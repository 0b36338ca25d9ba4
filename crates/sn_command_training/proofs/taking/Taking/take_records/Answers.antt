use Rattle.std.proofs.Common.{◌≡◌, ◌++◌, ℕ, List, length, map, take, drop, Result, ap, sym, subst, ◌∙◌, arith}
use Rattle.sn_pcap.specs.declared.packet.Packet.{Packet}
use Rattle.sn_pcap.specs.declared.packet.Ending.{Ending}
use Rattle.sn_pcap.specs.Capture.{Records}
use Rattle.sn_windows.specs.declared.windows.TooMany.{TooMany}
use Rattle.sn_command_training.specs.declared.taking.Found.{Found}
use Rattle.sn_command_training.specs.Collecting.{CollectsAll, Seen, shown}
use Rattle.sn_command_training.specs.Taking.{HoldsHeader, IsTakenAs, MayHaveCollected, end_at}
use Rattle.sn_command_training.proofs.MovedLemmas.{end_within}
use Rattle.sn_command_training.proofs.TakeLemmas.{bad_taken, collects_as, header_stays, held_taken, many_taken}
use Rattle.sn_command_training.proofs.taking.Taking.take_records.Goals as goal

pub returns-in-Err-clause-taken : goal.returns-in-Err-clause-taken
returns-in-Err-clause-taken c = λ window file place takes.
    let held : List ℕ = c.args.self.now.held.items in
    let found : List Packet = c.in_ok-found.found in
    let are : Records c.args.header.now held 24 found c.in_ok-found.ending = subst (λ (xs : List ℕ). Records c.args.header.now xs 24 c.in_ok-found.found c.in_ok-found.ending) c.deref.ensures.value c.in_ok-found.ensures.records in
    many_taken window file place c.args.header.now held c.args.self.now.collected takes found c.in_ok-found.ending are
    (subst (λ (r : Result (Unit {0}) TooMany). CollectsAll window (map (shown c.args.header.now.link file) takes.packets) (map (shown c.args.header.now.link held) found) r c.take_all.new.self) c.in-Err.is
    (collects_as window _ c.args.header.now.link c.deref-2.result.now held c.as_slice.result.now found c.in_ok-taken.taken c.take_all.new.self c.deref-2.ensures.value c.as_slice.ensures (c.in_ok-taken.ensures window _ takes.collects))).0

pub returns-in_default-end_of-clause-taken : goal.returns-in_default-end_of-clause-taken
returns-in_default-end_of-clause-taken c = λ window file place takes.
    let held : List ℕ = c.args.self.now.held.items in
    let found : List Packet = c.in_ok-found.found in
    let are : Records c.args.header.now held 24 found c.in_ok-found.ending = subst (λ (xs : List ℕ). Records c.args.header.now xs 24 c.in_ok-found.found c.in_ok-found.ending) c.deref.ensures.value c.in_ok-found.ensures.records in
    let bad = c.in_default-end_of.ensures.none in
    bad_taken window file place c.args.header.now held c.args.self.now.collected takes found bad.0 (subst (λ (e : Ending). Records c.args.header.now held 24 found e) bad.1 are) c.take_all.new.self
    (subst (λ (r : Result (Unit {0}) TooMany). CollectsAll window (map (shown c.args.header.now.link file) takes.packets) (map (shown c.args.header.now.link held) found) r c.take_all.new.self) c.in_default.is
    (collects_as window _ c.args.header.now.link c.deref-2.result.now held c.as_slice.result.now found c.in_ok-taken.taken c.take_all.new.self c.deref-2.ensures.value c.as_slice.ensures (c.in_ok-taken.ensures window _ takes.collects)))

pub hold_from-requires-clause-header : goal.hold_from-requires-clause-header
hold_from-requires-clause-header c =
    let held : List ℕ = c.args.self.now.held.items in
    let found : List Packet = c.in_ok-found.found in
    let are : Records c.args.header.now held 24 found c.in_ok-found.ending = subst (λ (xs : List ℕ). Records c.args.header.now xs 24 c.in_ok-found.found c.in_ok-found.ending) c.deref.ensures.value c.in_ok-found.ensures.records in
    let long : length held ≡ c.len.result = ap length (sym c.deref.ensures.value) ∙ c.deref.ensures.len ∙ sym c.len.ensures in
    let end : c.in-Some.end ≡ end_at held c.in_ok-found.ending = c.in-Some.ensures.some held long in
    let fits = end_within c.args.header.now held 24 found c.in_ok-found.ending c.requires.holds are in
    let above = fits.0 in
    omega (arith, end, above)

pub hold_from-requires-clause-within : goal.hold_from-requires-clause-within
hold_from-requires-clause-within c =
    let held : List ℕ = c.args.self.now.held.items in
    let found : List Packet = c.in_ok-found.found in
    let are : Records c.args.header.now held 24 found c.in_ok-found.ending = subst (λ (xs : List ℕ). Records c.args.header.now xs 24 c.in_ok-found.found c.in_ok-found.ending) c.deref.ensures.value c.in_ok-found.ensures.records in
    let long : length held ≡ c.len.result = ap length (sym c.deref.ensures.value) ∙ c.deref.ensures.len ∙ sym c.len.ensures in
    let end : c.in-Some.end ≡ end_at held c.in_ok-found.ending = c.in-Some.ensures.some held long in
    let fits = end_within c.args.header.now held 24 found c.in_ok-found.ending c.requires.holds are in
    let below = fits.1 in
    omega (arith, end, below)

pub returns-clause-goes_on : goal.returns-clause-goes_on
returns-clause-goes_on c =
    let held : List ℕ = c.args.self.now.held.items in
    let found : List Packet = c.in_ok-found.found in
    let are : Records c.args.header.now held 24 found c.in_ok-found.ending = subst (λ (xs : List ℕ). Records c.args.header.now xs 24 c.in_ok-found.found c.in_ok-found.ending) c.deref.ensures.value c.in_ok-found.ensures.records in
    let window : ℕ = c.requires.collected.0 in
    let seen : List Seen = c.requires.collected.1 in
    record {
      collects = subst (λ (f : Found). MayHaveCollected f c.take_all.new.self) (sym c.requires.found) (
        window,
        seen ++ map (shown c.args.header.now.link held) found,
        subst (λ (r : Result (Unit {0}) TooMany). CollectsAll window seen (map (shown c.args.header.now.link held) found) r c.take_all.new.self) c.in_default.is
            (collects_as window _ c.args.header.now.link c.deref-2.result.now held c.as_slice.result.now found c.in_ok-taken.taken c.take_all.new.self c.deref-2.ensures.value c.as_slice.ensures (c.in_ok-taken.ensures window _ c.requires.collected.2)),
      );
      holds = subst (λ (f : Found). HoldsHeader f c.hold_from.new.held.items) (sym c.requires.found) (header_stays held c.hold_from.new.held.items c.in-Some.end c.requires.holds c.hold_from.ensures);
    }

pub returns-clause-taken : goal.returns-clause-taken
returns-clause-taken c = λ window file place takes.
    let held : List ℕ = c.args.self.now.held.items in
    let found : List Packet = c.in_ok-found.found in
    let are : Records c.args.header.now held 24 found c.in_ok-found.ending = subst (λ (xs : List ℕ). Records c.args.header.now xs 24 c.in_ok-found.found c.in_ok-found.ending) c.deref.ensures.value c.in_ok-found.ensures.records in
    let long : length held ≡ c.len.result = ap length (sym c.deref.ensures.value) ∙ c.deref.ensures.len ∙ sym c.len.ensures in
    let end : c.in-Some.end ≡ end_at held c.in_ok-found.ending = c.in-Some.ensures.some held long in
    subst (λ (f : Found). IsTakenAs window file place f c.hold_from.new.held.items c.take_all.new.self) (sym c.requires.found)
    (held_taken window file place c.args.header.now held c.args.self.now.collected takes found c.in_ok-found.ending are c.take_all.new.self c.hold_from.new.held.items
    (subst (λ (r : Result (Unit {0}) TooMany). CollectsAll window (map (shown c.args.header.now.link file) takes.packets) (map (shown c.args.header.now.link held) found) r c.take_all.new.self) c.in_default.is
    (collects_as window _ c.args.header.now.link c.deref-2.result.now held c.as_slice.result.now found c.in_ok-taken.taken c.take_all.new.self c.deref-2.ensures.value c.as_slice.ensures (c.in_ok-taken.ensures window _ takes.collects)))
    (c.hold_from.ensures ∙ ap (λ (n : ℕ). take 24 held ++ drop n held) end))
