use Rattle.std.proofs.Common.{◌+◌, ◌∷◌, List, ℕ, ap, subst, sym, ◌∙◌}
use Rattle.sn_command_captures.proofs.WalkLemmas.{ending_left, few_left, taken_is}
use Rattle.sn_command_captures.specs.Recorded.{Untaken}
use Rattle.sn_command_captures.specs.Walks.{IsNextRecord, untaken}
use Rattle.sn_fields.specs.Tuples.{tuple}
use Rattle.sn_pcap.specs.Capture.{bytes_of}
use Rattle.sn_windows.proofs.RunLemmas.{Rises}
use Rattle.sn_windows.specs.NumberingOf.{numbering}
use Rattle.sn_command_captures.proofs.share.Share.take.Goals as goal

pub invariant_of-self : goal.invariant_of-self
invariant_of-self c =
    let a = c.self.inside in
    let n =
    subst (λ (bytes : List ℕ). IsNextRecord a.header bytes a.at (numbering a.windows) c.in_ok-found.found c.in_ok-found.packet (numbering c.next_record.new.windows)) c.as_slice.ensures
    c.in_ok-found.ensures.some in
    few_left n c.self.invariant

pub returns-clause-some : goal.returns-clause-some
returns-clause-some c =
    let a = c.self.inside in
    let packet = c.in_ok-found.packet in
    let n =
    subst (λ (bytes : List ℕ). IsNextRecord a.header bytes a.at (numbering a.windows) c.in_ok-found.found packet (numbering c.next_record.new.windows)) c.as_slice.ensures
    c.in_ok-found.ensures.some in
    let rest = (untaken a.header a.file (numbering c.next_record.new.windows) (a.at + (16 + packet.cap))).records in
    let same = c.tuple_of-tuple.ensures.fields ∙ ap (tuple a.header.link packet.wire) (c.bytes-bytes.ensures ∙ ap (λ (bytes : List ℕ). bytes_of bytes packet) c.as_slice-2.ensures) in
    ap (λ (u : Untaken). u.records) (sym c.self.view_is) ∙ taken_is n
    ∙ ap (λ (t : List ℕ). (c.in_ok-found.found, t) ∷ rest) (sym same) ∙ ap (λ (k : ℕ). (k, c.tuple_of-tuple.result) ∷ rest) c.if-found-number.false

pub returns-clause-sound : goal.returns-clause-sound
returns-clause-sound c =
    let a = c.self.inside in
    let n =
    subst (λ (bytes : List ℕ). IsNextRecord a.header bytes a.at (numbering a.windows) c.in_ok-found.found c.in_ok-found.packet (numbering c.next_record.new.windows)) c.as_slice.ensures
    c.in_ok-found.ensures.some in
    (subst (λ (rs : List (ℕ × List ℕ)). Rises rs) (ap (λ (u : Untaken). u.records) (sym c.self.view_is) ∙ taken_is n) c.requires).1

pub returns-clause-ending : goal.returns-clause-ending
returns-clause-ending c =
    let a = c.self.inside in
    let n =
    subst (λ (bytes : List ℕ). IsNextRecord a.header bytes a.at (numbering a.windows) c.in_ok-found.found c.in_ok-found.packet (numbering c.next_record.new.windows)) c.as_slice.ensures
    c.in_ok-found.ensures.some in
    ending_left n ∙ ap (λ (u : Untaken). u.ending) c.self.view_is
