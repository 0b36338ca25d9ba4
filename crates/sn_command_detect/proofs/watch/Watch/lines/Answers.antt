use Rattle.std.proofs.Common.{◌≡◌, List, ℕ, ◌++◌, None, length, ap, sym, ◌∙◌, append_assoc}
use Rattle.std.specs.List.{flat_map}
use Rattle.sn_command_detect.specs.Detected.{watched_from, watched_text}
use Rattle.sn_command_detect.specs.Watching.{detect_text}
use Rattle.sn_out.specs.Text.{damage_line, total_line}
use Rattle.sn_command_detect.proofs.WatchLemmas.{texts_same}
use Rattle.sn_command_detect.proofs.watch.Watch.lines.Goals as goal

pub returns : goal.returns
returns c = λ closed h many.
    let s = c.args.self.now in
    let watched = watched_from s.typed.queries 0 s.plan.entries in
    let front : c.push_detects.new.text.items ≡ flat_map (watched_text s.typed.queries closed) watched =
    c.in_ok-push_detects.ensures
    ∙ ap (λ (text : List ℕ). text ++ flat_map detect_text c.deref.result.now) c.new-text.ensures.items
    ∙ ap (flat_map detect_text) c.deref.ensures.value
    ∙ texts_same s.typed.queries closed h.rising watched s.detects.items h.after in
    let back : c.as_slice.result.now ≡ damage_line c.args.ending ++ total_line (length closed) None =
    c.as_slice.ensures ∙ c.in_ok-last.ensures ∙ ap (λ (n : ℕ). damage_line c.args.ending ++ total_line n None) many in
    c.from_vec.ensures ∙ c.in_ok-push_bytes.ensures ∙ (λ i. front i ++ back i)
    ∙ sym (append_assoc (flat_map (watched_text s.typed.queries closed) watched) (damage_line c.args.ending) (total_line (length closed) None))
