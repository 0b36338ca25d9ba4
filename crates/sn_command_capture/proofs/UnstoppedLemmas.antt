-- Where no window stops, over plain values.
use Rattle.std.proofs.Common.{◌≡◌, ℕ, List, [], ◌∷◌, map, Option, None, refl, ap, ◌∙◌}
use Rattle.std.specs.Option.{option_or}
use Rattle.sn_pcap.specs.declared.packet.Packet.{Packet}
use Rattle.sn_pcap.specs.declared.seen.Last.{Last}
use Rattle.sn_command.specs.declared.fault.Fault.{Fault}
use Rattle.sn_windows.specs.Blocks.{answered}
use Rattle.sn_windows.specs.Windows.{in_window}
use Rattle.sn_windows.specs.Rising.{Window}
use Rattle.sn_command_capture.specs.Capture.{blocks_before, closed_packets, first_stop, stop_in, stopped, windows_in, windows_outcome, windows_whole}
use Rattle.sn_command_capture.specs.Wording.{NeverStops, Wording}

none_first : (stop : ℕ → Option Fault) → ((w : ℕ) → stop w ≡ None) → (ws : List ℕ) → first_stop stop ws ≡ None
none_first stop none [] = refl
none_first stop none (w ∷ ws) = ap (λ (o : Option Fault). option_or o (first_stop stop ws)) (none w) ∙ none_first stop none ws

-- the outcome of the windows is that without stops
pub unstopped : (wording : Wording) → NeverStops wording → (shown : Packet → List ℕ) (packets : List (ℕ × Packet)) (end : Last) → windows_outcome wording shown packets end ≡ windows_whole wording shown packets end
unstopped wording never shown packets end =
    let ps : List (ℕ × Packet) = closed_packets end packets in
    let all : List Window = windows_in shown ps in
    ap (λ (o : Option Fault). stopped o (blocks_before wording shown ps) (windows_whole wording shown packets end))
    (none_first (λ w. stop_in wording shown all w (in_window w ps)) (λ w. never all w (map shown (in_window w ps))) (answered ps))
