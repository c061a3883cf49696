use Rattle.std.proofs.Common.{◌≡◌, ℕ, ◌≤◌, ◌<◌, List, length, sym, subst, ◌∙◌}
use Rattle.std.proofs.lemmas.List.FromFn.{length-map-range_with_len}
use Rattle.ts_packets.specs.Packet.{PacketRecord}
use Rattle.mux_writer.specs.Output.{output_packets, output_stream, packet_in}
use Rattle.output_laws.proofs.Rows.{payloads-between}
use Rattle.output_laws.proofs.pids.pids_read_as_sent.Goals as goal

pub returns-clause-sound : goal.returns-clause-sound
returns-clause-sound c layout slot pieces rows pid from n are other begun within of =
    let list : List PacketRecord = output_packets layout slot pieces rows in
    let size : length list ≡ length rows = length-map-range_with_len (packet_in layout slot pieces rows) 0 (length rows) in
    c.counted_payloads_are_carried.ensures.sound (output_stream layout slot pieces rows) list pid from n (c.read_as_written.ensures layout slot pieces rows are.is_layout are.few are.each)
    (c.packets_are_counted.ensures layout slot pieces rows pid are other) begun (subst (λ (k : ℕ). n < k) (sym size) within) of

pub returns-clause-carried : goal.returns-clause-carried
returns-clause-carried c layout slot pieces rows pid from to are other begun within =
    let list : List PacketRecord = output_packets layout slot pieces rows in
    let size : length list ≡ length rows = length-map-range_with_len (packet_in layout slot pieces rows) 0 (length rows) in
    c.counted_payloads_are_carried.ensures.carried (output_stream layout slot pieces rows) list pid from to (c.read_as_written.ensures layout slot pieces rows are.is_layout are.few are.each)
    (c.packets_are_counted.ensures layout slot pieces rows pid are other) begun (subst (λ (k : ℕ). to ≤ k) (sym size) within)
    ∙ payloads-between layout slot pieces rows are.each pid from to begun within
