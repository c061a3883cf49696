use Rattle.std.proofs.Common.{◌≡◌, ◌+◌, ◌-◌, ◌*◌, ◌/◌, ◌<◌, ◌++◌, ◌∷◌, min, length, List, ap, subst, ◌∙◌, arith}
use Rattle.std.specs.List.{flat_map, range_with_len}
use Rattle.ts_packets.specs.Packet.{PacketRecord}
use Rattle.program_maker.specs.Program.{packets_at}
use Rattle.program_maker.specs.Packets.{pcr_packet, pes_packets}
use Rattle.program_maker.specs.Streams.{drawn_frames, picture_pes}
use Rattle.program_maker.specs.Private.Output.{IsBehind}
use Rattle.program_maker.specs.Private.Program.{frames_state, frames_packets, first_frame}
use Rattle.program_maker.proofs.Placing.{picture-more}
use Rattle.program_maker.proofs.program.put_units.Goals as goal

pub loop-k-preserved : goal.loop-k-preserved
loop-k-preserved c = λ packets is.
    let units = c.args.units.now in
    let start = c.args.draws.now.state in
    let k = c.loop-k.k in
    let within : k < length units = omega (arith, c.loop-k-test.true) in
    let invariant = c.loop-k.invariant packets is in
    let first : c.frames_before.result ≡ first_frame k = c.frames_before.ensures in
    let most : c.min.result ≡ min (first_frame (k + 1)) (5 * length units / 3) = c.min.ensures ∙ ap (λ n. min n (5 * length units / 3)) c.frames_before-in-loop-k.ensures in
    let at : min (first_frame k) (5 * length units / 3) ≡ c.frames_before.result = omega (arith, within, first) in
    let before : List PacketRecord = packets ++ flat_map (packets_at units (drawn_frames (length units) start).0) (range_with_len 0 k) in
    let shown : List PacketRecord = before ++ (pcr_packet k ∷ pes_packets 0x101 (picture_pes k c.as_slice.result.now)) in
    let picture = c.in_ok-put_picture.ensures before invariant.0 in
    let frames = c.in_ok-put_frames.ensures shown start picture (invariant.1 ∙ ap (frames_state start) at) in (
      subst (λ (ps : List PacketRecord). IsBehind ps c.put_frames.new.out)
          (ap (λ n. shown ++ frames_packets start n (c.min.result - n)) first
          ∙ picture-more packets units start k c.min.result c.as_slice.result.now _ within (c.as_slice.ensures ∙ c.index-units-k.is) most) frames.0,
      frames.1 ∙ ap (frames_state start) most,
    )

pub returns : goal.returns
returns c = λ packets is.
    let units = c.args.units.now in
    let all : c.loop-k.k ≡ length units = omega (arith, c.loop-k-test.false, c.loop-k.auto.k-end) in
    subst (λ k. IsBehind (packets ++ flat_map (packets_at units (drawn_frames (length units) c.args.draws.now.state).0) (range_with_len 0 k)) c.loop-k.out) all
    (c.loop-k.invariant packets is).0
