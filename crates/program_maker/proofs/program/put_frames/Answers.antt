use Rattle.std.proofs.Common.{◌≡◌, ◌-◌, ◌++◌, List, ℕ, sym, ap, subst, ◌∙◌, append_assoc, arith}
use Rattle.ts_packets.specs.Packet.{PacketRecord}
use Rattle.program_maker.specs.Packets.{pes_packets}
use Rattle.program_maker.specs.Streams.{drawn_frame, frame_pes}
use Rattle.program_maker.specs.Private.Output.{IsBehind}
use Rattle.program_maker.specs.Private.Program.{frames_state, frames_packets}
use Rattle.program_maker.proofs.Drawing.{state-more}
use Rattle.program_maker.proofs.Placing.{frames-more}
use Rattle.program_maker.proofs.program.put_frames.Goals as goal

pub loop-j-preserved : goal.loop-j-preserved
loop-j-preserved c = λ packets start is st.
    let first = c.args.first in
    let j = c.loop-j.j in
    let invariant = c.loop-j.invariant packets start is st in
    let before : List PacketRecord = frames_packets start first (j - first) in
    let bytes = c.as_slice.ensures.value ∙ c.in_ok-make_frame_pes.ensures.made ∙ ap (λ s. frame_pes j (drawn_frame s).0) invariant.1 in (
      subst (λ (ps : List PacketRecord). IsBehind ps c.put_pes.new.self)
          (ap (λ (b : List ℕ). (packets ++ before) ++ pes_packets 0x102 b) bytes
          ∙ append_assoc packets before (pes_packets 0x102 (frame_pes j (drawn_frame (frames_state start j)).0))
          ∙ ap (λ ps. packets ++ ps) (frames-more start first j (omega (arith, c.loop-j.auto.j))))
          (c.in_ok-put_pes.ensures (packets ++ before) invariant.0),
      c.in_ok-make_frame_pes.ensures.state ∙ ap (λ s. (drawn_frame s).1) invariant.1 ∙ sym (state-more (λ _. drawn_frame) j start),
    )

pub returns : goal.returns
returns c = λ packets start is st.
    let all : c.loop-j.j ≡ c.args.end = omega (arith, c.loop-j-test.false, c.loop-j.auto.j-end, c.loop-j.auto.j) in
    let invariant = c.loop-j.invariant packets start is st in (
      subst (λ j. IsBehind (packets ++ frames_packets start c.args.first (j - c.args.first)) c.loop-j.out) all invariant.0,
      subst (λ j. c.loop-j.draws.state ≡ frames_state start j) all invariant.1,
    )
