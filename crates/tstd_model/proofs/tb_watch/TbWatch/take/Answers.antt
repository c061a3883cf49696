use Rattle.std.proofs.Common.{◌≡◌, ◌+◌, ◌*◌, ◌≤◌, min, ◌∙◌, ap, subst, refl, arith}
use Rattle.stream_constants.specs.declared.decoder.TheConstants.{TB_BYTES}
use Rattle.stream_constants.specs.declared.packets.TheConstants.{PACKET_BYTES}
use Rattle.tstd_model.specs.PacketBytes.{byte_subticks}
use Rattle.tstd_model.specs.Private.Keeps.{tb_end, wanted_count}
use Rattle.tstd_model.specs.Private.Watches.{first_of}
use Rattle.tstd_model.proofs.KeptPackets.{passing-first, tb-first}
use Rattle.tstd_model.proofs.tb_watch.TbWatch.take.Goals as goal

pub returns-clause-passes : goal.returns-clause-passes
returns-clause-passes c = λ wanted later.
    let tb = c.args.self.now in
    let packet = c.args.packet.now in
    let first_is : c.first_instant-first.result ≡ first_of tb.slot packet = c.first_instant-first.ensures.value ∙ ap (λ n. PACKET_BYTES * packet.slot_no * n) tb.step_is in
    let at_is : c.in-Some.end ≡ tb_end tb.subticks (byte_subticks tb.slot) tb.before (first_of tb.slot packet) =
    c.in-Some.ensures ∙ ap (λ n. tb_end tb.subticks n tb.before c.first_instant-first.result) tb.step_is ∙ ap (λ n. tb_end tb.subticks (byte_subticks tb.slot) tb.before n) first_is
    in
    passing-first tb.subticks tb.slot tb.before packet later c.in-Some.end at_is c.requires wanted (wanted_count wanted packet) refl

pub returns-clause-keeps : goal.returns-clause-keeps
returns-clause-keeps c = λ yes later keeps.
    let tb = c.args.self.now in
    let s = tb.subticks in
    let packet = c.args.packet.now in
    let first_is : c.first_instant-first.result ≡ first_of tb.slot packet = c.first_instant-first.ensures.value ∙ ap (λ n. PACKET_BYTES * packet.slot_no * n) tb.step_is in
    let at_is : c.in-Some.end ≡ tb_end s (byte_subticks tb.slot) tb.before (first_of tb.slot packet) =
    c.in-Some.ensures ∙ ap (λ n. tb_end s n tb.before c.first_instant-first.result) tb.step_is ∙ ap (λ n. tb_end s (byte_subticks tb.slot) tb.before n) first_is
    in
    let free : tb.before + s * PACKET_BYTES + min (byte_subticks tb.slot) s ≤ first_of tb.slot packet + min (byte_subticks tb.slot) s * PACKET_BYTES + s * TB_BYTES =
    subst (λ f. tb.before + s * PACKET_BYTES + min (byte_subticks tb.slot) s ≤ f + min (byte_subticks tb.slot) s * PACKET_BYTES + s * TB_BYTES) first_is
    (subst (λ n. tb.before + s * PACKET_BYTES + min n s ≤ c.first_instant-first.result + min n s * PACKET_BYTES + s * TB_BYTES) tb.step_is (c.keeps-keeps.ensures yes))
    in
    tb-first s tb.slot tb.before packet later c.in-Some.end at_is (s * TB_BYTES) (omega arith) free keeps
