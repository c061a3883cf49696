use Rattle.std.proofs.Common.{◌≡◌, ◌+◌, ◌/◌, ◌++◌, ◌∷◌, [], ℕ, List, length, map, sym, ap, subst, ◌∙◌, append_assoc, arith, nat_eq}
use Rattle.std.specs.List.{range_with_len}
use Rattle.std.proofs.lemmas.List.FromFn.{map-range_with_len_more}
use Rattle.ts_packets.specs.Packet.{PacketRecord}
use Rattle.program_maker.specs.Packets.{payload_packet, pes_piece, pes_packets}
use Rattle.program_maker.specs.Private.Output.{IsBehind, pid_of}
use Rattle.program_maker.proofs.output.Output.put_pes.Goals as goal

pub loop-n-preserved : goal.loop-n-preserved
loop-n-preserved c = λ packets is.
    let n = c.loop-n.n in
    let bytes = c.args.bytes.now in
    let packet = pes_piece (pid_of c.args.carried) bytes in
    let before : List PacketRecord = map packet (range_with_len 0 n) in
    let one = c.in_ok-put_payload.ensures (packets ++ before) (c.loop-n.invariant packets is) in
    let is_chunk = ap (λ (payload : List ℕ). (packets ++ before) ++ payload_packet (pid_of c.args.carried) (nat_eq n 0) payload ∷ []) c.chunk.ensures.chunk in
    subst (λ (ps : List PacketRecord). IsBehind ps c.put_payload.new.self)
    (is_chunk ∙ append_assoc packets before (packet n ∷ []) ∙ ap (λ ps. packets ++ ps) (sym (map-range_with_len_more packet 0 n n (omega arith)))) one

pub returns : goal.returns
unfolding pes_packets
returns c = λ packets is.
    let bytes = c.args.bytes.now in
    let all : c.loop-n.n ≡ (length bytes + 183) / 184 = omega (arith, c.loop-n-test.false, c.loop-n.auto.n-end) in
    subst (λ n. IsBehind (packets ++ map (pes_piece (pid_of c.args.carried) bytes) (range_with_len 0 n)) c.loop-n.self) all (c.loop-n.invariant packets is)
