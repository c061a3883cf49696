use Rattle.std.proofs.Common.{◌≡◌, ◌*◌, ◌-◌, ℕ, List, length, drop, length-drop, sym, ◌∙◌, arith}
use Rattle.std.proofs.lemmas.List.{take_all}
use Rattle.program_maker.proofs.output.chunk.Goals as goal

pub returns-then-rest-lt-PAYLOAD_BYTES-clause-chunk : goal.returns-then-rest-lt-PAYLOAD_BYTES-clause-chunk
returns-then-rest-lt-PAYLOAD_BYTES-clause-chunk c =
    let at = c.args.n * 184 in
    let rest : List ℕ = drop at c.args.bytes.now in
    let size : length rest ≡ length c.args.bytes.now - at = length-drop at c.args.bytes.now in
    take_all (length c.args.bytes.now - at) rest (omega (arith, size)) ∙ sym (take_all 184 rest (omega (arith, size, c.if-rest-lt-PAYLOAD_BYTES.true)))
