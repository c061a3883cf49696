use Rattle.std.specs.Int.{w64, to_be_bytes}
use Rattle.bound_certificate.proofs.NodeParts.{two_parts}
use Rattle.bound_certificate.proofs.read_node.multiplier_at.Goals as goal

pub returns-clause-bytes : goal.returns-clause-bytes
returns-clause-bytes c =
    two_parts c.args.place 8 8 c.args.bytes.now (to_be_bytes w64 c.number_at.result) (to_be_bytes w64 c.number_at-2.result) c.number_at.ensures c.number_at-2.ensures
