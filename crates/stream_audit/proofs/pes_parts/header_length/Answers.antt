use Rattle.std.proofs.Common.{arith}
use Rattle.stream_audit.proofs.PartSteps.{header-short}
use Rattle.stream_audit.proofs.pes_parts.header_length.Goals as goal

pub returns-else-bytes-gt-COUNT_BYTE-clause-value : goal.returns-else-bytes-gt-COUNT_BYTE-clause-value
returns-else-bytes-gt-COUNT_BYTE-clause-value c = header-short c.args.bytes.now (omega (arith, c.if-bytes-gt-COUNT_BYTE.false))
