use Rattle.bound_certificate.proofs.Readings.{only_answer}
use Rattle.bound_certificate.proofs.read.read_cert.Goals as goal

pub returns-clause-only : goal.returns-clause-only
returns-clause-only c = only_answer c.args.bytes.now c.read_within.result c.read_within.ensures.cert c.read_within.ensures.refusal
