use Rattle.std.proofs.Common.{length, ap, arith}
use Rattle.bound_certificate.proofs.Whole.{units_fit}
use Rattle.bound_certificate.proofs.write.write_cert.Goals as goal

pub push_choice-requires : goal.push_choice-requires
push_choice-requires c = record { few = omega (arith, ap length c.as_slice.ensures, units_fit c.args.cert.now c.requires.bytes) }
