use Rattle.picture_laws.proofs.WrittenCoefficients.{of_coefficients, coefficients-of}
use Rattle.picture_laws.proofs.written.block_is_spellable_by_its_coefficients.Goals as goal

pub returns : goal.returns
returns c = record { spelled = of_coefficients; no_other = coefficients-of }
