-- The long division leaves a remainder, and there is one.
use Rattle.std.proofs.Common.{ℕ, sym, subst}
use Rattle.psi_tables.specs.Crc.{IsCrcOf}
use Rattle.psi_tables.specs.Sections.{crc_over}
use Rattle.psi_tables.proofs.CrcDivision.{crc_over-is, crc_over-only}
use Rattle.psi_tables.proofs.CrcLaws.{zero_is_right}
use Rattle.psi_tables.proofs.laws.crc_by_long_division.Goals as goal

pub returns-clause-crc : goal.returns-clause-crc
returns-clause-crc c bytes crc = (crc_over-only bytes crc, λ is. subst (λ (n : ℕ). IsCrcOf n bytes) (sym is) (crc_over-is bytes))

pub returns-clause-right : goal.returns-clause-right
returns-clause-right c bytes = zero_is_right (crc_over bytes) bytes (crc_over-is bytes)
