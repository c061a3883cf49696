use Rattle.std.proofs.Common.{take, sym, subst, arith}
use Rattle.std.proofs.lemmas.List.{take_more, take_all}
use Rattle.psi_tables.specs.Crc.{IsCrcOf}
use Rattle.psi_tables.proofs.Multiples.{one_remainder}
use Rattle.psi_tables.proofs.CrcLaws.{crc_of_none, zero_is_right}
use Rattle.psi_tables.proofs.crc.crc32.Goals as goal

pub loop-byte-init : goal.loop-byte-init
loop-byte-init c = crc_of_none

pub loop-byte-preserved : goal.loop-byte-preserved
loop-byte-preserved c =
    subst (IsCrcOf c.with_byte-crc.result) (sym (take_more c.args.bytes.now c.loop-byte.byte-index 0 (omega arith)))
    (c.with_byte-crc.ensures (take c.loop-byte.byte-index c.args.bytes.now) c.loop-byte.invariant)

pub returns-clause-value : goal.returns-clause-value
returns-clause-value c = subst (IsCrcOf c.loop-byte.crc) (take_all c.loop-byte.byte-index c.args.bytes.now (omega arith)) c.loop-byte.invariant

pub returns-clause-only : goal.returns-clause-only
returns-clause-only c = λ crc is. one_remainder crc c.loop-byte.crc _ is (returns-clause-value c)

pub returns-clause-zero : goal.returns-clause-zero
returns-clause-zero c = zero_is_right c.loop-byte.crc c.args.bytes.now (returns-clause-value c)
