-- What became of the source of a reader.
use Rattle.std.proofs.Common.{◌∙◌, arith}
use Rattle.shelf_io.specs.declared.source.Source.{Ghosts}
use Rattle.bit_cursor.specs.declared.bit_reader.BitReader.{BitReader}
use Rattle.bit_cursor.specs.BitReader.{KeepsSource}

-- a source that is kept and then kept again is kept, as the laws of a source say of one call
pub keeps_then : {S : Type 0} {g : Ghosts S} {first second third : BitReader S g} → ((x y z : S) → g.keeps x y → g.keeps y z → g.keeps x z)
    → KeepsSource first second → KeepsSource second third → KeepsSource first third
keeps_then keeps_on h k = record {
  same_source = k.same_source ∙ h.same_source;
  keeps = keeps_on _ _ _ h.keeps k.keeps;
  faults = omega (arith, h.faults, k.faults);
  absences = omega (arith, h.absences, k.absences);
}
