use Rattle.std.proofs.Common.{refl}
use Rattle.pes_units.proofs.Words.{time_word-code}
use Rattle.pes_units.proofs.times.time_field.Goals as goal

pub returns : goal.returns
returns c =
    rw (c.to_be_bytes.ensures, c.from.ensures, time_word-code c.args.which c.args.time c.requires.which c.requires.in_range) refl
