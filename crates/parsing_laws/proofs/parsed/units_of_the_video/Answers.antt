use Rattle.std.proofs.Common.{ap, map, ◌∙◌}
use Rattle.es_units.specs.Units.{cut_units}
use Rattle.parsing_laws.specs.Parsed.{SentUnit}
use Rattle.parsing_laws.proofs.ProgramParts.{payloads-joined}
use Rattle.parsing_laws.proofs.parsed.units_of_the_video.Goals as goal

pub returns : goal.returns
returns c units packets read led whole =
    ap cut_units (payloads-joined units packets read) ∙ c.units_cut_again.ensures.cut (map (λ (unit : SentUnit). unit.bytes) units) led whole
