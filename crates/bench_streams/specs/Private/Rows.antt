-- What stands in the slots of made-up schedules.
use Rattle.std.specs.Prelude.{◌<◌}
use Rattle.slot_rule.specs.declared.sent.Sent.{Sent}
use Rattle.slot_rule.specs.declared.sent.Sent.TheVariants.{Null, Pat, Pmt, Pcr, Video, Audio}

-- it names one of two programs, or one of four streams
abbrev pub IsMade : Sent → Type 0
IsMade Null = Unit {0}
IsMade Pat = Unit {0}
IsMade (Pmt program) = program < 2
IsMade (Pcr program) = program < 2
IsMade (Video stream unit piece) = stream < 4
IsMade (Audio stream packet) = stream < 4
