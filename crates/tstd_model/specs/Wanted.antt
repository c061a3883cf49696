-- Which bytes of packets are looked at.
use Rattle.std.specs.Prelude.{Bool}
pub use Rattle.tstd_model.specs.declared.passing.Wanted.{Wanted}
pub use Rattle.tstd_model.specs.declared.passing.Wanted.TheVariants.{Payload, DataAlone}
use Rattle.tstd_model.specs.PacketBytes.{PacketPart, is_payload, is_data}

-- the parts that are wanted
abbrev pub is_wanted : Wanted → PacketPart → Bool
is_wanted Payload part = is_payload part
is_wanted DataAlone part = is_data part
