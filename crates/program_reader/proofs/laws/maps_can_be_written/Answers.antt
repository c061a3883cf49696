use Rattle.program_reader.proofs.TakenMaps.{carried-written}
use Rattle.program_reader.proofs.laws.maps_can_be_written.Goals as goal

pub returns : goal.returns
returns c number drop carried file has = carried-written file number drop carried.map carried.others has.tables has.short
