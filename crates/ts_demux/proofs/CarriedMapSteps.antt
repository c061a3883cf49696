-- The carried streams of a map that is read, or what every file of this map is refused for.
use Rattle.std.proofs.Common.{ℕ, ◌<◌, ◌≤◌, inl, inr, List, ◌++◌, length, Option, refl}
use Rattle.psi_tables.specs.declared.program_map.ProgramMap.{ProgramMap}
use Rattle.psi_tables.specs.Pmt.{pmt_length}
use Rattle.ts_demux.specs.declared.carried_streams.CarriedStreams.{CarriedStreams}
use Rattle.ts_demux.specs.declared.demux_fault.DemuxFault.{DemuxFault}
use Rattle.ts_demux.specs.declared.demux_fault.DemuxFault.TheVariants.{PmtTooLong, ProgramLimit}
use Rattle.ts_demux.specs.declared.pass_fault.PassFault.{PassFault}
use Rattle.ts_demux.specs.declared.pass_fault.PassFault.TheVariants.{Outside, Refused}
use Rattle.ts_demux.specs.CarriedMap.{HasStreams}
use Rattle.ts_demux.specs.Private.CarriedMap.{AreCarried, IsMapRefused}
use Rattle.ts_demux.specs.Demux.{HasCarriedMap, IsCarriedMap, IsDemuxRefused}
use Rattle.ts_demux.specs.Pass.{HasMapOf, HoldsOfFile, IsFrontRefused, OnRefused}
use Rattle.ts_demux.specs.Private.CarriedStreams.{IsCarryFault}
use Rattle.ts_demux.proofs.DemuxSteps.{carry_refused, front_refused}

-- what follows of a file holds of it as far as it was read
pub holds_then : (left after : Option (List ℕ)) (most most_after : ℕ) (held : List ℕ) (P Q : List ℕ → Type 0) → ((file : List ℕ) → P file → Q file)
    → HoldsOfFile left after most most_after held P → HoldsOfFile left after most most_after held Q
holds_then left after most most_after held P Q on (inl early) =
    inl (record { seen = early.seen; passes = early.passes; every = λ more. on (early.seen ++ more) (early.every more) })
holds_then left after most most_after held P Q on (inr whole) =
    inr (record { seen = whole.seen; passes = whole.passes; end = whole.end; whole = on (whole.seen ++ held) whole.whole })

-- ---- a map with its carried streams

pub has_carried : (file : List ℕ) (program : ℕ) (drop_pids : List ℕ) (whole : ProgramMap) (carried : CarriedStreams) → HasMapOf program whole file
    → IsCarriedMap drop_pids whole carried.map carried.others → HasCarriedMap file program drop_pids carried.map carried.others
has_carried file program drop_pids whole carried has is = record { long = has.0; whole = whole; tables = has.1; carried_is = is }

pub has_streams : (file : List ℕ) (program : ℕ) (drop_pids : List ℕ) (whole : ProgramMap) (carried : CarriedStreams) → AreCarried drop_pids whole carried
    → HasMapOf program whole file → HasStreams program drop_pids carried file
has_streams file program drop_pids whole carried are has =
    record { tables = has_carried file program drop_pids whole carried has are.carried_is; few = are.few; short = are.short }

-- ---- what refuses it

pub refused_carry : (drop_pids : List ℕ) (whole : ProgramMap) (fault : DemuxFault) → IsCarryFault whole fault → IsMapRefused drop_pids whole fault
refused_carry drop_pids whole fault is file program has = carry_refused file program drop_pids whole fault has.0 has.1 is

pub refused_many : (drop_pids : List ℕ) (whole : ProgramMap) (carried : CarriedStreams) → IsCarriedMap drop_pids whole carried.map carried.others
    → 9 < length carried.map.streams.items → IsMapRefused drop_pids whole (ProgramLimit 0)
refused_many drop_pids whole carried is many file program has =
    IsDemuxRefused.audios carried.map carried.others (has_carried file program drop_pids whole carried has is) many refl

pub refused_long : (drop_pids : List ℕ) (whole : ProgramMap) (carried : CarriedStreams) → IsCarriedMap drop_pids whole carried.map carried.others
    → length carried.map.streams.items ≤ 9 → 183 < pmt_length carried.map → IsMapRefused drop_pids whole (PmtTooLong 0)
refused_long drop_pids whole carried is few long file program has =
    IsDemuxRefused.long_map carried.map carried.others (has_carried file program drop_pids whole carried has is) few long refl

-- a refusal up to the map is one of the program
pub refused_front : (left after : Option (List ℕ)) (most most_after : ℕ) (held : List ℕ) (program : ℕ) (drop_pids : List ℕ) (fault : PassFault)
    → OnRefused fault (λ refusal. HoldsOfFile left after most most_after held (IsFrontRefused program refusal))
    → OnRefused fault (λ refusal. HoldsOfFile left after most most_after held (λ file. IsDemuxRefused file program drop_pids refusal))
refused_front left after most most_after held program drop_pids (Outside fault) said = tt
refused_front left after most most_after held program drop_pids (Refused refusal) said =
    holds_then left after most most_after held (IsFrontRefused program refusal) (λ file. IsDemuxRefused file program drop_pids refusal)
    (λ file is. front_refused file program drop_pids refusal (inr is)) said
