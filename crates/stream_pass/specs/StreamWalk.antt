-- What a walk over the PES packets of a stream is given, and what its faults mean.
use Rattle.std.specs.Prelude.{◌≤◌, List, length}
use Rattle.ts_demux.specs.declared.demuxed.PesUnit.{PesUnit}
use Rattle.pes_passing.specs.PassingPackets.{size_of}
use Rattle.stream_pass.specs.declared.limits.TheConstants.{FILE_BYTES_MOST, PES_PACKETS_MOST}
use Rattle.stream_pass.specs.declared.stream_walk.WalkFault.{WalkFault}
use Rattle.stream_pass.specs.declared.stream_walk.WalkFault.TheVariants as faults

-- A stream has no more PES packets than a program may have of one, and no more bytes than a file may have.
pub record AreFew (packets : List PesUnit) : Type 0 where
  pub packets_few : length packets ≤ PES_PACKETS_MOST
  pub bytes_few : size_of packets ≤ FILE_BYTES_MOST

-- what a stream is refused for; want of memory may come at any time
abbrev pub IsRefusal : {F : Type 0} → (refuses : F → Type 0) → WalkFault F → Type 0
IsRefusal refuses (faults.Refused fault) = refuses fault
IsRefusal refuses faults.OutOfMemory = Unit {0}
