-- The faults of a walk over an audio stream.
use Rattle.elementary_streams.specs.declared.stream_fault.StreamFault.{StreamFault}
use Rattle.elementary_streams.specs.declared.stream_fault.StreamFault.TheVariants as stream_faults
use Rattle.stream_pass.specs.declared.stream_walk.WalkFault.{WalkFault}
use Rattle.stream_pass.specs.declared.stream_walk.WalkFault.TheVariants as faults

-- want of memory is apart from what refuses a stream
abbrev pub as_walk_fault : StreamFault → WalkFault StreamFault
as_walk_fault stream_faults.OutOfMemory = faults.OutOfMemory
as_walk_fault fault = faults.Refused fault
