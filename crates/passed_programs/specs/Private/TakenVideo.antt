-- What is carried of a pass over the PES packets of a video, and its faults.
use Rattle.std.specs.Prelude.{List, [], ◌∷◌}
use Rattle.bit_lists.specs.Fields.{AreBytes}
use Rattle.ts_demux.specs.declared.demuxed.PesUnit.{PesUnit}
use Rattle.ts_demux.specs.declared.pass_fault.PassFault.{PassFault}
use Rattle.program_reader.specs.declared.program_fault.ProgramFault.{ProgramFault}
use Rattle.program_reader.specs.declared.program_fault.ProgramFault.TheVariants as program_faults
use Rattle.program_reader.specs.declared.program_fault.SourceKind.TheVariants as kinds
use Rattle.stream_pass.specs.declared.read_fault.ReadFault.TheVariants as stream_faults
use Rattle.stream_pass.specs.declared.read_fault.ReadFault.{ReadFault as StreamReadFault}
use Rattle.stream_pass.specs.declared.stream_walk.WalkFault.{WalkFault}
use Rattle.stream_pass.specs.declared.stream_walk.WalkFault.TheVariants as walk_faults
use Rattle.passed_programs.specs.declared.read_fault.ReadFault.{ReadFault}
use Rattle.passed_programs.specs.declared.read_fault.ReadFault.TheVariants as faults

-- the bytes of PES packets are bytes
abbrev pub AreBytesOf : List PesUnit → Type 0
AreBytesOf [] = Unit {0}
AreBytesOf (packet ∷ packets) = AreBytes packet.bytes × AreBytesOf packets

-- want of memory is apart from what refuses a video
abbrev pub as_walk_fault : ProgramFault → WalkFault ProgramFault
as_walk_fault (program_faults.Refused kind at) = walk_faults.Refused (program_faults.Refused kind at)
as_walk_fault program_faults.OutOfMemory = walk_faults.OutOfMemory

-- a limit that is passed, and want of memory, are refusals of the program
abbrev pub as_read_fault : StreamReadFault PassFault ProgramFault → ReadFault
as_read_fault (stream_faults.Passing fault) = faults.Passing fault
as_read_fault stream_faults.Limit = faults.Refused (program_faults.Refused kinds.ProgramLimit 0)
as_read_fault (stream_faults.Refused fault) = faults.Refused fault
as_read_fault stream_faults.OutOfMemory = faults.Refused program_faults.OutOfMemory
