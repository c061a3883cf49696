-- What stands for a unit or a piece that isn't there.
use Rattle.std.proofs.Common.{false, None}
use Rattle.program_reader.specs.declared.program.AudioPiece.{AudioPiece}
use Rattle.program_reader.specs.declared.program.UnitSource.{UnitSource}
use Rattle.program_reader.specs.declared.timed_picture.Role.TheVariants.{Frame}

abbrev pub no_unit : UnitSource
no_unit = record { begin = 0; end = 0; times = record { pts = None; dts = None }; due = 0; kind = 0; role = Frame }

abbrev pub no_piece : AudioPiece
no_piece = record { packet = record { due = 0; gone = 0; bytes = 0 }; start = false; at = 0 }
