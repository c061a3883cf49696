use Rattle.std.proofs.Common.{◌+◌}
use Rattle.psi_tables.specs.Pmt.{pids_of as pids_of_map}
use Rattle.passed_programs.proofs.PassedAudio.{over_of}
use Rattle.passed_programs.proofs.audio_laws.as_demuxed.Goals as goal

pub returns-clause-read : goal.returns-clause-read
returns-clause-read c file program drop demuxed k stream first read is there of =
    of.said stream (c.as_demuxed.ensures.audio file program drop demuxed k stream of.packets is there of.sound_stream.has)

pub returns-clause-refused : goal.returns-clause-refused
returns-clause-refused c file program drop demuxed k stream first fault is there of =
    of.said stream (c.as_demuxed.ensures.audio file program drop demuxed k stream of.packets is there of.sound_stream.has)

pub returns-clause-limits : goal.returns-clause-limits
returns-clause-limits c file program drop demuxed k stream is there over =
    over_of file (pids_of_map demuxed.map) (k + 1) stream.units (λ packets has. c.as_demuxed.ensures.audio file program drop demuxed k stream packets is there has) over
