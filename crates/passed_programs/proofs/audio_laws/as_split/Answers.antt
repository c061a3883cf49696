use Rattle.passed_programs.proofs.PassedAudio.{over_id}
use Rattle.passed_programs.proofs.audio_laws.as_split.Goals as goal

pub returns-clause-read : goal.returns-clause-read
returns-clause-read c file drop demuxed cut k stream first read is there of =
    of.said stream (c.as_split.ensures.audio file drop demuxed cut k stream of.packets is there of.sound_stream.has)

pub returns-clause-refused : goal.returns-clause-refused
returns-clause-refused c file drop demuxed cut k stream first fault is there of =
    of.said stream (c.as_split.ensures.audio file drop demuxed cut k stream of.packets is there of.sound_stream.has)

pub returns-clause-limits : goal.returns-clause-limits
returns-clause-limits c file drop demuxed cut k stream is there over =
    over_id file stream.pid stream.units (λ packets has. c.as_split.ensures.audio file drop demuxed cut k stream packets is there has) over
