use Rattle.elementary_streams.proofs.OneStream.{packet_fault_one, refused_or_has, sound_or_fault, stream_frames_one, stream_refused_one}
use Rattle.elementary_streams.proofs.laws.one_answer.Goals as goal

pub returns-clause-packets : goal.returns-clause-packets
returns-clause-packets c = λ video packets one other is is'. packet_fault_one video packets one other is is'

pub returns-clause-sound_or_fault : goal.returns-clause-sound_or_fault
returns-clause-sound_or_fault c = λ video packets fault sound is. sound_or_fault video packets fault sound is

pub returns-clause-frames : goal.returns-clause-frames
returns-clause-frames c = λ first stream one other has has'. stream_frames_one first stream one other has has'

pub returns-clause-refused : goal.returns-clause-refused
returns-clause-refused c = λ first stream one other some some' is is'. stream_refused_one first stream one other some some' is is'

pub returns-clause-never_both : goal.returns-clause-never_both
returns-clause-never_both c = λ first stream frames fault some has is. refused_or_has first stream fault frames some is has
