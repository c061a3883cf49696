use Rattle.video_headers.proofs.parts.read_sequence_part.Goals as goal

pub returns-in-None : goal.returns-in-None
returns-in-None g c = rw (c.in-None.is) c.read_sequence_headers.ensures
