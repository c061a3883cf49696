use Rattle.output_laws.proofs.SentItems.{audio-sends, video-sends}
use Rattle.output_laws.proofs.streams.queues_send_items.Goals as goal

pub returns-clause-video : goal.returns-clause-video
returns-clause-video c = video-sends

pub returns-clause-audio : goal.returns-clause-audio
returns-clause-audio c = audio-sends
