use Rattle.layer_laws.proofs.PesHeaders.{video-read}
use Rattle.layer_laws.proofs.pes.video_packet_read_as_written.Goals as goal

pub returns : goal.returns
returns c = video-read
