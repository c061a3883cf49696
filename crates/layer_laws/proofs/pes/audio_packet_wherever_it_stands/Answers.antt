use Rattle.layer_laws.proofs.PesHeaders.{audio-either}
use Rattle.layer_laws.proofs.pes.audio_packet_wherever_it_stands.Goals as goal

pub returns : goal.returns
returns c = audio-either
