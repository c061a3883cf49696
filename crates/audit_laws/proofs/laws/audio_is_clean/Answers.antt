use Rattle.audit_laws.proofs.Audio.{audio-found}
use Rattle.audit_laws.proofs.laws.audio_is_clean.Goals as goal

pub returns : goal.returns
returns c = audio-found (record { stands = c.packets_stand_in_order.ensures.packet; carries = c.counted_payloads_are_carried.ensures.carried }) c.one_answer.ensures.frames
