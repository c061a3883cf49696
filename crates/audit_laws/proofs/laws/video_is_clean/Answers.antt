use Rattle.audit_laws.proofs.Video.{video-found}
use Rattle.audit_laws.proofs.laws.video_is_clean.Goals as goal

pub returns : goal.returns
returns c = video-found (record { stands = c.packets_stand_in_order.ensures.packet; carries = c.counted_payloads_are_carried.ensures.carried })
