use Rattle.std.proofs.Common.{sym, ◌∙◌}
use Rattle.version_table.proofs.DraftLines.{audio_count_units, audio_count_packets}
use Rattle.version_table.proofs.draft.Draft.audio_count.Goals as goal

pub returns-in-Packets : goal.returns-in-Packets
returns-in-Packets c =
    let at = c.in-Packets.is in
    rw (at, c.as_slice.ensures) (sym (audio_count_packets c.args.self.now))

pub returns-in_default : goal.returns-in_default
returns-in_default c = c.len.ensures ∙ sym (audio_count_units c.args.stage c.args.self.now c.requires.stands c.in_default.not-Packets)
