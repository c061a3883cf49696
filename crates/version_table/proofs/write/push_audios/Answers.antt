use Rattle.std.proofs.Common.{List, ◌++◌, ap, ◌∙◌}
use Rattle.version_table.specs.declared.table.AudioPacket.{AudioPacket}
use Rattle.version_table.specs.Text.{text_of_lines}
use Rattle.version_table.specs.Lines.{lines_of_audio, text_of_line}
use Rattle.version_table.proofs.Pushed.{lists_more}
use Rattle.version_table.proofs.write.push_audios.Goals as goal

pub loop-packets-preserved : goal.loop-packets-preserved
loop-packets-preserved c =
    lists_more text_of_line lines_of_audio _ c.loop-packets.packets-index c.packets-item.result _ c.args.out.now.items c.loop-packets.out.items _ c.loop-packets-test.true c.packets-item.is c.loop-packets.invariant
    (c.in_ok-push_audio.ensures ∙ ap (λ (packets : List AudioPacket). c.loop-packets.out.items ++ text_of_lines (lines_of_audio packets)) c.as_slice.ensures)
