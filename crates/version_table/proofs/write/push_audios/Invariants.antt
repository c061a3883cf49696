use Rattle.std.proofs.Common.{◌≡◌, ◌++◌, take}
use Rattle.std.specs.List.{flat_map}
use Rattle.version_table.specs.Lines.{lines_of_audio}
use Rattle.version_table.specs.Text.{text_of_lines}
use Rattle.version_table.proofs.write.push_audios.Given as goal

abbrev pub invariant-loop-packets : goal.invariant-loop-packets
invariant-loop-packets l = l.out.items ≡ l.initial.out.items ++ text_of_lines (flat_map lines_of_audio (take l.packets-index l.audios))
