use Rattle.std.proofs.Common.{ℕ, ◌≤◌, List, length, sym, subst}
use Rattle.std.specs.List.{sum_by}
use Rattle.job_programs.specs.declared.limits.TheConstants.{PROBED_AUDIO_PACKETS_MOST}
use Rattle.program_reader.specs.declared.program.AudioPiece.{AudioPiece}
use Rattle.probe_command.proofs.ProbedTable.{report_off}
use Rattle.probe_command.proofs.report.probe_report.Goals as goal

pub packets_of-requires : goal.packets_of-requires
packets_of-requires c =
    subst (λ (audios : List (List AudioPiece)). sum_by length audios ≤ PROBED_AUDIO_PACKETS_MOST) (sym c.as_slice.ensures) c.requires.packets

pub returns : goal.returns
returns c = λ program off.
    report_off program c.args.passed.now c.as_slice.result.now c.in_ok-audio_packets.audio_packets _ off c.as_slice.ensures c.in_ok-audio_packets.ensures c.len.ensures
