use Rattle.std.proofs.Common.{List, ℕ, refl, map, subst, sym}
use Rattle.mux_writer.specs.Output.{output_stream}
use Rattle.parsing_laws.specs.Parsed.{AreReadAs, sent_packet}
use Rattle.parsing_laws.proofs.ProgramParts.{audio-packets, stream-packets, units-read}
use Rattle.parsing_laws.proofs.parsed.programs_parse.Goals as goal

pub returns : goal.returns
returns c layout slot pieces rows program program_map video audios units packets are begin numbered streams carries can carry =
    let file : List ℕ = output_stream layout slot pieces rows in record {
      taken_out = c.programs_are_taken_out.ensures layout slot pieces rows program program_map video audios are begin numbered streams;
      map_is = refl;
      whole = refl;
      video = subst (λ (bytes : List (List ℕ)). AreReadAs units bytes) (sym (stream-packets c.packets_gathered_again.ensures.gathered file video (map sent_packet units) carries))
          (units-read c.video_packet_read_as_written.ensures units can);
      audio = audio-packets c.packets_gathered_again.ensures.gathered file audios packets carry;
    }
