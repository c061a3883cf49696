-- The map of a program stream by the types of its audio streams (ISO/IEC 13818-1, Table 2-34).
use Rattle.std.specs.Prelude.{List, ◌++◌, take, map}
use Rattle.psi_tables.specs.declared.program_map.ProgramMap.{ProgramMap}
use Rattle.ts_demux.specs.declared.demuxed.AudioStream.{AudioStream}
use Rattle.ts_demux.specs.declared.demuxed.Demuxed.{Demuxed}
use Rattle.program_stream.specs.Streams.{map_stream}
use Rattle.job_report.specs.declared.job.Form.{Form}
use Rattle.job_report.specs.declared.job.Form.TheVariants.{Ts, Ps}
use Rattle.elementary_streams.specs.Audio.{audio_type}

-- a map in which these audio streams, each with its type, stand behind the video
abbrev pub with_audio_types : ProgramMap → List AudioStream → ProgramMap
with_audio_types program_map audios =
    record program_map { streams = record { items = take 1 program_map.streams.items ++ map (λ audio. map_stream (audio_type audio) audio.pid) audios } }

-- the map of streams that stand in a file of a form: that of a transport stream is its own
abbrev pub map_by_form : Form → ProgramMap → List AudioStream → ProgramMap
map_by_form Ts program_map audios = program_map
map_by_form Ps program_map audios = with_audio_types program_map audios

-- the streams that stand in a file of a form, with that map
abbrev pub typed : Form → Demuxed → Demuxed
typed form found = record found { map = map_by_form form found.map found.audios }
