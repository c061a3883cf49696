-- Which streams of a program are carried (stream types by ISO/IEC 13818-1, Table 2-29; the choice is this project's).
use Rattle.std.specs.Prelude.{ℕ, ◌==◌, Bool, not, ◌&&◌, ◌||◌, List, [], ◌∷◌, ◌++◌, Option, if◌then◌else◌}
use Rattle.std.specs.List.{find, list_any}
use Rattle.psi_tables.specs.declared.stream.Stream.{Stream}

-- stream_type of video (ISO/IEC 13818-2)
abbrev pub is_video : Stream → Bool
is_video stream = stream.kind == 0x02

-- stream_type of audio (ISO/IEC 11172-3 and ISO/IEC 13818-3)
abbrev pub is_audio : Stream → Bool
is_audio stream = (stream.kind == 0x03) || (stream.kind == 0x04)

-- the PID is one of these
abbrev pub is_among : List ℕ → ℕ → Bool
is_among pids pid = list_any (λ other. other == pid) pids

-- the video stream that is carried, which is the first one
abbrev pub video_of : List Stream → Option Stream
video_of streams = find is_video streams

-- all streams but the first video stream
abbrev pub without_video : List Stream → List Stream
without_video [] = []
without_video (stream ∷ streams) = if is_video stream then streams else stream ∷ without_video streams

-- an audio stream is carried unless its PID is to be dropped or is that of an earlier carried stream
abbrev pub is_carried : List ℕ → List ℕ → Stream → Bool
is_carried drop earlier stream = is_audio stream && not (is_among drop stream.pid) && not (is_among earlier stream.pid)

-- the carried streams among some that stand behind carried ones of the PIDs `earlier`
abbrev pub audios_of : List ℕ → List ℕ → List Stream → List Stream
audios_of drop earlier [] = []
audios_of drop earlier (stream ∷ streams) =
    if is_carried drop earlier stream then stream ∷ audios_of drop (earlier ++ stream.pid ∷ []) streams else audios_of drop earlier streams

-- the PIDs of the others among them
abbrev pub others_of : List ℕ → List ℕ → List Stream → List ℕ
others_of drop earlier [] = []
others_of drop earlier (stream ∷ streams) =
    if is_carried drop earlier stream then others_of drop (earlier ++ stream.pid ∷ []) streams else stream.pid ∷ others_of drop earlier streams
