-- The map of streams that stand in a file, with the types of its audio streams.
use Rattle.std.proofs.Common.{◌≡◌, ℕ, zero, suc, ◌+◌, ◌<◌, ◌≤◌, List, [], ◌∷◌, ◌++◌, length, take, map, get_or, length-append, append_assoc, sym, ap, ap₂, ◌∙◌, arith}
use Rattle.std.proofs.lemmas.List.{take_more, take_all, length-map, length-take, map-append}
use Rattle.psi_tables.specs.declared.program_map.ProgramMap.{ProgramMap}
use Rattle.psi_tables.specs.declared.stream.Stream.{Stream}
use Rattle.ts_demux.specs.declared.demuxed.AudioStream.{AudioStream}
use Rattle.ts_demux.specs.declared.demuxed.Demuxed.{Demuxed}
use Rattle.program_stream.specs.Streams.{map_stream}
use Rattle.job_report.specs.declared.job.Form.{Form}
use Rattle.elementary_streams.specs.declared.audio_stream.ReadStream.{ReadStream}
use Rattle.elementary_streams.specs.Audio.{audio_type}
use Rattle.program_reader.specs.AudioTypes.{map_by_form, typed}

-- ---- two lists that say the same

pub same_count : {A B : Type 0} (f : A → ℕ) (g : B → ℕ) (xs : List A) (ys : List B) → map f xs ≡ map g ys → length xs ≡ length ys
same_count f g xs ys same = sym (length-map xs f) ∙ ap (λ (ns : List ℕ). length ns) same ∙ length-map ys g

same_at : {A B : Type 0} (f : A → ℕ) (g : B → ℕ) (xs : List A) (ys : List B) (k : ℕ) (d : A) (e : B) → map f xs ≡ map g ys → k < length ys → f (get_or xs k d) ≡ g (get_or ys k e)
same_at f g xs [] k d e same lt = absurd (omega (arith, lt))
same_at f g [] (y ∷ ys) k d e same lt = absurd cc
same_at f g (x ∷ xs) (y ∷ ys) zero d e same lt = cc
same_at f g (x ∷ xs) (y ∷ ys) (suc k) d e same lt = (let rest : map f xs ≡ map g ys = cc in same_at f g xs ys k d e rest (omega (arith, lt)))

-- ---- the audio streams of the map, one more

-- a stream of the map
abbrev pub by_type : AudioStream → Stream
by_type audio = map_stream (audio_type audio) audio.pid

pub typed_more : (before : List Stream) (audios : List AudioStream) (read : List ReadStream) (at : ℕ) (audio : AudioStream) (one : ReadStream) (streams news : List Stream) → at < length audios →
    map (λ one. one.kind) read ≡ map audio_type audios → streams ≡ before ++ map by_type (take at audios) →
    news ≡ streams ++ map_stream (get_or read at one).kind (get_or audios at audio).pid ∷ [] → news ≡ before ++ map by_type (take (at + 1) audios)
typed_more before audios read at audio one streams news lt types so_far pushed =
    let kind : (get_or read at one).kind ≡ audio_type (get_or audios at audio) = same_at (λ (r : ReadStream). r.kind) audio_type read audios at one audio types lt in
    let more : take (at + 1) audios ≡ take at audios ++ get_or audios at audio ∷ [] = take_more audios at audio lt in
    pushed ∙ ap₂ (λ (ss : List Stream) (n : ℕ). ss ++ map_stream n (get_or audios at audio).pid ∷ []) so_far kind ∙ append_assoc before (map by_type (take at audios)) (by_type (get_or audios at audio) ∷ [])
    ∙ ap (λ (ss : List Stream). before ++ ss) (sym (map-append by_type (take at audios) (get_or audios at audio ∷ [])) ∙ ap (map by_type) (sym more))

-- there is room for one more
pub typed_room : (first : List Stream) (audios : List AudioStream) (at : ℕ) (streams : List Stream) → at < length audios → length audios ≤ 8 →
    streams ≡ take 1 first ++ map by_type (take at audios) → length streams < 64
typed_room first audios at streams lt few so_far =
    omega (
      arith,
      ap (λ (ss : List Stream). length ss) so_far,
      length-append (take 1 first) (map by_type (take at audios)),
      length-take 1 first,
      length-map (take at audios) by_type,
      length-take at audios,
      lt,
      few,
    )

-- all of them
pub typed_all : (before : List Stream) (audios : List AudioStream) (at : ℕ) (streams : List Stream) → length audios ≤ at → streams ≡ before ++ map by_type (take at audios) →
    streams ≡ before ++ map by_type audios
typed_all before audios at streams end so_far = so_far ∙ ap (λ (as_taken : List AudioStream). before ++ map by_type as_taken) (take_all at audios end)

-- ---- what is taken out, by its parts

-- the same streams with another map
abbrev pub with_map : Demuxed → ProgramMap → Demuxed
with_map found program_map = record found { map = program_map }

pub parts_typed : (form : Form) (found : Demuxed) (program_map : ProgramMap) (audios : List AudioStream) → program_map ≡ map_by_form form found.map audios → audios ≡ found.audios →
    with_map found program_map ≡ typed form found
parts_typed form found program_map audios map_is audios_are = ap (with_map found) (map_is ∙ ap (map_by_form form found.map) audios_are)
