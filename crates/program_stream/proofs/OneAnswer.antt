-- A program stream has one answer.
use Rattle.std.proofs.Common.{◌≡◌, ◌≢◌, ℕ, List, length, Some, None, map, refl, sym, ap, ◌∙◌, arith}
use Rattle.std.proofs.lemmas.Option.{same_Some}
use Rattle.ts_demux.specs.declared.demuxed.Demuxed.{Demuxed}
use Rattle.program_stream.specs.declared.split_fault.SplitFault.{SplitFault}
use Rattle.program_stream.specs.declared.split_fault.SplitFault.TheVariants.{OutOfMemory}
use Rattle.program_stream.specs.Elements.{Element}
use Rattle.program_stream.specs.Streams.{packets_of, stream_with_id, first_video_id, carried_audio_ids, other_stream_ids, map_of}
use Rattle.program_stream.specs.Split.{IsSplit, IsSplitRefused, short_file, element, no_video, audios, memory}
use Rattle.program_stream.proofs.OneReading.{one_list, one_refusal, refused_or_not}

demuxed_same : (a b : Demuxed) → a.map ≡ b.map → a.video ≡ b.video → a.audios ≡ b.audios → a.rest ≡ b.rest → a.not_carried ≡ b.not_carried → a ≡ b
demuxed_same a b map_is video_is audios_are rest_is others_are = rw (map_is, video_is, audios_are, rest_is, others_are) refl

pub one_split : (file ids : List ℕ) (one other : Demuxed) (cut other_cut : ℕ) → IsSplit file ids one cut → IsSplit file ids other other_cut → (one ≡ other) × (cut ≡ other_cut)
one_split file ids one other cut other_cut is is_other =
    let same = one_list file is.elements is_other.elements cut other_cut is.elements_are.are is_other.elements_are.are in
    let es = is.elements in
    let there : first_video_id es ≡ Some is_other.video = ap first_video_id same.elements ∙ is_other.video_is in
    let video : is.video ≡ is_other.video = same_Some is.video is_other.video (sym is.video_is ∙ there) in (
      demuxed_same one other
          (is.map_is ∙ ap (λ (v : ℕ). map_of v (carried_audio_ids ids es)) video ∙ ap (λ (xs : List Element). map_of is_other.video (carried_audio_ids ids xs)) same.elements ∙ sym is_other.map_is)
          (is.video_packets ∙ ap (packets_of es) video ∙ ap (λ (xs : List Element). packets_of xs is_other.video) same.elements ∙ sym is_other.video_packets)
          (is.audio_packets ∙ ap (λ (xs : List Element). map (stream_with_id xs) (carried_audio_ids ids xs)) same.elements ∙ sym is_other.audio_packets)
          (is.no_rest ∙ sym is_other.no_rest)
          (is.others_are ∙ ap (λ (v : ℕ). other_stream_ids ids v es) video ∙ ap (λ (xs : List Element). other_stream_ids ids is_other.video xs) same.elements ∙ sym is_other.others_are),
      same.cuts,
    )

pub one_split_fault : (file ids : List ℕ) (one other : SplitFault) → one ≢ OutOfMemory → other ≢ OutOfMemory → IsSplitRefused file ids one → IsSplitRefused file ids other → one ≡ other
one_split_fault file ids one other some some_other (memory is) second = absurd (some is)
one_split_fault file ids one other some some_other first (memory is) = absurd (some_other is)
one_split_fault file ids one other some some_other (short_file short is) (short_file short_other is_other) = is ∙ sym is_other
one_split_fault file ids one other some some_other (short_file short is) (element long found) = absurd (omega (arith, short, long))
one_split_fault file ids one other some some_other (short_file short is) (no_video es cut has none found) = absurd (omega (arith, short, has.long))
one_split_fault file ids one other some some_other (short_file short is) (audios es cut video has there many found) = absurd (omega (arith, short, has.long))
one_split_fault file ids one other some some_other (element long found) (short_file short is) = absurd (omega (arith, short, long))
one_split_fault file ids one other some some_other (element long found) (element long_other found_other) = one_refusal file one other found found_other
one_split_fault file ids one other some some_other (element long found) (no_video es cut has none is) = absurd (refused_or_not file es cut one has.are found)
one_split_fault file ids one other some some_other (element long found) (audios es cut video has there many is) = absurd (refused_or_not file es cut one has.are found)
one_split_fault file ids one other some some_other (no_video es cut has none found) (short_file short is) = absurd (omega (arith, short, has.long))
one_split_fault file ids one other some some_other (no_video es cut has none is) (element long found) = absurd (refused_or_not file es cut other has.are found)
one_split_fault file ids one other some some_other (no_video es cut has none is) (no_video es_other cut_other has_other none_other is_other) = is ∙ sym is_other
one_split_fault file ids one other some some_other (no_video es cut has none is) (audios es_other cut_other video has_other there many is_other) =
    let same = one_list file es es_other cut cut_other has.are has_other.are in
    let both : None ≡ Some video = sym none ∙ ap first_video_id same.elements ∙ there in
    absurd cc
one_split_fault file ids one other some some_other (audios es cut video has there many found) (short_file short is) = absurd (omega (arith, short, has.long))
one_split_fault file ids one other some some_other (audios es cut video has there many is) (element long found) = absurd (refused_or_not file es cut other has.are found)
one_split_fault file ids one other some some_other (audios es cut video has there many is) (no_video es_other cut_other has_other none is_other) =
    let same = one_list file es es_other cut cut_other has.are has_other.are in
    let both : Some video ≡ None = sym there ∙ ap first_video_id same.elements ∙ none in
    absurd cc
one_split_fault file ids one other some some_other (audios es cut video has there many is) (audios es_other cut_other video_other has_other there_other many_other is_other) = is ∙ sym is_other

pub split_or_refused : (file ids : List ℕ) (demuxed : Demuxed) (cut : ℕ) (fault : SplitFault) → IsSplit file ids demuxed cut → IsSplitRefused file ids fault → fault ≡ OutOfMemory
split_or_refused file ids demuxed cut fault is (memory found) = found
split_or_refused file ids demuxed cut fault is (short_file short found) = absurd (omega (arith, short, is.elements_are.long))
split_or_refused file ids demuxed cut fault is (element long found) = absurd (refused_or_not file is.elements cut fault is.elements_are.are found)
split_or_refused file ids demuxed cut fault is (no_video es cut_other has none found) =
    let same = one_list file is.elements es cut cut_other is.elements_are.are has.are in
    let both : Some is.video ≡ None = sym is.video_is ∙ ap first_video_id same.elements ∙ none in
    absurd cc
split_or_refused file ids demuxed cut fault is (audios es cut_other video has there many found) =
    let same = one_list file is.elements es cut cut_other is.elements_are.are has.are in
    let size : length (carried_audio_ids ids is.elements) ≡ length (carried_audio_ids ids es) = ap (λ (xs : List Element). length (carried_audio_ids ids xs)) same.elements in
    absurd (omega (arith, size, many, is.few))
