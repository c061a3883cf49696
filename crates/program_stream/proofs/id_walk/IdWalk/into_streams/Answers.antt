use Rattle.std.proofs.Common.{◌≡◌, ℕ, true, List, [], None, Some, length, inl, inr, refl, sym, ap, ◌∙◌, arith}
use Rattle.std.specs.List.{filter, find}
use Rattle.pes_units.specs.PesHeader.{is_stream_id}
use Rattle.program_stream.specs.Streams.{carried_audio_ids, first_coming, first_video_id, ids_of, is_carried_audio, is_other, map_of}
use Rattle.program_stream.proofs.IdSteps.{filter_first, find_first}
use Rattle.program_stream.proofs.id_walk.IdWalk.into_streams.Goals as goal

pub returns-in_default : goal.returns-in_default
returns-in_default c elements has =
    let seen : c.as_slice-ids.result.now ≡ first_coming [] (ids_of elements) = c.as_slice-ids.ensures ∙ has in
    let none : first_video_id elements ≡ None = sym (find_first (is_stream_id true) (ids_of elements)) ∙ ap (find (is_stream_id true)) (sym seen) ∙ c.in_default.ensures in
    inl (inl (none, refl))

pub returns-then-len-gt-AUDIOS_MOST : goal.returns-then-len-gt-AUDIOS_MOST
returns-then-len-gt-AUDIOS_MOST c elements has =
    let dropped = c.args.drop.now in
    let seen : c.as_slice-ids.result.now ≡ first_coming [] (ids_of elements) = c.as_slice-ids.ensures ∙ has in
    let video : first_video_id elements ≡ Some c.in-Some.video = sym (find_first (is_stream_id true) (ids_of elements)) ∙ ap (find (is_stream_id true)) (sym seen) ∙ c.in-Some.ensures in
    let audios : c.in_ok-audios.audios ≡ carried_audio_ids dropped elements =
    c.in_ok-audios.ensures ∙ ap (filter (is_carried_audio dropped)) seen ∙ filter_first (is_carried_audio dropped) [] (ids_of elements) in
    inl (inr (c.in-Some.video, video, omega (arith, c.len.ensures, c.if-len-gt-AUDIOS_MOST.true, ap (λ (xs : List ℕ). length xs) audios), refl))

pub returns : goal.returns
returns c elements has =
    let dropped = c.args.drop.now in
    let seen : c.as_slice-ids.result.now ≡ first_coming [] (ids_of elements) = c.as_slice-ids.ensures ∙ has in
    let video : first_video_id elements ≡ Some c.in-Some.video = sym (find_first (is_stream_id true) (ids_of elements)) ∙ ap (find (is_stream_id true)) (sym seen) ∙ c.in-Some.ensures in
    let audios : c.in_ok-audios.audios ≡ carried_audio_ids dropped elements =
    c.in_ok-audios.ensures ∙ ap (filter (is_carried_audio dropped)) seen ∙ filter_first (is_carried_audio dropped) [] (ids_of elements) in
    record {
      video = c.in-Some.video;
      video_is = video;
      few = omega (arith, c.len.ensures, c.if-len-gt-AUDIOS_MOST.false, ap (λ (xs : List ℕ). length xs) audios);
      map_is = c.map_of_ids.ensures ∙ ap (map_of c.in-Some.video) (c.as_slice.ensures ∙ audios);
      others_are = c.in_ok-others.ensures ∙ ap (filter (is_other dropped c.in-Some.video)) seen ∙ filter_first (is_other dropped c.in-Some.video) [] (ids_of elements);
    }
