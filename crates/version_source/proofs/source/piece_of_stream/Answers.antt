use Rattle.std.proofs.Common.{◌≡◌, ℕ, List, take, false, sym, refl, arith}
use Rattle.std.proofs.lemmas.List.{length-take-le}
use Rattle.program_reader.specs.declared.program.AudioPiece.{AudioPiece}
use Rattle.version_source.specs.Versions.{ratios_of}
use Rattle.version_source.proofs.KeptLemmas.{kept-many}
use Rattle.version_source.proofs.PlaceLemmas.{names-cover}
use Rattle.version_source.proofs.SourceLemmas.{audio-answer, audio-bounds, audio-fits, audio-is, kept-again, kept-there, may-be-asked, nowhere, own-fits, video-answer, video-is}
use Rattle.version_source.proofs.source.piece_of_stream.Goals as goal
use Rattle.program_reader.proofs.Missing.{no_piece}

pub place_of-requires : goal.place_of-requires
place_of-requires c = names-cover c.args.programs.now (ratios_of c.args.jobs.now) c.args.choice.now c.requires.names

pub unreachable-requires : goal.unreachable-requires
unreachable-requires c =
    nowhere c.args.programs.now (ratios_of c.args.jobs.now) c.args.choice.now c.args.stream c.args.item c.args.piece c.in-None.ensures c.requires.made c.requires.piece

-- ---- an audio stream

pub bounds-as_slice-item : goal.bounds-as_slice-item
bounds-as_slice-item c =
    let program = c.index-programs-place.result in
    let audio = c.index-as_slice-place.result in
    let at = audio-is c.args.programs.now c.in-Some.place program c.as_slice.result.now audio audio.bytes c.as_slice-then-place-gt0.result.now c.index-programs-place.is c.as_slice.ensures
    c.index-as_slice-place.is refl c.as_slice-then-place-gt0.ensures in
    audio-bounds c.args.programs.now (ratios_of c.args.jobs.now) c.args.choice.now c.args.stream c.args.item c.args.piece c.in-Some.place program audio audio.bytes
    c.as_slice-then-place-gt0.result.now at c.in-Some.ensures c.if-place-gt0.true c.requires.made c.requires.piece

pub audio_piece-requires : goal.audio_piece-requires
audio_piece-requires c =
    let program = c.index-programs-place.result in
    let audio = c.index-as_slice-place.result in
    let at = audio-is c.args.programs.now c.in-Some.place program c.as_slice.result.now audio c.as_slice-then-place-gt0-2.result.now c.as_slice-then-place-gt0.result.now c.index-programs-place.is
    c.as_slice.ensures c.index-as_slice-place.is c.as_slice-then-place-gt0-2.ensures c.as_slice-then-place-gt0.ensures in
    audio-fits c.args.programs.now (ratios_of c.args.jobs.now) c.args.choice.now c.args.stream c.args.item c.args.piece c.in-Some.place program audio c.as_slice-then-place-gt0-2.result.now
    c.as_slice-then-place-gt0.result.now no_piece c.requires.sendable at c.in-Some.ensures c.if-place-gt0.true c.requires.made c.requires.piece

pub returns-then-place-gt0-clause-piece : goal.returns-then-place-gt0-clause-piece
returns-then-place-gt0-clause-piece c =
    let program = c.index-programs-place.result in
    let audio = c.index-as_slice-place.result in
    let at = audio-is c.args.programs.now c.in-Some.place program c.as_slice.result.now audio c.as_slice-then-place-gt0-2.result.now c.as_slice-then-place-gt0.result.now c.index-programs-place.is
    c.as_slice.ensures c.index-as_slice-place.is c.as_slice-then-place-gt0-2.ensures c.as_slice-then-place-gt0.ensures in
    audio-answer c.args.programs.now (ratios_of c.args.jobs.now) c.args.choice.now c.args.stream c.args.item c.args.piece c.in-Some.place program audio c.as_slice-then-place-gt0-2.result.now
    c.as_slice-then-place-gt0.result.now no_piece c.audio_piece.result c.audio_piece.new.into at c.in-Some.ensures c.if-place-gt0.true c.requires.piece c.audio_piece.ensures.piece

-- ---- a video

pub slice_bounds-video-end : goal.slice_bounds-video-end
slice_bounds-video-end c =
    sym (length-take-le c.len.result c.in-Some.place.choice.now
    (own-fits c.args.programs.now c.args.choice.now c.args.stream c.in-Some.place c.index-programs-place.result c.len.result
    (names-cover c.args.programs.now (ratios_of c.args.jobs.now) c.args.choice.now c.requires.names) c.in-Some.ensures c.index-programs-place.is c.len.ensures))

pub bounds-sent-place : goal.bounds-sent-place
bounds-sent-place c =
    let many = kept-many c.args.programs.now (ratios_of c.args.jobs.now) c.args.choice.now c.args.sent.now c.requires.kept in
    let within = c.in-Some.ensures.within in
    omega (arith, many, within)

pub piece-requires-clause-video : goal.piece-requires-clause-video
piece-requires-clause-video c =
    let own : List ℕ = take c.len.result c.in-Some.place.choice.now in
    let within = c.in-Some.ensures.within in
    let none : c.in-Some.place.stream ≡ 0 = (let few = c.if-place-gt0.false in omega (arith, few)) in
    let at = video-is c.args.programs.now c.args.jobs.now c.in-Some.place c.index-programs-place.result c.index-jobs-place.result c.as_slice-in-Some.result.now c.as_slice-in-Some-3.result.now
    c.as_slice-in-Some-2.result.now own c.len.result (let many = c.requires.as_many in omega (arith, within, many)) c.index-programs-place.is c.as_slice-in-Some.ensures
    c.as_slice-in-Some-2.ensures c.as_slice-in-Some-3.ensures.value c.len.ensures refl in
    (may-be-asked c.args.programs.now (ratios_of c.args.jobs.now) c.args.choice.now c.args.stream c.args.item c.args.piece c.in-Some.place c.index-programs-place.result c.as_slice-in-Some.result.now
    c.as_slice-in-Some-3.result.now c.as_slice-in-Some-2.result.now own at
    c.requires.sendable c.requires.names c.in-Some.ensures none c.requires.made c.requires.piece).video

pub piece-requires-clause-made : goal.piece-requires-clause-made
piece-requires-clause-made c =
    let own : List ℕ = take c.len.result c.in-Some.place.choice.now in
    let within = c.in-Some.ensures.within in
    let none : c.in-Some.place.stream ≡ 0 = (let few = c.if-place-gt0.false in omega (arith, few)) in
    let at = video-is c.args.programs.now c.args.jobs.now c.in-Some.place c.index-programs-place.result c.index-jobs-place.result c.as_slice-in-Some.result.now c.as_slice-in-Some-3.result.now
    c.as_slice-in-Some-2.result.now own c.len.result (let many = c.requires.as_many in omega (arith, within, many)) c.index-programs-place.is c.as_slice-in-Some.ensures
    c.as_slice-in-Some-2.ensures c.as_slice-in-Some-3.ensures.value c.len.ensures refl in
    (may-be-asked c.args.programs.now (ratios_of c.args.jobs.now) c.args.choice.now c.args.stream c.args.item c.args.piece c.in-Some.place c.index-programs-place.result c.as_slice-in-Some.result.now
    c.as_slice-in-Some-3.result.now c.as_slice-in-Some-2.result.now own at
    c.requires.sendable c.requires.names c.in-Some.ensures none c.requires.made c.requires.piece).made

pub piece-requires-clause-number : goal.piece-requires-clause-number
piece-requires-clause-number c =
    let own : List ℕ = take c.len.result c.in-Some.place.choice.now in
    let within = c.in-Some.ensures.within in
    let none : c.in-Some.place.stream ≡ 0 = (let few = c.if-place-gt0.false in omega (arith, few)) in
    let at = video-is c.args.programs.now c.args.jobs.now c.in-Some.place c.index-programs-place.result c.index-jobs-place.result c.as_slice-in-Some.result.now c.as_slice-in-Some-3.result.now
    c.as_slice-in-Some-2.result.now own c.len.result (let many = c.requires.as_many in omega (arith, within, many)) c.index-programs-place.is c.as_slice-in-Some.ensures
    c.as_slice-in-Some-2.ensures c.as_slice-in-Some-3.ensures.value c.len.ensures refl in
    (may-be-asked c.args.programs.now (ratios_of c.args.jobs.now) c.args.choice.now c.args.stream c.args.item c.args.piece c.in-Some.place c.index-programs-place.result c.as_slice-in-Some.result.now
    c.as_slice-in-Some-3.result.now c.as_slice-in-Some-2.result.now own at
    c.requires.sendable c.requires.names c.in-Some.ensures none c.requires.made c.requires.piece).number

pub piece-requires-clause-piece : goal.piece-requires-clause-piece
piece-requires-clause-piece c =
    let own : List ℕ = take c.len.result c.in-Some.place.choice.now in
    let within = c.in-Some.ensures.within in
    let none : c.in-Some.place.stream ≡ 0 = (let few = c.if-place-gt0.false in omega (arith, few)) in
    let at = video-is c.args.programs.now c.args.jobs.now c.in-Some.place c.index-programs-place.result c.index-jobs-place.result c.as_slice-in-Some.result.now c.as_slice-in-Some-3.result.now
    c.as_slice-in-Some-2.result.now own c.len.result (let many = c.requires.as_many in omega (arith, within, many)) c.index-programs-place.is c.as_slice-in-Some.ensures
    c.as_slice-in-Some-2.ensures c.as_slice-in-Some-3.ensures.value c.len.ensures refl in
    (may-be-asked c.args.programs.now (ratios_of c.args.jobs.now) c.args.choice.now c.args.stream c.args.item c.args.piece c.in-Some.place c.index-programs-place.result c.as_slice-in-Some.result.now
    c.as_slice-in-Some-3.result.now c.as_slice-in-Some-2.result.now own at
    c.requires.sendable c.requires.names c.in-Some.ensures none c.requires.made c.requires.piece).piece_there

pub piece-requires-clause-kept : goal.piece-requires-clause-kept
piece-requires-clause-kept c =
    let own : List ℕ = take c.len.result c.in-Some.place.choice.now in
    let within = c.in-Some.ensures.within in
    let none : c.in-Some.place.stream ≡ 0 = (let few = c.if-place-gt0.false in omega (arith, few)) in
    let at = video-is c.args.programs.now c.args.jobs.now c.in-Some.place c.index-programs-place.result c.index-jobs-place.result c.as_slice-in-Some.result.now c.as_slice-in-Some-3.result.now
    c.as_slice-in-Some-2.result.now own c.len.result (let many = c.requires.as_many in omega (arith, within, many)) c.index-programs-place.is c.as_slice-in-Some.ensures
    c.as_slice-in-Some-2.ensures c.as_slice-in-Some-3.ensures.value c.len.ensures refl in
    kept-there c.args.programs.now (ratios_of c.args.jobs.now) c.args.choice.now c.args.sent.now c.args.stream c.in-Some.place c.index-programs-place.result c.as_slice-in-Some.result.now
    c.as_slice-in-Some-3.result.now c.as_slice-in-Some-2.result.now own _ at
    c.requires.kept c.in-Some.ensures

pub returns-in-Ok-clause-kept : goal.returns-in-Ok-clause-kept
returns-in-Ok-clause-kept c =
    let own : List ℕ = take c.len.result c.in-Some.place.choice.now in
    let within = c.in-Some.ensures.within in
    let none : c.in-Some.place.stream ≡ 0 = (let few = c.if-place-gt0.false in omega (arith, few)) in
    let at = video-is c.args.programs.now c.args.jobs.now c.in-Some.place c.index-programs-place.result c.index-jobs-place.result c.as_slice-in-Some.result.now c.as_slice-in-Some-3.result.now
    c.as_slice-in-Some-2.result.now own c.len.result (let many = c.requires.as_many in omega (arith, within, many)) c.index-programs-place.is c.as_slice-in-Some.ensures
    c.as_slice-in-Some-2.ensures c.as_slice-in-Some-3.ensures.value c.len.ensures refl in
    kept-again c.args.programs.now (ratios_of c.args.jobs.now) c.args.choice.now c.args.sent.now c.args.stream c.in-Some.place c.index-programs-place.result c.as_slice-in-Some.result.now
    c.as_slice-in-Some-3.result.now c.as_slice-in-Some-2.result.now own _ at
    c.requires.kept c.in-Some.ensures c.piece.ensures.kept

pub returns-in-Err-clause-kept : goal.returns-in-Err-clause-kept
returns-in-Err-clause-kept c =
    let own : List ℕ = take c.len.result c.in-Some.place.choice.now in
    let within = c.in-Some.ensures.within in
    let none : c.in-Some.place.stream ≡ 0 = (let few = c.if-place-gt0.false in omega (arith, few)) in
    let at = video-is c.args.programs.now c.args.jobs.now c.in-Some.place c.index-programs-place.result c.index-jobs-place.result c.as_slice-in-Some.result.now c.as_slice-in-Some-3.result.now
    c.as_slice-in-Some-2.result.now own c.len.result (let many = c.requires.as_many in omega (arith, within, many)) c.index-programs-place.is c.as_slice-in-Some.ensures
    c.as_slice-in-Some-2.ensures c.as_slice-in-Some-3.ensures.value c.len.ensures refl in
    kept-again c.args.programs.now (ratios_of c.args.jobs.now) c.args.choice.now c.args.sent.now c.args.stream c.in-Some.place c.index-programs-place.result c.as_slice-in-Some.result.now
    c.as_slice-in-Some-3.result.now c.as_slice-in-Some-2.result.now own _ at
    c.requires.kept c.in-Some.ensures c.piece.ensures.kept

pub returns-in-Ok-clause-piece : goal.returns-in-Ok-clause-piece
returns-in-Ok-clause-piece c =
    let own : List ℕ = take c.len.result c.in-Some.place.choice.now in
    let within = c.in-Some.ensures.within in
    let none : c.in-Some.place.stream ≡ 0 = (let few = c.if-place-gt0.false in omega (arith, few)) in
    let at = video-is c.args.programs.now c.args.jobs.now c.in-Some.place c.index-programs-place.result c.index-jobs-place.result c.as_slice-in-Some.result.now c.as_slice-in-Some-3.result.now
    c.as_slice-in-Some-2.result.now own c.len.result (let many = c.requires.as_many in omega (arith, within, many)) c.index-programs-place.is c.as_slice-in-Some.ensures
    c.as_slice-in-Some-2.ensures c.as_slice-in-Some-3.ensures.value c.len.ensures refl in
    video-answer c.args.programs.now (ratios_of c.args.jobs.now) c.args.choice.now c.args.stream c.args.item c.args.piece c.in-Some.place c.index-programs-place.result c.as_slice-in-Some.result.now
    c.as_slice-in-Some-3.result.now c.as_slice-in-Some-2.result.now own c.in-Ok.filled c.piece.new.into at c.in-Some.ensures none c.in-Ok.ensures.piece
