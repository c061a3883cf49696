-- The packets of audio streams, one stream behind the other, and what a program takes of a table.
use Rattle.std.proofs.Common.{◌≡◌, ℕ, ◌+◌, ◌-◌, ◌<◌, ◌≤◌, ◌↔◌, Bool, true, false, IsTrue, List, [], ◌∷◌, length, map, take, get_or, refl, sym, ap, subst, ◌∙◌, arith}
use Rattle.std.specs.List.{sum_by}
use Rattle.std.proofs.lemmas.List.Sums.{sum_by-cons, sum_by_more, sum_by-take-le}
use Rattle.program_reader.specs.declared.program.AudioPiece.{AudioPiece}
use Rattle.program_reader.specs.declared.program.AudioSource.{AudioSource}
use Rattle.program_reader.specs.declared.program.Program.{Program}
use Rattle.passed_programs.specs.declared.passed_program.PassedProgram.{PassedProgram}
use Rattle.passed_programs.specs.PassedProgram.{IsReadOff}
use Rattle.job_programs.specs.declared.limits.TheConstants.{AUDIO_PACKETS_MOST}
use Rattle.job_programs.specs.Distortions.{KeepsDistortions}
use Rattle.job_programs.specs.Share.{KeepsShare, audio_packets}

one-stream : (audios : List AudioSource) (i : ℕ) (audio : AudioSource) → i < length audios → audio ≡ get_or audios i audio
    → audio_packets (take (i + 1) audios) ≡ audio_packets (take i audios) + length audio.pieces
one-stream audios i audio within is =
    let more : audio_packets (take (i + 1) audios) ≡ audio_packets (take i audios) + length (get_or audios i audio).pieces =
    sum_by_more (λ (a : AudioSource). length a.pieces) audios i audio within in
    more ∙ ap (λ (a : AudioSource). audio_packets (take i audios) + length a.pieces) (sym is)

-- there is room for one more stream
pub room-for : (audios : List AudioSource) (i : ℕ) (audio : AudioSource) (room most : ℕ) → i < length audios → audio ≡ get_or audios i audio
    → room + audio_packets (take i audios) ≡ most → length audio.pieces ≤ room → (room - length audio.pieces) + audio_packets (take (i + 1) audios) ≡ most
room-for audios i audio room most within is before few = let more = one-stream audios i audio within is in omega (arith, more, before, few)

-- there is none, so the packets are too many
pub too-many : (audios : List AudioSource) (i : ℕ) (audio : AudioSource) (room most : ℕ) → i < length audios → audio ≡ get_or audios i audio
    → room + audio_packets (take i audios) ≡ most → room < length audio.pieces → most < audio_packets audios
too-many audios i audio room most within is before many =
    let more = one-stream audios i audio within is in
    let front : audio_packets (take (i + 1) audios) ≤ audio_packets audios = sum_by-take-le (λ (a : AudioSource). length a.pieces) audios (i + 1) in
    omega (arith, more, before, many, front)

-- ---- pieces by themselves

-- there is room for those of one more stream
pub room-for-pieces : (audios : List (List AudioPiece)) (i : ℕ) (pieces : List AudioPiece) (room most : ℕ) → i < length audios → pieces ≡ get_or audios i pieces
    → room + sum_by length (take i audios) ≡ most → length pieces ≤ room → (room - length pieces) + sum_by length (take (i + 1) audios) ≡ most
room-for-pieces audios i pieces room most within is before few =
    let more : sum_by length (take (i + 1) audios) ≡ sum_by length (take i audios) + length (get_or audios i pieces) = sum_by_more length audios i pieces within in
    let same : length (get_or audios i pieces) ≡ length pieces = ap length (sym is) in
    omega (arith, more, same, before, few)

-- there is none, so they are too many
pub too-many-pieces : (audios : List (List AudioPiece)) (i : ℕ) (pieces : List AudioPiece) (room most : ℕ) → i < length audios → pieces ≡ get_or audios i pieces
    → room + sum_by length (take i audios) ≡ most → room < length pieces → most < sum_by length audios
too-many-pieces audios i pieces room most within is before many =
    let more : sum_by length (take (i + 1) audios) ≡ sum_by length (take i audios) + length (get_or audios i pieces) = sum_by_more length audios i pieces within in
    let same : length (get_or audios i pieces) ≡ length pieces = ap length (sym is) in
    let front : sum_by length (take (i + 1) audios) ≤ sum_by length audios = sum_by-take-le length audios (i + 1) in
    omega (arith, more, same, before, many, front)

same_packets : (audios : List AudioSource) → sum_by length (map (λ (audio : AudioSource). audio.pieces) audios) ≡ audio_packets audios
same_packets [] = refl
same_packets (a ∷ as') =
    let rest = same_packets as' in
    let here : sum_by length (a.pieces ∷ map (λ (audio : AudioSource). audio.pieces) as') ≡ length a.pieces + sum_by length (map (λ (audio : AudioSource). audio.pieces) as') =
    sum_by-cons length a.pieces (map (λ (audio : AudioSource). audio.pieces) as') in
    let there : audio_packets (a ∷ as') ≡ length a.pieces + audio_packets as' = sum_by-cons (λ (audio : AudioSource). length audio.pieces) a as' in
    omega (arith, rest, here, there)

-- the pieces that are read off a program are its audio packets
pub packets-off : (program : Program) (passed : PassedProgram) (audios : List (List AudioPiece)) → IsReadOff program passed → audios ≡ passed.audios
    → sum_by length audios ≡ audio_packets program.audios
packets-off program passed audios off same = ap (λ (those : List (List AudioPiece)). sum_by length those) (same ∙ off.audios_are) ∙ same_packets program.audios

-- ---- a share

-- of few packets it is as the distortions are
pub share-by : (near : Bool) (weight drift : ℕ) (coarser : List ℕ) (program : Program) → audio_packets program.audios ≤ AUDIO_PACKETS_MOST
    → IsTrue near ↔ KeepsDistortions weight drift coarser program → IsTrue near ↔ KeepsShare weight drift coarser program
share-by near weight drift coarser program few decides = (λ yes. record { packets = few; distortions = decides.0 yes }, λ kept. decides.1 kept.distortions)

-- of too many it isn't kept
pub share-not : (few : Bool) (weight drift count : ℕ) (coarser : List ℕ) (program : Program) → count ≡ audio_packets program.audios → IsTrue few ↔ (count ≤ AUDIO_PACKETS_MOST) → few ≡ false
    → IsTrue false ↔ KeepsShare weight drift coarser program
share-not few weight drift count coarser program same decides fails = (
  λ no. absurd (let e : false ≡ true = no in cc),
  λ kept. absurd (let holds : few ≡ true = decides.1 (omega (arith, same, kept.packets)) in cc),
)
