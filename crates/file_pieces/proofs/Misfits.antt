-- A file that is told is what it was: none of what may not fit does come.
use Rattle.std.proofs.Common.{◌≡◌, ℕ, zero, suc, ◌-◌, ◌<◌, ◌⊎◌, inl, inr, Bool, true, false, List, [], ◌∷◌, length, map, take, drop, slice_get, slice_index, Option, Some, None, IfSome, Result, Ok, Err, IfErr, refl, ap₂, subst, ◌∙◌, arith}
use Rattle.shelf_io.specs.Files.{Files, content_of}
use Rattle.psi_tables.specs.declared.stream.Stream.{Stream}
use Rattle.ts_demux.specs.declared.pass_fault.PassFault.{PassFault}
use Rattle.ts_demux.specs.declared.pass_fault.PassFault.TheVariants.{Outside, Refused}
use Rattle.ts_demux.specs.Demux.{IsFirstStreamFault}
use Rattle.ts_demux.specs.Faults.{IsMemory}
use Rattle.ts_demux.specs.Pass.{IsEarly, OnRefused}
use Rattle.ts_demux.proofs.PassSteps.{told_early, told_whole}
use Rattle.es_window.specs.declared.held_part.HeldPart.{HeldPart}
use Rattle.es_window.specs.PassingBytes.{EndsBefore, HasRead, IsPart, part_read, read_index, read_pids, stream_of}
use Rattle.file_pass.specs.FilePass.{left_to}
use Rattle.file_pieces.specs.declared.limits.TheConstants.{READ_MOST}
use Rattle.file_pieces.specs.declared.stream_place.StreamPlace.{StreamPlace}
use Rattle.file_pieces.specs.Private.Calls.{IsMisfit}
use Rattle.file_pieces.specs.declared.file_stream.OpenStream.{OpenStream}
use Rattle.file_pieces.specs.FileStream.{HasBytesTo, IsOpen, IsStreamPlace, bytes_of, file_of, pids_in}

-- ---- the PID of a stream

at_index : (xs : List ℕ) (k : ℕ) → k < length xs → slice_get xs k ≡ Some (slice_index xs k)
at_index [] k within = absurd (let e : k < 0 = within in omega (arith, e))
at_index (x ∷ xs) zero within = refl
at_index (x ∷ xs) (suc k) within = at_index xs k (omega (arith, within))

map_long : (streams : List Stream) (k : ℕ) → k < length streams → k < length (map (λ (stream : Stream). stream.pid) streams)
map_long [] k within = within
map_long (s ∷ ss) zero within = omega arith
map_long (s ∷ ss) (suc k) within = let e = map_long ss k (omega (arith, within)) in omega (arith, e)

pub pid_there : (place : StreamPlace) → IsStreamPlace place → slice_get (pids_in place) place.index ≡ Some (slice_index (pids_in place) place.index)
pid_there place is = at_index (pids_in place) place.index (map_long place.streams.now place.index is.within)

-- ---- what is read

-- what is left of a file is that of its place
pub left_same : (told other : Option Files) (name own : List ℕ) (limit place at : ℕ) → told ≡ other → name ≡ own → limit ≡ READ_MOST → place ≡ at
    → left_to told name limit place ≡ left_to other own READ_MOST at
left_same told other name own limit place at same named limited placed = rw (same, named, limited, placed) refl

-- a part of the window is one of the stream
pub part_told : (told : Option Files) (place : StreamPlace) (stream : OpenStream) (from to : ℕ) (part : List ℕ) → IsStreamPlace place → IsOpen told place stream
    → ((file : List ℕ) (left_after : Option (List ℕ)) (most most_after : ℕ) (held : List ℕ) (pid : ℕ) → HasRead (Some file) left_after most most_after held stream.bytes
    → slice_get (read_pids stream.bytes) (read_index stream.bytes) ≡ Some pid → IsPart (stream_of (part_read stream.bytes) file pid) from to part)
    → IfSome (file_of told place) (λ file. IsPart (bytes_of place file) from to part)
part_told None place stream from to part stands is some = tt
part_told (Some files) place stream from to part stands is some =
    let pid : ℕ = slice_index (pids_in place) place.index in
    let there : slice_get (read_pids stream.bytes) (read_index stream.bytes) ≡ Some pid =
    ap₂ (λ (xs : List ℕ) (k : ℕ). slice_get xs k) is.pids_are is.index_is ∙ pid_there place stands in
    subst (λ (p : HeldPart). IsPart (stream_of p (take (READ_MOST - 0) (drop 0 (content_of files place.name.now))) pid) from to part) is.part_is
    (some (take (READ_MOST - 0) (drop 0 (content_of files place.name.now))) _ _ _ _ pid is.read there)

-- ---- no misfit

-- what is said of reading on in a file of a stream up to a place
pub record ReadsOn (file : Option (List ℕ)) (left_after : Option (List ℕ)) (most most_after : ℕ) (held pids : List ℕ) (index : ℕ) (part : HeldPart) (to : ℕ) (read : Result Bool PassFault) : Type 0 where
  pub short : read ≡ Ok false → EndsBefore file left_after most most_after held part pids index to
  pub refused : IfErr read (λ fault. OnRefused fault (λ refusal. IsMemory refusal
      ⊎ IsEarly file left_after most most_after held (λ f. IsFirstStreamFault f pids refusal)))

in_file : (place : StreamPlace) (file : List ℕ) (left_after : Option (List ℕ)) (most most_after : ℕ) (held : List ℕ) (to : ℕ) (read : Result Bool PassFault) → IsStreamPlace place
    → HasBytesTo place to file → ReadsOn (Some file) left_after most most_after held (pids_in place) place.index place.part to read → IsMisfit read → ⊥
in_file place file left_after most most_after held to (Ok true) is has reads misfit = misfit
in_file place file left_after most most_after held to (Ok false) is has reads misfit =
    let ends = told_whole file left_after most most_after held
    (λ f. (pid : ℕ) → slice_get (pids_in place) place.index ≡ Some pid → length (stream_of place.part f pid) < to) (reads.short refl) in
    let short : length (bytes_of place file) < to = ends (slice_index (pids_in place) place.index) (pid_there place is) in
    let long = has.long in
    absurd (let e : to < to = omega (arith, short, long) in omega (arith, e))
in_file place file left_after most most_after held to (Err (Outside fault)) is has reads misfit = misfit
in_file place file left_after most most_after held to (Err (Refused refusal)) is has reads misfit = by_cause reads.refused
  where
    by_cause : IsMemory refusal ⊎ IsEarly (Some file) left_after most most_after held (λ f. IsFirstStreamFault f (pids_in place) refusal) → ⊥
    by_cause (inl memory) = misfit memory
    by_cause (inr early) =
        let first = told_early file left_after most most_after held (λ f. IsFirstStreamFault f (pids_in place) refusal) early in
        has.sound first.packet refusal first.stands

-- where files are told nothing misfits
pub untold : (told : Option Files) (place : StreamPlace) (left_after : Option (List ℕ)) (most most_after : ℕ) (held pids : List ℕ) (index : ℕ) (part : HeldPart) (to : ℕ)
    (read : Result Bool PassFault) → IsStreamPlace place → pids ≡ pids_in place → index ≡ place.index → part ≡ place.part → IfSome (file_of told place) (HasBytesTo place to)
    → ReadsOn (file_of told place) left_after most most_after held pids index part to read → IsMisfit read → told ≡ None
untold None place left_after most most_after held pids index part to read is pids_are index_is part_is has reads misfit = refl
untold (Some files) place left_after most most_after held pids index part to read is pids_are index_is part_is has reads misfit =
    absurd (in_file place (take (READ_MOST - 0) (drop 0 (content_of files place.name.now))) left_after most most_after held to read is has
    (subst (λ (ps : List ℕ). ReadsOn (file_of (Some files) place) left_after most most_after held ps place.index place.part to read) pids_are
    (subst (λ (k : ℕ). ReadsOn (file_of (Some files) place) left_after most most_after held pids k place.part to read) index_is
    (subst (λ (p : HeldPart). ReadsOn (file_of (Some files) place) left_after most most_after held pids index p to read) part_is reads))) misfit)
