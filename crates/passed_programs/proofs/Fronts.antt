-- What a pass over a file of a shelf says of it.
use Rattle.std.proofs.Common.{◌≡◌, ◌⊎◌, ℕ, ◌+◌, ◌-◌, ◌≤◌, List, [], ◌++◌, Option, None, Some, IfSome, inl, inr, length, take, drop, refl, sym, ap, ◌∙◌, subst, arith, length-append}
use Rattle.shelf_io.specs.Files.{Files}
use Rattle.file_pass.specs.declared.file_pass.FilePass.{FilePass}
use Rattle.file_pass.specs.FilePass.{left_to, limit_of, name_of, place_of, shelf_of}
use Rattle.ts_demux.specs.declared.demux_fault.DemuxFault.{DemuxFault}
use Rattle.ts_demux.specs.declared.demuxed.PesUnit.{PesUnit}
use Rattle.ts_demux.specs.declared.pass_fault.PassFault.{PassFault}
use Rattle.ts_demux.specs.declared.pass_fault.PassFault.TheVariants as passes
use Rattle.ts_demux.specs.Demux.{IsDemuxRefused, IsFirstStreamFault}
use Rattle.ts_demux.specs.Faults.{IsMemory}
use Rattle.ts_demux.specs.Pass.{HoldsOfFile, IsEarly, IsWhole, OnRefused as OnPassRefused}
use Rattle.ts_demux.proofs.PassSteps.{passes_size, told_early, told_file, told_whole}
use Rattle.elementary_streams.specs.declared.stream_fault.StreamFault.{StreamFault}
use Rattle.program_reader.specs.declared.program_fault.ProgramFault.{ProgramFault}
use Rattle.program_reader.specs.declared.program_fault.ProgramFault.TheVariants as program_faults
use Rattle.program_reader.specs.Faults.{of_demux}
use Rattle.passed_programs.specs.declared.read_fault.ReadFault.TheVariants as video_faults
use Rattle.passed_programs.specs.declared.read_fault.ReadFault.{ReadFault as VideoReadFault}
use Rattle.passed_programs.specs.PassedVideo.{IsReadRefused as IsVideoPassRefused, IsVideoRefused}
use Rattle.stream_pass.specs.declared.read_fault.ReadFault.TheVariants as stream_faults
use Rattle.stream_pass.specs.declared.read_fault.ReadFault.{ReadFault as StreamReadFault}
use Rattle.stream_pass.specs.PassedStream.{IsOfStream, IsReadRefused as IsPassRefused}
use Rattle.passed_programs.specs.declared.passed_fault.PassedFault.{PassedFault}
use Rattle.passed_programs.specs.declared.passed_fault.PassedFault.TheVariants as faults
use Rattle.passed_programs.specs.PassedFile.{OnRefused}
use Rattle.passed_programs.specs.Private.Passes.{EndsPasses, IsMapFault, IsOfTold, IsStoppedBy, OfFront, front_of, of_audio_pass, of_pass, of_video_pass}

-- ---- the file that a pass read

pub on_told : (front : Option (List ℕ)) (P : List ℕ → Type 0) → OfFront front P → IfSome front P
on_told None P of = tt
on_told (Some whole) P of = subst P (sym of.told) of.holds

pub weaker : (front : Option (List ℕ)) (P Q : List ℕ → Type 0) → ((file : List ℕ) → P file → Q file) → OfFront front P → OfFront front Q
weaker front P Q on of = record { file = of.file; told = of.told; holds = on of.file of.holds }

pub told_weaker : (front : Option (List ℕ)) (P Q : List ℕ → Type 0) → ((file : List ℕ) → P file → Q file) → IfSome front P → IfSome front Q
told_weaker None P Q on is = tt
told_weaker (Some file) P Q on is = on file is

pub told_both : (front : Option (List ℕ)) (P Q R : List ℕ → Type 0) → ((file : List ℕ) → P file → Q file → R file) → IfSome front P → IfSome front Q → IfSome front R
told_both None P Q R on one other = tt
told_both (Some file) P Q R on one other = on file one other

module _ (after : Option (List ℕ)) (most most_after : ℕ) (held : List ℕ) (P : List ℕ → Type 0) where
  -- to its end
  pub of_whole : (front : Option (List ℕ)) → IsWhole front after most most_after held P → OfFront front P
  of_whole None is = record { file = is.seen ++ held; told = tt; holds = is.whole }
  of_whole (Some file) is = record { file = file; told = refl; holds = told_whole file after most most_after held P is }

  pub whole_told : (front : Option (List ℕ)) → IsWhole front after most most_after held P → IfSome front P
  whole_told front is = on_told front P (of_whole front is)

  -- as far as it was read
  pub early_told : (front : Option (List ℕ)) → IsEarly front after most most_after held P → IfSome front P
  early_told None is = tt
  early_told (Some file) is = told_early file after most most_after held P is

  pub of_file : (front : Option (List ℕ)) → HoldsOfFile front after most most_after held P → OfFront front P
  of_file None (inl early) = record { file = early.seen ++ []; told = tt; holds = early.every [] }
  of_file None (inr whole) = of_whole None whole
  of_file (Some file) is = record { file = file; told = refl; holds = told_file file after most most_after held P is }

-- with the number of its bytes
pub of_sized : (after : Option (List ℕ)) (limit limit_after begun place size : ℕ) (held : List ℕ) (P : List ℕ → Type 0) (left front : Option (List ℕ)) → left ≡ front → begun ≡ 0 → limit_after ≡ limit
    → size ≡ place → size ≤ limit_after → IsWhole left after (limit - begun) (limit_after - place) held P → OfFront front (λ file. (size ≡ length file) × P file)
of_sized after limit limit_after begun place size held P left front same begun_is limit_is size_is within is =
    of_whole after (limit - begun) (limit_after - place) held (λ file. (size ≡ length file) × P file) front
    (subst (λ (told : Option (List ℕ)). IsWhole told after (limit - begun) (limit_after - place) held (λ file. (size ≡ length file) × P file)) same (record {
      seen = is.seen;
      passes = is.passes;
      end = is.end;
      whole = (count, is.whole);
    }))
  where
    count : size ≡ length (is.seen ++ held)
    count =
        let all = passes_size left after (limit - begun) (limit_after - place) [] is.seen held is.passes in
        omega (arith, all, begun_is, limit_is, size_is, within, length-append is.seen held)

module _ (after : Option (List ℕ)) (most most_after : ℕ) (held : List ℕ) (P : List ℕ → Type 0) (left front : Option (List ℕ)) (same : left ≡ front) where
  pub whole_front : IsWhole left after most most_after held P → OfFront front P
  whole_front is = of_whole after most most_after held P front (subst (λ (told : Option (List ℕ)). IsWhole told after most most_after held P) same is)

  pub file_front : HoldsOfFile left after most most_after held P → OfFront front P
  file_front is = of_file after most most_after held P front (subst (λ (told : Option (List ℕ)). HoldsOfFile told after most most_after held P) same is)

-- ---- its shelf

-- where a pass began, the first bytes of its file are left
pub front_is : {K : Type 0} (files : K → Option Files) (shelf : K) (name : List ℕ) (limit : ℕ) (pass : FilePass K) → (shelf_of pass).now ≡ shelf → name_of pass ≡ name → limit_of pass ≡ limit
    → place_of pass ≡ 0 → left_to (files (shelf_of pass).now) (name_of pass) (limit_of pass) (place_of pass) ≡ front_of (files shelf) name limit
front_is files shelf name limit pass same named limited begun = rw (same, named, limited, begun) refl

-- ---- faults

module _ (after : Option (List ℕ)) (most most_after : ℕ) (held : List ℕ) (front : Option (List ℕ)) where
  -- the tables
  map_told : (number : ℕ) (dropped : List ℕ) (fault : PassFault)
      → OnPassRefused fault (λ refusal. HoldsOfFile front after most most_after held (λ file. IsDemuxRefused file number dropped refusal)) → IsOfTold front (IsMapFault number dropped) (of_pass fault)
  map_told number dropped (passes.Outside fault) is = inl refl
  map_told number dropped (passes.Refused fault) is =
      inr (told_weaker front (λ file. IsDemuxRefused file number dropped fault) (λ file. IsMapFault number dropped file (of_demux fault)) (λ file refused. (fault, refused, refl))
      (on_told front (λ file. IsDemuxRefused file number dropped fault) (of_file after most most_after held (λ file. IsDemuxRefused file number dropped fault) front is)))

  -- the first packet that is refused
  packet_refused : (pids : List ℕ) (fault : DemuxFault) → IsMemory fault ⊎ IsEarly front after most most_after held (λ file. IsFirstStreamFault file pids fault)
      → IsOfTold front (EndsPasses pids) (faults.Refused (of_demux fault))
  packet_refused pids fault (inl memory) = inl (ap of_demux memory)
  packet_refused pids fault (inr early) =
      inr (told_weaker front (λ file. IsFirstStreamFault file pids fault) (λ file. EndsPasses pids file (of_demux fault)) (λ file first. EndsPasses.bad_packet fault first refl)
      (early_told after most most_after held (λ file. IsFirstStreamFault file pids fault) front early))

  -- an audio stream
  audio_told : (pids : List ℕ) (index : ℕ) (refuses : List PesUnit → StreamFault → Type 0) (fault : StreamReadFault PassFault StreamFault)
      → IsPassRefused front after most most_after held pids index refuses fault
      → IsStoppedBy front pids (λ file. IsOfStream file pids index refuses) (of_audio_pass fault)
  audio_told pids index refuses (stream_faults.Passing (passes.Outside fault)) is = inl refl
  audio_told pids index refuses (stream_faults.Passing (passes.Refused fault)) is = packet_refused pids fault is
  audio_told pids index refuses stream_faults.Limit is =
      inr (told_weaker front _ (λ file. EndsPasses pids file _) (λ file over. EndsPasses.over_limit index over refl) (whole_told after most most_after held _ front is))
  audio_told pids index refuses (stream_faults.Refused fault) is = whole_told after most most_after held (λ file. IsOfStream file pids index refuses fault) front is
  audio_told pids index refuses stream_faults.OutOfMemory is = inl refl

  -- the video
  video_told : (pids : List ℕ) (fault : VideoReadFault) → IsVideoPassRefused front after most most_after held pids fault
      → IsStoppedBy front pids (λ file. IsVideoRefused file pids) (of_video_pass fault)
  video_told pids (video_faults.Passing (passes.Outside fault)) is = inl refl
  video_told pids (video_faults.Passing (passes.Refused fault)) is = packet_refused pids fault is
  video_told pids (video_faults.Refused (program_faults.Refused kind at)) (inl memory) = absurd cc
  video_told pids (video_faults.Refused (program_faults.Refused kind at)) (inr whole) =
      whole_told after most most_after held (λ file. IsVideoRefused file pids (program_faults.Refused kind at)) front whole
  video_told pids (video_faults.Refused program_faults.OutOfMemory) is = inl refl

-- the same of what was left where the pass began
module _ (after : Option (List ℕ)) (most most_after : ℕ) (held : List ℕ) (left front : Option (List ℕ)) (same : left ≡ front) where
  pub map_refused : (number : ℕ) (dropped : List ℕ) (fault : PassFault)
      → OnPassRefused fault (λ refusal. HoldsOfFile left after most most_after held (λ file. IsDemuxRefused file number dropped refusal)) → IsOfTold front (IsMapFault number dropped) (of_pass fault)
  map_refused number dropped fault is =
      map_told after most most_after held front number dropped fault
      (subst (λ (told : Option (List ℕ)). OnPassRefused fault (λ refusal. HoldsOfFile told after most most_after held (λ file. IsDemuxRefused file number dropped refusal))) same is)

  pub audio_stopped : (pids : List ℕ) (index : ℕ) (refuses : List PesUnit → StreamFault → Type 0) (fault : StreamReadFault PassFault StreamFault)
      → IsPassRefused left after most most_after held pids index refuses fault → IsStoppedBy front pids (λ file. IsOfStream file pids index refuses) (of_audio_pass fault)
  audio_stopped pids index refuses fault is =
      audio_told after most most_after held front pids index refuses fault
      (subst (λ (told : Option (List ℕ)). IsPassRefused told after most most_after held pids index refuses fault) same is)

  pub video_stopped : (pids : List ℕ) (fault : VideoReadFault) → IsVideoPassRefused left after most most_after held pids fault
      → IsStoppedBy front pids (λ file. IsVideoRefused file pids) (of_video_pass fault)
  video_stopped pids fault is =
      video_told after most most_after held front pids fault (subst (λ (told : Option (List ℕ)). IsVideoPassRefused told after most most_after held pids fault) same is)
