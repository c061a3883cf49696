-- The streams of a file in the order of its refusals.
use Rattle.std.proofs.Common.{◌≡◌, ◌⊎◌, ℕ, zero, suc, ◌+◌, ◌<◌, ◌≤◌, List, [], ◌∷◌, ◌++◌, Option, None, Some, Result, Ok, Err, IfErr, IfOk, IfSome, inl, inr, length, slice_get, map, refl, sym, ap, ◌∙◌, subst, arith, ℤ, length-append}
use Rattle.std.proofs.lemmas.Bool.{cases_order}
use Rattle.std.proofs.lemmas.List.{length-map}
use Rattle.std.proofs.lemmas.Option.{same_Some}
use Rattle.shelf_io.specs.Files.{Files}
pub use Rattle.file_pass.proofs.Later.{reads_none, reads_twice}
use Rattle.psi_tables.specs.declared.stream.Stream.{Stream}
use Rattle.ts_packets.specs.TransportStream.{piece_count}
use Rattle.ts_demux.specs.declared.demuxed.PesUnit.{PesUnit}
use Rattle.pes_passing.specs.PassingPackets.{packets_before}
use Rattle.elementary_streams.specs.declared.audio_stream.ReadStream.{ReadStream}
use Rattle.elementary_streams.specs.declared.stream_fault.StreamFault.{StreamFault}
use Rattle.program_reader.specs.declared.program_fault.ProgramFault.{ProgramFault}
use Rattle.program_reader.specs.declared.program_fault.ProgramFault.TheVariants as program_faults
use Rattle.program_reader.specs.Faults.{of_stream}
use Rattle.passed_programs.specs.PassedVideo.{IsVideoRefused}
use Rattle.stream_pass.specs.declared.limits.TheConstants.{PES_PACKETS_MOST}
use Rattle.stream_pass.specs.PassedStream.{HasPackets, IsOfStream}
use Rattle.passed_programs.specs.PassedAudio.{ReadsAudio, RefusesAudio}
use Rattle.passed_programs.specs.declared.passed_fault.PassedFault.{PassedFault}
use Rattle.passed_programs.specs.declared.passed_fault.PassedFault.TheVariants as faults
use Rattle.passed_programs.specs.declared.stream_stop.StreamStop.{StreamStop}
use Rattle.passed_programs.specs.declared.stream_stop.StreamStop.TheVariants as stops
use Rattle.passed_programs.specs.Private.Passes.{AreAudiosOf, AreAudiosPassed, AreFewFrom, EndsPasses, IsAudioFaultAt, IsAudiosFault, IsFew, IsOfTold, IsRefusedBehind, IsStoppedBy, IsVideoFault, OfFront, ended_in, front_of, stop_at, stream_stop_in}
use Rattle.passed_programs.proofs.Fronts.{on_told, told_both, told_weaker}

-- ---- their PES packets

-- a stream has the PES packets of its PID, so one list of them
pub same_packets : (file pids : List ℕ) (index : ℕ) (one other : List PesUnit) → HasPackets file pids index one → HasPackets file pids index other → one ≡ other
same_packets file pids index one other has has_other =
    let pid : has.pid ≡ has_other.pid = same_Some has.pid has_other.pid (sym has.pid_is ∙ has_other.pid_is) in
    has.packets_are ∙ ap (λ (p : ℕ). packets_before file p (piece_count file)) pid ∙ sym has_other.packets_are

-- one that was read to its end, or is refused, has few
pub is_few : {A : Type 0} (file pids : List ℕ) (index : ℕ) (says : List PesUnit → A → Type 0) (answer : A) → IsOfStream file pids index says answer → IsFew file pids index
is_few file pids index says answer of packets has =
    omega (arith, of.sound_stream.few, ap (λ (ps : List PesUnit). length ps) (same_packets file pids index packets of.packets has of.sound_stream.has))

-- those from a number on, of which there are none behind the last one
pub few_end : (file pids : List ℕ) (from : ℕ) → length pids ≤ from → AreFewFrom file pids from
few_end file pids from end = λ k later packets has. absurd (none pids k has.pid (omega (arith, end, later)) has.pid_is)
  where
    none : (xs : List ℕ) (k x : ℕ) → length xs ≤ k → slice_get xs k ≡ Some x → ⊥
    none [] k x le is = absurd cc
    none (y ∷ ys) zero x le is = absurd (omega (arith, le))
    none (y ∷ ys) (suc k) x le is = none ys k x (omega (arith, le)) is

-- streams up to a number are few
abbrev pub AreFewBetween : (file pids : List ℕ) → (from to : ℕ) → Type 0
AreFewBetween file pids from to = (k : ℕ) → from ≤ k → k < to → IsFew file pids k

pub few_none : (front : Option (List ℕ)) (pids : List ℕ) (from : ℕ) → IfSome front (λ file. AreFewBetween file pids from from)
few_none None pids from = tt
few_none (Some file) pids from = λ k le lt. absurd (omega (arith, le, lt))

pub few_more : (front : Option (List ℕ)) (pids : List ℕ) (from at : ℕ) → IfSome front (λ file. AreFewBetween file pids from at) → IfSome front (λ file. IsFew file pids at)
    → IfSome front (λ file. AreFewBetween file pids from (at + 1))
few_more None pids from at few next = tt
few_more (Some file) pids from at few next = λ k le lt. by_case k le (cases_of k lt)
  where
    cases_of : (k : ℕ) → k < at + 1 → (k ≡ at) ⊎ (k < at)
    cases_of k lt = below_or_at (cases_order k at)
      where
        below_or_at : (k ≡ at) ⊎ ((k < at) ⊎ (at < k)) → (k ≡ at) ⊎ (k < at)
        below_or_at (inl same) = inl same
        below_or_at (inr (inl less)) = inr less
        below_or_at (inr (inr more)) = absurd (omega (arith, lt, more))

    by_case : (k : ℕ) → from ≤ k → (k ≡ at) ⊎ (k < at) → IsFew file pids k
    by_case k le (inl here) = subst (IsFew file pids) (sym here) next
    by_case k le (inr before) = few k le before

-- ---- what refuses them

pub ends_weaker : (front : Option (List ℕ)) (Q R : List ℕ → ProgramFault → Type 0) (fault : PassedFault) → ((file : List ℕ) (found : ProgramFault) → Q file found → R file found)
    → IsOfTold front Q fault → IsOfTold front R fault
ends_weaker front Q R (faults.Refused found) on (inl memory) = inl memory
ends_weaker front Q R (faults.Refused found) on (inr told) = inr (told_weaker front (λ file. Q file found) (λ file. R file found) (λ file is. on file found is) told)
ends_weaker front Q R faults.Failed on is = tt
ends_weaker front Q R faults.Missing on is = tt

-- ---- those that were read

-- one more at the end
pub audio_more : (front : Option (List ℕ)) (pids : List ℕ) (first : ℤ) (index : ℕ) (done : List ReadStream) (read : ReadStream) → AreAudiosPassed front pids first index done
    → OfFront front (λ file. IsOfStream file pids (index + length done) (ReadsAudio first) read) → AreAudiosPassed front pids first index (done ++ read ∷ [])
audio_more front pids first index [] read are next =
    let here : index + 0 ≡ index = omega arith in
    (subst (λ (k : ℕ). OfFront front (λ file. IsOfStream file pids k (ReadsAudio first) read)) here next, tt)
audio_more front pids first index (one ∷ done) read are next =
    let there : index + suc (length done) ≡ index + 1 + length done = omega arith in
    (are.0, audio_more front pids first (index + 1) done read are.1 (subst (λ (k : ℕ). OfFront front (λ file. IsOfStream file pids k (ReadsAudio first) read)) there next))

-- of the file that is told
pub audios_told : (file pids : List ℕ) (first : ℤ) (index : ℕ) (done : List ReadStream) → AreAudiosPassed (Some file) pids first index done → AreAudiosOf file pids first index done
audios_told file pids first index [] are = tt
audios_told file pids first index (read ∷ done) are = (on_told (Some file) (λ f. IsOfStream f pids index (ReadsAudio first) read) are.0, audios_told file pids first (index + 1) done are.1)

audios_fault_told : (front : Option (List ℕ)) (pids : List ℕ) (first : ℤ) (done : List ReadStream) (found : ProgramFault) → AreAudiosPassed front pids first 1 done
    → IfSome front (λ file. IsAudioFaultAt pids (1 + length done) first file found) → IfSome front (λ file. IsAudiosFault pids first file found)
audios_fault_told None pids first done found are at = tt
audios_fault_told (Some file) pids first done found are at = record { done = done; done_are = audios_told file pids first 1 done are; fault_at = at }

pub audios_fault : (front : Option (List ℕ)) (pids : List ℕ) (first : ℤ) (done : List ReadStream) (fault : PassedFault) → AreAudiosPassed front pids first 1 done
    → IsOfTold front (IsAudioFaultAt pids (1 + length done) first) fault → IsOfTold front (IsAudiosFault pids first) fault
audios_fault front pids first done (faults.Refused found) are (inl memory) = inl memory
audios_fault front pids first done (faults.Refused found) are (inr told) = inr (audios_fault_told front pids first done found are told)
audios_fault front pids first done faults.Failed are is = tt
audios_fault front pids first done faults.Missing are is = tt

-- ---- a stream that is refused, and those behind it

pub video_ends : (front : Option (List ℕ)) (pids : List ℕ) (fault : PassedFault) → IsOfTold front (EndsPasses pids) fault → IsOfTold front (IsVideoFault pids) fault
video_ends front pids fault is = ends_weaker front (EndsPasses pids) (IsVideoFault pids) fault (λ file found ends. IsVideoFault.ends ends) is

pub audio_ends : (front : Option (List ℕ)) (pids : List ℕ) (index : ℕ) (first : ℤ) (fault : PassedFault) → IsOfTold front (EndsPasses pids) fault → IsOfTold front (IsAudioFaultAt pids index first) fault
audio_ends front pids index first fault is =
    ends_weaker front (EndsPasses pids) (IsAudioFaultAt pids index first) fault (λ file found ends. IsAudioFaultAt.ends ends) is

pub behind_ends : (front : Option (List ℕ)) (pids : List ℕ) (from : ℕ) (own : ProgramFault) (fault : PassedFault) → IsOfTold front (EndsPasses pids) fault
    → IsOfTold front (IsRefusedBehind pids from own) fault
behind_ends front pids from own fault is =
    ends_weaker front (EndsPasses pids) (IsRefusedBehind pids from own) fault (λ file found ends. IsRefusedBehind.ends ends) is

pub behind_few : (front : Option (List ℕ)) (pids : List ℕ) (from : ℕ) (own : ProgramFault) → IfSome front (λ file. AreFewFrom file pids from)
    → IsOfTold front (IsRefusedBehind pids from own) (faults.Refused own)
behind_few front pids from own few =
    inr (told_weaker front (λ file. AreFewFrom file pids from) (λ file. IsRefusedBehind pids from own file own) (λ file behind. IsRefusedBehind.itself refl behind) few)

joined_told : (front : Option (List ℕ)) (P : List ℕ → Type 0) (Q R : List ℕ → ProgramFault → Type 0) (fault : PassedFault) → ((file : List ℕ) (found : ProgramFault) → P file → Q file found → R file found)
    → IfSome front P → IsOfTold front Q fault → IsOfTold front R fault
joined_told front P Q R (faults.Refused found) on is (inl memory) = inl memory
joined_told front P Q R (faults.Refused found) on is (inr told) = inr (told_both front P (λ file. Q file found) (λ file. R file found) (λ file one other. on file found one other) is told)
joined_told front P Q R faults.Failed on is told = tt
joined_told front P Q R faults.Missing on is told = tt

-- the shelf tells the same files again
module _ (told later : Option Files) (name : List ℕ) (limit : ℕ) (same : later ≡ told) where
  pub again : (R : List ℕ → ProgramFault → Type 0) (fault : PassedFault) → IsOfTold (front_of later name limit) R fault → IsOfTold (front_of told name limit) R fault
  again R fault is = subst (λ (files : Option Files). IsOfTold (front_of files name limit) R fault) same is

  pub front_again : (P : List ℕ → Type 0) → OfFront (front_of later name limit) P → OfFront (front_of told name limit) P
  front_again P is = subst (λ (files : Option Files). OfFront (front_of files name limit) P) same is

  pub some_again : (P : List ℕ → Type 0) → IfSome (front_of later name limit) P → IfSome (front_of told name limit) P
  some_again P is = subst (λ (files : Option Files). IfSome (front_of files name limit) P) same is

  pub video_behind : (pids : List ℕ) (own : ProgramFault) (fault : PassedFault) → IfSome (front_of told name limit) (λ file. IsVideoRefused file pids own)
      → IsOfTold (front_of later name limit) (IsRefusedBehind pids 1 own) fault → IsOfTold (front_of told name limit) (IsVideoFault pids) fault
  video_behind pids own fault refused behind =
      joined_told (front_of told name limit) (λ file. IsVideoRefused file pids own) (IsRefusedBehind pids 1 own) (IsVideoFault pids) fault by_behind refused (again (IsRefusedBehind pids 1 own) fault behind)
    where
      by_behind : (file : List ℕ) (found : ProgramFault) → IsVideoRefused file pids own → IsRefusedBehind pids 1 own file found → IsVideoFault pids file found
      by_behind file found is (IsRefusedBehind.ends ends) = IsVideoFault.ends ends
      by_behind file found is (IsRefusedBehind.itself same_fault few) = IsVideoFault.refused (subst (IsVideoRefused file pids) (sym same_fault) is) few

  pub audio_behind : (pids : List ℕ) (index : ℕ) (first : ℤ) (own : StreamFault) (fault : PassedFault) → IfSome (front_of told name limit) (λ file. IsOfStream file pids index (RefusesAudio first) own)
      → IsOfTold (front_of later name limit) (IsRefusedBehind pids (index + 1) (of_stream own)) fault → IsOfTold (front_of told name limit) (IsAudioFaultAt pids index first) fault
  audio_behind pids index first own fault refused behind =
      joined_told (front_of told name limit) (λ file. IsOfStream file pids index (RefusesAudio first) own) (IsRefusedBehind pids (index + 1) (of_stream own)) (IsAudioFaultAt pids index first) fault
      by_behind refused (again (IsRefusedBehind pids (index + 1) (of_stream own)) fault behind)
    where
      by_behind : (file : List ℕ) (found : ProgramFault) → IsOfStream file pids index (RefusesAudio first) own → IsRefusedBehind pids (index + 1) (of_stream own) file found
          → IsAudioFaultAt pids index first file found
      by_behind file found is (IsRefusedBehind.ends ends) = IsAudioFaultAt.ends ends
      by_behind file found is (IsRefusedBehind.itself same_fault few) = IsAudioFaultAt.refused own is few same_fault

-- ---- passes for the number of PES packets

pub few_read : (front : Option (List ℕ)) (pids : List ℕ) (index : ℕ) (first : ℤ) (read : ReadStream) → OfFront front (λ file. IsOfStream file pids index (ReadsAudio first) read)
    → IfSome front (λ file. IsFew file pids index)
few_read front pids index first read of =
    told_weaker front (λ file. IsOfStream file pids index (ReadsAudio first) read) (λ file. IsFew file pids index) (λ file is. is_few file pids index (ReadsAudio first) read is)
    (on_told front (λ file. IsOfStream file pids index (ReadsAudio first) read) of)

pub few_refused : (front : Option (List ℕ)) (pids : List ℕ) (index : ℕ) (first : ℤ) (found : StreamFault) → IfSome front (λ file. IsOfStream file pids index (RefusesAudio first) found)
    → IfSome front (λ file. IsFew file pids index)
few_refused front pids index first found is =
    told_weaker front (λ file. IsOfStream file pids index (RefusesAudio first) found) (λ file. IsFew file pids index) (λ file of. is_few file pids index (RefusesAudio first) found of) is

few_cases : (front : Option (List ℕ)) (pids : List ℕ) (index : ℕ) (first : ℤ) (passed : Result ReadStream (StreamStop StreamFault))
    → IfOk passed (λ read. OfFront front (λ file. IsOfStream file pids index (ReadsAudio first) read))
    → IfErr passed (IsStoppedBy front pids (λ file. IsOfStream file pids index (RefusesAudio first))) → ended_in passed ≡ None → IfSome front (λ file. IsFew file pids index)
few_cases front pids index first (Ok read) is stopped none = few_read front pids index first read is
few_cases front pids index first (Err (stops.Ended fault)) is stopped none = absurd (some_none fault none)
  where
    some_none : (fault : PassedFault) → Some fault ≡ None → ⊥
    some_none fault same = cc
few_cases front pids index first (Err (stops.Refused found)) is stopped none = few_refused front pids index first found stopped

pub few_told : (front : Option (List ℕ)) (pids : List ℕ) (index : ℕ) (first : ℤ) (passed : Result ReadStream (StreamStop StreamFault)) (ended : Option PassedFault) → ended ≡ ended_in passed
    → IfOk passed (λ read. OfFront front (λ file. IsOfStream file pids index (ReadsAudio first) read))
    → IfErr passed (IsStoppedBy front pids (λ file. IsOfStream file pids index (RefusesAudio first))) → ended ≡ None → IfSome front (λ file. IsFew file pids index)
few_told front pids index first passed ended same is stopped none = few_cases front pids index first passed is stopped (sym same ∙ none)

ended_cases : (front : Option (List ℕ)) (pids : List ℕ) (R : List ℕ → StreamFault → Type 0) (passed : Result ReadStream (StreamStop StreamFault)) → IfErr passed (IsStoppedBy front pids R)
    → IfSome (ended_in passed) (IsOfTold front (EndsPasses pids))
ended_cases front pids R (Ok read) stopped = tt
ended_cases front pids R (Err (stops.Ended fault)) stopped = stopped
ended_cases front pids R (Err (stops.Refused found)) stopped = tt

pub ended_told : (front : Option (List ℕ)) (pids : List ℕ) (R : List ℕ → StreamFault → Type 0) (passed : Result ReadStream (StreamStop StreamFault)) (ended : Option PassedFault) → ended ≡ ended_in passed
    → IfErr passed (IsStoppedBy front pids R) → IfSome ended (IsOfTold front (EndsPasses pids))
ended_told front pids R passed ended same stopped = subst (λ (o : Option PassedFault). IfSome o (IsOfTold front (EndsPasses pids))) (sym same) (ended_cases front pids R passed stopped)

stop_cases : (passed : Result ReadStream (StreamStop StreamFault)) → stop_at (ended_in passed) ≡ stream_stop_in passed
stop_cases (Ok read) = refl
stop_cases (Err (stops.Ended fault)) = refl
stop_cases (Err (stops.Refused found)) = refl

pub stop_told : (passed : Result ReadStream (StreamStop StreamFault)) (ended : Option PassedFault) → ended ≡ ended_in passed → stream_stop_in passed ≡ stop_at ended
stop_told passed ended same = sym (ap stop_at same ∙ stop_cases passed)

in_file : (file : List ℕ) (streams : List Stream) (from at : ℕ) → length streams ≤ at → AreFewBetween file (map (λ (stream : Stream). stream.pid) streams) from at
    → AreFewFrom file (map (λ (stream : Stream). stream.pid) streams) from
in_file file streams from at past few k le = by_case (cases_order k at)
  where
    beyond : at ≤ k → IsFew file (map (λ (stream : Stream). stream.pid) streams) k
    beyond more =
        few_end file (map (λ (stream : Stream). stream.pid) streams) k (omega (arith, past, more, length-map streams (λ (stream : Stream). stream.pid))) k (omega arith)

    by_case : (k ≡ at) ⊎ ((k < at) ⊎ (at < k)) → IsFew file (map (λ (stream : Stream). stream.pid) streams) k
    by_case (inl same) = beyond (omega (arith, same))
    by_case (inr (inl less)) = few k le less
    by_case (inr (inr more)) = beyond (omega (arith, more))

pub few_whole : (front : Option (List ℕ)) (streams : List Stream) (from at : ℕ) → length streams ≤ at → IfSome front (λ file. AreFewBetween file (map (λ (stream : Stream). stream.pid) streams) from at)
    → IfSome front (λ file. AreFewFrom file (map (λ (stream : Stream). stream.pid) streams) from)
few_whole front streams from at past few =
    told_weaker front (λ file. AreFewBetween file (map (λ (stream : Stream). stream.pid) streams) from at) (λ file. AreFewFrom file (map (λ (stream : Stream). stream.pid) streams) from)
    (λ file is. in_file file streams from at past is) few
