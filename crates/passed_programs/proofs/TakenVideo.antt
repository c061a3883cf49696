-- A video whose PES packets pass: how much it has, what its walk's faults refuse, and what a pass says of it.
use Rattle.std.proofs.Common.{◌≡◌, ◌⊎◌, ℕ, true, List, ◌∷◌, ◌++◌, Option, Some, None, Result, Err, IsErrOf, inl, inr, refl, sym, ◌∙◌, subst, arith}
use Rattle.std.proofs.lemmas.List.{append-nil}
use Rattle.shelf_io.specs.Causes.{SourceCauses}
use Rattle.shelf_io.specs.declared.fault.Fault.TheVariants.{Failed, Missing}
use Rattle.ts_demux.specs.declared.demuxed.Demuxed.{Demuxed}
use Rattle.ts_demux.specs.declared.demuxed.PesUnit.{PesUnit}
use Rattle.ts_demux.specs.declared.pass_fault.PassFault.{PassFault}
use Rattle.ts_demux.specs.declared.pass_fault.PassFault.TheVariants as passes
use Rattle.ts_demux.specs.Pass.{IsWhole}
use Rattle.elementary_streams.specs.Packets.{IsPacketFault}
use Rattle.program_reader.specs.declared.program_fault.ProgramFault.{ProgramFault}
use Rattle.program_reader.specs.declared.program_fault.ProgramFault.TheVariants.{OutOfMemory, Refused}
use Rattle.program_reader.specs.declared.program_fault.SourceKind.{SourceKind}
use Rattle.program_reader.specs.declared.program_fault.SourceKind.TheVariants as kinds
use Rattle.program_reader.specs.declared.unit_sizes.SizesWanted.{SizesWanted}
use Rattle.program_reader.specs.declared.video_walk.WalkedVideo.{WalkedVideo}
use Rattle.program_reader.specs.Programs.{IsDemuxedRefused}
use Rattle.program_reader.specs.VideoWalk.{AreAll, AreFew, IsFaultBefore}
use Rattle.pes_passing.specs.PassingPackets.{AreSplit}
use Rattle.stream_pass.specs.declared.read_fault.ReadFault.{ReadFault as StreamReadFault}
use Rattle.stream_pass.specs.declared.read_fault.ReadFault.TheVariants as stream_faults
use Rattle.stream_pass.specs.PassedStream.{IsOfStream, IsOverLimit, IsReadRefused as IsPassRefused}
use Rattle.stream_pass.specs.StreamWalk.{AreFew as AreFewOf, IsRefusal}
pub use Rattle.stream_pass.proofs.Passed.{joined_few}
use Rattle.passed_programs.specs.declared.read_fault.ReadFault.{ReadFault}
use Rattle.passed_programs.specs.declared.read_fault.ReadFault.TheVariants as faults
use Rattle.passed_programs.specs.PassedVideo.{IsReadRefused, IsVideoRead, IsVideoRefused}
use Rattle.passed_programs.specs.VideoPackets.{ReadsVideo, RefusesVideo}
use Rattle.passed_programs.specs.Private.TakenVideo.{as_read_fault, as_walk_fault}
use Rattle.program_stream.proofs.PassingSteps.{whole_on}

-- ---- what a walk is given

pub few_video : (packets : List PesUnit) → AreFewOf packets → AreFew packets
few_video packets few = record { packets_few = omega (arith, few.packets_few); bytes_few = omega (arith, few.bytes_few, joined_few packets) }

pub all_video : (packets all : List PesUnit) (last : Option PesUnit) → AreSplit all packets last → AreAll packets last all
all_video packets all None split = (split.none refl, split.packets ∙ append-nil packets ∙ split.none refl)
all_video packets all (Some last) split = split.packets

-- ---- what refuses it

not_memory : {P : Type 0} (kind : SourceKind) (at : ℕ) → (Refused kind at ≡ OutOfMemory) ⊎ P → P
not_memory kind at (inl memory) = absurd cc
not_memory kind at (inr is) = is

-- whatever packets follow
pub take_refused : (packets : List PesUnit) (packet : PesUnit) (fault : ProgramFault) → (fault ≡ OutOfMemory) ⊎ IsFaultBefore packets packet fault
    → IsRefusal (λ (found : ProgramFault). (next : PesUnit) (more : List PesUnit) → RefusesVideo (packets ++ packet ∷ next ∷ more) found) (as_walk_fault fault)
take_refused packets packet OutOfMemory is = tt
take_refused packets packet (Refused kind at) is = λ next more demuxed same.
    let found = not_memory kind at is next more in
    IsDemuxedRefused.bad_packet found.0 (subst (λ (ps : List PesUnit). IsPacketFault true ps found.0) (sym same) found.1) found.2

-- behind the last one
pub end_refused : (all : List PesUnit) (fault : ProgramFault) → ((demuxed : Demuxed) → demuxed.video ≡ all → (fault ≡ OutOfMemory) ⊎ IsDemuxedRefused demuxed fault)
    → IsRefusal (RefusesVideo all) (as_walk_fault fault)
end_refused all OutOfMemory is = tt
end_refused all (Refused kind at) is = λ demuxed same. not_memory kind at (is demuxed same)

-- ---- what a pass says

pub read_whole : (left after : Option (List ℕ)) (most most_after : ℕ) (held pids : List ℕ) (given wanted : SizesWanted) (video : WalkedVideo) → given ≡ wanted
    → IsWhole left after most most_after held (λ file. IsOfStream file pids 0 (ReadsVideo given) video)
    → IsWhole left after most most_after held (λ file. IsVideoRead file pids wanted video)
read_whole left after most most_after held pids given wanted video same is = record {
  seen = is.seen;
  passes = is.passes;
  end = is.end;
  whole = subst (λ (w : SizesWanted). IsVideoRead (is.seen ++ held) pids w video) same
      (record { packets = is.whole.packets; sound_video = is.whole.sound_stream; walked = is.whole.said.walked; sized = is.whole.said.sized; bytes = is.whole.said.bytes });
}

over_limit : (file pids : List ℕ) → IsOverLimit file pids 0 → IsVideoRefused file pids (Refused kinds.ProgramLimit 0)
over_limit file pids (IsOverLimit.long more) = IsVideoRefused.long more refl
over_limit file pids (IsOverLimit.many_packets packets sound has short many) = IsVideoRefused.many_packets packets sound has short many refl

pub as_refused : (left after : Option (List ℕ)) (most most_after : ℕ) (held pids : List ℕ) (fault : StreamReadFault PassFault ProgramFault)
    → IsPassRefused left after most most_after held pids 0 RefusesVideo fault → IsReadRefused left after most most_after held pids (as_read_fault fault)
as_refused left after most most_after held pids (stream_faults.Passing (passes.Outside fault)) is = tt
as_refused left after most most_after held pids (stream_faults.Passing (passes.Refused fault)) is = is
as_refused left after most most_after held pids stream_faults.Limit is =
    inr (whole_on left after most most_after held (λ file. IsOverLimit file pids 0) (λ file. IsVideoRefused file pids (Refused kinds.ProgramLimit 0)) (λ file over. over_limit file pids over) is)
as_refused left after most most_after held pids (stream_faults.Refused fault) is =
    inr (whole_on left after most most_after held (λ file. IsOfStream file pids 0 RefusesVideo fault) (λ file. IsVideoRefused file pids fault)
    (λ file of. IsVideoRefused.taken_out of.packets of.sound_stream of.said) is)
as_refused left after most most_after held pids stream_faults.OutOfMemory is = inl refl

-- ---- its causes

error_is : {T E : Type 0} (result : Result T E) (one other : E) → result ≡ Err one → result ≡ Err other → one ≡ other
error_is result one other is also = let same : Err one ≡ Err other = sym is ∙ also in cc

-- a fault of the source is told as it is
as_passing : (fault : StreamReadFault PassFault ProgramFault) (found : PassFault) → as_read_fault fault ≡ faults.Passing found → fault ≡ stream_faults.Passing found
as_passing (stream_faults.Passing fault) found same = cc
as_passing stream_faults.Limit found same = absurd cc
as_passing (stream_faults.Refused fault) found same = absurd cc
as_passing stream_faults.OutOfMemory found same = absurd cc

pub causes_as : {S : Type 0} (failures absences : S → ℕ) (old new : S) (passed : Result WalkedVideo (StreamReadFault PassFault ProgramFault)) (fault : StreamReadFault PassFault ProgramFault) (said : ReadFault)
    → passed ≡ Err fault → said ≡ as_read_fault fault
    → SourceCauses failures absences (IsErrOf passed (stream_faults.Passing (passes.Outside Failed))) (IsErrOf passed (stream_faults.Passing (passes.Outside Missing))) old new
    → SourceCauses failures absences (IsErrOf {T = WalkedVideo} (Err said) (faults.Passing (passes.Outside Failed))) (IsErrOf {T = WalkedVideo} (Err said) (faults.Passing (passes.Outside Missing))) old new
causes_as failures absences old new passed fault said passed_is said_is causes = record {
  failed_rose = λ bad. causes.failed_rose (told (passes.Outside Failed) bad);
  missing_rose = λ bad. causes.missing_rose (told (passes.Outside Missing) bad);
  faults_grow = causes.faults_grow;
  absences_grow = causes.absences_grow;
}
  where
    told : (found : PassFault) → IsErrOf {T = WalkedVideo} (Err said) (faults.Passing found) → IsErrOf passed (stream_faults.Passing found)
    told found bad = subst (λ (f : StreamReadFault PassFault ProgramFault). passed ≡ Err f)
        (as_passing fault found (sym said_is ∙ error_is {T = WalkedVideo} (Err said) said (faults.Passing found) refl bad)) passed_is
