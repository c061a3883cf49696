-- A video that was read as its program stream passed, and what is taken out of that file at once.
use Rattle.std.proofs.Common.{◌≡◌, ℕ, ◌<◌, ◌≤◌, List, length, slice_get, All, Some, inl, inr, refl, sym, ap, ◌∙◌, subst, arith}
use Rattle.psi_tables.specs.Pmt.{pids_of}
use Rattle.ts_demux.specs.declared.demuxed.AudioStream.{AudioStream}
use Rattle.ts_demux.specs.declared.demuxed.Demuxed.{Demuxed}
use Rattle.ts_demux.specs.declared.demuxed.PesUnit.{PesUnit}
use Rattle.program_stream.specs.declared.split_fault.SplitFault.{SplitFault}
use Rattle.program_stream.specs.Split.{IsSplit, IsSplitRefused}
use Rattle.job_report.specs.declared.job.Form.TheVariants.{Ps}
use Rattle.program_reader.specs.declared.limits.TheConstants.{FILE_BYTES_MOST, PES_PACKETS_MOST}
use Rattle.program_reader.specs.declared.program_fault.ProgramFault.{ProgramFault}
use Rattle.program_reader.specs.declared.program_fault.ProgramFault.TheVariants.{Refused}
use Rattle.program_reader.specs.declared.program_fault.SourceKind.TheVariants as kinds
use Rattle.program_reader.specs.declared.unit_sizes.SizesWanted.{SizesWanted}
use Rattle.program_reader.specs.declared.video_walk.WalkedVideo.{WalkedVideo}
use Rattle.program_reader.specs.AudioTypes.{typed}
use Rattle.program_reader.specs.Faults.{of_split}
use Rattle.program_reader.specs.Programs.{AreStreamsRefused, HasOtherNumber, IsProgramRefused, IsTakenOut, StandIn}
use Rattle.program_reader.specs.VideoWalk.{IsVideoWalked}
use Rattle.stream_pass.specs.PassedElements.{AreElementsRefused, HasIdPackets, IsOfId, IsOverIdLimit}
use Rattle.stream_pass.proofs.Split.{id_video_is}
use Rattle.passed_programs.specs.VideoPackets.{ReadsVideo, RefusesVideo}

module _ (file drop : List ℕ) (found : Demuxed) (cut id : ℕ) (is : IsSplit file drop found cut) (first : slice_get (pids_of found.map) 0 ≡ Some id) where
  packets_are : (packets : List PesUnit) → HasIdPackets file id packets → found.video ≡ packets
  packets_are packets has = id_video_is file drop found cut packets is id first has

  -- ---- its video

  pub split_video : (wanted : SizesWanted) (video : WalkedVideo) → IsOfId file id (ReadsVideo wanted) video → IsVideoWalked found video × IsVideoWalked (typed Ps found) video
  split_video wanted video of =
      let same = packets_are of.packets of.sound_stream.has in (of.said.walked found same, of.said.walked (typed Ps found) same)

  pub split_same : {A : Type 0} → (says : List PesUnit → A → Type 0) (answer : A) (of : IsOfId file id says answer) → found.video ≡ of.packets
  split_same says answer of = packets_are of.packets of.sound_stream.has

  pub split_few : (wanted : SizesWanted) (video : WalkedVideo) → IsOfId file id (ReadsVideo wanted) video → (length file ≤ FILE_BYTES_MOST) × (length found.video ≤ PES_PACKETS_MOST)
  split_few wanted video of =
      (of.sound_stream.short, omega (arith, ap (λ (ps : List PesUnit). length ps) (packets_are of.packets of.sound_stream.has), of.sound_stream.few))

  -- ---- what it is refused for

  taken_out : IsTakenOut Ps file 1 drop (typed Ps found)
  taken_out = record { found = found; cut = cut; stand = StandIn.in_elements refl refl is; typed_is = refl }

  pub split_limit : IsOverIdLimit file id → IsProgramRefused Ps file 1 drop (Refused kinds.ProgramLimit 0)
  split_limit (IsOverIdLimit.long longer) = IsProgramRefused.long longer refl
  split_limit (IsOverIdLimit.many_packets packets has within many) =
      IsProgramRefused.many_packets (typed Ps found) within taken_out
      (λ has_few. omega (arith, ap (λ (ps : List PesUnit). length ps) (packets_are packets has), many, has_few.0)) refl

  pub split_refused : (fault : ProgramFault) → All (λ (stream : AudioStream). length stream.units ≤ PES_PACKETS_MOST) found.audios → IsOfId file id RefusesVideo fault
      → IsProgramRefused Ps file 1 drop fault
  split_refused fault few of =
      let same = packets_are of.packets of.sound_stream.has in
      let own_few : length found.video ≤ PES_PACKETS_MOST = omega (arith, ap (λ (ps : List PesUnit). length ps) same, of.sound_stream.few) in
      IsProgramRefused.taken_out (typed Ps found) of.sound_stream.short taken_out (own_few, few) (of.said (typed Ps found) same)

-- what refuses the elements refuses the program
one_program : (file : List ℕ) → HasOtherNumber file 1 → ⊥
one_program file other = other.other refl

split_fault : (file drop : List ℕ) (fault : SplitFault) → AreElementsRefused file fault → IsSplitRefused file drop fault
split_fault file drop fault (inl short) = IsSplitRefused.short_file short.0 short.1
split_fault file drop fault (inr element) = IsSplitRefused.element element.0 element.1

pub elements_refused : (file drop : List ℕ) (fault : SplitFault) → length file ≤ FILE_BYTES_MOST → AreElementsRefused file fault → IsProgramRefused Ps file 1 drop (of_split fault)
elements_refused file drop fault within refused =
    IsProgramRefused.streams within (AreStreamsRefused.of_elements fault refl (one_program file) (split_fault file drop fault refused) refl)
