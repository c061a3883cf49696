-- The streams of a file of either form have no more bytes than a file may have.
use Rattle.std.proofs.Common.{ℕ, ◌≤◌, List, length, All, arith}
use Rattle.std.specs.List.{sum_by}
use Rattle.ts_demux.specs.declared.demuxed.AudioStream.{AudioStream}
use Rattle.ts_demux.specs.declared.demuxed.Demuxed.{Demuxed}
use Rattle.ts_demux.specs.declared.demuxed.PesUnit.{PesUnit}
use Rattle.ts_demux.specs.Demux.{IsDemuxed}
use Rattle.program_stream.specs.Split.{IsSplit}
use Rattle.job_report.specs.declared.job.Form.{Form}
use Rattle.program_reader.specs.Programs.{StandIn, in_packets, in_elements}

-- ---- the laws of transport streams and of program streams

-- what holds of all that is taken out of a transport stream
abbrev InPackets : (List ℕ → Demuxed → Type 0) → Type 0
InPackets holds = (file : List ℕ) (number : ℕ) (drop : List ℕ) (demuxed : Demuxed) → IsDemuxed file number drop demuxed → holds file demuxed

-- what holds of all that is taken out of a program stream
abbrev InElements : (List ℕ → Demuxed → Type 0) → Type 0
InElements holds = (file drop : List ℕ) (demuxed : Demuxed) (cut : ℕ) → IsSplit file drop demuxed cut → holds file demuxed

abbrev pub CutWithin : Type 0
CutWithin = (file drop : List ℕ) (demuxed : Demuxed) (cut : ℕ) → IsSplit file drop demuxed cut → cut ≤ 1

abbrev IsVideoWithin : List ℕ → Demuxed → Type 0
IsVideoWithin file demuxed = sum_by (λ packet. length packet.bytes) demuxed.video ≤ length file

abbrev AreAudiosWithin : List ℕ → Demuxed → Type 0
AreAudiosWithin file demuxed = All (λ (stream : AudioStream). sum_by (λ packet. length packet.bytes) stream.units ≤ length file) demuxed.audios

abbrev AreFewAudios : List ℕ → Demuxed → Type 0
AreFewAudios file demuxed = length demuxed.audios ≤ 8

-- ---- the streams of a file of either form

abbrev pub IsSmall : List PesUnit → Type 0
IsSmall units = sum_by (λ packet. length packet.bytes) units ≤ 1099511627776

module _ (form : Form) (file : List ℕ) (number : ℕ) (drop : List ℕ) (found : Demuxed) (cut : ℕ) where
  pub video_small : InPackets IsVideoWithin → InElements IsVideoWithin → length file ≤ 1099511627776 → StandIn form file number drop found cut → IsSmall found.video
  video_small packets elements within (in_packets ts is none) = omega (arith, packets file number drop found is, within)
  video_small packets elements within (in_elements ps one is) = omega (arith, elements file drop found cut is, within)

  pub audios_are_small : InPackets AreAudiosWithin → InElements AreAudiosWithin → length file ≤ 1099511627776 → StandIn form file number drop found cut
      → All (λ (stream : AudioStream). IsSmall stream.units) found.audios
  audios_are_small packets elements within (in_packets ts is none) = λ k d lt. (let small = packets file number drop found is k d lt in omega (arith, small, within))
  audios_are_small packets elements within (in_elements ps one is) = λ k d lt. (let small = elements file drop found cut is k d lt in omega (arith, small, within))

  pub few_audios : InPackets AreFewAudios → InElements AreFewAudios → StandIn form file number drop found cut → length found.audios ≤ 8
  few_audios packets elements (in_packets ts is none) = packets file number drop found is
  few_audios packets elements (in_elements ps one is) = elements file drop found cut is

  pub one_cut : CutWithin → StandIn form file number drop found cut → cut ≤ 1
  one_cut elements (in_packets ts is none) = omega (arith, none)
  one_cut elements (in_elements ps one is) = elements file drop found cut is
