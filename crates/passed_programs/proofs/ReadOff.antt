-- A program of streams that were read as they passed, by the program of the streams that are held whole.
use Rattle.std.proofs.Common.{◌≡◌, ℕ, ◌+◌, ◌<◌, ◌≤◌, true, List, length, map, All, refl, sym, ap₂, ◌∙◌, subst, arith, ℤ}
use Rattle.std.specs.List.{AllZip, sum_by}
use Rattle.ts_demux.specs.declared.demuxed.Demuxed.{Demuxed}
use Rattle.elementary_streams.specs.declared.audio_stream.ReadStream.{ReadStream}
use Rattle.elementary_streams.specs.NearTimes.{IsNear, IsTime}
use Rattle.elementary_streams.specs.Packets.{packets_dropped, taken}
use Rattle.elementary_streams.proofs.StreamLemmas.{bytes_in, placed_count, taken_bytes, taken_count}
use Rattle.program_reader.specs.declared.due.DueClock.{DueClock}
use Rattle.program_reader.specs.declared.kept_units.KeptUnit.{KeptUnit}
use Rattle.program_reader.specs.declared.program.AudioPiece.{AudioPiece}
use Rattle.program_reader.specs.declared.program.UnitSource.{UnitSource}
use Rattle.program_reader.specs.declared.video_stream.ReadVideo.{ReadVideo}
use Rattle.program_reader.specs.declared.video_walk.WalkedVideo.{WalkedVideo}
use Rattle.program_reader.specs.Programs.{IsBase, all_packets_dropped, video_bytes, video_packets}
use Rattle.program_reader.specs.VideoWalk.{AreFew, IsVideoWalked}
use Rattle.program_reader.specs.Dues.{AreDueUnits, frame_times, Lowers}
use Rattle.program_reader.specs.Private.Sources.{IsVideoRead}
use Rattle.program_reader.proofs.ProgramLemmas.{IsClockOf, clock_of, program_is, streams_dropped, video_dropped}
use Rattle.passed_programs.proofs.TakenVideo.{joined_few}
use Rattle.passed_programs.specs.declared.due_program.FoundMap.{FoundMap}
use Rattle.passed_programs.specs.PassedProgram.{AreRead, IsPassed}
use Rattle.passed_programs.specs.Private.PassedAudios.{IsCutUp}
use Rattle.passed_programs.proofs.CutUp.{are_sources, pieces_of, sources_of, streams_read}

-- ---- the video

-- its bytes and PES packets have room in memory
pub record HasRoom (demuxed : Demuxed) : Type 0 where
  pub bytes : length (video_bytes demuxed) < 9223372036854775808
  pub packets : length (video_packets demuxed) < 9223372036854775808
  pub bytes_all : length (video_bytes demuxed) ≤ length (video_bytes demuxed)
  pub packets_all : length (video_packets demuxed) ≤ length (video_packets demuxed)

pub has_room : (demuxed : Demuxed) → length demuxed.video ≤ 4000000 → bytes_in demuxed.video ≤ 1099511627776 → HasRoom demuxed
has_room demuxed few small = record {
  bytes = omega (arith, taken_bytes true demuxed.video, small);
  packets = omega (arith, placed_count 0 (taken true demuxed.video), taken_count true demuxed.video, few);
  bytes_all = omega arith;
  packets_all = omega arith;
}

-- a video that was read as it passed, with its bytes
abbrev pub with_bytes : (demuxed : Demuxed) → HasRoom demuxed → WalkedVideo → ReadVideo
with_bytes demuxed room video = record {
  taken = record {
    payload = record {
      ptr = video.units.ptr;
      len = length (video_bytes demuxed);
      cap = length (video_bytes demuxed);
      alloc = video.units.alloc;
      items = video_bytes demuxed;
      ok = (refl, room.bytes_all);
      small = room.bytes;
    };
    packets = record {
      ptr = video.units.ptr;
      len = length (video_packets demuxed);
      cap = length (video_packets demuxed);
      alloc = video.units.alloc;
      items = video_packets demuxed;
      ok = (refl, room.packets_all);
      small = room.packets;
    };
    dropped = packets_dropped true demuxed.video;
  };
  units = video.units;
  first = video.first;
  units_dropped = video.units_dropped;
}

-- what is read of a file has it
pub room_of : (demuxed : Demuxed) (found : FoundMap) (video : WalkedVideo) (streams : List ReadStream) → AreRead demuxed found video streams → HasRoom demuxed
room_of demuxed found video streams are = has_room demuxed are.packets_few.0 are.video_few

pub few_of : (demuxed : Demuxed) (found : FoundMap) (video : WalkedVideo) (streams : List ReadStream) → AreRead demuxed found video streams → AreFew demuxed.video
few_of demuxed found video streams are = record { packets_few = are.packets_few.0; bytes_few = omega (arith, are.video_few, joined_few demuxed.video) }

-- its times are near
abbrev pub HasNearTimes : WalkedVideo → Type 0
HasNearTimes video = IsNear 0 video.first.stated × All (λ unit. IsTime unit.ticks) video.units.items

pub video_read : (demuxed : Demuxed) (room : HasRoom demuxed) (video : WalkedVideo) → IsVideoWalked demuxed video → HasNearTimes video → IsVideoRead demuxed (with_bytes demuxed room video)
video_read demuxed room video is near = record {
  taken_are = record { sound = is.has_pictures.has_units.sound; holds = record { payload = refl; placed = refl }; dropped = refl };
  kept = is.kept;
  pictures = is.pictures;
  has_pictures = is.has_pictures;
  rows = is.rows;
  near = near.0;
  ticks = near.1;
}

pub dropped_most : (demuxed : Demuxed) (room : HasRoom demuxed) (video : WalkedVideo) → IsVideoWalked demuxed video → HasNearTimes video → video.pes_dropped ≤ 1
dropped_most demuxed room video is near =
    let most : packets_dropped true demuxed.video ≤ 1 = video_dropped demuxed.video (with_bytes demuxed room video).taken (video_read demuxed room video is near).taken_are in
    omega (arith, is.pes_dropped_is, most)

-- ---- the earliest time

pub clock_is : (demuxed : Demuxed) (room : HasRoom demuxed) (found : FoundMap) (video : WalkedVideo) (streams : List ReadStream) (units : List KeptUnit) (begun middle earliest last : ℤ) → AreRead demuxed found video streams →
    HasNearTimes video → units ≡ video.units.items → begun ≡ video.first.ticks → Lowers (map (λ unit. unit.ticks) units) begun middle → Lowers (frame_times streams) middle earliest →
    last ≡ earliest → IsClockOf demuxed (with_bytes demuxed room video) streams last
clock_is demuxed room found video streams units begun middle earliest last are near units_are begun_is one two last_is =
    subst (IsClockOf demuxed (with_bytes demuxed room video) streams) (sym last_is)
    (clock_of demuxed (with_bytes demuxed room video) streams units begun middle earliest units_are begun_is (video_read demuxed room video are.video_read near)
    (streams_read video.first.stated demuxed.audios streams are.audios_read) one two)

-- ---- the program

pub passed_is : (start : ℕ) (demuxed : Demuxed) (room : HasRoom demuxed) (found : FoundMap) (video : WalkedVideo) (streams : List ReadStream) (clock : DueClock) (rows : List KeptUnit) (base : ℕ) (units : List UnitSource)
    (audios : List (List AudioPiece)) (dropped : ℕ) → AreRead demuxed found video streams → HasNearTimes video → IsClockOf demuxed (with_bytes demuxed room video) streams clock.earliest →
    clock.start ≡ start → IsBase clock.start clock.earliest base → rows ≡ video.units.items → AreDueUnits clock.start clock.earliest rows units →
    AllZip (IsCutUp clock.start clock.earliest) streams audios → dropped ≡ sum_by (λ one. one.dropped) streams → IsPassed start demuxed (record {
      map = found.map;
      base = base;
      vbv = video.first.seq.vbv;
      units = units;
      audios = audios;
      units_dropped = video.units_dropped;
      pes_dropped = video.pes_dropped + dropped;
      rest = found.rest;
      not_carried = found.not_carried;
    })
passed_is start demuxed room found video streams clock rows base units audios dropped are near times start_is base_is rows_are due cut sum =
    let first = video.first.stated in
    let all = streams_read first demuxed.audios streams are.audios_read in
    let count : video.pes_dropped + dropped ≡ all_packets_dropped demuxed =
    ap₂ (λ (m n : ℕ). m + n) are.video_read.pes_dropped_is (sum ∙ (streams_dropped first demuxed.audios streams all).2) in record {
      program = record {
        map = demuxed.map;
        base = base;
        vbv = video.first.seq.vbv;
        video = video_bytes demuxed;
        units = units;
        audios = sources_of demuxed.audios audios;
        units_dropped = video.units_dropped;
        pes_dropped = video.pes_dropped + dropped;
        rest = demuxed.rest;
        not_carried = demuxed.not_carried;
      };
      program_is = program_is start demuxed (with_bytes demuxed room video) streams clock rows demuxed.audios base (video_bytes demuxed) units (sources_of demuxed.audios audios)
          (video.pes_dropped + dropped) (video_read demuxed room video are.video_read near) all times start_is are.units_few base_is refl rows_are due refl
          (are_sources clock.start first clock.earliest demuxed.audios streams audios all cut);
      pes_dropped_is = count;
      read_off = record {
        map_is = sym are.map_is;
        base_is = refl;
        vbv_is = refl;
        units_are = refl;
        audios_are = pieces_of clock.start first clock.earliest demuxed.audios streams audios all cut;
        units_dropped_is = refl;
        pes_dropped_is = refl;
        rest_is = sym are.rest_is;
        not_carried_are = sym are.not_carried_are;
      };
    }
