-- How many times are stated of units, one behind the other.
use Rattle.std.proofs.Common.{◌≡◌, ℕ, ◌+◌, ◌≤◌, List, [], ◌∷◌, length, Option, Some, None, refl, sym, ap, subst, inl, inr, arith}
use Rattle.std.proofs.lemmas.Bool.{cases_eq, cases_lt}
use Rattle.pes_units.specs.declared.times.Times.{Times}
use Rattle.pes_units.specs.Times.{decoding_time}
use Rattle.es_units.specs.Pictures.{begins_picture, first_picture}
use Rattle.ts_demux.specs.declared.demuxed.PesUnit.{PesUnit}
use Rattle.elementary_streams.specs.declared.pes_packets.PlacedPacket.{PlacedPacket}
use Rattle.program_reader.specs.declared.picture_times.StampedPicture.{StampedPicture}
use Rattle.elementary_streams.specs.Packets.{joined, placed_from}
use Rattle.program_reader.specs.PictureTimes.{no_times, times_of_unit}
use Rattle.program_reader.specs.Private.StampedPictures.{stamps_of, LeavesFrom, TellTimes, IsCounted}
use Rattle.program_reader.proofs.KeepLemmas.{IsStep, stamps_few}
use Rattle.program_reader.proofs.StampLemmas.{LooksUp, leaves_here, leaves_more, leaves_none, look_here, look_none, look_past, stamps_rise, tells_later, tells_more, tells_none, tells_unit, times_stamped, within}

-- a look-up of the stamp at a place
record Looked (at : ℕ) (all : List StampedPicture) : Type 0 where
  pub left : List StampedPicture
  pub times : Times
  pub looks : LooksUp at all left times

look : (at : ℕ) (all left : List StampedPicture) → LeavesFrom at all left → Looked at all
look at all [] leaves = record { left = []; times = no_times; looks = look_none at all [] tt (leaves_none at all [] refl leaves) }
look at all (s ∷ ss) leaves = elim (cases_lt s.at at) [
  | inl before ↦ look at all ss (leaves_more at all (s ∷ ss) ss s refl before leaves)
  | inr here ↦ elim (cases_eq s.at at) [
    | inl same ↦ record { left = ss; times = s.times; looks = look_here at all (s ∷ ss) ss s refl same (leaves_here at all (s ∷ ss) ss s refl here leaves) }
    | inr apart ↦ record { left = s ∷ ss; times = no_times; looks = look_past at all (s ∷ ss) ss s refl apart (leaves_here at all (s ∷ ss) ss s refl here leaves) }
  ]
]

-- stamps that tell times behind a unit, fewer where one tells its own
record LeftBehind (es : List ℕ) (packets : List PlacedPacket) (begin end : ℕ) (stamps : List StampedPicture) : Type 0 where
  pub left : List StampedPicture
  pub tells : TellTimes es packets end left
  pub counted : IsCounted stamps left (times_of_unit es packets (begin, end))

left_behind : (es : List ℕ) (packets : List PlacedPacket) (begin end : ℕ) (stamps : List StampedPicture) → begin ≤ end → TellTimes es packets begin stamps
    → LeftBehind es packets begin end stamps
left_behind es packets begin end stamps order tell = by_first (first_picture es begin end) refl
  where
    by_first : (first : Option ℕ) → first_picture es begin end ≡ first → LeftBehind es packets begin end stamps
    by_first None is = record {
      left = stamps;
      tells = tells_later es packets begin end stamps order tell;
      counted = inr (sym (tells_none es packets begin end is), omega arith);
    }
    by_first (Some at) is =
        let bounds = within (begins_picture es) begin end at order is in
        let all : LeavesFrom at stamps stamps = record { same = λ place le. refl; rising = tell.rising; fewer = omega arith } in
        let looked = look at stamps stamps all in
        let own : looked.times ≡ times_of_unit es packets (begin, end) = tells_unit es packets begin end at stamps looked.times is bounds.0 tell looked.looks.times_are in record {
          left = looked.left;
          tells = tells_more es packets begin end at stamps looked.left order bounds.0 bounds.1 tell looked.looks.leaves;
          counted = subst (IsCounted stamps looked.left) own looked.looks.counted;
        }

-- so many times were stated before a place, each by a PES packet of its own that doesn't count behind it
pub record AreStatedTo (count at : ℕ) (es : List ℕ) (packets : List PlacedPacket) : Type 0 where
  pub left : List StampedPicture
  pub tells : TellTimes es packets at left
  pub few : count + length left ≤ length packets

-- how many are stated with one more
abbrev pub count_behind : ℕ → Option ℕ → ℕ
count_behind count None = count
count_behind count (Some value) = count + 1

pub step_is : (count : ℕ) (value : Option ℕ) → IsStep count (count_behind count value) value
step_is count None = omega arith
step_is count (Some value) = omega arith

count_most : (count : ℕ) (value : Option ℕ) → count_behind count value ≤ count + 1
count_most count None = omega arith
count_most count (Some value) = omega arith

-- ---- before and behind a unit

pub stated_none : (packets : List PesUnit) → AreStatedTo 0 0 (joined packets) (placed_from 0 packets)
stated_none packets =
    let es = joined packets in
    let placed = placed_from 0 packets in record {
      left = stamps_of es placed;
      tells = record { same = λ place le. sym (times_stamped es placed place); rising = stamps_rise es 0 packets };
      few = omega (arith, stamps_few es placed);
    }

pub stated_more : (count from begin end : ℕ) (es : List ℕ) (packets : List PlacedPacket) (times : Times) → from ≤ begin → begin ≤ end
    → times ≡ times_of_unit es packets (begin, end) → AreStatedTo count from es packets → AreStatedTo (count_behind count (decoding_time times)) end es packets
stated_more count from begin end es packets times le order times_are before =
    let behind = left_behind es packets begin end before.left order (tells_later es packets from begin before.left le before.tells) in
    record { left = behind.left; tells = behind.tells; few = by_count behind.left (subst (IsCounted before.left behind.left) (sym times_are) behind.counted) }
  where
    by_count : (left : List StampedPicture) → IsCounted before.left left times → count_behind count (decoding_time times) + length left ≤ length packets
    by_count left (inl less) = omega (arith, less, count_most count (decoding_time times), before.few)
    by_count left (inr none) =
        let same : count_behind count (decoding_time times) ≡ count = ap (λ (t : Times). count_behind count (decoding_time t)) none.0 in
        omega (arith, same, none.1, before.few)
