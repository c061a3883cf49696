-- What a written video PES packet is read as (ISO/IEC 13818-1, 2.4.3.6 and 2.4.3.7).
use Rattle.std.specs.Prelude.{◌≡◌, ℕ, false, true, List, None, drop}
use Rattle.pes_units.specs.declared.times.Times.{Times}
use Rattle.pes_units.specs.PesHeader.{header_length, pes_fields_of}
use Rattle.pes_units.specs.PesPackets.{is_dropped, packet_refusal, last_refusal}
use Rattle.pes_units.specs.VideoHeader.{written_fields}
use Rattle.pes_units.specs.Times.{decoding_time}

-- The bytes are read as a video PES packet of these times with this payload, among others and as the last one: nothing refuses
-- or drops it. Both times that it is presented and decoded at are those that were written; a DTS that is the PTS isn't repeated.
pub record IsReadAsVideo (times : Times) (payload bytes : List ℕ) : Type 0 where
  pub sound : packet_refusal true bytes ≡ None
  pub sound_last : last_refusal true bytes ≡ None
  pub kept : is_dropped true bytes ≡ false
  pub header : pes_fields_of bytes ≡ written_fields times
  pub presented : (pes_fields_of bytes).times.pts ≡ times.pts
  pub decoded : decoding_time (pes_fields_of bytes).times ≡ decoding_time times
  pub payload_is : drop (header_length bytes) bytes ≡ payload
