-- The units that an audit is handed are those that a stream itself carries (ISO/IEC 13818-1, 2.4.3.7).
use Rattle.std.specs.Prelude.{◌≡◌, ℕ, ◌+◌, ◌/◌, ◌<◌, List, [], ◌∷◌, length, pos, ◌+ℤ◌}
use Rattle.pcr_writer.specs.declared.pcr.TheConstants.{PCR_MODULUS}
use Rattle.tstd_model.specs.declared.decoder_input.Removal.{Removal}
use Rattle.ts_demux.specs.declared.demuxed.PesUnit.{PesUnit}
use Rattle.elementary_streams.specs.Packets.{pes_payload_of}
use Rattle.stream_audit.specs.declared.kept_units.KeptUnits.{KeptUnits}
use Rattle.stream_audit.specs.Clock.{shift}
use Rattle.stream_audit.specs.Removals.{first_due, first_time}
use Rattle.time_laws.specs.Clock.{IsFirstShown}

-- A unit is the picture of a PES packet, which is decoded so many ticks behind the stream's first byte: it is as long as the packet's payload, and when it is
-- due, the units' base being what the clock shows at a due of 0, the stream's clock shows the time of its decoding. Its due is less than half a round of that
-- clock from those ticks.
pub record IsOwnUnit (clock base : ℕ) (unit : Removal) (packet : PesUnit) (at : ℕ) : Type 0 where
  pub bytes : unit.bytes ≡ length (pes_payload_of packet)
  pub when : IsFirstShown clock (pos (base + unit.due)) at
  pub not_later : unit.due < at + PCR_MODULUS / 2
  pub not_earlier : at < unit.due + PCR_MODULUS / 2

-- units, one for each PES packet and its time
abbrev pub AreOwnUnits : (clock base : ℕ) → List Removal → List PesUnit → List ℕ → Type 0
AreOwnUnits clock base [] [] [] = Unit {0}
AreOwnUnits clock base (unit ∷ units) (packet ∷ packets) (at ∷ times) = IsOwnUnit clock base unit packet at × AreOwnUnits clock base units packets times
AreOwnUnits clock base units packets times = ⊥

-- The units of a stream whose clock shows `clock` at its first byte: those of its video's PES packets, which are decoded at these ticks from there on, for an
-- elementary buffer of this size.
pub record AreKeptOf (clock : ℕ) (packets : List PesUnit) (times : List ℕ) (vbv : ℕ) (kept : KeptUnits) : Type 0 where
  pub units : AreOwnUnits clock kept.base kept.units packets times
  pub buffer : kept.vbv ≡ vbv

-- How units begin in a stream whose clock shows `clock` at its first byte: the first one states this decoding time, in units of 1/90,000 s, and is removed so
-- many ticks behind that byte.
pub record IsBegun (clock : ℕ) (kept : KeptUnits) (begin at : ℕ) : Type 0 where
  pub stated : first_time kept ≡ begin
  pub removed : (pos (first_due kept) +ℤ shift clock kept.base) ≡ pos at
