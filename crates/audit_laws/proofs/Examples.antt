-- Worked examples of units that are a stream's own.
use Rattle.std.proofs.Common.{◌≡◌, ◌+◌, [], ◌∷◌, Some, refl, arith, pos}
use Rattle.bit_lists.specs.Fields.{bit, bits}
use Rattle.ts_demux.specs.declared.demuxed.PesUnit.{PesUnit}
use Rattle.stream_audit.specs.declared.finding.FaultName.TheVariants.{Full, Late}
use Rattle.stream_audit.specs.Removals.{removed_at}
use Rattle.time_laws.specs.Clock.{IsFirstShown}
use Rattle.audit_laws.specs.Found.{IsFullAtMost}
use Rattle.audit_laws.specs.Kept.{AreOwnUnits, IsBegun}

-- a PES packet with a header of nine bytes and two bytes behind it
abbrev packet : PesUnit
packet = record { at = 0; bytes = 0 ∷ 0 ∷ 1 ∷ 0xE0 ∷ 0 ∷ 5 ∷ 0x80 ∷ 0 ∷ 0 ∷ 7 ∷ 8 ∷ [] }

-- a clock that shows 100 at the first byte shows 1,000 + 500 after 1,400 ticks
shown : IsFirstShown 100 (pos (1000 + 500)) 1400
shown = record { first = omega arith; shown = (pos 0, refl) }

-- a unit of those two bytes that is due at 500 behind a base of 1,000
unit : AreOwnUnits 100 1000 (record { due = 500; bytes = 2 } ∷ []) (packet ∷ []) (1400 ∷ [])
unfolding bit bits
unit = (record { bytes = refl; when = shown; not_later = omega arith; not_earlier = omega arith }, tt)

-- an audit removes it 1,400 ticks behind the first byte
removed : removed_at 100 1000 (pos 500) ≡ 1400
removed = refl

-- so such units begin, with five units of 1/90,000 s
begins : IsBegun 100 (record { base = 1000; vbv = 112; units = record { due = 500; bytes = 2 } ∷ [] }) 5 1400
begins = record { stated = refl; removed = refl }

-- with no unit for the packet they are no such units
none : AreOwnUnits 100 1000 [] (packet ∷ []) (1400 ∷ []) → ⊥
none are = are

-- a transport buffer that isn't empty may be found, a late unit may not
full : IsFullAtMost (Some (record { pid = 257; fault = Full; at = 25380000000 }))
full = refl

late : IsFullAtMost (Some (record { pid = 257; fault = Late; at = 0 })) → ⊥
late same = cc
