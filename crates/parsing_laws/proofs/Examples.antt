-- The definitions of what is read back, at worked examples.
use Rattle.std.proofs.Common.{◌≡◌, ℕ, zero, suc, ◌+◌, ◌<◌, List, [], ◌∷◌, Some, None, refl, arith}
use Rattle.bit_lists.specs.Fields.{bit, bits}
use Rattle.slot_rule.specs.declared.sent.Sent.{Sent}
use Rattle.slot_rule.specs.declared.sent.Sent.TheVariants.{Null, Pat, Pmt, Pcr}
use Rattle.std.specs.Prelude.{slice_get}
use Rattle.parsing_laws.specs.Parsed.{joined_payloads, sent_packet}
use Rattle.parsing_laws.specs.TakenOut.{BeginWithTables}

-- ---- the first slots

abbrev rows : List Sent
rows = Pat ∷ Pmt 0 ∷ Pmt 1 ∷ Pcr 0 ∷ Pcr 1 ∷ Null ∷ []

begins : BeginWithTables 2 rows
begins = record { pat = refl; pmts = each }
  where
    each : (program : ℕ) → program < 2 → slice_get rows (program + 1) ≡ Some (Pmt program)
    each zero within = refl
    each (suc zero) within = refl
    each (suc (suc program)) within = absurd (omega (arith, within))

-- ---- PES packets

-- a picture of four bytes, presented at 90,000: 0, 2 and 24,464 in the three parts of the time, so 21 00 05 BF 21
timed : sent_packet (record { times = record { pts = Some 90000; dts = None }; bytes = 0x00 ∷ 0x00 ∷ 0x01 ∷ 0x00 ∷ [] })
    ≡ 0x00 ∷ 0x00 ∷ 0x01 ∷ 0xE0 ∷ 0x00 ∷ 0x00 ∷ 0x80 ∷ 0x80 ∷ 0x05 ∷ 0x21 ∷ 0x00 ∷ 0x05 ∷ 0xBF ∷ 0x21 ∷ 0x00 ∷ 0x00 ∷ 0x01 ∷ 0x00 ∷ []
timed = refl

-- what stands behind the headers of two packets, the first with a time and the second without
behind_headers : joined_payloads
    ((0x00 ∷ 0x00 ∷ 0x01 ∷ 0xE0 ∷ 0x00 ∷ 0x00 ∷ 0x80 ∷ 0x80 ∷ 0x05 ∷ 0x21 ∷ 0x00 ∷ 0x05 ∷ 0xBF ∷ 0x21 ∷ 0xAA ∷ 0xBB ∷ [])
    ∷ (0x00 ∷ 0x00 ∷ 0x01 ∷ 0xE0 ∷ 0x00 ∷ 0x00 ∷ 0x80 ∷ 0x00 ∷ 0x00 ∷ 0xCC ∷ []) ∷ [])
    ≡ 0xAA ∷ 0xBB ∷ 0xCC ∷ []
unfolding bit bits
behind_headers = refl
