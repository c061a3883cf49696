-- How the units of a stream begin, as an audit is handed them: with the time that the first picture states, at the tick at which it is decoded.
use Rattle.std.proofs.Common.{◌≡◌, ℕ, ◌+◌, ◌*◌, ◌/◌, ◌%◌, ◌<◌, List, [], ◌∷◌, map, take, Option, subst, ap, ◌∙◌, arith, ℤ, pos, negsuc, ◌+ℤ◌, ◌-ℤ◌, ◌*ℤ◌}
use Rattle.std.specs.List.{sum_by}
use Rattle.std.proofs.lemmas.Int.{ints}
use Rattle.std.proofs.lemmas.List.Sums.{sum_by-cons}
use Rattle.tstd_model.specs.declared.decoder_input.Removal.{Removal}
use Rattle.ts_demux.specs.declared.demuxed.PesUnit.{PesUnit}
use Rattle.elementary_streams.proofs.TimeRange.{IsInRange, decoding_in_range}
use Rattle.stream_audit.specs.declared.kept_units.KeptUnits.{KeptUnits}
use Rattle.stream_audit.specs.Clock.{shift}
use Rattle.time_laws.specs.Clock.{IsFirstShown}
use Rattle.time_laws.specs.Video.{AreDecoded, BeginAt, DecodedPicture, IsDecodedWhen}
use Rattle.audit_laws.specs.Kept.{AreOwnUnits, IsBegun}
use Rattle.audit_laws.proofs.Video.{shift-is}

-- a number that is another one, less than a round, and some rounds
by-rounds : (n small : ℕ) (turns : ℤ) → pos n ≡ (pos (300 * small) +ℤ turns *ℤ pos 2576980377600) → small < 8589934592 → n % 2576980377600 / 300 ≡ small
by-rounds n small (pos rounds) is less =
    let whole : n ≡ 300 * small + rounds * 2576980377600 = omega (arith, ints, is) in
    omega (arith, whole, less)
by-rounds n small (negsuc rounds) is less = absurd (omega (arith, ints, is, less))

-- one tick shows two times that are some rounds apart
apart : (shown due begin : ℕ) (turns rounds : ℤ) → pos shown ≡ (pos due +ℤ turns *ℤ pos 2576980377600) → pos shown ≡ (pos (300 * begin) +ℤ rounds *ℤ pos 2576980377600)
    → pos due ≡ (pos (300 * begin) +ℤ (rounds -ℤ turns) *ℤ pos 2576980377600)
apart shown due begin turns rounds is also = omega (arith, ints, is, also)

first-own : (clock base : ℕ) (units : List Removal) (packets : List PesUnit) (first : DecodedPicture) (later : List DecodedPicture) (begin : ℕ) → clock < 2576980377600
    → AreOwnUnits clock base units packets (map (λ (picture : DecodedPicture). picture.at) (first ∷ later)) → AreDecoded clock [] packets (first ∷ later) → BeginAt begin packets
    → ((base + sum_by (λ (unit : Removal). unit.due) (take 1 units)) % 2576980377600 / 300 ≡ begin) × ((pos (sum_by (λ (unit : Removal). unit.due) (take 1 units)) +ℤ shift clock base) ≡ pos first.at)
first-own clock base [] [] first later begin below own decoded begins = absurd own
first-own clock base [] (p ∷ ps) first later begin below own decoded begins = absurd own
first-own clock base (u ∷ us) [] first later begin below own decoded begins = absurd own
first-own clock base (u ∷ us) (p ∷ ps) first later begin below own decoded begins =
    let due : sum_by (λ (unit : Removal). unit.due) (take 1 (u ∷ us)) ≡ u.due = omega (arith, sum_by-cons (λ (unit : Removal). unit.due) u []) in
    let small : begin < 8589934592 = subst IsInRange begins (decoding_in_range p.bytes) in
    let when : IsFirstShown clock (pos (300 * begin)) first.at = subst (λ (stated : Option ℕ). IsDecodedWhen clock [] stated first.at) begins decoded.0.when in
    let shown : IsFirstShown clock (pos (base + u.due)) first.at = own.0.when in (
      ap (λ (n : ℕ). (base + n) % 2576980377600 / 300) due
          ∙ by-rounds (base + u.due) begin (when.shown.0 -ℤ shown.shown.0) (apart (clock + first.at) (base + u.due) begin shown.shown.0 when.shown.0 shown.shown.1 when.shown.1) small,
      ap (λ (n : ℕ). pos n +ℤ shift clock base) due ∙ shift-is clock base u.due first.at below own.0.not_later own.0.not_earlier shown,
    )

pub begun : (clock : ℕ) (kept : KeptUnits) (packets : List PesUnit) (first : DecodedPicture) (later : List DecodedPicture) (begin : ℕ) → clock < 2576980377600
    → AreOwnUnits clock kept.base kept.units packets (map (λ (picture : DecodedPicture). picture.at) (first ∷ later)) → AreDecoded clock [] packets (first ∷ later) → BeginAt begin packets
    → IsBegun clock kept begin first.at
begun clock kept packets first later begin below own decoded begins =
    let is = first-own clock kept.base kept.units packets first later begin below own decoded begins in record { stated = is.0; removed = is.1 }
