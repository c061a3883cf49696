use Rattle.std.proofs.Common.{◌≡◌, ◌+◌, ◌-◌, ℕ, List, true, false, take, drop, length-drop, get_or, sym, ap, ◌∙◌, arith}
use Rattle.std.proofs.lemmas.Bool.{le-leb, lt-leb}
use Rattle.std.proofs.lemmas.List.{take_all}
use Rattle.bit_lists.proofs.MaskLemmas.{and_32}
use Rattle.ts_packets.specs.AdaptationField.{field_of, is_too_short}
use Rattle.ts_packets.specs.Packet.{adaptation_field_control, adaptation_field_length, has_field}
use Rattle.ts_packets.proofs.Elements.{adaptation_field_control-is, adaptation_field_length-is}
use Rattle.ts_packets.proofs.Refusals.{payload_alone, field_first, field_found}
use Rattle.ts_packets.proofs.packet.field_and_payload.Goals as goal

pub returns-then-bytes-eq0-clause-ok : goal.returns-then-bytes-eq0-clause-ok
returns-then-bytes-eq0-clause-ok c =
    let none : has_field c.args.bytes.now ≡ false = lt-leb 2 (adaptation_field_control c.args.bytes.now)
    (omega (arith, adaptation_field_control-is c.args.bytes.now, and_32 (get_or c.args.bytes.now 3 0), c.if-bytes-eq0.true)) in
    let payload-is = take_all 184 (drop 4 c.args.bytes.now) (omega (arith, length-drop 4 c.args.bytes.now, c.told-bytes)) in
    payload_alone c.args.bytes.now _ none (sym c.is_field_length_allowed.ensures ∙ c.if-not-is_field_length_allowed.false) payload-is

pub returns-clause-ok : goal.returns-clause-ok
returns-clause-ok c =
    let some : has_field c.args.bytes.now ≡ true = le-leb 2 (adaptation_field_control c.args.bytes.now) (grind (arith, adaptation_field_control-is, and_32, c.if-bytes-eq0.false)) in
    let size : adaptation_field_length c.args.bytes.now ≡ get_or c.args.bytes.now 4 0 = omega (arith, adaptation_field_length-is c.args.bytes.now, c.fits-bytes 4) in
    let range : 5 + get_or c.args.bytes.now 4 0 - 5 ≡ get_or c.args.bytes.now 4 0 = omega arith in
    let part : List ℕ = take (5 + get_or c.args.bytes.now 4 0 - 5) (drop 5 c.args.bytes.now) in
    let part-is : part ≡ take (get_or c.args.bytes.now 4 0) (drop 5 c.args.bytes.now) = ap (λ (k : ℕ). take k (drop 5 c.args.bytes.now)) range in
    let payload-is = take_all (188 - (5 + get_or c.args.bytes.now 4 0)) (drop (5 + get_or c.args.bytes.now 4 0) c.args.bytes.now)
    (omega (arith, length-drop (5 + get_or c.args.bytes.now 4 0) c.args.bytes.now, c.told-bytes)) in
    field_first c.args.bytes.now (get_or c.args.bytes.now 4 0) part c.in-Some.field _ some (sym c.is_field_length_allowed.ensures ∙ c.if-not-is_field_length_allowed.false) size part-is
    (field_found (is_too_short part) (field_of part) c.in-Some.field c.in-Some.ensures) payload-is
