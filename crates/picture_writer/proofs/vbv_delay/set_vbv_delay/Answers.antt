use Rattle.std.proofs.Common.{◌≡◌, ◌+◌, ◌-◌, ℕ, List, take, drop, length, sym, subst, length-drop, arith}
use Rattle.std.proofs.lemmas.List.{take_all}
use Rattle.picture_writer.specs.VbvDelay.{BeginsWithHeader}
use Rattle.picture_writer.proofs.HeaderFront.{header_front}
use Rattle.picture_writer.proofs.PictureCodes.{one_picture}
use Rattle.picture_writer.proofs.vbv_delay.set_vbv_delay.Goals as goal

-- a slice from a place to the end
to_end : (unit : List ℕ) (n : ℕ) → take (length unit - n) (drop n unit) ≡ drop n unit
to_end unit n = take_all (length unit - n) (drop n unit) (omega (arith, length-drop n unit))

pub returns-then-not-begins_with_header-clause-none : goal.returns-then-not-begins_with_header-clause-none
returns-then-not-begins_with_header-clause-none c = λ is at has.
    let unit = c.args.unit.now in
    let same : at ≡ c.in-Some.at = one_picture unit at c.in-Some.at has.code c.in-Some.ensures.some in
    c.begins_with_header.ensures.no c.if-not-begins_with_header.true
    (subst BeginsWithHeader (sym (to_end unit (c.in-Some.at + 4))) (subst (λ n. BeginsWithHeader (drop (n + 4) unit)) same has.header))

pub set_bits-requires : goal.set_bits-requires
set_bits-requires c =
    let unit = c.args.unit.now in
    let header : BeginsWithHeader (drop (c.in-Some.at + 4) unit) = subst BeginsWithHeader (to_end unit (c.in-Some.at + 4)) (c.begins_with_header.ensures.yes c.if-not-begins_with_header.false) in
    let enough = (header_front (drop (c.in-Some.at + 4) unit) header).enough in
    let within = c.in-Some.ensures.some.stands.within in
    omega (arith, enough, within, length-drop (c.in-Some.at + 4) unit)

pub returns-clause-set : goal.returns-clause-set
returns-clause-set c = λ is. (
  c.in-Some.at,
  record {
    code = c.in-Some.ensures.some;
    header = subst BeginsWithHeader (to_end c.args.unit.now (c.in-Some.at + 4)) (c.begins_with_header.ensures.yes c.if-not-begins_with_header.false);
  },
  c.set_bits.ensures,
)
