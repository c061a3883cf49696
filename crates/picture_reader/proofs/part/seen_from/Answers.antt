use Rattle.std.proofs.Common.{◌<◌, ◌+◌, ◌-◌, length, get_or, inl, inr, refl, arith}
use Rattle.picture_reader.proofs.Parts.{are-bytes, seen-byte, seen-cut, seen-code}
use Rattle.picture_reader.proofs.part.seen_from.Goals as goal

pub returns-then-byte-ne1-clause-seen : goal.returns-then-byte-ne1-clause-seen
returns-then-byte-ne1-clause-seen c =
    let unit = c.args.unit.now in
    let zeros = c.end_of_zeros-end.ensures.zeros in
    let before_end : c.end_of_zeros-end.result < length unit = omega (arith, zeros.within, c.if-end-len.false) in
    seen-byte unit (are-bytes unit (λ i. omega (arith, c.type_inv.unit i))) c.args.at c.end_of_zeros-end.result zeros before_end (c.end_of_zeros-end.ensures.stops before_end) (inl c.if-byte-ne1.true)

pub returns-then-end-at-clause-seen : goal.returns-then-end-at-clause-seen
returns-then-end-at-clause-seen c =
    let unit = c.args.unit.now in
    let zeros = c.end_of_zeros-end.ensures.zeros in
    let before_end : c.end_of_zeros-end.result < length unit = omega (arith, zeros.within, c.if-end-len.false) in
    seen-byte unit (are-bytes unit (λ i. omega (arith, c.type_inv.unit i))) c.args.at c.end_of_zeros-end.result zeros before_end
    (c.end_of_zeros-end.ensures.stops before_end) (inr (omega (arith, c.if-end-at.true)))

pub returns-then-next-len-clause-seen : goal.returns-then-next-len-clause-seen
returns-then-next-len-clause-seen c =
    let unit = c.args.unit.now in
    let end = c.end_of_zeros-end.result in
    seen-cut unit (are-bytes unit (λ i. omega (arith, c.type_inv.unit i))) c.args.at end c.end_of_zeros-end.ensures.zeros
    (omega (arith, c.if-next-len.true)) c.if-byte-ne1.false (omega (arith, c.if-end-at.false)) (end - 2)
    (omega (arith, c.if-end-at.false))

pub returns-clause-seen : goal.returns-clause-seen
returns-clause-seen c =
    let unit = c.args.unit.now in
    let end = c.end_of_zeros-end.result in
    let zeros = c.end_of_zeros-end.ensures.zeros in
    seen-code unit (are-bytes unit (λ i. omega (arith, c.type_inv.unit i))) c.args.at end zeros
    (omega (arith, zeros.within, c.if-end-len.false, c.if-next-len.false)) c.if-byte-ne1.false (omega (arith, c.if-end-at.false)) (end - 2)
    (get_or unit (end + 1) 0) (omega (arith, c.if-end-at.false)) refl
