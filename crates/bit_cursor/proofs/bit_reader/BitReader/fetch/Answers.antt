use Rattle.std.proofs.Common.{◌≡◌, ◌∙◌, ◌<◌, ◌+◌, ◌-◌, ◌*◌, ◌/◌, ◌%◌, ◌^◌, take, IfSome, subst, ap, arith, bit_or}
use Rattle.std.specs.Int.{bytes_high_first}
use Rattle.bit_cursor.proofs.Left.{told_bits, told_number}
use Rattle.bit_cursor.proofs.Taking.{takes_number}
use Rattle.bit_cursor.proofs.bit_reader.BitReader.fetch.Goals as goal

pub returns-in-Ok-Some-clause-left : goal.returns-in-Ok-Some-clause-left
returns-in-Ok-Some-clause-left g c =
    let s = c.args.self.now in
    let told = g.S.Source.left s.source.now in
    let after = g.S.Source.left c.take_number.new.self in
    let bytes = (c.args.n - s.held + 7) / 8 in
    let number = c.in-Ok-Some.number in
    let is = c.in-Ok-Some.field-0-is in
    let came = c.in-Ok-Some.ensures in
    let front : IfSome told (λ all. bytes_high_first bytes number ≡ take bytes all) = subst (λ o. IfSome o (λ x. IfSome told (λ all. bytes_high_first bytes x ≡ take bytes all))) is came.told in
    let below : number < 2 ^ (8 * bytes) = subst (λ o. IfSome o (λ x. x < 2 ^ (8 * bytes))) is came.below in
    let takes = takes_number told after _ _ bytes _ number came.ok is in
    ap (λ x. told_bits after (s.held + 8 * bytes) (bit_or (s.word * 2 ^ (8 * bytes) % 2 ^ 64) x)) c.from.ensures
    ∙ told_number told after s.held s.word bytes number (omega arith) (omega arith) below front takes.rest

pub returns-in-Ok-Some-clause-fetched : goal.returns-in-Ok-Some-clause-fetched
returns-in-Ok-Some-clause-fetched g c = record {
  count = (c.args.n - c.args.self.now.held + 7) / 8;
  asked = omega arith;
  held = omega arith;
  taken = takes_number _ _ _ _ _ _ c.in-Ok-Some.number c.in-Ok-Some.ensures.ok c.in-Ok-Some.field-0-is;
}
