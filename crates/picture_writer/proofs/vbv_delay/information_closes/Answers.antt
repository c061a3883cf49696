use Rattle.std.proofs.Common.{◌≡◌, ◌+◌, ◌-◌, ◌*◌, ◌/◌, ◌%◌, ◌^◌, drop, get_or, ap, sym, subst, ◌∙◌, arith}
use Rattle.std.proofs.lemmas.Bool.{eqb-true, eqb-false}
use Rattle.bit_lists.specs.Fields.{bit_list}
use Rattle.picture_writer.specs.Private.ExtraInformation.{Closes}
use Rattle.picture_writer.proofs.PictureHeader.{one_to, one_from, last_closes, last_stays, past_end}
use Rattle.picture_writer.proofs.vbv_delay.information_closes.Goals as goal

pub loop-byte-init : goal.loop-byte-init
loop-byte-init c = record {
  few = omega arith;
  to = λ closes. subst (λ n. Closes (drop n (bit_list c.args.bytes.now))) (let e : 8 * (c.args.from / 8) + (7 - (7 - c.args.from % 8)) ≡ c.args.from = omega arith in e) closes;
  back = λ closes. subst (λ n. Closes (drop n (bit_list c.args.bytes.now))) (let e : c.args.from ≡ 8 * (c.args.from / 8) + (7 - (7 - c.args.from % 8)) = omega arith in e) closes;
}

pub loop-byte-preserved : goal.loop-byte-preserved
loop-byte-preserved c =
    let bytes = c.args.bytes.now in
    let k = c.loop-byte.behind in
    let one : get_or bytes c.loop-byte.byte 0 / 2 ^ k % 2 ≡ 1 = (let some = c.if-bytes-byte-eq0.false in omega (arith, some)) in
    let place : 8 * c.nine_on-next_byte.result.0 + (7 - c.nine_on-next_byte.result.1) ≡ 8 * c.loop-byte.byte + (7 - k) + 9 = c.nine_on-next_byte.ensures.place in
    record {
      few = c.nine_on-next_byte.ensures.few;
      to = λ closes. c.loop-byte.invariant.to (one_to bytes c.loop-byte.byte k c.loop-byte-test.true c.loop-byte.invariant.few one (subst (λ n. Closes (drop n (bit_list bytes))) place closes));
      back = λ closes. subst (λ n. Closes (drop n (bit_list bytes))) (sym place)
          (one_from bytes c.loop-byte.byte k c.loop-byte-test.true c.loop-byte.invariant.few one (c.loop-byte.invariant.back closes));
    }

pub returns-then-bytes-byte-eq0-clause-yes : goal.returns-then-bytes-byte-eq0-clause-yes
returns-then-bytes-byte-eq0-clause-yes c = λ is.
    let bytes = c.args.bytes.now in
    let k = c.loop-byte.behind in
    let none : get_or bytes c.loop-byte.byte 0 % 2 ^ k ≡ 0 = ap (λ n. get_or bytes c.loop-byte.byte 0 % n) (sym c.power.ensures) ∙ eqb-true (get_or bytes c.loop-byte.byte 0 % c.power.result) 0 is in
    c.loop-byte.invariant.to (last_closes bytes c.loop-byte.byte k c.loop-byte-test.true c.loop-byte.invariant.few c.if-bytes-byte-eq0.true none)

pub returns-then-bytes-byte-eq0-clause-no : goal.returns-then-bytes-byte-eq0-clause-no
returns-then-bytes-byte-eq0-clause-no c = λ is closes.
    let bytes = c.args.bytes.now in
    let k = c.loop-byte.behind in
    let none = last_stays bytes c.loop-byte.byte k c.loop-byte-test.true c.loop-byte.invariant.few c.if-bytes-byte-eq0.true (c.loop-byte.invariant.back closes) in
    eqb-false (get_or bytes c.loop-byte.byte 0 % c.power.result) 0 is (ap (λ n. get_or bytes c.loop-byte.byte 0 % n) c.power.ensures ∙ none)

pub returns-clause-no : goal.returns-clause-no
returns-clause-no c = λ is closes.
    past_end c.args.bytes.now (8 * c.loop-byte.byte + (7 - c.loop-byte.behind)) (let past = c.loop-byte-test.false in omega (arith, past)) (c.loop-byte.invariant.back closes)
