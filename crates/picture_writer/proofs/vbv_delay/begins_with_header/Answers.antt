use Rattle.std.proofs.Common.{◌≡◌, ◌+◌, ◌*◌, ap, sym, subst, inl, inr, drop, arith}
use Rattle.bit_lists.specs.Fields.{bit_list}
use Rattle.picture_writer.specs.Private.ExtraInformation.{Closes}
use Rattle.picture_writer.proofs.HeaderFront.{kind_of, header_front, front_header}
use Rattle.picture_writer.proofs.vbv_delay.begins_with_header.Goals as goal

pub returns-then-bytes-lt4-clause-no : goal.returns-then-bytes-lt4-clause-no
returns-then-bytes-lt4-clause-no c = λ is header. let has = (header_front c.args.bytes.now header).enough in omega (arith, has, c.if-bytes-lt4.true)

pub returns-then-kind-lt-I_PICTURE-clause-no : goal.returns-then-kind-lt-I_PICTURE-clause-no
returns-then-kind-lt-I_PICTURE-clause-no c = λ is header.
    let has = (header_front c.args.bytes.now header).kind in
    elim c.then-kind-lt-I_PICTURE.either [
      | inl less ↦ omega (arith, has.0, less)
      | inr more ↦ omega (arith, has.1, more)
    ]

pub returns-clause-yes : goal.returns-clause-yes
returns-clause-yes c = λ is.
    let bytes = c.args.bytes.now in
    let place : 25 + 4 * c.from.result ≡ 25 + 4 * kind_of bytes = ap (λ n. 25 + 4 * n) c.from.ensures in
    front_header bytes (record {
      enough = c.if-bytes-lt4.false;
      kind = (c.if-kind-lt-I_PICTURE.false, c.if-kind-gt-B_PICTURE.false);
      closes = subst (λ n. Closes (drop n (bit_list bytes))) place (c.information_closes.ensures.yes is);
    })

pub returns-clause-no : goal.returns-clause-no
returns-clause-no c = λ is header.
    let bytes = c.args.bytes.now in
    let place : 25 + 4 * kind_of bytes ≡ 25 + 4 * c.from.result = ap (λ n. 25 + 4 * n) (sym c.from.ensures) in
    c.information_closes.ensures.no is (subst (λ n. Closes (drop n (bit_list bytes))) place (header_front bytes header).closes)
