use Rattle.std.proofs.Common.{sym, subst, ◌∙◌, arith}
use Rattle.command_words.proofs.Decimals.{BeginsPlainly, decimal_begins_plainly, parsed_is_decimal, unparsed_is_none}
use Rattle.command_words.proofs.command.decimal_number.Goals as goal

pub returns-then-not-begins_plainly : goal.returns-then-not-begins_plainly
returns-then-not-begins_plainly c = λ n small is.
    let plain : BeginsPlainly c.as_bytes.result.now = subst BeginsPlainly (sym (c.as_bytes.ensures.value ∙ is)) (decimal_begins_plainly n small) in
    grind (arith, c.begins_plainly.ensures.1 plain, c.if-not-begins_plainly.true)

pub returns-in-Ok : goal.returns-in-Ok
returns-in-Ok c =
    parsed_is_decimal c.args.word.now c.in-Ok.n c.in-Ok.ensures.value.0
    (subst BeginsPlainly c.as_bytes.ensures.value (c.begins_plainly.ensures.0 c.if-not-begins_plainly.false))

pub returns-in-Err : goal.returns-in-Err
returns-in-Err c = λ n small is. unparsed_is_none c.args.word.now c.in-Err.field-0 n c.in-Err.ensures.value.0 small is
