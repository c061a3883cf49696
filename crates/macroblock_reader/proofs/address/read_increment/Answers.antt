use Rattle.std.proofs.Common.{rules, [], ◌∷◌, ◌++◌, arith}
use Rattle.std.proofs.lemmas.List.{length-append}
use Rattle.std.proofs.lemmas.Result.{err_from_is_err_and}
use Rattle.prefix_codes.specs.declared.table_name.TableName.TheVariants.{Address}
use Rattle.picture_grammar.specs.Refusal.Refusal.{BadAddress}
use Rattle.picture_grammar.specs.Macroblock.{address_code}
use Rattle.macroblock_reader.proofs.Codes.{answers-most}
use Rattle.macroblock_reader.proofs.Lists.{listed-none}
use Rattle.macroblock_reader.proofs.Addresses.{escape-read, increment-read, increment-err, address-of_answer}
use Rattle.macroblock_reader.proofs.address.read_increment.Goals as goal

pub escapes-init : goal.escapes-init
escapes-init g c = record { escapes = []; counted = omega arith; listed = listed-none (address_code c.args.most) c.args.from.now (search rules) }

pub returns-in_err-symbol-clause-answers : goal.returns-in_err-symbol-clause-answers
returns-in_err-symbol-clause-answers g c =
    let inv = c.escapes.invariant in
    let p = err_from_is_err_and c.from_residual.result c.from_residual.ensures.1 in
    rw (p.1, p.2) (increment-err g.met.S.Source.keeps_on c.args.most c.escapes.left inv.escapes inv.counted inv.listed c.in_err-symbol.field-0.0 c.in_err-symbol.ensures)

pub overflow_sub-left : goal.overflow_sub-left
overflow_sub-left g c = let most = answers-most Address c.escapes.left BadAddress c.in_ok-symbol.symbol c.escapes.from c.read_symbol.new.from c.in_ok-symbol.ensures in omega arith

pub overflow_add-result : goal.overflow_add-result
overflow_add-result g c = let most = answers-most Address c.escapes.left BadAddress c.in_ok-symbol.symbol c.escapes.from c.read_symbol.new.from
    c.in_ok-symbol.ensures in let counted = c.escapes.invariant.counted in omega arith

pub escapes-preserved : goal.escapes-preserved
escapes-preserved g c =
    let inv = c.escapes.invariant in
    let most = answers-most Address c.escapes.left BadAddress c.in_ok-symbol.symbol c.escapes.from c.read_symbol.new.from c.in_ok-symbol.ensures in record {
      escapes = inv.escapes ++ tt ∷ [];
      counted = (let counted = inv.counted in omega (arith, length-append inv.escapes (tt ∷ [])));
      listed = escape-read g.met.S.Source.keeps_on c.args.most c.escapes.left inv.escapes inv.counted inv.listed c.in_ok-symbol.symbol (omega arith) c.in_ok-symbol.ensures;
    }

pub escapes-smaller : goal.escapes-smaller
escapes-smaller g c = let most = answers-most Address c.escapes.left BadAddress c.in_ok-symbol.symbol c.escapes.from c.read_symbol.new.from c.in_ok-symbol.ensures in omega arith

pub returns-then-symbol-ne-ADDRESS_ESCAPE-clause-answers : goal.returns-then-symbol-ne-ADDRESS_ESCAPE-clause-answers
returns-then-symbol-ne-ADDRESS_ESCAPE-clause-answers g c =
    let inv = c.escapes.invariant in
    let counted = inv.counted in
    increment-read g.met.S.Source.keeps_on c.args.most c.escapes.left inv.escapes inv.counted inv.listed c.in_ok-symbol.symbol _ (omega arith) (omega arith) c.in_ok-symbol.ensures

pub returns-then-symbol-ne-ADDRESS_ESCAPE-clause-some : goal.returns-then-symbol-ne-ADDRESS_ESCAPE-clause-some
returns-then-symbol-ne-ADDRESS_ESCAPE-clause-some g c = let some = address-of_answer c.escapes.left c.in_ok-symbol.symbol c.escapes.from c.read_symbol.new.from c.in_ok-symbol.ensures in omega arith

pub returns-then-symbol-ne-ADDRESS_ESCAPE-clause-within : goal.returns-then-symbol-ne-ADDRESS_ESCAPE-clause-within
returns-then-symbol-ne-ADDRESS_ESCAPE-clause-within g c = let most = answers-most Address c.escapes.left BadAddress c.in_ok-symbol.symbol
    c.escapes.from c.read_symbol.new.from c.in_ok-symbol.ensures in let counted = c.escapes.invariant.counted in omega arith
