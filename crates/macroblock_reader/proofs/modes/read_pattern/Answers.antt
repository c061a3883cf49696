use Rattle.std.proofs.Common.{Ok, Err, [], arith}
use Rattle.std.proofs.lemmas.Result.{err_from_is_err_and}
use Rattle.prefix_codes.specs.declared.table_name.TableName.TheVariants.{Pattern}
use Rattle.picture_grammar.specs.Refusal.Refusal.{BadPattern}
use Rattle.picture_grammar.specs.Element.{vlclbf}
use Rattle.grammar_reading.specs.Symbol.{symbol_up_to}
use Rattle.macroblock_reader.proofs.Courses.{answers-as}
use Rattle.macroblock_reader.proofs.Codes.{any-spells, any-refuses, pattern-small, answers-most}
use Rattle.macroblock_reader.proofs.modes.read_pattern.Goals as goal

pub returns-in_err-symbol : goal.returns-in_err-symbol
returns-in_err-symbol g c =
    let p = err_from_is_err_and c.from_residual.result c.from_residual.ensures.1 in
    rw (p.1, p.2) (answers-as (symbol_up_to Pattern 63 BadPattern BadPattern) (vlclbf Pattern BadPattern []) (λ s. s) c.args.from.now c.read_symbol.new.from
    (any-spells Pattern 63 BadPattern pattern-small) (any-refuses Pattern 63 BadPattern pattern-small) (Err c.in_err-symbol.field-0.0) c.in_err-symbol.ensures)

pub overflow_cast-result : goal.overflow_cast-result
overflow_cast-result g c = record { fits = (let most = answers-most Pattern 63 BadPattern c.in_ok-symbol.symbol c.args.from.now c.read_symbol.new.from c.in_ok-symbol.ensures in omega arith) }

pub returns : goal.returns
returns g c =
    answers-as (symbol_up_to Pattern 63 BadPattern BadPattern) (vlclbf Pattern BadPattern []) (λ s. s) c.args.from.now c.read_symbol.new.from
    (any-spells Pattern 63 BadPattern pattern-small) (any-refuses Pattern 63 BadPattern pattern-small) (Ok c.in_ok-symbol.symbol) c.in_ok-symbol.ensures
