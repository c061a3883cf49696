use Rattle.std.proofs.Common.{Ok, Err, [], arith}
use Rattle.std.proofs.lemmas.Result.{err_from_is_err_and}
use Rattle.prefix_codes.specs.declared.table_name.TableName.TheVariants.{Motion}
use Rattle.picture_grammar.specs.Refusal.Refusal.{NoCode}
use Rattle.picture_grammar.specs.Element.{vlclbf}
use Rattle.grammar_reading.specs.Symbol.{symbol_up_to}
use Rattle.macroblock_reader.proofs.Courses.{answers-as}
use Rattle.macroblock_reader.proofs.Codes.{any-spells, any-refuses, motion-small, answers-most}
use Rattle.macroblock_reader.proofs.motion.read_size.Goals as goal

pub returns-in_err-size-clause-answers : goal.returns-in_err-size-clause-answers
returns-in_err-size-clause-answers g c =
    let p = err_from_is_err_and c.from_residual.result c.from_residual.ensures.1 in
    rw (p.1, p.2) (answers-as (symbol_up_to Motion 16 NoCode NoCode) (vlclbf Motion NoCode []) (λ s. s) c.args.from.now c.read_symbol.new.from
    (any-spells Motion 16 NoCode motion-small) (any-refuses Motion 16 NoCode motion-small) (Err c.in_err-size.field-0.0) c.in_err-size.ensures)

pub overflow_cast-result : goal.overflow_cast-result
overflow_cast-result g c = record { fits = (let most = answers-most Motion 16 NoCode c.in_ok-size.size c.args.from.now c.read_symbol.new.from c.in_ok-size.ensures in omega arith) }

pub returns-clause-answers : goal.returns-clause-answers
returns-clause-answers g c =
    answers-as (symbol_up_to Motion 16 NoCode NoCode) (vlclbf Motion NoCode []) (λ s. s) c.args.from.now c.read_symbol.new.from
    (any-spells Motion 16 NoCode motion-small) (any-refuses Motion 16 NoCode motion-small) (Ok c.in_ok-size.size) c.in_ok-size.ensures

pub returns-clause-few : goal.returns-clause-few
returns-clause-few g c = answers-most Motion 16 NoCode c.in_ok-size.size c.args.from.now c.read_symbol.new.from c.in_ok-size.ensures
