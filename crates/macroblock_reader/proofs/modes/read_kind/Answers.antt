use Rattle.std.proofs.Common.{Ok, Err, sym, subst}
use Rattle.std.proofs.lemmas.Result.{err_from_is_err_and}
use Rattle.picture_grammar.specs.Refusal.Refusal.{BadType}
use Rattle.picture_grammar.specs.Macroblock.{macroblock_type, type_table}
use Rattle.grammar_reading.specs.Symbol.{symbol_up_to}
use Rattle.macroblock_reader.specs.Private.Answers.{Answers}
use Rattle.macroblock_reader.specs.Private.Parts.{kind_by}
use Rattle.macroblock_reader.proofs.Courses.{answers-as}
use Rattle.macroblock_reader.proofs.Addresses.{kind-spells, kind-refuses}
use Rattle.macroblock_reader.proofs.modes.read_kind.Goals as goal

pub returns-in_err-symbol : goal.returns-in_err-symbol
returns-in_err-symbol g c =
    let coding = c.args.coding.now in
    let p = err_from_is_err_and c.from_residual.result c.from_residual.ensures.1 in
    let a = subst (λ t. Answers ⊥ (symbol_up_to t 31 BadType BadType) (Err c.in_err-symbol.field-0.0) c.args.from.now c.read_symbol.new.from) c.type_table.ensures c.in_err-symbol.ensures in
    rw (p.1, p.2) (answers-as (symbol_up_to (type_table coding) 31 BadType BadType)
    (macroblock_type coding) kind_by c.args.from.now c.read_symbol.new.from (kind-spells coding) (kind-refuses coding)
    (Err c.in_err-symbol.field-0.0) a)

pub returns : goal.returns
returns g c =
    let coding = c.args.coding.now in
    let a = subst (λ t. Answers ⊥ (symbol_up_to t 31 BadType BadType) (Ok c.in_ok-symbol.symbol) c.args.from.now c.read_symbol.new.from) c.type_table.ensures c.in_ok-symbol.ensures in
    subst (λ k. Answers ⊥ (macroblock_type coding) (Ok k) c.args.from.now c.read_symbol.new.from) (sym c.kind_of.ensures)
    (answers-as (symbol_up_to (type_table coding) 31 BadType BadType) (macroblock_type coding) kind_by c.args.from.now c.read_symbol.new.from
    (kind-spells coding) (kind-refuses coding) (Ok c.in_ok-symbol.symbol) a)
