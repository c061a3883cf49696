use Rattle.std.proofs.Common.{sym, subst}
use Rattle.grammar_reading.specs.declared.symbol.SymbolFound.TheVariants.{Symbol}
use Rattle.grammar_reading.specs.Symbol.{IsSymbolFound}
use Rattle.grammar_reading.proofs.Cuts.{symbol-found, symbol-past}
use Rattle.grammar_reading.proofs.symbol.what_symbol.Goals as goal

pub why_none-requires : goal.why_none-requires
why_none-requires c = λ s n b. c.in_default.not-Some (s, n) ((c.find.ensures.front s n).1 b)

pub returns-then-symbol-most : goal.returns-then-symbol-most
returns-then-symbol-most c =
    symbol-past c.args.table c.args.most c.args.window c.in-Some.symbol c.in-Some.len ((c.find.ensures.front c.in-Some.symbol c.in-Some.len).0 c.in-Some.is) c.if-symbol-most.true

pub returns : goal.returns
returns c =
    let b = (c.find.ensures.front c.in-Some.symbol c.in-Some.len).0 c.in-Some.is in
    subst (λ n. IsSymbolFound c.args.table c.args.most c.args.window (Symbol c.in-Some.symbol n)) (sym c.from.ensures)
    (symbol-found c.args.table c.args.most c.args.window c.in-Some.symbol c.in-Some.len b c.if-symbol-most.false)
