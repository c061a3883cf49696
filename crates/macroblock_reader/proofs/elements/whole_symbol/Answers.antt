use Rattle.grammar_reading.proofs.Cuts.{symbol-found, begun-whole}
use Rattle.macroblock_reader.proofs.elements.whole_symbol.Goals as goal

pub returns : goal.returns
returns c =
    let table = c.args.table in
    let window = c.args.window in
    let b = begun-whole table window c.in-Some.symbol c.in-Some.len c.from.result c.requires c.find_whole.ensures.front c.in-Some.is c.from.ensures in
    symbol-found table c.args.most window c.in-Some.symbol c.from.result b c.if-symbol-most.false
