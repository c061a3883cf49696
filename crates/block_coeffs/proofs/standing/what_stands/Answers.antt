use Rattle.std.proofs.Common.{◌≡◌, ◌<◌, Some, refl, sym, ap, ap₂, subst, ◌∙◌, arith, inl}
use Rattle.std.proofs.lemmas.Option.{none-some}
use Rattle.prefix_codes.specs.declared.symbol.TheConstants.{END_OF_BLOCK, ESCAPE}
use Rattle.prefix_codes.specs.TableName.{Begins}
use Rattle.grammar_reading.specs.Window.{seen}
use Rattle.block_coeffs.proofs.Pairs.{end-found}
use Rattle.block_coeffs.proofs.Symbols.{coefficients-is, past-end}
use Rattle.block_coeffs.proofs.standing.what_stands.Goals as goal

pub why_none-requires-clause-none : goal.why_none-requires-clause-none
why_none-requires-clause-none c = λ s n b. none-some _ (sym c.in_default.is ∙ (c.find.ensures.front s n).1 b)

pub returns-in_default : goal.returns-in_default
returns-in_default c = (omega arith, λ bits shows. inl (refl, c.why_none.ensures bits shows))

pub returns-then-symbol-lt-END_OF_BLOCK : goal.returns-then-symbol-lt-END_OF_BLOCK
returns-then-symbol-lt-END_OF_BLOCK c =
    let symbol = c.in-Some.symbol in
    let len = c.from-len.result in
    let begun : Begins c.args.table (seen c.args.window c.args.window.known) symbol len = (c.find.ensures.front symbol len).0 (c.in-Some.is ∙ ap (λ n. Some (symbol, n)) (sym c.from-len.ensures)) in
    c.by_table.ensures c.args.table c.requires.table (λ end. omega arith) (λ escape. omega arith) begun

pub returns-then-symbol-eq-END_OF_BLOCK : goal.returns-then-symbol-eq-END_OF_BLOCK
returns-then-symbol-eq-END_OF_BLOCK c =
    let len = c.from-len.result in
    let answer : c.find.result ≡ Some (END_OF_BLOCK, len) = c.in-Some.is ∙ ap₂ (λ s n. Some (s, n)) c.if-symbol-eq-END_OF_BLOCK.true (sym c.from-len.ensures) in
    let found = end-found c.args.table c.args.place c.args.window c.args.window.within len ((c.find.ensures.front END_OF_BLOCK len).0 answer) in
    (found.0, found.1)

pub returns-else-symbol-eq-END_OF_BLOCK : goal.returns-else-symbol-eq-END_OF_BLOCK
returns-else-symbol-eq-END_OF_BLOCK c =
    let symbol = c.in-Some.symbol in
    let len = c.from-len.result in
    let begun : Begins c.args.table (seen c.args.window c.args.window.known) symbol len = (c.find.ensures.front symbol len).0 (c.in-Some.is ∙ ap (λ n. Some (symbol, n)) (sym c.from-len.ensures)) in
    let past : END_OF_BLOCK < symbol = let other = c.if-symbol-eq-END_OF_BLOCK.false in omega arith in
    let is : symbol ≡ ESCAPE = past-end symbol begun.code (coefficients-is c.args.table c.requires.table) begun.listed past in
    c.escaped.ensures c.args.table len c.requires.table (subst (λ s. Begins c.args.table (seen c.args.window c.args.window.known) s len) is begun)
