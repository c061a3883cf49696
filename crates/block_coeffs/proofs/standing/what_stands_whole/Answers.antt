use Rattle.std.proofs.Common.{◌≡◌, ℕ, ◌<◌, ◌↔◌, Option, Some, refl, sym, ap, subst, ◌∙◌, arith, inl}
use Rattle.std.proofs.lemmas.Option.{none-some}
use Rattle.prefix_codes.specs.declared.symbol.TheConstants.{END_OF_BLOCK, ESCAPE}
use Rattle.prefix_codes.specs.declared.table_name.TableName.{TableName}
use Rattle.prefix_codes.specs.TableName.{Begins}
use Rattle.grammar_reading.specs.declared.window.BitWindow.{BitWindow}
use Rattle.grammar_reading.specs.Window.{seen}
use Rattle.block_coeffs.proofs.Pairs.{end-found}
use Rattle.block_coeffs.proofs.Symbols.{coefficients-is, past-end, shorter-code}
use Rattle.grammar_reading.proofs.Cuts.{begun-whole}
use Rattle.block_coeffs.proofs.standing.what_stands_whole.Goals as goal

pub why_none-requires-clause-none : goal.why_none-requires-clause-none
why_none-requires-clause-none c = λ s n b. none-some _ (sym c.in_default.is ∙ (c.find_whole.ensures.front s n).1 (subst (λ k. Begins c.args.table (seen c.args.window k) s n) c.requires.whole b))

pub returns-in_default : goal.returns-in_default
returns-in_default c = (omega arith, λ bits shows. inl (refl, c.why_none.ensures bits shows))

pub with_sign_behind-requires-clause-sign : goal.with_sign_behind-requires-clause-sign
with_sign_behind-requires-clause-sign c =
    let b = begun-whole c.args.table c.args.window c.in-Some.symbol c.in-Some.len c.from-len.result c.requires.whole c.find_whole.ensures.front c.in-Some.is c.from-len.ensures in
    let short = shorter-code c.in-Some.symbol b.code (coefficients-is c.args.table c.requires.table) b.listed in
    let counted = b.counted in
    omega arith

pub returns-then-symbol-lt-END_OF_BLOCK : goal.returns-then-symbol-lt-END_OF_BLOCK
returns-then-symbol-lt-END_OF_BLOCK c =
    let b = begun-whole c.args.table c.args.window c.in-Some.symbol c.in-Some.len c.from-len.result c.requires.whole c.find_whole.ensures.front c.in-Some.is c.from-len.ensures in
    c.with_sign_behind.ensures c.args.table c.requires.table (λ end. omega arith) (λ escape. omega arith) b

pub returns-then-symbol-eq-END_OF_BLOCK : goal.returns-then-symbol-eq-END_OF_BLOCK
returns-then-symbol-eq-END_OF_BLOCK c =
    let b = begun-whole c.args.table c.args.window c.in-Some.symbol c.in-Some.len c.from-len.result c.requires.whole c.find_whole.ensures.front c.in-Some.is c.from-len.ensures in
    let found = end-found c.args.table c.args.place c.args.window c.args.window.within c.from-len.result
    (subst (λ s. Begins c.args.table (seen c.args.window c.args.window.known) s c.from-len.result) c.if-symbol-eq-END_OF_BLOCK.true b) in
    (found.0, found.1)

pub returns-else-symbol-eq-END_OF_BLOCK : goal.returns-else-symbol-eq-END_OF_BLOCK
returns-else-symbol-eq-END_OF_BLOCK c =
    let symbol = c.in-Some.symbol in
    let len = c.from-len.result in
    let b = begun-whole c.args.table c.args.window symbol c.in-Some.len len c.requires.whole c.find_whole.ensures.front c.in-Some.is c.from-len.ensures in
    let past : END_OF_BLOCK < symbol = let other = c.if-symbol-eq-END_OF_BLOCK.false in omega arith in
    let is : symbol ≡ ESCAPE = past-end symbol b.code (coefficients-is c.args.table c.requires.table) b.listed past in
    c.escaped.ensures c.args.table len c.requires.table (subst (λ s. Begins c.args.table (seen c.args.window c.args.window.known) s len) is b)
