use Rattle.std.proofs.Common.{◌≡◌, ap, ◌∙◌}
use Rattle.prefix_codes.specs.TableName.{code_in}
use Rattle.prefix_codes.specs.Private.Codes.{code_word, place_of}
use Rattle.prefix_codes.proofs.CodeLemmas.{code_in-some, code_in-none, code_clause, fits_clause, len_clause, none_clause}
use Rattle.prefix_codes.proofs.lookup.code_of.Goals as goal

-- the word that was read
is : (c : goal.After-in_word) → c.word_of.result ≡ code_word c.args.table (place_of c.args.table c.args.symbol)
is c = c.word_of.ensures ∙ ap (code_word c.args.table) c.place_of.ensures

pub returns-clause-code : goal.returns-clause-code
returns-clause-code c =
    code_clause c.word_of.result (place_of c.args.table c.args.symbol) c.args.table (is c) (code_in c.args.table c.args.symbol)
    (code_in-some c.args.table c.args.symbol) c.in_word.result c.in_word.ensures.some

pub returns-clause-fits : goal.returns-clause-fits
returns-clause-fits c =
    fits_clause c.word_of.result (place_of c.args.table c.args.symbol) c.args.table (is c) (code_in c.args.table c.args.symbol)
    (code_in-some c.args.table c.args.symbol) c.in_word.result c.in_word.ensures.some

pub returns-clause-len : goal.returns-clause-len
returns-clause-len c =
    len_clause c.word_of.result (place_of c.args.table c.args.symbol) c.args.table (is c) (code_in c.args.table c.args.symbol)
    (code_in-some c.args.table c.args.symbol) c.in_word.result c.in_word.ensures.some

pub returns-clause-none : goal.returns-clause-none
returns-clause-none c =
    none_clause c.word_of.result (place_of c.args.table c.args.symbol) c.args.table (is c) (code_in c.args.table c.args.symbol)
    (code_in-some c.args.table c.args.symbol) (code_in-none c.args.table c.args.symbol) c.in_word.result c.in_word.ensures.none
