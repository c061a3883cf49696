use Rattle.std.proofs.Common.{◌≡◌, ap, ◌∙◌}
use Rattle.prefix_codes.specs.TableName.{coefficient_code}
use Rattle.prefix_codes.specs.Private.Codes.{code_word, coefficient_place}
use Rattle.prefix_codes.proofs.CodeLemmas.{coefficient_code-some, coefficient_code-none, code_clause, fits_clause, len_clause, none_clause}
use Rattle.prefix_codes.proofs.lookup.coefficient_code.Goals as goal

-- the word that was read
is : (c : goal.After-in_word) → c.word_of.result ≡ code_word c.args.table (coefficient_place c.args.run c.args.size)
is c = c.word_of.ensures ∙ ap (code_word c.args.table) (c.coefficient_place.ensures ∙ ap (λ run. coefficient_place run c.args.size) c.from.ensures)

pub returns-clause-code : goal.returns-clause-code
returns-clause-code c =
    code_clause c.word_of.result (coefficient_place c.args.run c.args.size) c.args.table (is c) (coefficient_code c.args.table c.args.run c.args.size)
    (coefficient_code-some c.args.table c.requires c.args.run c.args.size) c.in_word.result c.in_word.ensures.some

pub returns-clause-fits : goal.returns-clause-fits
returns-clause-fits c =
    fits_clause c.word_of.result (coefficient_place c.args.run c.args.size) c.args.table (is c) (coefficient_code c.args.table c.args.run c.args.size)
    (coefficient_code-some c.args.table c.requires c.args.run c.args.size) c.in_word.result c.in_word.ensures.some

pub returns-clause-len : goal.returns-clause-len
returns-clause-len c =
    len_clause c.word_of.result (coefficient_place c.args.run c.args.size) c.args.table (is c) (coefficient_code c.args.table c.args.run c.args.size)
    (coefficient_code-some c.args.table c.requires c.args.run c.args.size) c.in_word.result c.in_word.ensures.some

pub returns-clause-none : goal.returns-clause-none
returns-clause-none c =
    none_clause c.word_of.result (coefficient_place c.args.run c.args.size) c.args.table (is c) (coefficient_code c.args.table c.args.run c.args.size)
    (coefficient_code-some c.args.table c.requires c.args.run c.args.size)
    (coefficient_code-none c.args.table c.requires c.args.run c.args.size) c.in_word.result c.in_word.ensures.none
