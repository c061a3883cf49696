-- Each part of a picture decides by its bits, by the order of its elements.
use Rattle.std.proofs.Common.{ℕ, List, [], Bool}
use Rattle.prefix_codes.specs.declared.table_name.TableName.{TableName}
use Rattle.syntax_types.specs.declared.block.BlockWay.{BlockWay}
use Rattle.syntax_types.specs.declared.block.RunLevel.{RunLevel}
use Rattle.picture_grammar.specs.Refusal.{Refusal}
use Rattle.picture_grammar.specs.Grammar.Next.{last}
use Rattle.picture_grammar.specs.Element.{Rule, vlclbf, uimsbf, flag_where, one_flag}
use Rattle.picture_grammar.specs.Exact.{IsExact}
use Rattle.picture_grammar.specs.Block.{Coefficient, dc_coefficient, after_code, coefficient, block}
use Rattle.picture_grammar.specs.Block.Coefficient.{end_of_block, run_size, escape}
use Rattle.picture_grammar.proofs.GrammarLaws.{exact-done, exact-bind, exact-optional, exact-many}
use Rattle.picture_grammar.proofs.ElementLaws.{exact-element}
use Rattle.picture_grammar.proofs.Codes.{free-table, free-number, free-flag, free-coefficient}

-- ---- elements

pub exact-vlclbf : (table : TableName) (no_code : Refusal) (rules : List (Rule ℕ)) → IsExact (vlclbf table no_code rules)
exact-vlclbf table no_code rules = exact-element _ no_code rules (free-table table)

pub exact-uimsbf : (n : ℕ) (rules : List (Rule ℕ)) → IsExact (uimsbf n rules)
exact-uimsbf n rules = exact-element _ _ rules (free-number n)

pub exact-flag_where : (rules : List (Rule Bool)) → IsExact (flag_where rules)
exact-flag_where rules = exact-element _ _ rules free-flag

-- ---- blocks

pub exact-after_code : (c : Coefficient) → IsExact (after_code c)
exact-after_code end_of_block = exact-done (last tt)
exact-after_code (run_size run size) = exact-bind one_flag _ (exact-flag_where []) (λ negative. exact-done _)
exact-after_code (escape run level) = exact-done _

pub exact-coefficient : (way : BlockWay) (before : List RunLevel) → IsExact (coefficient way before)
exact-coefficient way before = exact-bind _ after_code (exact-element _ _ _ (free-coefficient _)) exact-after_code

pub exact-block : (way : BlockWay) → IsExact (block way)
unfolding block
exact-block way =
    exact-bind _ _ (exact-optional way.intra (dc_coefficient way) (exact-bind _ _ (exact-vlclbf _ _ []) (λ size. exact-bind _ _ (exact-uimsbf size []) (λ bits. exact-done _))))
    (λ dc. exact-bind _ _ (exact-many (coefficient way) (exact-coefficient way)) (λ coefficients. exact-done _))
