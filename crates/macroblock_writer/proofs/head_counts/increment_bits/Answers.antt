use Rattle.std.proofs.Common.{◌≡◌, ◌+◌, ◌-◌, ◌*◌, ◌/◌, ◌∙◌, ap, ap₂, sym, length, arith}
use Rattle.std.proofs.lemmas.List.{length-append}
use Rattle.std.specs.List.{flat_map, range_with_len}
use Rattle.prefix_codes.specs.declared.symbol.TheConstants.{ADDRESS_ESCAPE}
use Rattle.prefix_codes.specs.declared.table_name.TableName.TheVariants.{Address}
use Rattle.prefix_codes.specs.TableName.{code_for}
use Rattle.macroblock_writer.proofs.Counts.{over_and_over}
use Rattle.macroblock_writer.proofs.head_counts.increment_bits.Goals as goal

pub returns-clause-value : goal.returns-clause-value
returns-clause-value c =
    let escapes = (c.args.increment - 1) / 33 in
    let escape = code_for Address ADDRESS_ESCAPE in
    ap₂ (λ a b. a + b) (ap (λ n. escapes * n) c.code_bits-2.ensures.value ∙ sym (over_and_over escape 0 escapes)) c.code_bits-3.ensures.value
    ∙ sym (length-append (flat_map (λ _. escape) (range_with_len 0 escapes)) (code_for Address (c.args.increment - 33 * escapes)))
