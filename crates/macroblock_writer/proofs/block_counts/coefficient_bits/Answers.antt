use Rattle.std.proofs.Common.{◌≡◌, ◌+◌, ◌∙◌, ap, sym, length, pos, w16, to_z, of_z, SFits, rules, [], ◌∷◌, ◌++◌, unsigned_abs, int_lt, arith}
use Rattle.std.proofs.lemmas.Int.{to_z-of_z}
use Rattle.std.proofs.lemmas.List.{length-append}
use Rattle.std.specs.Option.{option_map_or}
use Rattle.bit_lists.specs.Bits.{bits_of}
use Rattle.bit_lists.specs.Fields.{flag}
use Rattle.bit_lists.proofs.BitLemmas.{length-bits_of}
use Rattle.prefix_codes.specs.declared.symbol.TheConstants.{ESCAPE}
use Rattle.prefix_codes.specs.TableName.{coefficient_code, code_for}
use Rattle.picture_grammar.specs.Written.{level_bits, written_escape}
use Rattle.list_types.proofs.Lists.{three_parts}
use Rattle.macroblock_writer.proofs.block_counts.coefficient_bits.Goals as goal

pub returns-in-Some-clause-value : goal.returns-in-Some-clause-value
returns-in-Some-clause-value c =
    let pair = c.args.pair in
    let sign = flag (int_lt pair.level (pos 0)) ∷ [] in
    let fits : SFits w16 pair.level = search rules in
    let held : to_z w16 (of_z w16 pair.level) ≡ pair.level = to_z-of_z w16 pair.level fits in
    let code = bits_of c.in-Some.code.len c.in-Some.code.bits in
    let count : c.from.result + 1 ≡ length (code ++ sign) = omega (arith, c.from.ensures, length-bits_of c.in-Some.code.len c.in-Some.code.bits, length-append code sign) in
    count ∙ ap (λ found. length (option_map_or (λ code. code ++ sign) found (written_escape c.args.table pair)))
    (sym c.in-Some.ensures.code ∙ ap (coefficient_code c.args.table pair.run) (c.unsigned_abs.ensures.value ∙ ap unsigned_abs held))

pub returns-in-None-clause-value : goal.returns-in-None-clause-value
returns-in-None-clause-value c =
    let pair = c.args.pair in
    let sign = flag (int_lt pair.level (pos 0)) ∷ [] in
    let fits : SFits w16 pair.level = search rules in
    let held : to_z w16 (of_z w16 pair.level) ≡ pair.level = to_z-of_z w16 pair.level fits in
    let run = bits_of 6 pair.run in
    let level = bits_of 12 (level_bits pair.level) in
    let count : c.code_bits.result + 18 ≡ length (code_for c.args.table ESCAPE ++ run ++ level) =
    omega (arith, c.code_bits.ensures.value, three_parts (code_for c.args.table ESCAPE) run level, length-bits_of 6 pair.run, length-bits_of 12 (level_bits pair.level)) in
    count ∙ ap (λ found. length (option_map_or (λ code. code ++ sign) found (written_escape c.args.table pair)))
    (sym c.in-None.ensures.none ∙ ap (coefficient_code c.args.table pair.run) (c.unsigned_abs.ensures.value ∙ ap unsigned_abs held))
