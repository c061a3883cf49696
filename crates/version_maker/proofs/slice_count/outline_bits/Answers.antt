use Rattle.std.proofs.Common.{◌≡◌, ◌+◌, ◌∙◌, ℕ, [], length, sym, ap, arith}
use Rattle.std.specs.List.{flat_map}
use Rattle.std.specs.Option.{option_to_list}
use Rattle.std.proofs.lemmas.List.{length-append}
use Rattle.picture_grammar.specs.Written.{written_macroblock}
use Rattle.requantiser.specs.declared.outline.Outline.{Outline}
use Rattle.requantiser.specs.Tallies.{told_by}
use Rattle.version_maker.proofs.OutlineCounts.{outline-counted}
use Rattle.version_maker.proofs.slice_count.outline_bits.Goals as goal

pub returns-in-Coded-clause-value : goal.returns-in-Coded-clause-value
returns-in-Coded-clause-value c =
    ap (λ (n : ℕ). n + c.args.bits.motion_and_dc) (c.head_in_version.ensures.value c.args.coding.now c.args.from.now.kind c.requires.bits.kinds)
    ∙ outline-counted c.args.coding.now c.args.from.now c.in-Coded.head c.args.bits.motion_and_dc c.requires.spelled c.requires.bits.motion_and_dc
    ∙ ap (λ (o : Outline). length (flat_map (written_macroblock c.args.coding.now) (option_to_list (told_by c.args.coding.now c.args.from.now c.args.lent.now o)))) (sym c.in-Coded.is)

pub returns-in-Kept-clause-value : goal.returns-in-Kept-clause-value
returns-in-Kept-clause-value c =
    let one : length (flat_map (written_macroblock c.args.coding.now) (option_to_list (told_by c.args.coding.now c.args.from.now c.args.lent.now c.args.outline)))
    ≡ length (written_macroblock c.args.coding.now c.args.lent.now) + 0 =
    ap (λ (o : Outline). length (flat_map (written_macroblock c.args.coding.now) (option_to_list (told_by c.args.coding.now c.args.from.now c.args.lent.now o)))) c.in-Kept.is
    ∙ length-append (written_macroblock c.args.coding.now c.args.lent.now) [] in
    omega (arith, c.macroblock_bits.ensures.value, one)
