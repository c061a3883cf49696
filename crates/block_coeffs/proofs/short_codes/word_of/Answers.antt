use Rattle.std.proofs.Common.{rules, w16, SFits, to_z, of_z, ap, ◌∙◌, refl, arith}
use Rattle.std.proofs.lemmas.Int.{to_z-of_z}
use Rattle.block_coeffs.proofs.ShortCodes.{word-parts}
use Rattle.block_coeffs.proofs.short_codes.word_of.Goals as goal

pub returns-clause-level : goal.returns-clause-level
returns-clause-level c =
    let level = c.args.level in
    let fits : SFits w16 level = search rules in
    let parts = word-parts c.from.result c.args.len c.args.run _ c.requires.run c.requires.len (omega arith) in
    ap (to_z w16) (parts.2 ∙ c.from.ensures ∙ c.cast_unsigned.ensures ∙ ap (of_z w16) (to_z-of_z w16 level fits)) ∙ to_z-of_z w16 level fits
