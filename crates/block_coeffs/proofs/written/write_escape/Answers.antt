use Rattle.std.proofs.Common.{◌≡◌, ◌+◌, ◌*◌, ◌%◌, ◌^◌, ◌<◌, ℕ, ◌++◌, ap, sym, ◌∙◌, arith, append_assoc}
use Rattle.bit_lists.specs.Bits.{bits_of}
use Rattle.bit_lists.proofs.JoinedLemmas.{bits_of-put}
use Rattle.bit_cursor.proofs.Composed.{writes_then}
use Rattle.prefix_codes.specs.declared.symbol.TheConstants.{ESCAPE}
use Rattle.picture_grammar.specs.Written.{level_bits}
use Rattle.prefix_codes.specs.TableName.{code_for}
use Rattle.block_coeffs.proofs.Writing.{writes_as, held_level}
use Rattle.block_coeffs.proofs.written.write_escape.Goals as goal

-- run and level in one number
fields : (r run field : ℕ) → r ≡ run → run < 2 ^ 6 → field < 2 ^ 12 → bits_of 18 (r * 2 ^ 12 % 2 ^ 32 + field) ≡ bits_of 6 run ++ bits_of 12 field
fields r run field same few fits =
    let number : r * 2 ^ 12 % 2 ^ 32 + field ≡ run * 2 ^ 12 + field = omega arith in
    ap (bits_of 18) number ∙ bits_of-put 6 12 run field fits

pub returns : goal.returns
returns g c =
    writes_as (writes_then g.met.K.Sink.keeps_on c.in_ok-write_code.ensures c.put_bits.ensures.writes)
    (
    ap (λ bits. code_for c.args.table ESCAPE ++ bits) (fields c.from-run.result c.args.pair.run c.level_field.result c.from-run.ensures c.requires.stands.run c.level_field.ensures.fits)
    ∙ sym (append_assoc (code_for c.args.table ESCAPE) (bits_of 6 c.args.pair.run) (bits_of 12 c.level_field.result))
    ∙ ap (λ level. code_for c.args.table ESCAPE ++ bits_of 6 c.args.pair.run ++ bits_of 12 level) (c.level_field.ensures.field ∙ ap level_bits (held_level c.args.pair.level c.requires.stands.level))
    )
