use Rattle.std.proofs.Common.{Bool, ℕ, List, [], ◌∷◌, ap, ap₂, if◌then◌else◌}
use Rattle.bit_lists.specs.Bits.{bits_of}
use Rattle.bit_lists.specs.Fields.{flag}
use Rattle.bit_cursor.proofs.Composed.{writes_then, writes_exit}
use Rattle.block_coeffs.proofs.Writing.{writes_as}
use Rattle.syntax_types.specs.declared.macroblock.Macroblock.{Macroblock}
use Rattle.syntax_types.specs.declared.picture.PicCoding.{PicCoding}
use Rattle.picture_grammar.specs.Macroblock.{has_motion_type, has_dct_type}
use Rattle.picture_grammar.specs.Written.{if_any}
use Rattle.prefix_codes.specs.TableName.{code_for}
use Rattle.macroblock_writer.proofs.Writing.{writes_beyond}
use Rattle.macroblock_writer.proofs.macroblock.write_modes.Goals as goal

abbrev motion_part : PicCoding → Macroblock → List ℕ
motion_part coding m = if has_motion_type coding m.kind then bits_of 2 m.motion_type else []

abbrev dct_part : PicCoding → Macroblock → List ℕ
dct_part coding m = if has_dct_type coding m.kind then flag m.field_dct ∷ [] else []

abbrev code_part : Macroblock → List ℕ
code_part m = if_any (bits_of 5) m.code

pub returns-in_err-write_code : goal.returns-in_err-write_code
returns-in_err-write_code g c =
    let coding = c.args.coding.now in
    let m = c.args.macroblock.now in
    writes_beyond c.from_residual.result (code_part m) c.from_residual.ensures.0
    (writes_beyond c.from_residual.result (dct_part coding m) c.from_residual.ensures.0
    (writes_exit c.from_residual.result (motion_part coding m) c.from_residual.ensures.1
    (writes_as c.in_err-write_code.ensures (ap₂ code_for c.type_table.ensures c.type_symbol.ensures))))

pub returns-in_err-put_where : goal.returns-in_err-put_where
returns-in_err-put_where g c =
    let coding = c.args.coding.now in
    let m = c.args.macroblock.now in
    writes_beyond c.from_residual-in_err-put_where.result (code_part m) c.from_residual-in_err-put_where.ensures.0
    (writes_exit c.from_residual-in_err-put_where.result (dct_part coding m) c.from_residual-in_err-put_where.ensures.1
    (writes_then g.met.K.Sink.keeps_on (writes_as c.in_ok-write_code.ensures (ap₂ code_for c.type_table.ensures c.type_symbol.ensures))
    (writes_as c.in_err-put_where.ensures (ap₂ (λ (b : Bool) (n : ℕ). if b then bits_of 2 n else []) c.has_motion_type.ensures c.from-motion_type.ensures))))

pub returns-in_err-put_flag_where : goal.returns-in_err-put_flag_where
returns-in_err-put_flag_where g c =
    let coding = c.args.coding.now in
    let m = c.args.macroblock.now in
    writes_exit c.from_residual-in_err-put_flag_where.result (code_part m) c.from_residual-in_err-put_flag_where.ensures.1
    (writes_then g.met.K.Sink.keeps_on
    (writes_then g.met.K.Sink.keeps_on (writes_as c.in_ok-write_code.ensures (ap₂ code_for c.type_table.ensures c.type_symbol.ensures))
    (writes_as c.in_ok-put_where.ensures (ap₂ (λ (b : Bool) (n : ℕ). if b then bits_of 2 n else []) c.has_motion_type.ensures c.from-motion_type.ensures)))
    (writes_as c.in_err-put_flag_where.ensures (ap (λ (b : Bool). if b then flag m.field_dct ∷ [] else []) c.has_dct_type.ensures)))

pub returns : goal.returns
returns g c =
    let m = c.args.macroblock.now in
    writes_then g.met.K.Sink.keeps_on
    (writes_then g.met.K.Sink.keeps_on
    (writes_then g.met.K.Sink.keeps_on (writes_as c.in_ok-write_code.ensures (ap₂ code_for c.type_table.ensures c.type_symbol.ensures))
    (writes_as c.in_ok-put_where.ensures (ap₂ (λ (b : Bool) (n : ℕ). if b then bits_of 2 n else []) c.has_motion_type.ensures c.from-motion_type.ensures)))
    (writes_as c.in_ok-put_flag_where.ensures (ap (λ (b : Bool). if b then flag m.field_dct ∷ [] else []) c.has_dct_type.ensures)))
    c.write_code_where.ensures
