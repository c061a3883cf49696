use Rattle.std.proofs.Common.{◌≡◌, ◌+◌, ◌*◌, ◌%◌, ◌^◌, ◌<◌, ◌≤◌, ℕ, Bool, true, false, List, [], ◌∷◌, ◌++◌, refl, ap, ◌∙◌, arith}
use mir.Val.{bool_byte}
use Rattle.std.specs.List.{flat_map}
use Rattle.bit_lists.specs.Bits.{bits_of}
use Rattle.bit_lists.specs.Fields.{flag}
use Rattle.bit_lists.proofs.JoinedLemmas.{bits_of-put}
use Rattle.bit_cursor.proofs.Composed.{writes_then, writes_exit}
use Rattle.block_coeffs.proofs.Writing.{writes_as, as_flag}
use Rattle.syntax_types.specs.declared.slice.SliceInfo.{SliceInfo}
use Rattle.macroblock_writer.specs.Private.Writing.{written_byte}
use Rattle.macroblock_writer.proofs.Writing.{writes_beyond}
use Rattle.macroblock_writer.proofs.slice.write_extension.Goals as goal

flag_bits : (is_set : Bool) → bits_of 2 (2 + flag is_set) ≡ 1 ∷ flag is_set ∷ []
unfolding bits_of
flag_bits true = refl
flag_bits false = refl

abbrev front : SliceInfo → List ℕ
front info = 1 ∷ flag info.intra_slice ∷ bits_of 7 info.reserved

-- the flags and the reserved bits in one number
front_bits : (info : SliceInfo) (f r : ℕ) → f ≡ bool_byte info.intra_slice → r ≡ info.reserved → info.reserved < 2 ^ 7 → bits_of 9 ((2 + f) * 2 ^ 7 % 2 ^ 32 + r) ≡ front info
front_bits info f r is same small =
    let f_is : f ≡ flag info.intra_slice = is ∙ as_flag info.intra_slice in
    let few : flag info.intra_slice ≤ 1 = flag_few info.intra_slice in
    let number : (2 + f) * 2 ^ 7 % 2 ^ 32 + r ≡ (2 + flag info.intra_slice) * 2 ^ 7 + info.reserved = omega arith in
    ap (bits_of 9) number ∙ bits_of-put 2 7 (2 + flag info.intra_slice) info.reserved small ∙ ap (λ bits. bits ++ bits_of 7 info.reserved) (flag_bits info.intra_slice)
  where
    flag_few : (b : Bool) → flag b ≤ 1
    flag_few true = omega arith
    flag_few false = omega arith

pub returns-in_err-put_bits : goal.returns-in_err-put_bits
returns-in_err-put_bits g c =
    let info = c.args.info.now in
    writes_beyond c.from_residual.result (0 ∷ []) c.from_residual.ensures.0
    (writes_exit c.from_residual.result (flat_map written_byte info.bytes) c.from_residual.ensures.1
    (writes_as c.in_err-put_bits.ensures.writes (front_bits info c.from-flags.result c.from.result c.from-flags.ensures c.from.ensures c.requires.reserved)))

pub returns-in_err-write_information : goal.returns-in_err-write_information
returns-in_err-write_information g c =
    let info = c.args.info.now in
    writes_exit c.from_residual-in_err-write_information.result (0 ∷ []) c.from_residual-in_err-write_information.ensures.1
    (writes_then g.met.K.Sink.keeps_on
    (writes_as c.in_ok-put_bits.ensures.writes (front_bits info c.from-flags.result c.from.result c.from-flags.ensures c.from.ensures c.requires.reserved))
    (writes_as c.in_err-write_information.ensures (ap (flat_map written_byte) c.as_slice.ensures)))

pub returns : goal.returns
unfolding bits_of
returns g c =
    let info = c.args.info.now in
    writes_then g.met.K.Sink.keeps_on
    (writes_then g.met.K.Sink.keeps_on
    (writes_as c.in_ok-put_bits.ensures.writes (front_bits info c.from-flags.result c.from.result c.from-flags.ensures c.from.ensures c.requires.reserved))
    (writes_as c.in_ok-write_information.ensures (ap (flat_map written_byte) c.as_slice.ensures)))
    c.put_bits-2.ensures.writes
