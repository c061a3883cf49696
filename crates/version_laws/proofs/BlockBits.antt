-- How many bits a block is written in.
use Rattle.std.proofs.Common.{◌≡◌, ℕ, ◌+◌, ◌*◌, ◌≤◌, pos, unsigned_abs, Option, Some, None, List, [], ◌∷◌, ◌++◌, Bool, true, false, refl, sym, subst, arith, length}
use Rattle.std.specs.Prelude.{int_lt, if◌then◌else◌}
use Rattle.std.specs.List.{sum_by}
use Rattle.std.specs.Option.{option_map_or}
use Rattle.std.proofs.lemmas.List.{length-append}
use Rattle.std.proofs.lemmas.List.Sums.{sum_by-cons}
use Rattle.bit_lists.specs.Bits.{bits_of}
use Rattle.bit_lists.specs.Fields.{flag}
use Rattle.bit_lists.proofs.BitLemmas.{length-bits_of}
use Rattle.prefix_codes.specs.declared.symbol.TheConstants.{END_OF_BLOCK, ESCAPE}
use Rattle.prefix_codes.specs.declared.table_name.TableName.{TableName}
use Rattle.prefix_codes.specs.TableName.{coefficient_code, code_for}
use Rattle.syntax_types.specs.declared.block.Block.{Block}
use Rattle.syntax_types.specs.declared.block.BlockWay.{BlockWay}
use Rattle.syntax_types.specs.declared.block.Dc.{Dc}
use Rattle.syntax_types.specs.declared.block.RunLevel.{RunLevel}
use Rattle.picture_grammar.specs.Block.{coefficient_table, dc_coefficient, dc_table, first_place}
use Rattle.picture_grammar.specs.Grammar.{optional}
use Rattle.picture_grammar.specs.Written.{if_any, level_bits, written_block, written_coefficient, written_coefficients, written_dc, written_escape}
use Rattle.picture_laws.specs.Spellable.{HasSpellableCoefficients, IsSpellableBlock}
use Rattle.version_laws.proofs.Codes.{code-short, coefficient_code-short, dc_size-small}

dc-short : (intra : Bool) (way : BlockWay) (dc : Option Dc) (bits rest : List ℕ) → (optional intra (dc_coefficient way)).Spells dc bits rest → length (if_any (written_dc way) dc) ≤ 28
dc-short true way dc bits rest (value, m, (size, m1, (code, coded, passing, split), (number, m2, u, (e, f))), (e', f')) =
    let short : length (code_for (dc_table way.luma) size ++ bits_of size number) ≤ 28 = omega (
      arith,
      length-append (code_for (dc_table way.luma) size) (bits_of size number),
      code-short (dc_table way.luma) size,
      length-bits_of size number,
      dc_size-small way.luma size code coded,
    ) in
    subst (λ (o : Option Dc). length (if_any (written_dc way) o) ≤ 28) (sym e') (subst (λ (d : Dc). length (written_dc way d) ≤ 28) (sym e) short)
dc-short false way dc bits rest (e, f) = subst (λ (o : Option Dc). length (if_any (written_dc way) o) ≤ 28) (sym e) (omega arith)

escape-short : (table : TableName) (pair : RunLevel) → length (written_escape table pair) ≤ 35
escape-short table pair = omega (
  arith,
  length-append (code_for table ESCAPE ++ bits_of 6 pair.run) (bits_of 12 (level_bits pair.level)),
  length-append (code_for table ESCAPE) (bits_of 6 pair.run),
  code-short table ESCAPE,
  length-bits_of 6 pair.run,
  length-bits_of 12 (level_bits pair.level),
)

coefficient-short : (table : TableName) (pair : RunLevel) → length (written_coefficient table pair) ≤ 35
coefficient-short table pair = by_code (coefficient_code table pair.run (unsigned_abs pair.level)) refl
  where
    by_code : (found : Option (List ℕ)) → found ≡ coefficient_code table pair.run (unsigned_abs pair.level)
        → length (option_map_or (λ code. code ++ flag (int_lt pair.level (pos 0)) ∷ []) found (written_escape table pair)) ≤ 35
    by_code None is = escape-short table pair
    by_code (Some code) is = omega (arith, length-append code (flag (int_lt pair.level (pos 0)) ∷ []), coefficient_code-short table pair.run (unsigned_abs pair.level) code is)

coefficients-short : (way : BlockWay) (place : ℕ) (pairs : List RunLevel) → length (written_coefficients way place pairs) ≤ 35 * length pairs + 17
coefficients-short way place [] = omega (arith, code-short (coefficient_table way place) END_OF_BLOCK)
coefficients-short way place (pair ∷ pairs) = omega (
  arith,
  length-append (written_coefficient (coefficient_table way place) pair) (written_coefficients way (place + (pair.run + 1)) pairs),
  coefficient-short (coefficient_table way place) pair,
  coefficients-short way (place + (pair.run + 1)) pairs,
)

-- each coefficient has a place
few-pairs : (pairs : List RunLevel) → length pairs ≤ sum_by (λ pair. pair.run + 1) pairs
few-pairs [] = omega arith
few-pairs (pair ∷ pairs) = omega (arith, sum_by-cons (λ (p : RunLevel). p.run + 1) pair pairs, few-pairs pairs)

block-short : (way : BlockWay) (b : Block) → HasSpellableCoefficients way b → length (written_block way b) ≤ 2300
unfolding written_block
block-short way b has = omega (
  arith,
  length-append (if_any (written_dc way) b.dc) (written_coefficients way (first_place way) b.pairs.items),
  dc-short way.intra way b.dc has.dc.bits has.dc.rest has.dc.spelled,
  coefficients-short way (first_place way) b.pairs.items,
  few-pairs b.pairs.items,
  has.places,
)

-- a block where it is coded
pub coded-short : (coded : Bool) (way : BlockWay) (b : Block) → IsSpellableBlock coded way b → length (if coded then written_block way b else []) ≤ 2300
coded-short true way b has = block-short way b has
coded-short false way b has = omega arith
