use Rattle.std.proofs.Common.{◌≡◌, ◌+◌, ◌<◌, ◌≤◌, ℕ, [], ◌++◌, drop, get_or, length, pos, ap, ap₂, sym, ◌∙◌, subst, arith}
use Rattle.prefix_codes.specs.declared.symbol.TheConstants.{END_OF_BLOCK}
use Rattle.prefix_codes.specs.declared.table_name.TableName.{TableName}
use Rattle.syntax_types.specs.declared.block.RunLevel.{RunLevel}
use Rattle.bit_cursor.proofs.Composed.{writes_none, writes_then, writes_exit}
use Rattle.picture_grammar.specs.Written.{written_coefficient, written_coefficients}
use Rattle.prefix_codes.specs.TableName.{code_for}
use Rattle.picture_grammar.specs.Block.{first_place}
use Rattle.block_coeffs.specs.Private.Writing.{CanFollow}
use Rattle.block_coeffs.proofs.Blocks.{later-table}
use Rattle.block_coeffs.proofs.Writing.{writes_as, one_more, others_follow, only_the_end, as_flag}
use Rattle.block_coeffs.proofs.written.write_coefficients.Goals as goal

-- what stands past the end of the pairs
abbrev no_pair : RunLevel
no_pair = record { run = 0; level = pos 0 }

pub loop-pair-init : goal.loop-pair-init
loop-pair-init g c =
    let place : c.from-place.result ≡ first_place c.args.way = c.from-place.ensures ∙ as_flag c.args.way.intra in
    record {
      done = [];
      put = writes_none (tt {0}) c.args.to.now g.met.K.Sink.keeps_itself c.requires.goes;
      table = c.table_at-table.ensures.table;
      coefficients = c.table_at-table.ensures.coefficients;
      rest = ap (λ n. written_coefficients c.args.way n c.args.pairs.now) place;
      stand = subst (λ n. CanFollow n c.args.pairs.now) (sym place) c.requires.stand;
    }

pub returns-in_err-write_coefficient : goal.returns-in_err-write_coefficient
returns-in_err-write_coefficient g c =
    let within : c.loop-pair.pair-index < length c.args.pairs.now = omega (arith, c.loop-pair-test.true) in
    let pair = get_or c.args.pairs.now c.loop-pair.pair-index no_pair in
    let more = written_coefficients c.args.way (c.loop-pair.place + (pair.run + 1)) (drop (c.loop-pair.pair-index + 1) c.args.pairs.now) in
    writes_as (writes_exit c.from_residual.result more c.from_residual.ensures.1 (writes_then g.met.K.Sink.keeps_on c.loop-pair.invariant.put c.in_err-write_coefficient.ensures))
    (ap (λ table. (c.loop-pair.invariant.done ++ written_coefficient table pair) ++ more) c.loop-pair.invariant.table
    ∙ one_more c.args.way c.loop-pair.place c.loop-pair.pair-index c.args.pairs.now c.loop-pair.invariant.done
    (written_coefficients c.args.way (first_place c.args.way) c.args.pairs.now) c.loop-pair.invariant.rest no_pair within)

pub loop-pair-preserved : goal.loop-pair-preserved
loop-pair-preserved g c =
    let within : c.loop-pair.pair-index < length c.args.pairs.now = omega (arith, c.loop-pair-test.true) in
    let pair = get_or c.args.pairs.now c.loop-pair.pair-index no_pair in
    record {
      done = c.loop-pair.invariant.done ++ written_coefficient c.loop-pair.table pair;
      put = writes_then g.met.K.Sink.keeps_on c.loop-pair.invariant.put c.in_ok-write_coefficient.ensures;
      rest =
          ap₂ (λ (table : TableName) (run : ℕ). (c.loop-pair.invariant.done ++ written_coefficient table pair)
          ++ written_coefficients c.args.way (c.loop-pair.place + (run + 1)) (drop (c.loop-pair.pair-index + 1) c.args.pairs.now))
          c.loop-pair.invariant.table c.from.ensures
          ∙ one_more c.args.way c.loop-pair.place c.loop-pair.pair-index c.args.pairs.now c.loop-pair.invariant.done
          (written_coefficients c.args.way (first_place c.args.way) c.args.pairs.now) c.loop-pair.invariant.rest no_pair within;
      table = c.table_at-later.ensures.table ∙ sym (later-table c.args.way (c.loop-pair.place + (c.from.result + 1)) (omega arith));
      coefficients = c.table_at-later.ensures.coefficients;
      stand = subst (λ run. CanFollow (c.loop-pair.place + (run + 1)) (drop (c.loop-pair.pair-index + 1) c.args.pairs.now)) (sym c.from.ensures)
          (others_follow c.args.way c.loop-pair.place c.loop-pair.pair-index c.args.pairs.now c.loop-pair.invariant.done
          (written_coefficients c.args.way (first_place c.args.way) c.args.pairs.now) c.loop-pair.invariant.rest no_pair within
          c.loop-pair.invariant.stand);
    }

pub returns : goal.returns
returns g c =
    let past : length c.args.pairs.now ≤ c.loop-pair.pair-index = omega (arith, c.loop-pair-test.false) in
    writes_as (writes_then g.met.K.Sink.keeps_on c.loop-pair.invariant.put c.write_code.ensures)
    (ap (λ table. c.loop-pair.invariant.done ++ code_for table END_OF_BLOCK) c.loop-pair.invariant.table
    ∙ only_the_end c.args.way c.loop-pair.place c.loop-pair.pair-index c.args.pairs.now c.loop-pair.invariant.done
    (written_coefficients c.args.way (first_place c.args.way) c.args.pairs.now) c.loop-pair.invariant.rest past)
