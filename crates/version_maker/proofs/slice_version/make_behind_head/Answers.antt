use Rattle.std.proofs.Common.{◌≡◌, ◌+◌, ◌%◌, ◌++◌, ℕ, List, rules, refl, ap, length, arith}
use Rattle.std.proofs.lemmas.Result.{err_from_is_err_and}
use Rattle.std.specs.List.{flat_map}
use Rattle.bit_lists.specs.Bits.{bits_of}
use Rattle.bit_cursor.specs.BitWriter.{odd_bits}
use Rattle.bit_cursor.proofs.Composed.{gets_odd}
use Rattle.syntax_types.specs.declared.slice.Slice.{Slice}
use Rattle.stream_constants.specs.declared.start_codes.TheConstants.{FIRST_SLICE}
use Rattle.picture_grammar.specs.StartCode.{start_code_bits}
use Rattle.picture_grammar.specs.Written.{written_macroblock, written_slice_info}
use Rattle.requantiser.specs.Steps.{MakeSlice, made_by, taken_by}
use Rattle.requantiser.proofs.Steps.{steps-make}
use Rattle.macroblock_writer.proofs.Going.{goes-as, goes-then}
use Rattle.version_maker.specs.Private.Making.{slice_of}
use Rattle.version_maker.proofs.MadeSlices.{goes-finished, whole-slice}
use Rattle.version_maker.proofs.slice_version.make_behind_head.Goals as goal

pub write_front-requires-clause-code : goal.write_front-requires-clause-code
write_front-requires-clause-code g c = c.new-start.ensures.version_code.is_code

pub returns-in_err-span-clause-gives : goal.returns-in_err-span-clause-gives
returns-in_err-span-clause-gives g c = λ end bits has.
    let p = err_from_is_err_and c.from_residual-in_err-span.result c.from_residual-in_err-span.ensures.1 in
    rw (p.1, p.2) (c.in_err-span.ensures.gives end bits has)

pub write_close-requires : goal.write_close-requires
write_close-requires g c =
    let (end, bits, has) = c.requires.told in
    record { goes = (c.in_ok-span.ensures.gives end bits has).goes.goes }

pub returns-clause-gives : goal.returns-clause-gives
returns-clause-gives g c = λ end bits has.
    let seq = c.args.picture.seq.now in
    let coding = c.args.picture.coding.now in
    let head = c.args.head.now in
    let row = c.args.row in
    let start = c.new-start.result in
    let made = c.in_ok-span.ensures.gives end bits has in
    let from : Slice = slice_of row head (taken_by made.steps) in
    let to : Slice = record { row = row; code = start.version_code; info = head.info; macroblocks = made_by made.steps } in
    let makes : MakeSlice seq coding c.args.m from to made.steps = record {
      start = start;
      ratio = c.new-start.ensures.ratio;
      source_code = c.new-start.ensures.source_code;
      version_code = c.new-start.ensures.version_code;
      skipped = c.new-start.ensures.skipped;
      in_order = made.in_order;
      taken = refl;
      row = refl;
      code = refl;
      info = refl;
      macroblocks = refl;
    } in
    let both = goes-then c.in_ok-write_front.ensures made.goes in
    let front : List ℕ = start_code_bits (row + FIRST_SLICE) ++ (bits_of 5 start.version_code ++ written_slice_info head.info) in
    let behind : List ℕ = flat_map (written_macroblock coding) (made_by made.steps) in
    let odd : odd_bits c.make_macroblocks.new.to ≡ length (front ++ behind) % 8 =
    (let all = gets_odd both.puts in omega (arith, all, ap length c.new-writer.ensures.none_waits)) in
    let all = goes-as (goes-then both c.in_ok-write_close.ensures.closes)
    (whole-slice coding row start.version_code (odd_bits c.make_macroblocks.new.to) head.info (made_by made.steps) odd) in
    record {
      macroblocks = taken_by made.steps;
      rest = made.rest;
      spelled = made.spelled;
      left = made.left;
      spans = made.spans;
      to = to;
      coarser = steps-make seq coding c.args.m from to made.steps makes;
      adds = goes-finished c.finish.result c.finish.new.self.0 c.in_ok-in_memory.ensures (ap g.K.Sink.written c.new-writer.ensures.sink) c.new-writer.ensures.none_waits all c.finish.ensures.ok
          (search rules);
    }
