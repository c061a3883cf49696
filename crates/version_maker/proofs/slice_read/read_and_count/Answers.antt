use Rattle.std.proofs.Common.{◌≡◌, ℕ, List, ◌+◌, ◌^◌, get_or, length, Some, Err, refl, ap, subst, ◌∙◌, arith}
use Rattle.std.proofs.lemmas.Result.{err_from_is_err_and}
use Rattle.bit_lists.specs.Fields.{bit_list}
use Rattle.bit_lists.proofs.ByteLemmas.{length-bit_list}
use Rattle.syntax_types.specs.declared.slice.Slice.{Slice}
use Rattle.picture_grammar.specs.Grammar.{many}
use Rattle.picture_grammar.specs.Slice.{next_macroblock, slice}
use Rattle.picture_grammar.proofs.MacroblockLaws.{exact-slice}
use Rattle.video_headers.specs.Private.Reading.{Rests}
use Rattle.macroblock_reader.specs.SliceHead.{slice_head}
use Rattle.macroblock_reader.specs.SliceFault.{refusal_told}
use Rattle.picture_reader.proofs.Told.{reads-told, explains-told}
use Rattle.picture_reader.proofs.Slices.{inside-when, rest-dropped, head-told, rest-told, slice-spelled}
use Rattle.picture_reader.specs.Told.{RefusesTold}
use Rattle.version_maker.specs.declared.slice_count.VersionCount.{VersionCount}
use Rattle.version_maker.proofs.Infos.{head-code, head-info-few}
use Rattle.shelf_io.proofs.Counted.{none-rose}
use Rattle.version_maker.proofs.slice_read.read_and_count.Goals as goal

pub returns-in_err-head-clause-gives : goal.returns-in_err-head-clause-gives
returns-in_err-head-clause-gives c = λ row.
    let bits = bit_list c.args.bytes.now in
    let has : Rests c.new-reader.result (length bits) bits = record
    { told = c.new-reader.ensures.left ∙ ap (λ b. Some (bit_list b)) c.new-source.ensures; ends = omega (arith, c.new-reader.ensures.place) } in
    let told = refusal_told c.in_err-head.field-0.0 in
    let p = err_from_is_err_and c.from_residual.result c.from_residual.ensures.1 in
    rw (p.1, p.2) (head-told c.args.picture.seq.now c.args.picture.coding.now row told (length bits) bits
    (explains-told slice_head c.new-reader.result (length bits) bits told c.in_err-head.ensures.refused has))

pub returns-in_err-head-clause-inside : goal.returns-in_err-head-clause-inside
returns-in_err-head-clause-inside c =
    let p = err_from_is_err_and c.from_residual.result c.from_residual.ensures.1 in
    rw (p.1, p.2) (inside-when c.in_err-head.field-0.0 (λ e. none-rose (c.in_err-head.ensures.failed (ap Err e))) (λ e. none-rose (c.in_err-head.ensures.missing (ap Err e))))

pub start_counts-requires-clause-code : goal.start_counts-requires-clause-code
start_counts-requires-clause-code c =
    let bits = bit_list c.args.bytes.now in
    let has : Rests c.new-reader.result (length bits) bits = record
    { told = c.new-reader.ensures.left ∙ ap (λ b. Some (bit_list b)) c.new-source.ensures; ends = omega (arith, c.new-reader.ensures.place) } in
    let (middle, s, left) = reads-told slice_head c.new-reader.result (length bits) bits c.read_slice_head.new.from c.in_ok-head.head c.in_ok-head.ensures.ok has in
    head-code c.in_ok-head.head bits middle s

pub count_macroblocks-requires-clause-code : goal.count_macroblocks-requires-clause-code
count_macroblocks-requires-clause-code c =
    let bits = bit_list c.args.bytes.now in
    let has : Rests c.new-reader.result (length bits) bits = record
    { told = c.new-reader.ensures.left ∙ ap (λ b. Some (bit_list b)) c.new-source.ensures; ends = omega (arith, c.new-reader.ensures.place) } in
    let (middle, s, left) = reads-told slice_head c.new-reader.result (length bits) bits c.read_slice_head.new.from c.in_ok-head.head c.in_ok-head.ensures.ok has in
    head-code c.in_ok-head.head bits middle s

pub count_macroblocks-requires-clause-told : goal.count_macroblocks-requires-clause-told
count_macroblocks-requires-clause-told c =
    let bits = bit_list c.args.bytes.now in
    let has : Rests c.new-reader.result (length bits) bits = record
    { told = c.new-reader.ensures.left ∙ ap (λ b. Some (bit_list b)) c.new-source.ensures; ends = omega (arith, c.new-reader.ensures.place) } in
    let (middle, s, left) = reads-told slice_head c.new-reader.result (length bits) bits c.read_slice_head.new.from c.in_ok-head.head c.in_ok-head.ensures.ok has in
    (middle, left.told)

pub returns-in_err-span-clause-gives : goal.returns-in_err-span-clause-gives
returns-in_err-span-clause-gives c = λ row.
    let bits = bit_list c.args.bytes.now in
    let seq = c.args.picture.seq.now in
    let coding = c.args.picture.coding.now in
    let has : Rests c.new-reader.result (length bits) bits = record
    { told = c.new-reader.ensures.left ∙ ap (λ b. Some (bit_list b)) c.new-source.ensures; ends = omega (arith, c.new-reader.ensures.place) } in
    let (middle, s, left) = reads-told slice_head c.new-reader.result (length bits) bits c.read_slice_head.new.from c.in_ok-head.head c.in_ok-head.ensures.ok has in
    let told = refusal_told c.in_err-span.field-0.0 in
    let refused = subst (λ (n : ℕ). RefusesTold (many (next_macroblock seq coding)) told n middle) left.ends (c.in_err-span.ensures.gives middle left.told) in
    let p = err_from_is_err_and c.from_residual-in_err-span.result c.from_residual-in_err-span.ensures.1 in
    rw (p.1, p.2) (rest-told seq coding row c.in_ok-head.head told (length bits) bits middle s refused)

pub returns-in_err-span-clause-inside : goal.returns-in_err-span-clause-inside
returns-in_err-span-clause-inside c =
    let p = err_from_is_err_and c.from_residual-in_err-span.result c.from_residual-in_err-span.ensures.1 in
    rw (p.1, p.2) (inside-when c.in_err-span.field-0.0 (λ e. none-rose (c.in_err-span.ensures.failed (ap Err e))) (λ e. none-rose (c.in_err-span.ensures.missing (ap Err e))))

pub info_bits-slice-requires : goal.info_bits-slice-requires
info_bits-slice-requires c =
    let bits = bit_list c.args.bytes.now in
    let has : Rests c.new-reader.result (length bits) bits = record
    { told = c.new-reader.ensures.left ∙ ap (λ b. Some (bit_list b)) c.new-source.ensures; ends = omega (arith, c.new-reader.ensures.place) } in
    let (middle, s, left) = reads-told slice_head c.new-reader.result (length bits) bits c.read_slice_head.new.from c.in_ok-head.head c.in_ok-head.ensures.ok has in
    head-info-few c.in_ok-head.head bits middle (2 ^ 32) (omega (arith, length-bit_list c.args.bytes.now, c.requires.length)) s

pub returns-clause-gives : goal.returns-clause-gives
returns-clause-gives c = λ row.
    let bits = bit_list c.args.bytes.now in
    let seq = c.args.picture.seq.now in
    let coding = c.args.picture.coding.now in
    let head = c.in_ok-head.head in
    let has : Rests c.new-reader.result (length bits) bits = record
    { told = c.new-reader.ensures.left ∙ ap (λ b. Some (bit_list b)) c.new-source.ensures; ends = omega (arith, c.new-reader.ensures.place) } in
    let (middle, s, left) = reads-told slice_head c.new-reader.result (length bits) bits c.read_slice_head.new.from head c.in_ok-head.ensures.ok has in
    let all = c.in_ok-span.ensures.gives middle left.told in
    let found : Slice = record { row = row; code = head.code; info = head.info; macroblocks = all.macroblocks } in
    let spelled = slice-spelled seq coding row head all.macroblocks bits middle all.rest s all.spelled in
    let count : c.place-slice.result + length all.rest ≡ length bits = omega (arith, c.place-slice.ensures, all.ends, left.ends) in
    let dropped = rest-dropped c.place-slice.result bits all.rest ((exact-slice seq coding row).spelled_front found bits all.rest spelled) count in
    record {
      found = found;
      spelled = subst (λ (b : List ℕ). (slice seq coding row).Spells found bits b) dropped spelled;
      within = omega (arith, count);
      in_row = refl;
      counted = record {
        info = c.info_bits-slice.ensures.value;
        few_info = c.info_bits-slice.ensures.few;
        spans = all.spans;
        few = all.few;
        each = λ k d below.
            let is = c.start_counts.ensures k d below in
            let start : VersionCount = get_or c.start_counts.new.counts k d in
            record {
              start = start.state;
              ratio = is.ratio;
              source_code = is.source_code;
              version_code = is.version_code;
              skipped = is.skipped;
              counted = all.each k d below;
            };
      };
    }
