use Rattle.std.proofs.Common.{◌≡◌, ℕ, List, ◌+◌, length, Some, Err, refl, ap, subst, ◌∙◌, arith}
use Rattle.std.proofs.lemmas.Result.{err_from_is_err_and}
use Rattle.bit_lists.specs.Fields.{bit_list}
use Rattle.syntax_types.specs.declared.slice.Slice.{Slice}
use Rattle.picture_grammar.specs.Slice.{slice}
use Rattle.picture_grammar.proofs.MacroblockLaws.{exact-slice}
use Rattle.video_headers.specs.Private.Reading.{Rests}
use Rattle.macroblock_reader.specs.SliceHead.{slice_head}
use Rattle.macroblock_reader.specs.SliceFault.{refusal_told}
use Rattle.picture_reader.proofs.Told.{reads-told, explains-told}
use Rattle.picture_reader.proofs.Slices.{inside-when, rest-dropped, head-told, rest-told, slice-spelled}
use Rattle.version_maker.specs.Private.Making.{slice_of}
use Rattle.version_maker.proofs.Infos.{head-code}
use Rattle.version_maker.proofs.MadeSlices.{head-fits}
use Rattle.shelf_io.proofs.Counted.{none-rose}
use Rattle.version_maker.proofs.slice_version.make_slice.Goals as goal

pub returns-in_err-head-clause-gives : goal.returns-in_err-head-clause-gives
returns-in_err-head-clause-gives g c =
    let bits = bit_list c.args.bytes.now in
    let has : Rests c.new-reader.result (length bits) bits = record
    { told = c.new-reader.ensures.left ∙ ap (λ b. Some (bit_list b)) c.new-source.ensures; ends = omega (arith, c.new-reader.ensures.place) } in
    let told = refusal_told c.in_err-head.field-0.0 in
    let p = err_from_is_err_and c.from_residual.result c.from_residual.ensures.1 in
    rw (p.1, p.2) (head-told c.args.picture.seq.now c.args.picture.coding.now c.args.row told (length bits) bits
    (explains-told slice_head c.new-reader.result (length bits) bits told c.in_err-head.ensures.refused has))

pub returns-in_err-head-clause-inside : goal.returns-in_err-head-clause-inside
returns-in_err-head-clause-inside g c =
    let p = err_from_is_err_and c.from_residual.result c.from_residual.ensures.1 in
    rw (p.1, p.2) (inside-when c.in_err-head.field-0.0 (λ e. none-rose (c.in_err-head.ensures.failed (ap Err e))) (λ e. none-rose (c.in_err-head.ensures.missing (ap Err e))))

pub returns-in_err-span-clause-gives : goal.returns-in_err-span-clause-gives
returns-in_err-span-clause-gives g c =
    let bits = bit_list c.args.bytes.now in
    let has : Rests c.new-reader.result (length bits) bits = record
    { told = c.new-reader.ensures.left ∙ ap (λ b. Some (bit_list b)) c.new-source.ensures; ends = omega (arith, c.new-reader.ensures.place) } in
    let (middle, s, left) = reads-told slice_head c.new-reader.result (length bits) bits c.read_slice_head.new.from c.in_ok-head.head c.in_ok-head.ensures.ok has in
    let told = refusal_told c.in_err-span.field-0.0 in
    let p = err_from_is_err_and c.from_residual-in_err-span.result c.from_residual-in_err-span.ensures.1 in
    rw (p.1, p.2) (rest-told c.args.picture.seq.now c.args.picture.coding.now c.args.row c.in_ok-head.head told (length bits) bits middle s (c.in_err-span.ensures.gives (length bits) middle left))

pub returns-in_err-span-clause-inside : goal.returns-in_err-span-clause-inside
returns-in_err-span-clause-inside g c =
    let p = err_from_is_err_and c.from_residual-in_err-span.result c.from_residual-in_err-span.ensures.1 in
    rw (p.1, p.2) (inside-when c.in_err-span.field-0.0 (λ e. none-rose (c.in_err-span.ensures.failed (ap Err e))) (λ e. none-rose (c.in_err-span.ensures.missing (ap Err e))))

pub returns-clause-gives : goal.returns-clause-gives
returns-clause-gives g c =
    let bits = bit_list c.args.bytes.now in
    let seq = c.args.picture.seq.now in
    let coding = c.args.picture.coding.now in
    let row = c.args.row in
    let head = c.in_ok-head.head in
    let has : Rests c.new-reader.result (length bits) bits = record
    { told = c.new-reader.ensures.left ∙ ap (λ b. Some (bit_list b)) c.new-source.ensures; ends = omega (arith, c.new-reader.ensures.place) } in
    let (middle, s, left) = reads-told slice_head c.new-reader.result (length bits) bits c.read_slice_head.new.from head c.in_ok-head.ensures.ok has in
    let all = c.in_ok-span.ensures.gives (length bits) middle left in
    let found : Slice = slice_of row head all.macroblocks in
    let spelled = slice-spelled seq coding row head all.macroblocks bits middle all.rest s all.spelled in
    let count : c.place-bits.result + length all.rest ≡ length bits = omega (arith, c.place-bits.ensures, all.left.ends) in
    let dropped = rest-dropped c.place-bits.result bits all.rest ((exact-slice seq coding row).spelled_front found bits all.rest spelled) count in
    record {
      found = found;
      spelled = subst (λ (b : List ℕ). (slice seq coding row).Spells found bits b) dropped spelled;
      within = omega (arith, count);
      in_row = refl;
      spans = all.spans;
      few = c.in_ok-span.ensures.few;
      to = all.to;
      coarser = all.coarser;
      adds = all.adds;
    }

pub make_behind_head-requires-clause-told : goal.make_behind_head-requires-clause-told
make_behind_head-requires-clause-told g c =
    let bits = bit_list c.args.bytes.now in
    let has : Rests c.new-reader.result (length bits) bits = record
    { told = c.new-reader.ensures.left ∙ ap (λ b. Some (bit_list b)) c.new-source.ensures; ends = omega (arith, c.new-reader.ensures.place) } in
    let (middle, s, left) = reads-told slice_head c.new-reader.result (length bits) bits c.read_slice_head.new.from c.in_ok-head.head c.in_ok-head.ensures.ok has in
    (length bits, middle, left)

pub make_behind_head-requires-clause-code : goal.make_behind_head-requires-clause-code
make_behind_head-requires-clause-code g c =
    let bits = bit_list c.args.bytes.now in
    let has : Rests c.new-reader.result (length bits) bits = record
    { told = c.new-reader.ensures.left ∙ ap (λ b. Some (bit_list b)) c.new-source.ensures; ends = omega (arith, c.new-reader.ensures.place) } in
    let (middle, s, left) = reads-told slice_head c.new-reader.result (length bits) bits c.read_slice_head.new.from c.in_ok-head.head c.in_ok-head.ensures.ok has in
    head-code c.in_ok-head.head bits middle s

pub make_behind_head-requires-clause-reserved : goal.make_behind_head-requires-clause-reserved
make_behind_head-requires-clause-reserved g c =
    let bits = bit_list c.args.bytes.now in
    let has : Rests c.new-reader.result (length bits) bits = record
    { told = c.new-reader.ensures.left ∙ ap (λ b. Some (bit_list b)) c.new-source.ensures; ends = omega (arith, c.new-reader.ensures.place) } in
    let (middle, s, left) = reads-told slice_head c.new-reader.result (length bits) bits c.read_slice_head.new.from c.in_ok-head.head c.in_ok-head.ensures.ok has in
    head-fits c.in_ok-head.head bits middle s
