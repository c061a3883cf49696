use Rattle.std.proofs.Common.{ℕ, List, subst, arith}
use Rattle.std.specs.Option.{option_copied}
use Rattle.bit_lists.specs.Fields.{bit_list}
use Rattle.picture_laws.proofs.WrittenPicture.{code_bounds}
use Rattle.picture_reader.specs.declared.cursor.UnitPart.{UnitPart}
use Rattle.picture_reader.specs.UnitCursor.{IsNextPart, SliceBegins, bits_from}
use Rattle.picture_reader.proofs.Parts.{are-bytes}
use Rattle.picture_reader.proofs.Units.{head-coding}
use Rattle.requantiser.proofs.SpelledHeads.{head-usable}
use Rattle.version_maker.specs.Private.Making.{IsMadeSlice}
use Rattle.version_maker.proofs.MadeUnits.{all-made, head-delay, none-made, one-more-made}
use Rattle.version_maker.proofs.version_write.make_version.Goals as goal

pub write_head-requires-clause-delay : goal.write_head-requires-clause-delay
write_head-requires-clause-delay g c =
    let before = option_copied c.args.before in
    let unit = c.args.unit.now in
    let headers = c.in-Ok.cursor.headers in
    head-delay before unit headers (are-bytes unit (λ i. omega (arith, c.type_inv.unit i))) c.in-Ok.ensures.headed

pub slices-init : goal.slices-init
slices-init g c =
    let before = option_copied c.args.before in
    let unit = c.args.unit.now in
    let (head, without, written) = c.in_ok-write_head.ensures in
    none-made before unit head c.args.m c.in-Ok.cursor (g.K.Sink.written c.args.to.now) (g.K.Sink.written c.write_head.new.to) c.in-Ok.ensures
    without written

pub make_slice-requires-clause-coding : goal.make_slice-requires-clause-coding
make_slice-requires-clause-coding g c =
    let unit = c.args.unit.now in
    head-coding (option_copied c.args.before) unit (are-bytes unit (λ i. omega (arith, c.type_inv.unit i))) c.slices.cursor.headers c.slices.invariant.stands.headed

pub make_slice-requires-clause-weights : goal.make_slice-requires-clause-weights
make_slice-requires-clause-weights g c =
    let unit = c.args.unit.now in
    let headers = c.slices.cursor.headers in
    (head-usable (option_copied c.args.before) (headers.seq, headers.coding) (bit_list unit) (bits_from unit headers.slices_at) c.requires.before c.slices.invariant.stands.headed.spelled).weights

pub make_slice-requires-clause-row : goal.make_slice-requires-clause-row
make_slice-requires-clause-row g c =
    let before = option_copied c.args.before in
    let unit = c.args.unit.now in
    let inv = c.slices.invariant in
    let begins : SliceBegins inv.slices unit c.slices.cursor c.in-Slice.row c.in-Slice.at =
    subst (λ (p : UnitPart). IsNextPart before unit inv.slices c.slices.cursor p) c.in-Slice.is (c.in-Ok-next.ensures before inv.slices inv.stands) in
    let bounds = code_bounds begins.code begins.comes.is_one in
    omega (arith, begins.in_row, bounds.0, bounds.1)

pub slices-preserved : goal.slices-preserved
slices-preserved g c =
    let before = option_copied c.args.before in
    let unit = c.args.unit.now in
    let inv = c.slices.invariant in
    let cursor = c.slices.cursor in
    let seq = cursor.headers.seq in
    let coding = cursor.headers.coding in
    let made = c.in-Ok-make_slice.made in
    let told = g.K.Sink.written c.args.to.now in
    let mid = g.K.Sink.written c.slices.to in
    let after = g.K.Sink.written c.make_slice.new.to in
    let is : IsMadeSlice seq coding c.args.m c.in-Slice.row made (bits_from unit c.in-Slice.at) mid after =
    subst (λ (b : List ℕ). IsMadeSlice seq coding c.args.m c.in-Slice.row made (bit_list b) mid after) c.bytes_from-bytes.ensures c.in-Ok-make_slice.ensures.gives in
    let begins = subst (λ (p : UnitPart). IsNextPart before unit inv.slices cursor p) c.in-Slice.is (c.in-Ok-next.ensures before inv.slices inv.stands) in
    let stands = c.past-cursor.ensures.stands before inv.slices is.found inv.stands begins (record { spelled = is.spelled; within = is.within; in_row = is.in_row; spans = is.spans }) in
    one-more-made before unit c.args.m c.in-Slice.row (bits_from unit c.in-Slice.at) cursor c.past-cursor.result made told mid after inv is stands c.past-cursor.ensures.headers

pub returns-in-End : goal.returns-in-End
returns-in-End g c =
    let before = option_copied c.args.before in
    let unit = c.args.unit.now in
    let inv = c.slices.invariant in
    let cursor = c.slices.cursor in
    let whole = subst (λ (p : UnitPart). IsNextPart before unit inv.slices cursor p) c.in-End.is (c.in-Ok-next.ensures before inv.slices inv.stands) in
    all-made before unit c.args.m cursor c.in-End.sequence_end (g.K.Sink.written c.args.to.now) (g.K.Sink.written c.slices.to) (g.K.Sink.written c.write_last.new.to) inv whole
    c.in_ok-write_last-in-End.ensures
