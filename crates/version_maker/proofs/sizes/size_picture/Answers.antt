use Rattle.std.proofs.Common.{◌++◌, ◌∷◌, ◌+◌, ◌<◌, ℕ, List, [], length, take, refl, sym, ap, ap₂, subst, ◌∙◌, arith}
use Rattle.std.specs.Prelude.{map}
use Rattle.std.specs.List.{refill}
use Rattle.std.specs.Option.{option_copied}
use Rattle.std.proofs.lemmas.List.{length-append, length-take-le}
use Rattle.bit_lists.specs.Fields.{AreBytes, bit_list}
use Rattle.syntax_types.specs.declared.slice.Slice.{Slice}
use Rattle.video_headers.specs.declared.head.Headers.{Headers}
use Rattle.picture_reader.specs.declared.cursor.UnitPart.{UnitPart}
use Rattle.picture_reader.specs.UnitCursor.{IsNextPart, bits_from, picture_of}
use Rattle.picture_reader.proofs.Parts.{are-bytes}
use Rattle.picture_reader.proofs.Units.{head-coding}
use Rattle.requantiser.proofs.SpelledHeads.{head-usable}
use Rattle.version_maker.specs.declared.version.VersionSize.{VersionSize}
use Rattle.version_maker.specs.Versions.{AreSizes}
use Rattle.version_maker.specs.Private.Read.{IsSliceRead}
use Rattle.version_maker.specs.Private.Sized.{AreSized, IsSized, first_size, with_bytes}
use Rattle.version_maker.proofs.SizedPictures.{sized-headers}
use Rattle.version_maker.proofs.SizedSlices.{all-zip-length, refill-all}
use Rattle.version_maker.proofs.UnitSizes.{unit-sizes}
use Rattle.version_maker.proofs.sizes.size_picture.Goals as goal

pub read_and_count-requires-clause-coding : goal.read_and_count-requires-clause-coding
read_and_count-requires-clause-coding c =
    let unit = c.args.unit.now in
    head-coding (option_copied c.args.before) unit (are-bytes unit (λ i. omega (arith, c.type_inv.unit i))) c.slices.cursor.headers c.slices.invariant.stands.headed

pub read_and_count-requires-clause-weights : goal.read_and_count-requires-clause-weights
read_and_count-requires-clause-weights c =
    let unit = c.args.unit.now in
    let headers = c.slices.cursor.headers in
    (head-usable (option_copied c.args.before) (headers.seq, headers.coding) (bit_list unit) (bits_from unit headers.slices_at) c.requires.before c.slices.invariant.stands.headed.spelled).weights

pub past-cursor-requires-clause-bits : goal.past-cursor-requires-clause-bits
past-cursor-requires-clause-bits c =
    let unit = c.args.unit.now in
    let headers = c.slices.cursor.headers in
    let coarser = c.args.coarser.now in
    let read = c.read_and_count.new.slice in
    let w : IsSliceRead headers.seq headers.coding coarser c.in-Slice.row read (bits_from unit c.in-Slice.at) =
    subst (λ (b : List ℕ). IsSliceRead headers.seq headers.coding coarser c.in-Slice.row read (bit_list b)) c.bytes_from-bytes.ensures (c.in-Ok-read_and_count.ensures.gives c.in-Slice.row) in
    w.within

pub past-cursor-requires-clause-some : goal.past-cursor-requires-clause-some
past-cursor-requires-clause-some c =
    let unit = c.args.unit.now in
    let headers = c.slices.cursor.headers in
    let coarser = c.args.coarser.now in
    let read = c.read_and_count.new.slice in
    let w : IsSliceRead headers.seq headers.coding coarser c.in-Slice.row read (bits_from unit c.in-Slice.at) =
    subst (λ (b : List ℕ). IsSliceRead headers.seq headers.coding coarser c.in-Slice.row read (bit_list b)) c.bytes_from-bytes.ensures (c.in-Ok-read_and_count.ensures.gives c.in-Slice.row) in
    w.counted.spans.some

pub past-cursor-requires-clause-few : goal.past-cursor-requires-clause-few
past-cursor-requires-clause-few c =
    let unit = c.args.unit.now in
    let headers = c.slices.cursor.headers in
    let coarser = c.args.coarser.now in
    let read = c.read_and_count.new.slice in
    let w : IsSliceRead headers.seq headers.coding coarser c.in-Slice.row read (bits_from unit c.in-Slice.at) =
    subst (λ (b : List ℕ). IsSliceRead headers.seq headers.coding coarser c.in-Slice.row read (bit_list b)) c.bytes_from-bytes.ensures (c.in-Ok-read_and_count.ensures.gives c.in-Slice.row) in
    w.counted.few

pub add_slice-requires-clause-counted : goal.add_slice-requires-clause-counted
add_slice-requires-clause-counted c =
    let unit = c.args.unit.now in
    let headers = c.slices.cursor.headers in
    let coarser = c.args.coarser.now in
    let read = c.read_and_count.new.slice in
    let w : IsSliceRead headers.seq headers.coding coarser c.in-Slice.row read (bits_from unit c.in-Slice.at) =
    subst (λ (b : List ℕ). IsSliceRead headers.seq headers.coding coarser c.in-Slice.row read (bit_list b)) c.bytes_from-bytes.ensures (c.in-Ok-read_and_count.ensures.gives c.in-Slice.row) in (
      headers.seq,
      headers.coding,
      coarser,
      w.found,
      w.counted,
      all-zip-length (IsSized headers.seq headers.coding c.slices.invariant.slices) coarser c.slices.sizes.items c.slices.invariant.sized
          ∙ ap (λ (xs : List VersionSize). length xs) (sym c.as_mut_slice.ensures.value),
    )

pub add_slice-requires-clause-few : goal.add_slice-requires-clause-few
add_slice-requires-clause-few c =
    let headers = c.slices.cursor.headers in
    let inv = c.slices.invariant in
    omega (
      arith,
      ap (λ (xs : List VersionSize). length xs) c.as_mut_slice.ensures.value,
      all-zip-length (IsSized headers.seq headers.coding inv.slices) c.args.coarser.now c.slices.sizes.items inv.sized,
      c.requires.coarser,
    )

pub slices-preserved : goal.slices-preserved
slices-preserved c =
    let before = option_copied c.args.before in
    let unit = c.args.unit.now in
    let coarser = c.args.coarser.now in
    let inv = c.slices.invariant in
    let cursor = c.slices.cursor in
    let seq = cursor.headers.seq in
    let coding = cursor.headers.coding in
    let read = c.read_and_count.new.slice in
    let w : IsSliceRead seq coding coarser c.in-Slice.row read (bits_from unit c.in-Slice.at) =
    subst (λ (b : List ℕ). IsSliceRead seq coding coarser c.in-Slice.row read (bit_list b)) c.bytes_from-bytes.ensures (c.in-Ok-read_and_count.ensures.gives c.in-Slice.row) in
    let begins = subst (λ (p : UnitPart). IsNextPart before unit inv.slices cursor p) c.in-Slice.is (c.in-Ok-next.ensures before inv.slices inv.stands) in
    let sizes = c.slices.sizes.items in
    let more : List Slice = inv.slices ++ w.found ∷ [] in
    record {
      slices = more;
      stands = c.past-cursor.ensures.stands before inv.slices w.found inv.stands begins
          (record { spelled = w.spelled; within = w.within; in_row = w.in_row; spans = w.counted.spans });
      few = omega (arith, inv.few, begins.onward, c.past-cursor.ensures.onward, length-append inv.slices (w.found ∷ []));
      sized = subst (λ (h : Headers). AreSized h.seq h.coding more coarser (refill (length sizes) sizes c.add_slice.new.sizes)) (sym c.past-cursor.ensures.headers)
          (subst (AreSized seq coding more coarser)
          (sym (refill-all (length sizes) sizes c.add_slice.new.sizes (c.add_slice.ensures.as_many ∙ ap (λ (xs : List VersionSize). length xs) c.as_mut_slice.ensures.value)))
          (c.add_slice.ensures.sized seq coding coarser w.found inv.slices w.counted
          (subst (AreSized seq coding inv.slices coarser) (sym c.as_mut_slice.ensures.value) inv.sized)));
    }

pub all_sizes-requires : goal.all_sizes-requires
all_sizes-requires c =
    let headers = c.slices.cursor.headers in
    let inv = c.slices.invariant in
    let few : length c.as_slice.result.now < 8 = omega (
      arith,
      ap (λ (xs : List VersionSize). length xs) c.as_slice.ensures.value,
      all-zip-length (IsSized headers.seq headers.coding inv.slices) c.args.coarser.now c.slices.sizes.items inv.sized,
      c.requires.coarser,
    ) in
    record { few = few }

pub returns-in-End : goal.returns-in-End
returns-in-End c =
    let before = option_copied c.args.before in
    let unit = c.args.unit.now in
    let coarser = c.args.coarser.now in
    let inv = c.slices.invariant in
    let cursor = c.slices.cursor in
    let headers = cursor.headers in
    let are : AreBytes unit = are-bytes unit (λ i. omega (arith, c.type_inv.unit i)) in
    let picture = picture_of headers (take headers.slices_at unit) inv.slices c.in-End.sequence_end in
    let whole = subst (λ (p : UnitPart). IsNextPart before unit inv.slices cursor p) c.in-End.is (c.in-Ok-next.ensures before inv.slices inv.stands) in
    let around : ℕ = headers.slices_at + c.end_bytes.result in
    let sizes = unit-sizes before picture unit coarser around c.slices.sizes.items c.requires.before are whole
    (omega (arith, length-take-le headers.slices_at unit inv.stands.headed.within, c.end_bytes.ensures.value))
    (omega (arith, inv.stands.headed.within, c.requires.unit, c.end_bytes.ensures.few))
    (omega (arith, inv.few, inv.stands.within, c.requires.unit)) inv.sized in
    let told : AreSizes before unit coarser c.all_sizes.result.items =
    subst (AreSizes before unit coarser) (sym (c.all_sizes.ensures ∙ ap₂ (λ (n : ℕ) (xs : List VersionSize). first_size n ∷ map (with_bytes around) xs) refl c.as_slice.ensures.value)) sizes in
    record {
      sizes_are = told;
      headed = sized-headers before unit coarser c.all_sizes.result.items headers inv.slices c.in-End.sequence_end told inv.stands.headed.within whole;
    }
