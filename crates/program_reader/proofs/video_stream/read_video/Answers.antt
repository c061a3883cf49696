use Rattle.std.proofs.Common.{◌≡◌, ◌+◌, ◌≤◌, ℕ, true, List, length, ap, subst, sym, ◌∙◌, arith}
use Rattle.ts_demux.specs.declared.demuxed.PesUnit.{PesUnit}
use Rattle.elementary_streams.specs.Taken.{AreTaken}
use Rattle.program_reader.proofs.ProgramLemmas.{video_is, bad_packets, bad_units, or_memory}
use Rattle.program_reader.proofs.SizedLemmas.{video_sizes}
use Rattle.program_reader.proofs.video_stream.read_video.Goals as goal

pub keep_units-requires-clause-video : goal.keep_units-requires-clause-video
keep_units-requires-clause-video c =
    video_is c.in-Ok.taken c.as_slice.result.now c.in-Ok.ensures (rw c.as_slice.ensures c.requires.few) (rw c.as_slice.ensures c.requires.size)

pub keep_units-requires-clause-few : goal.keep_units-requires-clause-few
keep_units-requires-clause-few c =
    let held = video_is c.in-Ok.taken c.as_slice.result.now c.in-Ok.ensures (rw c.as_slice.ensures c.requires.few) (rw c.as_slice.ensures c.requires.size) in
    let size : length c.as_slice-2.result.now ≡ length c.in-Ok.taken.payload.items = ap (λ (xs : List ℕ). length xs) c.as_slice-2.ensures.value in
    let cuts : length c.as_slice-3.result.now ≡ length c.in-Ok-split_units.units.cuts = ap (λ (xs : List (ℕ × ℕ)). length xs) c.as_slice-3.ensures in
    let few : length c.in-Ok-split_units.units.cuts ≤ length c.as_slice-2.result.now + 1 =
    c.cut_places.ensures.few c.as_slice-2.result.now c.in-Ok-split_units.units c.in-Ok-split_units.ensures.units in
    omega (arith, held.small, size, cuts, few)

pub returns-in-Ok-keep_units-clause-video : goal.returns-in-Ok-keep_units-clause-video
returns-in-Ok-keep_units-clause-video c = λ demuxed same. or_memory demuxed c.read_units.result
    (c.read_units.ensures.video demuxed (subst (λ (packets : List PesUnit). AreTaken true packets c.in-Ok.taken) (c.as_slice.ensures ∙ sym same) c.in-Ok.ensures))

pub returns-clause-video : goal.returns-clause-video
returns-clause-video c = λ demuxed same.
    bad_units demuxed c.in-Ok.taken c.in-Ok-split_units.units c.as_slice.result.now c.as_slice-2.result.now c.as_slice-3.result.now c.in-Err-keep_units.fault
    (c.as_slice.ensures ∙ sym same) c.in-Ok.ensures c.as_slice-2.ensures.value c.in-Ok-split_units.ensures.units c.as_slice-3.ensures c.in-Err-keep_units.ensures.kept

pub returns-in-Ok-keep_units-clause-sizes : goal.returns-in-Ok-keep_units-clause-sizes
returns-in-Ok-keep_units-clause-sizes c =
    video_sizes c.read_units.result c.in-Ok.taken.payload.items c.args.wanted.now.coarser.now c.args.wanted.now.are_wanted c.in-Ok-keep_units.kept.units.items c.keep_units.new.sizes.items
    c.read_units.ensures.bytes c.read_units.ensures.rows c.in-Ok-keep_units.ensures.sizes

pub returns-in-Err-clause-video : goal.returns-in-Err-clause-video
returns-in-Err-clause-video c = λ demuxed same.
    bad_packets demuxed c.as_slice.result.now c.in-Err.fault c.stream_refused.result (c.as_slice.ensures ∙ sym same) c.in-Err.ensures c.stream_refused.ensures
