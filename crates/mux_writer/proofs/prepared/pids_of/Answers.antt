use Rattle.std.proofs.Common.{ℕ, List, [], ◌++◌, length, take, get_or, ap, sym, ◌∙◌, arith, length-append}
use Rattle.std.specs.List.{flat_map}
use Rattle.std.proofs.lemmas.List.{flat_map_more, length-map, take_more}
use Rattle.psi_tables.specs.declared.program_map.ProgramMap.{ProgramMap}
use Rattle.psi_tables.specs.Pmt.{pids_of}
use Rattle.mux_writer.specs.Layout.{IsOutputMap}
use Rattle.mux_writer.proofs.Pids.{map-read}
use Rattle.mux_writer.proofs.prepared.pids_of.Goals as goal

pub put_pids-requires : goal.put_pids-requires
put_pids-requires c =
    let is : IsOutputMap c.loop-map.map-index c.map-item.result =
    map-read c.args.layout.now c.as_slice-map-items.result.now c.loop-map.map-index c.map-item.result c.requires c.as_slice-map-items.ensures.value c.loop-map-test.true c.map-item.is in
    omega (arith, is.few, c.loop-map.invariant.size, c.loop-map-test.true, c.as_slice-map-items.ensures.fits)

pub loop-map-preserved : goal.loop-map-preserved
loop-map-preserved c =
    let maps : List ProgramMap = c.as_slice-map-items.result.now in
    let n : ℕ = c.loop-map.map-index in
    let read : ProgramMap = c.map-item.result in
    let is : IsOutputMap n read = map-read c.args.layout.now maps n read c.requires c.as_slice-map-items.ensures.value c.loop-map-test.true c.map-item.is in
    record {
      size = omega (
        arith,
        is.few,
        c.loop-map.invariant.size,
        ap length c.put_pids.ensures,
        length-append c.loop-map.pids.items (pids_of read),
        length-map read.streams.items (λ stream. stream.pid),
      );
      pids =
          c.put_pids.ensures
          ∙ ap (λ (bytes : List ℕ). bytes ++ pids_of read) c.loop-map.invariant.pids
          ∙ ap (λ (m : ProgramMap). flat_map pids_of (take n maps) ++ pids_of m) c.map-item.is
          ∙ flat_map_more pids_of [] (take n maps) (get_or maps n read)
          ∙ ap (λ (front : List ProgramMap). flat_map pids_of front) (sym (take_more maps n read c.loop-map-test.true));
    }
