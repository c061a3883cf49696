use Rattle.std.proofs.Common.{ℕ, List, [], ◌∷◌, ◌++◌, map, take, ap, sym, ◌∙◌, arith, length, length-append}
use Rattle.std.proofs.lemmas.List.{map_more}
use Rattle.psi_tables.specs.declared.program_map.ProgramMap.{ProgramMap}
use Rattle.psi_tables.specs.Sections.{section_payload}
use Rattle.mux_writer.specs.Layout.{IsOutputMap}
use Rattle.mux_writer.specs.Tables.{pmt_section}
use Rattle.mux_writer.proofs.Pids.{map-read}
use Rattle.mux_writer.proofs.prepared.pmts_of.Goals as goal

pub pmt_of-requires-clause-writable : goal.pmt_of-requires-clause-writable
pmt_of-requires-clause-writable c =
    let is : IsOutputMap c.loop-map.map-index c.map-item.result =
    map-read c.args.layout.now c.as_slice-map-items.result.now c.loop-map.map-index c.map-item.result c.requires c.as_slice-map-items.ensures.value c.loop-map-test.true c.map-item.is in
    is.writable

pub pmt_of-requires-clause-fits : goal.pmt_of-requires-clause-fits
pmt_of-requires-clause-fits c =
    let is : IsOutputMap c.loop-map.map-index c.map-item.result =
    map-read c.args.layout.now c.as_slice-map-items.result.now c.loop-map.map-index c.map-item.result c.requires c.as_slice-map-items.ensures.value c.loop-map-test.true c.map-item.is in
    is.fits

pub loop-map-preserved : goal.loop-map-preserved
loop-map-preserved c =
    let maps : List ProgramMap = c.as_slice-map-items.result.now in
    let n : ℕ = c.loop-map.map-index in
    let payload : ProgramMap → List ℕ = λ program_map. section_payload (pmt_section program_map) in
    record {
      size = omega (arith, c.loop-map.invariant.size, ap length c.push.ensures.items, length-append c.loop-map.payloads.items (c.pmt_of.result ∷ []));
      payloads =
          c.push.ensures.items
          ∙ ap (λ (front : List (List ℕ)). front ++ c.pmt_of.result ∷ []) c.loop-map.invariant.payloads
          ∙ ap (λ (last : List ℕ). map payload (take n maps) ++ last ∷ []) (c.pmt_of.ensures ∙ ap payload c.map-item.is)
          ∙ sym (map_more payload maps n c.map-item.result c.loop-map-test.true);
    }
