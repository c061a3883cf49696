use Rattle.std.proofs.Common.{◌≡◌, ◌*◌, ◌<◌, nat_le, List, length, get_or, sym, ap, ◌∙◌, arith}
use Rattle.std.specs.List.{list_all}
use Rattle.std.proofs.lemmas.List.{get_or_default}
use Rattle.stream_constants.specs.declared.decoder.TheConstants.{EB_UNIT_BYTES}
use Rattle.version_table.specs.declared.table.Unit.{Unit as CodedUnit}
use Rattle.version_table.specs.declared.table.Version.{Version}
use Rattle.certificate_checker.proofs.Units.{no_unit}
use Rattle.buffer_windows.specs.Charges.{OwnedUnit}
use Rattle.branch_plan.proofs.Owned.{fits_is, from_first, in_row, no_owned, own, owned_count}
use Rattle.branch_plan.proofs.fitting.each_fits.Goals as goal

pub loop-program-init : goal.loop-program-init
loop-program-init c =
    let all = from_first c.args.table.now c.as_slice-program-items.result.now c.as_slice-program-items.ensures in
    record {
      unit = ap (λ (os : List OwnedUnit). get_or os c.args.unit no_owned) all;
      within = omega (arith, c.requires, owned_count c.args.table.now, ap (λ (os : List OwnedUnit). length os) all);
    }

pub returns-then-rest-units : goal.returns-then-rest-units
returns-then-rest-units c =
    let row = c.program-item.result in
    let rest = c.loop-program.rest in
    let low : rest < length row.units = omega (arith, c.if-rest-units.true, ap (λ (us : List CodedUnit). length us) c.as_slice-units.ensures) in
    let at = in_row c.args.table.now c.as_slice-program-items.result.now c.loop-program.program-index rest c.args.unit row c.loop-program-test.true c.program-item.is
    c.loop-program.invariant.unit low in
    let unit_is : get_or c.as_slice-units.result.now rest c.index-units-rest.result ≡ get_or row.units rest no_unit =
    ap (λ (us : List CodedUnit). get_or us rest c.index-units-rest.result) c.as_slice-units.ensures ∙ get_or_default row.units rest c.index-units-rest.result no_unit low in
    let versions = c.as_slice.ensures.value ∙ ap (λ (u : CodedUnit). u.versions.items) unit_is in
    c.all_fit.ensures ∙ ap (λ (vs : List Version). list_all (λ (version : Version). nat_le version.bytes (EB_UNIT_BYTES * row.vbv)) vs) versions
    ∙ sym (fits_is c.args.table.now c.args.unit (own c.loop-program.program-index row.vbv (get_or row.units rest no_unit)) at)
