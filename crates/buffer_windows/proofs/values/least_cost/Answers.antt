use Rattle.std.proofs.Common.{◌*◌, List, nat_le, map, filter, get_or, sym, ap, ◌∙◌}
use Rattle.version_table.specs.declared.table.Version.{Version}
use Rattle.version_table.specs.Choice.{least}
use Rattle.stream_constants.specs.declared.decoder.TheConstants.{EB_UNIT_BYTES}
use Rattle.buffer_windows.specs.Charges.{OwnedUnit}
use Rattle.buffer_windows.specs.Private.Prices.{cost_at}
use Rattle.buffer_windows.specs.Values.{versions_left}
use Rattle.buffer_windows.proofs.OwnedCosts.{least_cost-is}
use Rattle.buffer_windows.proofs.values.least_cost.Goals as goal

abbrev none : Version
none = record { bytes = 0; distortion = 0 }

pub returns-in-Some-clause-value : goal.returns-in-Some-clause-value
returns-in-Some-clause-value c =
    let unit : OwnedUnit = record { program = c.args.owner.number; vbv = c.args.owner.vbv; unit = c.args.unit.now } in
    let prices = c.near_prices-prices.result in
    let items = ap (λ (versions : List Version). cost_at prices (get_or versions c.from.result none)) c.deref.ensures.0 in
    let place = ap (λ k. cost_at prices (get_or c.args.unit.now.versions.items k none)) c.from.ensures in
    c.cost.ensures.value ∙ items ∙ place
    ∙ sym (least_cost-is c.args.owner.slot c.args.windows.now unit prices c.near_prices-prices.ensures.value c.args.fixed
    ∙ ap (λ entry. least (map (cost_at prices) (versions_left unit entry))) c.in-Some.is)

pub returns-in-None-clause-value : goal.returns-in-None-clause-value
returns-in-None-clause-value c =
    let unit : OwnedUnit = record { program = c.args.owner.number; vbv = c.args.owner.vbv; unit = c.args.unit.now } in
    let prices = c.near_prices-prices.result in
    let items = ap (λ (versions : List Version). least (map (cost_at prices) (filter (λ version. nat_le version.bytes (EB_UNIT_BYTES * c.args.owner.vbv)) versions))) c.as_slice.ensures.value in
    c.least_of_versions.ensures.value ∙ items
    ∙ sym (least_cost-is c.args.owner.slot c.args.windows.now unit prices c.near_prices-prices.ensures.value c.args.fixed
    ∙ ap (λ entry. least (map (cost_at prices) (versions_left unit entry))) c.in-None.is)
