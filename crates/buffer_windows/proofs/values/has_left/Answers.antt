use Rattle.std.proofs.Common.{◌*◌, nat_le, nat_lt, length, List, sym, ap, ◌∙◌}
use Rattle.std.specs.List.{list_any}
use Rattle.stream_constants.specs.declared.decoder.TheConstants.{EB_UNIT_BYTES}
use Rattle.version_table.specs.declared.table.Version.{Version}
use Rattle.buffer_windows.specs.Values.{versions_left}
use Rattle.buffer_windows.proofs.OwnedCosts.{left_is}
use Rattle.buffer_windows.proofs.values.has_left.Goals as goal

pub returns-in-None : goal.returns-in-None
returns-in-None c =
    let items = ap (λ (versions : List Version). list_any (λ (version : Version). nat_le version.bytes (EB_UNIT_BYTES * c.args.vbv)) versions) c.as_slice.ensures.value in
    λ program. c.one_fits.ensures ∙ items ∙ sym (left_is program c.args.vbv c.args.unit.now)
    ∙ ap (λ entry. nat_lt 0 (length (versions_left (record { program = program; vbv = c.args.vbv; unit = c.args.unit.now }) entry))) (sym c.in-None.is)
