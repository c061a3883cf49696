use Rattle.std.proofs.Common.{ℕ, List, length, map, ap, ◌∙◌}
use Rattle.pes_units.specs.VideoHeader.{written_pes_header}
use Rattle.version_maker.specs.declared.version.VersionSize.{VersionSize}
use Rattle.program_table.specs.Private.Rows.{with_header}
use Rattle.program_table.proofs.sized_row.row_of_sized_unit.Goals as goal
use Rattle.program_table.proofs.Rows.{unit_with}

pub returns : goal.returns
returns c =
    let unit = c.args.unit.now in
    ap (unit_with unit.due)
    (c.with_headers.ensures ∙ ap (λ (n : ℕ). map (with_header n c.args.weight) c.as_slice.result.now) c.header_bytes-header.ensures.value
    ∙ ap (λ (sizes : List VersionSize). map (with_header (length (written_pes_header unit.times)) c.args.weight) sizes) c.as_slice.ensures.value)
