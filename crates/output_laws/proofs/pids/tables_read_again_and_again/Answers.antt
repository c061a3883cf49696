use Rattle.std.proofs.Common.{◌-◌, ◌<◌, List, length, drop, ap, subst, ◌∙◌, arith}
use Rattle.std.proofs.lemmas.List.Elements.{All-drop, All-get_or, All-take}
use Rattle.std.proofs.lemmas.Option.{get_or_from_slice_get, slice_get_within}
use Rattle.psi_tables.specs.Sections.{sections_of}
use Rattle.slot_rule.specs.declared.sent.Sent.{Sent}
use Rattle.mux_writer.specs.Layout.{map_pid}
use Rattle.mux_writer.specs.Output.{IsOfLayout, payload_count}
use Rattle.mux_writer.specs.Pieces.{IsPayload}
use Rattle.mux_writer.specs.Tables.{pat_section, pmt_section}
use Rattle.output_laws.specs.Fields.{IsMapInRange}
use Rattle.output_laws.specs.SentOn.{slots_between}
use Rattle.output_laws.proofs.OwnPids.{pats-sent, pmts-sent}
use Rattle.output_laws.proofs.pids.tables_read_again_and_again.Goals as goal

pub returns-clause-pat : goal.returns-clause-pat
returns-clause-pat c layout slot pieces rows from to are begun within =
    let part : List Sent = slots_between rows from to in
    let each = All-take (IsOfLayout layout (IsPayload pieces)) (to - from) (drop from rows) (All-drop (IsOfLayout layout (IsPayload pieces)) from rows are.each) in
    ap sections_of (c.pids_read_as_sent.ensures.carried layout slot pieces rows 0 from to are (λ same. omega (arith, same)) begun within ∙ pats-sent layout pieces part are.is_layout are.few each)
    ∙ c.section_sent_again_and_again.ensures.again (pat_section layout) (183 - length (pat_section layout)) (payload_count layout 0 part)
    (c.pat_read_as_written.ensures.found layout are.few are.in_range)

pub returns-clause-pmt : goal.returns-clause-pmt
returns-clause-pmt c layout slot pieces rows program from to program_map are found begun within =
    let part : List Sent = slots_between rows from to in
    let each = All-take (IsOfLayout layout (IsPayload pieces)) (to - from) (drop from rows) (All-drop (IsOfLayout layout (IsPayload pieces)) from rows are.each) in
    let inside : program < length layout.maps.items = slice_get_within layout.maps.items program program_map found in
    let goes = are.is_layout.maps program program_map found in
    let range : IsMapInRange program_map =
    subst IsMapInRange (get_or_from_slice_get layout.maps.items program program_map program_map found) (All-get_or IsMapInRange layout.maps.items program program_map inside are.in_range.maps) in
    ap sections_of (c.pids_read_as_sent.ensures.carried layout slot pieces rows (map_pid program) from to are (λ same. omega (arith, same, inside, are.few)) begun within
    ∙ pmts-sent layout pieces part program program_map are.is_layout are.few each found)
    ∙ c.section_sent_again_and_again.ensures.again (pmt_section program_map) (183 - length (pmt_section program_map)) (payload_count layout (map_pid program) part)
    (c.pmt_read_as_written.ensures.found program_map goes.writable range goes.fits)
