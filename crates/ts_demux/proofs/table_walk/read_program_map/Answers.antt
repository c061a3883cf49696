use Rattle.std.proofs.Common.{Option, Ok, subst, ap, ◌∙◌, IfSome}
use Rattle.psi_tables.specs.declared.program_map.ProgramMap.{ProgramMap}
use Rattle.psi_tables.specs.Pmt.{IsPmt, HasRoom}
use Rattle.psi_tables.proofs.PmtFunction.{pmt_made}
use Rattle.ts_demux.specs.Faults.{of_section}
use Rattle.ts_demux.proofs.Readings.{SaysMap, bad_map, no_map, sound_map, other_map}
use Rattle.ts_demux.proofs.table_walk.read_program_map.Goals as goal

pub returns-in-Err : goal.returns-in-Err
returns-in-Err c = (
  c.in-Err.fault,
  bad_map c.args.section.now.items c.in-Err.fault (record { none = c.in-Err.ensures.none; only = c.in-Err.ensures.only }) c.in-Err.ensures.bad,
  c.section_refused.ensures ∙ ap (λ at. of_section at c.in-Err.fault) c.place_of.ensures,
)

pub returns-in_default : goal.returns-in_default
returns-in_default c =
    let says : SaysMap c.args.section.now.items (Ok c.in-Ok.said) = record { none = c.in-Ok.ensures.none; only = c.in-Ok.ensures.only } in
    no_map c.args.program c.args.section.now.items (subst (λ (said : Option ProgramMap). SaysMap c.args.section.now.items (Ok said)) c.in_default.is says)

pub returns-then-map-program : goal.returns-then-map-program
returns-then-map-program c =
    let says : SaysMap c.args.section.now.items (Ok c.in-Ok.said) = record { none = c.in-Ok.ensures.none; only = c.in-Ok.ensures.only } in
    let is = subst (λ (said : Option ProgramMap). IfSome said (λ (map : ProgramMap). IsPmt map c.args.section.now.items × HasRoom map)) c.in-Some.is c.in-Ok.ensures.map in (
      sound_map c.args.section.now.items c.in-Some.map is,
      other_map c.args.program c.args.section.now.items c.in-Some.map
          (subst (λ (said : Option ProgramMap). SaysMap c.args.section.now.items (Ok said)) c.in-Some.is says) c.if-map-program.true,
    )

pub returns : goal.returns
returns c =
    let is = subst (λ (said : Option ProgramMap). IfSome said (λ (map : ProgramMap). IsPmt map c.args.section.now.items × HasRoom map)) c.in-Some.is c.in-Ok.ensures.map in
    (pmt_made c.args.section.now.items c.in-Some.map is.0 is.1, c.if-map-program.false)
