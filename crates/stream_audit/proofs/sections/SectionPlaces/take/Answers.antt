use Rattle.std.proofs.Common.{ap, ◌∙◌, subst}
use Rattle.std.specs.Option.{option_to_list}
use Rattle.ts_demux.specs.PidPlaces.{AddsPlace}
use Rattle.ts_demux.specs.Tables.{pat_pid}
use Rattle.stream_audit.proofs.SystemLaws.{section_found}
use Rattle.stream_audit.proofs.sections.SectionPlaces.take.Goals as goal

pub returns-clause-taken : goal.returns-clause-taken
returns-clause-taken c file map_pid within bytes_are stand =
    let pat : AddsPlace file pat_pid c.args.n c.in-Ok.found = subst (λ pid. AddsPlace file pid c.args.n c.in-Ok.found) stand.pat_pid_is (c.in-Ok.ensures.taken file within bytes_are stand.pat) in
    let map_adds : AddsPlace file map_pid c.args.n c.in-Ok-take.found = subst (λ pid. AddsPlace file pid c.args.n c.in-Ok-take.found) stand.map_pid_is
    (c.in-Ok-take.ensures.taken file within bytes_are stand.map) in
    record {
      found_is = ap option_to_list c.or.ensures ∙ section_found file map_pid c.args.n c.in-Ok.found c.in-Ok-take.found pat map_adds;
      pat_sound = pat.sound;
      map_sound = map_adds.sound;
    }
