use Rattle.std.proofs.Common.{◌+◌, ℕ, Option, Some, Result, refl, sym, ap, ◌∙◌, subst}
use Rattle.arrayvec.specs.ArrayVec.{ArrayVec}
use Rattle.psi_tables.specs.declared.section.SectionFault.{SectionFault}
use Rattle.psi_tables.specs.SectionBuilder.{found_of}
use Rattle.ts_packets.specs.TransportStream.{pid_pieces}
use Rattle.ts_demux.specs.Faults.{of_section}
use Rattle.ts_demux.specs.Tables.{refuse, StopsFirst, IsBadPmt}
use Rattle.ts_demux.specs.Private.SectionReader.{ReadsNext}
use Rattle.ts_demux.proofs.WalkSteps.{map_there, map_all_read, map_refuses, map_read}
use Rattle.ts_demux.proofs.KnownPid.{map_section_knows}
use Rattle.ts_demux.proofs.table_walk.TableWalk.read_map_section.Goals as goal

pub returns-in_default-clause-read : goal.returns-in_default-clause-read
returns-in_default-clause-read c file within =
    let reads = c.next.ensures.read (pid_pieces file within.pid within.from (c.args.n + 1)) within.waiting within.map in (
      map_all_read file c.args.n c.args.self.now c.next.new.self within
          (subst (λ (found : Option (Result (ArrayVec ℕ) SectionFault)). ReadsNext
          (pid_pieces file within.pid within.from (c.args.n + 1)) within.waiting found c.next.new.self) c.in_default.is reads),
      refl,
    )

pub returns-in-Err-clause-read : goal.returns-in-Err-clause-read
returns-in-Err-clause-read c file within =
    let reads = c.in-Some.ensures.read (pid_pieces file within.pid within.from (c.args.n + 1)) within.waiting within.map in
    let there = map_there file c.args.n c.args.self.now c.in-Some.found c.next.new.self within reads in
    let bad : IsBadPmt (found_of c.in-Some.found) c.in-Err.fault = subst (λ (found : Result (ArrayVec ℕ) SectionFault). IsBadPmt (found_of found) c.in-Err.fault) (sym c.in-Err.is) refl in
    subst (λ fault. StopsFirst file c.args.self.now.program (refuse fault)) (sym (c.section_refused.ensures ∙ ap (λ at. of_section at c.in-Err.fault) c.place_of.ensures))
    (map_refuses file c.args.n c.args.self.now (found_of c.in-Some.found) c.in-Err.fault within there bad)

pub returns-clause-read : goal.returns-clause-read
returns-clause-read c file within =
    let reads = c.in-Some.ensures.read (pid_pieces file within.pid within.from (c.args.n + 1)) within.waiting within.map in
    let reads_it = subst (λ (found : Result (ArrayVec ℕ) SectionFault). ReadsNext
    (pid_pieces file within.pid within.from (c.args.n + 1)) within.waiting (Some found) c.next.new.self) c.in-Ok.is reads in
    map_read file c.args.n c.args.self.now c.in-Ok.section c.next.new.self c.read_program_map.result within reads_it c.read_program_map.ensures

pub returns-clause-known : goal.returns-clause-known
returns-clause-known c file within = map_section_knows file c.args.n c.args.self.now c.read_program_map.result within
