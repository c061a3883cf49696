use Rattle.std.proofs.Common.{◌≡◌, ◌+◌, ℕ, true, false, Option, Some, Result, Ok, refl, sym, ap, ◌∙◌, subst}
use Rattle.arrayvec.specs.ArrayVec.{ArrayVec}
use Rattle.psi_tables.specs.declared.section.SectionFault.{SectionFault}
use Rattle.psi_tables.specs.SectionBuilder.{found_of}
use Rattle.ts_packets.specs.TransportStream.{pid_pieces}
use Rattle.ts_demux.specs.Faults.{of_section}
use Rattle.ts_demux.specs.Tables.{pat_pid, refuse, StopsFirst, IsSection, IsBadPat}
use Rattle.ts_demux.specs.Private.SectionReader.{ReadsNext}
use Rattle.ts_demux.specs.Private.TableWalk.{is_on_pat_pid}
use Rattle.ts_demux.proofs.WalkSteps.{pat_there, pat_all_read, pat_refuses, pat_goes_on, pat_map_read}
use Rattle.ts_demux.proofs.KnownPid.{pat_section_knows}
use Rattle.ts_demux.proofs.table_walk.TableWalk.read_pat_section.Goals as goal

pub returns-in_default-clause-read : goal.returns-in_default-clause-read
returns-in_default-clause-read c file within =
    let reads = c.next.ensures.read (pid_pieces file pat_pid 0 (c.args.n + 1)) within.waiting within.pat in (
      pat_all_read file c.args.n c.args.self.now c.next.new.self within
          (subst (λ (found : Option (Result (ArrayVec ℕ) SectionFault)). ReadsNext
          (pid_pieces file pat_pid 0 (c.args.n + 1)) within.waiting found c.next.new.self) c.in_default.is reads),
      refl,
    )

pub returns-in-Err-clause-read : goal.returns-in-Err-clause-read
returns-in-Err-clause-read c file within =
    let reads = c.in-Some.ensures.read (pid_pieces file pat_pid 0 (c.args.n + 1)) within.waiting within.pat in
    let there = pat_there file c.args.n c.args.self.now c.in-Some.found c.next.new.self within reads in
    let bad : IsBadPat (found_of c.in-Some.found) c.in-Err.fault = subst (λ (found : Result (ArrayVec ℕ) SectionFault). IsBadPat (found_of found) c.in-Err.fault) (sym c.in-Err.is) refl in
    subst (λ fault. StopsFirst file c.args.self.now.program (refuse fault)) (sym (c.section_refused.ensures ∙ ap (λ at. of_section at c.in-Err.fault) c.place_of.ensures))
    (pat_refuses file c.args.n c.args.self.now (found_of c.in-Some.found) c.in-Err.fault within there bad)

pub returns-in-Err-known_behind-clause-read : goal.returns-in-Err-known_behind-clause-read
returns-in-Err-known_behind-clause-read c file within =
    let reads = c.in-Some.ensures.read (pid_pieces file pat_pid 0 (c.args.n + 1)) within.waiting within.pat in
    let there = pat_there file c.args.n c.args.self.now c.in-Some.found c.next.new.self within reads in
    let here : IsSection file pat_pid 0 c.args.n within.done (Ok c.in-Ok.section.items) = subst
    (λ (found : Result (ArrayVec ℕ) SectionFault). IsSection file pat_pid 0 c.args.n within.done (found_of found)) c.in-Ok.is there
    in
    subst (λ fault. StopsFirst file c.args.self.now.program (refuse fault))
    (sym (c.section_refused-in-Err-known_behind.ensures ∙ ap
    (λ at. of_section at c.in-Err-known_behind.fault) c.place_of-in-Err-known_behind.ensures))
    (pat_refuses file c.args.n c.args.self.now (Ok c.in-Ok.section.items) c.in-Err-known_behind.fault within here c.in-Err-known_behind.ensures)

pub returns-then-not-is_on_pat_pid-clause-read : goal.returns-then-not-is_on_pat_pid-clause-read
returns-then-not-is_on_pat_pid-clause-read c file within =
    let reads = c.in-Some.ensures.read (pid_pieces file pat_pid 0 (c.args.n + 1)) within.waiting within.pat in
    let reads_it = subst (λ (found : Result (ArrayVec ℕ) SectionFault). ReadsNext (pid_pieces file pat_pid 0 (c.args.n + 1)) within.waiting (Some found) c.next.new.self) c.in-Ok.is reads in
    let off : is_on_pat_pid c.args.self.now.known ≡ false = sym c.is_on_pat_pid.ensures ∙ c.if-not-is_on_pat_pid.true in (
      pat_goes_on file c.args.n c.args.self.now c.in-Ok.section c.in-Ok-known_behind.known c.next.new.self within reads_it
          c.in-Ok-known_behind.ensures (λ on. let e : false ≡ true = sym off ∙ on in absurd cc),
      refl,
    )

pub returns-clause-read : goal.returns-clause-read
returns-clause-read c file within =
    let reads = c.in-Some.ensures.read (pid_pieces file pat_pid 0 (c.args.n + 1)) within.waiting within.pat in
    let reads_it = subst (λ (found : Result (ArrayVec ℕ) SectionFault). ReadsNext (pid_pieces file pat_pid 0 (c.args.n + 1)) within.waiting (Some found) c.next.new.self) c.in-Ok.is reads in
    let on : is_on_pat_pid c.args.self.now.known ≡ true = sym c.is_on_pat_pid.ensures ∙ c.if-not-is_on_pat_pid.false in
    pat_map_read file c.args.n c.args.self.now c.in-Ok.section c.in-Ok-known_behind.known c.next.new.self c.read_program_map.result within
    reads_it c.in-Ok-known_behind.ensures on c.read_program_map.ensures

pub returns-clause-known : goal.returns-clause-known
returns-clause-known c file within =
    pat_section_knows file c.args.n c.args.self.now c.in-Ok.section.items c.in-Ok-known_behind.known c.read_program_map.result within
    (sym c.is_on_pat_pid.ensures ∙ c.if-not-is_on_pat_pid.false) c.in-Ok-known_behind.ensures.1
