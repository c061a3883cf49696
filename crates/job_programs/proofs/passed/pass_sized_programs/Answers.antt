use Rattle.std.proofs.Common.{◌≡◌, ℕ, ◌+◌, ◌<◌, List, [], ◌∷◌, ◌++◌, length, take, map, get_or, take_all, Contains, refl, sym, subst, ◌∙◌, arith}
use Rattle.std.proofs.lemmas.Result.{err_from_is_err_and}
use Rattle.job_report.specs.declared.job.ProgramJob.{ProgramJob}
use Rattle.job_programs.specs.Private.Passed.{PassedSoFar}
use Rattle.job_programs.proofs.Asks.{asks-more, asks-none, counts-more, counts-same, file-stands}
use Rattle.job_programs.proofs.Ends.{ends_behind, ends_still, no_rise}
use Rattle.job_programs.proofs.PassedLemmas.{passed-all, passed-more, passed-start, read-before}
use Rattle.job_programs.proofs.ReadLemmas.{stopped}
use Rattle.job_programs.proofs.passed.pass_sized_programs.Goals as goal

pub returns-in_err-next-clause-cause : goal.returns-in_err-next-clause-cause
returns-in_err-next-clause-cause g c =
    let p = err_from_is_err_and c.from_residual.result c.from_residual.ensures.1 in
    let l = c.loop-wanted in
    let job = c.args.job.now in
    let wanted = c.wanted-item.result in
    let told = g.K.Shelf.files c.args.shelf.now in
    let same = c.as_slice-jobs.ensures in
    let within = subst (λ (jobs : List ProgramJob). l.wanted-index < length jobs) same c.loop-wanted-test.true in
    let is = subst (λ (jobs : List ProgramJob). wanted ≡ get_or jobs l.wanted-index wanted) same c.wanted-item.is in
    let read = read-before told job.slot job.start (take l.wanted-index job.programs) l.programs l.sizes l.bytes l.units
    (subst (λ (jobs : List ProgramJob). PassedSoFar told job.slot job.start (take l.wanted-index jobs) l.programs l.sizes l.bytes l.units) same l.invariant.read) in
    rw (p.1, p.2) (stopped told (g.K.Shelf.files l.shelf) job l.wanted-index wanted read.0 l.bytes l.units l.place c.as_str.result.now c.as_slice.result.now c.as_slice-in-loop-wanted.result.now
    (g.K.Shelf.counts c.args.shelf.now) (g.K.Shelf.counts l.shelf) (g.K.Shelf.counts c.pass_next.new.shelf) (g.K.Shelf.since_fault c.pass_next.new.shelf)
    c.in_err-next.field-0.0 l.invariant.files c.as_str.ensures c.as_slice.ensures.value c.as_slice-in-loop-wanted.ensures.value l.invariant.place within is read.1
    l.invariant.counts c.pass_next.ensures.counts c.in_err-next.ensures.cause)

pub returns-in_err-next-clause-asked : goal.returns-in_err-next-clause-asked
returns-in_err-next-clause-asked g c =
    let l = c.loop-wanted in
    let wanted = c.wanted-item.result in
    let same = c.as_slice-jobs.ensures in
    let within = subst (λ (jobs : List ProgramJob). l.wanted-index < length jobs) same c.loop-wanted-test.true in
    let is = subst (λ (jobs : List ProgramJob). wanted ≡ get_or jobs l.wanted-index wanted) same c.wanted-item.is in
    let stands = subst (λ (name : List ℕ). Contains (map (λ (job : ProgramJob). job.file) c.args.job.now.programs) name) (sym c.as_str.ensures)
    (file-stands c.args.job.now.programs l.wanted-index wanted within is) in
    asks-more c.args.job.now.programs c.as_str.result.now (g.K.Shelf.asked c.args.shelf.now) (g.K.Shelf.asked l.shelf) (g.K.Shelf.asked c.pass_next.new.shelf)
    stands l.invariant.asked c.pass_next.ensures.asked

pub returns-in_err-push-clause-asked : goal.returns-in_err-push-clause-asked
returns-in_err-push-clause-asked g c =
    let l = c.loop-wanted in
    let wanted = c.wanted-item.result in
    let same = c.as_slice-jobs.ensures in
    let within = subst (λ (jobs : List ProgramJob). l.wanted-index < length jobs) same c.loop-wanted-test.true in
    let is = subst (λ (jobs : List ProgramJob). wanted ≡ get_or jobs l.wanted-index wanted) same c.wanted-item.is in
    let stands = subst (λ (name : List ℕ). Contains (map (λ (job : ProgramJob). job.file) c.args.job.now.programs) name) (sym c.as_str.ensures)
    (file-stands c.args.job.now.programs l.wanted-index wanted within is) in
    asks-more c.args.job.now.programs c.as_str.result.now (g.K.Shelf.asked c.args.shelf.now) (g.K.Shelf.asked l.shelf) (g.K.Shelf.asked c.pass_next.new.shelf)
    stands l.invariant.asked c.pass_next.ensures.asked

pub returns-in_err-push-2-clause-asked : goal.returns-in_err-push-2-clause-asked
returns-in_err-push-2-clause-asked g c =
    let l = c.loop-wanted in
    let wanted = c.wanted-item.result in
    let same = c.as_slice-jobs.ensures in
    let within = subst (λ (jobs : List ProgramJob). l.wanted-index < length jobs) same c.loop-wanted-test.true in
    let is = subst (λ (jobs : List ProgramJob). wanted ≡ get_or jobs l.wanted-index wanted) same c.wanted-item.is in
    let stands = subst (λ (name : List ℕ). Contains (map (λ (job : ProgramJob). job.file) c.args.job.now.programs) name) (sym c.as_str.ensures)
    (file-stands c.args.job.now.programs l.wanted-index wanted within is) in
    asks-more c.args.job.now.programs c.as_str.result.now (g.K.Shelf.asked c.args.shelf.now) (g.K.Shelf.asked l.shelf) (g.K.Shelf.asked c.pass_next.new.shelf)
    stands l.invariant.asked c.pass_next.ensures.asked

pub loop-wanted-init : goal.loop-wanted-init
loop-wanted-init g c =
    let job = c.args.job.now in
    let counts = g.K.Shelf.counts c.args.shelf.now in
    record {
      read = passed-start (g.K.Shelf.files c.args.shelf.now) job.slot job.start c.new-programs.result c.new-sizes.result c.new-programs.ensures c.new-sizes.ensures;
      place = refl;
      files = refl;
      asked = asks-none job.programs (g.K.Shelf.asked c.args.shelf.now);
      counts = counts-same counts;
      ends = record { faults = λ rise. absurd (no_rise counts.faults rise); absences = λ rise. absurd (no_rise counts.absences rise) };
    }

pub loop-wanted-preserved : goal.loop-wanted-preserved
loop-wanted-preserved g c =
    let l = c.loop-wanted in
    let job = c.args.job.now in
    let jobs = c.as_slice-jobs.result.now in
    let i = l.wanted-index in
    let wanted = c.wanted-item.result in
    let next = c.in_ok-next.next in
    let told = g.K.Shelf.files c.args.shelf.now in
    let same = c.as_slice-jobs.ensures in
    let within = subst (λ (jobs : List ProgramJob). i < length jobs) same c.loop-wanted-test.true in
    let is = subst (λ (jobs : List ProgramJob). wanted ≡ get_or jobs i wanted) same c.wanted-item.is in
    let stands = subst (λ (name : List ℕ). Contains (map (λ (job : ProgramJob). job.file) job.programs) name) (sym c.as_str.ensures)
    (file-stands job.programs i wanted within is) in
    record {
      read = passed-more told (g.K.Shelf.files l.shelf) job.slot job.start jobs i wanted l.programs c.push.new.self l.sizes c.push-in-loop-wanted.new.self l.bytes l.units c.len-units.result next
          c.as_str.result.now c.as_slice.result.now c.as_slice-in-loop-wanted.result.now l.invariant.files c.as_str.ensures c.as_slice.ensures.value c.as_slice-in-loop-wanted.ensures.value
          c.loop-wanted-test.true c.wanted-item.is c.in_ok-push.ensures.ok c.in_ok-push-2.ensures.ok c.len-units.ensures l.invariant.read c.in_ok-next.ensures.next;
      place = omega (arith, l.invariant.place);
      files = c.pass_next.ensures.files ∙ l.invariant.files;
      asked = asks-more job.programs c.as_str.result.now (g.K.Shelf.asked c.args.shelf.now) (g.K.Shelf.asked l.shelf) (g.K.Shelf.asked c.pass_next.new.shelf)
          stands l.invariant.asked c.pass_next.ensures.asked;
      counts = counts-more (g.K.Shelf.counts c.args.shelf.now) (g.K.Shelf.counts l.shelf) (g.K.Shelf.counts c.pass_next.new.shelf) l.invariant.counts c.pass_next.ensures.counts;
      ends = ends_still (λ no. no) (λ no. no) (ends_behind (λ no. no) (λ no. no) l.invariant.ends c.in_ok-next.ensures.ends);
    }

pub returns-clause-programs : goal.returns-clause-programs
returns-clause-programs g c =
    let l = c.loop-wanted in
    let job = c.args.job.now in
    let told = g.K.Shelf.files c.args.shelf.now in
    let all = take_all l.wanted-index c.as_slice-jobs.result.now c.loop-wanted-test.false ∙ c.as_slice-jobs.ensures in
    passed-all told job l.programs l.sizes l.bytes l.units
    (subst (λ (done : List ProgramJob). PassedSoFar told job.slot job.start done l.programs l.sizes l.bytes l.units) all l.invariant.read)

pub returns-in_err-next-clause-ends : goal.returns-in_err-next-clause-ends
returns-in_err-next-clause-ends g c =
    let p = err_from_is_err_and c.from_residual.result c.from_residual.ensures.1 in
    rw (p.1, p.2) (ends_behind (λ no. no) (λ no. no) c.loop-wanted.invariant.ends c.in_err-next.ensures.ends)

pub returns-in_err-push-clause-ends : goal.returns-in_err-push-clause-ends
returns-in_err-push-clause-ends g c =
    ends_still (λ no. no) (λ no. no) (ends_behind (λ no. no) (λ no. no) c.loop-wanted.invariant.ends c.in_ok-next.ensures.ends)

pub returns-in_err-push-2-clause-ends : goal.returns-in_err-push-2-clause-ends
returns-in_err-push-2-clause-ends g c =
    ends_still (λ no. no) (λ no. no) (ends_behind (λ no. no) (λ no. no) c.loop-wanted.invariant.ends c.in_ok-next.ensures.ends)

pub returns-clause-ends : goal.returns-clause-ends
returns-clause-ends g c = ends_still (λ no. no) (λ no. no) c.loop-wanted.invariant.ends
