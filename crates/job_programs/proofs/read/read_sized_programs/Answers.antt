use Rattle.std.proofs.Common.{◌≡◌, ℕ, ◌+◌, ◌<◌, List, [], ◌∷◌, ◌++◌, length, take, map, get_or, take_all, Contains, sym, subst, ◌∙◌, arith}
use Rattle.std.proofs.lemmas.Result.{err_from_is_err_and}
use Rattle.job_report.specs.declared.job.ProgramJob.{ProgramJob}
use Rattle.program_reader.specs.declared.program.Program.{Program}
use Rattle.job_programs.specs.Sizes.{AreJobSizes}
use Rattle.job_programs.specs.Private.ReadSoFar.{ReadSoFar}
use Rattle.job_programs.proofs.Asks.{asks-more, counts-more, file-stands}
use Rattle.job_programs.proofs.Ends.{ends_behind, ends_still}
use Rattle.job_programs.proofs.ReadLemmas.{read-all, went-on, stopped}
use Rattle.job_programs.proofs.SizesLemmas.{job_sizes_more}
use Rattle.job_programs.proofs.read.read_sized_programs.Goals as goal

pub returns-in_err-next-clause-cause : goal.returns-in_err-next-clause-cause
returns-in_err-next-clause-cause g c =
    let p = err_from_is_err_and c.from_residual.result c.from_residual.ensures.1 in
    let l = c.loop-wanted in
    let job = c.args.job.now in
    let wanted = c.wanted-item.result in
    let told = g.K.Shelf.files c.args.shelf.now in
    let same = c.as_slice-jobs.ensures in
    let within = subst (λ (jobs : List ProgramJob). l.wanted-index < length jobs) same c.loop-wanted-test.true in
    let is = subst (λ (jobs : List ProgramJob). wanted ≡ get_or jobs l.wanted-index wanted) same c.wanted-item.is in
    let read = subst (λ (jobs : List ProgramJob). ReadSoFar told job.slot job.start (take l.wanted-index jobs) l.programs l.bytes l.units) same l.invariant.read in
    rw (p.1, p.2) (stopped told (g.K.Shelf.files l.shelf) job l.wanted-index wanted l.programs l.bytes l.units l.place c.as_str.result.now c.as_slice.result.now c.as_slice-in-loop-wanted.result.now
    (g.K.Shelf.counts c.args.shelf.now) (g.K.Shelf.counts l.shelf) (g.K.Shelf.counts c.read_next.new.shelf) (g.K.Shelf.since_fault c.read_next.new.shelf)
    c.in_err-next.field-0.0 l.invariant.files c.as_str.ensures c.as_slice.ensures.value c.as_slice-in-loop-wanted.ensures.value l.invariant.place within is read
    l.invariant.counts c.read_next.ensures.counts c.in_err-next.ensures.cause)

pub returns-in_err-next-clause-asked : goal.returns-in_err-next-clause-asked
returns-in_err-next-clause-asked g c =
    let l = c.loop-wanted in
    let wanted = c.wanted-item.result in
    let same = c.as_slice-jobs.ensures in
    let within = subst (λ (jobs : List ProgramJob). l.wanted-index < length jobs) same c.loop-wanted-test.true in
    let is = subst (λ (jobs : List ProgramJob). wanted ≡ get_or jobs l.wanted-index wanted) same c.wanted-item.is in
    let stands = subst (λ (name : List ℕ). Contains (map (λ (job : ProgramJob). job.file) c.args.job.now.programs) name) (sym c.as_str.ensures)
    (file-stands c.args.job.now.programs l.wanted-index wanted within is) in
    asks-more c.args.job.now.programs c.as_str.result.now (g.K.Shelf.asked c.args.shelf.now) (g.K.Shelf.asked l.shelf) (g.K.Shelf.asked c.read_next.new.shelf)
    stands l.invariant.asked c.read_next.ensures.asked

pub returns-in_err-push-clause-asked : goal.returns-in_err-push-clause-asked
returns-in_err-push-clause-asked g c =
    let l = c.loop-wanted in
    let wanted = c.wanted-item.result in
    let same = c.as_slice-jobs.ensures in
    let within = subst (λ (jobs : List ProgramJob). l.wanted-index < length jobs) same c.loop-wanted-test.true in
    let is = subst (λ (jobs : List ProgramJob). wanted ≡ get_or jobs l.wanted-index wanted) same c.wanted-item.is in
    let stands = subst (λ (name : List ℕ). Contains (map (λ (job : ProgramJob). job.file) c.args.job.now.programs) name) (sym c.as_str.ensures)
    (file-stands c.args.job.now.programs l.wanted-index wanted within is) in
    asks-more c.args.job.now.programs c.as_str.result.now (g.K.Shelf.asked c.args.shelf.now) (g.K.Shelf.asked l.shelf) (g.K.Shelf.asked c.read_next.new.shelf)
    stands l.invariant.asked c.read_next.ensures.asked

pub returns-in_err-push-2-clause-asked : goal.returns-in_err-push-2-clause-asked
returns-in_err-push-2-clause-asked g c =
    let l = c.loop-wanted in
    let wanted = c.wanted-item.result in
    let same = c.as_slice-jobs.ensures in
    let within = subst (λ (jobs : List ProgramJob). l.wanted-index < length jobs) same c.loop-wanted-test.true in
    let is = subst (λ (jobs : List ProgramJob). wanted ≡ get_or jobs l.wanted-index wanted) same c.wanted-item.is in
    let stands = subst (λ (name : List ℕ). Contains (map (λ (job : ProgramJob). job.file) c.args.job.now.programs) name) (sym c.as_str.ensures)
    (file-stands c.args.job.now.programs l.wanted-index wanted within is) in
    asks-more c.args.job.now.programs c.as_str.result.now (g.K.Shelf.asked c.args.shelf.now) (g.K.Shelf.asked l.shelf) (g.K.Shelf.asked c.read_next.new.shelf)
    stands l.invariant.asked c.read_next.ensures.asked

pub loop-wanted-preserved : goal.loop-wanted-preserved
loop-wanted-preserved g c =
    let l = c.loop-wanted in
    let job = c.args.job.now in
    let jobs = c.as_slice-jobs.result.now in
    let i = l.wanted-index in
    let wanted = c.wanted-item.result in
    let next = c.in_ok-next.next in
    let told = g.K.Shelf.files c.args.shelf.now in
    let same = c.as_slice-jobs.ensures in
    let within = subst (λ (jobs : List ProgramJob). i < length jobs) same c.loop-wanted-test.true in
    let is = subst (λ (jobs : List ProgramJob). wanted ≡ get_or jobs i wanted) same c.wanted-item.is in
    let stands = subst (λ (name : List ℕ). Contains (map (λ (job : ProgramJob). job.file) job.programs) name) (sym c.as_str.ensures)
    (file-stands job.programs i wanted within is) in
    let r = went-on told (g.K.Shelf.files l.shelf) job.slot job.start jobs i wanted l.programs l.bytes l.units next.size next.program c.as_str.result.now c.as_slice.result.now c.as_slice-in-loop-wanted.result.now
    l.invariant.files c.as_str.ensures c.as_slice.ensures.value c.as_slice-in-loop-wanted.ensures.value c.loop-wanted-test.true c.wanted-item.is l.invariant.read c.in_ok-next.ensures.next in
    let r1 = subst (λ (n : ℕ). ReadSoFar told job.slot job.start (take (i + 1) jobs) (l.programs ++ next.program ∷ []) (l.bytes + next.size) (l.units + n)) (sym c.len-units.ensures) r in
    record {
      read = subst (λ (ps : List Program). ReadSoFar told job.slot job.start (take (i + 1) jobs) ps (l.bytes + next.size) (l.units + c.len-units.result)) (sym c.in_ok-push.ensures.ok) r1;
      sized = job_sizes_more jobs i wanted l.programs next.program c.push.new.self l.sizes next.sizes c.push-in-loop-wanted.new.self c.as_slice-in-loop-wanted.result.now c.loop-wanted-test.true c.wanted-item.is
          c.as_slice-in-loop-wanted.ensures.value c.in_ok-push.ensures.ok c.in_ok-push-2.ensures.ok l.invariant.sized c.in_ok-next.ensures.sizes;
      place = omega (arith, l.invariant.place);
      files = c.read_next.ensures.files ∙ l.invariant.files;
      asked = asks-more job.programs c.as_str.result.now (g.K.Shelf.asked c.args.shelf.now) (g.K.Shelf.asked l.shelf) (g.K.Shelf.asked c.read_next.new.shelf)
          stands l.invariant.asked c.read_next.ensures.asked;
      counts = counts-more (g.K.Shelf.counts c.args.shelf.now) (g.K.Shelf.counts l.shelf) (g.K.Shelf.counts c.read_next.new.shelf) l.invariant.counts c.read_next.ensures.counts;
      ends = ends_still (λ no. no) (λ no. no) (ends_behind (λ no. no) (λ no. no) l.invariant.ends c.in_ok-next.ensures.ends);
    }

pub returns-clause-programs : goal.returns-clause-programs
returns-clause-programs g c =
    let l = c.loop-wanted in
    let job = c.args.job.now in
    let told = g.K.Shelf.files c.args.shelf.now in
    let all = take_all l.wanted-index c.as_slice-jobs.result.now c.loop-wanted-test.false ∙ c.as_slice-jobs.ensures in
    read-all told job l.programs l.bytes l.units
    (subst (λ (done : List ProgramJob). ReadSoFar told job.slot job.start done l.programs l.bytes l.units) all l.invariant.read)

pub returns-clause-sizes : goal.returns-clause-sizes
returns-clause-sizes g c =
    let l = c.loop-wanted in
    let all = take_all l.wanted-index c.as_slice-jobs.result.now c.loop-wanted-test.false ∙ c.as_slice-jobs.ensures in
    subst (λ (done : List ProgramJob). AreJobSizes done l.programs l.sizes) all l.invariant.sized

pub returns-in_err-next-clause-ends : goal.returns-in_err-next-clause-ends
returns-in_err-next-clause-ends g c =
    let p = err_from_is_err_and c.from_residual.result c.from_residual.ensures.1 in
    rw (p.1, p.2) (ends_behind (λ no. no) (λ no. no) c.loop-wanted.invariant.ends c.in_err-next.ensures.ends)

pub returns-in_err-push-clause-ends : goal.returns-in_err-push-clause-ends
returns-in_err-push-clause-ends g c =
    ends_still (λ no. no) (λ no. no) (ends_behind (λ no. no) (λ no. no) c.loop-wanted.invariant.ends c.in_ok-next.ensures.ends)

pub returns-in_err-push-2-clause-ends : goal.returns-in_err-push-2-clause-ends
returns-in_err-push-2-clause-ends g c =
    ends_still (λ no. no) (λ no. no) (ends_behind (λ no. no) (λ no. no) c.loop-wanted.invariant.ends c.in_ok-next.ensures.ends)

pub returns-clause-ends : goal.returns-clause-ends
returns-clause-ends g c = ends_still (λ no. no) (λ no. no) c.loop-wanted.invariant.ends
