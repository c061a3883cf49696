-- A job has one first refusal at most, and none where its files hold programs: by given contents, and on told files.
use Rattle.std.proofs.Common.{◌≡◌, ◌⊎◌, ℕ, ◌+◌, ◌<◌, ◌≤◌, List, [], ◌∷◌, ◌++◌, length, Some, refl, sym, ap, subst, ◌∙◌, append_assoc, length-append, inl, inr, arith}
use Rattle.std.specs.FinMap.{get}
use Rattle.std.proofs.lemmas.Bool.{cases_order}
use Rattle.std.proofs.lemmas.List.{append-nil}
use Rattle.shelf_io.specs.Files.{Files}
use Rattle.job_report.specs.declared.job.Job.{Job}
use Rattle.job_report.specs.declared.job.ProgramJob.{ProgramJob}
use Rattle.program_reader.specs.declared.program.Program.{Program}
use Rattle.program_reader.specs.declared.program_fault.SourceKind.{SourceKind}
use Rattle.job_programs.specs.declared.source_fault.SourceFault.{SourceFault}
use Rattle.job_programs.specs.Programs.{ArePrograms, IsFirstRefused, bytes_of_files, units_of_programs}
use Rattle.job_programs.specs.Told.{AreProgramsIn, AreProgramsOn, HoldContents, IsRefusedIn, IsRefusedOn}
use Rattle.job_programs.specs.Private.Behind.{AreProgramsOf, IsRefusedBehind, job_keeps}
use Rattle.job_programs.proofs.Forms.{are-of, refused-behind}
use Rattle.job_programs.proofs.LawLemmas.{OneProgram, OneRefusal, NeverBoth, not-both, one-refusal, one-programs, count-of, next-in}

-- ---- lists

pub front-of : {X : Type 0} (xs : List X) (x : X) (us ys vs : List X) → xs ++ x ∷ us ≡ ys ++ vs → length xs < length ys → (zs : List X) × (ys ≡ xs ++ x ∷ zs)
front-of [] x us [] vs e small = absurd (omega (arith, small))
front-of [] x us (y ∷ ys) vs e small = let head : x ≡ y = cc in (ys, cc)
front-of (w ∷ ws) x us [] vs e small = absurd (omega (arith, small))
front-of (w ∷ ws) x us (y ∷ ys) vs e small =
    let head : w ≡ y = cc in
    let tail : ws ++ x ∷ us ≡ ys ++ vs = cc in
    let rest = front-of ws x us ys vs tail (omega (arith, small)) in
    let is : ys ≡ ws ++ x ∷ rest.0 = rest.1 in
    (rest.0, cc)

pub same-place : {X : Type 0} (xs : List X) (x : X) (us ys : List X) (y : X) (vs : List X) → xs ++ x ∷ us ≡ ys ++ y ∷ vs → length xs ≡ length ys → (xs ≡ ys) × (x ≡ y)
same-place [] x us [] y vs e same = (refl, cc)
same-place [] x us (z ∷ ys) y vs e same = absurd (omega (arith, same))
same-place (w ∷ ws) x us [] y vs e same = absurd (omega (arith, same))
same-place (w ∷ ws) x us (z ∷ ys) y vs e same =
    let head : w ≡ z = cc in
    let tail : ws ++ x ∷ us ≡ ys ++ y ∷ vs = cc in
    let rest = same-place ws x us ys y vs tail (omega (arith, same)) in
    let is : ws ≡ ys = rest.0 in
    (cc, rest.1)

-- ---- by given contents

-- the first refusal, by sums and by all programs at once
pub record FirstBehind (job : Job) (contents : List (List ℕ)) (fault : SourceFault) : Type 0 where
  pub before : List ProgramJob
  pub refused : ProgramJob
  pub after : List ProgramJob
  pub split : job.programs ≡ before ++ refused ∷ after
  pub read : List (List ℕ)
  pub content : List ℕ
  pub further : List (List ℕ)
  pub contents_are : contents ≡ read ++ content ∷ further
  pub programs : List Program
  pub programs_are : AreProgramsOf job.slot job.start before read programs
  pub number : fault.program ≡ length before
  pub refusal : IsRefusedBehind job.slot job.start (bytes_of_files read) (units_of_programs programs) refused.form refused.program refused.drop.items (job_keeps refused) content fault.kind fault.at

abbrev pub first-of : (job : Job) (contents : List (List ℕ)) (fault : SourceFault) → IsFirstRefused job contents fault → FirstBehind job contents fault
first-of job contents fault r = record {
  before = r.before;
  refused = r.refused;
  after = r.after;
  split = r.split;
  read = r.read;
  content = r.content;
  further = r.further;
  contents_are = r.contents_are;
  programs = r.programs;
  programs_are = are-of job.slot job.start r.before r.read r.programs r.programs_are;
  number = r.number;
  refusal = refused-behind job.slot job.start r.read r.programs r.refused r.content fault.kind fault.at r.refusal;
}

none-refused : OneProgram → NeverBoth → (job : Job) (contents : List (List ℕ)) (programs : List Program) (fault : SourceFault)
    → AreProgramsOf job.slot job.start job.programs contents programs → FirstBehind job contents fault → ⊥
none-refused one never job contents programs fault are r =
    let jobs' = subst (λ (jobs : List ProgramJob). AreProgramsOf job.slot job.start jobs contents programs) r.split are in
    let both = subst (λ (cs : List (List ℕ)). AreProgramsOf job.slot job.start (r.before ++ r.refused ∷ r.after) cs programs) r.contents_are jobs' in
    let next = next-in one job.slot job.start r.before r.read r.programs r.programs_are.hold r.refused r.after r.content r.further programs both in
    not-both one never job.slot job.start (bytes_of_files r.read) (units_of_programs r.programs) r.refused.form r.refused.program r.refused.drop.items (job_keeps r.refused) r.content next.0 fault.kind fault.at next.1 r.refusal

-- none before another
not-earlier : OneProgram → NeverBoth → (job : Job) (contents : List (List ℕ)) (a b : SourceFault) (ra : FirstBehind job contents a) (rb : FirstBehind job contents b)
    → length ra.before < length rb.before → ⊥
not-earlier one never job contents a b ra rb small =
    let jobs = front-of ra.before ra.refused ra.after rb.before (rb.refused ∷ rb.after) (sym ra.split ∙ rb.split) small in
    let ca = count-of job.start ra.before ra.read ra.programs ra.programs_are.hold in
    let cb = count-of job.start rb.before rb.read rb.programs rb.programs_are.hold in
    let cs = front-of ra.read ra.content ra.further rb.read (rb.content ∷ rb.further) (sym ra.contents_are ∙ rb.contents_are) (omega (arith, ca, cb, small)) in
    let are = subst (λ (js : List ProgramJob). AreProgramsOf job.slot job.start js rb.read rb.programs) jobs.1 rb.programs_are in
    let both = subst (λ (l : List (List ℕ)). AreProgramsOf job.slot job.start (ra.before ++ ra.refused ∷ jobs.0) l rb.programs) cs.1 are in
    let next = next-in one job.slot job.start ra.before ra.read ra.programs ra.programs_are.hold ra.refused jobs.0 ra.content cs.0 rb.programs both in
    not-both one never job.slot job.start (bytes_of_files ra.read) (units_of_programs ra.programs) ra.refused.form ra.refused.program ra.refused.drop.items (job_keeps ra.refused) ra.content next.0 a.kind a.at next.1 ra.refusal

same-refused : OneRefusal → NeverBoth → (slot start : ℕ) (read read' : List (List ℕ)) (ps ps' : List Program) (job job' : ProgramJob) (content content' : List ℕ) (kind kind' : SourceKind) (at at' : ℕ)
    → read ≡ read' → ps ≡ ps' → job ≡ job' → content ≡ content'
    → IsRefusedBehind slot start (bytes_of_files read) (units_of_programs ps) job.form job.program job.drop.items (job_keeps job) content kind at
    → IsRefusedBehind slot start (bytes_of_files read') (units_of_programs ps') job'.form job'.program job'.drop.items (job_keeps job') content' kind' at'
    → (kind ≡ kind') × (at ≡ at')
same-refused only never slot start read read' ps ps' job job' content content' kind kind' at at' er ep ej ec r r' =
    let r1 = subst (λ (l : List (List ℕ)). IsRefusedBehind slot start (bytes_of_files l) (units_of_programs ps') job'.form job'.program job'.drop.items (job_keeps job') content' kind' at') (sym er) r' in
    let r2 = subst (λ (l : List Program). IsRefusedBehind slot start (bytes_of_files read) (units_of_programs l) job'.form job'.program job'.drop.items (job_keeps job') content' kind' at') (sym ep) r1 in
    let r3 = subst (λ (j : ProgramJob). IsRefusedBehind slot start (bytes_of_files read) (units_of_programs ps) j.form j.program j.drop.items (job_keeps j) content' kind' at') (sym ej) r2 in
    let r4 = subst (λ (l : List ℕ). IsRefusedBehind slot start (bytes_of_files read) (units_of_programs ps) job.form job.program job.drop.items (job_keeps job) l kind' at') (sym ec) r3 in
    one-refusal only never slot start (bytes_of_files read) (units_of_programs ps) job.form job.program job.drop.items (job_keeps job) content kind kind' at at' r r4

pub same-fault : (p p' : ℕ) (k k' : SourceKind) (at at' : ℕ) → p ≡ p' → k ≡ k' → at ≡ at'
    → let one : SourceFault = record { program = p; kind = k; at = at } in let other : SourceFault = record { program = p'; kind = k'; at = at' } in one ≡ other
same-fault p p' k k' at at' ep ek ea = cc

at-one-place : OneProgram → OneRefusal → NeverBoth → (job : Job) (contents : List (List ℕ)) (a b : SourceFault) (ra : FirstBehind job contents a) (rb : FirstBehind job contents b)
    → length ra.before ≡ length rb.before → a ≡ b
at-one-place one only never job contents a b ra rb same =
    let jobs = same-place ra.before ra.refused ra.after rb.before rb.refused rb.after (sym ra.split ∙ rb.split) same in
    let ca = count-of job.start ra.before ra.read ra.programs ra.programs_are.hold in
    let cb = count-of job.start rb.before rb.read rb.programs rb.programs_are.hold in
    let cs = same-place ra.read ra.content ra.further rb.read rb.content rb.further (sym ra.contents_are ∙ rb.contents_are) (omega (arith, ca, cb, same)) in
    let b1 = subst (λ (js : List ProgramJob). AreProgramsOf job.slot job.start js rb.read rb.programs) (sym jobs.0) rb.programs_are in
    let b2 = subst (λ (l : List (List ℕ)). AreProgramsOf job.slot job.start ra.before l rb.programs) (sym cs.0) b1 in
    let ps : ra.programs ≡ rb.programs = one-programs one job.slot job.start ra.before ra.read ra.programs rb.programs ra.programs_are b2 in
    let why = same-refused only never job.slot job.start ra.read rb.read ra.programs rb.programs ra.refused rb.refused ra.content rb.content a.kind b.kind a.at b.at
    cs.0 ps jobs.1 cs.1 ra.refusal rb.refusal in
    same-fault a.program b.program a.kind b.kind a.at b.at (ra.number ∙ same ∙ sym rb.number) why.0 why.1

by-order : OneProgram → OneRefusal → NeverBoth → (job : Job) (contents : List (List ℕ)) (a b : SourceFault) (ra : FirstBehind job contents a) (rb : FirstBehind job contents b)
    → (length ra.before ≡ length rb.before) ⊎ ((length ra.before < length rb.before) ⊎ (length rb.before < length ra.before)) → a ≡ b
by-order one only never job contents a b ra rb (inl same) = at-one-place one only never job contents a b ra rb same
by-order one only never job contents a b ra rb (inr (inl small)) = absurd (not-earlier one never job contents a b ra rb small)
by-order one only never job contents a b ra rb (inr (inr small)) = absurd (not-earlier one never job contents b a rb ra small)

one-first : OneProgram → OneRefusal → NeverBoth → (job : Job) (contents : List (List ℕ)) (a b : SourceFault)
    → FirstBehind job contents a → FirstBehind job contents b → a ≡ b
one-first one only never job contents a b ra rb = by-order one only never job contents a b ra rb (cases_order (length ra.before) (length rb.before))

pub one-programs-by : OneProgram → (job : Job) (contents : List (List ℕ)) (ps qs : List Program) → ArePrograms job contents ps → ArePrograms job contents qs → ps ≡ qs
one-programs-by one job contents ps qs a b =
    one-programs one job.slot job.start job.programs contents ps qs
    (are-of job.slot job.start job.programs contents ps a) (are-of job.slot job.start job.programs contents qs b)

pub one-first-by : OneProgram → OneRefusal → NeverBoth → (job : Job) (contents : List (List ℕ)) (a b : SourceFault)
    → IsFirstRefused job contents a → IsFirstRefused job contents b → a ≡ b
one-first-by one only never job contents a b ra rb = one-first one only never job contents a b (first-of job contents a ra) (first-of job contents b rb)

pub none-refused-by : OneProgram → NeverBoth → (job : Job) (contents : List (List ℕ)) (programs : List Program) (fault : SourceFault)
    → ArePrograms job contents programs → IsFirstRefused job contents fault → ⊥
none-refused-by one never job contents programs fault a r =
    none-refused one never job contents programs fault (are-of job.slot job.start job.programs contents programs a) (first-of job contents fault r)

-- ---- on told files

pub record Common (files : Files) (jobs : List ProgramJob) (c d : List (List ℕ)) : Type 0 where
  pub all : List (List ℕ)
  pub held : HoldContents files jobs all
  pub behind : List (List ℕ)
  pub first_is : all ≡ c ++ behind
  pub behind' : List (List ℕ)
  pub second_is : all ≡ d ++ behind'

pub common : (files : Files) (jobs : List ProgramJob) (c d : List (List ℕ)) → HoldContents files jobs c → HoldContents files jobs d → Common files jobs c d
common files jobs [] d hc hd = record { all = d; held = hd; behind = d; first_is = refl; behind' = []; second_is = sym (append-nil d) }
common files [] (x ∷ c) d hc hd = absurd hc
common files (j ∷ js) (x ∷ c) [] hc hd = record { all = x ∷ c; held = hc; behind = []; first_is = sym (append-nil (x ∷ c)); behind' = x ∷ c; second_is = refl }
common files (j ∷ js) (x ∷ c) (y ∷ d) hc hd =
    let first : get files j.file ≡ Some x = hc.0 in
    let second : get files j.file ≡ Some y = hd.0 in
    let head : x ≡ y = cc in
    let rest = common files js c d hc.1 hd.1 in
    let one : rest.all ≡ c ++ rest.behind = rest.first_is in
    let two : rest.all ≡ d ++ rest.behind' = rest.second_is in
    record { all = x ∷ rest.all; held = (first, rest.held); behind = rest.behind; first_is = cc; behind' = rest.behind'; second_is = cc }

within : (files : Files) (jobs : List ProgramJob) (c : List (List ℕ)) → HoldContents files jobs c → length c ≤ length jobs
within files jobs [] held = omega arith
within files [] (x ∷ c) held = absurd held
within files (j ∷ js) (x ∷ c) held = let rest = within files js c held.1 in omega (arith, rest)

no-more : {X : Type 0} (xs : List X) → length xs ≡ 0 → xs ≡ []
no-more [] e = refl
no-more (x ∷ xs) e = absurd (omega (arith, e))

pub whole : (files : Files) (jobs : List ProgramJob) (c d : List (List ℕ)) (same : Common files jobs c d) → length c ≡ length jobs → same.all ≡ c
whole files jobs c d same full =
    let most = within files jobs same.all same.held in
    let sizes : length same.all ≡ length c + length same.behind = ap length same.first_is ∙ length-append c same.behind in
    let none : same.behind ≡ [] = no-more same.behind (omega (arith, most, sizes, full)) in
    same.first_is ∙ ap (λ (l : List (List ℕ)). c ++ l) none ∙ append-nil c

still-refused : (job : Job) (c x all : List (List ℕ)) (fault : SourceFault) → all ≡ c ++ x → FirstBehind job c fault → FirstBehind job all fault
still-refused job c x all fault is r = record {
  before = r.before;
  refused = r.refused;
  after = r.after;
  split = r.split;
  read = r.read;
  content = r.content;
  further = r.further ++ x;
  contents_are = is ∙ ap (λ (l : List (List ℕ)). l ++ x) r.contents_are ∙ append_assoc r.read (r.content ∷ r.further) x;
  programs = r.programs;
  programs_are = r.programs_are;
  number = r.number;
  refusal = r.refusal;
}

pub one-programs-on : OneProgram → (files : Files) (job : Job) (ps qs : List Program) → AreProgramsOn (Some files) job ps → AreProgramsOn (Some files) job qs → ps ≡ qs
one-programs-on one files job ps qs on other_on = by-contents on.held other_on.held
  where
    by-contents : AreProgramsIn files job.slot job.start job.programs ps → AreProgramsIn files job.slot job.start job.programs qs → ps ≡ qs
    by-contents a b =
        let same = common files job.programs a.contents b.contents a.held b.held in
        let are = are-of job.slot job.start job.programs a.contents ps a.are in
        let other = are-of job.slot job.start job.programs b.contents qs b.are in
        let ca = count-of job.start job.programs a.contents ps are.hold in
        let cb = count-of job.start job.programs b.contents qs other.hold in
        let wa = whole files job.programs a.contents b.contents same ca in
        let sizes : length same.all ≡ length b.contents + length same.behind' = ap length same.second_is ∙ length-append b.contents same.behind' in
        let count : length same.all ≡ length a.contents = ap length wa in
        let none : same.behind' ≡ [] = no-more same.behind' (omega (arith, sizes, count, ca, cb)) in
        let wb : same.all ≡ b.contents = same.second_is ∙ ap (λ (l : List (List ℕ)). b.contents ++ l) none ∙ append-nil b.contents in
        let b' = subst (λ (l : List (List ℕ)). AreProgramsOf job.slot job.start job.programs l qs) (sym wb ∙ wa) other in
        one-programs one job.slot job.start job.programs a.contents ps qs are b'

pub one-first-on : OneProgram → OneRefusal → NeverBoth → (files : Files) (job : Job) (a b : SourceFault) → IsRefusedOn (Some files) job a → IsRefusedOn (Some files) job b → a ≡ b
one-first-on one only never files job a b on other_on = by-contents on.held other_on.held
  where
    by-contents : IsRefusedIn files job a → IsRefusedIn files job b → a ≡ b
    by-contents ra rb =
        let same = common files job.programs ra.contents rb.contents ra.held rb.held in
        one-first one only never job same.all a b
        (still-refused job ra.contents same.behind same.all a same.first_is (first-of job ra.contents a ra.first))
        (still-refused job rb.contents same.behind' same.all b same.second_is (first-of job rb.contents b rb.first))

pub none-refused-on : OneProgram → NeverBoth → (files : Files) (job : Job) (programs : List Program) (fault : SourceFault)
    → AreProgramsOn (Some files) job programs → IsRefusedOn (Some files) job fault → ⊥
none-refused-on one never files job programs fault on other_on = by-contents on.held other_on.held
  where
    by-contents : AreProgramsIn files job.slot job.start job.programs programs → IsRefusedIn files job fault → ⊥
    by-contents a r =
        let same = common files job.programs a.contents r.contents a.held r.held in
        let are = are-of job.slot job.start job.programs a.contents programs a.are in
        let ca = count-of job.start job.programs a.contents programs are.hold in
        let wa = whole files job.programs a.contents r.contents same ca in
        none-refused one never job a.contents programs fault are
        (subst (λ (l : List (List ℕ)). FirstBehind job l fault) wa (still-refused job r.contents same.behind' same.all fault same.second_is (first-of job r.contents fault r.first)))
