-- Contents of files hold one list of programs, or have one first refusal.
use Rattle.std.proofs.Common.{◌≡◌, ◌≢◌, ℕ, ◌+◌, ◌<◌, ◌≤◌, List, [], ◌∷◌, ◌++◌, length, All, refl, sym, subst, ◌∙◌, arith}
use Rattle.std.specs.List.{sum_by}
use Rattle.std.proofs.lemmas.List.Elements.{All-head, All-tail}
use Rattle.std.proofs.lemmas.List.Sums.{sum_by-append, sum_by-cons}
use Rattle.job_report.specs.declared.job.Form.{Form}
use Rattle.job_report.specs.declared.job.ProgramJob.{ProgramJob}
use Rattle.program_reader.specs.declared.limits.TheConstants.{FILE_BYTES_MOST, UNITS_MOST}
use Rattle.program_reader.specs.declared.program.Program.{Program}
use Rattle.program_reader.specs.declared.program_fault.ProgramFault.{ProgramFault}
use Rattle.program_reader.specs.declared.program_fault.ProgramFault.TheVariants.{Refused, OutOfMemory}
use Rattle.program_reader.specs.declared.program_fault.SourceKind.{SourceKind}
use Rattle.program_reader.specs.declared.program_fault.SourceKind.TheVariants.{ProgramLimit}
use Rattle.program_reader.specs.Programs.{IsProgramOfFile, IsProgramRefused}
use Rattle.job_programs.specs.Programs.{bytes_of_files, units_of_programs}
use Rattle.job_programs.specs.Private.Behind.{AreProgramsOf, HoldPrograms, HoldsKept, IsProgramBehind, IsRefusedBehind, KeepsTime, many_bytes, file, many_units, late, far, job_keeps}

-- ---- one file

-- a file has one program
abbrev pub OneProgram : Type 0
OneProgram = (form : Form) (file : List ℕ) (number : ℕ) (drop : List ℕ) (start : ℕ) (one other : Program) → IsProgramOfFile form file number drop start one → IsProgramOfFile form file number drop start other → one ≡ other

-- a file has one refusal
abbrev pub OneRefusal : Type 0
OneRefusal = (form : Form) (file : List ℕ) (number : ℕ) (drop : List ℕ) (one other : ProgramFault) → one ≢ OutOfMemory → other ≢ OutOfMemory
    → IsProgramRefused form file number drop one → IsProgramRefused form file number drop other → one ≡ other

-- a file doesn't have both
abbrev pub NeverBoth : Type 0
NeverBoth = (form : Form) (file : List ℕ) (number : ℕ) (drop : List ℕ) (start : ℕ) (program : Program) (fault : ProgramFault)
    → IsProgramOfFile form file number drop start program → IsProgramRefused form file number drop fault → fault ≡ OutOfMemory

pub is-no-memory : (kind : SourceKind) (at : ℕ) → Refused kind at ≢ OutOfMemory
is-no-memory kind at e = cc

-- ---- one program behind others

-- a next program isn't refused
pub not-both : OneProgram → NeverBoth → (slot start bytes units : ℕ) (form : Form) (number : ℕ) (drop : List ℕ) (keeps : Program → Type 0) (content : List ℕ) (program : Program) (kind : SourceKind) (at : ℕ)
    → IsProgramBehind slot start bytes units form number drop keeps content program → IsRefusedBehind slot start bytes units form number drop keeps content kind at → ⊥
not-both one never slot start bytes units form number drop keeps content program kind at next (many_bytes many _ _) = let few = next.few_bytes in omega arith
not-both one never slot start bytes units form number drop keeps content program kind at next (file _ bad) =
    is-no-memory kind at (never form content number drop start program (Refused kind at) next.holds bad)
not-both one never slot start bytes units form number drop keeps content program kind at next (many_units other _ is many _ _) =
    let same : other ≡ program = one form content number drop start other program is next.holds in
    let few = next.few_units in
    let many' : UNITS_MOST < units + length program.units = subst (λ (p : Program). UNITS_MOST < units + length p.units) same many in
    omega arith
not-both one never slot start bytes units form number drop keeps content program kind at next (late other _ is past _ _) =
    let same : other ≡ program = one form content number drop start other program is next.holds in
    past (subst (λ (p : Program). KeepsTime slot p) (sym same) next.within)
not-both one never slot start bytes units form number drop keeps content program kind at next (far other _ is past _ _) =
    let same : other ≡ program = one form content number drop start other program is next.holds in
    past (subst keeps (sym same) next.near)

-- what refuses a file by itself stands alone, and all else is the limit
data Refusal (bytes : ℕ) (form : Form) (number : ℕ) (drop content : List ℕ) (kind : SourceKind) (at : ℕ) : Type 0 where
  by_file : bytes + length content ≤ FILE_BYTES_MOST → IsProgramRefused form content number drop (Refused kind at) → Refusal bytes form number drop content kind at
  by_limit : kind ≡ ProgramLimit → at ≡ 0
      → ((k : SourceKind) (a : ℕ) → bytes + length content ≤ FILE_BYTES_MOST → IsProgramRefused form content number drop (Refused k a) → ⊥)
      → Refusal bytes form number drop content kind at

refusal : NeverBoth → (slot start bytes units : ℕ) (form : Form) (number : ℕ) (drop : List ℕ) (keeps : Program → Type 0) (content : List ℕ) (kind : SourceKind) (at : ℕ)
    → IsRefusedBehind slot start bytes units form number drop keeps content kind at → Refusal bytes form number drop content kind at
refusal never slot start bytes units form number drop keeps content kind at (many_bytes many k a) = by_limit k a (λ k a few bad. omega arith)
refusal never slot start bytes units form number drop keeps content kind at (file few bad) = by_file few bad
refusal never slot start bytes units form number drop keeps content kind at (many_units program _ is _ k a) =
    by_limit k a (λ k a few bad. is-no-memory k a (never form content number drop start program (Refused k a) is bad))
refusal never slot start bytes units form number drop keeps content kind at (late program _ is _ k a) =
    by_limit k a (λ k a few bad. is-no-memory k a (never form content number drop start program (Refused k a) is bad))
refusal never slot start bytes units form number drop keeps content kind at (far program _ is _ k a) =
    by_limit k a (λ k a few bad. is-no-memory k a (never form content number drop start program (Refused k a) is bad))

same-refusal : OneRefusal → (bytes : ℕ) (form : Form) (number : ℕ) (drop content : List ℕ) (kind kind' : SourceKind) (at at' : ℕ)
    → Refusal bytes form number drop content kind at → Refusal bytes form number drop content kind' at' → (kind ≡ kind') × (at ≡ at')
same-refusal one bytes form number drop content kind kind' at at' (by_file few bad) (by_file _ bad') =
    let same : Refused kind at ≡ Refused kind' at' =
    one form content number drop (Refused kind at) (Refused kind' at') (is-no-memory kind at) (is-no-memory kind' at') bad bad' in
    (cc, cc)
same-refusal one bytes form number drop content kind kind' at at' (by_file few bad) (by_limit _ _ none) = absurd (none kind at few bad)
same-refusal one bytes form number drop content kind kind' at at' (by_limit _ _ none) (by_file few bad) = absurd (none kind' at' few bad)
same-refusal one bytes form number drop content kind kind' at at' (by_limit k a _) (by_limit k' a' _) = (k ∙ sym k', a ∙ sym a')

-- a next program is refused for one thing
pub one-refusal : OneRefusal → NeverBoth → (slot start bytes units : ℕ) (form : Form) (number : ℕ) (drop : List ℕ) (keeps : Program → Type 0) (content : List ℕ) (kind kind' : SourceKind) (at at' : ℕ)
    → IsRefusedBehind slot start bytes units form number drop keeps content kind at → IsRefusedBehind slot start bytes units form number drop keeps content kind' at'
    → (kind ≡ kind') × (at ≡ at')
one-refusal one never slot start bytes units form number drop keeps content kind kind' at at' r r' =
    same-refusal one bytes form number drop content kind kind' at at'
    (refusal never slot start bytes units form number drop keeps content kind at r) (refusal never slot start bytes units form number drop keeps content kind' at' r')

-- ---- lists

one-list : OneProgram → (start : ℕ) (jobs : List ProgramJob) (contents : List (List ℕ)) (ps qs : List Program)
    → HoldPrograms start jobs contents ps → HoldPrograms start jobs contents qs → ps ≡ qs
one-list one start [] [] [] [] hp hq = refl
one-list one start [] [] (p ∷ ps) qs hp hq = absurd hp
one-list one start [] [] [] (q ∷ qs) hp hq = absurd hq
one-list one start [] (c ∷ cs) ps qs hp hq = absurd hp
one-list one start (j ∷ js) [] ps qs hp hq = absurd hp
one-list one start (j ∷ js) (c ∷ cs) [] qs hp hq = absurd hp
one-list one start (j ∷ js) (c ∷ cs) (p ∷ ps) [] hp hq = absurd hq
one-list one start (j ∷ js) (c ∷ cs) (p ∷ ps) (q ∷ qs) hp hq =
    let head : p ≡ q = one j.form c j.program j.drop.items start p q hp.0.holds hq.0.holds in
    let tail : ps ≡ qs = one-list one start js cs ps qs hp.1 hq.1 in
    cc

-- contents hold one list of programs
pub one-programs : OneProgram → (slot start : ℕ) (jobs : List ProgramJob) (contents : List (List ℕ)) (ps qs : List Program)
    → AreProgramsOf slot start jobs contents ps → AreProgramsOf slot start jobs contents qs → ps ≡ qs
one-programs one slot start jobs contents ps qs a b = one-list one start jobs contents ps qs a.hold b.hold

pub count-of : (start : ℕ) (jobs : List ProgramJob) (contents : List (List ℕ)) (ps : List Program) → HoldPrograms start jobs contents ps → length contents ≡ length jobs
count-of start [] [] [] h = refl
count-of start [] [] (p ∷ ps) h = absurd h
count-of start [] (c ∷ cs) ps h = absurd h
count-of start (j ∷ js) [] ps h = absurd h
count-of start (j ∷ js) (c ∷ cs) [] h = absurd h
count-of start (j ∷ js) (c ∷ cs) (p ∷ ps) h = let rest = count-of start js cs ps h.1 in omega (arith, rest)

-- behind a front of the programs stands one more of them
through : OneProgram → (start : ℕ) (before : List ProgramJob) (read : List (List ℕ)) (ps : List Program) → HoldPrograms start before read ps
    → (job : ProgramJob) (after : List ProgramJob) (content : List ℕ) (further : List (List ℕ)) (programs : List Program)
    → HoldPrograms start (before ++ job ∷ after) (read ++ content ∷ further) programs
    → (p : Program) × (more : List Program) × (programs ≡ ps ++ p ∷ more) × HoldsKept start job content p
through one start [] [] [] h job after content further [] all = absurd all
through one start [] [] [] h job after content further (p ∷ more) all = (p, more, refl, all.0)
through one start [] [] (p ∷ ps) h job after content further programs all = absurd h
through one start [] (c ∷ cs) ps h job after content further programs all = absurd h
through one start (j ∷ js) [] ps h job after content further programs all = absurd h
through one start (j ∷ js) (c ∷ cs) [] h job after content further programs all = absurd h
through one start (j ∷ js) (c ∷ cs) (p ∷ ps) h job after content further [] all = absurd all
through one start (j ∷ js) (c ∷ cs) (p ∷ ps) h job after content further (q ∷ qs) all =
    let head : q ≡ p = one j.form c j.program j.drop.items start q p all.0.holds h.0.holds in
    let rest = through one start js cs ps h.1 job after content further qs all.1 in
    let tail : qs ≡ ps ++ rest.0 ∷ rest.1 = rest.2 in
    (rest.0, rest.1, cc, rest.3)

all-at : {X : Type 0} (P : X → Type 0) (xs : List X) (x : X) (ys : List X) → All P (xs ++ x ∷ ys) → P x
all-at P [] x ys all = All-head P x ys all
all-at P (w ∷ ws) x ys all = all-at P ws x ys (All-tail P w (ws ++ x ∷ ys) all)

sum-behind : {X : Type 0} (f : X → ℕ) (xs : List X) (x : X) (ys : List X) → sum_by f xs + f x ≤ sum_by f (xs ++ x ∷ ys)
sum-behind f xs x ys = omega (arith, sum_by-append f xs (x ∷ ys), sum_by-cons f x ys)

-- where contents hold programs, the next program behind a front of them is there
pub next-in : OneProgram → (slot start : ℕ) (before : List ProgramJob) (read : List (List ℕ)) (ps : List Program) → HoldPrograms start before read ps
    → (job : ProgramJob) (after : List ProgramJob) (content : List ℕ) (further : List (List ℕ)) (programs : List Program)
    → AreProgramsOf slot start (before ++ job ∷ after) (read ++ content ∷ further) programs
    → (p : Program) × IsProgramBehind slot start (bytes_of_files read) (units_of_programs ps) job.form job.program job.drop.items (job_keeps job) content p
next-in one slot start before read ps h job after content further programs are =
    let found = through one start before read ps h job after content further programs are.hold in
    let is : programs ≡ ps ++ found.0 ∷ found.1 = found.2 in
    let units = subst (λ (l : List Program). units_of_programs l ≤ UNITS_MOST) is are.few_units in
    let within = subst (λ (l : List Program). All (KeepsTime slot) l) is are.within in (
      found.0,
      record {
        few_bytes = let a = are.few_bytes in let b = sum-behind length read content further in omega arith;
        holds = found.3.holds;
        few_units = let b = sum-behind (λ (p : Program). length p.units) ps found.0 found.1 in omega arith;
        within = all-at (KeepsTime slot) ps found.0 found.1 within;
        near = found.3.near;
      },
    )
