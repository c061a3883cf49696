-- No text has two answers.
use Rattle.std.proofs.Common.{◌≡◌, ℕ, List, [], ◌∷◌, map, Result, Ok, Err, Option, Some, inl, inr, refl, sym, ap, subst, ◌∙◌, arith}
use Rattle.std.proofs.lemmas.Option.{same_Some, none-some}
use Rattle.std.specs.Prelude.{IfOk, IfErr}
use Rattle.toml.specs.Data.{Data, string, Members}
use Rattle.job_report.specs.declared.job.Job.{Job as JobValue}
use Rattle.job_report.specs.declared.job.Form.{Form}
use Rattle.job_report.specs.declared.job.Form.TheVariants.{Ts, Ps}
use Rattle.job_report.specs.declared.job.ProgramJob.{ProgramJob}
use Rattle.job_report.specs.Job.{integer_of, array_of, StatesProgram, AreProgramsOf, IsJobOf}
use Rattle.job_report.specs.Field.{natural_of, values_in, form_text}
use Rattle.job_report.specs.JobText.{IsDocument, SpellsJob, IsRefusedDocument, JobAnswer, Spelled, NoDocument, Refused, HasAnswer, IsJobFaultOf, Gives}
use Rattle.job_report.specs.declared.fault.JobFault.{JobFault}
use Rattle.job_report.specs.declared.fault.JobFault.TheVariants.{JobSyntax, JobField, JobLimit, OutOfMemory}
use Rattle.job_report.specs.Refusal.{FieldRefusal, OfField, OfLimit, refusals_of, first_refusal, programs_in}

-- ---- one value for what is stated

one_number : (n m : ℕ) → integer_of n ≡ integer_of m → n ≡ m
one_number n m e = ap natural_of e

one_stated : {value : Option Data} (n m : ℕ) → value ≡ Some (integer_of n) → value ≡ Some (integer_of m) → n ≡ m
one_stated n m e f = one_number n m (same_Some _ _ (sym e ∙ f))

naturals-array_of : (ns : List ℕ) → map natural_of (values_in (array_of ns)) ≡ ns
naturals-array_of [] = refl
naturals-array_of (n ∷ ns) = ap (λ ms. n ∷ ms) (naturals-array_of ns)

one_array : (ns ms : List ℕ) → array_of ns ≡ array_of ms → ns ≡ ms
one_array ns ms e = sym (naturals-array_of ns) ∙ ap (λ value. map natural_of (values_in value)) e ∙ naturals-array_of ms

text_of : Data → List ℕ
text_of (string text) = text
text_of value = []

one_text : (s t : List ℕ) → string s ≡ string t → s ≡ t
unfolding text_of
one_text s t e = ap text_of e

first_code : List ℕ → ℕ
first_code [] = 0
first_code (n ∷ text) = n

one_form : (f g : Form) → form_text f ≡ form_text g → f ≡ g
unfolding first_code
one_form Ts Ts e = refl
one_form Ps Ps e = refl
one_form Ts Ps e = absurd (let n : 116 ≡ 112 = ap first_code e in omega (arith, n))
one_form Ps Ts e = absurd (let n : 112 ≡ 116 = ap first_code e in omega (arith, n))

-- ---- one program and one job

same_program : (p q : ProgramJob) → p.file ≡ q.file → p.program ≡ q.program → p.number ≡ q.number → p.weight ≡ q.weight
    → p.coarser.items ≡ q.coarser.items → p.drift ≡ q.drift → p.drop.items ≡ q.drop.items → p.form ≡ q.form → p ≡ q
same_program p q file program number weight coarser drift drop form = λ i. record {
  file = file i;
  program = program i;
  number = number i;
  weight = weight i;
  coarser = record { items = coarser i };
  drift = drift i;
  drop = record { items = drop i };
  form = form i;
}

one_program : (stated : Members) (p q : ProgramJob) → StatesProgram stated p → StatesProgram stated q → p ≡ q
one_program stated p q a b = same_program p q
    (one_text _ _ (same_Some _ _ (sym a.file ∙ b.file)))
    (one_stated _ _ a.program b.program)
    (one_stated _ _ a.number b.number)
    (one_number _ _ (sym a.weight ∙ b.weight))
    (one_array _ _ (sym a.coarser ∙ b.coarser))
    (one_number _ _ (sym a.drift ∙ b.drift))
    (one_array _ _ (sym a.drop ∙ b.drop))
    (one_form _ _ (one_text _ _ (sym a.form ∙ b.form)))

one_programs : (tables : List Members) (ps qs : List ProgramJob) → AreProgramsOf tables ps → AreProgramsOf tables qs → ps ≡ qs
one_programs [] [] [] a b = refl
one_programs (t ∷ tables) (p ∷ ps) (q ∷ qs) a b =
    let first = one_program t p q a.0 b.0 in
    let rest = one_programs tables ps qs a.1 b.1 in
    ap (λ x. x ∷ ps) first ∙ ap (λ xs. q ∷ xs) rest
one_programs [] (p ∷ ps) qs a b = absurd a
one_programs [] [] (q ∷ qs) a b = absurd b
one_programs (t ∷ tables) [] qs a b = absurd a
one_programs (t ∷ tables) (p ∷ ps) [] a b = absurd b

same_job : (j k : JobValue) → j.slot ≡ k.slot → j.start ≡ k.start → j.stream_id ≡ k.stream_id → j.nodes ≡ k.nodes → j.evaluations ≡ k.evaluations
    → j.programs ≡ k.programs → j ≡ k
same_job j k slot start stream_id nodes evaluations programs = λ i. record {
  slot = slot i;
  start = start i;
  stream_id = stream_id i;
  nodes = nodes i;
  evaluations = evaluations i;
  programs = programs i;
}

pub one_job : (document : Members) (j k : JobValue) → IsJobOf document j → IsJobOf document k → j ≡ k
one_job document j k a b = same_job j k
    (one_stated _ _ a.slot b.slot)
    (one_number _ _ (sym a.start ∙ b.start))
    (one_number _ _ (sym a.stream_id ∙ b.stream_id))
    (one_number _ _ (sym a.nodes ∙ b.nodes))
    (one_number _ _ (sym a.evaluations ∙ b.evaluations))
    (one_programs (programs_in document) j.programs k.programs a.programs b.programs)

-- ---- one document, and what is wrong with it

one_document : {text : List ℕ} (d e : Members) → IsDocument text d → IsDocument text e → d ≡ e
one_document d e a b = same_Some _ _ (sym a.parsed ∙ b.parsed)

nothing_first : (r : FieldRefusal) → first_refusal [] ≡ Some r → ⊥
nothing_first r e = none-some r e

right_refused : (text : List ℕ) (job : JobValue) (r : FieldRefusal) → SpellsJob text job → IsRefusedDocument text r → ⊥
right_refused text job r a b =
    let same = one_document a.document b.document a.is_document b.is_document in
    nothing_first r (ap first_refusal (sym a.right) ∙ ap (λ d. first_refusal (refusals_of d)) same ∙ b.first)

jobs_same : (text : List ℕ) (j k : JobValue) → SpellsJob text j → SpellsJob text k → j ≡ k
jobs_same text j k a b =
    let same = one_document a.document b.document a.is_document b.is_document in
    let P : Members → Type 0 = λ d. IsJobOf d j in
    one_job b.document j k (subst P same a.states) b.states

refusals_same : (text : List ℕ) (r s : FieldRefusal) → IsRefusedDocument text r → IsRefusedDocument text s → r ≡ s
refusals_same text r s a b =
    let same = one_document a.document b.document a.is_document b.is_document in
    same_Some _ _ (sym a.first ∙ ap (λ d. first_refusal (refusals_of d)) same ∙ b.first)

-- ---- one answer

pub one_answer : (text : List ℕ) (a b : JobAnswer) → HasAnswer text a → HasAnswer text b → a ≡ b
one_answer text (Spelled j) (Spelled k) a b = ap Spelled (jobs_same text j k a b)
one_answer text (Spelled j) NoDocument a b = absurd (b.none a.document a.is_document)
one_answer text (Spelled j) (Refused r) a (inl b) = absurd (omega (arith, a.short, b.0))
one_answer text (Spelled j) (Refused r) a (inr b) = absurd (right_refused text j r a b)
one_answer text NoDocument (Spelled k) a b = absurd (a.none b.document b.is_document)
one_answer text NoDocument NoDocument a b = refl
one_answer text NoDocument (Refused r) a (inl b) = absurd (omega (arith, a.short, b.0))
one_answer text NoDocument (Refused r) a (inr b) = absurd (a.none b.document b.is_document)
one_answer text (Refused r) (Spelled k) (inl a) b = absurd (omega (arith, b.short, a.0))
one_answer text (Refused r) (Spelled k) (inr a) b = absurd (right_refused text k r b a)
one_answer text (Refused r) NoDocument (inl a) b = absurd (omega (arith, b.short, a.0))
one_answer text (Refused r) NoDocument (inr a) b = absurd (b.none a.document a.is_document)
one_answer text (Refused r) (Refused s) (inl a) (inl b) = ap Refused (a.1 ∙ sym b.1)
one_answer text (Refused r) (Refused s) (inl a) (inr b) = absurd (omega (arith, b.short, a.0))
one_answer text (Refused r) (Refused s) (inr a) (inl b) = absurd (omega (arith, a.short, b.0))
one_answer text (Refused r) (Refused s) (inr a) (inr b) = ap Refused (refusals_same text r s a b)

-- ---- an answer that is so is the one that has to be given

pub gives_only : (text : List ℕ) (result : Result JobValue JobFault) → IfOk result (λ job. SpellsJob text job) → IfErr result (IsJobFaultOf text)
    → (answer : JobAnswer) → HasAnswer text answer → Gives result answer
gives_only text (Ok job) is _ answer has = let P : JobAnswer → Type 0 = Gives (Ok job) in subst P (one_answer text (Spelled job) answer is has) refl
gives_only text (Err JobSyntax) _ is answer has = let P : JobAnswer → Type 0 = Gives (Err JobSyntax) in subst P (one_answer text NoDocument answer is has) tt
gives_only text (Err (JobField name)) _ is answer has =
    let P : JobAnswer → Type 0 = Gives (Err (JobField name)) in subst P (one_answer text (Refused (OfField name.bytes)) answer is has) refl
gives_only text (Err (JobLimit name)) _ is answer has =
    let P : JobAnswer → Type 0 = Gives (Err (JobLimit name)) in subst P (one_answer text (Refused (OfLimit name.bytes)) answer is has) refl
gives_only text (Err OutOfMemory) _ is answer has = tt
