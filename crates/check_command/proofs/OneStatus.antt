-- What `check` is called for is one status.
use Rattle.std.proofs.Common.{◌≡◌, ℕ, List, Some, refl, sym, ap, subst, ◌∙◌, inl, inr}
use Rattle.std.proofs.lemmas.Option.{same_Some, none-some}
use Rattle.std.specs.FinMap.{get}
use Rattle.bound_certificate.specs.declared.cert.Cert.{Cert}
use Rattle.bound_certificate.specs.Reading.{CertReading, IsCertRead, Holds, RefusedAt}
use Rattle.certificate_checker.specs.declared.why.CertFault.{CertFault}
use Rattle.certificate_checker.specs.Checked.{IsFaultless, IsFirstFault}
use Rattle.shelf_io.specs.Files.{Files}
use Rattle.version_table.specs.declared.table.Table.{Table}
use Rattle.command_words.specs.declared.status.Status.{Status}
use Rattle.command_words.specs.declared.status.Status.TheVariants.{Ok, CertRefused, Missing}
use Rattle.command_words.specs.declared.status.CertRefusal.TheVariants.{Syntax, Fault}
use Rattle.command_words.specs.Status.{IsSameStatus}
use Rattle.job_files.specs.declared.job_table.JobTable.{JobTable}
use Rattle.job_files.specs.JobCalls.{JobCallsFor}
use Rattle.job_files.specs.JobTable.{IsJobTable}
use Rattle.job_files.proofs.OneStop.{StopLaws}
use Rattle.check_command.specs.CheckCommand.{CheckCallsFor, HoldsBoth, HoldsCert, files_of_check}

-- the laws of certificates: bytes are read in one way, a certificate has no fault or one first fault
pub record CertLaws : Type 0 where
  pub reading : (bytes : List ℕ) (a b : CertReading) → IsCertRead bytes a → IsCertRead bytes b → a ≡ b
  pub faultless : (table : Table) (cert : Cert) (fault : CertFault) → IsFaultless table cert → IsFirstFault table cert fault → ⊥
  pub fault : (table : Table) (cert : Cert) (a b : CertFault) → IsFirstFault table cert a → IsFirstFault table cert b → a ≡ b

-- a file is read in one way
one_reading_of : CertLaws → (files : Files) (name bytes other : List ℕ) (a b : CertReading) → get files name ≡ Some bytes → IsCertRead bytes a
    → get files name ≡ Some other → IsCertRead other b → a ≡ b
one_reading_of laws files name bytes other a b held read has is =
    let same : bytes ≡ other = same_Some _ _ (sym held ∙ has) in
    laws.reading other a b (subst (λ (x : List ℕ). IsCertRead x a) same read) is

-- a file that holds a certificate isn't refused
pub cert_or_refused : CertLaws → (files : Files) (name bytes : List ℕ) (cert : Cert) (n : ℕ) → HoldsCert (Some files) name cert → get files name ≡ Some bytes
    → IsCertRead bytes (RefusedAt n) → ⊥
cert_or_refused laws files name bytes cert n holds held read =
    let same : Holds cert ≡ RefusedAt n = one_reading_of laws files name holds.bytes bytes (Holds cert) (RefusedAt n) holds.held holds.read held read in
    cc

-- a file holds one certificate
pub one_cert : CertLaws → (files : Files) (name : List ℕ) (cert other : Cert) → HoldsCert (Some files) name cert → HoldsCert (Some files) name other → cert ≡ other
one_cert laws files name cert other a b =
    let same : Holds cert ≡ Holds other = one_reading_of laws files name a.bytes b.bytes (Holds cert) (Holds other) a.held a.read b.held b.read in
    cc

-- a file is refused at one byte
pub one_byte : CertLaws → (files : Files) (name bytes other : List ℕ) (n m : ℕ) → get files name ≡ Some bytes → IsCertRead bytes (RefusedAt n)
    → get files name ≡ Some other → IsCertRead other (RefusedAt m) → n ≡ m
one_byte laws files name bytes other n m held read has is =
    let same : RefusedAt n ≡ RefusedAt m = one_reading_of laws files name bytes other (RefusedAt n) (RefusedAt m) held read has is in
    cc

-- JOB and CERT hold one table and one certificate
moved_fault : CertLaws → StopLaws → (job certificate : List ℕ) (files : Files) (made other : JobTable) (cert second : Cert) (fault : CertFault)
    → HoldsBoth (Some files) job certificate made cert → HoldsBoth (Some files) job certificate other second → IsFirstFault other.table second fault → IsFirstFault made.table cert fault
moved_fault certs jobs job certificate files made other cert second fault a b first =
    let tables : other ≡ made = jobs.table files job (files_of_check job certificate) other made b.made_is a.made_is in
    let same : second ≡ cert = one_cert certs files certificate second cert b.cert_is a.cert_is in
    subst (λ (c : Cert). IsFirstFault made.table c fault) same (subst (λ (m : JobTable). IsFirstFault m.table second fault) tables first)

-- a certificate without fault has no first fault
accepted_or_faulty : CertLaws → StopLaws → (job certificate : List ℕ) (files : Files) (fault : CertFault) → CheckCallsFor job certificate (Some files) Ok
    → CheckCallsFor job certificate (Some files) (CertRefused (Fault fault)) → ⊥
accepted_or_faulty certs jobs job certificate files fault (made, cert, both, faultless) (other, second, has, first) =
    certs.faultless made.table cert fault faultless (moved_fault certs jobs job certificate files made other cert second fault both has first)

-- a certificate has one first fault
one_fault : CertLaws → StopLaws → (job certificate : List ℕ) (files : Files) (a b : CertFault) → CheckCallsFor job certificate (Some files) (CertRefused (Fault a))
    → CheckCallsFor job certificate (Some files) (CertRefused (Fault b)) → a ≡ b
one_fault certs jobs job certificate files a b (made, cert, both, first) (other, second, has, last) =
    certs.fault made.table cert a b first (moved_fault certs jobs job certificate files made other cert second b both has last)

-- JOB has a table, and CERT is there
there_or_missing : StopLaws → (job certificate : List ℕ) (files : Files) (made : JobTable) (bytes : List ℕ)
    → IsJobTable (Some files) job (files_of_check job certificate) made → get files certificate ≡ Some bytes → CheckCallsFor job certificate (Some files) Missing → ⊥
there_or_missing jobs job certificate files made bytes is held (inl stops) = jobs.never_both files job (files_of_check job certificate) made Missing is stops
there_or_missing jobs job certificate files made bytes is held (inr (other, has, lacks)) = none-some bytes (sym lacks ∙ held)

-- where a file isn't there, a job calls for nothing else before there is a table
missing_or_stop : StopLaws → (job certificate : List ℕ) (files : Files) (s : Status) → CheckCallsFor job certificate (Some files) Missing
    → JobCallsFor (Some files) job (files_of_check job certificate) s → IsSameStatus Missing s
missing_or_stop jobs job certificate files s (inl stops) b = jobs.stop files job (files_of_check job certificate) Missing s stops b
missing_or_stop jobs job certificate files s (inr (made, is, lacks)) b = absurd (jobs.never_both files job (files_of_check job certificate) made s is b)

stop_or_missing : StopLaws → (job certificate : List ℕ) (files : Files) (s : Status) → JobCallsFor (Some files) job (files_of_check job certificate) s
    → CheckCallsFor job certificate (Some files) Missing → IsSameStatus s Missing
stop_or_missing jobs job certificate files s a (inl stops) = jobs.stop files job (files_of_check job certificate) s Missing a stops
stop_or_missing jobs job certificate files s a (inr (made, is, lacks)) = absurd (jobs.never_both files job (files_of_check job certificate) made s is a)

-- what `check` is called for is one
pub check_calls_for_one : CertLaws → StopLaws → (job certificate : List ℕ) (files : Files) (s t : Status) → CheckCallsFor job certificate (Some files) s
    → CheckCallsFor job certificate (Some files) t → IsSameStatus s t
check_calls_for_one certs jobs job certificate files Ok Ok a b = refl
check_calls_for_one certs jobs job certificate files Ok (CertRefused (Syntax n)) a b = absurd (cert_or_refused certs files certificate b.1 a.1 n a.2.cert_is b.3 b.4)
check_calls_for_one certs jobs job certificate files Ok (CertRefused (Fault fault)) a b = absurd (accepted_or_faulty certs jobs job certificate files fault a b)
check_calls_for_one certs jobs job certificate files Ok Missing a b =
    absurd (there_or_missing jobs job certificate files a.0 a.2.cert_is.bytes a.2.made_is a.2.cert_is.held b)
check_calls_for_one certs jobs job certificate files (CertRefused (Syntax n)) Ok a b = absurd (cert_or_refused certs files certificate a.1 b.1 n b.2.cert_is a.3 a.4)
check_calls_for_one certs jobs job certificate files (CertRefused (Syntax n)) (CertRefused (Syntax m)) a b =
    ap (λ k. CertRefused (Syntax k)) (one_byte certs files certificate a.1 b.1 n m a.3 a.4 b.3 b.4)
check_calls_for_one certs jobs job certificate files (CertRefused (Syntax n)) (CertRefused (Fault fault)) a b =
    absurd (cert_or_refused certs files certificate a.1 b.1 n b.2.cert_is a.3 a.4)
check_calls_for_one certs jobs job certificate files (CertRefused (Syntax n)) Missing a b = absurd (there_or_missing jobs job certificate files a.0 a.1 a.2 a.3 b)
check_calls_for_one certs jobs job certificate files (CertRefused (Fault fault)) Ok a b = absurd (accepted_or_faulty certs jobs job certificate files fault b a)
check_calls_for_one certs jobs job certificate files (CertRefused (Fault fault)) (CertRefused (Syntax m)) a b =
    absurd (cert_or_refused certs files certificate b.1 a.1 m a.2.cert_is b.3 b.4)
check_calls_for_one certs jobs job certificate files (CertRefused (Fault fault)) (CertRefused (Fault other)) a b =
    ap (λ f. CertRefused (Fault f)) (one_fault certs jobs job certificate files fault other a b)
check_calls_for_one certs jobs job certificate files (CertRefused (Fault fault)) Missing a b =
    absurd (there_or_missing jobs job certificate files a.0 a.2.cert_is.bytes a.2.made_is a.2.cert_is.held b)
check_calls_for_one certs jobs job certificate files Missing Ok a b =
    absurd (there_or_missing jobs job certificate files b.0 b.2.cert_is.bytes b.2.made_is b.2.cert_is.held a)
check_calls_for_one certs jobs job certificate files Missing (CertRefused (Syntax m)) a b = absurd (there_or_missing jobs job certificate files b.0 b.1 b.2 b.3 a)
check_calls_for_one certs jobs job certificate files Missing (CertRefused (Fault fault)) a b =
    absurd (there_or_missing jobs job certificate files b.0 b.2.cert_is.bytes b.2.made_is b.2.cert_is.held a)
check_calls_for_one certs jobs job certificate files Missing Missing a b = refl
check_calls_for_one certs jobs job certificate files Ok t a b = absurd (jobs.never_both files job (files_of_check job certificate) a.0 t a.2.made_is b)
check_calls_for_one certs jobs job certificate files (CertRefused (Syntax n)) t a b = absurd (jobs.never_both files job (files_of_check job certificate) a.0 t a.2 b)
check_calls_for_one certs jobs job certificate files (CertRefused (Fault fault)) t a b = absurd (jobs.never_both files job (files_of_check job certificate) a.0 t a.2.made_is b)
check_calls_for_one certs jobs job certificate files Missing t a b = missing_or_stop jobs job certificate files t a b
check_calls_for_one certs jobs job certificate files s Ok a b = absurd (jobs.never_both files job (files_of_check job certificate) b.0 s b.2.made_is a)
check_calls_for_one certs jobs job certificate files s (CertRefused (Syntax n)) a b = absurd (jobs.never_both files job (files_of_check job certificate) b.0 s b.2 a)
check_calls_for_one certs jobs job certificate files s (CertRefused (Fault fault)) a b = absurd (jobs.never_both files job (files_of_check job certificate) b.0 s b.2.made_is a)
check_calls_for_one certs jobs job certificate files s Missing a b = stop_or_missing jobs job certificate files s a b
check_calls_for_one certs jobs job certificate files s t a b = jobs.stop files job (files_of_check job certificate) s t a b
