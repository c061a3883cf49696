-- What bytes can be: a certificate's, or refused at the first byte that no certificate has there.
use Rattle.std.specs.Prelude.{◌≡◌, ◌≢◌, ℕ, ◌<◌, ◌≤◌, ◌⊎◌, List, ◌∷◌, ◌++◌, length, Result, Ok, Err}
use Rattle.std.specs.List.{AllByRecursion}
use Rattle.version_table.specs.declared.limits.TheConstants.{NODES_MOST}
use Rattle.bound_certificate.specs.declared.limits.TheConstants.{CERT_BYTES_MOST}
use Rattle.bound_certificate.specs.declared.fault.CertFormat.{CertFormat}
use Rattle.bound_certificate.specs.declared.fault.CertFormat.TheVariants.{CertSyntax, OutOfMemory}
use Rattle.bound_certificate.specs.declared.cert.Cert.{Cert}
use Rattle.bound_certificate.specs.Cert.{IsCert, IsOfVersion}
use Rattle.bound_certificate.specs.Spelling.{cert_spelling}

-- Byte n is the first that no certificate has there. Some certificate, however long, begins with the n bytes before it; where a
-- byte stands there, none begins with that one too; where the bytes end there, they are no certificate's.
pub record IsCertSyntaxRefusal (bytes : List ℕ) (n : ℕ) : Type 0 where
  pub before : List ℕ
  pub rest : List ℕ
  pub parts : bytes ≡ before ++ rest
  pub place : n ≡ length before
  pub begun : (cert : Cert) × (more : List ℕ) × IsCert cert × (cert_spelling cert ≡ before ++ more)
  pub byte : (next : ℕ) (behind more : List ℕ) (cert : Cert) → rest ≡ next ∷ behind → IsCert cert → cert_spelling cert ≢ before ++ next ∷ more
  pub ended : (cert : Cert) → IsCert cert → cert_spelling cert ≢ bytes

-- what bytes can be
pub data CertReading : Type 0 where
  Holds : Cert → CertReading
  RefusedAt : ℕ → CertReading

-- bytes are read so; those that are too many are refused at their limit before all else
abbrev pub IsCertRead : List ℕ → CertReading → Type 0
IsCertRead bytes (Holds cert) = (length bytes ≤ CERT_BYTES_MOST) × IsCert cert × (bytes ≡ cert_spelling cert)
IsCertRead bytes (RefusedAt n) = ((CERT_BYTES_MOST < length bytes) × (n ≡ CERT_BYTES_MOST)) ⊎ ((length bytes ≤ CERT_BYTES_MOST) × IsCertSyntaxRefusal bytes n)

-- a fault is a reading of the bytes, or want of memory
abbrev pub IsFaultOf : List ℕ → CertFormat → Type 0
IsFaultOf bytes (CertSyntax n) = IsCertRead bytes (RefusedAt n)
IsFaultOf bytes OutOfMemory = Unit {0}

-- an answer is this reading, unless memory was wanted
abbrev pub Says : Result Cert CertFormat → CertReading → Type 0
Says (Ok cert) (Holds other) = cert ≡ other
Says (Err (CertSyntax n)) (RefusedAt m) = n ≡ m
Says (Err OutOfMemory) reading = Unit {0}
Says answer reading = ⊥

-- what can be written: 1 to 1,048,576 nodes of the version, and no more bytes than are read
pub record IsWritable (cert : Cert) : Type 0 where
  pub version : (cert.version ≡ 1) ⊎ (cert.version ≡ 2) ⊎ (cert.version ≡ 3)
  pub some_nodes : 1 ≤ length cert.nodes
  pub few_nodes : length cert.nodes ≤ NODES_MOST
  pub nodes : AllByRecursion (IsOfVersion cert.version) cert.nodes
  pub bytes : length (cert_spelling cert) ≤ CERT_BYTES_MOST
