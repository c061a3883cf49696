-- Which certificates show their bound, and the first fault of all others.
use Rattle.std.specs.Prelude.{◌≡◌, ℕ, ◌+◌, ◌<◌, ◌≤◌, List, [], length, Option, Some, None}
use Rattle.version_table.specs.declared.table.Table.{Table}
use Rattle.bound_certificate.specs.declared.cert.Cert.{Cert}
use Rattle.bound_certificate.specs.declared.cert.Node.{Node}
use Rattle.certificate_checker.specs.declared.why.Why.TheVariants as whys
use Rattle.certificate_checker.specs.declared.why.CertFault.{CertFault}
use Rattle.certificate_checker.specs.Shown.{unfixed}
use Rattle.certificate_checker.specs.Faults.{IsFirstOfHead, IsHeadRight}
use Rattle.certificate_checker.specs.Walk.{Shows, Stops, Walks}

-- a number is at most a bound; where there is none, each is
abbrev pub IsAtMost : ℕ → Option ℕ → Type 0
IsAtMost n None = Unit {0}
IsAtMost n (Some bound) = n ≤ bound

-- a certificate without fault: its choice is right, its nodes are one tree without fault, and its bound is at most the tree's
pub record IsFaultless (table : Table) (cert : Cert) : Type 0 where
  pub head : IsHeadRight table cert
  pub shown : Option ℕ
  pub tree : Walks table (unfixed table) cert.nodes (Shows shown [])
  pub bound : IsAtMost cert.bound shown

-- the first fault of a certificate: of its head; of a node; a node behind the tree; the bound
pub data IsFirstFault (table : Table) (cert : Cert) (fault : CertFault) : Type 0 where
  in_head : IsFirstOfHead table cert fault.why → fault.node ≡ 0 → IsFirstFault table cert fault
  in_tree : (left : ℕ) → IsHeadRight table cert → Walks table (unfixed table) cert.nodes (Stops fault.why left) → fault.node + left ≡ length cert.nodes
      → IsFirstFault table cert fault
  behind_tree : (shown : Option ℕ) (behind : List Node) → IsHeadRight table cert → Walks table (unfixed table) cert.nodes (Shows shown behind) → 0 < length behind
      → fault.node + length behind ≡ length cert.nodes → fault.why ≡ whys.ExtraNode → IsFirstFault table cert fault
  in_bound : (shown : Option ℕ) → IsHeadRight table cert → Walks table (unfixed table) cert.nodes (Shows shown []) → (IsAtMost cert.bound shown → ⊥)
      → fault.node ≡ 0 → fault.why ≡ whys.BoundHigh → IsFirstFault table cert fault
