-- What a plan of a table is: a certificate that shows its bound, of a scheduled choice.
use Rattle.std.specs.Prelude.{◌≡◌, ◌≢◌, ◌≤◌, length, All}
use Rattle.version_table.specs.declared.table.Table.{Table}
use Rattle.bound_certificate.specs.declared.cert.Cert.{Cert}
use Rattle.bound_certificate.specs.Cert.{IsCert}
use Rattle.bound_certificate.specs.Reading.{IsWritable}
use Rattle.certificate_checker.specs.Checked.{IsFaultless}
use Rattle.certificate_checker.specs.Faults.{IsHeadRight}
use Rattle.branch_plan.specs.Bound.{IsAtLeastEachPair, IsAtLeastEachTried}
use Rattle.branch_plan.specs.Changes.{EndsBestAlone, GainsByRounds}
use Rattle.branch_plan.specs.Plan.{BoundsAll, IsNoWorseThanLevels, ShowsItsBound, SmallestIsScheduled}
use Rattle.branch_plan.specs.Tree.{AreEnough, BranchesOnMany, IsSpent}

-- a certificate is that of a plan of the table
pub record IsPlan (table : Table) (cert : Cert) : Type 0 where
  -- there is a plan only where the smallest choice is scheduled
  pub possible : SmallestIsScheduled table
  -- the certificate is of version 3, and what is written of it is read back
  pub version : cert.version ≡ 3
  pub writable : IsWritable cert
  pub is_cert : IsCert cert
  -- its choice is scheduled, and the distortion is the choice's own
  pub head : IsHeadRight table cert
  -- its nodes are one tree without fault, and the bound is the root's
  pub root : ShowsItsBound table cert
  pub faultless : IsFaultless table cert
  -- no scheduled choice has less distortion than the bound
  pub bound : BoundsAll table cert.bound
  -- the tree keeps the budget of nodes, and branches on nothing that has one version alone
  pub few_nodes : length cert.nodes ≤ table.nodes
  pub branches : All (BranchesOnMany table) cert.nodes
  -- where the bound isn't the distortion, a leaf has this bound, and to branch it once more would take the tree past its nodes
  pub spent : cert.bound ≢ cert.distortion → IsSpent table table.nodes cert
  -- with nodes enough for the whole tree the bound is the distortion
  pub enough : AreEnough table table.nodes → cert.bound ≡ cert.distortion
  -- the bound is at least that of each window alone, and of the first best multiplier with any other one
  pub tried : IsAtLeastEachTried table cert.bound
  pub pairs : IsAtLeastEachPair table cert.bound
  -- the smallest choice and the level choices have no less distortion, where they are scheduled
  pub no_worse : IsNoWorseThanLevels table cert.distortion
  -- with evaluations enough no single change of a unit is left that helps, and while one is left each whole round of them has gained
  pub alone : EndsBestAlone table table.evaluations cert.choice
  pub rounds : GainsByRounds table table.evaluations cert.choice cert.distortion
