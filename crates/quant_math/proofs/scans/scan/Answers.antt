use Rattle.std.proofs.Common.{refl, ltb, get_or}
use Rattle.std.proofs.lemmas.Bool.Decides.{Decides-ltb}
use Rattle.quant_math.specs.Scans.{zigzag_scan, alternate_scan}
use Rattle.quant_math.proofs.Tables.{entry_passes}
use Rattle.quant_math.proofs.scans.scan.Goals as goal

pub returns-then-alternate-clause-within : goal.returns-then-alternate-clause-within
returns-then-alternate-clause-within c =
    (Decides-ltb (get_or alternate_scan c.args.place 0) 64).0
    (entry_passes (λ x. ltb x 64) alternate_scan c.args.place refl c.requires)

pub returns-else-alternate-clause-within : goal.returns-else-alternate-clause-within
returns-else-alternate-clause-within c =
    (Decides-ltb (get_or zigzag_scan c.args.place 0) 64).0
    (entry_passes (λ x. ltb x 64) zigzag_scan c.args.place refl c.requires)
