use Rattle.std.proofs.Common.{◌≡◌, rules}
use Rattle.std.specs.BTreeMap.{keys}
use Rattle.std.specs.List.{list_any}
use Rattle.std.specs.Str.{bytes_eq}
use Rattle.job_report.proofs.NameLaws.{list_all-names_in}
use Rattle.job_report.proofs.names.has_only.Goals as goal

pub loop-name-init : goal.loop-name-init
loop-name-init c =
    let left : c.into_iter-name-iterator.result ≡ keys c.args.table.now = search rules in
    rw left (list_all-names_in (λ name. list_any (λ other. bytes_eq name other.now) c.args.names.now) c.args.table.now.entries)
