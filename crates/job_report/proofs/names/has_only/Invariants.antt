use Rattle.std.proofs.Common.{◌≡◌, string_bytes}
use Rattle.std.specs.List.{list_any, list_all}
use Rattle.std.specs.Str.{bytes_eq}
use Rattle.toml.specs.View.{table_view}
use Rattle.job_report.specs.Refusal.{names_in}
use Rattle.job_report.proofs.names.has_only.Given as goal

-- all names are among these exactly where those that are left are
abbrev pub invariant-loop-name : goal.invariant-loop-name
invariant-loop-name l =
    list_all (λ name. list_any (λ other. bytes_eq name other.now) l.names) (names_in (table_view l.table))
    ≡ list_all (λ key. list_any (λ other. bytes_eq (string_bytes key) other.now) l.names) l.name-iterator
