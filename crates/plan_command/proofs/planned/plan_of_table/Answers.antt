use Rattle.std.proofs.Common.{◌≡◌, length, arith}
use Rattle.std.proofs.lemmas.Slice.Zip.{AllZip-long}
use Rattle.version_table.specs.Choice.{HasVersion}
use Rattle.version_table.specs.Table.{units_of}
use Rattle.plan_command.proofs.Searches.{budget_else}
use Rattle.plan_command.proofs.planned.plan_of_table.Goals as goal

pub look_at_cert-requires-clause-few_units : goal.look_at_cert-requires-clause-few_units
look_at_cert-requires-clause-few_units c =
    let choice = c.in-Ok.planned.cert.choice in
    let long : length choice ≡ length (units_of c.args.table.now) = AllZip-long HasVersion (units_of c.args.table.now) choice c.in-Ok.ensures.head.fits in
    omega (arith, c.requires.units)

pub returns-in-Ok-clause-plan : goal.returns-in-Ok-clause-plan
returns-in-Ok-clause-plan c =
    let is = c.in-Ok.ensures in
    record {
      possible = is.possible;
      version = is.version;
      writable = is.written;
      is_cert = c.look_at_cert.ensures;
      head = is.head;
      root = is.root;
      faultless = is.faultless;
      bound = is.bound;
      few_nodes = is.few_nodes;
      branches = is.branches;
      spent = λ apart. is.spent (budget_else c.in-Ok.planned.search (λ optimal. apart (is.optimal.0 optimal)));
      enough = λ nodes. is.optimal.0 (is.enough nodes);
      tried = is.tried;
      pairs = is.pairs;
      no_worse = is.no_worse;
      alone = is.alone;
      rounds = is.rounds;
    }
