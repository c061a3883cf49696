use Rattle.std.proofs.Common.{List, ℕ, subst}
use Rattle.std.specs.List.{AllByRecursion}
use Rattle.bit_lists.specs.Fields.{AreBytes}
use Rattle.bound_certificate.specs.declared.cert.Node.{Node}
use Rattle.bound_certificate.specs.Cert.{HasRoom}
use Rattle.plan_command.proofs.Seen.{may_stand}
use Rattle.plan_command.proofs.cert_room.look_at_cert.Goals as goal

pub returns : goal.returns
returns c =
    let cert = c.args.cert.now in
    let is = c.requires.writable in
    record {
      version = is.version;
      bound = c.look_at_number.ensures;
      distortion = c.look_at_number-2.ensures;
      few_units = c.requires.few_units;
      choice = subst (λ (bytes : List ℕ). AreBytes bytes) c.as_slice.ensures c.look_at_bytes.ensures;
      some_nodes = is.some_nodes;
      few_nodes = is.few_nodes;
      nodes = may_stand cert.version cert.nodes is.nodes (subst (λ (nodes : List Node). AllByRecursion HasRoom nodes) c.as_slice-2.ensures c.look_at_nodes.ensures);
    }
