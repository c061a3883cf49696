use Rattle.std.proofs.Common.{◌≡◌, List, ℕ, get_or, refl, sym, ap, subst, arith}
use Rattle.bit_lists.specs.Fields.{bits}
use Rattle.bit_lists.proofs.MaskLemmas.{and_31}
use Rattle.arrayvec.specs.ArrayVec.{ArrayVec}
use Rattle.std.proofs.lemmas.List.{take_rest}
use Rattle.psi_tables.specs.Section.{IsItemRow}
use Rattle.psi_tables.specs.Descriptors.{IsDescriptor, kept_bytes, count_dropped}
use Rattle.psi_tables.proofs.Elements.{descriptor_tag-is, elementary_PID-is}
use Rattle.psi_tables.proofs.StreamRows.{same_pair, stream_is}
use Rattle.psi_tables.proofs.streams.read_stream.Goals as goal

pub returns-clause-exact : goal.returns-clause-exact
returns-clause-exact c = λ info is keeps.
    let bytes : List ℕ = c.args.bytes.now in
    let read = same_pair c.in_ok-descriptors.descriptors (record { items = kept_bytes info.descriptors }) c.in_ok-descriptors.dropped
    (count_dropped info.descriptors) (c.in_ok-descriptors.ensures.exact info.descriptors
    (subst (IsItemRow IsDescriptor info.descriptors) (sym (take_rest bytes 5)) is.descriptors_are) keeps) in
    let type_is : get_or bytes 0 0 ≡ info.stream_type = omega (arith, is.type_is, descriptor_tag-is bytes, c.type_inv.bytes 0) in
    let pid : c.from_be_bytes.result ≡ info.elementary_PID = omega (arith, is.pid, elementary_PID-is bytes, and_31 (get_or bytes 1 0), c.type_inv.bytes 2) in
    stream_is _ c.in_ok-descriptors.dropped info type_is pid (ap (λ (v : ArrayVec ℕ). v.items) read.0) read.1

pub returns-clause-some : goal.returns-clause-some
returns-clause-some c = λ some.
    let found = c.in_ok-descriptors.ensures.some refl in (
      record { stream_type = bits c.args.bytes.now 0 8; elementary_PID = bits c.args.bytes.now 11 13; descriptors = found.0 },
      record { size = c.requires.size; type_is = refl; pid = refl; descriptors_are = subst (IsItemRow IsDescriptor found.0) (take_rest c.args.bytes.now 5) found.1 },
      found.2,
    )
