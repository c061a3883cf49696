use Rattle.std.proofs.Common.{◌<◌, ◌+◌, ◌-◌, ◌∙◌, ℕ, length, get_or, rules, ap, arith}
use Rattle.std.proofs.lemmas.List.{get_or-set_same, get_or-set_other}
use Rattle.requantiser.specs.Private.Lengths.{length_by, table_numbered}
use Rattle.requantiser.proofs.Counted.{some_sized}
use Rattle.requantiser.proofs.counts.Counts.add_size.Goals as goal

pub known-known-requires-clause-row : goal.known-known-requires-clause-row
known-known-requires-clause-row c = (c.args.size, c.requires.row)

pub returns-clause-here : goal.returns-clause-here
returns-clause-here c = λ way table.
    let k : ℕ = c.args.k in
    let in_next : k < length c.args.self.now.next = first_of (omega arith, search rules) in
    let in_bits : k < length c.args.self.now.bits = first_of (omega arith, search rules) in
    let known = c.known-known.ensures.value c.args.size c.requires.row (omega (arith, c.if-known-eq0.false)) in
    some_sized way c.args.at c.args.size (get_or c.args.self.now.next k 0) (get_or c.args.self.now.bits k 0) c.known-known.result _ _ known.1 c.requires.next
    (known.0 ∙ ap (λ n. length_by (table_numbered n) (c.args.at - get_or c.args.self.now.next k 0) c.args.size) table) c.known-known.ensures.few
    (get_or-set_same c.args.self.now.next k (c.args.at + 1) 0 in_next) (get_or-set_same c.args.self.now.bits k (get_or c.args.self.now.bits k 0 + c.known-known.result) 0 in_bits)

pub returns-clause-others : goal.returns-clause-others
returns-clause-others c = λ j other. (get_or-set_other _ c.args.k j _ 0 other, get_or-set_other _ c.args.k j _ 0 other)
