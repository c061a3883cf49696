use Rattle.std.proofs.Common.{◌≡◌, false, ◌++◌, ◌+◌, ◌-◌, ◌^◌, ◌≤◌, min, length, filter, nat_lt, nat_le, ◌&&◌}
use Rattle.es_units.specs.Units.{places, is_behind_slice, is_unit_cut, cuts_up_to, cuts_behind}
use Rattle.list_types.specs.Spans.{spans}
use Rattle.es_units.proofs.units.split_units.Given as goal

abbrev pub invariant-loop-cut : goal.invariant-loop-cut
invariant-loop-cut l = record {
  within : l.from ≤ length l.es;
  state : is_behind_slice l.es l.from ≡ false;
  counted : l.dropped ≤ 2 ^ 32 - 1;
  dropped : min (l.dropped + length (filter (λ at. is_unit_cut l.es at && nat_le at l.first) (places l.from (length l.es)))) (2 ^ 32 - 1)
      ≡ min (cuts_up_to l.es l.first) (2 ^ 32 - 1);
  cuts : l.cuts ++ spans l.begin (filter (λ at. is_unit_cut l.es at && nat_lt l.first at) (places l.from (length l.es))) (length l.es)
      ≡ spans l.first (cuts_behind l.es l.first) (length l.es);
}

abbrev pub decreases-loop-cut : goal.decreases-loop-cut
decreases-loop-cut l = length l.es - l.from
