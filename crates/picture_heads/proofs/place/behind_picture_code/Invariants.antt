use Rattle.std.proofs.Common.{◌≡◌, ℕ, ◌+◌, ◌-◌, ◌%◌, ◌≤◌, ◌++◌, List, length, drop}
use Rattle.bit_lists.specs.Fields.{bit_list}
use Rattle.picture_heads.specs.Private.Walk.{LeadsIn}
use Rattle.picture_heads.proofs.place.behind_picture_code.Given as goal

abbrev pub invariant-loop-code : goal.invariant-loop-code
invariant-loop-code l = record {
  within : l.at ≤ length l.head;
  leads : (n : ℕ) (following rest : List ℕ) → LeadsIn n (bit_list l.head ++ following) rest → length following % 8 ≡ 0 → 32 + length following ≤ length rest
      → (k : ℕ) × LeadsIn k (bit_list (drop l.at l.head) ++ following) rest;
}

abbrev pub decreases-loop-code : goal.decreases-loop-code
decreases-loop-code l = length l.head - l.at
