-- The balance of one unit more, and what it shows.
use Rattle.std.proofs.Common.{◌≡◌, ℕ, ◌+◌, ◌<◌, ◌≤◌, ◌^◌, ◌⊎◌, List, length, get_or, refl, sym, subst, ◌∙◌, inl, arith, to_z, of_z, w64, ℤ, pos, ◌-ℤ◌, ◌≤ℤ◌, ◌<ℤ◌}
use Rattle.std.proofs.lemmas.Int.{by_lt_z, ints}
use Rattle.version_table.specs.declared.table.Table.{Table}
use Rattle.dual_bounds.specs.Room.{room}
use Rattle.impossible_proof.specs.declared.edges.Balance.{Balance}
use Rattle.impossible_proof.specs.declared.needs.UnitNeed.{UnitNeed}
use Rattle.impossible_proof.specs.Private.Needs.{AreFew}
use Rattle.impossible_proof.specs.Private.Scan.{AllHaveRoom, IsBalance, IsFirstBeginning, IsFirstEnd, IsSmall, NoneBegins, before, beginning, due_at, ending_by, nothing, room_before}
use Rattle.impossible_proof.proofs.Rooms.{IsNarrow}
use Rattle.impossible_proof.proofs.Scanned.{before-more, before-small, before-start, beginning-is, ending-is, first_end, have_room-more, lowest-more, none_begins-more}

-- small numbers as the code holds them
pub held : (r : ℤ) → IsSmall r → to_z w64 (of_z w64 r) ≡ r
held r small =
    let low = small.0 in
    let high = small.1 in
    omega (arith, ints)

pub small_held : (r : ℤ) → IsSmall r → IsSmall (to_z w64 (of_z w64 r))
small_held r small = subst (λ (n : ℤ). IsSmall n) (sym (held r small)) small

-- a difference of two narrow ones
pub difference_held : (a b x y : ℤ) → a ≡ x → b ≡ y → IsNarrow x → IsNarrow y → to_z w64 (of_z w64 (to_z w64 (of_z w64 a) -ℤ to_z w64 (of_z w64 b))) ≡ (x -ℤ y)
difference_held a b x y first second narrow other =
    let low = narrow.0 in
    let high = narrow.1 in
    let bottom = other.0 in
    let top = other.1 in
    omega (arith, ints)

pub difference_small : (a b x y : ℤ) → a ≡ x → b ≡ y → IsNarrow x → IsNarrow y → IsSmall (to_z w64 (of_z w64 (to_z w64 (of_z w64 a) -ℤ to_z w64 (of_z w64 b))))
difference_small a b x y first second narrow other =
    let low = narrow.0 in
    let high = narrow.1 in
    let bottom = other.0 in
    let top = other.1 in
    (omega (arith, ints), omega (arith, ints))

-- a number less a small one is far below the first balance
far_below : (total : ℕ) (own : ℤ) → total ≤ 2 ^ 37 → IsSmall own → (pos total -ℤ own) <ℤ pos (2 ^ 62)
far_below total own few small =
    let low = small.0 in
    omega (arith, ints)

-- before the first unit
pub at_start : (table : Table) (needs : List UnitNeed) (balance : Balance) → balance.total ≡ 0 → pos (2 ^ 62) ≤ℤ balance.lowest → IsBalance table needs 0 balance
at_start table needs balance none high = record {
  total = none ∙ sym (before-start needs);
  lowest = record { least = λ j upto. absurd (omega arith); own = inl (refl, high) };
}

-- with one unit more
pub one_more : (table : Table) (needs : List UnitNeed) (i due packets : ℕ) (balance new : Balance) (own : ℤ) → AreFew needs → i < length needs → due ≡ due_at needs i
    → packets ≡ (get_or needs i nothing).packets → own ≡ room_before table due → IsSmall own → IsBalance table needs i balance → new.total ≡ balance.total + packets
    → new.lowest ≤ℤ balance.lowest → new.lowest ≤ℤ (pos balance.total -ℤ own) → ((new.lowest ≡ balance.lowest) ⊎ (new.lowest ≡ (pos balance.total -ℤ own)))
    → IsBalance table needs (i + 1) new
one_more table needs i due packets balance new own few within due_is packets_are own_is small is total le_old le_own one =
    let upto : before needs i ≤ 2 ^ 37 = before-small needs i few (omega arith) in
    record {
      total = omega (arith, total, is.total, packets_are, before-more needs i nothing within);
      lowest = lowest-more table needs i balance.lowest new.lowest (pos balance.total -ℤ own) is.lowest (beginning-is table needs i due balance.total own due_is is.total own_is)
          le_old le_own one (far_below balance.total own (omega (arith, is.total)) small);
    }

not_above : (a b : ℤ) → (a <ℤ b → ⊥) → b ≤ℤ a
not_above a b never = by_lt_z a b (λ less. absurd (never less)) (λ upto. upto)

-- where no more is needed than there is room for
pub still_room : (table : Table) (needs : List UnitNeed) (i due : ℕ) (new : Balance) (own : ℤ) → i < length needs → due ≡ due_at needs i → own ≡ room table 0 due
    → IsBalance table needs (i + 1) new → AllHaveRoom table needs i → (new.lowest <ℤ (pos new.total -ℤ own) → ⊥) → AllHaveRoom table needs (i + 1)
still_room table needs i due new own within due_is own_is is have never =
    have_room-more table needs i new.lowest (pos new.total -ℤ own) have is.lowest.least (ending-is table needs i due new.total own due_is is.total own_is)
    (not_above new.lowest (pos new.total -ℤ own) never)

-- and where more is
pub end_found : (table : Table) (needs : List UnitNeed) (i due : ℕ) (new : Balance) (own : ℤ) → i < length needs → due ≡ due_at needs i → own ≡ room table 0 due
    → IsBalance table needs (i + 1) new → AllHaveRoom table needs i → new.lowest <ℤ (pos new.total -ℤ own) → IsFirstEnd table needs due
end_found table needs i due new own within due_is own_is is have above =
    first_end table needs i due new.lowest (pos new.total -ℤ own) within due_is have is.lowest (ending-is table needs i due new.total own due_is is.total own_is) above

-- ---- the first beginning
pub beginning_found : (table : Table) (needs : List UnitNeed) (i due at total : ℕ) (end : ℤ) → i < length needs → at ≡ due_at needs i → total ≡ before needs i
    → end ≡ ending_by table needs due → NoneBegins table needs due i → (at ≤ due) × ((pos total -ℤ room_before table at) <ℤ end) → IsFirstBeginning table needs due at
beginning_found table needs i due at total end within at_is total_is end_is none (order, below) = record {
  place = i;
  within = within;
  from_is = at_is;
  order = order;
  first = none;
  above = subst (λ (x : ℤ). beginning table needs i <ℤ x) end_is
      (subst (λ (x : ℤ). x <ℤ end) (beginning-is table needs i at total (room_before table at) at_is total_is refl) below);
}

pub beginning_passed : (table : Table) (needs : List UnitNeed) (i due at total : ℕ) (end : ℤ) → i < length needs → at ≡ due_at needs i → total ≡ before needs i
    → end ≡ ending_by table needs due → NoneBegins table needs due i → ((at ≤ due) × ((pos total -ℤ room_before table at) <ℤ end) → ⊥) → NoneBegins table needs due (i + 1)
beginning_passed table needs i due at total end within at_is total_is end_is none never =
    none_begins-more table needs due i none
    (λ order. subst (λ (x : ℤ). x ≤ℤ beginning table needs i) end_is
    (subst (λ (x : ℤ). end ≤ℤ x) (beginning-is table needs i at total (room_before table at) at_is total_is refl)
    (not_above (pos total -ℤ room_before table at) end (λ below. never (omega (arith, order, at_is), below)))))
