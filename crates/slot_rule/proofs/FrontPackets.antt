-- Which packets of a queue are the same under two choices.
use Rattle.std.proofs.Common.{◌≡◌, ℕ, zero, suc, ◌+◌, ◌-◌, ◌<◌, ◌≤◌, true, List, [], ◌∷◌, ◌++◌, length, take, drop, slice_get, Some, refl, sym, ap, ap₂, subst, ◌∙◌, inl, inr, zero-add, arith}
use Rattle.std.proofs.Math.Nat.{sub-zero}
use Rattle.std.proofs.lemmas.Bool.{cases_lt}
use Rattle.std.proofs.lemmas.Option.{none-some, slice_get_past, slice_get_within, get_or_from_slice_get}
use Rattle.version_table.specs.declared.table.Table.{Table}
use Rattle.version_table.specs.declared.table.Unit.{Unit as CodedUnit}
use Rattle.version_table.specs.Choice.{version_at}
use Rattle.slot_rule.specs.declared.fronts.Front.{Front}
use Rattle.slot_rule.specs.declared.queue_items.QueueItems.{QueueItems}
use Rattle.slot_rule.specs.declared.queue_items.QueueItems.TheVariants.{Units, Packets}
use Rattle.slot_rule.specs.declared.queue_state.QueueState.{QueueState}
use Rattle.slot_rule.specs.Queues.{QueuedPacket, unit_packets}
use Rattle.slot_rule.specs.Private.Checkpoints.{IsFront, IsFrontOf, IsWholeOf, IsWithin}
use Rattle.slot_rule.specs.Private.QueueItems.{program_at}
use Rattle.slot_rule.specs.Private.QueueState.{KeepsPlace, packets_at}
use Rattle.slot_rule.proofs.Resume.{SameSoFar}
use Rattle.slot_rule.proofs.RuleUnits.{get_or-unit_rest}
use Rattle.slot_rule.proofs.RuleVideo.{packets_from}
use Rattle.slot_rule.proofs.Places.{slice_get-append_left}

-- ---- the element at a place of two lists

slice_get-append_right : {X : Type 0} (xs ys : List X) (k : ℕ) → length xs ≤ k → slice_get (xs ++ ys) k ≡ slice_get ys (k - length xs)
slice_get-append_right [] ys k past = ap (λ n. slice_get ys n) (sym (sub-zero k))
slice_get-append_right (x ∷ xs) ys zero past = absurd (omega arith)
slice_get-append_right (x ∷ xs) ys (suc k) past =
    slice_get-append_right xs ys k (omega arith) ∙ ap (λ n. slice_get ys n) (let e : k - length xs ≡ suc k - suc (length xs) = omega arith in e)

-- ---- packets of units that are the same
-- an element of a mapped list of packets of one unit is of that unit
of_unit : (item due bytes k : ℕ) (packet : QueuedPacket) → slice_get (unit_packets item due bytes) k ≡ Some packet → packet.item ≡ item
of_unit item due bytes k packet there =
    let within = slice_get_within (unit_packets item due bytes) k packet there in
    ap (λ (p : QueuedPacket). p.item) (sym (get_or_from_slice_get (unit_packets item due bytes) k packet packet there)
    ∙ (get_or-unit_rest item 0 due bytes k packet within))

-- the packets of units from one on are of units from that one on
of_later_unit : (item : ℕ) (units : List CodedUnit) (choice : List ℕ) (k : ℕ) (packet : QueuedPacket) → slice_get (packets_from item units choice) k ≡ Some packet → item ≤ packet.item
of_later_unit item [] choice k packet there = absurd (none-some packet (sym (slice_get_past [] k (omega arith)) ∙ there))
of_later_unit item (unit ∷ units) [] k packet there = absurd (none-some packet (sym (slice_get_past [] k (omega arith)) ∙ there))
of_later_unit item (unit ∷ units) (v ∷ choice) k packet there =
    let own = unit_packets item unit.due (version_at unit v).bytes in
    let later = packets_from (item + 1) units choice in
    elim (cases_lt k (length (unit_packets item unit.due (version_at unit v).bytes))) as (λ _. item ≤ packet.item) [
      | inl here ↦ (let is = of_unit item unit.due (version_at unit v).bytes k packet (sym (slice_get-append_left own later k here) ∙ there) in omega (arith, is))
      | inr past ↦ (let is = of_later_unit (item + 1) units choice (k - length own) packet (sym (slice_get-append_right own later k past) ∙ there) in omega (arith, is))
    ]

-- up to a packet of a unit before which, and in which, the versions are the same, the packets are
pub same_before : (same item : ℕ) (units : List CodedUnit) (choice choice' : List ℕ) → take same choice ≡ take same choice'
    → (n : ℕ) (packet : QueuedPacket) → slice_get (packets_from item units choice) n ≡ Some packet → packet.item < item + same
    → (k : ℕ) → k ≤ n → slice_get (packets_from item units choice') k ≡ slice_get (packets_from item units choice) k
same_before same item [] choice choice' e n packet there before k upto = refl
same_before same item (unit ∷ units) [] choice' e n packet there before k upto = absurd (none-some packet (sym (slice_get_past [] n (omega arith)) ∙ there))
same_before zero item (unit ∷ units) (v ∷ choice) choice' e n packet there before k upto =
    (let from = of_later_unit item (unit ∷ units) (v ∷ choice) n packet there in absurd (omega (arith, from, before)))
same_before (suc same) item (unit ∷ units) (v ∷ choice) [] e n packet there before k upto = absurd cc
same_before (suc same) item (unit ∷ units) (v ∷ choice) (v' ∷ choice') e n packet there before k upto =
    let first : v ≡ v' = cc e in
    let rest : take same choice ≡ take same choice' = cc e in
    let own = unit_packets item unit.due (version_at unit v).bytes in
    let later = packets_from (item + 1) units choice in
    let later' = packets_from (item + 1) units choice' in
    subst (λ w. slice_get (packets_from item (unit ∷ units) (w ∷ choice')) k ≡ slice_get (packets_from item (unit ∷ units) (v ∷ choice)) k) first
    (elim (cases_lt k (length (unit_packets item unit.due (version_at unit v).bytes))) as
    (λ _. slice_get (packets_from item (unit ∷ units) (v ∷ choice')) k ≡ slice_get (packets_from item (unit ∷ units) (v ∷ choice)) k) [
      | inl here ↦ slice_get-append_left own later' k here ∙ sym (slice_get-append_left own later k here)
      | inr past ↦
          slice_get-append_right own later' k past
          ∙ same_before same (item + 1) units choice choice' rest (n - length own) packet
          (sym (slice_get-append_right own later n (omega arith)) ∙ there) (omega (arith, before)) (k - length own) (omega arith)
          ∙ sym (slice_get-append_right own later k past)
    ])

-- where all versions are the same, all packets are
pub same_all : (same item : ℕ) (units : List CodedUnit) (choice choice' : List ℕ) → take same choice ≡ take same choice' → length units ≤ same
    → packets_from item units choice' ≡ packets_from item units choice
same_all same item [] choice choice' e all = refl
same_all zero item (unit ∷ units) choice choice' e all = absurd (omega arith)
same_all (suc same) item (unit ∷ units) [] [] e all = refl
same_all (suc same) item (unit ∷ units) [] (v' ∷ choice') e all = absurd cc
same_all (suc same) item (unit ∷ units) (v ∷ choice) [] e all = absurd cc
same_all (suc same) item (unit ∷ units) (v ∷ choice) (v' ∷ choice') e all =
    let first : v ≡ v' = cc e in
    let rest : take same choice ≡ take same choice' = cc e in
    ap₂ (λ w (list : List QueuedPacket). unit_packets item unit.due (version_at unit w).bytes ++ list) (sym first) (same_all same (item + 1) units choice choice' rest (omega arith))

-- ---- packets of a queue up to its head
module _ (table : Table) (choice choice' : List ℕ) (state : QueueState) where
  whole_same : (items : QueueItems) (same : ℕ) → IsFrontOf table choice choice' items same → IsWholeOf table items same → packets_at table choice' items ≡ packets_at table choice items
  whole_same (Units program first) same is whole = same_all same 0 (program_at table program).units (drop first choice) (drop first choice') is whole
  whole_same (Packets program audio) same is whole = refl

  head_same : (items : QueueItems) (same n : ℕ) (packet : QueuedPacket) → IsFrontOf table choice choice' items same → slice_get (packets_at table choice items) n ≡ Some packet → packet.item < same
      → (k : ℕ) → k ≤ n → slice_get (packets_at table choice' items) k ≡ slice_get (packets_at table choice items) k
  head_same (Units program first) same n packet is there before k upto = same_before same 0 (program_at table program).units
      (drop first choice) (drop first choice') is n packet there (subst (λ m. packet.item < m) (sym (zero-add same)) before) k upto
  head_same (Packets program audio) same n packet is there before k upto = refl

  pub SameSoFar-within : (front : Front) → IsFrontOf table choice choice' state.items front.same → (front.is_whole ≡ true → IsWholeOf table state.items front.same)
      → KeepsPlace (packets_at table choice state.items) state → IsWithin front state → SameSoFar table choice choice' state
  SameSoFar-within front same whole keeps (inl all) = λ k upto. ap (λ (list : List QueuedPacket). slice_get list k) (whole_same state.items front.same same (whole all))
  SameSoFar-within front same whole keeps (inr some) = head_same state.items front.same state.sent some.0 same (sym keeps.head ∙ some.1) some.2

-- a front that is made for the places of a state
pub IsFront-made : (table : Table) (choice choice' : List ℕ) (state : QueueState) (front found : Front) (items : QueueItems) → front ≡ found → items ≡ state.items
    → IsFrontOf table choice choice' items front.same → (front.is_whole ≡ true → IsWholeOf table items front.same) → IsFront table choice choice' state found
IsFront-made table choice choice' state front found items is places same whole =
    subst (λ (f : Front). IsFront table choice choice' state f) is
    (record {
      same = subst (λ (q : QueueItems). IsFrontOf table choice choice' q front.same) places same;
      whole = λ all. subst (λ (q : QueueItems). IsWholeOf table q front.same) places (whole all);
    })
