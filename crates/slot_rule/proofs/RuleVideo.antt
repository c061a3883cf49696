-- The packets of a video stream: those from a unit on, their order, and what each keeps.
use Rattle.std.proofs.Common.{
  ◌≡◌,
  ℕ,
  zero,
  suc,
  ◌+◌,
  ◌-◌,
  ◌*◌,
  ◌/◌,
  ◌<◌,
  ◌≤◌,
  ◌⊎◌,
  List,
  [],
  ◌∷◌,
  ◌++◌,
  All,
  length,
  map,
  get_or,
  take,
  drop,
  refl,
  sym,
  ap,
  ◌∙◌,
  inl,
  inr,
  append_assoc,
  add-zero,
  le_refl,
  arith,
  zero-le,
  lt_of_lt_of_le,
  subst,
}
use Rattle.std.specs.List.{enumerate_from, flat_map, zip, AllPairs}
use Rattle.std.specs.List.Sorted.{IsNonDecreasingBy, IsStrictlyIncreasing}
use Rattle.std.proofs.lemmas.Bool.{cases_lt}
use Rattle.std.proofs.lemmas.List.{drop_more, drop_all, length-append, length-map, get_or_append_left, get_or-append_right, get_or-map}
use Rattle.std.proofs.lemmas.List.Kept.{AllPairs-from_increasing}
use Rattle.std.proofs.lemmas.List.Elements.{All-nil, All-append}
use Rattle.version_table.specs.declared.limits.TheConstants.{VERSION_BYTES_MOST}
use Rattle.version_table.specs.declared.table.Unit.{Unit as CodedUnit}
use Rattle.version_table.specs.Choice.{version_at}
use Rattle.stream_constants.specs.declared.packets.TheConstants.{PAYLOAD_BYTES}
use Rattle.slot_rule.specs.Queues.{QueuedPacket, unit_packets}
use Rattle.slot_rule.proofs.RuleUnits.{piece_of, unit_rest, unit_rest-more, unit_rest-last, unit_rest-each, unit_rest-pieces, get_or-unit_rest, length-unit_rest, IsOfUnit}
pub use Rattle.slot_rule.specs.Private.QueueItems.{HasSizes}

-- the packets of these units, of which the first has this number; those of a program's units from 0 on are the packets of `video_of`
abbrev pub packets_from : (item : ℕ) → List CodedUnit → List ℕ → List QueuedPacket
packets_from item units choice = flat_map (λ (n, (unit, k)). unit_packets n unit.due (version_at unit k).bytes) (enumerate_from item (zip units choice))

-- the packets from unit n on are those of unit n and those from the next on
pub packets_from-at : (item n : ℕ) (units : List CodedUnit) (choice : List ℕ) (d : CodedUnit) (e : ℕ) → n < length units → n < length choice
    → packets_from item (drop n units) (drop n choice)
    ≡ unit_rest item 0 (get_or units n d).due (version_at (get_or units n d) (get_or choice n e)).bytes ++ packets_from (item + 1) (drop (n + 1) units) (drop (n + 1) choice)
packets_from-at item n units choice d e within within' = rw (drop_more units n d within, drop_more choice n e within') refl

pub packets_from-all : (item n : ℕ) (units : List CodedUnit) (choice : List ℕ) → length units ≤ n → packets_from item (drop n units) choice ≡ []
packets_from-all item n units choice all = rw (drop_all n units all) refl

-- the packets of the units before unit n, and those from it on
pub packets_from-split : (item n : ℕ) (units : List CodedUnit) (choice : List ℕ) → n ≤ length choice
    → packets_from item units choice ≡ packets_from item (take n units) choice ++ packets_from (item + n) (drop n units) (drop n choice)
packets_from-split item zero units choice fits = ap (λ m. packets_from m units choice) (sym (add-zero item))
packets_from-split item (suc n) [] choice fits = refl
packets_from-split item (suc n) (unit ∷ units) [] fits = absurd (omega arith)
packets_from-split item (suc n) (unit ∷ units) (k ∷ choice) fits =
    let next : (item + 1) + n ≡ item + suc n = omega arith in
    let own = unit_rest item 0 unit.due (version_at unit k).bytes in
    ap (λ (more : List QueuedPacket). own ++ more)
    (packets_from-split (item + 1) n units choice (omega arith) ∙ ap (λ m. packets_from (item + 1) (take n units) choice ++ packets_from m (drop n units) (drop n choice)) next)
    ∙ sym (append_assoc own (packets_from (item + 1) (take n units) choice) (packets_from (item + suc n) (drop n units) (drop n choice)))

-- the packets from a piece of a unit on, where so many bytes of the unit are left from there
abbrev pub video_from : (item piece due left : ℕ) → List CodedUnit → List ℕ → List QueuedPacket
video_from item piece due left units choice = unit_rest item piece due left ++ packets_from (item + 1) (drop (item + 1) units) (drop (item + 1) choice)

pub video_from-more : (item piece due left : ℕ) (units : List CodedUnit) (choice : List ℕ) → PAYLOAD_BYTES < left
    → video_from item piece due left units choice ≡ piece_of item due piece PAYLOAD_BYTES ∷ video_from item (piece + 1) due (left - PAYLOAD_BYTES) units choice
video_from-more item piece due left units choice large =
    ap (λ (rest : List QueuedPacket). rest ++ packets_from (item + 1) (drop (item + 1) units) (drop (item + 1) choice)) (unit_rest-more item piece due left large)

pub video_from-last : (item piece due left : ℕ) (units : List CodedUnit) (choice : List ℕ) → left ≤ PAYLOAD_BYTES
    → video_from item piece due left units choice ≡ piece_of item due piece left ∷ packets_from (item + 1) (drop (item + 1) units) (drop (item + 1) choice)
video_from-last item piece due left units choice small =
    ap (λ (rest : List QueuedPacket). rest ++ packets_from (item + 1) (drop (item + 1) units) (drop (item + 1) choice)) (unit_rest-last item piece due left small)

-- ---- the order of packets
pub AllPairs-append : {X : Type 0} (R : X → X → Type 0) (xs ys : List X) → AllPairs R xs → AllPairs R ys
    → ((i j : ℕ) (d : X) → i < length xs → j < length ys → R (get_or xs i d) (get_or ys j d)) → AllPairs R (xs ++ ys)
AllPairs-append R xs ys first second across i j d before within =
    let size : length (xs ++ ys) ≡ length xs + length ys = length-append xs ys in
    elim (cases_lt j (length xs)) as (λ _. R (get_or (xs ++ ys) i d) (get_or (xs ++ ys) j d)) [
      | inl low ↦ rw (get_or_append_left xs ys d i (omega arith), get_or_append_left xs ys d j low) (first i j d before low)
      | inr high ↦
          (elim (cases_lt i (length xs)) as (λ _. R (get_or (xs ++ ys) i d) (get_or (xs ++ ys) j d)) [
            | inl low ↦ rw (get_or_append_left xs ys d i low, get_or-append_right xs ys (length xs) j d refl high) (across i (j - length xs) d low (omega arith))
            | inr high' ↦
                rw (get_or-append_right xs ys (length xs) i d refl high', get_or-append_right xs ys (length xs) j d refl high) (second (i - length xs) (j - length xs) d (omega arith) (omega arith))
          ])
    ]

pub IsNonDecreasingBy-from_pairs : {X : Type 0} (n : X → ℕ) (xs : List X) → AllPairs (λ x y. n x ≤ n y) xs → IsNonDecreasingBy n xs
IsNonDecreasingBy-from_pairs n xs pairs i j d upto within =
    elim (cases_lt i j) as (λ _. n (get_or xs i d) ≤ n (get_or xs j d)) [
      | inl before ↦ pairs i j d before within
      | inr same ↦ (let e : i ≡ j = omega arith in rw e (le_refl _))
    ]

-- one packet comes before another in a video stream: it is of an earlier unit, or an earlier piece of one unit, and is not due later
pub record ComesBefore (packet other : QueuedPacket) : Type 0 where
  pub place : (packet.item < other.item) ⊎ ((packet.item ≡ other.item) × (packet.piece < other.piece))
  pub due : packet.due ≤ other.due
  pub gone : packet.gone ≤ other.gone

unit_rest-order : (item piece due left : ℕ) → AllPairs ComesBefore (unit_rest item piece due left)
unit_rest-order item piece due left i j d before within =
    rw (get_or-unit_rest item piece due left i d (omega arith), get_or-unit_rest item piece due left j d within)
    (record { place = inr (refl, omega arith); due = le_refl due; gone = le_refl due })

AllPairs-tail : {X : Type 0} (R : X → X → Type 0) (x : X) (xs : List X) → AllPairs R (x ∷ xs) → AllPairs R xs
AllPairs-tail R x xs pairs i j d before within = pairs (suc i) (suc j) d (omega arith) (omega arith)

AllPairs-head : {X : Type 0} (R : X → X → Type 0) (x : X) (xs : List X) → AllPairs R (x ∷ xs) → All (R x) xs
AllPairs-head R x xs pairs j d within = pairs 0 (suc j) d (omega arith) (omega arith)

-- due times rise from unit to unit
abbrev pub DuesRise : List CodedUnit → Type 0
DuesRise units = AllPairs (λ unit later. unit.due < later.due) units

pub DuesRise-from_increasing : (units : List CodedUnit) → IsStrictlyIncreasing (map (λ unit. unit.due) units) → DuesRise units
DuesRise-from_increasing units rises i j d before within =
    let dues = map (λ (unit : CodedUnit). unit.due) units in
    let size : length (map (λ (unit : CodedUnit). unit.due) units) ≡ length units = length-map units (λ unit. unit.due) in
    rw (← get_or-map (λ (unit : CodedUnit). unit.due) units i d 0 (omega arith), ← get_or-map (λ (unit : CodedUnit). unit.due) units j d 0 within)
    (AllPairs-from_increasing (map (λ (unit : CodedUnit). unit.due) units) rises i j 0 before (omega arith))

pub HasSizes-long : (units : List CodedUnit) (choice : List ℕ) → HasSizes units choice → length units ≤ length choice
HasSizes-long [] choice sizes = zero-le
HasSizes-long (unit ∷ units) [] sizes = absurd sizes
HasSizes-long (unit ∷ units) (k ∷ choice) sizes = omega (arith, HasSizes-long units choice sizes.2)

pub HasSizes-at : (units : List CodedUnit) (choice : List ℕ) → HasSizes units choice → (n : ℕ) (d : CodedUnit) (e : ℕ) → n < length units
    → (1 ≤ (version_at (get_or units n d) (get_or choice n e)).bytes) × ((version_at (get_or units n d) (get_or choice n e)).bytes ≤ VERSION_BYTES_MOST)
HasSizes-at [] choice sizes n d e within = absurd (omega arith)
HasSizes-at (unit ∷ units) [] sizes n d e within = absurd sizes
HasSizes-at (unit ∷ units) (k ∷ choice) sizes zero d e within = (sizes.0, sizes.1)
HasSizes-at (unit ∷ units) (k ∷ choice) sizes (suc n) d e within = HasSizes-at units choice sizes.2 n d e (omega arith)

-- what holds of each packet of each unit, by the unit's place and due time, holds of each packet of a video stream
pub packets_from-each : (P : QueuedPacket → Type 0) (item : ℕ) (units : List CodedUnit) (choice : List ℕ) → HasSizes units choice
    → ((n : ℕ) (d : CodedUnit) (packet : QueuedPacket) → n < length units → IsOfUnit (item + n) (get_or units n d).due packet → packet.piece < VERSION_BYTES_MOST → P packet)
    → All P (packets_from item units choice)
packets_from-each P item [] choice sizes each = All-nil P
packets_from-each P item (unit ∷ units) [] sizes each = absurd sizes
packets_from-each P item (unit ∷ units) (k ∷ choice) sizes each =
    All-append P (unit_rest item 0 unit.due (version_at unit k).bytes) (packets_from (item + 1) units choice)
    (λ i d within. each 0 unit (get_or (unit_rest item 0 unit.due (version_at unit k).bytes) i d) (omega arith)
    (rw (add-zero item) (unit_rest-each item 0 unit.due (version_at unit k).bytes sizes.0 i d within))
    (lt_of_lt_of_le (unit_rest-pieces item unit.due (version_at unit k).bytes sizes.0 i d within) sizes.1))
    (packets_from-each P (item + 1) units choice sizes.2
    (λ n d packet within h small.
    let next : (item + 1) + n ≡ item + suc n = omega arith in
    each (suc n) d packet (omega arith) (subst (λ m. IsOfUnit m (get_or units n d).due packet) next h) small))

-- a packet of a later unit, due later
record IsLater (item due : ℕ) (packet : QueuedPacket) : Type 0 where
  of_item : item < packet.item
  due_after : due < packet.due
  gone_after : due < packet.gone

-- the packets of a video stream stand in the order of their units, pieces, due and gone times
pub packets_from-order : (item : ℕ) (units : List CodedUnit) (choice : List ℕ) → HasSizes units choice → DuesRise units → AllPairs ComesBefore (packets_from item units choice)
packets_from-order item [] choice sizes rises = λ i j d before within. absurd (omega arith)
packets_from-order item (unit ∷ units) [] sizes rises = absurd sizes
packets_from-order item (unit ∷ units) (k ∷ choice) sizes rises =
    let later : All (λ later. unit.due < later.due) units = AllPairs-head (λ unit later. unit.due < later.due) unit units rises in
    let own : All (IsOfUnit item unit.due) (unit_rest item 0 unit.due (version_at unit k).bytes) = unit_rest-each item 0 unit.due (version_at unit k).bytes sizes.0 in
    let others : All (IsLater item unit.due) (packets_from (item + 1) units choice) =
    packets_from-each (IsLater item unit.due) (item + 1) units choice sizes.2
    (λ n d packet within h small.
    let above : unit.due < (get_or units n d).due = later n d within in
    record { of_item = omega (arith, h.item_is); due_after = omega (arith, h.due_is); gone_after = omega (arith, h.gone_is) }) in
    AllPairs-append ComesBefore (unit_rest item 0 unit.due (version_at unit k).bytes) (packets_from (item + 1) units choice) (unit_rest-order item 0 unit.due (version_at unit k).bytes)
    (packets_from-order (item + 1) units choice sizes.2 (AllPairs-tail (λ unit later. unit.due < later.due) unit units rises))
    (λ i j d within within'.
    let a : IsOfUnit item unit.due (get_or (unit_rest item 0 unit.due (version_at unit k).bytes) i d) = own i d within in
    let b : IsLater item unit.due (get_or (packets_from (item + 1) units choice) j d) = others j d within' in
    record { place = inl (omega (arith, a.item_is, b.of_item)); due = omega (arith, a.due_is, b.due_after); gone = omega (arith, a.gone_is, b.gone_after) })

pub packets_from-dues : (item : ℕ) (units : List CodedUnit) (choice : List ℕ) → HasSizes units choice → DuesRise units
    → IsNonDecreasingBy (λ packet. packet.due) (packets_from item units choice)
packets_from-dues item units choice sizes rises =
    IsNonDecreasingBy-from_pairs (λ packet. packet.due) (packets_from item units choice) (λ i j d before within. (packets_from-order item units choice sizes rises i j d before within).due)

pub packets_from-gones : (item : ℕ) (units : List CodedUnit) (choice : List ℕ) → HasSizes units choice → DuesRise units
    → IsNonDecreasingBy (λ packet. packet.gone) (packets_from item units choice)
packets_from-gones item units choice sizes rises =
    IsNonDecreasingBy-from_pairs (λ packet. packet.gone) (packets_from item units choice) (λ i j d before within. (packets_from-order item units choice sizes rises i j d before within).gone)

-- a video stream has at most so many packets for each unit
pub length-packets_from : (item : ℕ) (units : List CodedUnit) (choice : List ℕ) → HasSizes units choice
    → length (packets_from item units choice) ≤ length units * ((VERSION_BYTES_MOST - 1) / PAYLOAD_BYTES + 1)
length-packets_from item [] choice sizes = zero-le
length-packets_from item (unit ∷ units) [] sizes = absurd sizes
length-packets_from item (unit ∷ units) (k ∷ choice) sizes =
    let bytes = (version_at unit k).bytes in
    let size : length (packets_from item (unit ∷ units) (k ∷ choice)) ≡ length (unit_rest item 0 unit.due bytes) + length (packets_from (item + 1) units choice) =
    length-append (unit_rest item 0 unit.due bytes) (packets_from (item + 1) units choice) in
    omega (arith, size, length-unit_rest item 0 unit.due (version_at unit k).bytes, length-packets_from (item + 1) units choice sizes.2, sizes.1)
