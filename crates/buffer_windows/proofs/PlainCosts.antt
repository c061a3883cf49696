-- Windows of time, taken as windows that count no buffer: no less charged, and no lesser value.
use Rattle.std.proofs.Common.{◌≡◌, ℕ, zero, suc, ◌+◌, ◌*◌, ◌<◌, ◌≤◌, Bool, true, false, nat_le, nat_lt, ◌==◌, All, List, [], ◌∷◌, ◌++◌, length, map, filter, get_or, fold, min, Option, Some, None, refl, sym, ap, ◌∙◌, inl, inr, lt-ltb, eq-eqb, mul-add, mul-zero, mul_comm, mul_left_comm, arith, ℤ, pos, ◌+ℤ◌, ◌-ℤ◌, ◌*ℤ◌, ◌≤ℤ◌}
use lib.IntN.{pos-*ℤ-pos, zero-*ℤ, *ℤ-zero, suc_ℤ-*ℤ}
use Rattle.std.specs.List.{list_all, zip}
use Rattle.std.specs.Int.{div_ceil}
use Rattle.std.proofs.lemmas.Bool.{cases_Bool, cases_lt, and_parts, cond-true, cond-false, or_left, or_right, le-leb, leb-true, ltb-true, false≢true}
use Rattle.std.proofs.lemmas.Int.{ints}
use Rattle.std.proofs.lemmas.List.{get_or-map, length-map}
use Rattle.std.proofs.lemmas.List.Elements.{All-cons, All-head, All-tail}
use Rattle.std.proofs.lemmas.List.Sums.{sum_by-cons}
use Rattle.stream_constants.specs.declared.decoder.TheConstants.{EB_UNIT_BYTES}
use Rattle.stream_constants.specs.declared.packets.TheConstants.{PAYLOAD_BYTES}
use Rattle.version_table.specs.declared.table.ProgramRow.{ProgramRow}
use Rattle.version_table.specs.declared.table.Table.{Table}
use Rattle.version_table.specs.declared.table.Unit.{Unit as CodedUnit}
use Rattle.version_table.specs.declared.table.Version.{Version}
use Rattle.version_table.specs.Choice.{least, version_at}
use Rattle.version_table.specs.Table.{IsValidTable, units_of}
use Rattle.version_table.proofs.Least.{least-le}
use Rattle.slot_rule.proofs.RuleQueues.{units_in}
use Rattle.dual_bounds.specs.declared.windows.Window.{Window}
use Rattle.dual_bounds.specs.Room.{is_within, room as room_of_time}
use Rattle.dual_bounds.specs.Values.{
  charge as charge_of_time,
  cost as cost_at,
  least_cost as least_cost_of_time,
  least_costs as least_costs_of_time,
  packet_count,
  price as price_of_time,
  value_of_windows as value_of_time,
  worth as worth_of_time,
}
use Rattle.dual_bounds.proofs.Charges.{price-more, worth-more as worth_of_time-more}
use Rattle.buffer_windows.specs.declared.windows.BufferWindow.{BufferWindow}
use Rattle.buffer_windows.specs.Bounds.{each_has_left}
use Rattle.buffer_windows.specs.Charges.{OwnedUnit, charged_bytes as charge, owned_from, owned_units}
use Rattle.buffer_windows.specs.Room.{buffer_room as room}
use Rattle.buffer_windows.specs.Values.{version_cost as cost, least_owned_cost as least_cost, least_owned_costs as least_costs, version_price as price, value_of_buffer_windows as value_of_windows, versions_left, buffer_worth as worth}
use Rattle.buffer_windows.specs.Windows.{is_fresh, is_held, latest, stop, without_buffers}
use Rattle.buffer_windows.proofs.Duality.{has_left, worth-more}
use Rattle.buffer_windows.proofs.PlainRooms.{fresh_from, stops_rise}
use Rattle.buffer_windows.proofs.PlainValues.{rooms_le}
use Rattle.buffer_windows.proofs.Weights.{own, pick}

-- ---- what a unit is charged
pick-whole : (within fresh in_time held : Bool) (whole bytes : ℕ) → within ≡ true → fresh ≡ true → in_time ≡ true → pick within fresh in_time held whole bytes ≡ whole
pick-whole false fresh in_time held whole bytes e f g = absurd (false≢true e)
pick-whole true false in_time held whole bytes e f g = absurd (false≢true f)
pick-whole true true false held whole bytes e f g = absurd (false≢true g)
pick-whole true true true held whole bytes e f g = refl

-- whole packets, where the unit is due in the window
charge_plain : (slot program due bytes : ℕ) (window : Window) → 0 < slot → is_within window.from window.due due ≡ true
    → charge slot (without_buffers slot window) program due bytes ≡ PAYLOAD_BYTES * div_ceil bytes PAYLOAD_BYTES
charge_plain slot program due bytes window some within =
    let bw = without_buffers slot window in
    let ends = and_parts (nat_le window.from due) (nat_le due window.due) within in
    let low : window.from ≤ due = leb-true window.from due ends.0 in
    let high : due ≤ window.due = leb-true due window.due ends.1 in
    let fresh : is_fresh slot (without_buffers slot window) due ≡ true = elim (cases_lt 0 bw.first) as (λ _. is_fresh slot (without_buffers slot window) due ≡ true) [
      | inl later ↦ or_right (bw.first == 0) (nat_lt (latest slot bw) due) (lt-ltb (latest slot bw) due (fresh_from slot window due some later low))
      | inr start ↦ or_left (bw.first == 0) (nat_lt (latest slot bw) due) (eq-eqb bw.first 0 (omega arith))
    ] in
    let in_time : nat_le (stop slot due) (without_buffers slot window).tail ≡ true = le-leb (stop slot due) bw.tail (omega (arith, stops_rise slot due window.due some high)) in
    pick-whole (nat_le due window.due) (is_fresh slot bw due) (nat_le (stop slot due) bw.tail) (is_held slot bw program due) (PAYLOAD_BYTES * div_ceil bytes PAYLOAD_BYTES) bytes ends.1 fresh in_time

one_charge : (slot : ℕ) (owned : OwnedUnit) (version : Version) (window : Window) → 0 < slot
    → PAYLOAD_BYTES * (packet_count version * charge_of_time owned.unit.due window) ≤ window.lambda * charge slot (without_buffers slot window) owned.program owned.unit.due version.bytes
one_charge slot owned version window some =
    let within = is_within window.from window.due owned.unit.due in
    let packets = packet_count version in
    elim (cases_Bool (is_within window.from window.due owned.unit.due))
    as (λ _. PAYLOAD_BYTES * (packet_count version * charge_of_time owned.unit.due window) ≤ window.lambda * charge slot (without_buffers slot window) owned.program owned.unit.due version.bytes) [
      | inl yes_is ↦
          (let priced : packet_count version * charge_of_time owned.unit.due window ≡ window.lambda * packet_count version =
          ap (λ n. packet_count version * n) (cond-true (is_within window.from window.due owned.unit.due) window.lambda 0 yes_is) ∙ mul_comm packets window.lambda in
          let whole : window.lambda * charge slot (without_buffers slot window) owned.program owned.unit.due version.bytes ≡ PAYLOAD_BYTES * (window.lambda * packet_count version) =
          ap (λ n. window.lambda * n) (charge_plain slot owned.program owned.unit.due version.bytes window some yes_is) ∙ mul_left_comm window.lambda PAYLOAD_BYTES packets in
          omega (arith, priced, whole))
      | inr no_is ↦
          (let priced : packet_count version * charge_of_time owned.unit.due window ≡ 0 =
          ap (λ n. packet_count version * n) (cond-false (is_within window.from window.due owned.unit.due) window.lambda 0 no_is) ∙ mul-zero packets in
          omega (arith, priced))
    ]

prices_le : (slot : ℕ) (owned : OwnedUnit) (version : Version) → 0 < slot → (windows : List Window)
    → PAYLOAD_BYTES * (packet_count version * price_of_time windows owned.unit.due) ≤ price slot (map (without_buffers slot) windows) owned version
unfolding price price_of_time
prices_le slot owned version some [] = omega (arith, mul-zero (packet_count version))
prices_le slot owned version some (window ∷ windows) =
    let packets = packet_count version in
    let due = owned.unit.due in
    let split : packet_count version * price_of_time (window ∷ windows) owned.unit.due
    ≡ packet_count version * charge_of_time owned.unit.due window + packet_count version * price_of_time windows owned.unit.due =
    ap (λ n. packet_count version * n) (price-more window windows due) ∙ mul-add packets (charge_of_time due window) (price_of_time windows due) in
    let more : price slot (map (without_buffers slot) (window ∷ windows)) owned version
    ≡ window.lambda * charge slot (without_buffers slot window) owned.program owned.unit.due version.bytes + price slot (map (without_buffers slot) windows) owned version =
    sum_by-cons (λ (w : BufferWindow). w.lambda * charge slot w owned.program owned.unit.due version.bytes) (without_buffers slot window) (map (without_buffers slot) windows) in
    omega (arith, split, more, one_charge slot owned version window some, prices_le slot owned version some windows)

costs_at_le : (slot : ℕ) (owned : OwnedUnit) (version : Version) (windows : List Window) → 0 < slot
    → PAYLOAD_BYTES * cost_at (price_of_time windows owned.unit.due) version ≤ cost slot (map (without_buffers slot) windows) owned version
costs_at_le slot owned version windows some = omega (arith, prices_le slot owned version some windows)

-- ---- the least
fold_min-ge : (most from : ℕ) (own : Version → ℕ) (versions : List Version) → most ≤ from → All (λ version. most ≤ own version) versions → most ≤ fold min from (map own versions)
fold_min-ge most from own [] le each = le
fold_min-ge most from own (version ∷ versions) le each =
    fold_min-ge most (min from (own version)) own versions (omega (arith, le, All-head (λ v. most ≤ own v) version versions each)) (All-tail (λ v. most ≤ own v) version versions each)

least-ge : (most : ℕ) (own : Version → ℕ) (versions : List Version) → 0 < length versions → All (λ version. most ≤ own version) versions → most ≤ least (map own versions)
least-ge most own [] some each = absurd (omega arith)
least-ge most own (version ∷ versions) some each =
    fold_min-ge most (own version) own versions (All-head (λ v. most ≤ own v) version versions each) (All-tail (λ v. most ≤ own v) version versions each)

All-left : (P : Version → Type 0) (test : Version → Bool) (versions : List Version) → All P versions → All P (filter test versions)
All-left P test [] each = each
All-left P test (version ∷ versions) each = elim (cases_Bool (test version)) as (λ _. All P (filter test (version ∷ versions))) [
  | inl yes_is ↦ rw yes_is (All-cons P version (filter test versions) (All-head P version versions each) (All-left P test versions (All-tail P version versions each)))
  | inr no_is ↦ rw no_is (All-left P test versions (All-tail P version versions each))
]

unit_le : (slot : ℕ) (windows : List Window) (owned : OwnedUnit) (fixed : Option ℕ) → 0 < slot → 0 < length (versions_left owned fixed)
    → PAYLOAD_BYTES * least_cost_of_time windows owned.unit fixed ≤ least_cost slot (map (without_buffers slot) windows) owned fixed
unfolding least_cost least_cost_of_time
unit_le slot windows owned (Some k) some left = omega (arith, costs_at_le slot owned (version_at owned.unit k) windows some)
unit_le slot windows owned None some left =
    let versions = owned.unit.versions.items in
    let early : Version → ℕ = cost_at (price_of_time windows owned.unit.due) in
    let most = PAYLOAD_BYTES * least (map (cost_at (price_of_time windows owned.unit.due)) owned.unit.versions.items) in
    let each : All (λ version. PAYLOAD_BYTES * least (map (cost_at (price_of_time windows owned.unit.due)) owned.unit.versions.items)
    ≤ cost slot (map (without_buffers slot) windows) owned version) owned.unit.versions.items =
    λ i d within.
    (let at : get_or (map (cost_at (price_of_time windows owned.unit.due)) owned.unit.versions.items) i 0 ≡ cost_at (price_of_time windows owned.unit.due) (get_or owned.unit.versions.items i d) =
    get_or-map (cost_at (price_of_time windows owned.unit.due)) versions i d 0 within in
    omega (
      arith,
      at,
      least-le (map (cost_at (price_of_time windows owned.unit.due)) owned.unit.versions.items) i (omega (arith, within, length-map versions (cost_at (price_of_time windows owned.unit.due)))),
      costs_at_le slot owned (get_or owned.unit.versions.items i d) windows some,
    )) in
    least-ge most (cost slot (map (without_buffers slot) windows) owned) (versions_left owned None) left
    (All-left (λ version. PAYLOAD_BYTES * least (map (cost_at (price_of_time windows owned.unit.due)) owned.unit.versions.items)
    ≤ cost slot (map (without_buffers slot) windows) owned version) (λ version. nat_le version.bytes (EB_UNIT_BYTES * owned.vbv)) versions each)

-- ---- all units
-- where what holds of the later programs is given
row_le : (slot : ℕ) (windows : List Window) (program : ℕ) (row : ProgramRow) (others : List OwnedUnit) (more : List CodedUnit) → 0 < slot
    → ((part : List (Option ℕ)) → list_all has_left (zip others part) ≡ true
    → PAYLOAD_BYTES * least_costs_of_time windows more part ≤ least_costs slot (map (without_buffers slot) windows) others part)
    → (units : List CodedUnit) (part : List (Option ℕ)) → list_all has_left (zip (map (own program row.vbv) units ++ others) part) ≡ true
    → PAYLOAD_BYTES * least_costs_of_time windows (units ++ more) part ≤ least_costs slot (map (without_buffers slot) windows) (map (own program row.vbv) units ++ others) part
unfolding least_costs least_costs_of_time
row_le slot windows program row others more some later [] part left = later part left
row_le slot windows program row others more some later (unit ∷ units) [] left = omega arith
row_le slot windows program row others more some later (unit ∷ units) (entry ∷ part) left =
    let parts = and_parts (has_left (own program row.vbv unit, entry)) (list_all has_left (zip (map (own program row.vbv) units ++ others) part)) left in
    omega (
      arith,
      sum_by-cons (λ (x : CodedUnit × Option ℕ). least_cost_of_time windows x.0 x.1) (unit, entry) (zip (units ++ more) part),
      sum_by-cons (λ (x : OwnedUnit × Option ℕ). least_cost slot (map (without_buffers slot) windows) x.0 x.1) (own program row.vbv unit, entry)
          (zip (map (own program row.vbv) units ++ others) part),
      unit_le slot windows (own program row.vbv unit) entry some (ltb-true 0 (length (versions_left (own program row.vbv unit) entry)) parts.0),
      row_le slot windows program row others more some later units part parts.1,
    )

programs_le : (slot : ℕ) (windows : List Window) (program : ℕ) (programs : List ProgramRow) (part : List (Option ℕ)) → 0 < slot
    → list_all has_left (zip (owned_from program programs) part) ≡ true
    → PAYLOAD_BYTES * least_costs_of_time windows (units_in programs) part ≤ least_costs slot (map (without_buffers slot) windows) (owned_from program programs) part
unfolding least_costs least_costs_of_time
programs_le slot windows program [] part some left = omega arith
programs_le slot windows program (row ∷ programs) part some left =
    row_le slot windows program row (owned_from (program + 1) programs) (units_in programs) some
    (λ part' left'. programs_le slot windows (program + 1) programs part' some left') row.units part left

-- ---- worth
scale-add : (l : ℕ) (a b : ℤ) → (pos l *ℤ (a +ℤ b)) ≡ ((pos l *ℤ a) +ℤ (pos l *ℤ b))
scale-add zero a b = omega (arith, ints, zero-*ℤ (a +ℤ b), zero-*ℤ a, zero-*ℤ b)
scale-add (suc l) a b =
    let whole : (pos (suc l) *ℤ (a +ℤ b)) ≡ ((pos l *ℤ (a +ℤ b)) +ℤ (a +ℤ b)) = suc_ℤ-*ℤ (pos l) (a +ℤ b) in
    let first : (pos (suc l) *ℤ a) ≡ ((pos l *ℤ a) +ℤ a) = suc_ℤ-*ℤ (pos l) a in
    let second : (pos (suc l) *ℤ b) ≡ ((pos l *ℤ b) +ℤ b) = suc_ℤ-*ℤ (pos l) b in
    let before = scale-add l a b in
    omega (arith, ints)

scale-le : (l : ℕ) (a b : ℤ) → a ≤ℤ b → (pos l *ℤ a) ≤ℤ (pos l *ℤ b)
scale-le zero a b le = omega (arith, ints, zero-*ℤ a, zero-*ℤ b)
scale-le (suc l) a b le =
    let first : (pos (suc l) *ℤ a) ≡ ((pos l *ℤ a) +ℤ a) = suc_ℤ-*ℤ (pos l) a in
    let second : (pos (suc l) *ℤ b) ≡ ((pos l *ℤ b) +ℤ b) = suc_ℤ-*ℤ (pos l) b in
    let before = scale-le l a b le in
    omega (arith, ints)

scale-swap : (l k : ℕ) (a : ℤ) → (pos l *ℤ (pos k *ℤ a)) ≡ (pos k *ℤ (pos l *ℤ a))
scale-swap zero k a = zero-*ℤ (pos k *ℤ a) ∙ sym (*ℤ-zero (pos k)) ∙ ap (λ b. pos k *ℤ b) (sym (zero-*ℤ a))
scale-swap (suc l) k a =
    let left : (pos (suc l) *ℤ (pos k *ℤ a)) ≡ ((pos l *ℤ (pos k *ℤ a)) +ℤ (pos k *ℤ a)) = suc_ℤ-*ℤ (pos l) (pos k *ℤ a) in
    let right : (pos k *ℤ (pos (suc l) *ℤ a)) ≡ (pos k *ℤ ((pos l *ℤ a) +ℤ a)) = ap (λ b. pos k *ℤ b) (suc_ℤ-*ℤ (pos l) a) in
    let apart : (pos k *ℤ ((pos l *ℤ a) +ℤ a)) ≡ ((pos k *ℤ (pos l *ℤ a)) +ℤ (pos k *ℤ a)) = scale-add k (pos l *ℤ a) a in
    let before = scale-swap l k a in
    omega (arith, ints)

worth_le : (table : Table) → IsValidTable table → (windows : List Window) → worth table (map (without_buffers table.slot) windows) ≤ℤ (pos PAYLOAD_BYTES *ℤ worth_of_time table windows)
unfolding worth worth_of_time
worth_le table valid [] = omega (arith, ints, *ℤ-zero (pos PAYLOAD_BYTES))
worth_le table valid (window ∷ windows) =
    let bw = without_buffers table.slot window in
    let rest = worth_le table valid windows in
    let here : (pos window.lambda *ℤ room table (without_buffers table.slot window)) ≤ℤ (pos window.lambda *ℤ (pos PAYLOAD_BYTES *ℤ room_of_time table window.from window.due)) =
    scale-le window.lambda (room table bw) (pos PAYLOAD_BYTES *ℤ room_of_time table window.from window.due) (rooms_le table window valid) in
    let swapped = scale-swap window.lambda PAYLOAD_BYTES (room_of_time table window.from window.due) in
    let whole = worth-more table (without_buffers table.slot window) (map (without_buffers table.slot) windows) in
    let early : (pos PAYLOAD_BYTES *ℤ worth_of_time table (window ∷ windows))
    ≡ (pos PAYLOAD_BYTES *ℤ ((pos window.lambda *ℤ room_of_time table window.from window.due) +ℤ worth_of_time table windows)) =
    ap (λ a. pos PAYLOAD_BYTES *ℤ a) (worth_of_time-more table window windows) in
    let apart = scale-add PAYLOAD_BYTES (pos window.lambda *ℤ room_of_time table window.from window.due) (worth_of_time table windows) in
    omega (arith, ints)

-- ---- the value
pub values_le : (table : Table) (fixed : List (Option ℕ)) (windows : List Window) → IsValidTable table → each_has_left table fixed ≡ true
    → (pos PAYLOAD_BYTES *ℤ value_of_time table fixed windows) ≤ℤ value_of_windows table fixed (map (without_buffers table.slot) windows)
unfolding value_of_time value_of_windows
values_le table fixed windows valid left =
    let some : 0 < table.slot = omega (arith, valid.slot_least) in
    let costs : PAYLOAD_BYTES * least_costs_of_time windows (units_of table) fixed ≤ least_costs table.slot (map (without_buffers table.slot) windows) (owned_units table) fixed =
    programs_le table.slot windows 0 table.programs fixed some left in
    let worths = worth_le table valid windows in
    let early = pos (least_costs_of_time windows (units_of table) fixed) in
    let value = value_of_time table fixed windows in
    let sum_is : pos (least_costs_of_time windows (units_of table) fixed)
    ≡ ((pos (least_costs_of_time windows (units_of table) fixed) -ℤ worth_of_time table windows) +ℤ worth_of_time table windows) = omega (arith, ints) in
    let scaled : (pos PAYLOAD_BYTES *ℤ pos (least_costs_of_time windows (units_of table) fixed))
    ≡ (pos PAYLOAD_BYTES *ℤ ((pos (least_costs_of_time windows (units_of table) fixed) -ℤ worth_of_time table windows) +ℤ worth_of_time table windows)) =
    ap (λ a. pos PAYLOAD_BYTES *ℤ a) sum_is in
    let apart = scale-add PAYLOAD_BYTES (pos (least_costs_of_time windows (units_of table) fixed) -ℤ worth_of_time table windows) (worth_of_time table windows) in
    let product = pos-*ℤ-pos PAYLOAD_BYTES (least_costs_of_time windows (units_of table) fixed) in
    omega (arith, ints)
