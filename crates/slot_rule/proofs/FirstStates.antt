-- The streams of the first programs of a table, for a loop over its programs.
use Rattle.std.proofs.Common.{◌≡◌, ℕ, suc, ◌+◌, ◌<◌, ◌≤◌, List, [], ◌∷◌, ◌++◌, length, map, get_or, take, drop, sum_by, sym, ap, ap₂, subst, ◌∙◌, append_assoc, append-nil, add-zero, zero-add, arith}
use Rattle.std.proofs.lemmas.List.{length-map, length-append, length-take-le, take_more, take-append-drop}
use Rattle.std.proofs.lemmas.List.Concat.{flat_map-append}
use Rattle.std.proofs.lemmas.List.Sums.{sum_by_more_le}
use Rattle.std.proofs.lemmas.Slice.Zip.{AllZip-long}
use Rattle.version_table.specs.declared.limits.TheConstants.{UNITS_MOST}
use Rattle.version_table.specs.declared.table.ProgramRow.{ProgramRow}
use Rattle.version_table.specs.declared.table.Table.{Table}
use Rattle.version_table.specs.declared.table.Unit.{Unit as CodedUnit}
use Rattle.version_table.specs.Table.{IsValidTable, units_of}
use Rattle.version_table.specs.Choice.{Fits, HasVersion}
use Rattle.slot_rule.specs.declared.queue_items.QueueItems.{QueueItems}
use Rattle.slot_rule.specs.declared.queue_items.QueueItems.TheVariants.{Units}
use Rattle.slot_rule.specs.declared.states.TheConstants.{QUEUES_MOST}
use Rattle.slot_rule.specs.declared.queue_state.QueueState.{QueueState}
use Rattle.slot_rule.specs.Private.QueueItems.{HasSizes, IsPlace, program_at}
use Rattle.slot_rule.specs.Private.States.{places_from, places_in, places_kept, queue_of}
use Rattle.slot_rule.specs.Queues.{Queue, queues_from, queues_of}
use Rattle.slot_rule.proofs.RuleQueues.{units_in, queues_in, queues_from-push, length-queues_from, queues_of-few, HasSizes-at_program}

-- the units of the first programs are no more than all
all_units_of_front : (rows : List ProgramRow) (p : ℕ) → length (units_in (take p rows)) ≤ length (units_in rows)
all_units_of_front rows p =
    let split : units_in rows ≡ units_in (take p rows) ++ units_in (drop p rows) = ap units_in (sym (take-append-drop p rows))
    ∙ flat_map-append (λ (row : ProgramRow). row.units) (take p rows) (drop p rows) in
    omega (arith, ap (λ (units : List CodedUnit). length units) split, length-append (units_in (take p rows)) (units_in (drop p rows)))

pub all_units_more : (rows : List ProgramRow) (p : ℕ) (d : ProgramRow) → p < length rows
    → length (units_in (take (p + 1) rows)) ≡ length (units_in (take p rows)) + length (get_or rows p d).units
all_units_more rows p d within =
    let row = get_or rows p d in
    let more : units_in (take (p + 1) rows) ≡ units_in (take p rows) ++ (row.units ++ []) =
    ap units_in (take_more rows p d within) ∙ flat_map-append (λ (r : ProgramRow). r.units) (take p rows) (row ∷ []) in
    omega (arith, ap (λ (units : List CodedUnit). length units) more, length-append (units_in (take p rows)) (row.units ++ []), length-append row.units [])

-- the place of the next program's first unit is small
pub units_small : (table : Table) (p : ℕ) (d : ProgramRow) → IsValidTable table → p < length table.programs
    → length (units_in (take p table.programs)) + length (get_or table.programs p d).units ≤ UNITS_MOST
units_small table p d valid within = omega (arith, all_units_more table.programs p d within, all_units_of_front table.programs (p + 1), valid.units)

-- the units of a program stand where those of the programs before it end
pub place_of_program : (table : Table) (choice : List ℕ) (p first : ℕ) → IsValidTable table → Fits table choice → p < length table.programs
    → first ≡ length (units_in (take p table.programs)) → IsPlace table choice (Units p first)
place_of_program table choice p first valid fits within first_is =
    let long : length choice ≡ length (units_of table) = AllZip-long HasVersion (units_of table) choice fits in
    let sizes : HasSizes (program_at table p).units (drop (length (units_in (take p table.programs))) choice) = HasSizes-at_program table choice p
    (record { vbv = 0; units = []; audios = [] }) valid fits within in
    (within, omega (arith, all_units_of_front table.programs p), subst (λ n. HasSizes (program_at table p).units (drop n choice)) (sym first_is) sizes)

-- there is room for the streams of the next program
pub room_for_program : (table : Table) (choice : List ℕ) (p : ℕ) (states : List QueueState) → IsValidTable table → p < length table.programs
    → map (queue_of table choice) states ≡ queues_from 0 (take p table.programs) choice → length states + (1 + length (program_at table p).audios) ≤ QUEUES_MOST
room_for_program table choice p states valid within queues =
    let many : length states ≡ sum_by (λ row. suc (length row.audios)) (take p table.programs) =
    sym (length-map states (queue_of table choice)) ∙ ap (λ (s : List Queue). length s) queues ∙ length-queues_from 0 (take p table.programs) choice in
    let all : length (queues_of table choice) ≡ sum_by (λ row. suc (length row.audios)) table.programs = length-queues_from 0 table.programs choice in
    let more = sum_by_more_le (λ row. suc (length row.audios)) table.programs p (record { vbv = 0; units = []; audios = [] }) within in
    omega (arith, queues_of-few table choice valid)

-- the streams of one more program
pub queues_more : (table : Table) (choice : List ℕ) (p first : ℕ) (olds news : List QueueState) → p < length table.programs → first ≡ length (units_in (take p table.programs))
    → map (queue_of table choice) olds ≡ queues_from 0 (take p table.programs) choice
    → map (queue_of table choice) news ≡ map (queue_of table choice) olds ++ queues_in p (program_at table p) (drop first choice)
    → map (queue_of table choice) news ≡ queues_from 0 (take (p + 1) table.programs) choice
queues_more table choice p first olds news within first_is queues added =
    let row = program_at table p in
    let number : 0 + length (take p table.programs) ≡ p = zero-add _ ∙ length-take-le p table.programs (omega arith) in
    added ∙ ap (λ (s : List Queue). s ++ queues_in p row (drop first choice)) queues
    ∙ ap (λ n. queues_from 0 (take p table.programs) choice ++ queues_in p row (drop n choice)) first_is
    ∙ ap (λ n. queues_from 0 (take p table.programs) choice ++ queues_in n row (drop (length (units_in (take p table.programs))) choice)) (sym number)
    ∙ sym (ap (λ (rows : List ProgramRow). queues_from 0 rows choice)
    (take_more table.programs p (record { vbv = 0; units = []; audios = [] }) within) ∙ queues_from-push 0 (take p table.programs) row choice)

-- ---- where their packets stand
-- the places of one more program
places_from-push : (program first : ℕ) (rows : List ProgramRow) (row : ProgramRow)
    → places_from program first (rows ++ row ∷ []) ≡ places_from program first rows ++ places_in (program + length rows) (first + length (units_in rows)) row
places_from-push program first [] row =
    append-nil (places_in program first row) ∙ ap₂ (λ p f. places_in p f row) (sym (add-zero program)) (sym (add-zero first))
places_from-push program first (r ∷ rows) row =
    let later : program + 1 + length rows ≡ program + suc (length rows) = omega arith in
    let units : first + length r.units + length (units_in rows) ≡ first + length (units_in (r ∷ rows)) = omega (arith, length-append r.units (units_in rows)) in
    ap (λ (more : List QueueItems). places_in program first r ++ more)
    (places_from-push (program + 1) (first + length r.units) rows row
    ∙ ap₂ (λ p f. places_from (program + 1) (first + length r.units) rows ++ places_in p f row) later units)
    ∙ sym (append_assoc (places_in program first r) (places_from (program + 1) (first + length r.units) rows) (places_in (program + suc (length rows)) (first + length (units_in (r ∷ rows))) row))

pub places_more : (table : Table) (p first : ℕ) (olds news : List QueueState) → p < length table.programs → first ≡ length (units_in (take p table.programs))
    → places_kept olds ≡ places_from 0 0 (take p table.programs) → places_kept news ≡ places_kept olds ++ places_in p first (program_at table p)
    → places_kept news ≡ places_from 0 0 (take (p + 1) table.programs)
places_more table p first olds news within first_is places added =
    let row = program_at table p in
    let number : p ≡ 0 + length (take p table.programs) = sym (zero-add _ ∙ length-take-le p table.programs (omega arith)) in
    let unit : first ≡ 0 + length (units_in (take p table.programs)) = first_is ∙ sym (zero-add _) in
    added ∙ ap (λ (list : List QueueItems). list ++ places_in p first row) places
    ∙ ap₂ (λ n f. places_from 0 0 (take p table.programs) ++ places_in n f row) number unit
    ∙ sym (ap (λ (rows : List ProgramRow). places_from 0 0 rows) (take_more table.programs p (record { vbv = 0; units = []; audios = [] }) within)
    ∙ places_from-push 0 0 (take p table.programs) row)
