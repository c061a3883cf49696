-- The slots of a schedule begin with the PAT and the PMTs.
use Rattle.std.proofs.Common.{
  ◌≡◌,
  ℕ,
  zero,
  suc,
  ◌+◌,
  ◌-◌,
  ◌*◌,
  ◌/◌,
  ◌%◌,
  ◌<◌,
  ◌≤◌,
  ◌==◌,
  nat_le,
  Bool,
  true,
  false,
  cond,
  List,
  length,
  get_or,
  map,
  take,
  Option,
  Some,
  None,
  refl,
  sym,
  ap,
  ◌∙◌,
  subst,
  arith,
}
use Rattle.std.specs.Prelude.{slice_get}
use Rattle.std.proofs.lemmas.Bool.{le-leb, ne_eqb}
use Rattle.std.proofs.lemmas.List.{get_or-map, length-map, length-take-le}
use Rattle.std.proofs.lemmas.Nat.{le-div, mod-mul-add, mul-le}
use Rattle.std.proofs.lemmas.Option.{none-some, same_Some, slice_get-get_or}
use Rattle.version_table.specs.declared.table.Table.{Table}
use Rattle.version_table.specs.Table.{IsValidTable}
use Rattle.slot_rule.specs.declared.row.Row.{Row}
use Rattle.slot_rule.specs.declared.row.Row.TheVariants.{Reserved, Carries, Empty}
use Rattle.slot_rule.specs.declared.slot_list.SlotList.{SlotList}
use Rattle.slot_rule.specs.declared.sent.Sent.{Sent}
use Rattle.slot_rule.specs.declared.sent.Sent.TheVariants.{Null, Pat, Pmt, Pcr}
use Rattle.slot_rule.specs.Queues.{Queue, queues_of}
use Rattle.slot_rule.specs.Schedule.{IsRow}
use Rattle.slot_rule.specs.SlotList.{IsSlotList, sent_of}
use Rattle.slot_rule.specs.Timetable.{period, reserved, reserved_at}
use Rattle.slot_rule.proofs.RuleRows.{FollowRule-at}
use Rattle.parsing_laws.specs.TakenOut.{BeginWithTables}

-- ---- the timetable

pmt-reserved : (programs program : ℕ) → program < programs → reserved_at programs (program + 1) ≡ Some (Pmt program)
pmt-reserved programs program within =
    let pcr : Option Sent = cond (nat_le (program + 1) (2 * programs)) (Some (Pcr (program + 1 - programs - 1))) None in
    ap (λ (b : Bool). cond b (Some Pat) (cond (nat_le (program + 1) programs) (Some (Pmt (program + 1 - 1))) pcr)) (ne_eqb (program + 1) 0 (λ same. omega (arith, same)))
    ∙ ap (λ (b : Bool). cond b (Some (Pmt (program + 1 - 1))) pcr) (le-leb (program + 1) programs (omega (arith, within)))
    ∙ ap (λ (k : ℕ). Some (Pmt k)) (let e : program + 1 - 1 ≡ program = omega arith in e)

pub long-period : (slot : ℕ) → 0 < slot → slot ≤ 40000 → 27 ≤ period slot
long-period slot some short = le-div 27 1080000 slot some (omega (arith, short))

in-first-period : (slot n : ℕ) → n < period slot → n % period slot ≡ n
in-first-period slot n within =
    let e : n ≡ 0 * period slot + n = omega arith in
    ap (λ (k : ℕ). k % period slot) e ∙ mod-mul-add 0 (period slot) n within

-- ---- the slots

pub row-is : (queues : List Queue) (slot programs : ℕ) (before : List Row) (row : Row) (sent : Sent) → IsRow slot programs queues before row → reserved slot programs (length before) ≡ Some sent
    → sent_of queues row ≡ sent
row-is queues slot programs before (Reserved other) sent is reserved_is = same_Some other sent (sym is ∙ reserved_is)
row-is queues slot programs before (Carries stream packet) sent is reserved_is = absurd (none-some sent (sym is.0 ∙ reserved_is))
row-is queues slot programs before Empty sent is reserved_is = absurd (none-some sent (sym is.0 ∙ reserved_is))

slot-is : (table : Table) (choice : List ℕ) (list : SlotList) (is : IsSlotList table choice list) (n : ℕ) (sent : Sent) → n < length is.rows
    → reserved table.slot (length table.programs) n ≡ Some sent → slice_get list.rows n ≡ Some sent
slot-is table choice list is n sent within reserved_is =
    let queues : List Queue = queues_of table choice in
    let row : Row = get_or is.rows n Empty in
    let next = FollowRule-at table choice is.rows is.schedule.follows n Empty within in
    let size : length (take n is.rows) ≡ n = length-take-le n is.rows (omega (arith, within)) in
    let stands : sent_of queues row ≡ sent =
    row-is queues table.slot (length table.programs) (take n is.rows) row sent next (ap (reserved table.slot (length table.programs)) size ∙ reserved_is) in
    ap (λ (rows : List Sent). slice_get rows n) is.rows_are
    ∙ slice_get-get_or (map (sent_of queues) is.rows) n Null (omega (arith, within, length-map is.rows (sent_of queues)))
    ∙ ap (λ (s : Sent). Some s) (get_or-map (sent_of queues) is.rows n Empty Null within ∙ stands)

some-periods : (slots periods period : ℕ) → 0 < slots → slots ≡ periods * period → period ≤ slots
some-periods slots zero period some whole = absurd (omega (arith, some, whole))
some-periods slots (suc periods) period some whole = omega (arith, whole, mul-le 1 period (suc periods) period (omega arith) (omega arith))

pub begin-with-tables : (table : Table) (choice : List ℕ) (list : SlotList) → IsValidTable table → IsSlotList table choice list → BeginWithTables (length table.programs) list.rows
begin-with-tables table choice list valid is =
    let long : 27 ≤ period table.slot = long-period table.slot (omega (arith, valid.slot_least)) (omega (arith, valid.slot_most)) in
    let many : period table.slot ≤ length is.rows =
    (let all = some-periods list.slots is.count.passes.multiple.0 (period table.slot) is.count.passes.positive is.count.passes.multiple.1 in omega (arith, all, is.one_each)) in
    record {
      pat = slot-is table choice list is 0 Pat (omega (arith, long, many))
          (ap (reserved_at (length table.programs)) (in-first-period table.slot 0 (omega (arith, long))));
      pmts = λ program within.
          slot-is table choice list is (program + 1) (Pmt program) (omega (arith, within, valid.few_programs, long, many))
          (ap (reserved_at (length table.programs)) (in-first-period table.slot (program + 1) (omega (arith, within, valid.few_programs, long)))
          ∙ pmt-reserved (length table.programs) program within);
    }
