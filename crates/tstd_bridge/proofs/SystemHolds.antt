-- The buffers of a program's sections hold no more than their sizes.
use Rattle.std.proofs.Common.{◌≡◌, ℕ, ◌+◌, ◌-◌, ◌*◌, ◌%◌, ◌<◌, ◌≤◌, eqb, List, [], ◌∷◌, ◌++◌, length, true, le_refl, refl, sym, ap, subst, ◌∙◌, inl, inr, arith}
use Rattle.std.proofs.lemmas.Bool.{cases_Bool, cases_lt, eqb-true, cond-true, cond-false}
use Rattle.std.proofs.lemmas.List.{length_push}
use Rattle.std.proofs.lemmas.Nat.{mul-le, mod-mul-add}
use Rattle.stream_constants.specs.declared.decoder.TheConstants.{TB_BYTES, SYSTEM_TB_SUBTICKS, SYSTEM_SUBTICKS, SYSTEM_BYTES}
use Rattle.version_table.specs.declared.limits.TheConstants.{PROGRAMS_MOST, SLOT_MOST}
use Rattle.version_table.specs.declared.table.Table.{Table}
use Rattle.version_table.specs.Table.{IsValidTable}
use Rattle.slot_rule.specs.declared.constants.TheConstants.{PERIOD_TICKS}
use Rattle.slot_rule.specs.Timetable.{period}
use Rattle.slot_rule.specs.declared.row.Row.{Row}
use Rattle.slot_rule.specs.declared.row.Row.TheVariants.{Reserved, Carries, Empty}
use Rattle.slot_rule.specs.declared.sent.Sent.TheVariants.{Null, Pat, Pmt, Pcr, Video as VideoPiece, Audio as AudioPiece}
use Rattle.slot_rule.specs.Buffers.{slot_subticks}
use Rattle.slot_rule.specs.Schedule.{FollowRule}
use Rattle.slot_rule.proofs.RuleFronts.{by_push}
use Rattle.slot_rule.proofs.RuleRows.{IsNext, FollowRule-front, FollowRule-last}
use Rattle.tstd_model.specs.declared.decoder_input.BufferKind.TheVariants.{System as SystemBuffers}
use Rattle.tstd_model.specs.Instants.{departures, came}
use Rattle.tstd_model.specs.PacketBytes.{parts, kept, arrives}
use Rattle.tstd_model.specs.Decoder.{IsOverfull, transport_buffer, system_buffer, payload_passes, leave_tb}
use Rattle.tstd_model.specs.Private.Server.{last_departure}
use Rattle.tstd_model.proofs.Server.{departures-spaced, came-occupied}
use Rattle.tstd_bridge.specs.Sections.{section_packets, sections_from}
use Rattle.tstd_bridge.proofs.SectionPlaces.{next_place, long_period, pat_place, IsPmtPlace, pmt_place}
use Rattle.tstd_bridge.proofs.SectionRows.{section_of, sections_from-none, sections_from-one}
use Rattle.tstd_bridge.proofs.SystemLevels.{period_work, AreServed, served-none, served-wrap, served-pat, served-pmt}
use Rattle.tstd_bridge.proofs.SystemSteps.{sections_pass}

-- ---- the period
-- a period is longer than the work of its packets of sections, and than the slots that are reserved for them
record IsLong (slot : ℕ) : Type 0 where
  pub work : period_work ≤ period slot * slot_subticks slot
  pub slots : PROGRAMS_MOST + 1 < period slot

long_work : (p slot : ℕ) → PERIOD_TICKS < p * slot + slot → slot ≤ SLOT_MOST → period_work ≤ p * slot_subticks slot
long_work p slot long short = omega (arith, long, short)

long_slots : (p slot : ℕ) → PERIOD_TICKS < p * slot + slot → slot ≤ SLOT_MOST → PROGRAMS_MOST + 1 < p
long_slots p slot long short = elim (cases_lt (PROGRAMS_MOST + 1) p) as (λ _. PROGRAMS_MOST + 1 < p) [
  | inl more ↦ more
  | inr few ↦ absurd (omega (arith, long, short, mul-le p slot (PROGRAMS_MOST + 1) slot few (le_refl slot)))
]

is_long : (slot : ℕ) → 0 < slot → slot ≤ SLOT_MOST → IsLong slot
is_long slot some short = record {
  work = long_work (period slot) slot (long_period slot some) short;
  slots = long_slots (period slot) slot (long_period slot some) short;
}

-- ---- the rows
abbrev RowsAreServed : (slot program : ℕ) → List Row → Type 0
RowsAreServed slot program rows = AreServed slot program (length rows % period slot) (length rows) (sections_from 0 program rows)

rows-nil : (slot program : ℕ) → IsLong slot → RowsAreServed slot program []
unfolding sections_from parts arrives kept departures last_departure
rows-nil slot program long =
    let e : 0 ≡ 0 * period slot + 0 = omega arith in
    let first : 0 % period slot ≡ 0 = ap (λ m. m % period slot) e ∙ mod-mul-add 0 (period slot) 0 (omega (arith, long.slots)) in
    let start : AreServed slot program 0 0 [] = record {
      has = refl;
      tb_start = λ _. omega arith;
      main_start = λ _. omega arith;
      tb_middle = λ _. omega arith;
      main_middle = λ _. omega arith;
      tb_end = omega arith;
      main_end = omega arith;
      tb_soon = tt;
      main_soon = tt;
    } in
    subst (λ offset. AreServed slot program offset 0 []) (sym first) start

rows-none : (slot program : ℕ) (rows : List Row) (row : Row) → IsLong slot → section_packets program row ≡ 0 → RowsAreServed slot program rows → RowsAreServed slot program (rows ++ row ∷ [])
rows-none slot program rows row long none before =
    let n = length rows in
    let offset = length rows % period slot in
    let arrivals = sections_from 0 program rows in
    rw (sections_from-none program rows row none, length_push rows row)
    (elim (next_place n (period slot) (omega (arith, long.slots))) as (λ _. AreServed slot program ((length rows + 1) % period slot) (length rows + 1) (sections_from 0 program rows)) [
      | inl next ↦ subst (λ o. AreServed slot program o (length rows + 1) (sections_from 0 program rows)) (sym next) (served-none slot program offset n arrivals before)
      | inr wraps ↦
          (let whole : period_work ≤ (length rows % period slot + 1) * slot_subticks slot = subst (λ p. period_work ≤ p * slot_subticks slot) (sym wraps.1) long.work in
          subst (λ o. AreServed slot program o (length rows + 1) (sections_from 0 program rows)) (sym wraps.0) (served-wrap slot program offset n arrivals whole before))
    ])

-- a packet of sections comes, not in the last slot of the period
rows-one : (slot program : ℕ) (rows : List Row) (row : Row) → IsLong slot → section_packets program row ≡ 1 → length rows % period slot ≤ PROGRAMS_MOST
    → AreServed slot program (length rows % period slot + 1) (length rows + 1) (sections_from 0 program rows ++ section_of (length rows) ∷ [])
    → RowsAreServed slot program (rows ++ row ∷ [])
rows-one slot program rows row long one low after =
    rw (sections_from-one program rows row one, length_push rows row)
    (elim (next_place (length rows) (period slot) (omega (arith, long.slots)))
    as (λ _. AreServed slot program ((length rows + 1) % period slot) (length rows + 1) (sections_from 0 program rows ++ section_of (length rows) ∷ [])) [
      | inl next ↦
          subst (λ o. AreServed slot program o (length rows + 1) (sections_from 0 program rows ++ section_of (length rows) ∷ [])) (sym next) after
      | inr wraps ↦ absurd (omega (arith, wraps.1, low, long.slots))
    ])

rows-pmt : (table : Table) (choice : List ℕ) (program p : ℕ) (rows : List Row) → IsValidTable table → IsLong table.slot → eqb p program ≡ true
    → IsPmtPlace (length table.programs) p (length rows % period table.slot)
    → RowsAreServed table.slot program rows → RowsAreServed table.slot program (rows ++ Reserved (Pmt p) ∷ [])
rows-pmt table choice program p rows valid long same place before =
    let slot = table.slot in
    let offset = length rows % period table.slot in
    let own : p ≡ program = eqb-true p program same in
    let at : length rows % period table.slot ≡ program + 1 = omega (arith, place.place, own) in
    let low : length rows % period table.slot ≤ PROGRAMS_MOST = omega (arith, place.within, valid.few_programs) in
    let early : length rows % period table.slot * slot_subticks table.slot ≤ PROGRAMS_MOST * slot_subticks table.slot =
    mul-le offset (slot_subticks slot) PROGRAMS_MOST (slot_subticks slot) low (le_refl (slot_subticks slot)) in
    rows-one slot program rows (Reserved (Pmt p)) long (cond-true (eqb p program) 1 0 same) low
    (served-pmt slot program offset (length rows) (sections_from 0 program rows) valid.slot_most at early before)

rows-row : (table : Table) (choice : List ℕ) (program : ℕ) (rows : List Row) (row : Row) → IsValidTable table → IsLong table.slot → IsNext table choice rows row
    → RowsAreServed table.slot program rows → RowsAreServed table.slot program (rows ++ row ∷ [])
rows-row table choice program rows Empty valid long next before = rows-none table.slot program rows Empty long refl before
rows-row table choice program rows (Carries s packet) valid long next before = rows-none table.slot program rows (Carries s packet) long refl before
rows-row table choice program rows (Reserved Null) valid long next before = rows-none table.slot program rows (Reserved Null) long refl before
rows-row table choice program rows (Reserved (Pcr p)) valid long next before = rows-none table.slot program rows (Reserved (Pcr p)) long refl before
rows-row table choice program rows (Reserved (VideoPiece a b c)) valid long next before = rows-none table.slot program rows (Reserved (VideoPiece a b c)) long refl before
rows-row table choice program rows (Reserved (AudioPiece a b)) valid long next before = rows-none table.slot program rows (Reserved (AudioPiece a b)) long refl before
rows-row table choice program rows (Reserved Pat) valid long next before =
    let first : length rows % period table.slot ≡ 0 = pat_place (length table.programs) (length rows % period table.slot) next in
    rows-one table.slot program rows (Reserved Pat) long refl (omega (arith, first))
    (served-pat table.slot program (length rows % period table.slot) (length rows) (sections_from 0 program rows) valid.slot_most first before)
rows-row table choice program rows (Reserved (Pmt p)) valid long next before =
    elim (cases_Bool (eqb p program)) as (λ _. RowsAreServed table.slot program (rows ++ Reserved (Pmt p) ∷ [])) [
      | inl same ↦ rows-pmt table choice program p rows valid long same (pmt_place (length table.programs) (length rows % period table.slot) p next) before
      | inr other ↦ rows-none table.slot program rows (Reserved (Pmt p)) long (cond-false (eqb p program) 1 0 other) before
    ]

rows_served : (table : Table) (choice : List ℕ) (program : ℕ) (rows : List Row) → IsValidTable table → FollowRule table choice rows → RowsAreServed table.slot program rows
rows_served table choice program rows valid =
    let long : IsLong table.slot = is_long table.slot (omega (arith, valid.slot_least)) valid.slot_most in
    by_push (λ rows. FollowRule table choice rows → RowsAreServed table.slot program rows) (λ follows. rows-nil table.slot program long)
    (λ rows row before follows.
    rows-row table choice program rows row valid long (FollowRule-last table choice rows row follows) (before (FollowRule-front table choice rows (row ∷ []) follows)))
    rows

-- ---- the buffers
pub sections_tb_holds : (table : Table) (choice : List ℕ) (program : ℕ) (rows : List Row) (at : ℕ) → IsValidTable table → FollowRule table choice rows
    → IsOverfull (transport_buffer table.slot SystemBuffers (sections_from 0 program rows)) at → ⊥
unfolding leave_tb
sections_tb_holds table choice program rows at valid follows over =
    let ts = SYSTEM_TB_SUBTICKS in
    let come = arrives table.slot (sections_from 0 program rows) in
    let served : RowsAreServed table.slot program rows = rows_served table choice program rows valid follows in
    let held : came at come ≤ TB_BYTES + came at (departures ts 0 come) =
    came-occupied ts 0 TB_BYTES (TB_BYTES * ts) at come (departures ts 0 come) refl served.tb_soon (departures-spaced ts 0 come) in
    let over' : TB_BYTES < came at come - came at (departures ts 0 come) = over in
    omega (arith, held, over')

pub sections_main_holds : (table : Table) (choice : List ℕ) (program : ℕ) (rows : List Row) (at : ℕ) → IsValidTable table → FollowRule table choice rows
    → IsOverfull (system_buffer table.slot (sections_from 0 program rows)) at → ⊥
unfolding payload_passes leave_tb
sections_main_holds table choice program rows at valid follows over =
    let q = SYSTEM_SUBTICKS in
    let pass = sections_pass table.slot (sections_from 0 program rows) in
    let served : RowsAreServed table.slot program rows = rows_served table choice program rows valid follows in
    let held : came at pass ≤ SYSTEM_BYTES + came at (departures q 0 pass) =
    came-occupied q 0 SYSTEM_BYTES (SYSTEM_BYTES * q) at pass (departures q 0 pass) refl served.main_soon (departures-spaced q 0 pass) in
    let over' : SYSTEM_BYTES < came at pass - came at (departures q 0 pass) = over in
    omega (arith, held, over')
