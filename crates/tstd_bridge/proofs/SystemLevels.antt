-- How long TB and the main buffer of sections are busy, by where the next slot stands in the period.
use Rattle.std.proofs.Common.{◌≡◌, ℕ, ◌+◌, ◌-◌, ◌*◌, ◌≤◌, List, [], ◌∷◌, ◌++◌, arith}
use Rattle.stream_constants.specs.declared.decoder.TheConstants.{SYSTEM_TB_SUBTICKS}
use Rattle.version_table.specs.declared.limits.TheConstants.{PROGRAMS_MOST, SLOT_MOST}
use Rattle.slot_rule.specs.Buffers.{slot_subticks}
use Rattle.tstd_model.specs.declared.decoder_input.Arrival.{Arrival}
use Rattle.tstd_model.specs.PacketBytes.{byte_subticks}
use Rattle.tstd_bridge.proofs.SectionRows.{section_of, HaveParts, have_parts-push}
use Rattle.tstd_bridge.proofs.SystemSteps.{tb_free_of, main_free_of, packet_work, payload_work, section_fits, tb_after, main_after, TbSoon, MainSoon, tb_soon_after, main_soon_after}

-- the work of a period's two packets
abbrev pub period_work : ℕ
period_work = packet_work + 2 * payload_work

-- after n slots, of which so many are of the period that goes on: free at the start, behind by a packet until the program's
-- PMT, and never behind by more than two
pub record AreServed (slot program offset n : ℕ) (arrivals : List Arrival) : Type 0 where
  pub has : HaveParts slot arrivals
  pub tb_start : offset ≡ 0 → tb_free_of slot arrivals ≤ n * slot_subticks slot
  pub main_start : offset ≡ 0 → main_free_of slot arrivals ≤ n * slot_subticks slot
  pub tb_middle : offset ≤ program + 1 → tb_free_of slot arrivals + offset * slot_subticks slot ≤ n * slot_subticks slot + packet_work
  pub main_middle : offset ≤ program + 1 → main_free_of slot arrivals + offset * slot_subticks slot ≤ n * slot_subticks slot + packet_work + payload_work
  pub tb_end : tb_free_of slot arrivals + offset * slot_subticks slot ≤ n * slot_subticks slot + period_work
  pub main_end : main_free_of slot arrivals + offset * slot_subticks slot ≤ n * slot_subticks slot + period_work
  pub tb_soon : TbSoon slot arrivals
  pub main_soon : MainSoon slot arrivals

pub served-none : (slot program offset n : ℕ) (arrivals : List Arrival) → AreServed slot program offset n arrivals → AreServed slot program (offset + 1) (n + 1) arrivals
served-none slot program offset n arrivals before = record {
  has = before.has;
  tb_start = λ none. absurd (omega (arith, none));
  main_start = λ none. absurd (omega (arith, none));
  tb_middle = λ low. (let l : offset ≤ program + 1 = omega (arith, low) in omega (arith, before.tb_middle l));
  main_middle = λ low. (let l : offset ≤ program + 1 = omega (arith, low) in omega (arith, before.main_middle l));
  tb_end = omega (arith, before.tb_end);
  main_end = omega (arith, before.main_end);
  tb_soon = before.tb_soon;
  main_soon = before.main_soon;
}

-- the next period begins
pub served-wrap : (slot program offset n : ℕ) (arrivals : List Arrival) → period_work ≤ (offset + 1) * slot_subticks slot
    → AreServed slot program offset n arrivals → AreServed slot program 0 (n + 1) arrivals
served-wrap slot program offset n arrivals long before =
    let tb : tb_free_of slot arrivals ≤ (n + 1) * slot_subticks slot = omega (arith, before.tb_end, long) in
    let main : main_free_of slot arrivals ≤ (n + 1) * slot_subticks slot = omega (arith, before.main_end, long) in
    record {
      has = before.has;
      tb_start = λ _. tb;
      main_start = λ _. main;
      tb_middle = λ _. omega (arith, tb);
      main_middle = λ _. omega (arith, main);
      tb_end = omega (arith, tb);
      main_end = omega (arith, main);
      tb_soon = before.tb_soon;
      main_soon = before.main_soon;
    }

-- the PAT comes
pub served-pat : (slot program offset n : ℕ) (arrivals : List Arrival) → slot ≤ SLOT_MOST → offset ≡ 0 → AreServed slot program offset n arrivals
    → AreServed slot program (offset + 1) (n + 1) (arrivals ++ section_of n ∷ [])
served-pat slot program offset n arrivals short first before =
    let quick : byte_subticks slot ≤ SYSTEM_TB_SUBTICKS = omega (arith, short) in
    let tb_most : tb_free_of slot arrivals ≤ n * slot_subticks slot = before.tb_start first in
    let main_most : main_free_of slot arrivals ≤ n * slot_subticks slot = before.main_start first in
    let tb : tb_free_of slot (arrivals ++ section_of n ∷ []) ≤ n * slot_subticks slot + packet_work = omega (arith, tb_after slot n arrivals quick, tb_most) in
    let main : main_free_of slot (arrivals ++ section_of n ∷ []) ≤ n * slot_subticks slot + packet_work + payload_work =
    main_after slot n (n * slot_subticks slot + packet_work + payload_work) arrivals before.has quick (omega (arith, main_most)) (omega (arith, tb_most)) (omega (arith, short)) in
    let one : (offset + 1) * slot_subticks slot ≡ slot_subticks slot = rw first (omega arith) in
    record {
      has = have_parts-push slot arrivals (section_of n) (section_fits n) before.has;
      tb_start = λ none. absurd (omega (arith, none));
      main_start = λ none. absurd (omega (arith, none));
      tb_middle = λ _. omega (arith, tb, one);
      main_middle = λ _. omega (arith, main, one);
      tb_end = omega (arith, tb, one);
      main_end = omega (arith, main, one);
      tb_soon = tb_soon_after slot n arrivals (omega (arith, tb_most)) before.tb_soon;
      main_soon = main_soon_after slot n arrivals before.has (omega (arith, main_most)) before.main_soon;
    }

-- the program's PMT comes
pub served-pmt : (slot program offset n : ℕ) (arrivals : List Arrival) → slot ≤ SLOT_MOST → offset ≡ program + 1 → offset * slot_subticks slot ≤ PROGRAMS_MOST * slot_subticks slot
    → AreServed slot program offset n arrivals → AreServed slot program (offset + 1) (n + 1) (arrivals ++ section_of n ∷ [])
served-pmt slot program offset n arrivals short place early before =
    let quick : byte_subticks slot ≤ SYSTEM_TB_SUBTICKS = omega (arith, short) in
    let low : offset ≤ program + 1 = omega (arith, place) in
    let tb_most : tb_free_of slot arrivals + offset * slot_subticks slot ≤ n * slot_subticks slot + packet_work = before.tb_middle low in
    let main_most : main_free_of slot arrivals + offset * slot_subticks slot ≤ n * slot_subticks slot + packet_work + payload_work = before.main_middle low in
    let os = offset * slot_subticks slot in
    let tb : tb_free_of slot (arrivals ++ section_of n ∷ []) + (offset + 1) * slot_subticks slot ≤ (n + 1) * slot_subticks slot + period_work =
    omega (arith, tb_after slot n arrivals quick, tb_most, early, short) in
    let most = ((n + 1) * slot_subticks slot + period_work) - (offset + 1) * slot_subticks slot in
    let main : main_free_of slot (arrivals ++ section_of n ∷ []) ≤ ((n + 1) * slot_subticks slot + period_work) - (offset + 1) * slot_subticks slot =
    main_after slot n most arrivals before.has quick (omega (arith, main_most, early, short)) (omega (arith, tb_most, early, short)) (omega (arith, early, short)) in
    record {
      has = have_parts-push slot arrivals (section_of n) (section_fits n) before.has;
      tb_start = λ none. absurd (omega (arith, none));
      main_start = λ none. absurd (omega (arith, none));
      tb_middle = λ late. absurd (omega (arith, late, place));
      main_middle = λ late. absurd (omega (arith, late, place));
      tb_end = tb;
      main_end = omega (arith, main, early, short);
      tb_soon = tb_soon_after slot n arrivals (omega (arith, tb_most)) before.tb_soon;
      main_soon = main_soon_after slot n arrivals before.has (omega (arith, main_most)) before.main_soon;
    }
