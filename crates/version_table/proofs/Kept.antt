-- What a line that breaks no limit keeps, as facts on its numbers.
use Rattle.std.proofs.Common.{◌≡◌, ℕ, ◌+◌, ◌<◌, ◌≤◌, Bool, true, false, ◌&&◌, nat_lt, nat_le, List, [], ◌∷◌, count_by, sum_by, map, All, None, refl, sym, ◌∙◌}
use Rattle.std.specs.List.{flat_map}
use Rattle.std.proofs.lemmas.Bool.{and_parts, and_from, leb-true, le-leb, ltb-true, lt-ltb}
use Rattle.std.proofs.lemmas.List.Elements.{All-nil, All-cons, All-head, All-tail}
use Rattle.version_table.specs.declared.limits.TheConstants.{
  SLOT_LEAST,
  SLOT_MOST,
  NODES_MOST,
  EVALUATIONS_MOST,
  PROGRAMS_MOST,
  AUDIOS_MOST,
  UNITS_MOST,
  VERSION_BYTES_MOST,
  DISTORTION_LIMIT,
  DISTORTIONS_LIMIT,
  TEXT_AUDIO_PACKETS_MOST,
}
use Rattle.stream_constants.specs.declared.packets.TheConstants.{PAYLOAD_BYTES}
use Rattle.stream_constants.specs.declared.main_level.TheConstants.{VBV_MOST}
use Rattle.version_table.specs.declared.fault.Limit.{Limit}
use Rattle.version_table.specs.declared.fault.Limit.TheVariants as limits
use Rattle.version_table.specs.declared.line.Line.{Line}
use Rattle.version_table.specs.declared.line.Line.TheVariants.{Title, Slot, Nodes, Evaluations, Program, Unit as UnitLine, Audio, Packet}
use Rattle.version_table.specs.declared.line.StatedVersion.{StatedVersion}
use Rattle.version_table.specs.Order.{last_line}
use Rattle.version_table.specs.Limits.{
  Test,
  test,
  version_tests,
  versions_tests,
  tests_of,
  first_failing,
  first_limit,
  is_program,
  is_unit,
  is_packet,
  is_in_range,
  audios_here,
  greatest_stated,
  time_most,
  is_due_later,
  packet_due,
  packet_gone,
}
use Rattle.version_table.specs.Table.{greatest}
use Rattle.version_table.proofs.Greatest.{failing_behind, none_failing}

-- a version within the limits
pub record KeepsVersion (version : StatedVersion) : Type 0 where
  pub some : 1 ≤ version.bytes
  pub bytes : version.bytes ≤ VERSION_BYTES_MOST
  pub distortion : version.distortion < DISTORTION_LIMIT

pub record KeepsProgram (before : List Line) (vbv : ℕ) : Type 0 where
  pub programs : count_by is_program before < PROGRAMS_MOST
  pub some : 1 ≤ vbv
  pub vbv_most : vbv ≤ VBV_MOST

pub record KeepsUnit (before : List Line) (due : ℕ) (versions : List StatedVersion) : Type 0 where
  pub units : count_by is_unit before < UNITS_MOST
  pub time : due ≤ time_most before
  pub rising : is_due_later (last_line before) due ≡ true
  pub each : All KeepsVersion versions
  pub distortions : sum_by greatest_stated before + greatest (map (λ version. version.distortion) versions) < DISTORTIONS_LIMIT

pub record KeepsPacket (before : List Line) (due gone bytes : ℕ) : Type 0 where
  pub packets : count_by is_packet before < TEXT_AUDIO_PACKETS_MOST
  pub dues : packet_due (last_line before) ≤ due
  pub due_most : due ≤ time_most before
  pub gone_least : due ≤ gone
  pub gone_most : gone ≤ time_most before
  pub gones : packet_gone (last_line before) ≤ gone
  pub some : 1 ≤ bytes
  pub bytes_most : bytes ≤ PAYLOAD_BYTES

-- a line behind others keeps all limits
abbrev pub Keeps : List Line → Line → Type 0
Keeps before Title = Unit {0}
Keeps before (Slot ticks) = (SLOT_LEAST ≤ ticks) × (ticks ≤ SLOT_MOST)
Keeps before (Nodes n) = (1 ≤ n) × (n ≤ NODES_MOST)
Keeps before (Evaluations n) = n ≤ EVALUATIONS_MOST
Keeps before (Program vbv) = KeepsProgram before vbv
Keeps before (UnitLine due versions) = KeepsUnit before due versions.items
Keeps before Audio = audios_here before < AUDIOS_MOST
Keeps before (Packet due gone bytes) = KeepsPacket before due gone bytes

-- ---- from tests to facts

first_kept : (limit : Limit) (kept : Bool) (tests : List Test) → first_failing (test limit kept ∷ tests) ≡ None → (kept ≡ true) × (first_failing tests ≡ None)
first_kept limit true tests h = (refl, h)
first_kept limit false tests h = absurd cc

within : (low high n : ℕ) → is_in_range low high n ≡ true → (low ≤ n) × (n ≤ high)
within low high n h = let (a, b) = and_parts (nat_le low n) (nat_le n high) h in (leb-true low n a, leb-true n high b)

is_within-true : (low high n : ℕ) → low ≤ n → n ≤ high → is_in_range low high n ≡ true
is_within-true low high n a b = and_from (nat_le low n) (nat_le n high) (le-leb low n a) (le-leb n high b)

versions_kept : (versions : List StatedVersion) → first_failing (flat_map version_tests versions) ≡ None → All KeepsVersion versions
versions_kept [] h = All-nil KeepsVersion
versions_kept (version ∷ versions) h =
    let others = flat_map version_tests versions in
    let second = test limits.Distortion (nat_lt version.distortion DISTORTION_LIMIT) ∷ others in
    let (bytes, more) = first_kept limits.Bytes (is_in_range 1 VERSION_BYTES_MOST version.bytes) second h in
    let (distortion, rest) = first_kept limits.Distortion (nat_lt version.distortion DISTORTION_LIMIT) others more in
    let (some, most) = within 1 VERSION_BYTES_MOST version.bytes bytes in
    All-cons KeepsVersion version versions (record { some = some; bytes = most; distortion = ltb-true version.distortion DISTORTION_LIMIT distortion }) (versions_kept versions rest)

pub keeps_from : (before : List Line) (line : Line) → first_limit before line ≡ None → Keeps before line
unfolding tests_of
keeps_from before Title h = tt
keeps_from before (Slot ticks) h = within SLOT_LEAST SLOT_MOST ticks (first_kept limits.Slot (is_in_range SLOT_LEAST SLOT_MOST ticks) [] h).0
keeps_from before (Nodes n) h = within 1 NODES_MOST n (first_kept limits.Nodes (is_in_range 1 NODES_MOST n) [] h).0
keeps_from before (Evaluations n) h = leb-true n EVALUATIONS_MOST (first_kept limits.Evaluations (nat_le n EVALUATIONS_MOST) [] h).0
keeps_from before (Program vbv) h =
    let second = test limits.Vbv (is_in_range 1 VBV_MOST vbv) ∷ [] in
    let (programs, more) = first_kept limits.Programs (nat_lt (count_by is_program before) PROGRAMS_MOST) second h in
    let (some, most) = within 1 VBV_MOST vbv (first_kept limits.Vbv (is_in_range 1 VBV_MOST vbv) [] more).0 in
    record { programs = ltb-true (count_by is_program before) PROGRAMS_MOST programs; some = some; vbv_most = most }
keeps_from before (UnitLine due versions) h =
    let own = flat_map version_tests versions.items in
    let sum = sum_by greatest_stated before + greatest (map (λ (version : StatedVersion). version.distortion) versions.items) in
    let last = test limits.Distortions (nat_lt sum DISTORTIONS_LIMIT) ∷ [] in
    let others = versions_tests before versions.items in
    let due_test = nat_le due (time_most before) && is_due_later (last_line before) due in
    let (units, more) = first_kept limits.Units (nat_lt (count_by is_unit before) UNITS_MOST) (test limits.Due due_test ∷ others) h in
    let (due_kept, rest) = first_kept limits.Due due_test others more in
    let (time, rising) = and_parts (nat_le due (time_most before)) (is_due_later (last_line before) due) due_kept in
    let each = none_failing own last rest in
    let behind = first_kept limits.Distortions (nat_lt sum DISTORTIONS_LIMIT) [] (sym (failing_behind own last each) ∙ rest) in
    record {
      units = ltb-true (count_by is_unit before) UNITS_MOST units;
      time = leb-true due (time_most before) time;
      rising = rising;
      each = versions_kept versions.items each;
      distortions = ltb-true sum DISTORTIONS_LIMIT behind.0;
    }
keeps_from before Audio h = ltb-true (audios_here before) AUDIOS_MOST (first_kept limits.Audios (nat_lt (audios_here before) AUDIOS_MOST) [] h).0
keeps_from before (Packet due gone bytes) h =
    let due_test = is_in_range (packet_due (last_line before)) (time_most before) due in
    let gone_test = is_in_range due (time_most before) gone && nat_le (packet_gone (last_line before)) gone in
    let fourth = test limits.Bytes (is_in_range 1 PAYLOAD_BYTES bytes) ∷ [] in
    let third = test limits.Gone gone_test ∷ fourth in
    let second = test limits.Due due_test ∷ third in
    let (packets, more) = first_kept limits.Packets (nat_lt (count_by is_packet before) TEXT_AUDIO_PACKETS_MOST) second h in
    let (due_kept, more2) = first_kept limits.Due due_test third more in
    let (gone_kept, more3) = first_kept limits.Gone gone_test fourth more2 in
    let (dues, due_most) = within (packet_due (last_line before)) (time_most before) due due_kept in
    let (gone_range, gone_order) = and_parts (is_in_range due (time_most before) gone) (nat_le (packet_gone (last_line before)) gone) gone_kept in
    let (gone_least, gone_most) = within due (time_most before) gone gone_range in
    let (some, bytes_most) = within 1 PAYLOAD_BYTES bytes (first_kept limits.Bytes (is_in_range 1 PAYLOAD_BYTES bytes) [] more3).0 in
    record {
      packets = ltb-true (count_by is_packet before) TEXT_AUDIO_PACKETS_MOST packets;
      dues = dues;
      due_most = due_most;
      gone_least = gone_least;
      gone_most = gone_most;
      gones = leb-true (packet_gone (last_line before)) gone gone_order;
      some = some;
      bytes_most = bytes_most;
    }

-- ---- from facts to tests

versions_pass : (versions : List StatedVersion) → All KeepsVersion versions → first_failing (flat_map version_tests versions) ≡ None
versions_pass [] each = refl
versions_pass (version ∷ versions) each =
    let here = All-head KeepsVersion version versions each in
    rw (is_within-true 1 VERSION_BYTES_MOST version.bytes here.some here.bytes, lt-ltb version.distortion DISTORTION_LIMIT here.distortion)
    (versions_pass versions (All-tail KeepsVersion version versions each))

pub keeps_to : (before : List Line) (line : Line) → Keeps before line → first_limit before line ≡ None
unfolding tests_of
keeps_to before Title h = refl
keeps_to before (Slot ticks) h = rw (is_within-true SLOT_LEAST SLOT_MOST ticks h.0 h.1) refl
keeps_to before (Nodes n) h = rw (is_within-true 1 NODES_MOST n h.0 h.1) refl
keeps_to before (Evaluations n) h = rw (le-leb n EVALUATIONS_MOST h) refl
keeps_to before (Program vbv) h = rw (lt-ltb (count_by is_program before) PROGRAMS_MOST h.programs, is_within-true 1 VBV_MOST vbv h.some h.vbv_most) refl
keeps_to before (UnitLine due versions) h =
    let sum = sum_by greatest_stated before + greatest (map (λ (version : StatedVersion). version.distortion) versions.items) in
    let last = test limits.Distortions (nat_lt sum DISTORTIONS_LIMIT) ∷ [] in
    rw (lt-ltb (count_by is_unit before) UNITS_MOST h.units, and_from (nat_le due (time_most before)) (is_due_later (last_line before) due) (le-leb due (time_most before) h.time) h.rising)
    (failing_behind (flat_map version_tests versions.items) last (versions_pass versions.items h.each) ∙ rw (lt-ltb sum DISTORTIONS_LIMIT h.distortions) refl)
keeps_to before Audio h = rw (lt-ltb (audios_here before) AUDIOS_MOST h) refl
keeps_to before (Packet due gone bytes) h =
    rw (
      lt-ltb (count_by is_packet before) TEXT_AUDIO_PACKETS_MOST h.packets,
      is_within-true (packet_due (last_line before)) (time_most before) due h.dues h.due_most,
      and_from (is_in_range due (time_most before) gone) (nat_le (packet_gone (last_line before)) gone)
          (is_within-true due (time_most before) gone h.gone_least h.gone_most) (le-leb (packet_gone (last_line before)) gone h.gones),
      is_within-true 1 PAYLOAD_BYTES bytes h.some h.bytes_most,
    ) refl
