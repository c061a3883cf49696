-- The greatest distortions, and their sum over the lines of a text.
use Rattle.std.proofs.Common.{◌≡◌, ℕ, zero, suc, ◌+◌, ◌-◌, ◌*◌, ◌<◌, ◌≤◌, nat_lt, true, false, List, [], ◌∷◌, ◌++◌, length, get_or, fold, max, map, sum_by, All, Some, None, refl, arith}
use Rattle.std.specs.List.{flat_map}
use Rattle.std.proofs.lemmas.Bool.{le-ltb, lt-ltb, ltb-false, ltb-true}
use Rattle.std.proofs.lemmas.List.{get_or-map, length-map}
use Rattle.std.proofs.lemmas.List.Elements.{All-head, All-tail, All-weaker}
use Rattle.std.proofs.lemmas.List.Sums.{sum_by-cons, sum_by-append, sum_by-le}
use Rattle.version_table.specs.declared.fault.Limit.{Limit}
use Rattle.version_table.specs.declared.limits.TheConstants.{DISTORTION_LIMIT}
use Rattle.version_table.specs.declared.line.Line.{Line}
use Rattle.version_table.specs.declared.line.Line.TheVariants.{Program, Audio}
use Rattle.version_table.specs.declared.line.StatedVersion.{StatedVersion}
use Rattle.version_table.specs.declared.table.Version.{Version}
use Rattle.version_table.specs.declared.table.Unit.{Unit as CodedUnit}
use Rattle.version_table.specs.declared.table.AudioPacket.{AudioPacket}
use Rattle.version_table.specs.declared.table.ProgramRow.{ProgramRow}
use Rattle.version_table.specs.Choice.{HasVersion, version_at}
use Rattle.version_table.specs.Lines.{stated, line_of_unit, line_of_packet, lines_of_audio, lines_of_program}
use Rattle.version_table.specs.Limits.{Test, first_failing, greatest_stated}
use Rattle.version_table.specs.Table.{IsValidUnit, IsValidVersion, greatest_distortion}

-- ---- the greatest of some numbers

fold-max-le-start : (a : ℕ) (numbers : List ℕ) → a ≤ fold max a numbers
fold-max-le-start a [] = omega arith
fold-max-le-start a (n ∷ numbers) = omega (arith, fold-max-le-start (max a n) numbers)

fold-max-le : (a : ℕ) (numbers : List ℕ) (k : ℕ) → k < length numbers → get_or numbers k 0 ≤ fold max a numbers
fold-max-le a [] k lt = absurd (omega arith)
fold-max-le a (n ∷ numbers) zero lt = omega (arith, fold-max-le-start (max a n) numbers)
fold-max-le a (n ∷ numbers) (suc k) lt = fold-max-le (max a n) numbers k (omega arith)

-- the distortion of each version is at most the greatest of its unit
pub version-le-greatest : (unit : CodedUnit) (k : ℕ) → HasVersion unit k → (version_at unit k).distortion ≤ greatest_distortion unit
version-le-greatest unit k has =
    let distortion = λ (version : Version). version.distortion in
    let versions = unit.versions.items in
    let len = length-map versions distortion in
    let le = fold-max-le 0 (map distortion versions) k (omega (arith, len, has)) in
    rw (get_or-map distortion versions k (record { bytes = 0; distortion = 0 })) at le

fold-max-within : (most limit : ℕ) (versions : List Version) → most ≤ limit → All (λ v. v.distortion ≤ limit) versions → fold max most (map (λ (v : Version). v.distortion) versions) ≤ limit
fold-max-within most limit [] start each = omega arith
fold-max-within most limit (version ∷ versions) start each =
    let here = All-head (λ (v : Version). v.distortion ≤ limit) version versions each in
    fold-max-within (max most version.distortion) limit versions (omega (arith, start, here)) (All-tail (λ (v : Version). v.distortion ≤ limit) version versions each)

-- the greatest distortion of a unit is within the limit of a version
greatest-le : (slot : ℕ) (unit : CodedUnit) → IsValidUnit slot unit → greatest_distortion unit ≤ DISTORTION_LIMIT - 1
greatest-le slot unit valid =
    fold-max-within 0 (DISTORTION_LIMIT - 1) unit.versions.items (omega arith)
    (All-weaker IsValidVersion (λ (v : Version). v.distortion ≤ DISTORTION_LIMIT - 1) (λ v h. omega (arith, h.distortion)) unit.versions.items valid.versions)

-- of so many units together
pub greatest_together : (slot : ℕ) (units : List CodedUnit) → All (IsValidUnit slot) units → sum_by greatest_distortion units ≤ length units * (DISTORTION_LIMIT - 1)
greatest_together slot units valid =
    sum_by-le greatest_distortion (DISTORTION_LIMIT - 1) units
    (All-weaker (IsValidUnit slot) (λ unit. greatest_distortion unit ≤ DISTORTION_LIMIT - 1) (greatest-le slot) units valid)

-- ---- their sum over lines

stated_same : (most : ℕ) (versions : List Version) → fold max most (map (λ (v : StatedVersion). v.distortion) (map stated versions)) ≡ fold max most (map (λ (v : Version). v.distortion) versions)
stated_same most [] = refl
stated_same most (version ∷ versions) = stated_same (max most version.distortion) versions

pub greatest_of_unit : (unit : CodedUnit) → greatest_stated (line_of_unit unit) ≡ greatest_distortion unit
greatest_of_unit unit = stated_same 0 unit.versions.items

pub greatest_of_units : (units : List CodedUnit) → sum_by greatest_stated (map line_of_unit units) ≡ sum_by greatest_distortion units
greatest_of_units [] = refl
greatest_of_units (unit ∷ units) =
    omega (
      arith,
      sum_by-cons greatest_stated (line_of_unit unit) (map line_of_unit units),
      sum_by-cons greatest_distortion unit units,
      greatest_of_unit unit,
      greatest_of_units units,
    )

greatest_of_packets : (packets : List AudioPacket) → sum_by greatest_stated (map line_of_packet packets) ≡ 0
greatest_of_packets [] = refl
greatest_of_packets (packet ∷ packets) = omega (arith, sum_by-cons greatest_stated (line_of_packet packet) (map line_of_packet packets), greatest_of_packets packets)

pub greatest_of_audios : (audios : List (List AudioPacket)) → sum_by greatest_stated (flat_map lines_of_audio audios) ≡ 0
greatest_of_audios [] = refl
greatest_of_audios (packets ∷ audios) =
    omega (
      arith,
      sum_by-append greatest_stated (lines_of_audio packets) (flat_map lines_of_audio audios),
      sum_by-cons greatest_stated Audio (map line_of_packet packets),
      greatest_of_packets packets,
      greatest_of_audios audios,
    )

-- a program more
pub greatest_of_program : (before : List Line) (program : ProgramRow)
    → sum_by greatest_stated (before ++ lines_of_program program) ≡ sum_by greatest_stated before + sum_by greatest_distortion program.units
greatest_of_program before program =
    let front = Program program.vbv ∷ map line_of_unit program.units in
    let audios = flat_map lines_of_audio program.audios in
    omega (
      arith,
      sum_by-append greatest_stated before (front ++ audios),
      sum_by-append greatest_stated front audios,
      sum_by-cons greatest_stated (Program program.vbv) (map line_of_unit program.units),
      greatest_of_units program.units,
      greatest_of_audios program.audios,
    )

-- ---- tests one behind the other

-- where all of the first are kept, the first that isn't is one of the others
pub failing_behind : (tests others : List Test) → first_failing tests ≡ None → first_failing (tests ++ others) ≡ first_failing others
failing_behind [] others kept = refl
failing_behind (test ∷ tests) others kept = by test.kept refl (failing_behind tests others)
  where
    by : (b : _) → test.kept ≡ b → (first_failing tests ≡ None → first_failing (tests ++ others) ≡ first_failing others)
        → first_failing ((test ∷ tests) ++ others) ≡ first_failing others
    by true e rest = rw e (rest (rw e at kept))
    by false e rest = absurd (let never = rw e at kept in cc)

-- where one of the first isn't kept, that is the first
pub failing_before : (tests others : List Test) (limit : Limit) → first_failing tests ≡ Some limit → first_failing (tests ++ others) ≡ Some limit
failing_before [] others limit broken = absurd cc
failing_before (test ∷ tests) others limit broken = by test.kept refl (failing_before tests others limit)
  where
    by : (b : _) → test.kept ≡ b → (first_failing tests ≡ Some limit → first_failing (tests ++ others) ≡ Some limit) → first_failing ((test ∷ tests) ++ others) ≡ Some limit
    by true e rest = rw e (rest (rw e at broken))
    by false e rest = rw e (rw e at broken)

-- where all are kept, all of the first are
pub none_failing : (tests others : List Test) → first_failing (tests ++ others) ≡ None → first_failing tests ≡ None
none_failing [] others kept = refl
none_failing (test ∷ tests) others kept = by test.kept refl (none_failing tests others)
  where
    by : (b : _) → test.kept ≡ b → (first_failing (tests ++ others) ≡ None → first_failing tests ≡ None) → first_failing (test ∷ tests) ≡ None
    by true e rest = rw e (rest (rw e at kept))
    by false e rest = absurd (let never = rw e at kept in cc)

-- a number fits the room that is left exactly where the sum stays below the limit
pub less_than_room : (sum n limit : ℕ) → sum ≤ limit → nat_lt n (limit - sum) ≡ nat_lt (sum + n) limit
less_than_room sum n limit within = by (nat_lt (sum + n) limit) refl
  where
    by : (b : _) → nat_lt (sum + n) limit ≡ b → nat_lt n (limit - sum) ≡ b
    by true e = let below = ltb-true (sum + n) limit e in lt-ltb n (limit - sum) (omega (arith, below, within))
    by false e = let above = ltb-false (sum + n) limit e in le-ltb n (limit - sum) (omega (arith, above, within))
