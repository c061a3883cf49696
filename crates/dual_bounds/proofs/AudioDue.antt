-- The audio packets of a window, counted by where due times pass its ends.
use Rattle.std.proofs.Common.{◌≡◌, ℕ, zero, suc, ◌+◌, ◌-◌, ◌<◌, ◌≤◌, Bool, true, false, cond, nat_le, List, [], ◌∷◌, ◌++◌, length, map, get_or, drop, sum_by, refl, sym, ap, ◌∙◌, arith}
use Rattle.std.specs.List.{count_by, flat_map}
use Rattle.std.proofs.lemmas.Bool.{le-leb, lt-leb, and_left, and_right, and_from}
use Rattle.std.proofs.lemmas.List.{drop_more, get_or-map, length-map}
use Rattle.std.proofs.lemmas.List.Concat.{length-flat_map}
use Rattle.std.proofs.lemmas.List.Sums.{sum_by-cons, sum_by-append, count_by-le-length, get_or-le-sum_by}
use Rattle.version_table.specs.declared.table.AudioPacket.{AudioPacket}
use Rattle.version_table.specs.declared.table.ProgramRow.{ProgramRow}
use Rattle.version_table.specs.declared.table.Table.{Table}
use Rattle.version_table.specs.Table.{IsValidAudio, audio_packets_of}
use Rattle.dual_bounds.specs.Packets.{DuesStay, SplitsBy}
use Rattle.dual_bounds.specs.Private.Counts.{SplitsBefore, audio_within}
use Rattle.dual_bounds.specs.Room.{audio_due, is_within}

-- what passes a test exactly at the places from one to another
count_places : {X : Type 0} (test : X → Bool) (xs : List X) (low high : ℕ)
    → ((k : ℕ) (d : X) → k < length xs → low ≤ k → k < high → test (get_or xs k d) ≡ true)
    → ((k : ℕ) (d : X) → k < length xs → k < low → test (get_or xs k d) ≡ false)
    → ((k : ℕ) (d : X) → k < length xs → high ≤ k → test (get_or xs k d) ≡ false) → high ≤ length xs → count_by test xs ≡ high - low
count_places test [] low high inside early late fits = omega arith
count_places test (x ∷ xs) low zero inside early late fits =
    let own : cond (test x) 1 0 ≡ 0 = ap {B = ℕ} (λ b. cond b 1 0) (late 0 x (omega arith) (omega arith)) in
    omega (
      arith,
      sum_by-cons (λ y. cond (test y) 1 0) x xs,
      count_places test xs low zero
          (λ k d within from before. absurd (omega arith)) (λ k d within before. late (suc k) d (omega arith) (omega arith)) (λ k d within from. late (suc k) d (omega arith)
          (omega arith)) (omega arith),
    )
count_places test (x ∷ xs) zero (suc high) inside early late fits =
    let own : cond (test x) 1 0 ≡ 1 = ap {B = ℕ} (λ b. cond b 1 0) (inside 0 x (omega arith) (omega arith) (omega arith)) in
    omega (
      arith,
      sum_by-cons (λ y. cond (test y) 1 0) x xs,
      count_places test xs zero high
          (λ k d within from before. inside (suc k) d (omega arith) (omega arith) (omega arith)) (λ k d within before. absurd (omega arith)) (λ k d within from. late (suc k)
          d (omega arith) (omega arith)) (omega arith),
    )
count_places test (x ∷ xs) (suc low) (suc high) inside early late fits =
    let own : cond (test x) 1 0 ≡ 0 = ap {B = ℕ} (λ b. cond b 1 0) (early 0 x (omega arith) (omega arith)) in
    omega (
      arith,
      sum_by-cons (λ y. cond (test y) 1 0) x xs,
      count_places test xs low high
          (λ k d within from before. inside (suc k) d (omega arith) (omega arith) (omega arith)) (λ k d within before. early (suc k) d (omega arith) (omega arith)) (λ k d
          within from. late (suc k) d (omega arith) (omega arith)) (omega arith),
    )

pub audio_within-is : (from due : ℕ) (packets : List AudioPacket) (before by : ℕ) → SplitsBefore from packets before → SplitsBy due packets by → audio_within from due packets ≡ by - before
unfolding audio_within
audio_within-is from due packets before by starts ends =
    count_places (λ (packet : AudioPacket). is_within from due packet.due) packets before by
    (λ k d within low high. and_from (nat_le from (get_or packets k d).due) (nat_le (get_or packets k d).due due)
    (le-leb from (get_or packets k d).due (starts.not_before k d low within)) (le-leb (get_or packets k d).due due (ends.by k d high)))
    (λ k d within low. and_left (nat_le from (get_or packets k d).due) (nat_le (get_or packets k d).due due) (lt-leb from (get_or packets k d).due (starts.before k d low)))
    (λ k d within high. and_right (nat_le from (get_or packets k d).due) (nat_le (get_or packets k d).due due) (lt-leb (get_or packets k d).due due (ends.later k d high within)))
    ends.within

-- due times of a valid audio stream don't fall
pub DuesStay-from_valid : (slot : ℕ) (packets : List AudioPacket) → IsValidAudio slot packets → DuesStay packets
DuesStay-from_valid slot packets valid i j d upto within =
    let dues = map (λ (packet : AudioPacket). packet.due) packets in
    let size : length dues ≡ length packets = length-map packets (λ (packet : AudioPacket). packet.due) in
    let low : get_or dues i 0 ≡ (get_or packets i d).due = get_or-map (λ (packet : AudioPacket). packet.due) packets i d 0 (omega arith) in
    let high : get_or dues j 0 ≡ (get_or packets j d).due = get_or-map (λ (packet : AudioPacket). packet.due) packets j d 0 within in
    omega (arith, valid.dues i j 0 upto (omega arith))

-- ---- streams and programs, one after the other
pub audio_within-append : (from due : ℕ) (packets more : List AudioPacket) → audio_within from due (packets ++ more) ≡ audio_within from due packets + audio_within from due more
unfolding audio_within
audio_within-append from due packets more = sum_by-append (λ (packet : AudioPacket). cond (is_within from due packet.due) 1 0) packets more

pub audio_within-le : (from due : ℕ) (packets : List AudioPacket) → audio_within from due packets ≤ length packets
unfolding audio_within
audio_within-le from due packets = count_by-le-length (λ (packet : AudioPacket). is_within from due packet.due) packets

-- the packets of the streams from one on
abbrev pub streams_from : List (List AudioPacket) → ℕ → List AudioPacket
streams_from audios i = flat_map (λ packets. packets) (drop i audios)

-- the packets of the programs from one on
abbrev pub programs_from : List ProgramRow → ℕ → List AudioPacket
programs_from programs i = flat_map (λ program. flat_map (λ packets. packets) program.audios) (drop i programs)

pub streams-more : (from due : ℕ) (audios : List (List AudioPacket)) (i : ℕ) (d : List AudioPacket) → i < length audios
    → audio_within from due (streams_from audios i) ≡ audio_within from due (get_or audios i d) + audio_within from due (streams_from audios (i + 1))
streams-more from due audios i d within =
    ap (λ (rest : List (List AudioPacket)). audio_within from due (flat_map (λ packets. packets) rest)) (drop_more audios i d within)
    ∙ audio_within-append from due (get_or audios i d) (streams_from audios (i + 1))

pub programs-more : (from due : ℕ) (programs : List ProgramRow) (i : ℕ) (program : ProgramRow) → i < length programs → program ≡ get_or programs i program
    → audio_within from due (programs_from programs i) ≡ audio_within from due (flat_map (λ packets. packets) program.audios) + audio_within from due (programs_from programs (i + 1))
programs-more from due programs i program within is =
    ap (λ (rest : List ProgramRow). audio_within from due (flat_map (λ p. flat_map (λ packets. packets) p.audios) rest)) (drop_more programs i program within)
    ∙ audio_within-append from due (flat_map (λ packets. packets) (get_or programs i program).audios) (programs_from programs (i + 1))
    ∙ ap (λ (p : ProgramRow). audio_within from due (flat_map (λ packets. packets) p.audios) + audio_within from due (programs_from programs (i + 1))) (sym is)

pub audio_within-nil : (from due : ℕ) → audio_within from due [] ≡ 0
unfolding audio_within
audio_within-nil from due = refl

pub audio_due-is : (table : Table) (from due : ℕ) → audio_due table from due ≡ audio_within from due (programs_from table.programs 0)
unfolding audio_due audio_within
audio_due-is table from due = refl

pub audio_due-le : (table : Table) (from due : ℕ) → audio_due table from due ≤ length (audio_packets_of table)
unfolding audio_due
audio_due-le table from due = count_by-le-length (λ (packet : AudioPacket). is_within from due packet.due) (audio_packets_of table)

-- a program has no more audio packets than the table
pub program_few : (table : Table) (programs : List ProgramRow) (i : ℕ) (program : ProgramRow) → programs ≡ table.programs → i < length programs → program ≡ get_or programs i program
    → length (flat_map (λ packets. packets) program.audios) ≤ length (audio_packets_of table)
program_few table programs i program are within is =
    let packets_in : ProgramRow → List AudioPacket = λ p. flat_map (λ packets. packets) p.audios in
    omega (
      arith,
      length-flat_map packets_in table.programs,
      ap (λ (rows : List ProgramRow). sum_by (λ p. length (packets_in p)) rows) are,
      get_or-le-sum_by (λ p. length (packets_in p)) programs i program within,
      ap (λ (p : ProgramRow). length (packets_in p)) is,
    )
