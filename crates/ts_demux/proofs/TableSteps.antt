-- One section, or one packet, ends the reading of the tables or doesn't.
use Rattle.std.proofs.Common.{◌≡◌, ◌≢◌, ℕ, ◌+◌, ◌<◌, ◌≤◌, ◌==◌, inl, inr, Bool, true, false, cond, List, [], drop, Some, None, Ok, refl, sym, ap, ◌∙◌, subst, arith}
use Rattle.std.proofs.lemmas.Bool.Decides.{nat_tests}
use Rattle.ts_packets.specs.declared.pid_fault.PidFault.{PidFault}
use Rattle.ts_packets.specs.Packet.{sync_byte}
use Rattle.ts_packets.specs.TransportStream.{piece_at, piece_count, is_of_pid, pid_pieces}
use Rattle.ts_packets.specs.Carried.{pid_fault}
use Rattle.psi_tables.specs.declared.program_map.ProgramMap.{ProgramMap}
use Rattle.psi_tables.specs.declared.section.SectionFault.{SectionFault}
use Rattle.psi_tables.specs.Section.{IsCurrent}
use Rattle.psi_tables.specs.Sections.{Found}
use Rattle.ts_demux.specs.declared.table_walk.Known.{Known}
use Rattle.ts_demux.specs.declared.table_walk.Known.TheVariants.{Nothing, OtherPrograms, MapOn}
use Rattle.ts_demux.specs.Faults.{of_pid}
use Rattle.ts_demux.specs.Tables.{
  pat_pid,
  piece,
  HasPidFault,
  IsBefore,
  IsSection,
  Names,
  TakesPat,
  pmt_from,
  IsPmtSection,
  IsBadPat,
  IsBadPmt,
  IsMapOf,
  HasPat,
  HasProgram,
  IsPatSection,
  Stop,
  StopsAt,
  no_sync,
  pat_packet,
  pmt_packet,
  pat_section,
  pmt_section,
  map_section,
  NothingStops,
  sections_at,
}
use Rattle.ts_demux.specs.TableWalk.{IsQuiet, IsUnnamed, IsWithoutPat, IsNamed, IsKnown}
use Rattle.ts_demux.specs.Private.TableWalk.{NamesNone, IsKnownBehind, is_on_pat_pid}
use Rattle.ts_demux.proofs.TableLemmas.{further, next_packet, ordered, rank_before, before_rank, later, behind_before, of_one, of_no_other, none_there, same_section, none_behind}

-- ---- what is known of the PAT

-- before a PAT section names the program none is taken
unnamed_takes : (file : List ℕ) (program n r m j pid : ℕ) → IsUnnamed file program n r → TakesPat file program m j pid → IsBefore m (j + 1) n r → ⊥
unnamed_takes file program n r m j pid unnamed takes before = unnamed m j pid takes.found before takes.section takes.names

-- a section of the PMT's PID, once that is known
named_section : (file : List ℕ) (program n r pid from m k : ℕ) (found : Found) → (named : IsNamed file program n r pid from) → IsPmtSection file program m k found →
    IsSection file pid (pmt_from named.at pid) m k found
named_section file program n r pid from m k found named is =
    let same = named.only is.packet is.index is.pid is.pat in
    subst (λ (p : ℕ). IsSection file pid (pmt_from p pid) m k found) same.0 (subst (λ (p : ℕ). IsSection file p (pmt_from is.packet p) m k found) same.2 is.section)

from_other : (at pid : ℕ) → pid ≢ pat_pid → pmt_from at pid ≡ at + 1
from_other at pid other = by_test (pid == pat_pid) refl
  where
    by_test : (is : Bool) → (pid == pat_pid) ≡ is → cond is 0 (at + 1) ≡ at + 1
    by_test true is = let same : pid ≡ pat_pid = grind (arith, nat_tests) in absurd (other same)
    by_test false is = refl

-- the same on another PID than 0
named_other : (file : List ℕ) (program n r pid from m k : ℕ) (found : Found) → (named : IsNamed file program n r pid from) → pid ≢ pat_pid → IsPmtSection file program m k found →
    IsSection file pid from m k found
named_other file program n r pid from m k found named other is =
    subst (λ (f : ℕ). IsSection file pid f m k found) (from_other named.at pid other ∙ sym named.from_is) (named_section file program n r pid from m k found named is)

-- ---- the packet itself, before its sections

pub first_pat : (file : List ℕ) (program n : ℕ) (stop : Stop) → sync_byte (piece_at file n) ≡ 0x47 → is_of_pid file pat_pid n ≡ true →
    pid_fault (pid_pieces file pat_pid 0 n) (piece file n) ≡ None → StopsAt file program n 0 stop → ⊥
first_pat file program n stop sync of_pid passes (no_sync rank none is) = none.no_sync sync
first_pat file program n stop sync of_pid passes (pat_packet fault rank has is) = let e : None ≡ Some fault = sym passes ∙ has.fault_is in absurd cc
first_pat file program n stop sync of_pid passes (pmt_packet packet index pid fault rank takes other has is) = other (of_one file pid pat_pid n has.of_pid of_pid)
first_pat file program n stop sync of_pid passes (pat_section k found fault rank is bad stop_is) = absurd (omega arith)
first_pat file program n stop sync of_pid passes (pmt_section k found fault rank is bad stop_is) = absurd (omega arith)
first_pat file program n stop sync of_pid passes (map_section k found map rank is map_is stop_is) = absurd (omega arith)

pub first_map : (file : List ℕ) (program n pid from : ℕ) (stop : Stop) → IsNamed file program n 0 pid from → sync_byte (piece_at file n) ≡ 0x47 → pid ≢ pat_pid →
    is_of_pid file pid n ≡ true → pid_fault (pid_pieces file pid from n) (piece file n) ≡ None → StopsAt file program n 0 stop → ⊥
first_map file program n pid from stop named sync other of_pid passes (no_sync rank none is) = none.no_sync sync
first_map file program n pid from stop named sync other of_pid passes (pat_packet fault rank has is) = other (of_one file pid pat_pid n of_pid has.of_pid)
first_map file program n pid from stop named sync other of_pid passes (pmt_packet packet index found fault rank takes not_zero has is) =
    let same = named.only packet index found takes in
    let from_same : packet + 1 ≡ from = ap (λ (p : ℕ). p + 1) same.0 ∙ sym named.from_is in
    let fault_there : pid_fault (pid_pieces file pid from n) (piece file n) ≡ Some fault =
    subst (λ (f : ℕ). pid_fault (pid_pieces file pid f n) (piece file n) ≡ Some fault) from_same
    (subst (λ (p : ℕ). pid_fault (pid_pieces file p (packet + 1) n) (piece file n) ≡ Some fault) same.2 has.fault_is) in
    let e : None ≡ Some fault = sym passes ∙ fault_there in
    absurd cc
first_map file program n pid from stop named sync other of_pid passes (pat_section k found fault rank is bad stop_is) = absurd (omega arith)
first_map file program n pid from stop named sync other of_pid passes (pmt_section k found fault rank is bad stop_is) = absurd (omega arith)
first_map file program n pid from stop named sync other of_pid passes (map_section k found map rank is map_is stop_is) = absurd (omega arith)

-- a packet of another PID than the PMT's isn't looked at
other_packet : (file : List ℕ) (program n packet index pid : ℕ) (fault : PidFault) (known : Known) → IsKnown file program n 0 known →
    ((map_pid from : ℕ) → known ≡ MapOn map_pid from → is_of_pid file map_pid n ≡ false) → TakesPat file program packet index pid → HasPidFault file pid (packet + 1) n fault → ⊥
other_packet file program n packet index pid fault Nothing is_known not_of takes has = unnamed_takes file program n 0 packet index pid is_known.0 takes (inl (omega (arith, has.behind)))
other_packet file program n packet index pid fault OtherPrograms is_known not_of takes has = unnamed_takes file program n 0 packet index pid is_known.0 takes (inl (omega (arith, has.behind)))
other_packet file program n packet index pid fault (MapOn map_pid from) is_known not_of takes has =
    let same = is_known.only packet index pid takes in
    let is : is_of_pid file map_pid n ≡ true = subst (λ (p : ℕ). is_of_pid file p n ≡ true) same.2 has.of_pid in
    let is_not : is_of_pid file map_pid n ≡ false = not_of map_pid from refl in
    absurd cc

pub first_other : (file : List ℕ) (program n : ℕ) (known : Known) (stop : Stop) → IsKnown file program n 0 known → sync_byte (piece_at file n) ≡ 0x47 → is_of_pid file pat_pid n ≡ false →
    ((map_pid from : ℕ) → known ≡ MapOn map_pid from → is_of_pid file map_pid n ≡ false) → StopsAt file program n 0 stop → ⊥
first_other file program n known stop is_known sync not_pat not_map (no_sync rank none is) = none.no_sync sync
first_other file program n known stop is_known sync not_pat not_map (pat_packet fault rank has is) = let e : is_of_pid file pat_pid n ≡ true = has.of_pid in absurd cc
first_other file program n known stop is_known sync not_pat not_map (pmt_packet packet index pid fault rank takes other has is) =
    other_packet file program n packet index pid fault known is_known not_map takes has
first_other file program n known stop is_known sync not_pat not_map (pat_section k found fault rank is bad stop_is) = absurd (omega arith)
first_other file program n known stop is_known sync not_pat not_map (pmt_section k found fault rank is bad stop_is) = absurd (omega arith)
first_other file program n known stop is_known sync not_pat not_map (map_section k found map rank is map_is stop_is) = absurd (omega arith)

-- ---- a section of PID 0

same_place : (r s k : ℕ) → r ≡ k + 1 → r ≡ s + 1 → k ≡ s
same_place r s k e f = omega arith

-- as a section of the PMT's PID it is that section, and the PMT is on PID 0
pmt_on_pat : (file : List ℕ) (program n k : ℕ) (known : Known) (found other : Found) → IsKnown file program n (k + 1) known → is_of_pid file pat_pid n ≡ true →
    IsSection file pat_pid 0 n k found → IsPmtSection file program n k other → (is_on_pat_pid known ≡ true) × (other ≡ found)
pmt_on_pat file program n k Nothing found other known of_pid section is =
    absurd (unnamed_takes file program n (k + 1) is.packet is.index is.pid known.0 is.pat (before_rank is.packet is.index n k is.behind))
pmt_on_pat file program n k OtherPrograms found other known of_pid section is =
    absurd (unnamed_takes file program n (k + 1) is.packet is.index is.pid known.0 is.pat (before_rank is.packet is.index n k is.behind))
pmt_on_pat file program n k (MapOn pid from) found other known of_pid section is = by_pid (pid == pat_pid) refl (named_section file program n (k + 1) pid from n k other known is)
  where
    by_pid : (on : Bool) → (pid == pat_pid) ≡ on → IsSection file pid (cond on 0 (known.at + 1)) n k other → (on ≡ true) × (other ≡ found)
    by_pid true on there =
        let zero_is : pid ≡ pat_pid = grind (arith, nat_tests) in (refl, same_section file pat_pid 0 n k other found (subst (λ (p : ℕ). IsSection file p 0 n k other) zero_is there) section)
    by_pid false on there =
        let not_zero : pat_pid ≢ pid = grind (arith, nat_tests) in
        absurd (none_there file pid (known.at + 1) n k other (of_no_other file pat_pid pid n of_pid not_zero) there)

pub pat_passes : (file : List ℕ) (program n k : ℕ) (known : Known) (found : Found) (stop : Stop) → IsKnown file program n (k + 1) known → is_of_pid file pat_pid n ≡ true →
    IsSection file pat_pid 0 n k found → ((fault : SectionFault) → IsBadPat found fault → ⊥) →
    (is_on_pat_pid known ≡ true → ((fault : SectionFault) → IsBadPmt found fault → ⊥) × ((map : ProgramMap) → IsMapOf program found map → ⊥)) → StopsAt file program n (k + 1) stop → ⊥
pat_passes file program n k known found stop is_known of_pid section sound on_pat (no_sync rank none is) = absurd (omega arith)
pat_passes file program n k known found stop is_known of_pid section sound on_pat (pat_packet fault rank has is) = absurd (omega arith)
pat_passes file program n k known found stop is_known of_pid section sound on_pat (pmt_packet packet index pid fault rank takes other has is) = absurd (omega arith)
pat_passes file program n k known found stop is_known of_pid section sound on_pat (pat_section j other fault rank is bad stop_is) =
    let place : j ≡ k = omega arith in
    let there : IsSection file pat_pid 0 n k other = subst (λ (i : ℕ). IsSection file pat_pid 0 n i other) place is in
    sound fault (subst (λ (f : Found). IsBadPat f fault) (same_section file pat_pid 0 n k other found there section) bad)
pat_passes file program n k known found stop is_known of_pid section sound on_pat (pmt_section j other fault rank is bad stop_is) =
    let place : j ≡ k = omega arith in
    let same = pmt_on_pat file program n k known found other is_known of_pid section (subst (λ (i : ℕ). IsPmtSection file program n i other) place is) in
    (on_pat same.0).0 fault (subst (λ (f : Found). IsBadPmt f fault) same.1 bad)
pat_passes file program n k known found stop is_known of_pid section sound on_pat (map_section j other map rank is map_is stop_is) =
    let place : j ≡ k = omega arith in
    let same = pmt_on_pat file program n k known found other is_known of_pid section (subst (λ (i : ℕ). IsPmtSection file program n i other) place is) in
    (on_pat same.0).1 map (subst (λ (f : Found). IsMapOf program f map) same.1 map_is)

-- where the PMT is on PID 0, a section of it is looked at behind the taken PAT section
pub pat_pmt_section : (file : List ℕ) (program n k : ℕ) (known : Known) (found : Found) → IsKnown file program n (k + 1) known → is_on_pat_pid known ≡ true →
    IsSection file pat_pid 0 n k found → IsPmtSection file program n k found
pat_pmt_section file program n k Nothing found known on section = absurd cc
pat_pmt_section file program n k OtherPrograms found known on section = absurd cc
pat_pmt_section file program n k (MapOn pid from) found known on section =
    let zero_is : pat_pid ≡ pid = grind (arith, nat_tests) in
    record {
      packet = known.at;
      index = known.index;
      pid = pat_pid;
      pat = subst (λ (p : ℕ). TakesPat file program known.at known.index p) (sym zero_is) known.takes;
      section = section;
      behind = rank_before known.at known.index n k known.before;
    }

-- ---- a section of the PMT's PID, which isn't PID 0

pub map_passes : (file : List ℕ) (program n k pid from : ℕ) (found : Found) (stop : Stop) → IsNamed file program n (k + 1) pid from → pid ≢ pat_pid → is_of_pid file pid n ≡ true →
    IsSection file pid from n k found → ((fault : SectionFault) → IsBadPmt found fault → ⊥) → ((map : ProgramMap) → IsMapOf program found map → ⊥) → StopsAt file program n (k + 1) stop → ⊥
map_passes file program n k pid from found stop named other of_pid section sound no_map (no_sync rank none is) = absurd (omega arith)
map_passes file program n k pid from found stop named other of_pid section sound no_map (pat_packet fault rank has is) = absurd (omega arith)
map_passes file program n k pid from found stop named other of_pid section sound no_map (pmt_packet packet index p fault rank takes not_zero has is) = absurd (omega arith)
map_passes file program n k pid from found stop named other of_pid section sound no_map (pat_section j read fault rank is bad stop_is) =
    none_there file pat_pid 0 n j read (of_no_other file pid pat_pid n of_pid other) is
map_passes file program n k pid from found stop named other of_pid section sound no_map (pmt_section j read fault rank is bad stop_is) =
    let place : j ≡ k = omega arith in
    let there : IsSection file pid from n k read = subst (λ (i : ℕ). IsSection file pid from n i read) place (named_other file program n (k + 1) pid from n j read named other is) in
    sound fault (subst (λ (f : Found). IsBadPmt f fault) (same_section file pid from n k read found there section) bad)
map_passes file program n k pid from found stop named other of_pid section sound no_map (map_section j read map rank is map_is stop_is) =
    let place : j ≡ k = omega arith in
    let there : IsSection file pid from n k read = subst (λ (i : ℕ). IsSection file pid from n i read) place (named_other file program n (k + 1) pid from n j read named other is) in
    no_map map (subst (λ (f : Found). IsMapOf program f map) (same_section file pid from n k read found there section) map_is)

pub map_pmt_section : (file : List ℕ) (program n k pid from : ℕ) (found : Found) → IsNamed file program n (k + 1) pid from → pid ≢ pat_pid → IsSection file pid from n k found →
    IsPmtSection file program n k found
map_pmt_section file program n k pid from found named other section = record {
  packet = named.at;
  index = named.index;
  pid = pid;
  pat = named.takes;
  section = subst (λ (f : ℕ). IsSection file pid f n k found) (named.from_is ∙ sym (from_other named.at pid other)) section;
  behind = rank_before named.at named.index n k named.before;
}

-- ---- what is known one section further

named_later : (file : List ℕ) (program n r s pid from : ℕ) → r ≤ s → IsNamed file program n r pid from → IsNamed file program n s pid from
named_later file program n r s pid from less named =
    record { at = named.at; index = named.index; takes = named.takes; before = later named.at (named.index + 1) n r s less named.before; from_is = named.from_is; only = named.only }

pub named_more : (file : List ℕ) (program n r pid from : ℕ) → IsNamed file program n r pid from → IsNamed file program n (r + 1) pid from
named_more file program n r pid from named = named_later file program n r (r + 1) pid from (omega arith) named

unnamed_more : (file : List ℕ) (program n k : ℕ) (section : List ℕ) → IsUnnamed file program n (k + 1) → IsSection file pat_pid 0 n k (Ok section) → NamesNone program section →
    IsUnnamed file program n (k + 1 + 1)
unnamed_more file program n k section unnamed here none m j pid found before is names =
    elim (further m (j + 1) n (k + 1) before) [
      | inl less ↦ unnamed m j pid found less is names
      | inr same ↦
          let place : j ≡ k = omega (arith, same.1) in
          let there : IsSection file pat_pid 0 n k found = subst (λ (i : ℕ). IsSection file pat_pid 0 n i found) place (subst (λ (i : ℕ). IsSection file pat_pid 0 i j found) same.0 is) in
          none pid (subst (λ (f : Found). Names program f pid) (same_section file pat_pid 0 n k found (Ok section) there here) names)
    ]

without_more : (file : List ℕ) (n k : ℕ) (section : List ℕ) → IsWithoutPat file n (k + 1) → IsSection file pat_pid 0 n k (Ok section) → (IsCurrent 0 section → ⊥) → IsWithoutPat file n (k + 1 + 1)
without_more file n k section without here none m j found before is current =
    elim (further m (j + 1) n (k + 1) before) [
      | inl less ↦ without m j found less is current
      | inr same ↦
          let place : j ≡ k = omega (arith, same.1) in
          let there : IsSection file pat_pid 0 n k found = subst (λ (i : ℕ). IsSection file pat_pid 0 n i found) place (subst (λ (i : ℕ). IsSection file pat_pid 0 i j found) same.0 is) in
          none (subst IsPatSection (same_section file pat_pid 0 n k found (Ok section) there here) current)
    ]

has_pat : (file : List ℕ) (n k : ℕ) (section : List ℕ) → IsSection file pat_pid 0 n k (Ok section) → IsCurrent 0 section → HasPat file
has_pat file n k section here current = record { packet = n; index = k; found = Ok section; section = here; current = current }

-- the first section that names the program is taken
named_now : (file : List ℕ) (program n k pid from : ℕ) (section : List ℕ) → IsUnnamed file program n (k + 1) → IsSection file pat_pid 0 n k (Ok section) → Names program (Ok section) pid →
    from ≡ n + 1 → ((other : ℕ) → Names program (Ok section) other → other ≡ pid) → IsNamed file program n (k + 1 + 1) pid from
named_now file program n k pid from section unnamed here names from_is alone = record {
  at = n;
  index = k;
  takes = record { found = Ok section; section = here; names = names; first = λ m j other found before is says. unnamed m j other found (before_rank m j n k before) is says };
  before = inr (refl, omega arith);
  from_is = from_is;
  only = λ m j other takes.
      elim (ordered m j n k) [
        | inl before ↦ absurd (unnamed_takes file program n (k + 1) m j other unnamed takes (before_rank m j n k before))
        | inr behind ↦ elim behind [
          | inl same ↦
              let there : IsSection file pat_pid 0 n k takes.found = subst (λ (i : ℕ). IsSection file pat_pid 0 n i takes.found) same.1
              (subst (λ (i : ℕ). IsSection file pat_pid 0 i j takes.found) same.0 takes.section) in
              (same.0, same.1, alone other (subst (λ (f : Found). Names program f other) (same_section file pat_pid 0 n k takes.found (Ok section) there here) takes.names))
          | inr after ↦ absurd (takes.first n k pid (Ok section) after here names)
        ]
      ];
}

pub known_more : (file : List ℕ) (program n k : ℕ) (section : List ℕ) (known after : Known) → IsKnown file program n (k + 1) known → IsSection file pat_pid 0 n k (Ok section) →
    IsKnownBehind program section n known after → IsKnown file program n (k + 1 + 1) after
known_more file program n k section (MapOn pid from) after is here behind = subst (λ (a : Known). IsKnown file program n (k + 1 + 1) a) (sym behind) (named_more file program n (k + 1) pid from is)
known_more file program n k section Nothing (MapOn pid from) is here behind = named_now file program n k pid from section is.0 here behind.0 behind.1 behind.2
known_more file program n k section Nothing OtherPrograms is here behind = (unnamed_more file program n k section is.0 here behind.0, has_pat file n k section here behind.1)
known_more file program n k section Nothing Nothing is here behind = (unnamed_more file program n k section is.0 here behind.0, without_more file n k section is.1 here behind.1)
known_more file program n k section OtherPrograms (MapOn pid from) is here behind = named_now file program n k pid from section is.0 here behind.0 behind.1 behind.2
known_more file program n k section OtherPrograms OtherPrograms is here behind = (unnamed_more file program n k section is.0 here behind, is.1)
known_more file program n k section OtherPrograms Nothing is here behind = absurd behind

-- the packet's own faults are no sections
pub first_known : (file : List ℕ) (program n : ℕ) (known : Known) → IsKnown file program n 0 known → IsKnown file program n 1 known
first_known file program n Nothing is = (
  λ m j pid found before there names. elim (further m (j + 1) n 0 before) [ inl less ↦ is.0 m j pid found less there names | inr same ↦ absurd (omega (arith, same.1)) ],
  λ m j found before there current. elim (further m (j + 1) n 0 before) [ inl less ↦ is.1 m j found less there current | inr same ↦ absurd (omega (arith, same.1)) ],
)
first_known file program n OtherPrograms is = (
  λ m j pid found before there names. elim (further m (j + 1) n 0 before) [ inl less ↦ is.0 m j pid found less there names | inr same ↦ absurd (omega (arith, same.1)) ],
  is.1,
)
first_known file program n (MapOn pid from) is = named_later file program n 0 1 pid from (omega arith) is

-- ---- and one packet

pub known_next : (file : List ℕ) (program n r : ℕ) (known : Known) → IsKnown file program n r known → ((j : ℕ) (found : Found) → r ≤ j + 1 → IsSection file pat_pid 0 n j found → ⊥) →
    IsKnown file program (n + 1) 0 known
known_next file program n r Nothing is none = (
  λ m j pid found before there names. elim (next_packet m (j + 1) n r before) [
    | inl less ↦ is.0 m j pid found less there names
    | inr same ↦ none j found same.1 (subst (λ (i : ℕ). IsSection file pat_pid 0 i j found) same.0 there)
  ],
  λ m j found before there current. elim (next_packet m (j + 1) n r before) [
    | inl less ↦ is.1 m j found less there current
    | inr same ↦ none j found same.1 (subst (λ (i : ℕ). IsSection file pat_pid 0 i j found) same.0 there)
  ],
)
known_next file program n r OtherPrograms is none = (
  λ m j pid found before there names. elim (next_packet m (j + 1) n r before) [
    | inl less ↦ is.0 m j pid found less there names
    | inr same ↦ none j found same.1 (subst (λ (i : ℕ). IsSection file pat_pid 0 i j found) same.0 there)
  ],
  is.1,
)
known_next file program n r (MapOn pid from) is none =
    record { at = is.at; index = is.index; takes = is.takes; before = inl (omega (arith, behind_before is.at (is.index + 1) n r is.before)); from_is = is.from_is; only = is.only }

-- ---- behind the last section of a packet nothing ends the reading

pmt_ends : (file : List ℕ) (program n done k : ℕ) (found : Found) → is_of_pid file pat_pid n ≡ true → drop done (sections_at file pat_pid 0 n) ≡ [] → done ≤ k → IsPmtSection file program n k found → ⊥
pmt_ends file program n done k found of_pid end less is = by_pid (is.pid == pat_pid) refl is.section
  where
    by_pid : (on : Bool) → (is.pid == pat_pid) ≡ on → IsSection file is.pid (cond on 0 (is.packet + 1)) n k found → ⊥
    by_pid true on there =
        let zero_is : is.pid ≡ pat_pid = grind (arith, nat_tests) in
        let here : IsSection file pat_pid 0 n k found = subst (λ (p : ℕ). IsSection file p 0 n k found) zero_is there in
        none_behind (sections_at file pat_pid 0 n) done k found end less here.stands
    by_pid false on there =
        let not_zero : pat_pid ≢ is.pid = grind (arith, nat_tests) in
        none_there file is.pid (is.packet + 1) n k found (of_no_other file pat_pid is.pid n of_pid not_zero) there

pub pat_ends : (file : List ℕ) (program n done j : ℕ) (stop : Stop) → is_of_pid file pat_pid n ≡ true → drop done (sections_at file pat_pid 0 n) ≡ [] → done + 1 ≤ j → StopsAt file program n j stop → ⊥
pat_ends file program n done j stop of_pid end less (no_sync rank none is) = absurd (omega arith)
pat_ends file program n done j stop of_pid end less (pat_packet fault rank has is) = absurd (omega arith)
pat_ends file program n done j stop of_pid end less (pmt_packet packet index pid fault rank takes other has is) = absurd (omega arith)
pat_ends file program n done j stop of_pid end less (pat_section k found fault rank is bad stop_is) = none_behind (sections_at file pat_pid 0 n) done k found end (omega arith) is.stands
pat_ends file program n done j stop of_pid end less (pmt_section k found fault rank is bad stop_is) = pmt_ends file program n done k found of_pid end (omega arith) is
pat_ends file program n done j stop of_pid end less (map_section k found map rank is map_is stop_is) = pmt_ends file program n done k found of_pid end (omega arith) is

pub map_ends : (file : List ℕ) (program n done pid from j : ℕ) (stop : Stop) → IsNamed file program n (done + 1) pid from → pid ≢ pat_pid → is_of_pid file pid n ≡ true →
    drop done (sections_at file pid from n) ≡ [] → done + 1 ≤ j → StopsAt file program n j stop → ⊥
map_ends file program n done pid from j stop named other of_pid end less (no_sync rank none is) = absurd (omega arith)
map_ends file program n done pid from j stop named other of_pid end less (pat_packet fault rank has is) = absurd (omega arith)
map_ends file program n done pid from j stop named other of_pid end less (pmt_packet packet index p fault rank takes not_zero has is) = absurd (omega arith)
map_ends file program n done pid from j stop named other of_pid end less (pat_section k found fault rank is bad stop_is) =
    none_there file pat_pid 0 n k found (of_no_other file pid pat_pid n of_pid other) is
map_ends file program n done pid from j stop named other of_pid end less (pmt_section k found fault rank is bad stop_is) =
    none_behind (sections_at file pid from n) done k found end (omega arith) (named_other file program n (done + 1) pid from n k found named other is).stands
map_ends file program n done pid from j stop named other of_pid end less (map_section k found map rank is map_is stop_is) =
    none_behind (sections_at file pid from n) done k found end (omega arith) (named_other file program n (done + 1) pid from n k found named other is).stands

-- before a PAT section is taken no section of a packet of another PID is a PMT section
early : (file : List ℕ) (program n k packet index pid : ℕ) (found : Found) → IsUnnamed file program n 0 → is_of_pid file pat_pid n ≡ false → TakesPat file program packet index pid →
    IsBefore packet index n k → ⊥
early file program n k packet index pid found unnamed not_pat takes (inl before) = unnamed_takes file program n 0 packet index pid unnamed takes (inl before)
early file program n k packet index pid found unnamed not_pat takes (inr (same, before)) =
    none_there file pat_pid 0 n index takes.found not_pat (subst (λ (m : ℕ). IsSection file pat_pid 0 m index takes.found) same takes.section)

-- a packet that is of neither PID completes no section of them
no_pmt : (file : List ℕ) (program n k : ℕ) (known : Known) (found : Found) → IsKnown file program n 0 known → is_of_pid file pat_pid n ≡ false →
    ((map_pid from : ℕ) → known ≡ MapOn map_pid from → is_of_pid file map_pid n ≡ false) → IsPmtSection file program n k found → ⊥
no_pmt file program n k Nothing found known not_pat not_map is = early file program n k is.packet is.index is.pid found known.0 not_pat is.pat is.behind
no_pmt file program n k OtherPrograms found known not_pat not_map is = early file program n k is.packet is.index is.pid found known.0 not_pat is.pat is.behind
no_pmt file program n k (MapOn pid from) found known not_pat not_map is =
    none_there file pid (pmt_from known.at pid) n k found (not_map pid from refl) (named_section file program n 0 pid from n k found known is)

pub other_ends : (file : List ℕ) (program n j : ℕ) (known : Known) (stop : Stop) → IsKnown file program n 0 known → sync_byte (piece_at file n) ≡ 0x47 → is_of_pid file pat_pid n ≡ false →
    ((map_pid from : ℕ) → known ≡ MapOn map_pid from → is_of_pid file map_pid n ≡ false) → StopsAt file program n j stop → ⊥
other_ends file program n j known stop is_known sync not_pat not_map (no_sync rank none is) = none.no_sync sync
other_ends file program n j known stop is_known sync not_pat not_map (pat_packet fault rank has is) = let e : is_of_pid file pat_pid n ≡ true = has.of_pid in absurd cc
other_ends file program n j known stop is_known sync not_pat not_map (pmt_packet packet index pid fault rank takes other has is) =
    other_packet file program n packet index pid fault known is_known not_map takes has
other_ends file program n j known stop is_known sync not_pat not_map (pat_section k found fault rank is bad stop_is) = none_there file pat_pid 0 n k found not_pat is
other_ends file program n j known stop is_known sync not_pat not_map (pmt_section k found fault rank is bad stop_is) = no_pmt file program n k known found is_known not_pat not_map is
other_ends file program n j known stop is_known sync not_pat not_map (map_section k found map rank is map_is stop_is) = no_pmt file program n k known found is_known not_pat not_map is

-- ---- at the file's end

pmt_within : (file : List ℕ) (program n k : ℕ) (found : Found) → IsPmtSection file program n k found → n < piece_count file
pmt_within file program n k found is = is.section.within

stop_within : (file : List ℕ) (program n j : ℕ) (stop : Stop) → StopsAt file program n j stop → n < piece_count file
stop_within file program n j stop (no_sync rank none is) = none.within
stop_within file program n j stop (pat_packet fault rank has is) = has.within
stop_within file program n j stop (pmt_packet packet index pid fault rank takes other has is) = has.within
stop_within file program n j stop (pat_section k found fault rank is bad stop_is) = is.within
stop_within file program n j stop (pmt_section k found fault rank is bad stop_is) = pmt_within file program n k found is
stop_within file program n j stop (map_section k found map rank is map_is stop_is) = pmt_within file program n k found is

pub nothing_stops : (file : List ℕ) (program count : ℕ) → piece_count file ≤ count → IsQuiet file program count 0 → NothingStops file program
nothing_stops file program count end quiet n j stop is = quiet n j stop (inl (omega (arith, stop_within file program n j stop is))) is

pub no_pat : (file : List ℕ) (count : ℕ) → piece_count file ≤ count → IsWithoutPat file count 0 → HasPat file → ⊥
no_pat file count end without has = without has.packet has.index has.found (inl (omega (arith, has.section.within))) has.section has.current

pub no_program : (file : List ℕ) (program count : ℕ) → piece_count file ≤ count → IsUnnamed file program count 0 → HasProgram file program → ⊥
no_program file program count end unnamed has = unnamed_takes file program count 0 has.packet has.index has.pid unnamed has.pat (inl (omega (arith, has.pat.section.within)))
