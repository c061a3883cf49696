-- The tables of a program of an output stream are read.
use Rattle.std.proofs.Common.{
  ◌≡◌,
  ◌≢◌,
  ℕ,
  zero,
  suc,
  ◌+◌,
  ◌-◌,
  ◌*◌,
  ◌<◌,
  ◌≤◌,
  ◌==◌,
  ◌⊎◌,
  inl,
  inr,
  Bool,
  true,
  false,
  cond,
  List,
  [],
  ◌∷◌,
  length,
  map,
  drop,
  Some,
  None,
  Ok,
  Err,
  refl,
  sym,
  ap,
  ap₂,
  ◌∙◌,
  subst,
  arith,
}
use Rattle.std.specs.Prelude.{slice_get}
use Rattle.std.proofs.lemmas.Bool.{eqb-true, eq-eqb, ne_eqb}
use Rattle.std.proofs.lemmas.Option.{get_or_from_slice_get, none-some, slice_get_within}
use Rattle.ts_packets.specs.declared.pid_fault.PidFault.{PidFault}
use Rattle.ts_packets.specs.Packet.{sync_byte}
use Rattle.ts_packets.specs.TransportStream.{is_of_pid, piece_at, piece_count, pid_pieces}
use Rattle.ts_packets.specs.Carried.{pid_fault}
use Rattle.psi_tables.specs.declared.program_map.ProgramMap.{ProgramMap}
use Rattle.psi_tables.specs.declared.section.SectionFault.{SectionFault}
use Rattle.psi_tables.specs.Sections.{Found, sections_of}
use Rattle.psi_tables.specs.Pat.{IsPat, pat_map_pid as said_pid}
use Rattle.psi_tables.specs.Pmt.{without_dropped}
use Rattle.psi_tables.specs.PmtOf.{pmt_of}
use Rattle.slot_rule.specs.declared.sent.Sent.{Sent}
use Rattle.slot_rule.specs.declared.sent.Sent.TheVariants.{Null, Pat, Pmt}
use Rattle.ts_demux.specs.Tables.{
  HasMap,
  HasNoSync,
  HasPidFault,
  IsBadPat,
  IsBadPmt,
  IsBefore,
  IsMapOf,
  IsPmtSection,
  IsSection,
  Names,
  Stop,
  StopsAt,
  TakesPat,
  map_section,
  no_sync,
  pat_packet,
  pat_section as bad_pat,
  piece,
  pmt_from,
  pmt_packet,
  pmt_section as bad_pmt,
  sections_at,
  take,
}
use Rattle.ts_demux.proofs.OneStop.{one_pat}
use Rattle.mux_writer.specs.declared.layout.Layout.{Layout}
use Rattle.mux_writer.specs.Layout.{map_pid}
use Rattle.mux_writer.specs.Output.{sent_in}
use Rattle.mux_writer.specs.Tables.{pat_section, pmt_section, programs_from}
use Rattle.output_laws.specs.SentOn.{is_sent_on}
use Rattle.parsing_laws.specs.TakenOut.{BeginWithTables, IsNumberedIn, LeadsToMap}
use Rattle.parsing_laws.proofs.SectionReading.{SectionsAre, first-added, only-added, sent_there}

-- no packet on a PID but that of the null packets has a fault
abbrev pub AreSoundOn : (file : List ℕ) → (packets : ℕ) → Type 0
AreSoundOn file packets =
    (pid from n : ℕ) → pid ≢ 0x1FFF → from ≤ n → n < packets → is_of_pid file pid n ≡ true → pid_fault (pid_pieces file pid from n) (piece file n) ≡ None

-- What a file has that is an output stream of a layout, for one of its programs.
pub record ReadsTables (file : List ℕ) (layout : Layout) (rows : List Sent) (program : ℕ) (program_map : ProgramMap) : Type 0 where
  pub count : piece_count file ≡ length rows
  pub synced : (n : ℕ) → n < length rows → sync_byte (piece_at file n) ≡ 0x47
  pub sound : AreSoundOn file (length rows)
  pub pats : SectionsAre file layout rows 0 (Ok (pat_section layout))
  pub pmts : SectionsAre file layout rows (map_pid program) (Ok (pmt_section program_map))
  pub says : IsPat (programs_from 0 layout.maps.items) (pat_section layout)
  pub leads : said_pid program_map.number (programs_from 0 layout.maps.items) ≡ Some (map_pid program)
  pub tells : pmt_of (pmt_section program_map) ≡ Some (without_dropped program_map)
  pub begin : BeginWithTables (length layout.maps.items) rows
  pub place : program < length layout.maps.items
  pub few : length layout.maps.items ≤ 8

bad-pat : (section : List ℕ) (found : Found) (fault : SectionFault) (programs : List (ℕ × ℕ)) → found ≡ Ok section → IsBadPat found fault → IsPat programs section → ⊥
bad-pat section found fault programs same bad says =
    let told : IsBadPat (Ok section) fault = subst (λ (f : Found). IsBadPat f fault) same bad in told.2 programs says

bad-pmt : (section : List ℕ) (found : Found) (fault : SectionFault) (program_map : ProgramMap) → found ≡ Ok section → IsBadPmt found fault → pmt_of section ≡ Some program_map → ⊥
bad-pmt section found fault program_map same bad tells =
    let told : IsBadPmt (Ok section) fault = subst (λ (f : Found). IsBadPmt f fault) same bad in none-some program_map (sym told.2 ∙ tells)

module _ (file : List ℕ) (layout : Layout) (rows : List Sent) (program : ℕ) (program_map : ProgramMap) (r : ReadsTables file layout rows program program_map) where
  last : program + 1 < length rows
  last = slice_get_within rows (program + 1) (Pmt program) (r.begin.pmts program r.place)

  first_row : sent_in rows 0 ≡ Pat
  first_row = get_or_from_slice_get rows 0 Pat Null r.begin.pat

  pmt_row : (n : ℕ) → n < length layout.maps.items → sent_in rows (n + 1) ≡ Pmt n
  pmt_row n within = get_or_from_slice_get rows (n + 1) (Pmt n) Null (r.begin.pmts n within)

  pat_sent : sent_there layout 0 rows 0 ≡ true
  pat_sent = ap (λ (sent : Sent). is_sent_on layout 0 sent) first_row

  pmt_sent : sent_there layout (map_pid program) rows (program + 1) ≡ true
  pmt_sent = ap (λ (sent : Sent). is_sent_on layout (map_pid program) sent) (pmt_row program r.place) ∙ eq-eqb (map_pid program) (map_pid program) refl

  takes_by : (pid : ℕ) → Names program_map.number (Ok (pat_section layout)) pid → TakesPat file program_map.number 0 0 pid
  takes_by pid named = record {
    found = Ok (pat_section layout);
    section = record {
      within = omega (arith, last, r.count);
      stands = first-added file layout rows 0 (Ok (pat_section layout)) r.pats 0 0 (omega arith) (omega (arith, last)) pat_sent;
    };
    names = named;
    first = λ n k other before earlier section names. never n k earlier;
  }
    where
      never : (n k : ℕ) → IsBefore n k 0 0 → ⊥
      never n k (inl less) = omega (arith, less)
      never n k (inr both) = omega (arith, both.1)

  takes : TakesPat file program_map.number 0 0 (map_pid program)
  takes = takes_by (map_pid program) (programs_from 0 layout.maps.items, r.says, r.leads)

  from_is : pmt_from 0 (map_pid program) ≡ 1
  from_is = ap (λ (zero : Bool). cond {A = ℕ} zero 0 (0 + 1)) (ne_eqb (map_pid program) 0 (λ same. omega (arith, same)))

  nothing_at_0 : (k : ℕ) (found : Found) → slice_get (sections_at file (map_pid program) 1 0) k ≡ Some found → ⊥
  unfolding sections_of
  nothing_at_0 k found is = none-some found is

  -- a PMT section that is looked at is the program's, in a slot that sends it
  pmt_found : (n k : ℕ) (found : Found) → IsPmtSection file program_map.number n k found
      → (found ≡ Ok (pmt_section program_map)) × (1 ≤ n) × (n < length rows) × (sent_there layout (map_pid program) rows n ≡ true)
  pmt_found n k found s =
      let one = one_pat file program_map.number s.packet s.index s.pid 0 0 (map_pid program) s.pat takes in
      let from : pmt_from s.packet s.pid ≡ 1 = ap₂ pmt_from one.0 one.1 ∙ from_is in
      let there : IsSection file (map_pid program) 1 n k found =
      subst (λ (at : ℕ). IsSection file (map_pid program) at n k found) from (subst (λ (pid : ℕ). IsSection file pid (pmt_from s.packet s.pid) n k found) one.1 s.section) in
      by_place n there
    where
      by_place : (n : ℕ) → IsSection file (map_pid program) 1 n k found
          → (found ≡ Ok (pmt_section program_map)) × (1 ≤ n) × (n < length rows) × (sent_there layout (map_pid program) rows n ≡ true)
      by_place zero there = absurd (nothing_at_0 k found there.stands)
      by_place (suc n) there =
          let within : suc n < length rows = omega (arith, there.within, r.count) in
          let only = only-added file layout rows (map_pid program) (Ok (pmt_section program_map)) r.pmts 1 (suc n) k found (omega arith) within there.stands in
          (only.0, omega arith, within, only.1)

  pat_found : (n k : ℕ) (found : Found) → IsSection file 0 0 n k found → found ≡ Ok (pat_section layout)
  pat_found n k found there =
      (only-added file layout rows 0 (Ok (pat_section layout)) r.pats 0 n k found (omega arith) (omega (arith, there.within, r.count)) there.stands).0

  -- the PAT leads to the map's PID, wherever it stands
  pub leads-to-map : LeadsToMap file program_map.number (map_pid program)
  leads-to-map = record {
    packet = 0;
    index = 0;
    taken = takes;
    only = λ n k other found there named.
        (one_pat file program_map.number 0 0 other 0 0 (map_pid program)
        (takes_by other (subst (λ (f : Found). Names program_map.number f other) (pat_found n k found there) named)) takes).1;
  }

  no_fault : (pid from n : ℕ) (fault : PidFault) → pid ≢ 0x1FFF → HasPidFault file pid from n fault → ⊥
  no_fault pid from n fault other has = none-some fault (sym (r.sound pid from n other has.behind (omega (arith, has.within, r.count)) has.of_pid) ∙ has.fault_is)

  sent_at : (n : ℕ) → 1 ≤ n → n ≤ program → sent_there layout (map_pid program) rows n ≡ true → ⊥
  sent_at n some early on =
      let place : (n - 1) + 1 ≡ n = omega (arith, some) in
      let row : sent_in rows n ≡ Pmt (n - 1) = sym (ap (sent_in rows) place) ∙ pmt_row (n - 1) (omega (arith, some, early, r.place)) in
      let there : is_sent_on layout (map_pid program) (Pmt (n - 1)) ≡ true = sym (ap (λ (sent : Sent). is_sent_on layout (map_pid program) sent) row) ∙ on in
      omega (arith, eqb-true (map_pid (n - 1)) (map_pid program) there, some, early)

  none_before : (n rank : ℕ) (stop : Stop) → IsBefore n rank (program + 1) 1 → StopsAt file program_map.number n rank stop → ⊥
  none_before n rank stop before (no_sync at has is) = has.no_sync (r.synced n (omega (arith, has.within, r.count)))
  none_before n rank stop before (pat_packet fault at has is) = no_fault 0 0 n fault (λ same. omega (arith, same)) has
  none_before n rank stop before (pmt_packet packet index pid fault at pat apart has is) =
      let one = one_pat file program_map.number packet index pid 0 0 (map_pid program) pat takes in
      no_fault pid (packet + 1) n fault (λ same. omega (arith, same, one.1, r.place, r.few)) has
  none_before n rank stop before (bad_pat k found fault at there bad is) = bad-pat (pat_section layout) found fault (programs_from 0 layout.maps.items) (pat_found n k found there) bad r.says
  none_before n rank stop before (bad_pmt k found fault at there bad is) = bad-pmt (pmt_section program_map) found fault (without_dropped program_map) (pmt_found n k found there).0 bad r.tells
  none_before n rank stop before (map_section k found one at there told is) = let it = pmt_found n k found there in by_order before it.1 it.3 at
    where
      by_order : IsBefore n rank (program + 1) 1 → 1 ≤ n → sent_there layout (map_pid program) rows n ≡ true → rank ≡ k + 1 → ⊥
      by_order (inl less) some on at = sent_at n some (omega (arith, less)) on
      by_order (inr both) some on at = omega (arith, both.1, at)

  pub map-read : HasMap file program_map.number (without_dropped program_map)
  map-read = record {
    packet = program + 1;
    rank = 1;
    stops = map_section 0 (Ok (pmt_section program_map)) (without_dropped program_map) refl
        (record {
          packet = 0;
          index = 0;
          pid = map_pid program;
          pat = takes;
          section = record {
            within = omega (arith, last, r.count);
            stands = ap (λ (from : ℕ). slice_get (sections_at file (map_pid program) from (program + 1)) 0) from_is
                ∙ first-added file layout rows (map_pid program) (Ok (pmt_section program_map)) r.pmts 1 (program + 1) (omega arith) last pmt_sent;
          };
          behind = inl (omega arith);
        })
        (r.tells, refl) refl;
    first = none_before;
  }
