-- The reading of a file's tables ends in one way.
use Rattle.std.proofs.Common.{◌≡◌, ◌≢◌, ℕ, ◌+◌, ◌*◌, ◌==◌, ◌⊎◌, inl, inr, Bool, true, false, cond, List, [], ◌∷◌, Some, None, Ok, Err, refl, sym, ap, ◌∙◌, subst, arith}
use Rattle.std.specs.Prelude.{not, option_and_then}
use Rattle.std.specs.List.{find}
use Rattle.std.specs.Option.{option_map, option_or}
use Rattle.std.proofs.lemmas.Bool.Decides.{nat_tests}
use Rattle.stream_constants.specs.declared.packets.TheConstants.{PACKET_BYTES}
use Rattle.ts_packets.specs.declared.packet_fault.PacketFault.TheVariants as packet_faults
use Rattle.ts_packets.specs.declared.pid_fault.PidFault.{PidFault}
use Rattle.ts_packets.specs.declared.pid_fault.PidFault.TheVariants.{Refused}
use Rattle.ts_packets.specs.Packet.{sync_byte, has_fault, packet_of}
use Rattle.ts_packets.specs.TransportStream.{Piece, is_of_pid, pid_pieces}
use Rattle.ts_packets.specs.Carried.{order_fault, pid_fault}
use Rattle.psi_tables.specs.declared.program_map.ProgramMap.{ProgramMap}
use Rattle.psi_tables.specs.declared.section.SectionFault.{SectionFault}
use Rattle.psi_tables.specs.Section.{content}
use Rattle.psi_tables.specs.Sections.{Found}
use Rattle.psi_tables.specs.Pat.{IsPatEntry, pat_map_pid}
use Rattle.psi_tables.proofs.Rows.{same_row}
use Rattle.psi_tables.proofs.ProgramRows.{programs_told}
use Rattle.psi_tables.proofs.PmtFunction.{pmt_is}
use Rattle.ts_demux.specs.declared.demux_fault.DemuxFault.TheVariants.{Sync}
use Rattle.ts_demux.specs.Faults.{of_pid, of_section}
use Rattle.ts_demux.specs.Tables.{
  pat_pid,
  piece,
  HasNoSync,
  HasPidFault,
  IsSection,
  IsBefore,
  Names,
  TakesPat,
  pmt_from,
  IsPmtSection,
  IsBadPat,
  IsBadPmt,
  IsMapOf,
  Stop,
  refuse,
  take,
  StopsAt,
  no_sync,
  pat_packet,
  pmt_packet,
  pat_section,
  pmt_section,
  map_section,
  StopsFirst,
}
use Rattle.ts_demux.proofs.TableLemmas.{ordered, of_one, none_there, same_section}

-- ---- the PAT section that is taken

named_one : (program p q : ℕ) (found : Found) → Names program found p → Names program found q → p ≡ q
named_one program p q (Ok section) (ps, is, e) (qs, is', e') =
    let same : ps ≡ qs = same_row IsPatEntry programs_told ps qs (content section) is.programs_are is'.programs_are in
    let both : Some p ≡ Some q = sym e ∙ ap (pat_map_pid program) same ∙ e' in
    cc
named_one program p q (Err fault) never other = absurd never

pub one_pat : (file : List ℕ) (program m j p n k q : ℕ) → TakesPat file program m j p → TakesPat file program n k q → (m ≡ n) × (p ≡ q)
one_pat file program m j p n k q a b = by_order (ordered m j n k)
  where
    by_order : IsBefore m j n k ⊎ (((m ≡ n) × (j ≡ k)) ⊎ IsBefore n k m j) → (m ≡ n) × (p ≡ q)
    by_order (inl before) = absurd (b.first m j p a.found before a.section a.names)
    by_order (inr (inr before)) = absurd (a.first n k q b.found before b.section b.names)
    by_order (inr (inl (e, f))) =
        let there : IsSection file pat_pid 0 n k a.found =
        subst (λ (i : ℕ). IsSection file pat_pid 0 n i a.found) f (subst (λ (i : ℕ). IsSection file pat_pid 0 i j a.found) e a.section) in
        let same : a.found ≡ b.found = same_section file pat_pid 0 n k a.found b.found there b.section in
        (e, named_one program p q b.found (subst (λ (x : Found). Names program x p) same a.names) b.names)

-- ---- the packets that are looked at

-- a PID whose packets are looked at from a number on
abbrev IsLookedAt : List ℕ → ℕ → ℕ → ℕ → Type 0
IsLookedAt file program pid from =
    ((pid ≡ pat_pid) × (from ≡ 0)) ⊎ ((packet : ℕ) × (index : ℕ) × TakesPat file program packet index pid × (pid ≢ pat_pid) × (from ≡ packet + 1))

one_from : (file : List ℕ) (program pid from other : ℕ) → IsLookedAt file program pid from → IsLookedAt file program pid other → from ≡ other
one_from file program pid from other (inl (p, f)) (inl (q, g)) = f ∙ sym g
one_from file program pid from other (inl (p, f)) (inr (n, k, b, apart, g)) = absurd (apart p)
one_from file program pid from other (inr (m, j, a, apart, f)) (inl (q, g)) = absurd (apart q)
one_from file program pid from other (inr (m, j, a, apart, f)) (inr (n, k, b, apart', g)) = f ∙ ap (λ (i : ℕ). i + 1) (one_pat file program m j pid n k pid a b).0 ∙ sym g

pmt_looked_at : (file : List ℕ) (program packet index pid : ℕ) → TakesPat file program packet index pid → IsLookedAt file program pid (pmt_from packet pid)
pmt_looked_at file program packet index pid takes = by_test (pid == pat_pid) refl
  where
    by_test : (is : Bool) → (pid == pat_pid) ≡ is → IsLookedAt file program pid (cond is 0 (packet + 1))
    by_test true is = let same : pid ≡ pat_pid = grind (arith, nat_tests) in inl (same, refl)
    by_test false is = let apart : pid ≢ pat_pid = grind (arith, nat_tests) in inr (packet, index, takes, apart, refl)

-- ---- what stops, by the packet or by its sections

-- the packet has a fault on its PID
record PidStop (file : List ℕ) (program n : ℕ) (stop : Stop) : Type 0 where
  pub pid : ℕ
  pub from : ℕ
  pub looked : IsLookedAt file program pid from
  pub fault : PidFault
  pub has : HasPidFault file pid from n fault
  pub stop_is : stop ≡ refuse (of_pid (PACKET_BYTES * n) fault)

-- a section is refused or taken
abbrev Verdict : ℕ → ℕ → Found → Stop → Type 0
Verdict program n found stop =
    ((fault : SectionFault) × IsBadPat found fault × (stop ≡ refuse (of_section (PACKET_BYTES * n) fault)))
    ⊎ (((fault : SectionFault) × IsBadPmt found fault × (stop ≡ refuse (of_section (PACKET_BYTES * n) fault)))
    ⊎ ((map : ProgramMap) × IsMapOf program found map × (stop ≡ take map)))

record SectionStop (file : List ℕ) (program n k : ℕ) (stop : Stop) : Type 0 where
  pub pid : ℕ
  pub from : ℕ
  pub looked : IsLookedAt file program pid from
  pub found : Found
  pub section : IsSection file pid from n k found
  pub verdict : Verdict program n found stop

abbrev Parted : List ℕ → ℕ → ℕ → ℕ → Stop → Type 0
Parted file program n rank stop =
    ((rank ≡ 0) × ((HasNoSync file n × (stop ≡ refuse (Sync (PACKET_BYTES * n)))) ⊎ PidStop file program n stop))
    ⊎ ((k : ℕ) × (rank ≡ k + 1) × SectionStop file program n k stop)

on_pmt : (file : List ℕ) (program n k : ℕ) (found : Found) (stop : Stop) → IsPmtSection file program n k found → Verdict program n found stop → SectionStop file program n k stop
on_pmt file program n k found stop is verdict = record {
  pid = is.pid;
  from = pmt_from is.packet is.pid;
  looked = pmt_looked_at file program is.packet is.index is.pid is.pat;
  found = found;
  section = is.section;
  verdict = verdict;
}

parted : (file : List ℕ) (program n rank : ℕ) (stop : Stop) → StopsAt file program n rank stop → Parted file program n rank stop
parted file program n rank stop (no_sync r has is) = inl (r, inl (has, is))
parted file program n rank stop (pat_packet fault r has is) = inl (r, inr (record { pid = pat_pid; from = 0; looked = inl (refl, refl); fault = fault; has = has; stop_is = is }))
parted file program n rank stop (pmt_packet packet index pid fault r takes apart has is) =
    inl (r, inr (record { pid = pid; from = packet + 1; looked = inr (packet, index, takes, apart, refl); fault = fault; has = has; stop_is = is }))
parted file program n rank stop (pat_section k found fault r section bad is) =
    inr (k, r, record { pid = pat_pid; from = 0; looked = inl (refl, refl); found = found; section = section; verdict = inl (fault, bad, is) })
parted file program n rank stop (pmt_section k found fault r section bad is) = inr (k, r, on_pmt file program n k found stop section (inr (inl (fault, bad, is))))
parted file program n rank stop (map_section k found map r section map_is is) = inr (k, r, on_pmt file program n k found stop section (inr (inr (map, map_is, is))))

-- ---- one of each

-- bytes without a sync byte have no other fault first
pub no_sync_first : (before : List Piece) (p : Piece) (fault : PidFault) → sync_byte p.bytes ≢ 0x47 → pid_fault before p ≡ Some fault → fault ≡ Refused packet_faults.Sync
no_sync_first before p fault none has = by_test (sync_byte p.bytes == 0x47) refl has
  where
    by_test : (is : Bool) → (sync_byte p.bytes == 0x47) ≡ is
        → option_or (option_map Refused (cond (not is) (Some packet_faults.Sync) (find (has_fault p.bytes) (packet_faults.ErrorFlag ∷ packet_faults.Scrambled ∷ packet_faults.BadField ∷ []))))
        (option_and_then (order_fault before) (packet_of p.bytes)) ≡ Some fault
        → fault ≡ Refused packet_faults.Sync
    by_test true is e = let same : sync_byte p.bytes ≡ 0x47 = grind (arith, nat_tests) in absurd (none same)
    by_test false is e = let f : Some (Refused packet_faults.Sync) ≡ Some fault = e in cc

pub one_pid_fault : (file : List ℕ) (pid from n : ℕ) (a b : PidFault) → HasPidFault file pid from n a → HasPidFault file pid from n b → a ≡ b
one_pid_fault file pid from n a b has other = let e : Some a ≡ Some b = sym has.fault_is ∙ other.fault_is in cc

verdict_one : (program n : ℕ) (found : Found) (a b : Stop) → Verdict program n found a → Verdict program n found b → a ≡ b
verdict_one program n (Ok section) a b (inl (f, bad, e)) (inl (f', bad', e')) = e ∙ ap (λ (x : SectionFault). refuse (of_section (PACKET_BYTES * n) x)) (bad.0 ∙ sym bad'.0) ∙ sym e'
verdict_one program n (Ok section) a b (inl (f, bad, e)) (inr (inl (f', bad', e'))) = e ∙ ap (λ (x : SectionFault). refuse (of_section (PACKET_BYTES * n) x)) (bad.0 ∙ sym bad'.0) ∙ sym e'
verdict_one program n (Ok section) a b (inl (f, bad, e)) (inr (inr (m, is, e'))) = absurd (omega (arith, bad.1.table_is, (pmt_is section m is.0).0.current.table_is))
verdict_one program n (Ok section) a b (inr (inl (f, bad, e))) (inl (f', bad', e')) = e ∙ ap (λ (x : SectionFault). refuse (of_section (PACKET_BYTES * n) x)) (bad.0 ∙ sym bad'.0) ∙ sym e'
verdict_one program n (Ok section) a b (inr (inl (f, bad, e))) (inr (inl (f', bad', e'))) = e ∙ ap (λ (x : SectionFault). refuse (of_section (PACKET_BYTES * n) x)) (bad.0 ∙ sym bad'.0) ∙ sym e'
verdict_one program n (Ok section) a b (inr (inl (f, bad, e))) (inr (inr (m, is, e'))) = (let none : None ≡ Some m = sym bad.2 ∙ is.0 in absurd cc)
verdict_one program n (Ok section) a b (inr (inr (m, is, e))) (inl (f, bad, e')) = absurd (omega (arith, bad.1.table_is, (pmt_is section m is.0).0.current.table_is))
verdict_one program n (Ok section) a b (inr (inr (m, is, e))) (inr (inl (f, bad, e'))) = (let none : None ≡ Some m = sym bad.2 ∙ is.0 in absurd cc)
verdict_one program n (Ok section) a b (inr (inr (m, is, e))) (inr (inr (m', is', e'))) =
    let both : Some m ≡ Some m' = sym is.0 ∙ is'.0 in
    let same : m ≡ m' = cc in
    e ∙ ap take same ∙ sym e'
verdict_one program n (Err fault) a b (inl (f, bad, e)) (inl (f', bad', e')) = e ∙ ap (λ (x : SectionFault). refuse (of_section (PACKET_BYTES * n) x)) (sym bad ∙ bad') ∙ sym e'
verdict_one program n (Err fault) a b (inl (f, bad, e)) (inr (inl (f', bad', e'))) = e ∙ ap (λ (x : SectionFault). refuse (of_section (PACKET_BYTES * n) x)) (sym bad ∙ bad') ∙ sym e'
verdict_one program n (Err fault) a b (inl (f, bad, e)) (inr (inr (m, never, e'))) = absurd never
verdict_one program n (Err fault) a b (inr (inl (f, bad, e))) (inl (f', bad', e')) = e ∙ ap (λ (x : SectionFault). refuse (of_section (PACKET_BYTES * n) x)) (sym bad ∙ bad') ∙ sym e'
verdict_one program n (Err fault) a b (inr (inl (f, bad, e))) (inr (inl (f', bad', e'))) = e ∙ ap (λ (x : SectionFault). refuse (of_section (PACKET_BYTES * n) x)) (sym bad ∙ bad') ∙ sym e'
verdict_one program n (Err fault) a b (inr (inl (f, bad, e))) (inr (inr (m, never, e'))) = absurd never
verdict_one program n (Err fault) a b (inr (inr (m, never, e))) other = absurd never

of_its_pid : (file : List ℕ) (pid from n k : ℕ) (found : Found) → IsSection file pid from n k found → is_of_pid file pid n ≡ true
of_its_pid file pid from n k found section = by_test (is_of_pid file pid n) refl
  where
    by_test : (is : Bool) → is_of_pid file pid n ≡ is → is_of_pid file pid n ≡ true
    by_test true is = is
    by_test false is = absurd (none_there file pid from n k found is section)

sections_one : (file : List ℕ) (program n k : ℕ) (a b : Stop) → SectionStop file program n k a → SectionStop file program n k b → a ≡ b
sections_one file program n k a b s t =
    let pids : s.pid ≡ t.pid = of_one file s.pid t.pid n (of_its_pid file s.pid s.from n k s.found s.section) (of_its_pid file t.pid t.from n k t.found t.section) in
    let froms : s.from ≡ t.from = one_from file program t.pid s.from t.from (subst (λ (p : ℕ). IsLookedAt file program p s.from) pids s.looked) t.looked in
    let there : IsSection file t.pid t.from n k s.found =
    subst (λ (f : ℕ). IsSection file t.pid f n k s.found) froms (subst (λ (p : ℕ). IsSection file p s.from n k s.found) pids s.section) in
    let same : s.found ≡ t.found = same_section file t.pid t.from n k s.found t.found there t.section in
    verdict_one program n t.found a b (subst (λ (x : Found). Verdict program n x a) same s.verdict) t.verdict

packets_one : (file : List ℕ) (program n : ℕ) (a b : Stop) → PidStop file program n a → PidStop file program n b → a ≡ b
packets_one file program n a b p q =
    let pids : p.pid ≡ q.pid = of_one file p.pid q.pid n p.has.of_pid q.has.of_pid in
    let froms : p.from ≡ q.from = one_from file program q.pid p.from q.from (subst (λ (i : ℕ). IsLookedAt file program i p.from) pids p.looked) q.looked in
    let there : HasPidFault file q.pid q.from n p.fault =
    subst (λ (f : ℕ). HasPidFault file q.pid f n p.fault) froms (subst (λ (i : ℕ). HasPidFault file i p.from n p.fault) pids p.has) in
    p.stop_is ∙ ap (λ (f : PidFault). refuse (of_pid (PACKET_BYTES * n) f)) (one_pid_fault file q.pid q.from n p.fault q.fault there q.has) ∙ sym q.stop_is

without_sync : (file : List ℕ) (program n : ℕ) (stop : Stop) → HasNoSync file n → PidStop file program n stop → stop ≡ refuse (Sync (PACKET_BYTES * n))
without_sync file program n stop none p =
    p.stop_is ∙ ap (λ (f : PidFault). refuse (of_pid (PACKET_BYTES * n) f)) (no_sync_first (pid_pieces file p.pid p.from n) (piece file n) p.fault none.no_sync p.has.fault_is)

parted_one : (file : List ℕ) (program n rank : ℕ) (a b : Stop) → Parted file program n rank a → Parted file program n rank b → a ≡ b
parted_one file program n rank a b (inl (r, inl (none, e))) (inl (s, inl (other, f))) = e ∙ sym f
parted_one file program n rank a b (inl (r, inl (none, e))) (inl (s, inr q)) = e ∙ sym (without_sync file program n b none q)
parted_one file program n rank a b (inl (r, inr p)) (inl (s, inl (none, f))) = without_sync file program n a none p ∙ sym f
parted_one file program n rank a b (inl (r, inr p)) (inl (s, inr q)) = packets_one file program n a b p q
parted_one file program n rank a b (inl (r, p)) (inr (k, s, q)) = absurd (omega (arith, r, s))
parted_one file program n rank a b (inr (k, r, p)) (inl (s, q)) = absurd (omega (arith, r, s))
parted_one file program n rank a b (inr (k, r, p)) (inr (l, s, q)) =
    let same : k ≡ l = omega (arith, r, s) in
    sections_one file program n l a b (subst (λ (i : ℕ). SectionStop file program n i a) same p) q

-- what ends the reading first is one thing
pub one_stop : (file : List ℕ) (program : ℕ) (a b : Stop) → StopsFirst file program a → StopsFirst file program b → a ≡ b
one_stop file program a b first other = by_order (ordered first.packet first.rank other.packet other.rank)
  where
    by_order : IsBefore first.packet first.rank other.packet other.rank
        ⊎ (((first.packet ≡ other.packet) × (first.rank ≡ other.rank)) ⊎ IsBefore other.packet other.rank first.packet first.rank)
        → a ≡ b
    by_order (inl before) = absurd (other.first first.packet first.rank a before first.stops)
    by_order (inr (inr before)) = absurd (first.first other.packet other.rank b before other.stops)
    by_order (inr (inl (e, f))) =
        let there : StopsAt file program other.packet other.rank a =
        subst (λ (r : ℕ). StopsAt file program other.packet r a) f (subst (λ (n : ℕ). StopsAt file program n first.rank a) e first.stops) in
        parted_one file program other.packet other.rank a b (parted file program other.packet other.rank a there) (parted file program other.packet other.rank b other.stops)
