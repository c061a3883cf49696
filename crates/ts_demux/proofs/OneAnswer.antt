-- A file has one answer.
use Rattle.std.proofs.Common.{◌≡◌, ◌≢◌, ℕ, zero, suc, ◌+◌, ◌-◌, ◌*◌, ◌<◌, ◌≤◌, ◌⊎◌, inl, inr, List, [], ◌∷◌, length, map, Some, None, Ok, Err, refl, sym, ap, ap₂, ◌∙◌, subst, arith}
use Rattle.stream_constants.specs.declared.packets.TheConstants.{PACKET_BYTES}
use Rattle.ts_packets.specs.TransportStream.{pid_pieces}
use Rattle.psi_tables.specs.declared.pmt.TheConstants.{PACKET_SECTION_BYTES}
use Rattle.psi_tables.specs.declared.program_map.ProgramMap.{ProgramMap}
use Rattle.psi_tables.specs.declared.stream.Stream.{Stream}
use Rattle.psi_tables.specs.Pmt.{pids_of, pmt_length}
use Rattle.psi_tables.specs.Sections.{Found}
use Rattle.ts_demux.specs.declared.demux_fault.DemuxFault.{DemuxFault}
use Rattle.ts_demux.specs.declared.demux_fault.DemuxFault.TheVariants as faults
use Rattle.ts_demux.specs.declared.demuxed.AudioStream.{AudioStream}
use Rattle.ts_demux.specs.declared.demuxed.Demuxed.{Demuxed}
use Rattle.ts_demux.specs.declared.demuxed.PesUnit.{PesUnit}
use Rattle.ts_demux.specs.Faults.{of_pid}
use Rattle.ts_demux.specs.Streams.{video_of, without_video, audios_of, others_of}
use Rattle.ts_demux.specs.Tables.{piece, Names, IsPatSection, HasPidFault, HasPat, HasProgram, NothingStops, Stop, refuse, take, StopsFirst, IsTablesFault, HasMap}
use Rattle.ts_demux.specs.Demux.{
  most_audios,
  IsCarriedMap,
  HasCarriedMap,
  HasManyStreams,
  IsStreamFault,
  IsFirstStreamFault,
  pes_packets_on,
  IsDemuxed,
  IsDemuxRefused,
  short_file,
  tables,
  no_video,
  audios,
  long_map,
  streams,
  memory,
}
use Rattle.ts_demux.proofs.TableLemmas.{of_one}
use Rattle.ts_demux.proofs.OneStop.{one_stop, one_pid_fault, no_sync_first}

-- ---- the tables

-- why they aren't read, by what holds of the file
pub data WhyNot (file : List ℕ) (program : ℕ) (fault : DemuxFault) : Type 0 where
  no_pat : fault ≡ faults.NoPat 0 → NothingStops file program → (HasPat file → ⊥) → WhyNot file program fault
  no_program : fault ≡ faults.NoProgram 0 → NothingStops file program → HasPat file → (HasProgram file program → ⊥) → WhyNot file program fault
  no_pmt : fault ≡ faults.NoPmt 0 → NothingStops file program → HasProgram file program → WhyNot file program fault
  stopped : StopsFirst file program (refuse fault) → WhyNot file program fault

pub why_not : (file : List ℕ) (program : ℕ) (fault : DemuxFault) → IsTablesFault file program fault → WhyNot file program fault
why_not file program (faults.NoPat at) (e, nothing, none) = no_pat (ap faults.NoPat e) nothing none
why_not file program (faults.NoProgram at) (e, nothing, some, none) = no_program (ap faults.NoProgram e) nothing some none
why_not file program (faults.NoPmt at) (e, nothing, some) = no_pmt (ap faults.NoPmt e) nothing some
why_not file program (faults.ShortFile at) s = stopped s
why_not file program (faults.Sync at) s = stopped s
why_not file program (faults.ErrorFlag at) s = stopped s
why_not file program (faults.Scrambled at) s = stopped s
why_not file program (faults.BadField at) s = stopped s
why_not file program (faults.Discontinuity at) s = stopped s
why_not file program (faults.Gap at) s = stopped s
why_not file program (faults.BadSection at) s = stopped s
why_not file program (faults.BadCrc at) s = stopped s
why_not file program (faults.NoVideo at) s = stopped s
why_not file program (faults.ProgramLimit at) s = stopped s
why_not file program (faults.PmtTooLong at) s = stopped s
why_not file program faults.OutOfMemory s = stopped s

-- a section that names a program is a PAT section
current_named : (program pid : ℕ) (found : Found) → Names program found pid → IsPatSection found
current_named program pid (Ok section) (programs, is, e) = is.current
current_named program pid (Err fault) never = absurd never

has_pat : (file : List ℕ) (program : ℕ) → HasProgram file program → HasPat file
has_pat file program is = record {
  packet = is.packet;
  index = is.index;
  found = is.pat.found;
  section = is.pat.section;
  current = current_named program is.pid is.pat.found is.pat.names;
}

nothing_first : (file : List ℕ) (program : ℕ) (stop : Stop) → NothingStops file program → StopsFirst file program stop → ⊥
nothing_first file program stop nothing is = nothing is.packet is.rank stop is.stops

why_one : (file : List ℕ) (program : ℕ) (a b : DemuxFault) → WhyNot file program a → WhyNot file program b → a ≡ b
why_one file program a b (no_pat e nothing none) (no_pat f nothing' none') = e ∙ sym f
why_one file program a b (no_pat e nothing none) (no_program f nothing' some none') = absurd (none some)
why_one file program a b (no_pat e nothing none) (no_pmt f nothing' some) = absurd (none (has_pat file program some))
why_one file program a b (no_program e nothing some none) (no_pat f nothing' none') = absurd (none' some)
why_one file program a b (no_program e nothing some none) (no_program f nothing' some' none') = e ∙ sym f
why_one file program a b (no_program e nothing some none) (no_pmt f nothing' some') = absurd (none some')
why_one file program a b (no_pmt e nothing some) (no_pat f nothing' none') = absurd (none' (has_pat file program some))
why_one file program a b (no_pmt e nothing some) (no_program f nothing' some' none') = absurd (none' some)
why_one file program a b (no_pmt e nothing some) (no_pmt f nothing' some') = e ∙ sym f
why_one file program a b (no_pat e nothing none) (stopped s) = absurd (nothing_first file program (refuse b) nothing s)
why_one file program a b (no_program e nothing some none) (stopped s) = absurd (nothing_first file program (refuse b) nothing s)
why_one file program a b (no_pmt e nothing some) (stopped s) = absurd (nothing_first file program (refuse b) nothing s)
why_one file program a b (stopped s) (no_pat f nothing none) = absurd (nothing_first file program (refuse a) nothing s)
why_one file program a b (stopped s) (no_program f nothing some none) = absurd (nothing_first file program (refuse a) nothing s)
why_one file program a b (stopped s) (no_pmt f nothing some) = absurd (nothing_first file program (refuse a) nothing s)
why_one file program a b (stopped s) (stopped t) = let e : refuse a ≡ refuse b = one_stop file program (refuse a) (refuse b) s t in cc

tables_one : (file : List ℕ) (program : ℕ) (a b : DemuxFault) → IsTablesFault file program a → IsTablesFault file program b → a ≡ b
tables_one file program a b is other = why_one file program a b (why_not file program a is) (why_not file program b other)

map_or_not : (file : List ℕ) (program : ℕ) (whole : ProgramMap) (fault : DemuxFault) → HasMap file program whole → WhyNot file program fault → ⊥
map_or_not file program whole fault has (no_pat e nothing none) = nothing_first file program (take whole) nothing has
map_or_not file program whole fault has (no_program e nothing some none) = nothing_first file program (take whole) nothing has
map_or_not file program whole fault has (no_pmt e nothing some) = nothing_first file program (take whole) nothing has
map_or_not file program whole fault has (stopped s) = let e : take whole ≡ refuse fault = one_stop file program (take whole) (refuse fault) has s in absurd cc

map_one : (file : List ℕ) (program : ℕ) (a b : ProgramMap) → HasMap file program a → HasMap file program b → a ≡ b
map_one file program a b has other = let e : take a ≡ take b = one_stop file program (take a) (take b) has other in cc

-- ---- the map of the carried streams

record SameMap (a b : ProgramMap) (others others' : List ℕ) : Type 0 where
  pub map_is : a ≡ b
  pub others_are : others ≡ others'

same_map : (a b : ProgramMap) → a.number ≡ b.number → a.pcr_pid ≡ b.pcr_pid → a.streams.items ≡ b.streams.items → a.dropped ≡ b.dropped → a ≡ b
same_map a b numbers pcrs items dropped =
    ap₂ (λ (n c : ℕ). record { number = n; pcr_pid = c; streams = a.streams; dropped = a.dropped }) numbers pcrs
    ∙ ap₂ (λ (xs : List Stream) (d : ℕ). record { number = b.number; pcr_pid = b.pcr_pid; streams = record { items = xs }; dropped = d }) items dropped

of_one_whole : (drop : List ℕ) (whole a b : ProgramMap) (others others' : List ℕ) → IsCarriedMap drop whole a others → IsCarriedMap drop whole b others' → SameMap a b others others'
of_one_whole drop whole a b others others' is is' =
    let videos : Some is.video ≡ Some is'.video = sym is.video_is ∙ is'.video_is in
    let video : is.video ≡ is'.video = cc in
    let rest = without_video whole.streams.items in
    record {
      map_is = same_map a b (is.number ∙ sym is'.number) (is.pcr ∙ sym is'.pcr)
          (is.streams ∙ ap (λ (v : Stream). v ∷ audios_of drop (v.pid ∷ []) rest) video ∙ sym is'.streams) (is.dropped_same ∙ sym is'.dropped_same);
      others_are = is.others_are ∙ ap (λ (v : Stream). others_of drop (v.pid ∷ []) rest) video ∙ sym is'.others_are;
    }

carried_one : (file : List ℕ) (program : ℕ) (drop : List ℕ) (a b : ProgramMap) (others others' : List ℕ) → HasCarriedMap file program drop a others
    → HasCarriedMap file program drop b others' → SameMap a b others others'
carried_one file program drop a b others others' has has' =
    let whole : has.whole ≡ has'.whole = map_one file program has.whole has'.whole has.tables has'.tables in
    of_one_whole drop has'.whole a b others others' (subst (λ (w : ProgramMap). IsCarriedMap drop w a others) whole has.carried_is) has'.carried_is

-- ---- the streams

stream_one : (file pids : List ℕ) (n : ℕ) (a b : DemuxFault) → IsStreamFault file pids n a → IsStreamFault file pids n b → a ≡ b
stream_one file pids n a b (inl (none, e)) (inl (other, f)) = e ∙ sym f
stream_one file pids n a b (inl (none, e)) (inr (pid, found, among, has, f)) =
    e ∙ sym (f ∙ ap (of_pid (PACKET_BYTES * n)) (no_sync_first (pid_pieces file pid 0 n) (piece file n) found none.no_sync has.fault_is))
stream_one file pids n a b (inr (pid, found, among, has, e)) (inl (none, f)) =
    e ∙ ap (of_pid (PACKET_BYTES * n)) (no_sync_first (pid_pieces file pid 0 n) (piece file n) found none.no_sync has.fault_is) ∙ sym f
stream_one file pids n a b (inr (pid, found, among, has, e)) (inr (pid', found', among', has', f)) =
    let pids : pid ≡ pid' = of_one file pid pid' n has.of_pid has'.of_pid in
    e ∙ ap (of_pid (PACKET_BYTES * n)) (one_pid_fault file pid' 0 n found found' (subst (λ (p : ℕ). HasPidFault file p 0 n found) pids has) has') ∙ sym f

first_stream_one : (file pids : List ℕ) (a b : DemuxFault) → IsFirstStreamFault file pids a → IsFirstStreamFault file pids b → a ≡ b
first_stream_one file pids a b first other = by_order (compared first.packet other.packet)
  where
    compared : (m n : ℕ) → (m < n) ⊎ ((m ≡ n) ⊎ (n < m))
    compared m n = by_count (suc m - n) refl (suc n - m) refl
      where
        by_count : (i : ℕ) → suc m - n ≡ i → (j : ℕ) → suc n - m ≡ j → (m < n) ⊎ ((m ≡ n) ⊎ (n < m))
        by_count zero is j j_is = inl (omega arith)
        by_count (suc i) is zero j_is = inr (inr (omega arith))
        by_count (suc i) is (suc j) j_is = inr (inl (omega arith))

    by_order : (first.packet < other.packet) ⊎ ((first.packet ≡ other.packet) ⊎ (other.packet < first.packet)) → a ≡ b
    by_order (inl before) = absurd (other.first first.packet a before first.stands)
    by_order (inr (inr before)) = absurd (first.first other.packet b before other.stands)
    by_order (inr (inl same)) = stream_one file pids other.packet a b (subst (λ (n : ℕ). IsStreamFault file pids n a) same first.stands) other.stands

-- ---- what is answered

pub one_demuxed : (file : List ℕ) (program : ℕ) (drop : List ℕ) (a b : Demuxed) → IsDemuxed file program drop a → IsDemuxed file program drop b → a ≡ b
one_demuxed file program drop a b is is' =
    let same = carried_one file program drop a.map b.map a.not_carried b.not_carried is.tables is'.tables in
    let streams : is.video ∷ is.audios ≡ is'.video ∷ is'.audios = sym is.streams ∙ ap (λ (m : ProgramMap). m.streams.items) same.map_is ∙ is'.streams in
    let video : is.video ≡ is'.video = cc in
    let audios : is.audios ≡ is'.audios = cc in
    let videos : a.video ≡ b.video = is.video_packets ∙ ap (λ (s : Stream). (pes_packets_on file s).units) video ∙ sym is'.video_packets in
    let all : a.audios ≡ b.audios = is.audio_packets ∙ ap (map (pes_packets_on file)) audios ∙ sym is'.audio_packets in
    let rests : a.rest ≡ b.rest = is.rest_is ∙ sym is'.rest_is in
    ap₂ (λ (m : ProgramMap) (v : List PesUnit). record { map = m; video = v; audios = a.audios; rest = a.rest; not_carried = a.not_carried }) same.map_is videos
    ∙ ap₂ (λ (s : List AudioStream) (r : ℕ). record { map = b.map; video = b.video; audios = s; rest = r; not_carried = a.not_carried }) all rests
    ∙ ap (λ (o : List ℕ). record { map = b.map; video = b.video; audios = b.audios; rest = b.rest; not_carried = o }) same.others_are

module _ (file : List ℕ) (program : ℕ) (drop : List ℕ) where
  -- the map of the carried streams stands in the way of what comes before it
  map_or_tables : (m : ProgramMap) (others : List ℕ) (fault : DemuxFault) → HasCarriedMap file program drop m others → IsTablesFault file program fault → ⊥
  map_or_tables m others fault has is = map_or_not file program has.whole fault has.tables (why_not file program fault is)

  map_or_no_video : (m : ProgramMap) (others : List ℕ) (whole : ProgramMap) → HasCarriedMap file program drop m others → HasMap file program whole → video_of whole.streams.items ≡ None → ⊥
  map_or_no_video m others whole has is none =
      let same : has.whole ≡ whole = map_one file program has.whole whole has.tables is in
      let both : None ≡ Some has.carried_is.video = sym none ∙ ap (λ (w : ProgramMap). video_of w.streams.items) (sym same) ∙ has.carried_is.video_is in
      absurd cc

  few_or_many : (m n : ProgramMap) (others others' : List ℕ) → HasCarriedMap file program drop m others → HasCarriedMap file program drop n others'
      → length m.streams.items ≤ 1 + most_audios → HasManyStreams n → ⊥
  few_or_many m n others others' has has' few many =
      let same = carried_one file program drop m n others others' has has' in
      omega (arith, few, many, ap (λ (p : ProgramMap). length p.streams.items) same.map_is)

  short_or_long : (m n : ProgramMap) (others others' : List ℕ) → HasCarriedMap file program drop m others → HasCarriedMap file program drop n others'
      → pmt_length m ≤ PACKET_SECTION_BYTES → PACKET_SECTION_BYTES < pmt_length n → ⊥
  short_or_long m n others others' has has' short long =
      let same = carried_one file program drop m n others others' has has' in
      omega (arith, short, long, ap pmt_length same.map_is)

  pub never_both : (demuxed : Demuxed) (fault : DemuxFault) → IsDemuxed file program drop demuxed → IsDemuxRefused file program drop fault → fault ≡ faults.OutOfMemory
  never_both demuxed fault is (short_file short e) = absurd (omega (arith, short, is.tables.long))
  never_both demuxed fault is (tables long t) = absurd (map_or_tables demuxed.map demuxed.not_carried fault is.tables t)
  never_both demuxed fault is (no_video whole long has none e) = absurd (map_or_no_video demuxed.map demuxed.not_carried whole is.tables has none)
  never_both demuxed fault is (audios m others has many e) = absurd (few_or_many demuxed.map m demuxed.not_carried others is.tables has is.few many)
  never_both demuxed fault is (long_map m others has few long e) = absurd (short_or_long demuxed.map m demuxed.not_carried others is.tables has is.short long)
  never_both demuxed fault is (streams m others has few short first) =
      let same = carried_one file program drop demuxed.map m demuxed.not_carried others is.tables has in
      absurd (is.sound first.packet fault (subst (λ (n : ProgramMap). IsStreamFault file (pids_of n) first.packet fault) (sym same.map_is) first.stands))
  never_both demuxed fault is (memory e) = e

  pub one_refusal : (a b : DemuxFault) → a ≢ faults.OutOfMemory → b ≢ faults.OutOfMemory → IsDemuxRefused file program drop a → IsDemuxRefused file program drop b → a ≡ b
  one_refusal a b some some' (short_file short e) (short_file short' e') = e ∙ sym e'
  one_refusal a b some some' (short_file short e) (tables long' t') = absurd (omega (arith, short, long'))
  one_refusal a b some some' (short_file short e) (no_video whole' long' has' none' e') = absurd (omega (arith, short, long'))
  one_refusal a b some some' (short_file short e) (audios m' others' has' many' e') = absurd (omega (arith, short, has'.long))
  one_refusal a b some some' (short_file short e) (long_map m' others' has' few' long' e') = absurd (omega (arith, short, has'.long))
  one_refusal a b some some' (short_file short e) (streams m' others' has' few' short' first') = absurd (omega (arith, short, has'.long))
  one_refusal a b some some' (tables long t) (short_file short' e') = absurd (omega (arith, short', long))
  one_refusal a b some some' (tables long t) (tables long' t') = tables_one file program a b t t'
  one_refusal a b some some' (tables long t) (no_video whole' long' has' none' e') = absurd (map_or_not file program whole' a has' (why_not file program a t))
  one_refusal a b some some' (tables long t) (audios m' others' has' many' e') = absurd (map_or_tables m' others' a has' t)
  one_refusal a b some some' (tables long t) (long_map m' others' has' few' long' e') = absurd (map_or_tables m' others' a has' t)
  one_refusal a b some some' (tables long t) (streams m' others' has' few' short' first') = absurd (map_or_tables m' others' a has' t)
  one_refusal a b some some' (no_video whole long has none e) (short_file short' e') = absurd (omega (arith, short', long))
  one_refusal a b some some' (no_video whole long has none e) (tables long' t') = absurd (map_or_not file program whole b has (why_not file program b t'))
  one_refusal a b some some' (no_video whole long has none e) (no_video whole' long' has' none' e') = e ∙ sym e'
  one_refusal a b some some' (no_video whole long has none e) (audios m' others' has' many' e') = absurd (map_or_no_video m' others' whole has' has none)
  one_refusal a b some some' (no_video whole long has none e) (long_map m' others' has' few' long' e') = absurd (map_or_no_video m' others' whole has' has none)
  one_refusal a b some some' (no_video whole long has none e) (streams m' others' has' few' short' first') = absurd (map_or_no_video m' others' whole has' has none)
  one_refusal a b some some' (audios m others has many e) (short_file short' e') = absurd (omega (arith, short', has.long))
  one_refusal a b some some' (audios m others has many e) (tables long' t') = absurd (map_or_tables m others b has t')
  one_refusal a b some some' (audios m others has many e) (no_video whole' long' has' none' e') = absurd (map_or_no_video m others whole' has has' none')
  one_refusal a b some some' (audios m others has many e) (audios m' others' has' many' e') = e ∙ sym e'
  one_refusal a b some some' (audios m others has many e) (long_map m' others' has' few' long' e') = absurd (few_or_many m' m others' others has' has few' many)
  one_refusal a b some some' (audios m others has many e) (streams m' others' has' few' short' first') = absurd (few_or_many m' m others' others has' has few' many)
  one_refusal a b some some' (long_map m others has few long e) (short_file short' e') = absurd (omega (arith, short', has.long))
  one_refusal a b some some' (long_map m others has few long e) (tables long' t') = absurd (map_or_tables m others b has t')
  one_refusal a b some some' (long_map m others has few long e) (no_video whole' long' has' none' e') = absurd (map_or_no_video m others whole' has has' none')
  one_refusal a b some some' (long_map m others has few long e) (audios m' others' has' many' e') = absurd (few_or_many m m' others others' has has' few many')
  one_refusal a b some some' (long_map m others has few long e) (long_map m' others' has' few' long' e') = e ∙ sym e'
  one_refusal a b some some' (long_map m others has few long e) (streams m' others' has' few' short' first') = absurd (short_or_long m' m others' others has' has short' long)
  one_refusal a b some some' (streams m others has few short first) (short_file short' e') = absurd (omega (arith, short', has.long))
  one_refusal a b some some' (streams m others has few short first) (tables long' t') = absurd (map_or_tables m others b has t')
  one_refusal a b some some' (streams m others has few short first) (no_video whole' long' has' none' e') = absurd (map_or_no_video m others whole' has has' none')
  one_refusal a b some some' (streams m others has few short first) (audios m' others' has' many' e') = absurd (few_or_many m m' others others' has has' few many')
  one_refusal a b some some' (streams m others has few short first) (long_map m' others' has' few' long' e') = absurd (short_or_long m m' others others' has has' short long')
  one_refusal a b some some' (streams m others has few short first) (streams m' others' has' few' short' first') =
      let same = carried_one file program drop m m' others others' has has' in
      first_stream_one file (pids_of m') a b (subst (λ (n : ProgramMap). IsFirstStreamFault file (pids_of n) a) same.map_is first) first'
  one_refusal a b some some' (memory e) other = absurd (some e)
  one_refusal a b some some' (short_file short e) (memory e'') = absurd (some' e'')
  one_refusal a b some some' (tables long t) (memory e'') = absurd (some' e'')
  one_refusal a b some some' (no_video whole long has none e) (memory e'') = absurd (some' e'')
  one_refusal a b some some' (audios m others has many e) (memory e'') = absurd (some' e'')
  one_refusal a b some some' (long_map m others has few long e) (memory e'') = absurd (some' e'')
  one_refusal a b some some' (streams m others has few short first) (memory e'') = absurd (some' e'')
