-- The video of a stream that is clean by its own times, as an audit judges it: what comes to its decoder and what is removed from it is what the stream is clean for.
use Rattle.std.proofs.Common.{◌≡◌, ℕ, ◌+◌, ◌-◌, ◌*◌, ◌%◌, ◌<◌, ◌≤◌, ◌==◌, ◌&&◌, nat_lt, not, Bool, true, false, cond, List, [], ◌∷◌}
use Rattle.std.proofs.Common.{◌++◌, All, length, map, replicate, Option, Some, refl, sym, ap, ap₂, subst, ◌∙◌, arith, length-append, ℤ, pos, ◌+ℤ◌, ◌-ℤ◌, ◌*ℤ◌}
use Rattle.std.specs.List.{AllZip, flat_map, sum_by, zip}
use Rattle.std.specs.List.Sorted.{IsNonDecreasing, IsStrictlyIncreasing}
use Rattle.std.proofs.lemmas.Bool.{and_right, le-leb, ltb-false, ltb-true}
use Rattle.std.proofs.lemmas.Int.{ints}
use Rattle.std.proofs.lemmas.List.{append-nil, length-drop, length-map, length-replicate, nil_from_length}
use Rattle.std.proofs.lemmas.List.Elements.{All-head, All-tail}
use Rattle.std.proofs.lemmas.List.Folds.{flat_map-map}
use Rattle.std.proofs.lemmas.List.Sums.{sum_by-cons}
use Rattle.std.proofs.lemmas.Option.{same_Some}
use Rattle.std.proofs.lemmas.Simd.{map-map}
use Rattle.bit_lists.specs.Payload.{CarriedPayload, Payload}
use Rattle.pes_units.specs.PesHeader.{header_length, is_header_whole}
use Rattle.pes_units.specs.PesPackets.{Gathered, gathered, is_cut, is_dropped}
use Rattle.ts_packets.specs.Packet.{PacketRecord}
use Rattle.ts_packets.specs.Carried.{carried, payloads_on}
use Rattle.ts_packets.specs.TransportStream.{packets, pid_pieces, piece_count}
use Rattle.version_table.proofs.Rising.{Adjacent, adjacent_steady, rising_adjacent}
use Rattle.version_table.specs.declared.table.Unit.{Unit as CodedUnit}
use Rattle.version_table.specs.declared.table.ProgramRow.{ProgramRow}
use Rattle.version_table.specs.Choice.{version_at}
use Rattle.slot_rule.specs.declared.queue_kind.QueueKind.TheVariants.{Video}
use Rattle.slot_rule.specs.declared.queued_packet.QueuedPacket.{QueuedPacket}
use Rattle.slot_rule.specs.Queues.{video_queue}
use Rattle.tstd_model.specs.declared.decoder_input.Arrival.{Arrival}
use Rattle.tstd_model.specs.declared.decoder_input.BufferKind.TheVariants.{Video as VideoBuffers}
use Rattle.tstd_model.specs.declared.decoder_input.PacketPart.{PacketPart}
use Rattle.tstd_model.specs.declared.decoder_input.PacketPart.TheVariants.{Overhead, PesHeader, Data}
use Rattle.tstd_model.specs.declared.decoder_input.Removal.{Removal}
use Rattle.tstd_model.specs.Decoder.{removed}
use Rattle.tstd_model.specs.PacketBytes.{is_data, kept}
use Rattle.tstd_bridge.specs.Arrivals.{Headers}
use Rattle.tstd_bridge.specs.Removals.{IsAllowed, wanted_of_each}
use Rattle.ts_demux.specs.declared.demuxed.PesUnit.{PesUnit}
use Rattle.ts_demux.specs.declared.pid_places.Place.{Place}
use Rattle.ts_demux.specs.PidPlaces.{places_on}
use Rattle.elementary_streams.specs.Packets.{joined, pes_payload_of, taken}
use Rattle.stream_audit.specs.declared.audited_stream.AuditedStream.{AuditedStream}
use Rattle.stream_audit.specs.declared.finding.Finding.{Finding}
use Rattle.stream_audit.specs.declared.kept_units.KeptUnits.{KeptUnits}
use Rattle.stream_audit.specs.Clock.{shift}
use Rattle.stream_audit.specs.Findings.{FindsOn}
use Rattle.stream_audit.specs.PesBytes.{brought_by_all}
use Rattle.stream_audit.specs.Removals.{not_before_zero, removed_at, bytes_of_units, unit_removals}
use Rattle.stream_audit.specs.Streams.{IsVideoStream, arrivals_by}
use Rattle.es_units.specs.Units.{first_sequence}
use Rattle.tstd_model.specs.Faults.{IsFault}
use Rattle.clean_laws.specs.Arrivals.{arrivals_on, header_bytes}
use Rattle.clean_laws.specs.Clean.{IsCleanOn, IsPayloadOf}
use Rattle.time_laws.specs.Clock.{IsFirstShown}
use Rattle.audit_laws.specs.Carried.{CarriesVideo}
use Rattle.audit_laws.specs.Found.{IsFullAtMost}
use Rattle.audit_laws.specs.Kept.{AreKeptOf, AreOwnUnits}
use Rattle.audit_laws.proofs.Found.{found-on}
use Rattle.audit_laws.proofs.Arrivals.{arrivals-are, parts-many, parts_of_payload, payload-parts}
use Rattle.audit_laws.proofs.Gathered.{LeavesData, before-is, fits-gathered, front, front-is, of-map, parts-gathered, plain_parts, whole-parts}
use Rattle.audit_laws.proofs.Places.{PacketLaws, carried-are, places-are, places_by}
use Rattle.audit_laws.proofs.Removed.{chosen_dues, chosen_sizes, packets-kept, queue-kept, spread, video-gone, video-wanted, wanted_with_headers}

-- ---- times

-- what is due when the clock first shows a time, less than half a round from it, is removed then
half : (shown_at base due at : ℕ) (turns : ℤ) → shown_at < 2576980377600 → due < at + 1288490188800 → at < due + 1288490188800
    → pos (shown_at + at) ≡ (pos (base + due) +ℤ turns *ℤ pos 2576980377600) → (base + (2576980377600 - shown_at % 2576980377600)) % 2576980377600 < 1288490188800
    → (pos due +ℤ pos ((base + (2576980377600 - shown_at % 2576980377600)) % 2576980377600)) ≡ pos at
half shown_at base due at turns below early late shown low = omega (arith, ints)

behind : (shown_at base due at : ℕ) (turns : ℤ) → shown_at < 2576980377600 → due < at + 1288490188800 → at < due + 1288490188800
    → pos (shown_at + at) ≡ (pos (base + due) +ℤ turns *ℤ pos 2576980377600) → 1288490188800 ≤ (base + (2576980377600 - shown_at % 2576980377600)) % 2576980377600
    → (pos due +ℤ (pos ((base + (2576980377600 - shown_at % 2576980377600)) % 2576980377600) -ℤ pos 2576980377600)) ≡ pos at
behind shown_at base due at turns below early late shown high = omega (arith, ints)

pub shift-is : (shown_at base due at : ℕ) → shown_at < 2576980377600 → due < at + 1288490188800 → at < due + 1288490188800 → IsFirstShown shown_at (pos (base + due)) at
    → (pos due +ℤ shift shown_at base) ≡ pos at
shift-is shown_at base due at below early late shown = by_test (nat_lt ((base + (2576980377600 - shown_at % 2576980377600)) % 2576980377600) 1288490188800) refl
  where
    by_test : (b : Bool) → nat_lt ((base + (2576980377600 - shown_at % 2576980377600)) % 2576980377600) 1288490188800 ≡ b → (pos due +ℤ shift shown_at base) ≡ pos at
    by_test true is = rw is (half shown_at base due at shown.shown.0 below early late shown.shown.1 (ltb-true ((base + (2576980377600 - shown_at % 2576980377600)) % 2576980377600) 1288490188800 is))
    by_test false is = rw is (behind shown_at base due at shown.shown.0 below early late shown.shown.1
        (ltb-false ((base + (2576980377600 - shown_at % 2576980377600)) % 2576980377600) 1288490188800 is))

removed-when : (shown_at base due at : ℕ) → shown_at < 2576980377600 → due < at + 1288490188800 → at < due + 1288490188800 → IsFirstShown shown_at (pos (base + due)) at
    → removed_at shown_at base (pos due) ≡ at
removed-when shown_at base due at below early late shown = ap not_before_zero (shift-is shown_at base due at below early late shown)

-- ---- what is removed

abbrev pub payload_sizes : List PesUnit → List ℕ
payload_sizes packets = map (λ (packet : PesUnit). length (pes_payload_of packet)) packets

removals-are : (shown_at base : ℕ) (units : List Removal) (packets : List PesUnit) (times : List ℕ) → shown_at < 2576980377600 → AreOwnUnits shown_at base units packets times
    → (removed (map (λ (unit : Removal). record { due = removed_at shown_at base (pos unit.due); bytes = unit.bytes }) units) ≡ spread (payload_sizes packets) times)
    × (map (λ (removal : Removal). removal.due) (map (λ (unit : Removal). record { due = removed_at shown_at base (pos unit.due); bytes = unit.bytes }) units) ≡ times)
    × (sum_by (λ (unit : Removal). unit.bytes) units ≡ sum_by (λ (packet : PesUnit). length (pes_payload_of packet)) packets)
unfolding removed
removals-are shown_at base [] [] [] below are = (refl, refl, refl)
removals-are shown_at base [] [] (t ∷ ts) below are = absurd are
removals-are shown_at base [] (p ∷ ps) times below are = absurd are
removals-are shown_at base (u ∷ us) [] times below are = absurd are
removals-are shown_at base (u ∷ us) (p ∷ ps) [] below are = absurd are
removals-are shown_at base (u ∷ us) (p ∷ ps) (t ∷ ts) below are =
    let at : removed_at shown_at base (pos u.due) ≡ t = removed-when shown_at base u.due t below are.0.not_later are.0.not_earlier are.0.when in
    let rest = removals-are shown_at base us ps ts below are.1 in (
      ap₂ (λ (xs ys : List ℕ). xs ++ ys) (ap₂ (λ (n k : ℕ). replicate n (940 * k)) are.0.bytes at) rest.0,
      ap₂ (λ (x : ℕ) (xs : List ℕ). x ∷ xs) at rest.1,
      sum_by-cons (λ (unit : Removal). unit.bytes) u us ∙ ap₂ (λ (x y : ℕ). x + y) are.0.bytes rest.2
          ∙ sym (sum_by-cons (λ (packet : PesUnit). length (pes_payload_of packet)) p ps),
    )

-- ---- payloads

queue-many : (headers : Headers) (payloads : List Payload) (packets : List QueuedPacket) → AllZip (IsPayloadOf headers) payloads packets
    → length (flat_map parts_of_payload payloads) ≡ length (wanted_with_headers packets)
queue-many headers [] [] zip = refl
queue-many headers [] (q ∷ qs) zip = absurd zip
queue-many headers (p ∷ ps) [] zip = absurd zip
queue-many headers (p ∷ ps) (q ∷ qs) zip =
    let size : length p.bytes ≡ q.payload = zip.0.size in
    length-append (parts_of_payload p) (flat_map parts_of_payload ps)
    ∙ ap₂ (λ (x y : ℕ). x + y) (parts-many p ∙ size ∙ sym (length-replicate q.payload (940 * q.due))) (queue-many headers ps qs zip.1)
    ∙ sym (length-append (replicate q.payload (940 * q.due)) (wanted_with_headers qs))

spread-many : (packets : List (List ℕ)) (times : List ℕ) → All (λ (bytes : List ℕ). header_length bytes < length bytes) packets → length packets ≡ length times
    → length (spread (map (λ (bytes : List ℕ). length bytes) packets) times) ≡ length (plain_parts packets)
spread-many [] times fits many = refl
spread-many (b ∷ bs) [] fits many = absurd (omega (arith, many))
spread-many (b ∷ bs) (t ∷ ts) fits many =
    let low : header_length b < length b = All-head (λ (bytes : List ℕ). header_length bytes < length bytes) b bs fits in
    let own : length (replicate (header_length b) PesHeader ++ replicate (length b - header_length b) Data) ≡ length b =
    length-append (replicate (header_length b) PesHeader) (replicate (length b - header_length b) Data)
    ∙ ap₂ (λ (x y : ℕ). x + y) (length-replicate (header_length b) PesHeader) (length-replicate (length b - header_length b) Data)
    ∙ (let e : header_length b + (length b - header_length b) ≡ length b = omega (arith, low) in e) in
    length-append (replicate (length b) (940 * t)) (spread (map (λ (bytes : List ℕ). length bytes) bs) ts)
    ∙ ap₂ (λ (x y : ℕ). x + y) (length-replicate (length b) (940 * t) ∙ sym own)
    (spread-many bs ts (All-tail (λ (bytes : List ℕ). header_length bytes < length bytes) b bs fits) (omega (arith, many)))
    ∙ sym (length-append (replicate (header_length b) PesHeader ++ replicate (length b - header_length b) Data) (plain_parts bs))

-- ---- PES packets that are taken

whole-header : (bytes : List ℕ) → header_length bytes < length bytes → is_header_whole bytes ≡ true
whole-header bytes low =
    ap₂ (λ (a b : Bool). a && b) (le-leb 9 (length bytes) (omega (arith, low))) (le-leb (header_length bytes) (length bytes) (omega (arith, low)))

not-dropped : (bytes : List ℕ) → header_length bytes < length bytes → is_dropped true bytes ≡ false
not-dropped bytes low = and_right (is_cut true bytes) (not (true && is_header_whole bytes)) (ap (λ (b : Bool). not (true && b)) (whole-header bytes low))

all-taken : (packets : List PesUnit) → All (λ (packet : PesUnit). header_length packet.bytes < length packet.bytes) packets → taken true packets ≡ packets
all-taken [] fits = refl
all-taken (packet ∷ []) fits =
    ap (λ (dropped : Bool). cond dropped [] (packet ∷ []))
    (not-dropped packet.bytes (All-head (λ (packet : PesUnit). header_length packet.bytes < length packet.bytes) packet [] fits))
all-taken (packet ∷ next ∷ more) fits =
    ap (λ (rest : List PesUnit). packet ∷ rest) (all-taken (next ∷ more) (All-tail (λ (packet : PesUnit). header_length packet.bytes < length packet.bytes) packet (next ∷ more) fits))

-- ---- lists

weaker : (xs : List ℕ) → Adjacent ◌<◌ xs → Adjacent ◌≤◌ xs
weaker [] rise = tt
weaker (x ∷ []) rise = tt
weaker (x ∷ y ∷ xs) rise = (omega (arith, rise.0), weaker (y ∷ xs) rise.1)

rise-weakly : (xs : List ℕ) → IsStrictlyIncreasing xs → IsNonDecreasing xs
rise-weakly xs rise = adjacent_steady xs (weaker xs (rising_adjacent xs rise))

zip-same : (xs : List ℕ) (ys : List ℕ) → xs ≡ ys → AllZip (λ x y. x ≤ y) xs ys
zip-same xs ys same = subst (λ (zs : List ℕ). AllZip (λ x y. x ≤ y) xs zs) same (own xs)
  where
    own : (xs : List ℕ) → AllZip (λ x y. x ≤ y) xs xs
    own [] = tt
    own (x ∷ xs) = (omega arith, own xs)

zip-dues : (units : List CodedUnit) (choice : List ℕ) → length (zip units choice) ≡ length units → chosen_dues (zip units choice) ≡ map (λ (unit : CodedUnit). unit.due) units
zip-dues [] choice many = refl
zip-dues (u ∷ us) [] many = absurd (omega (arith, many))
zip-dues (u ∷ us) (k ∷ choice) many = ap (λ (xs : List ℕ). u.due ∷ xs) (zip-dues us choice (omega (arith, many)))

-- ---- the whole

module _ (laws : PacketLaws) (file : List ℕ) (list : List PacketRecord) (pid program : ℕ) (row : ProgramRow) (choice : List ℕ) (pes : List PesUnit) (times : List ℕ) (headers : Headers)
    (is : CarriesVideo file list pid row choice pes times) (beside : AllZip (IsPayloadOf headers) (payloads_on pid list) (video_queue program row choice).packets)
    (data_behind : All (λ (p : Payload). header_bytes p < length p.bytes) (payloads_on pid list)) where
  abbrev on_pid : List CarriedPayload
  on_pid = carried (pid_pieces file pid 0 (piece_count file))

  abbrev sent_bytes : List (List ℕ)
  sent_bytes = map (λ (packet : PesUnit). packet.bytes) pes

  payloads-are : map (λ (c : CarriedPayload). c.payload) on_pid ≡ payloads_on pid list
  payloads-are = carried-are laws file list is.read pid is.counted

  leaves-each : All LeavesData on_pid
  leaves-each = of-map (λ (p : Payload). header_bytes p < length p.bytes) (λ (c : CarriedPayload). c.payload) on_pid (payloads_on pid list) payloads-are data_behind

  bytes-are : sent_bytes ≡ map (λ (packet : Gathered). packet.bytes) (gathered on_pid)
  bytes-are =
      ap (map (λ (packet : PesUnit). packet.bytes)) is.pes_are
      ∙ map-map (λ (packet : PesUnit). packet.bytes) (λ (packet : Gathered). record { at = packet.at; bytes = packet.bytes }) (gathered on_pid)

  fits : All (λ (bytes : List ℕ). header_length bytes < length bytes) sent_bytes
  fits = subst (All (λ (bytes : List ℕ). header_length bytes < length bytes)) (sym bytes-are) (fits-gathered on_pid leaves-each)

  pub taken-are : taken true pes ≡ pes
  taken-are = all-taken pes (of-map (λ (bytes : List ℕ). header_length bytes < length bytes) (λ (packet : PesUnit). packet.bytes) pes sent_bytes refl fits)

  -- the bytes of all payloads, with what comes before the first PES packet
  all-parts : flat_map parts_of_payload (payloads_on pid list) ≡ replicate (length (front (payloads_on pid list))) Data ++ plain_parts sent_bytes
  all-parts =
      ap (flat_map parts_of_payload) (sym payloads-are) ∙ flat_map-map parts_of_payload (λ (c : CarriedPayload). c.payload) on_pid
      ∙ parts-gathered on_pid leaves-each
      ∙ ap₂ (λ (f : List ℕ) (packets : List (List ℕ)). replicate (length f) Data ++ plain_parts packets) (front-is on_pid ∙ ap front payloads-are) (sym bytes-are)

  zipped : length (zip row.units choice) ≡ length row.units
  zipped =
      let sized = ap (length {A = ℕ}) is.sizes in
      let dued = ap (length {A = ℕ}) is.dues in
      omega (
        arith,
        sized,
        dued,
        is.many,
        length-map (zip row.units choice) (λ (one : CodedUnit × ℕ). (version_at one.0 one.1).bytes),
        length-map pes (λ (packet : PesUnit). length packet.bytes),
        length-map row.units (λ (unit : CodedUnit). unit.due),
      )

  sizes-are : chosen_sizes (zip row.units choice) ≡ map (λ (bytes : List ℕ). length bytes) sent_bytes
  sizes-are = is.sizes ∙ sym (map-map (λ (bytes : List ℕ). length bytes) (λ (packet : PesUnit). packet.bytes) pes)

  sent-many : length sent_bytes ≡ length times
  sent-many = length-map pes (λ (packet : PesUnit). packet.bytes) ∙ is.many

  -- when each byte is wanted, PES headers too
  wanted-are : wanted_with_headers (video_queue program row choice).packets ≡ spread (map (λ (bytes : List ℕ). length bytes) sent_bytes) times
  wanted-are = video-wanted 0 (zip row.units choice) ∙ ap₂ spread sizes-are (zip-dues row.units choice zipped ∙ is.dues)

  nothing-before : front (payloads_on pid list) ≡ []
  nothing-before = nil_from_length (front (payloads_on pid list))
      (let all = ap (length {A = PacketPart}) all-parts in
      let sum = length-append (replicate (length (front (payloads_on pid list))) Data) (plain_parts sent_bytes) in
      let queued = queue-many headers (payloads_on pid list) (video_queue program row choice).packets beside in
      let wanted = ap (length {A = ℕ}) wanted-are in
      omega (arith, all, sum, queued, wanted, spread-many sent_bytes times fits sent-many, length-replicate (length (front (payloads_on pid list))) Data))

  parts-are : flat_map parts_of_payload (payloads_on pid list) ≡ plain_parts sent_bytes
  parts-are = all-parts ∙ ap (λ (f : List ℕ). replicate (length f) Data ++ plain_parts sent_bytes) nothing-before

  -- what comes to its decoder
  pub arrivals-same : (to : ℕ) → sum_by (λ (packet : PesUnit). length (pes_payload_of packet)) pes ≤ to
      → arrivals_by (places_on file pid) (record { from = 0; to = to }) (taken true pes) ≡ arrivals_on pid list
  arrivals-same to within =
      let test : PacketRecord → Bool = λ (packet : PacketRecord). packet.pid == pid in
      ap₂ (λ (places : List Place) (packets : List PesUnit). arrivals_by places (record { from = 0; to = to }) packets) (places-are laws file list is.read pid is.counted) taken-are
      ∙ ap₂ (λ (n : ℕ) (parts : List PacketPart). brought_by_all (places_by (λ (packet : PacketRecord). packet.pid == pid) 0 list) (replicate n Overhead ++ parts))
      (before-is pid 0 list ∙ ap (length {A = ℕ}) nothing-before) (whole-parts to 0 pes (omega (arith, within)) ∙ sym parts-are ∙ sym (payload-parts pid list) ∙ sym (append-nil _))
      ∙ arrivals-are (λ (packet : PacketRecord). packet.pid == pid) 0 list []

  -- what is removed from it
  pub removals-allowed : (shown_at : ℕ) (kept_units : KeptUnits) → shown_at < 2576980377600 → AreOwnUnits shown_at kept_units.base kept_units.units pes times
      → IsAllowed (Video program row.vbv) headers (video_queue program row choice).packets (unit_removals shown_at kept_units)
  removals-allowed shown_at kept_units below are =
      let removals = removals-are shown_at kept_units.base kept_units.units pes times below are in
      let whole : All (λ (bytes : List ℕ). header_length bytes ≤ length bytes) sent_bytes = λ k d within. (let low = fits k d within in omega (arith, low)) in
      let payload-lengths : map (λ (bytes : List ℕ). length bytes - header_length bytes) sent_bytes ≡ payload_sizes pes =
      map-map (λ (bytes : List ℕ). length bytes - header_length bytes) (λ (packet : PesUnit). packet.bytes) pes ∙ sizes-less pes in
      let same : wanted_of_each (Video program row.vbv) headers (video_queue program row choice).packets ≡ removed (unit_removals shown_at kept_units) =
      sym (queue-kept program row.vbv headers (payloads_on pid list) (video_queue program row choice).packets beside)
      ∙ ap₂ (kept is_data) parts-are wanted-are ∙ packets-kept sent_bytes times whole sent-many ∙ ap (λ (counts : List ℕ). spread counts times) payload-lengths ∙ sym removals.0 in
      record {
        in_order = subst IsNonDecreasing (sym (removals.1 ∙ sym is.dues)) (rise-weakly (map (λ (unit : CodedUnit). unit.due) row.units) is.rise);
        wanted = zip-same _ _ same;
        gone = zip-same _ _ (sym same ∙ sym (video-gone program row.vbv headers 0 (zip row.units choice)));
      }
    where
      sizes-less : (packets : List PesUnit) → map (λ (packet : PesUnit). length packet.bytes - header_length packet.bytes) packets ≡ payload_sizes packets
      sizes-less [] = refl
      sizes-less (packet ∷ more) = ap₂ (λ (x : ℕ) (xs : List ℕ). x ∷ xs) (sym (length-drop (header_length packet.bytes) packet.bytes)) (sizes-less more)

  -- all of its bytes are kept
  pub bytes-kept : (shown_at : ℕ) (kept_units : KeptUnits) → shown_at < 2576980377600 → AreOwnUnits shown_at kept_units.base kept_units.units pes times
      → bytes_of_units kept_units ≡ sum_by (λ (packet : PesUnit). length (pes_payload_of packet)) pes
  bytes-kept shown_at kept_units below are = (removals-are shown_at kept_units.base kept_units.units pes times below are).2

-- what an audit takes of it
pub video-found : PacketLaws
    → (file : List ℕ) (list : List PacketRecord) (slot pid program base : ℕ) (row : ProgramRow) (choice : List ℕ) (pes : List PesUnit) (times : List ℕ) (kept_units : KeptUnits)
    (stream : AuditedStream) (found : Option Finding) → CarriesVideo file list pid row choice pes times → (is_clean : IsCleanOn slot pid (video_queue program row choice) list)
    → All (λ (p : Payload). header_bytes p < length p.bytes) (payloads_on pid list) → first_sequence (joined pes) ≡ Some 0 → base < 2576980377600
    → AreKeptOf base pes times row.vbv kept_units → IsVideoStream file base kept_units pid pes stream → FindsOn slot stream found → IsFullAtMost found
video-found laws file list slot pid program base row choice pes times kept_units stream found is is_clean data_behind first below kept_are audited finds =
    found-on slot stream
    (λ fault has.
    is_clean.clean (unit_removals base kept_units) fault
    (removals-allowed laws file list pid program row choice pes times is_clean.headers is is_clean.payloads data_behind base kept_units below kept_are.units)
    (subst (λ (arrivals : List Arrival). IsFault slot (VideoBuffers row.vbv) arrivals (unit_removals base kept_units) fault) arrivals
    (subst (λ (vbv : ℕ). IsFault slot (VideoBuffers vbv) (arrivals_by (places_on file pid) (record { from = audited.from; to = audited.from + bytes_of_units kept_units }) (taken true pes))
    (unit_removals base kept_units) fault)
    kept_are.buffer (subst (λ (s : AuditedStream). IsFault slot s.kind s.arrivals s.removals fault) audited.stream_is has))))
    found finds
  where
    from_zero : audited.from ≡ 0
    from_zero = same_Some audited.from 0
        (sym audited.sequence
        ∙ ap (λ (packets : List PesUnit). first_sequence (joined packets)) (taken-are laws file list pid program row choice pes times is_clean.headers is is_clean.payloads data_behind)
        ∙ first)

    arrivals : arrivals_by (places_on file pid) (record { from = audited.from; to = audited.from + bytes_of_units kept_units }) (taken true pes) ≡ arrivals_on pid list
    arrivals =
        ap (λ (n : ℕ). arrivals_by (places_on file pid) (record { from = n; to = n + bytes_of_units kept_units }) (taken true pes)) from_zero
        ∙ arrivals-same laws file list pid program row choice pes times is_clean.headers is is_clean.payloads data_behind (0 + bytes_of_units kept_units)
        (let all = bytes-kept laws file list pid program row choice pes times is_clean.headers is is_clean.payloads data_behind base kept_units below kept_are.units in omega (arith, all))
