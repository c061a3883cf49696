-- The PIDs of tables and streams are all different.
use Rattle.std.proofs.Common.{
  ◌≡◌,
  ◌≢◌,
  ℕ,
  zero,
  suc,
  ◌+◌,
  ◌*◌,
  ◌<◌,
  ◌≤◌,
  ◌==◌,
  Bool,
  true,
  false,
  cond,
  List,
  [],
  ◌∷◌,
  ◌++◌,
  All,
  length,
  get_or,
  map,
  filter,
  replicate,
  Some,
  refl,
  sym,
  ap,
  ap₂,
  ◌∙◌,
  subst,
  arith,
  inl,
  inr,
}
use Rattle.std.specs.Prelude.{slice_get, slice_index_or}
use Rattle.std.specs.List.{flat_map, range_with_len}
use Rattle.std.proofs.lemmas.Bool.{cases_lt, eqb-true, eq-eqb, ne_eqb}
use Rattle.std.proofs.lemmas.List.{get_or-map}
use Rattle.std.proofs.lemmas.List.Elements.{All-from_get_or, All-get_or, All-head, All-same, All-tail}
use Rattle.std.proofs.lemmas.List.FromFn.{get_or-range_with_len, length-range_with_len}
use Rattle.std.proofs.lemmas.List.Sums.{length-filter}
use Rattle.std.proofs.lemmas.Option.{get_or_from_slice_get, slice_get-get_or, slice_get_within}
use Rattle.bit_lists.specs.Payload.{Payload}
use Rattle.psi_tables.specs.declared.program_map.ProgramMap.{ProgramMap}
use Rattle.psi_tables.specs.Sections.{section_payload}
use Rattle.psi_tables.specs.Pmt.{pids_of}
use Rattle.version_table.proofs.ValidUnits.{All-flat_map}
use Rattle.slot_rule.specs.declared.sent.Sent.{Sent}
use Rattle.slot_rule.specs.declared.sent.Sent.TheVariants.{Null, Pat, Pmt, Pcr, Video, Audio}
use Rattle.slot_rule.specs.SlotList.{is_sent_of}
use Rattle.mux_writer.specs.declared.layout.Layout.{Layout}
use Rattle.mux_writer.specs.Layout.{IsLayout, IsOutputMap, map_pid, stream_pid, stream_pids, video_pid}
use Rattle.mux_writer.specs.Output.{IsOfLayout, payload_count}
use Rattle.mux_writer.specs.Pieces.{IsPayload, Pieces}
use Rattle.mux_writer.specs.Tables.{pat_payload, pmt_payloads, pmt_section}
use Rattle.output_laws.specs.SentOn.{AreRowsOf, is_sent_on, payload_sent, payloads_sent_on}
use Rattle.mux_writer.proofs.Pids.{no_map}

-- ---- PIDs of streams

-- the PID of one of the nine streams of one of the eight programs
record IsStreamPid (pid : ℕ) : Type 0 where
  pub program : ℕ
  pub place : ℕ
  pub is : pid ≡ 257 + 16 * program + place
  pub programs : program < 8
  pub places : place < 9

pids-in-map : (program : ℕ) (program_map : ProgramMap) → program < 8 → IsOutputMap program program_map → All IsStreamPid (pids_of program_map)
pids-in-map program program_map low is =
    let n : ℕ = length program_map.streams.items in
    All-same IsStreamPid (pids_of program_map) (range_with_len (video_pid program) n) is.pids
    (All-from_get_or IsStreamPid (range_with_len (video_pid program) n) 0
    (λ i within.
    let inside : i < n = omega (arith, within, length-range_with_len (video_pid program) n) in
    record { program = program; place = i; is = omega (arith, get_or-range_with_len (video_pid program) n i 0 inside); programs = low; places = omega (arith, inside, is.few) }))

stream-pid : (layout : Layout) (stream : ℕ) → IsLayout layout → length layout.maps.items ≤ 8 → stream < length (stream_pids layout) → IsStreamPid (stream_pid layout stream)
stream-pid layout stream is few within =
    All-get_or IsStreamPid (stream_pids layout) stream 0 within
    (All-flat_map IsStreamPid pids_of layout.maps.items
    (All-from_get_or (λ (m : ProgramMap). All IsStreamPid (pids_of m)) layout.maps.items no_map
    (λ program inside. pids-in-map program (get_or layout.maps.items program no_map) (omega (arith, inside, few))
    (is.maps program (get_or layout.maps.items program no_map) (slice_get-get_or layout.maps.items program no_map inside)))))

-- ---- one greater than the other

-- numbers that rise, the first of them at least this one
abbrev Climb : ℕ → List ℕ → Type 0
Climb low [] = Unit {0}
Climb low (x ∷ xs) = (low ≤ x) × Climb (x + 1) xs

climb-lower : (low high : ℕ) (xs : List ℕ) → low ≤ high → Climb high xs → Climb low xs
climb-lower low high [] le climb = tt
climb-lower low high (x ∷ xs) le climb = (omega (arith, le, climb.0), climb.1)

climb-range : (n first low : ℕ) (rest : List ℕ) → low ≤ first → Climb (first + n) rest → Climb low (range_with_len first n ++ rest)
climb-range zero first low rest le climb = climb-lower low (first + 0) rest (omega arith) climb
climb-range (suc n) first low rest le climb = (le, climb-range n (first + 1) (first + 1) rest (omega arith) (subst (λ (k : ℕ). Climb k rest) (omega arith) climb))

climb-all : (program : ℕ) (maps : List ProgramMap) → ((k : ℕ) (m : ProgramMap) → slice_get maps k ≡ Some m → IsOutputMap (program + k) m) → Climb (video_pid program) (flat_map pids_of maps)
climb-all program [] each = tt
climb-all program (program_map ∷ maps) each =
    let same : program + 0 ≡ program = omega arith in
    let is : IsOutputMap program program_map = subst (λ (k : ℕ). IsOutputMap k program_map) same (each 0 program_map refl) in
    let others = climb-all (program + 1) maps (λ k m found. subst (λ (n : ℕ). IsOutputMap n m) (let e : program + suc k ≡ program + 1 + k = omega arith in e) (each (suc k) m found)) in
    subst (λ (pids : List ℕ). Climb (video_pid program) (pids ++ flat_map pids_of maps)) (sym is.pids)
    (climb-range (length program_map.streams.items) (video_pid program) (video_pid program) (flat_map pids_of maps) (omega arith)
    (climb-lower (video_pid program + length program_map.streams.items) (video_pid (program + 1)) (flat_map pids_of maps) (omega (arith, is.few)) others))

climb-least : (low : ℕ) (xs : List ℕ) (i : ℕ) → Climb low xs → i < length xs → low ≤ get_or xs i 0
climb-least low [] i climb within = absurd (omega arith)
climb-least low (x ∷ xs) zero climb within = climb.0
climb-least low (x ∷ xs) (suc i) climb within = omega (arith, climb.0, climb-least (x + 1) xs i climb.1 (omega arith))

climb-rises : (low : ℕ) (xs : List ℕ) (i j : ℕ) → Climb low xs → i < j → j < length xs → get_or xs i 0 < get_or xs j 0
climb-rises low [] i j climb lt within = absurd (omega arith)
climb-rises low (x ∷ xs) i zero climb lt within = absurd (omega arith)
climb-rises low (x ∷ xs) zero (suc j) climb lt within = omega (arith, climb-least (x + 1) xs j climb.1 (omega arith))
climb-rises low (x ∷ xs) (suc i) (suc j) climb lt within = climb-rises (x + 1) xs i j climb.1 (omega arith) (omega arith)

-- two streams of one PID are the same stream
one_stream : (layout : Layout) (a b : ℕ) → IsLayout layout → a < length (stream_pids layout) → b < length (stream_pids layout) → stream_pid layout a ≡ stream_pid layout b → a ≡ b
one_stream layout a b is a_within b_within same =
    let climb = climb-all 0 layout.maps.items (λ k m found. subst (λ (n : ℕ). IsOutputMap n m) (let e : k ≡ 0 + k = omega arith in e) (is.maps k m found)) in
    elim (cases_lt a b) [
      | inl less ↦ absurd (omega (arith, same, climb-rises (video_pid 0) (stream_pids layout) a b climb less b_within))
      | inr more ↦ elim (cases_lt b a) [
        | inl greater ↦ absurd (omega (arith, same, climb-rises (video_pid 0) (stream_pids layout) b a climb greater a_within))
        | inr equal ↦ omega arith
      ]
    ]

-- ---- what goes on a PID

same_test : (a b c d : ℕ) → (a ≡ b → c ≡ d) → (c ≡ d → a ≡ b) → (a == b) ≡ (c == d)
same_test a b c d to from = by_test (c == d) refl
  where
    by_test : (same : Bool) → (c == d) ≡ same → (a == b) ≡ (c == d)
    by_test true is = eq-eqb a b (from (eqb-true c d is)) ∙ sym is
    by_test false is = ne_eqb a b (λ same. absurd (let yes : (c == d) ≡ true = eq-eqb c d (to same) in let both : true ≡ false = sym yes ∙ is in cc)) ∙ sym is

module _ (layout : Layout) (pieces : Pieces) (is : IsLayout layout) (few : length layout.maps.items ≤ 8) where
  -- on a stream's PID its own packets go
  own_stream : (stream : ℕ) → stream < length (stream_pids layout) → (sent : Sent) → IsOfLayout layout (IsPayload pieces) sent
      → is_sent_on layout (stream_pid layout stream) sent ≡ is_sent_of stream sent
  own_stream stream within Null of = let pid = stream-pid layout stream is few within in ne_eqb 0x1FFF (stream_pid layout stream) (λ same. omega (arith, same, pid.is, pid.programs, pid.places))
  own_stream stream within Pat of = let pid = stream-pid layout stream is few within in ne_eqb 0 (stream_pid layout stream) (λ same. omega (arith, same, pid.is))
  own_stream stream within (Pmt program) of =
      let pid = stream-pid layout stream is few within in
      ne_eqb (map_pid program) (stream_pid layout stream) (λ same. omega (arith, same, pid.is, pid.places))
  own_stream stream within (Pcr program) of = refl
  own_stream stream within (Video other unit piece) of =
      same_test (stream_pid layout other) (stream_pid layout stream) other stream (λ same. one_stream layout other stream is of.0 within same) (λ same. ap (stream_pid layout) same)
  own_stream stream within (Audio other packet) of =
      same_test (stream_pid layout other) (stream_pid layout stream) other stream (λ same. one_stream layout other stream is of.0 within same) (λ same. ap (stream_pid layout) same)

  own_streams : (stream : ℕ) → stream < length (stream_pids layout) → (rows : List Sent) → All (IsOfLayout layout (IsPayload pieces)) rows
      → filter (is_sent_on layout (stream_pid layout stream)) rows ≡ filter (is_sent_of stream) rows
  own_streams stream within [] each = refl
  own_streams stream within (sent ∷ rows) each =
      ap₂ (λ (on : Bool) (rest : List Sent). cond on (sent ∷ rest) rest) (own_stream stream within sent (All-head (IsOfLayout layout (IsPayload pieces)) sent rows each))
      (own_streams stream within rows (All-tail (IsOfLayout layout (IsPayload pieces)) sent rows each))

  -- on PID 0 the PAT goes alone
  pat_alone : (sent : Sent) → IsOfLayout layout (IsPayload pieces) sent → is_sent_on layout 0 sent ≡ true → payload_sent layout pieces sent ≡ record { start = true; bytes = pat_payload layout }
  pat_alone Null of on = absurd (omega (arith, eqb-true 0x1FFF 0 on))
  pat_alone Pat of on = refl
  pat_alone (Pmt program) of on = absurd (omega (arith, eqb-true (map_pid program) 0 on))
  pat_alone (Pcr program) of on = absurd cc
  pat_alone (Video stream unit piece) of on = absurd (omega (arith, (stream-pid layout stream is few of.0).is, eqb-true (stream_pid layout stream) 0 on))
  pat_alone (Audio stream packet) of on = absurd (omega (arith, (stream-pid layout stream is few of.0).is, eqb-true (stream_pid layout stream) 0 on))

  -- on the PID of a map that map goes alone
  pmt_alone : (program : ℕ) (program_map : ProgramMap) → slice_get layout.maps.items program ≡ Some program_map → (sent : Sent) → IsOfLayout layout (IsPayload pieces) sent
      → is_sent_on layout (map_pid program) sent ≡ true → payload_sent layout pieces sent ≡ record { start = true; bytes = section_payload (pmt_section program_map) }
  pmt_alone program program_map found Null of on = absurd (omega (arith, eqb-true 0x1FFF (map_pid program) on, slice_get_within layout.maps.items program program_map found))
  pmt_alone program program_map found Pat of on = absurd (omega (arith, eqb-true 0 (map_pid program) on))
  pmt_alone program program_map found (Pmt other) of on =
      let same : other ≡ program = omega (arith, eqb-true (map_pid other) (map_pid program) on) in
      let within : program < length layout.maps.items = slice_get_within layout.maps.items program program_map found in
      ap (λ (bytes : List ℕ). record { start = true; bytes = bytes })
      (ap (λ (k : ℕ). slice_index_or (pmt_payloads layout) k []) same
      ∙ get_or-map (λ (m : ProgramMap). section_payload (pmt_section m)) layout.maps.items program no_map [] within
      ∙ ap (λ (m : ProgramMap). section_payload (pmt_section m)) (get_or_from_slice_get layout.maps.items program program_map no_map found))
  pmt_alone program program_map found (Pcr other) of on = absurd cc
  pmt_alone program program_map found (Video stream unit piece) of on =
      let pid = stream-pid layout stream is few of.0 in absurd (omega (arith, pid.is, pid.places, eqb-true (stream_pid layout stream) (map_pid program) on))
  pmt_alone program program_map found (Audio stream packet) of on =
      let pid = stream-pid layout stream is few of.0 in absurd (omega (arith, pid.is, pid.places, eqb-true (stream_pid layout stream) (map_pid program) on))

  -- one payload, as often as it is sent
  often : (pid : ℕ) (payload : Payload) (rows : List Sent) → All (IsOfLayout layout (IsPayload pieces)) rows
      → ((sent : Sent) → IsOfLayout layout (IsPayload pieces) sent → is_sent_on layout pid sent ≡ true → payload_sent layout pieces sent ≡ payload)
      → payloads_sent_on layout pieces pid rows ≡ replicate (payload_count layout pid rows) payload
  often pid payload rows each alone = all rows each ∙ ap (λ (n : ℕ). replicate n payload) (length-filter (is_sent_on layout pid) rows)
    where
      all : (rows : List Sent) → All (IsOfLayout layout (IsPayload pieces)) rows → payloads_sent_on layout pieces pid rows ≡ replicate (length (filter (is_sent_on layout pid) rows)) payload
      all [] each = refl
      all (sent ∷ rows) each =
          by_test (is_sent_on layout pid sent) refl (all rows (All-tail (IsOfLayout layout (IsPayload pieces)) sent rows each))
        where
          by_test : (on : Bool) → is_sent_on layout pid sent ≡ on → payloads_sent_on layout pieces pid rows ≡ replicate (length (filter (is_sent_on layout pid) rows)) payload
              → map (payload_sent layout pieces) (cond on (sent ∷ filter (is_sent_on layout pid) rows) (filter (is_sent_on layout pid) rows))
              ≡ replicate (length (cond on (sent ∷ filter (is_sent_on layout pid) rows) (filter (is_sent_on layout pid) rows))) payload
          by_test true on again = ap₂ (λ (first : Payload) (rest : List Payload). first ∷ rest) (alone sent (All-head (IsOfLayout layout (IsPayload pieces)) sent rows each) on) again
          by_test false on again = again

pub streams-own : (layout : Layout) (pieces : Pieces) (rows : List Sent) (stream : ℕ) → AreRowsOf layout pieces rows → stream < length (stream_pids layout)
    → payloads_sent_on layout pieces (stream_pid layout stream) rows ≡ map (payload_sent layout pieces) (filter (is_sent_of stream) rows)
streams-own layout pieces rows stream are within = ap (map (payload_sent layout pieces)) (own_streams layout pieces are.is_layout are.few stream within rows are.each)

pub pats-sent : (layout : Layout) (pieces : Pieces) (rows : List Sent) → IsLayout layout → length layout.maps.items ≤ 8 → All (IsOfLayout layout (IsPayload pieces)) rows
    → payloads_sent_on layout pieces 0 rows ≡ replicate (payload_count layout 0 rows) (record { start = true; bytes = pat_payload layout })
pats-sent layout pieces rows is few each = often layout pieces is few 0 (record { start = true; bytes = pat_payload layout }) rows each (pat_alone layout pieces is few)

pub pmts-sent : (layout : Layout) (pieces : Pieces) (rows : List Sent) (program : ℕ) (program_map : ProgramMap) → IsLayout layout → length layout.maps.items ≤ 8
    → All (IsOfLayout layout (IsPayload pieces)) rows → slice_get layout.maps.items program ≡ Some program_map
    → payloads_sent_on layout pieces (map_pid program) rows ≡ replicate (payload_count layout (map_pid program) rows) (record { start = true; bytes = section_payload (pmt_section program_map) })
pmts-sent layout pieces rows program program_map is few each found =
    often layout pieces is few (map_pid program) (record { start = true; bytes = section_payload (pmt_section program_map) }) rows each (pmt_alone layout pieces is few program program_map found)

pub stream-not-null : (layout : Layout) (stream : ℕ) → IsLayout layout → length layout.maps.items ≤ 8 → stream < length (stream_pids layout) → stream_pid layout stream ≢ 0x1FFF
stream-not-null layout stream is few within same = let pid = stream-pid layout stream is few within in omega (arith, same, pid.is, pid.programs, pid.places)
