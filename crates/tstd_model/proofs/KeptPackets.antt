-- What packets bring, packet by packet: how many bytes, and how late they are at most.
use Rattle.std.proofs.Common.{◌≡◌, ℕ, zero, suc, ◌+◌, ◌-◌, ◌*◌, ◌<◌, ◌≤◌, List, [], ◌∷◌, ◌++◌, length, drop, replicate, max, refl, sym, ◌∙◌, ap, subst, arith, inl, inr, Bool, true, false, min}
use Rattle.std.proofs.lemmas.Bool.{cases_Bool, cond-true, cond-false}
use Rattle.std.proofs.lemmas.List.{append_assoc, length-drop}
use Rattle.std.proofs.lemmas.Nat.{mul-le}
use Rattle.stream_constants.specs.declared.clock.TheConstants.{SUBTICKS_PER_TICK}
use Rattle.stream_constants.specs.declared.packets.TheConstants.{PACKET_BYTES}
use Rattle.tstd_model.specs.declared.passing.Wanted.{Wanted}
use Rattle.tstd_model.specs.declared.passing.Wanted.TheVariants.{Payload, DataAlone}
use Rattle.tstd_model.specs.Decoder.{Removal, removed}
use Rattle.tstd_model.specs.Instants.{spaced, departures}
use Rattle.tstd_model.specs.PacketBytes.{Arrival, HasHeaderWithin, PacketPart, Overhead, PesHeader, Data, parts_of, parts, byte_subticks, arrives_in, arrives, kept, with_headers}
use Rattle.tstd_model.specs.Private.Cursors.{is_wanted}
use Rattle.tstd_model.specs.Private.Keeps.{Keeps, EachAtLeast, wanted_count, tb_end}
use Rattle.tstd_model.specs.Private.Server.{EachAtMost, last_departure}
use Rattle.tstd_model.proofs.Bounds.{kept-most}
use Rattle.tstd_model.proofs.CursorLaws.{length-parts_of}
use Rattle.tstd_model.proofs.KeepLaws.{keeps-same, keeps-through, keeps-least, keeps-most, keeps-front, keeps-departures, keeps-kept, keeps-headers}
use Rattle.tstd_model.proofs.RisingLaws.{length-spaced}
use Rattle.tstd_model.proofs.Server.{departures-append, length-departures}

-- ---- bytes that are kept, of two lists one behind the other
kept-append : (test : PacketPart → Bool) (ps qs : List PacketPart) (xs ys : List ℕ) → length ps ≡ length xs → kept test (ps ++ qs) (xs ++ ys) ≡ kept test ps xs ++ kept test qs ys
unfolding kept
kept-append test [] qs [] ys is = refl
kept-append test [] qs (x ∷ xs) ys is = absurd (omega arith)
kept-append test (part ∷ ps) qs [] ys is = absurd (omega arith)
kept-append test (part ∷ ps) qs (x ∷ xs) ys is =
    let later = kept-append test ps qs xs ys (omega arith) in
    elim (cases_Bool (test part)) [
      | inl passes ↦
          cond-true (test part) (x ∷ kept test (ps ++ qs) (xs ++ ys)) (kept test (ps ++ qs) (xs ++ ys)) passes
          ∙ ap (λ (l : List ℕ). x ∷ l) later
          ∙ sym (ap (λ (l : List ℕ). l ++ kept test qs ys) (cond-true (test part) (x ∷ kept test ps xs) (kept test ps xs) passes))
      | inr fails ↦
          cond-false (test part) (x ∷ kept test (ps ++ qs) (xs ++ ys)) (kept test (ps ++ qs) (xs ++ ys)) fails
          ∙ later
          ∙ sym (ap (λ (l : List ℕ). l ++ kept test qs ys) (cond-false (test part) (x ∷ kept test ps xs) (kept test ps xs) fails))
    ]

-- ---- how many of a packet's bytes
kept-some : (test : PacketPart → Bool) (part : PacketPart) (n : ℕ) (qs : List PacketPart) (xs : List ℕ) → test part ≡ true → n ≤ length xs
    → length (kept test (replicate n part ++ qs) xs) ≡ n + length (kept test qs (drop n xs))
unfolding kept
kept-some test part zero qs xs passes le = omega arith
kept-some test part (suc n) qs [] passes le = absurd (omega arith)
kept-some test part (suc n) qs (x ∷ xs) passes le =
    let later = kept test (replicate n part ++ qs) xs in
    omega (arith, ap (λ (l : List ℕ). length l) (cond-true (test part) (x ∷ later) later passes), kept-some test part n qs xs passes (omega arith))

kept-none : (test : PacketPart → Bool) (part : PacketPart) (n : ℕ) (qs : List PacketPart) (xs : List ℕ) → test part ≡ false → n ≤ length xs
    → length (kept test (replicate n part ++ qs) xs) ≡ length (kept test qs (drop n xs))
unfolding kept
kept-none test part zero qs xs fails le = refl
kept-none test part (suc n) qs [] fails le = absurd (omega arith)
kept-none test part (suc n) qs (x ∷ xs) fails le =
    let later = kept test (replicate n part ++ qs) xs in
    omega (arith, ap (λ (l : List ℕ). length l) (cond-false (test part) (x ∷ later) later fails), kept-none test part n qs xs fails (omega arith))

kept-rest : (test : PacketPart → Bool) (n : ℕ) (xs : List ℕ) → test Data ≡ true → n ≤ length xs → length (kept test (replicate n Data) xs) ≡ n
unfolding kept
kept-rest test zero xs passes le = refl
kept-rest test (suc n) [] passes le = absurd (omega arith)
kept-rest test (suc n) (x ∷ xs) passes le =
    let later = kept test (replicate n Data) xs in
    omega (arith, ap (λ (l : List ℕ). length l) (cond-true (test Data) (x ∷ later) later passes), kept-rest test n xs passes (omega arith))

pub length-wanted : (wanted : Wanted) (packet : Arrival) (xs : List ℕ) → HasHeaderWithin packet → length xs ≡ PACKET_BYTES
    → length (kept (is_wanted wanted) (parts_of packet) xs) ≡ wanted_count wanted packet
unfolding parts_of
length-wanted Payload packet xs fits is =
    let o = PACKET_BYTES - packet.payload in
    let header = replicate packet.header PesHeader in
    let d = packet.payload - packet.header in
    let test = is_wanted Payload in
    omega (
      arith,
      ap (λ (l : List PacketPart). length (kept test l xs)) (append_assoc (replicate o Overhead) header (replicate d Data)),
      kept-none test Overhead o (header ++ replicate d Data) xs refl (omega (arith, fits.1)),
      length-drop o xs,
      kept-some test PesHeader packet.header (replicate d Data) (drop o xs) refl (omega (arith, length-drop o xs, fits.0, fits.1)),
      length-drop packet.header (drop o xs),
      kept-rest test d (drop packet.header (drop o xs)) refl (omega (arith, length-drop packet.header (drop o xs), length-drop o xs, fits.0, fits.1)),
      fits.0,
      fits.1,
    )
length-wanted DataAlone packet xs fits is =
    let o = PACKET_BYTES - packet.payload in
    let header = replicate packet.header PesHeader in
    let d = packet.payload - packet.header in
    let test = is_wanted DataAlone in
    omega (
      arith,
      ap (λ (l : List PacketPart). length (kept test l xs)) (append_assoc (replicate o Overhead) header (replicate d Data)),
      kept-none test Overhead o (header ++ replicate d Data) xs refl (omega (arith, fits.1)),
      length-drop o xs,
      kept-none test PesHeader packet.header (replicate d Data) (drop o xs) refl (omega (arith, length-drop o xs, fits.0, fits.1)),
      length-drop packet.header (drop o xs),
      kept-rest test d (drop packet.header (drop o xs)) refl (omega (arith, length-drop packet.header (drop o xs), length-drop o xs, fits.0, fits.1)),
      fits.0,
      fits.1,
    )

-- ---- a packet in TB
spaced-leave : (s l step e top a n : ℕ) → step ≤ e + s → l + s * n ≤ top → a + e * n + s * n ≤ top + e → EachAtMost top (departures s l (spaced a step n))
unfolding departures spaced
spaced-leave s l step e top a zero apart free last = tt
spaced-leave s l step e top a (suc n) apart free last = (
  omega arith,
  spaced-leave s (max a l + s) step e top (a + step) n apart (omega arith) (omega arith),
)

spaced-last : (s l step e top a n : ℕ) → step ≤ e + s → l + s * n ≤ top → a + e * n + s * n ≤ top + e → last_departure s l (spaced a step n) ≤ top
unfolding last_departure spaced
spaced-last s l step e top a zero apart free last = omega arith
spaced-last s l step e top a (suc n) apart free last = spaced-last s (max a l + s) step e top (a + step) n apart (omega arith) (omega arith)

spaced-kept : (s l step t delay a n : ℕ) → t ≤ s → t ≤ step → s * n ≤ delay → l + s * n + t ≤ a + t * n + delay
    → Keeps 0 delay (spaced a step n) (departures s l (spaced a step n))
unfolding departures spaced
spaced-kept s l step t delay a zero le le' few free = tt
spaced-kept s l step t delay a (suc n) le le' few free = (
  omega (arith, mul-le t n s n le (omega arith)),
  spaced-kept s (max a l + s) step t delay (a + step) n le le' (omega arith) (omega arith),
)

spaced-least : (a step n least : ℕ) → least ≤ a → EachAtLeast least (spaced a step n)
unfolding spaced
spaced-least a step zero least le = tt
spaced-least a step (suc n) least le = (le, spaced-least (a + step) step n least (omega arith))

kept-least : (least : ℕ) (test : PacketPart → Bool) (ps : List PacketPart) (xs : List ℕ) → EachAtLeast least xs → EachAtLeast least (kept test ps xs)
unfolding kept
kept-least least test [] xs each = tt
kept-least least test (part ∷ ps) [] each = tt
kept-least least test (part ∷ ps) (x ∷ xs) each =
    let later = kept test ps xs in
    elim (cases_Bool (test part)) [
      | inl passes ↦ rw (cond-true (test part) (x ∷ later) later passes) ((each.0, kept-least least test ps xs each.1))
      | inr fails ↦ rw (cond-false (test part) (x ∷ later) later fails) (kept-least least test ps xs each.1)
    ]

-- ---- the first packet, and those behind it
arrives-first : (slot : ℕ) (packet : Arrival) (later : List Arrival)
    → arrives slot (packet ∷ later) ≡ spaced (PACKET_BYTES * packet.slot_no * byte_subticks slot) (byte_subticks slot) PACKET_BYTES ++ arrives slot later
unfolding arrives arrives_in
arrives-first slot packet later = refl

parts-first : (packet : Arrival) (later : List Arrival) → parts (packet ∷ later) ≡ parts_of packet ++ parts later
unfolding parts
parts-first packet later = refl

kept-first : (wanted : Wanted) (packet : Arrival) (later : List Arrival) (xs ys : List ℕ) → HasHeaderWithin packet → length xs ≡ PACKET_BYTES
    → kept (is_wanted wanted) (parts (packet ∷ later)) (xs ++ ys) ≡ kept (is_wanted wanted) (parts_of packet) xs ++ kept (is_wanted wanted) (parts later) ys
kept-first wanted packet later xs ys fits is =
    ap (λ (l : List PacketPart). kept (is_wanted wanted) l (xs ++ ys)) (parts-first packet later)
    ∙ kept-append (is_wanted wanted) (parts_of packet) (parts later) xs ys (length-parts_of packet fits ∙ sym is)

-- when the wanted bytes of packets leave TB
abbrev pub passing : (s slot before : ℕ) → Wanted → List Arrival → List ℕ
passing s slot before wanted packets = kept (is_wanted wanted) (parts packets) (departures s before (arrives slot packets))

module _ (s slot before : ℕ) (packet : Arrival) (later : List Arrival) where
  abbrev first : ℕ
  first = PACKET_BYTES * packet.slot_no * byte_subticks slot

  abbrev chunk : List ℕ
  chunk = spaced first (byte_subticks slot) PACKET_BYTES

  leaving : departures s before (arrives slot (packet ∷ later)) ≡ departures s before chunk ++ departures s (last_departure s before chunk) (arrives slot later)
  leaving = ap (λ (l : List ℕ). departures s before l) (arrives-first slot packet later) ∙ departures-append s before chunk (arrives slot later)

  length-leaving : length (departures s before chunk) ≡ PACKET_BYTES
  length-leaving = length-departures s before chunk ∙ length-spaced first (byte_subticks slot) PACKET_BYTES

  module _ (at : ℕ) (at_is : at ≡ tb_end s (byte_subticks slot) before first) where
    leave_by : EachAtMost at (departures s before chunk)
    leave_by = spaced-leave s before (byte_subticks slot) (byte_subticks slot - s) at first PACKET_BYTES (omega arith) (omega arith) (omega arith)

    last_by : last_departure s before chunk ≤ at
    last_by = spaced-last s before (byte_subticks slot) (byte_subticks slot - s) at first PACKET_BYTES (omega arith) (omega arith) (omega arith)

    later_by : Keeps 0 0 (departures s at (arrives slot later)) (departures s (last_departure s before chunk) (arrives slot later))
    later_by = keeps-departures s (last_departure s before chunk) at (arrives slot later) (arrives slot later) last_by (keeps-same (arrives slot later))

    -- the run of a packet's wanted bytes
    pub passing-first : HasHeaderWithin packet → (wanted : Wanted) (count : ℕ) → count ≡ wanted_count wanted packet
        → Keeps 0 0 (replicate count at ++ passing s slot at wanted later) (passing s slot before wanted (packet ∷ later))
    passing-first fits wanted count count_is =
        let test = is_wanted wanted in
        let rest = departures s (last_departure s before chunk) (arrives slot later) in
        let same : passing s slot before wanted (packet ∷ later) ≡ kept test (parts_of packet) (departures s before chunk) ++ kept test (parts later) rest =
        ap (λ (l : List ℕ). kept test (parts (packet ∷ later)) l) leaving
        ∙ kept-first wanted packet later (departures s before chunk) rest fits length-leaving
        in
        subst (λ l. Keeps 0 0 (replicate count at ++ passing s slot at wanted later) l) (sym same)
        (keeps-most at count (kept test (parts_of packet) (departures s before chunk)) (passing s slot at wanted later) (kept test (parts later) rest)
        (length-wanted wanted packet (departures s before chunk) fits length-leaving ∙ sym count_is)
        (kept-most at test (parts_of packet) (departures s before chunk) leave_by)
        (keeps-kept test (parts later) (departures s at (arrives slot later)) rest
        (length-departures s at (arrives slot later) ∙ sym (length-departures s (last_departure s before chunk) (arrives slot later))) later_by))

    -- a packet that keeps TB within its size
    pub tb-first : (delay : ℕ) → s * PACKET_BYTES ≤ delay → before + s * PACKET_BYTES + min (byte_subticks slot) s ≤ first + min (byte_subticks slot) s * PACKET_BYTES + delay
        → Keeps 0 delay (arrives slot later) (departures s at (arrives slot later)) → Keeps 0 delay (arrives slot (packet ∷ later)) (departures s before (arrives slot (packet ∷ later)))
    tb-first delay few free rest =
        subst (λ l. Keeps 0 delay (arrives slot (packet ∷ later)) l) (sym leaving)
        (subst (λ l. Keeps 0 delay l (departures s before chunk ++ departures s (last_departure s before chunk) (arrives slot later))) (sym (arrives-first slot packet later))
        (keeps-front 0 delay chunk (departures s before chunk) (arrives slot later) (departures s (last_departure s before chunk) (arrives slot later))
        (length-departures s before chunk)
        (spaced-kept s before (byte_subticks slot) (min (byte_subticks slot) s) delay first PACKET_BYTES (omega arith) (omega arith) few free)
        (keeps-through 0 delay (arrives slot later) (departures s at (arrives slot later)) (departures s (last_departure s before chunk) (arrives slot later)) rest later_by)))

  -- a packet's wanted bytes, by the instant of the first of its bytes
  pub arrives-kept : HasHeaderWithin packet → (wanted : Wanted) (limit most count : ℕ) (lows : List ℕ) → count ≡ wanted_count wanted packet → most ≤ first + limit
      → Keeps 0 limit (kept (is_wanted wanted) (parts later) (arrives slot later)) lows
      → Keeps 0 limit (kept (is_wanted wanted) (parts (packet ∷ later)) (arrives slot (packet ∷ later))) (replicate count most ++ lows)
  arrives-kept fits wanted limit most count lows count_is le rest =
      let test = is_wanted wanted in
      let same : kept test (parts (packet ∷ later)) (arrives slot (packet ∷ later)) ≡ kept test (parts_of packet) chunk ++ kept test (parts later) (arrives slot later) =
      ap (λ (l : List ℕ). kept test (parts (packet ∷ later)) l) (arrives-first slot packet later)
      ∙ kept-first wanted packet later chunk (arrives slot later) fits (length-spaced first (byte_subticks slot) PACKET_BYTES)
      in
      subst (λ l. Keeps 0 limit l (replicate count most ++ lows)) (sym same)
      (keeps-least 0 limit first most count (kept test (parts_of packet) chunk) (kept test (parts later) (arrives slot later)) lows
      (length-wanted wanted packet chunk fits (length-spaced first (byte_subticks slot) PACKET_BYTES) ∙ sym count_is)
      (kept-least first test (parts_of packet) chunk (spaced-least first (byte_subticks slot) PACKET_BYTES first (omega arith)))
      (omega arith)
      rest)

-- ---- PES headers vanish with the data behind them
headers-overhead : (n : ℕ) (ps : List PacketPart) (moves : List ℕ) → with_headers (replicate n Overhead ++ ps) moves ≡ with_headers ps moves
unfolding with_headers
headers-overhead zero ps moves = refl
headers-overhead (suc n) ps moves = headers-overhead n ps moves

headers-vanish : (n : ℕ) (ps : List PacketPart) (at : ℕ) (moves : List ℕ) → with_headers (replicate n PesHeader ++ ps) (at ∷ moves) ≡ replicate n at ++ with_headers ps (at ∷ moves)
unfolding with_headers
headers-vanish zero ps at moves = refl
headers-vanish (suc n) ps at moves = ap (λ (l : List ℕ). at ∷ l) (headers-vanish n ps at moves)

headers-data : (n : ℕ) (ps : List PacketPart) (at : ℕ) (moves : List ℕ) → with_headers (replicate n Data ++ ps) (replicate n at ++ moves) ≡ replicate n at ++ with_headers ps moves
unfolding with_headers
headers-data zero ps at moves = refl
headers-data (suc n) ps at moves = ap (λ (l : List ℕ). at ∷ l) (headers-data n ps at moves)

replicate-both : (n k total at : ℕ) (xs : List ℕ) → total ≡ k + n → replicate n at ++ (replicate k at ++ xs) ≡ replicate total at ++ xs
replicate-both zero k total at xs is = let same : k ≡ total = omega arith in ap (λ c. replicate c at ++ xs) same
replicate-both (suc n) k zero at xs is = absurd (omega arith)
replicate-both (suc n) k (suc total) at xs is = ap (λ (l : List ℕ). at ∷ l) (replicate-both n k total at xs (omega arith))

headers-is : (o h d : ℕ) (qs : List PacketPart) → ((replicate o Overhead ++ replicate h PesHeader) ++ replicate d Data) ++ qs
    ≡ replicate o Overhead ++ (replicate h PesHeader ++ (replicate d Data ++ qs))
headers-is o h d qs =
    append_assoc (replicate o Overhead ++ replicate h PesHeader) (replicate d Data) qs
    ∙ append_assoc (replicate o Overhead) (replicate h PesHeader) (replicate d Data ++ qs)

headers-first : (h d total at : ℕ) (qs : List PacketPart) (moves : List ℕ) → total ≡ d + h → 0 < d
    → with_headers (replicate h PesHeader ++ (replicate d Data ++ qs)) (replicate d at ++ moves) ≡ replicate total at ++ with_headers qs moves
headers-first h zero total at qs moves is some = absurd (omega arith)
headers-first h (suc d) total at qs moves is some =
    headers-vanish h (replicate (suc d) Data ++ qs) at (replicate d at ++ moves)
    ∙ ap (λ (l : List ℕ). replicate h at ++ l) (headers-data (suc d) qs at moves)
    ∙ replicate-both h (suc d) total at (with_headers qs moves) is

-- a packet with data
pub with_headers-first : (packet : Arrival) (later : List Arrival) (total at : ℕ) (before after : List ℕ) → total ≡ wanted_count DataAlone packet + packet.header → 0 < wanted_count DataAlone packet
    → Keeps 0 0 (replicate (wanted_count DataAlone packet) at ++ after) before
    → Keeps 0 0 (replicate total at ++ with_headers (parts later) after) (with_headers (parts (packet ∷ later)) before)
unfolding parts_of
with_headers-first packet later total at before after is some keeps =
    let o = PACKET_BYTES - packet.payload in
    let d = packet.payload - packet.header in
    let h = packet.header in
    let qs = parts later in
    let same : with_headers (parts (packet ∷ later)) (replicate d at ++ after) ≡ replicate total at ++ with_headers qs after =
    ap (λ (l : List PacketPart). with_headers l (replicate d at ++ after)) (parts-first packet later ∙ headers-is o h d qs)
    ∙ headers-overhead o (replicate h PesHeader ++ (replicate d Data ++ qs)) (replicate d at ++ after)
    ∙ headers-first h d total at qs after is some
    in
    subst (λ l. Keeps 0 0 l (with_headers (parts (packet ∷ later)) before)) same (keeps-headers (parts (packet ∷ later)) (replicate d at ++ after) before keeps)

-- a packet without payload
pub with_headers-none : (packet : Arrival) (later : List Arrival) (moves : List ℕ) → wanted_count DataAlone packet ≤ 0 → packet.header ≤ 0
    → with_headers (parts (packet ∷ later)) moves ≡ with_headers (parts later) moves
unfolding parts_of
with_headers-none packet later moves no_data no_header =
    let o = PACKET_BYTES - packet.payload in
    let d = packet.payload - packet.header in
    let none : packet.payload - packet.header ≡ 0 = omega arith in
    let none' : packet.header ≡ 0 = omega arith in
    ap (λ (l : List PacketPart). with_headers l moves) (parts-first packet later ∙ headers-is o packet.header d (parts later))
    ∙ headers-overhead o (replicate packet.header PesHeader ++ (replicate d Data ++ parts later)) moves
    ∙ ap (λ n. with_headers (replicate n PesHeader ++ (replicate d Data ++ parts later)) moves) none'
    ∙ ap (λ n. with_headers (replicate n Data ++ parts later) moves) none

-- ---- removals
pub removed-nil : removed [] ≡ []
unfolding removed
removed-nil = refl

pub removed-first : (removal : Removal) (later : List Removal) → removed (removal ∷ later) ≡ replicate removal.bytes (SUBTICKS_PER_TICK * removal.due) ++ removed later
unfolding removed
removed-first removal later = refl

pub removed-none : (removal : Removal) (later : List Removal) → removal.bytes ≤ 0 → removed (removal ∷ later) ≡ removed later
removed-none removal later none =
    let is : removal.bytes ≡ 0 = omega (arith, none) in
    removed-first removal later ∙ ap (λ n. replicate n (SUBTICKS_PER_TICK * removal.due) ++ removed later) is

-- room in TB before a packet
pub tb-free : (before f m s : ℕ) → before ≤ f + 187 * m + 324 * s → before + s * 188 + m ≤ f + m * 188 + s * 512
tb-free before f m s le = omega (arith, le)
