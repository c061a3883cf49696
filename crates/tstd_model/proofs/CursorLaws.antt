-- What the cursors give, in the words of the decoder's definitions.
use Rattle.std.proofs.Common.{◌≡◌, ℕ, zero, suc, ◌+◌, ◌-◌, ◌*◌, List, [], ◌∷◌, ◌++◌, length, replicate, map, filter, max, refl, sym, ◌∙◌, ap, arith, inl, inr, Bool, All, length-append}
use Rattle.std.proofs.lemmas.List.{map-append, length-replicate}
use Rattle.std.proofs.lemmas.List.Elements.{All-head, All-tail}
use Rattle.std.proofs.lemmas.Bool.{cases_Bool, cond-true, cond-false}
use Rattle.stream_constants.specs.declared.clock.TheConstants.{SUBTICKS_PER_TICK}
use Rattle.stream_constants.specs.declared.packets.TheConstants.{PACKET_BYTES}
use Rattle.tstd_model.specs.declared.packet_bytes.PacketByte.{PacketByte}
use Rattle.tstd_model.specs.Instants.{spaced, departures}
use Rattle.tstd_model.specs.PacketBytes.{Arrival, HasHeaderWithin, PacketPart, Overhead, PesHeader, Data, parts_of, parts, byte_subticks, arrives_in, arrives, kept}
use Rattle.tstd_model.specs.Decoder.{Removal, removed}
use Rattle.tstd_model.specs.Private.Cursors.{bytes_at, bytes_of, bytes_of_all, passed, instants_of, parts_in, bytes_with}
use Rattle.tstd_model.specs.Private.Scans.{RemovedByte, taken_from}

-- ---- packets
bytes_at-parts : (step at : ℕ) (ps : List PacketPart) → parts_in (bytes_at step at ps) ≡ ps
unfolding bytes_at
bytes_at-parts step at [] = refl
bytes_at-parts step at (part ∷ ps) = ap (λ (l : List PacketPart). part ∷ l) (bytes_at-parts step (at + step) ps)

bytes_at-instants : (step at : ℕ) (ps : List PacketPart) → instants_of (bytes_at step at ps) ≡ spaced at step (length ps)
unfolding bytes_at spaced
bytes_at-instants step at [] = refl
bytes_at-instants step at (part ∷ ps) = ap (λ (l : List ℕ). at ∷ l) (bytes_at-instants step (at + step) ps)

append-both : {A : Type 0} (xs xs' ys ys' : List A) → xs ≡ xs' → ys ≡ ys' → xs ++ ys ≡ xs' ++ ys'
append-both {A} xs xs' ys ys' first second = ap (λ (l : List A). l ++ ys) first ∙ ap (λ (l : List A). xs' ++ l) second

pub length-parts_of : (arrival : Arrival) → HasHeaderWithin arrival → length (parts_of arrival) ≡ PACKET_BYTES
unfolding parts_of
length-parts_of arrival fits =
    let overhead = replicate (PACKET_BYTES - arrival.payload) Overhead in
    let header = replicate arrival.header PesHeader in
    let data_left = replicate (arrival.payload - arrival.header) Data in
    omega (
      arith,
      length-append (overhead ++ header) data_left,
      length-append overhead header,
      length-replicate (PACKET_BYTES - arrival.payload) Overhead,
      length-replicate arrival.header PesHeader,
      length-replicate (arrival.payload - arrival.header) Data,
    )

pub bytes_of_all-parts : (step : ℕ) (arrivals : List Arrival) → parts_in (bytes_of_all step arrivals) ≡ parts arrivals
unfolding bytes_of_all bytes_of parts
bytes_of_all-parts step [] = refl
bytes_of_all-parts step (arrival ∷ arrivals) =
    map-append (λ (byte : PacketByte). byte.part) (bytes_of step arrival) (bytes_of_all step arrivals)
    ∙ append-both _ _ _ _ (bytes_at-parts step (PACKET_BYTES * arrival.slot_no * step) (parts_of arrival)) (bytes_of_all-parts step arrivals)

pub bytes_of_all-instants : (slot : ℕ) (arrivals : List Arrival) → All HasHeaderWithin arrivals → instants_of (bytes_of_all (byte_subticks slot) arrivals) ≡ arrives slot arrivals
unfolding bytes_of_all bytes_of arrives arrives_in
bytes_of_all-instants slot [] fit = refl
bytes_of_all-instants slot (arrival ∷ arrivals) fit =
    let step = byte_subticks slot in
    let first = PACKET_BYTES * arrival.slot_no * step in
    map-append (λ (byte : PacketByte). byte.at) (bytes_of step arrival) (bytes_of_all step arrivals)
    ∙ append-both _ _ _ _
    (bytes_at-instants step first (parts_of arrival) ∙ ap (λ n. spaced first step n) (length-parts_of arrival (All-head HasHeaderWithin arrival arrivals fit)))
    (bytes_of_all-instants slot arrivals (All-tail HasHeaderWithin arrival arrivals fit))

-- ---- one server
pub passed-parts : (s l : ℕ) (bytes : List PacketByte) → parts_in (passed s l bytes) ≡ parts_in bytes
unfolding passed
passed-parts s l [] = refl
passed-parts s l (byte ∷ bytes) = ap (λ (ps : List PacketPart). byte.part ∷ ps) (passed-parts s (max byte.at l + s) bytes)

pub passed-instants : (s l : ℕ) (bytes : List PacketByte) → instants_of (passed s l bytes) ≡ departures s l (instants_of bytes)
unfolding passed departures
passed-instants s l [] = refl
passed-instants s l (byte ∷ bytes) = ap (λ (later : List ℕ). (max byte.at l + s) ∷ later) (passed-instants s (max byte.at l + s) bytes)

-- ---- bytes of some parts
pub bytes_with-parts : (test : PacketPart → Bool) (bytes : List PacketByte) → parts_in (bytes_with test bytes) ≡ filter test (parts_in bytes)
bytes_with-parts test [] = refl
bytes_with-parts test (byte ∷ bytes) = elim (cases_Bool (test byte.part)) [
  | inl passes ↦
      ap parts_in (cond-true (test byte.part) (byte ∷ bytes_with test bytes) (bytes_with test bytes) passes)
      ∙ ap (λ (l : List PacketPart). byte.part ∷ l) (bytes_with-parts test bytes)
      ∙ sym (cond-true (test byte.part) (byte.part ∷ filter test (parts_in bytes)) (filter test (parts_in bytes)) passes)
  | inr fails ↦
      ap parts_in (cond-false (test byte.part) (byte ∷ bytes_with test bytes) (bytes_with test bytes) fails)
      ∙ bytes_with-parts test bytes
      ∙ sym (cond-false (test byte.part) (byte.part ∷ filter test (parts_in bytes)) (filter test (parts_in bytes)) fails)
]

pub bytes_with-instants : (test : PacketPart → Bool) (bytes : List PacketByte) → instants_of (bytes_with test bytes) ≡ kept test (parts_in bytes) (instants_of bytes)
unfolding kept
bytes_with-instants test [] = refl
bytes_with-instants test (byte ∷ bytes) =
    let later = kept test (parts_in bytes) (instants_of bytes) in
    elim (cases_Bool (test byte.part)) [
      | inl passes ↦
          ap instants_of (cond-true (test byte.part) (byte ∷ bytes_with test bytes) (bytes_with test bytes) passes)
          ∙ ap (λ (l : List ℕ). byte.at ∷ l) (bytes_with-instants test bytes)
          ∙ sym (cond-true (test byte.part) (byte.at ∷ later) later passes)
      | inr fails ↦
          ap instants_of (cond-false (test byte.part) (byte ∷ bytes_with test bytes) (bytes_with test bytes) fails)
          ∙ bytes_with-instants test bytes
          ∙ sym (cond-false (test byte.part) (byte.at ∷ later) later fails)
    ]

-- ---- removals
map-same : (count : ℕ) (byte : RemovedByte) → map (λ b. b.at) (replicate count byte) ≡ replicate count byte.at
map-same zero byte = refl
map-same (suc count) byte = ap (λ (l : List ℕ). byte.at ∷ l) (map-same count byte)

pub taken-instants : (number : ℕ) (removals : List Removal) → map (λ b. b.at) (taken_from number removals) ≡ removed removals
unfolding taken_from removed
taken-instants number [] = refl
taken-instants number (removal ∷ later) =
    let byte : RemovedByte = record { at = SUBTICKS_PER_TICK * removal.due; removal = number } in
    map-append (λ (b : RemovedByte). b.at) (replicate removal.bytes byte) (taken_from (number + 1) later)
    ∙ append-both _ _ _ _ (map-same removal.bytes byte) (taken-instants (number + 1) later)
