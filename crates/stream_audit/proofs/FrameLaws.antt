-- The headers that stand in the frames of an audio stream.
use Rattle.std.proofs.Common.{◌≡◌, ℕ, ◌+◌, ◌<◌, ◌≤◌, Bool, true, false, cond, ltb, leb, ◌&&◌, List, [], ◌∷◌, ◌++◌, filter, length, map, take, drop, get_or, All, ◌+ℤ◌, refl, sym, ap, ◌∙◌, subst, arith}
use Rattle.std.specs.List.{sum_by}
use Rattle.std.proofs.lemmas.Bool.{lt-ltb, le-ltb, le-leb, lt-leb}
use Rattle.std.proofs.lemmas.List.{append_assoc, drop_more, map-append, take_more}
use Rattle.std.proofs.lemmas.List.Elements.{All-head, All-tail, All-append, filter-append}
use Rattle.std.proofs.lemmas.List.Sums.{sum_by-append, sum_by-cons}
use Rattle.audio_frames.specs.declared.frame.Frame.{Frame}
use Rattle.tstd_model.specs.declared.decoder_input.Removal.{Removal}
use Rattle.stream_audit.specs.declared.frame_removals.FrameClock.{FrameClock}
use Rattle.elementary_streams.specs.declared.pes_packets.PlacedPacket.{PlacedPacket}
use Rattle.stream_audit.specs.Removals.{begins_in, header_bytes_in, removed_at}
use Rattle.stream_audit.specs.Private.FrameRemovals.{AreBehind, AreChained, Climb, CountsHeaders, frame_removal}

-- ---- headers that are counted

-- one more packet is passed
pub passed_more : (was passed now later : List PlacedPacket) (packet : PlacedPacket) → was ≡ passed ++ now → now ≡ packet ∷ later → was ≡ (passed ++ packet ∷ []) ++ later
passed_more was passed now later packet split first =
    split ∙ ap (λ (ps : List PlacedPacket). passed ++ ps) first ∙ sym (append_assoc passed (packet ∷ []) later)

pub headers_push : (bytes more : ℕ) (passed : List PlacedPacket) (packet : PlacedPacket) → bytes ≡ sum_by (λ packet. packet.header.len) passed → more ≡ packet.header.len →
    bytes + more ≡ sum_by (λ packet. packet.header.len) (passed ++ packet ∷ [])
headers_push bytes more passed packet is more_is =
    let all = sum_by-append (λ (p : PlacedPacket). p.header.len) passed (packet ∷ []) in
    let one : sum_by (λ (p : PlacedPacket). p.header.len) (packet ∷ []) ≡ packet.header.len + 0 = sum_by-cons (λ (p : PlacedPacket). p.header.len) packet [] in
    omega (arith, all, one, is, more_is)

-- ---- headers in a frame

in_both : (frame : Frame) (xs ys : List PlacedPacket) → header_bytes_in frame (xs ++ ys) ≡ header_bytes_in frame xs + header_bytes_in frame ys
in_both frame xs ys =
    ap (sum_by (λ (packet : PlacedPacket). packet.header.len)) (filter-append (begins_in frame) xs ys)
    ∙ sum_by-append (λ (packet : PlacedPacket). packet.header.len) (filter (begins_in frame) xs) (filter (begins_in frame) ys)

out_of : (frame : Frame) (packet : PlacedPacket) (packets : List PlacedPacket) → begins_in frame packet ≡ false → header_bytes_in frame (packet ∷ packets) ≡ header_bytes_in frame packets
out_of frame packet packets is =
    ap (λ (b : Bool). sum_by (λ (packet : PlacedPacket). packet.header.len) (cond b (packet ∷ filter (begins_in frame) packets) (filter (begins_in frame) packets))) is

into : (frame : Frame) (packet : PlacedPacket) (packets : List PlacedPacket) → begins_in frame packet ≡ true → filter (begins_in frame) (packet ∷ packets) ≡ packet ∷ filter (begins_in frame) packets
into frame packet packets is = ap (λ (b : Bool). cond b (packet ∷ filter (begins_in frame) packets) (filter (begins_in frame) packets)) is

both_tests : (a b c d : ℕ) → a ≤ b → c < d → (leb a b && ltb c d) ≡ true
both_tests a b c d le lt = ap (λ (t : Bool). t && ltb c d) (le-leb a b le) ∙ lt-ltb c d lt

first_test : (a b c d : ℕ) → b < a → (leb a b && ltb c d) ≡ false
first_test a b c d lt = ap (λ (t : Bool). t && ltb c d) (lt-leb a b lt)

second_test : (a b c d : ℕ) → d ≤ c → (leb a b && ltb c d) ≡ false
second_test a b c d le = ap (λ (t : Bool). leb a b && t) (le-ltb c d le) ∙ no (leb a b)
  where
    no : (t : Bool) → (t && false) ≡ false
    no true = refl
    no false = refl

-- those that begin before it have none, those behind its end neither, and those between all
before_it : (frame : Frame) (packets : List PlacedPacket) → All (λ packet. packet.from < frame.at) packets → header_bytes_in frame packets ≡ 0
before_it frame [] all = refl
before_it frame (packet ∷ packets) all =
    out_of frame packet packets (first_test frame.at packet.from packet.from (frame.at + frame.len) (All-head (λ (p : PlacedPacket). p.from < frame.at) packet packets all))
    ∙ before_it frame packets (All-tail (λ (p : PlacedPacket). p.from < frame.at) packet packets all)

pub climb_from : (low at : ℕ) (packets : List PlacedPacket) → at ≤ low → Climb low packets → Climb at packets
climb_from low at [] le climb = tt
climb_from low at (packet ∷ packets) le climb = (omega (arith, le, climb.0), climb.1)

behind_it : (frame : Frame) (low : ℕ) (packets : List PlacedPacket) → frame.at + frame.len ≤ low → Climb low packets → header_bytes_in frame packets ≡ 0
behind_it frame low [] le climb = refl
behind_it frame low (packet ∷ packets) le climb =
    out_of frame packet packets (second_test frame.at packet.from packet.from (frame.at + frame.len) (omega (arith, le, climb.0)))
    ∙ behind_it frame packet.from packets (omega (arith, le, climb.0)) climb.1

within_it : (frame : Frame) (low : ℕ) (packets rest : List PlacedPacket) → frame.at ≤ low → Climb low (packets ++ rest) → All (λ packet. packet.from < frame.at + frame.len) packets →
    filter (begins_in frame) packets ≡ packets
within_it frame low [] rest le climb all = refl
within_it frame low (packet ∷ packets) rest le climb all =
    into frame packet packets (both_tests frame.at packet.from packet.from (frame.at + frame.len) (omega (arith, le, climb.0)) (All-head (λ (p : PlacedPacket). p.from < frame.at + frame.len) packet packets all))
    ∙ ap (λ (ps : List PlacedPacket). packet ∷ ps)
    (within_it frame packet.from packets rest (omega (arith, le, climb.0)) climb.1 (All-tail (λ (p : PlacedPacket). p.from < frame.at + frame.len) packet packets all))

climb_behind : (low : ℕ) (xs ys : List PlacedPacket) → Climb low (xs ++ ys) → (end : ℕ) → AreBehind end ys → Climb end ys
climb_behind low [] [] climb end behind = tt
climb_behind low [] (packet ∷ packets) climb end behind = (behind, climb.1)
climb_behind low (x ∷ xs) ys climb end behind = climb_behind x.from xs ys climb.1 end behind

module _ (frame : Frame) (packets earlier was now : List PlacedPacket) (bytes : ℕ) (split : packets ≡ earlier ++ was) (before : All (λ packet. packet.from < frame.at) earlier)
    (climb : Climb frame.at was) (counts : CountsHeaders (frame.at + frame.len) was bytes now) where
  climbs : Climb frame.at (counts.passed ++ now)
  climbs = subst (Climb frame.at) counts.split climb

  pub next_climb : Climb (frame.at + frame.len) now
  next_climb = climb_behind frame.at counts.passed now climbs (frame.at + frame.len) counts.next

  pub next_split : packets ≡ (earlier ++ counts.passed) ++ now
  next_split = split ∙ ap (λ (ps : List PlacedPacket). earlier ++ ps) counts.split ∙ sym (append_assoc earlier counts.passed now)

  pub next_before : All (λ packet. packet.from < frame.at + frame.len) (earlier ++ counts.passed)
  next_before = All-append (λ (packet : PlacedPacket). packet.from < frame.at + frame.len) earlier counts.passed (λ k d less. (let low = before k d less in omega (arith, low))) counts.before

  pub counted : bytes ≡ header_bytes_in frame packets
  counted =
      let here : header_bytes_in frame counts.passed ≡ bytes =
      ap (sum_by (λ (packet : PlacedPacket). packet.header.len)) (within_it frame frame.at counts.passed now (omega arith) climbs counts.before) ∙ sym counts.bytes_are in
      omega (
        arith,
        ap (header_bytes_in frame) next_split,
        in_both frame (earlier ++ counts.passed) now,
        in_both frame earlier counts.passed,
        before_it frame earlier before,
        here,
        behind_it frame (frame.at + frame.len) now (omega arith) next_climb,
      )

-- ---- one more frame

chain_first : (at : ℕ) (frames : List Frame) (i : ℕ) (d : Frame) → i < length frames → AreChained at (drop i frames) →
    ((get_or frames i d).at ≡ at) × AreChained ((get_or frames i d).at + (get_or frames i d).len) (drop (i + 1) frames)
chain_first at frames i d less chained = subst (AreChained at) (drop_more frames i d less) chained

pub record Standing (packets : List PlacedPacket) (frames : List Frame) (i : ℕ) (ahead : List PlacedPacket) : Type 0 where
  pub at : ℕ
  pub chained : AreChained at (drop i frames)
  pub earlier : List PlacedPacket
  pub split : packets ≡ earlier ++ ahead
  pub before : All (λ packet. packet.from < at) earlier
  pub climb : Climb at ahead

module _ (packets : List PlacedPacket) (frames : List Frame) (i : ℕ) (d : Frame) (was now : List PlacedPacket) (bytes : ℕ) (less : i < length frames) (standing : Standing packets frames i was)
    (counts : CountsHeaders ((get_or frames i d).at + (get_or frames i d).len) was bytes now) where
  abbrev pub frame : Frame
  frame = get_or frames i d

  place : frame.at ≡ standing.at
  place = (chain_first standing.at frames i d less standing.chained).0

  lower : All (λ packet. packet.from < frame.at) standing.earlier
  lower = subst (λ (n : ℕ). All (λ (packet : PlacedPacket). packet.from < n) standing.earlier) (sym place) standing.before

  climbs_on : Climb frame.at was
  climbs_on = subst (λ (n : ℕ). Climb n was) (sym place) standing.climb

  pub frame_counted : bytes ≡ header_bytes_in frame packets
  frame_counted = counted frame packets standing.earlier was now bytes standing.split lower climbs_on counts

  pub next_standing : Standing packets frames (i + 1) now
  next_standing = record {
    at = frame.at + frame.len;
    chained = (chain_first standing.at frames i d less standing.chained).1;
    earlier = standing.earlier ++ counts.passed;
    split = next_split frame packets standing.earlier was now bytes standing.split lower climbs_on counts;
    before = next_before frame packets standing.earlier was now bytes standing.split lower climbs_on counts;
    climb = next_climb frame packets standing.earlier was now bytes standing.split lower climbs_on counts;
  }

-- what it removes goes behind those before
pub removal_more : (clock : FrameClock) (packets : List PlacedPacket) (frames : List Frame) (i : ℕ) (d : Frame) (old new : List Removal) (due headers : ℕ) → i < length frames →
    old ≡ map (frame_removal clock packets) (take i frames) → new ≡ old ++ record { due = due; bytes = (get_or frames i d).len + headers } ∷ [] →
    due ≡ removed_at clock.zero clock.base ((get_or frames i d).time +ℤ clock.offset) → headers ≡ header_bytes_in (get_or frames i d) packets →
    new ≡ map (frame_removal clock packets) (take (i + 1) frames)
removal_more clock packets frames i d old new due headers less is pushed due_is headers_is =
    let frame : Frame = get_or frames i d in
    let one : Removal = frame_removal clock packets frame in
    let same : (let r : Removal = record { due = due; bytes = frame.len + headers } in r) ≡ one = rw (due_is, headers_is) refl in
    pushed ∙ ap (λ (rs : List Removal). rs ++ record { due = due; bytes = frame.len + headers } ∷ []) is
    ∙ ap (λ (r : Removal). map (frame_removal clock packets) (take i frames) ++ r ∷ []) same
    ∙ sym (map-append (frame_removal clock packets) (take i frames) (frame ∷ []))
    ∙ ap (map (frame_removal clock packets)) (sym (take_more frames i d less))
