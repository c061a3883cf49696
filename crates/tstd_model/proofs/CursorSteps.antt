-- One step of each cursor, over plain values.
use Rattle.std.proofs.Common.{◌≡◌, ℕ, zero, suc, ◌+◌, ◌*◌, ◌≤◌, List, [], ◌∷◌, ◌++◌, length, drop, replicate, map, refl, sym, ◌∙◌, ap, arith, true, false, cond, Option, Some, None}
use Rattle.std.proofs.lemmas.Bool.{cond-true, cond-false}
use Rattle.std.proofs.lemmas.List.{drop-drop, drop_all, length-drop}
use Rattle.std.specs.Option.{option_to_list}
use Rattle.stream_constants.specs.declared.clock.TheConstants.{SUBTICKS_PER_TICK}
use Rattle.stream_constants.specs.declared.packets.TheConstants.{PACKET_BYTES}
use Rattle.tstd_model.specs.declared.packet_bytes.PacketByte.{PacketByte}
use Rattle.tstd_model.specs.declared.passing.Wanted.{Wanted}
use Rattle.tstd_model.specs.Instants.{departures_into}
use Rattle.tstd_model.specs.Decoder.{Removal}
use Rattle.tstd_model.specs.PacketBytes.{Arrival, PacketPart, Overhead, PesHeader, Data, parts_of, with_headers}
use Rattle.tstd_model.specs.Private.Cursors.{Gives, bytes_at, bytes_of, bytes_of_all, packets_left, instants_of, bytes_with, is_wanted}
use Rattle.tstd_model.specs.Private.Scans.{RemovedByte, taken_from, is_held, first_old}

-- ---- packets
pub packets_left-byte : (step at : ℕ) (parts parts' : List PacketPart) (part : PacketPart) (later : List Arrival) → parts ≡ part ∷ parts'
    → packets_left step at parts later ≡ record { part = part; at = at } ∷ packets_left step (at + step) parts' later
unfolding bytes_at
packets_left-byte step at parts parts' part later is = ap (λ p. packets_left step at p later) is

pub packets_left-none : (step at : ℕ) (parts : List PacketPart) (later : List Arrival) → parts ≡ [] → later ≡ [] → packets_left step at parts later ≡ []
unfolding bytes_at bytes_of_all
packets_left-none step at parts later none is = ap (λ p. packets_left step at p later) none ∙ ap (λ l. packets_left step at [] l) is

pub packets_left-packet : (step at first : ℕ) (parts parts' : List PacketPart) (packet : Arrival) (later later' : List Arrival) → parts ≡ [] → later ≡ packet ∷ later'
    → first ≡ PACKET_BYTES * packet.slot_no * step → parts' ≡ parts_of packet → packets_left step at parts later ≡ packets_left step first parts' later'
unfolding bytes_at bytes_of_all bytes_of
packets_left-packet step at first parts parts' packet later later' none is first_is parts_are =
    ap (λ p. packets_left step at p later) none ∙ ap (λ l. packets_left step at [] l) is
    ∙ sym (ap (λ f. packets_left step f parts' later') first_is ∙ ap (λ p. packets_left step (PACKET_BYTES * packet.slot_no * step) p later') parts_are)

-- ---- removals
pub removed_left-none : (count number : ℕ) (byte : RemovedByte) (later : List Removal) → count ≤ 0 → later ≡ [] → replicate count byte ++ taken_from number later ≡ []
unfolding taken_from
removed_left-none zero number byte later done is = ap (λ l. taken_from number l) is
removed_left-none (suc count) number byte later done is = absurd (omega arith)

pub removed_left-removal : (count number : ℕ) (byte : RemovedByte) (removal : Removal) (later later' : List Removal) → count ≤ 0 → later ≡ removal ∷ later'
    → replicate removal.bytes (record { at = SUBTICKS_PER_TICK * removal.due; removal = number }) ++ taken_from (number + 1) later' ≡ replicate count byte ++ taken_from number later
unfolding taken_from
removed_left-removal zero number byte removal later later' done is = sym (ap (λ l. taken_from number l) is)
removed_left-removal (suc count) number byte removal later later' done is = absurd (omega arith)

-- ---- moves
pub departures_into-no_room : (subticks before : ℕ) (comes : List ℕ) → departures_into [] subticks before comes ≡ []
unfolding departures_into
departures_into-no_room subticks before [] = refl
departures_into-no_room subticks before (come ∷ comes) = refl

pub departures_into-none : (subticks before : ℕ) (rooms : List ℕ) → departures_into rooms subticks before [] ≡ []
unfolding departures_into
departures_into-none subticks before rooms = refl

pub ruleset moves_end = (departures_into-no_room, departures_into-none)

pub with_headers-none : (parts : List PacketPart) → with_headers parts [] ≡ []
unfolding with_headers
with_headers-none [] = refl
with_headers-none (Overhead ∷ parts) = with_headers-none parts
with_headers-none (PesHeader ∷ parts) = refl
with_headers-none (Data ∷ parts) = refl

pub ruleset headers_end = (with_headers-none)

-- ---- walks
pub drop-one_more : (k : ℕ) (xs rest : List ℕ) (x : ℕ) → drop k xs ≡ x ∷ rest → rest ≡ drop (k + 1) xs
drop-one_more k xs rest x is = sym (sym (drop-drop 1 k xs) ∙ ap (λ (l : List ℕ). drop 1 l) is)

pub drop-past : (k count : ℕ) (xs : List ℕ) → drop k xs ≡ [] → k ≤ count → [] ≡ drop count xs
drop-past k count xs none le = sym (drop_all count xs (omega (arith, length-drop k xs, ap (λ (l : List ℕ). length l) none)))

-- ---- bytes that are held too long
-- a byte, and what of the bytes that removals take is taken first
pub is_held-first : (limit : ℕ) (part : PacketPart) (arrival : ℕ) (taken : Option RemovedByte) (before after : List RemovedByte) → Gives taken before after
    → is_held limit part arrival (map (λ b. b.at) before) ≡ is_held limit part arrival (map (λ b. b.at) (option_to_list taken))
unfolding is_held
is_held-first limit part arrival None before after gives = ap (λ (l : List RemovedByte). is_held limit part arrival (map (λ b. b.at) l)) gives.0
is_held-first limit Overhead arrival (Some byte) before after gives = ap (λ (l : List RemovedByte). is_held limit Overhead arrival (map (λ b. b.at) l)) gives
is_held-first limit PesHeader arrival (Some byte) before after gives = ap (λ (l : List RemovedByte). is_held limit PesHeader arrival (map (λ b. b.at) l)) gives
is_held-first limit Data arrival (Some byte) before after gives = ap (λ (l : List RemovedByte). is_held limit Data arrival (map (λ b. b.at) l)) gives

drop-first : (taken : Option RemovedByte) (before after : List RemovedByte) → Gives taken before after → drop 1 (map (λ b. b.at) before) ≡ map (λ b. b.at) after
drop-first None before after gives =
    ap (λ (l : List RemovedByte). drop 1 (map (λ b. b.at) l)) gives.0 ∙ sym (ap (λ (l : List RemovedByte). map (λ b. b.at) l) gives.1)
drop-first (Some byte) before after gives = ap (λ (l : List RemovedByte). drop 1 (map (λ b. b.at) l)) gives

-- what is found among the wanted bytes
abbrev pub held_among : (limit : ℕ) → Wanted → List PacketByte → List RemovedByte → Option ℕ
held_among limit wanted bytes removed =
    first_old limit (map (λ b. b.part) (bytes_with (is_wanted wanted) bytes)) (instants_of (bytes_with (is_wanted wanted) bytes)) (map (λ b. b.at) removed)

pub held_among-end : (limit : ℕ) (wanted : Wanted) (bytes : List PacketByte) (removed : List RemovedByte) → bytes ≡ [] → held_among limit wanted bytes removed ≡ None
unfolding first_old
held_among-end limit wanted bytes removed end = ap (λ (l : List PacketByte). held_among limit wanted l removed) end

held_among-wanted : (limit : ℕ) (wanted : Wanted) (byte : PacketByte) (bytes : List PacketByte) (removed : List RemovedByte) → is_wanted wanted byte.part ≡ true
    → held_among limit wanted (byte ∷ bytes) removed
    ≡ cond (is_held limit byte.part byte.at (map (λ b. b.at) removed)) (Some (byte.at + limit + 1))
    (first_old limit (map (λ b. b.part) (bytes_with (is_wanted wanted) bytes)) (instants_of (bytes_with (is_wanted wanted) bytes)) (drop 1 (map (λ b. b.at) removed)))
unfolding first_old
held_among-wanted limit wanted byte bytes removed is =
    ap (λ (l : List PacketByte). first_old limit (map (λ b. b.part) l) (instants_of l) (map (λ b. b.at) removed))
    (cond-true (is_wanted wanted byte.part) (byte ∷ bytes_with (is_wanted wanted) bytes) (bytes_with (is_wanted wanted) bytes) is)

pub held_among-held : (limit : ℕ) (wanted : Wanted) (byte : PacketByte) (bytes : List PacketByte) (taken : Option RemovedByte) (before after : List RemovedByte)
    → is_wanted wanted byte.part ≡ true → Gives taken before after → is_held limit byte.part byte.at (map (λ b. b.at) (option_to_list taken)) ≡ true
    → held_among limit wanted (byte ∷ bytes) before ≡ Some (byte.at + limit + 1)
held_among-held limit wanted byte bytes taken before after is gives held =
    held_among-wanted limit wanted byte bytes before is ∙ cond-true _ _ _ (is_held-first limit byte.part byte.at taken before after gives ∙ held)

pub held_among-gone : (limit : ℕ) (wanted : Wanted) (byte : PacketByte) (bytes : List PacketByte) (taken : Option RemovedByte) (before after : List RemovedByte)
    → is_wanted wanted byte.part ≡ true → Gives taken before after → is_held limit byte.part byte.at (map (λ b. b.at) (option_to_list taken)) ≡ false
    → held_among limit wanted (byte ∷ bytes) before ≡ held_among limit wanted bytes after
held_among-gone limit wanted byte bytes taken before after is gives gone =
    held_among-wanted limit wanted byte bytes before is
    ∙ cond-false _ _ _ (is_held-first limit byte.part byte.at taken before after gives ∙ gone)
    ∙ ap (λ (l : List ℕ). first_old limit (map (λ b. b.part) (bytes_with (is_wanted wanted) bytes)) (instants_of (bytes_with (is_wanted wanted) bytes)) l) (drop-first taken before after gives)
