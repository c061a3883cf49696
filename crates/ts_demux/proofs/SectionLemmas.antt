-- What a reader of sections has taken, and what waits, one step further.
use Rattle.std.proofs.Common.{◌≡◌, ℕ, ◌+◌, ◌<◌, List, [], ◌∷◌, ◌++◌, length, drop, map, Option, Some, None, Result, IfSome, refl, sym, ap, ◌∙◌, arith}
use Rattle.std.specs.Prelude.{IfNone}
use Rattle.std.proofs.lemmas.List.{map-append, append-nil}
use Rattle.arrayvec.specs.ArrayVec.{ArrayVec}
use Rattle.bit_lists.specs.Payload.{Payload, CarriedPayload}
use Rattle.ts_packets.specs.declared.packet.Packet.{Packet}
use Rattle.ts_packets.specs.TransportStream.{Piece}
use Rattle.ts_packets.specs.Carried.{carried}
use Rattle.ts_packets.specs.PidReader.{IsBehind, carried_at}
use Rattle.psi_tables.specs.declared.section.SectionFault.{SectionFault}
use Rattle.psi_tables.specs.Sections.{Found, sections_of, GivesInTurn}
use Rattle.psi_tables.specs.SectionBuilder.{found_of}
use Rattle.ts_demux.specs.declared.section_reader.SectionReader.{SectionReader}
use Rattle.ts_demux.specs.Tables.{payloads_in, sections_in}
use Rattle.ts_demux.specs.SectionReader.{Waits}
use Rattle.ts_demux.specs.Private.SectionReader.{added_by, ReadsNext}

-- what was given and what waits are all sections
pub all_given : (before : List Piece) (given waiting : List Found) (held : List Payload) → GivesInTurn (payloads_in before) given held → sections_of held ≡ waiting →
    sections_in before ≡ given ++ waiting
all_given before given waiting held in_turn waits =
    ap sections_of (sym (append-nil (payloads_in before))) ∙ in_turn.all [] ∙ ap (λ (ps : List Payload). given ++ sections_of ps) (append-nil held) ∙ ap (λ (fs : List Found). given ++ fs) waits

drop_front : (xs ys : List Found) → drop (length xs) (xs ++ ys) ≡ ys
drop_front [] ys = refl
drop_front (x ∷ xs) ys = drop_front xs ys

-- a piece is taken whose payload is fed
pub takes_payload : (before : List Piece) (piece : Piece) (reader after : SectionReader) (payload : Payload) →
    Waits before [] reader → payloads_in (before ++ piece ∷ []) ≡ payloads_in before ++ payload ∷ [] → IsBehind (before ++ piece ∷ []) after.packets →
    ((fed : List Payload) (given : List Found) (held now : List Payload) (payload : Payload) → GivesInTurn fed given held
    → ((later : List Payload) → sections_of (now ++ later) ≡ sections_of (held ++ payload ∷ later)) → GivesInTurn (fed ++ payload ∷ []) given now)
    →
    ((later : List Payload) → sections_of (after.builder ++ later) ≡ sections_of (reader.builder ++ payload ∷ later)) →
    Waits (before ++ piece ∷ []) (added_by before piece) after
takes_payload before piece reader after payload waits more behind law fed =
    let in_turn : GivesInTurn (payloads_in (before ++ piece ∷ [])) waits.given after.builder = rw more (law (payloads_in before) waits.given reader.builder after.builder payload waits.in_turn fed) in
    let all : sections_in before ≡ waits.given = all_given before waits.given [] reader.builder waits.in_turn waits.waiting_is ∙ append-nil waits.given in
    let now : sections_in (before ++ piece ∷ []) ≡ waits.given ++ sections_of after.builder = all_given (before ++ piece ∷ []) waits.given (sections_of after.builder) after.builder in_turn refl in
    record {
      packets = behind;
      given = waits.given;
      in_turn = in_turn;
      waiting_is = sym (ap (λ (fs : List Found). drop (length fs) (sections_in (before ++ piece ∷ []))) all ∙ ap (drop (length waits.given)) now ∙ drop_front waits.given (sections_of after.builder));
    }

drop_itself : (xs : List Found) → drop (length xs) xs ≡ []
drop_itself [] = refl
drop_itself (x ∷ xs) = drop_itself xs

-- a piece is taken that carries nothing
pub takes_nothing : (before : List Piece) (piece : Piece) (reader after : SectionReader) →
    Waits before [] reader → payloads_in (before ++ piece ∷ []) ≡ payloads_in before → IsBehind (before ++ piece ∷ []) after.packets → after.builder ≡ reader.builder →
    Waits (before ++ piece ∷ []) (added_by before piece) after
takes_nothing before piece reader after waits same behind builder = record {
  packets = behind;
  given = waits.given;
  in_turn = rw (same, builder) waits.in_turn;
  waiting_is = ap sections_of builder ∙ waits.waiting_is ∙ sym (ap (λ (ps : List Payload). drop (length (sections_in before)) (sections_of ps)) same ∙ drop_itself (sections_in before));
}

pub payloads_behind : (before : List Piece) (piece : Piece) (taken : Option Packet) → carried (before ++ piece ∷ []) ≡ carried before ++ carried_at piece.at taken →
    payloads_in (before ++ piece ∷ []) ≡ payloads_in before ++ map (λ (carried : CarriedPayload). carried.payload) (carried_at piece.at taken)
payloads_behind before piece taken is =
    ap (map (λ (carried : CarriedPayload). carried.payload)) is ∙ map-append (λ (carried : CarriedPayload). carried.payload) (carried before) (carried_at piece.at taken)

-- the first one that waits is read
pub reads_next : (before : List Piece) (waiting : List Found) (result : Option (Result (ArrayVec ℕ) SectionFault)) (reader after : SectionReader) →
    IfNone result (sections_of reader.builder ≡ []) → IfNone result (after.builder ≡ reader.builder) →
    IfSome result (λ (found : Result (ArrayVec ℕ) SectionFault). (later : List Payload) → sections_of (reader.builder ++ later) ≡ found_of found ∷ sections_of (after.builder ++ later)) →
    ((fed : List Payload) (given : List Found) (held now : List Payload) (found : Found) → GivesInTurn fed given held
    → ((later : List Payload) → sections_of (held ++ later) ≡ found ∷ sections_of (now ++ later)) → GivesInTurn fed (given ++ found ∷ []) now) →
    after.packets ≡ reader.packets → Waits before waiting reader → ReadsNext before waiting result after
reads_next before waiting None reader after none same found law packets waits = (
  sym waits.waiting_is ∙ none,
  record { packets = rw packets waits.packets; given = waits.given; in_turn = rw same waits.in_turn; waiting_is = ap sections_of same ∙ none },
)
reads_next before waiting (Some read) reader after none same found law packets waits = (
  sections_of after.builder,
  sym waits.waiting_is ∙ ap sections_of (sym (append-nil reader.builder)) ∙ found [] ∙ ap (λ (ps : List Payload). found_of read ∷ sections_of ps) (append-nil after.builder),
  record {
    packets =
        rw packets waits.packets;
    given = waits.given ++ found_of read ∷ [];
    in_turn = law (payloads_in before) waits.given reader.builder after.builder (found_of read) waits.in_turn found;
    waiting_is = refl;
  },
)

-- and fewer wait
pub reads_fewer : (result : Option (Result (ArrayVec ℕ) SectionFault)) (old new : List Payload) →
    IfSome result (λ (found : Result (ArrayVec ℕ) SectionFault). (later : List Payload) → sections_of (old ++ later) ≡ found_of found ∷ sections_of (new ++ later)) →
    ((held now : List Payload) (found : Found) → ((later : List Payload) → sections_of (held ++ later) ≡ found ∷ sections_of (now ++ later))
    → length (sections_of held) ≡ length (sections_of now) + 1) →
    IfSome result (λ (_ : Result (ArrayVec ℕ) SectionFault). length (sections_of new) < length (sections_of old))
reads_fewer None old new found law = tt
reads_fewer (Some read) old new found law = omega (arith, law old new (found_of read) found)
