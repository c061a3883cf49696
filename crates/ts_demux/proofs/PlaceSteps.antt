-- The packets of a PID, one packet further.
use Rattle.std.proofs.Common.{
  ◌≡◌,
  ◌≢◌,
  ℕ,
  zero,
  suc,
  ◌+◌,
  ◌*◌,
  ◌<◌,
  ◌≤◌,
  Bool,
  true,
  false,
  cond,
  List,
  [],
  ◌∷◌,
  ◌++◌,
  length,
  map,
  filter,
  slice_get,
  drop,
  Option,
  Some,
  None,
  refl,
  sym,
  ap,
  ◌∙◌,
  subst,
  arith,
}
use Rattle.std.specs.List.{range_with_len}
use Rattle.std.proofs.Math.Seq.{drop-append_seam}
use Rattle.std.proofs.lemmas.List.{map-append}
use Rattle.std.proofs.lemmas.List.Elements.{filter-append}
use Rattle.list_types.proofs.Lists.{range-last}
use Rattle.bit_lists.specs.Payload.{CarriedPayload}
use Rattle.ts_packets.specs.declared.pid_fault.PidFault.{PidFault}
use Rattle.ts_packets.specs.Packet.{sync_byte, packet_identifier}
use Rattle.ts_packets.specs.TransportStream.{Piece, piece_at, piece_count, is_of_pid, pid_pieces}
use Rattle.ts_packets.specs.Carried.{carried, pid_fault}
use Rattle.ts_demux.specs.declared.demux_fault.DemuxFault.{DemuxFault}
use Rattle.ts_demux.specs.declared.pid_places.Place.{Place}
use Rattle.ts_demux.specs.CarriedPackets.{carried_before}
use Rattle.ts_demux.specs.Demux.{IsStreamFault}
use Rattle.ts_demux.specs.PidPlaces.{AddsPlace, added_at, place_at, place_with, places_before}
use Rattle.ts_demux.specs.Tables.{HasPidFault, piece}
use Rattle.ts_demux.proofs.CarriedSteps.{no_fault, none_found}
use Rattle.ts_demux.proofs.PidTests.{no_test, yes_test}
use Rattle.ts_demux.proofs.TableLemmas.{pieces_more, pieces_other}
use Rattle.ts_demux.proofs.WalkSteps.{is_of}

-- ---- the list of places

-- numbers that pass a test, one further
pub numbers_more : (p : ℕ → Bool) (n : ℕ) (is : Bool) → p n ≡ is → filter p (range_with_len 0 (n + 1)) ≡ filter p (range_with_len 0 n) ++ cond is (n ∷ []) []
numbers_more p n is passes =
    let count : n + 1 ≡ suc n = omega arith in
    let last : 0 + n ≡ n = omega arith in
    ap (λ (k : ℕ). filter p (range_with_len 0 k)) count ∙ ap (filter p) (range-last 0 n)
    ∙ ap (λ (k : ℕ). filter p (range_with_len 0 n ++ k ∷ [])) last
    ∙ filter-append p (range_with_len 0 n) (n ∷ [])
    ∙ ap (λ (b : Bool). filter p (range_with_len 0 n) ++ cond b (n ∷ []) []) passes

pub places_behind : (file : List ℕ) (pid n : ℕ) (is : Bool) → is_of_pid file pid n ≡ is →
    places_before file pid (n + 1) ≡ places_before file pid n ++ map (place_at file pid) (cond is (n ∷ []) [])
places_behind file pid n is of_pid =
    ap (map (place_at file pid)) (numbers_more (is_of_pid file pid) n is of_pid)
    ∙ map-append (place_at file pid) (filter (is_of_pid file pid) (range_with_len 0 n)) (cond is (n ∷ []) [])

-- ---- the n-th packet

module _ (file : List ℕ) (n : ℕ) (bytes : List ℕ) (of_it : ℕ) (bytes_are : bytes ≡ piece_at file n) (of_it_is : of_it ≡ packet_identifier bytes) (sync : sync_byte bytes ≡ 0x47) where
  -- it is of another PID
  module _ (pid : ℕ) (apart : of_it ≡ pid → ⊥) where
    other : is_of_pid file pid n ≡ false
    other = is_of file n of_it pid bytes false bytes_are of_it_is (no_test of_it pid apart)

    not_there : (k : ℕ) → slice_get (pid ∷ []) k ≢ Some of_it
    not_there zero is = let same : pid ≡ of_it = cc in apart (sym same)
    not_there (suc k) is = absurd cc

    pub other_adds : AddsPlace file pid n None
    other_adds = record { sound = (none_found file n bytes of_it bytes_are of_it_is (pid ∷ []) sync not_there).sound; added = places_behind file pid n false other }

    pub other_pieces : pid_pieces file pid 0 (n + 1) ≡ pid_pieces file pid 0 n
    other_pieces = pieces_other file pid 0 n other

  -- it is of this one
  here : is_of_pid file of_it n ≡ true
  here = is_of file n of_it of_it bytes true bytes_are of_it_is (yes_test of_it of_it refl)

  pub own_pieces : pid_pieces file of_it 0 (n + 1) ≡ pid_pieces file of_it 0 n ++ record { at = 188 * n; bytes = bytes } ∷ []
  own_pieces = pieces_more file of_it 0 n (omega arith) here ∙ ap (λ (b : List ℕ). pid_pieces file of_it 0 n ++ record { at = 188 * n; bytes = b } ∷ []) (sym bytes_are)

  own_added : (more : List CarriedPayload) →
      carried (pid_pieces file of_it 0 n ++ record { at = 188 * n; bytes = bytes } ∷ []) ≡ carried (pid_pieces file of_it 0 n) ++ more → added_at file of_it n ≡ more
  own_added more carries =
      ap (λ (ps : List Piece). drop (length (carried_before file of_it n)) (carried ps)) own_pieces
      ∙ ap (drop (length (carried_before file of_it n))) carries
      ∙ drop-append_seam (carried_before file of_it n) more

  pub own_adds : (more : List CarriedPayload) (found : Place) → None ≡ pid_fault (pid_pieces file of_it 0 n) (record { at = 188 * n; bytes = bytes }) →
      carried (pid_pieces file of_it 0 n ++ record { at = 188 * n; bytes = bytes } ∷ []) ≡ carried (pid_pieces file of_it 0 n) ++ more →
      found ≡ place_with n bytes more → AddsPlace file of_it n (Some found)
  own_adds more found none carries is = record {
    sound = no_fault file n bytes of_it bytes_are of_it_is (of_it ∷ []) sync (λ fault among has.
        (let no : pid_fault (pid_pieces file of_it 0 n) (piece file n) ≡ None = subst (λ (b : List ℕ). pid_fault (pid_pieces file of_it 0 n) (record { at = 188 * n; bytes = b }) ≡ None) bytes_are (sym none) in
        let e : None ≡ Some fault = sym no ∙ has.fault_is in
        absurd cc));
    added = places_behind file of_it n true here
        ∙ ap (λ (p : Place). places_before file of_it n ++ p ∷ [])
        (ap (λ (b : List ℕ). place_with n b (added_at file of_it n)) (sym bytes_are) ∙ ap (place_with n bytes) (own_added more carries) ∙ sym is);
  }
