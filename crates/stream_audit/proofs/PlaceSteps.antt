-- A pass over the packets of a PID, one packet further.
use Rattle.std.proofs.Common.{◌≡◌, ℕ, ◌+◌, ◌*◌, ◌<◌, ◌≤◌, true, false, inl, inr, List, [], ◌∷◌, ◌++◌, length, Option, Some, None, IfSome, append-nil, sym, ap, ◌∙◌, subst, arith, append_assoc, length-append}
use Rattle.std.specs.Option.{option_to_list}
use Rattle.std.proofs.lemmas.Bool.{cases_Bool}
use Rattle.std.proofs.lemmas.List.{append_cancel_left}
use Rattle.ts_packets.specs.TransportStream.{is_of_pid, piece_at, piece_count}
use Rattle.ts_demux.specs.declared.demux_fault.DemuxFault.{DemuxFault}
use Rattle.ts_demux.specs.declared.pid_places.Place.{Place}
use Rattle.ts_demux.specs.declared.pid_places.PlaceReader.{PlaceReader}
use Rattle.ts_demux.specs.Demux.{AreStreamsSound, IsFirstStreamFault, IsStreamFault}
use Rattle.ts_demux.specs.Pass.{IsWhole}
use Rattle.ts_demux.specs.PidPlaces.{AddsPlace, IsBeforePlace, place_at, places_before, places_on}
use Rattle.ts_demux.proofs.GatherSteps.{first_fault, sound_all, sound_more}
use Rattle.ts_demux.proofs.PassSteps.{next_piece, next_within}
use Rattle.ts_demux.proofs.PlaceSteps.{places_behind}
use Rattle.stream_audit.specs.declared.places_fault.TheConstants.{PACKETS_MOST}
use Rattle.stream_audit.specs.Private.PlacePass.{StandsBefore}

-- the number of the only place, or 0
first-number : List Place → ℕ
first-number [] = 0
first-number (place ∷ places) = place.packet

-- a place that the n-th packet adds has its number
number-of : (file : List ℕ) (pid n : ℕ) (place : Place) → AddsPlace file pid n (Some place) → place.packet ≡ n
unfolding first-number
number-of file pid n place adds = elim (cases_Bool (is_of_pid file pid n)) [
  | inl of_it ↦
      (let same : place ∷ [] ≡ place_at file pid n ∷ [] = append_cancel_left (places_before file pid n) (place ∷ []) (place_at file pid n ∷ []) (sym adds.added ∙ places_behind file pid n true of_it) in
      ap first-number same)
  | inr other ↦
      (let same : place ∷ [] ≡ [] = append_cancel_left (places_before file pid n) (place ∷ []) [] (sym adds.added ∙ places_behind file pid n false other) in
      absurd cc)
]

pub number-few : (file : List ℕ) (pid n : ℕ) (found : Option Place) → AddsPlace file pid n found → n < 4294967296 → IfSome found (λ place. place.packet < 4294967296)
number-few file pid n None adds few = tt
number-few file pid n (Some place) adds few = omega (arith, number-of file pid n place adds, few)

module _ (seen packet more : List ℕ) (pid n : ℕ) (count : length seen ≡ 188 * n) (size : length packet ≡ 188) where
  abbrev file : List ℕ
  file = seen ++ (packet ++ more)

  pub within : n < piece_count file
  within = next_within seen packet more n count size

  pub piece_is : (bytes : List ℕ) → bytes ≡ packet → bytes ≡ piece_at file n
  piece_is bytes is = is ∙ next_piece seen packet more n count size

  pub stands-next : (reader reader' : PlaceReader) (found : Option Place) (Taken Taken' : List Place → Type 0) → StandsBefore file pid n reader Taken → AddsPlace file pid n found
      → IsBeforePlace file (n + 1) reader' → ((places : List Place) → Taken places → Taken' (places ++ option_to_list found)) → StandsBefore ((seen ++ packet) ++ more) pid (n + 1) reader' Taken'
  stands-next reader reader' found Taken Taken' was adds stands goes =
      subst (λ f. StandsBefore f pid (n + 1) reader' Taken') (sym (append_assoc seen packet more))
      (record {
        stands = stands;
        sound = sound_more file (pid ∷ []) n was.sound adds.sound;
        taken = subst Taken' (sym adds.added) (goes (places_before file pid n) was.taken);
      })

  pub refused-early : (reader : PlaceReader) (fault : DemuxFault) (Taken : List Place → Type 0) → StandsBefore file pid n reader Taken → IsStreamFault file (pid ∷ []) n fault
      → IsFirstStreamFault ((seen ++ packet) ++ more) (pid ∷ []) fault
  refused-early reader fault Taken was is =
      subst (λ f. IsFirstStreamFault f (pid ∷ []) fault) (sym (append_assoc seen packet more)) (first_fault file (pid ∷ []) n fault was.sound is)

  pub many : PACKETS_MOST ≤ n → PACKETS_MOST < piece_count ((seen ++ packet) ++ more)
  many le = omega (arith, le, count, size, length-append (seen ++ packet) more, length-append seen packet)

-- all packets have passed
pub stands-all : (seen held : List ℕ) (pid n : ℕ) (reader : PlaceReader) (Taken : List Place → Type 0) → length seen ≡ 188 * n → length held < 188
    → StandsBefore (seen ++ held) pid n reader Taken → AreStreamsSound (seen ++ held) (pid ∷ []) × Taken (places_on (seen ++ held) pid)
stands-all seen held pid n reader Taken count short was =
    let all : n ≡ piece_count (seen ++ held) = omega (arith, count, short, length-append seen held) in (
      sound_all (seen ++ held) (pid ∷ []) n (omega (arith, all)) was.sound,
      subst (λ k. Taken (places_before (seen ++ held) pid k)) all was.taken,
    )

-- what holds of the whole file
pub whole-also : (left left_after : Option (List ℕ)) (most most_after : ℕ) (held : List ℕ) (P Q : List ℕ → Type 0) → ((file : List ℕ) → P file → Q file)
    → IsWhole left left_after most most_after held P → IsWhole left left_after most most_after held Q
whole-also left left_after most most_after held P Q also whole = record { seen = whole.seen; passes = whole.passes; end = whole.end; whole = also (whole.seen ++ held) whole.whole }

-- nothing is handed on
pub behind-none : (P : List Place → Type 0) (places : List Place) → P places → P (places ++ [])
behind-none P places holds = subst P (sym (append-nil places)) holds
