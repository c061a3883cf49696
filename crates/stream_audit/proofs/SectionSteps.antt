-- A pass over the packets of PID 0 and of a map's PID, one packet further.
use Rattle.std.proofs.Common.{◌≡◌, ℕ, ◌+◌, ◌*◌, ◌<◌, ◌||◌, ◌⊎◌, List, [], ◌∷◌, ◌++◌, length, map, Option, IfSome, sym, ap, ◌∙◌, subst, arith, append_assoc, length-append}
use Rattle.std.specs.Option.{option_to_list}
use Rattle.std.proofs.lemmas.List.{map-append}
use Rattle.ts_packets.specs.TransportStream.{is_of_pid, piece_count}
use Rattle.tstd_model.specs.declared.decoder_input.Arrival.{Arrival}
use Rattle.ts_demux.specs.declared.demux_fault.DemuxFault.{DemuxFault}
use Rattle.ts_demux.specs.declared.pid_places.Place.{Place}
use Rattle.ts_demux.specs.Demux.{AreStreamsSound, IsStreamFault}
use Rattle.ts_demux.specs.Tables.{pat_pid}
use Rattle.ts_demux.proofs.GatherSteps.{sound_all, sound_more}
use Rattle.stream_audit.specs.declared.sections.SectionPlaces.{SectionPlaces}
use Rattle.stream_audit.specs.Private.SectionPass.{ListsBefore}
use Rattle.stream_audit.specs.Private.Sections.{AddsSection, StandBefore}
use Rattle.stream_audit.specs.SectionPass.{IsFirstSectionFault}
use Rattle.stream_audit.specs.Streams.{section_arrival, system_before, system_places}
use Rattle.stream_audit.proofs.SystemLaws.{found_few, sections_more}

pub section-few : (file : List ℕ) (map_pid n : ℕ) (found : Option Place) → AddsSection file map_pid n found → n < 4294967296 → IfSome found (λ place. place.packet < 4294967296)
section-few file map_pid n found adds few = found_few file n 4294967296 (is_of_pid file pat_pid n || is_of_pid file map_pid n) found adds.found_is few

module _ (seen packet more : List ℕ) (map_pid n : ℕ) (readers : SectionPlaces) (arrivals : List Arrival) where
  abbrev file : List ℕ
  file = seen ++ (packet ++ more)

  pub lists-next : (readers' : SectionPlaces) (arrivals' : List Arrival) (found : Option Place) → ListsBefore file map_pid n readers arrivals → AddsSection file map_pid n found →
      StandBefore file map_pid (n + 1) readers' → arrivals' ≡ arrivals ++ map section_arrival (option_to_list found) → ListsBefore ((seen ++ packet) ++ more) map_pid (n + 1) readers' arrivals'
  lists-next readers' arrivals' found was adds stand added =
      subst (λ f. ListsBefore f map_pid (n + 1) readers' arrivals') (sym (append_assoc seen packet more))
      (record {
        stand = stand;
        pat_sound = sound_more file (pat_pid ∷ []) n was.pat_sound adds.pat_sound;
        map_sound = sound_more file (map_pid ∷ []) n was.map_sound adds.map_sound;
        arrivals_are = added ∙ ap (λ (l : List Arrival). l ++ map section_arrival (option_to_list found)) was.arrivals_are
            ∙ sym (map-append section_arrival (system_before file map_pid n) (option_to_list found))
            ∙ ap (map section_arrival) (sym (sections_more file map_pid n found adds.found_is));
      })

  pub section-refused : (fault : DemuxFault) → ListsBefore file map_pid n readers arrivals → IsStreamFault file (pat_pid ∷ []) n fault ⊎ IsStreamFault file (map_pid ∷ []) n fault →
      IsFirstSectionFault ((seen ++ packet) ++ more) map_pid fault
  section-refused fault was is =
      subst (λ f. IsFirstSectionFault f map_pid fault) (sym (append_assoc seen packet more))
      (record { packet = n; stands = is; pat_first = λ m other less. was.pat_sound m other less; map_first = λ m other less. was.map_sound m other less })

-- all packets have passed
pub lists-all : (seen held : List ℕ) (map_pid n : ℕ) (readers : SectionPlaces) (arrivals : List Arrival) → length seen ≡ 188 * n → length held < 188
    → ListsBefore (seen ++ held) map_pid n readers arrivals
    → AreStreamsSound (seen ++ held) (pat_pid ∷ []) × AreStreamsSound (seen ++ held) (map_pid ∷ []) × (arrivals ≡ map section_arrival (system_places (seen ++ held) map_pid))
lists-all seen held map_pid n readers arrivals count short was =
    let file = seen ++ held in
    let all : n ≡ piece_count file = omega (arith, count, short, length-append seen held) in (
      sound_all file (pat_pid ∷ []) n (omega (arith, all)) was.pat_sound,
      sound_all file (map_pid ∷ []) n (omega (arith, all)) was.map_sound,
      was.arrivals_are ∙ ap (λ k. map section_arrival (system_before file map_pid k)) all,
    )
