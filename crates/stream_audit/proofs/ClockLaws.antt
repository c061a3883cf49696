-- A clock by the references of packets, one packet further.
use Rattle.std.proofs.Common.{◌≡◌, ℕ, ◌*◌, Bool, true, false, cond, List, [], ◌∷◌, ◌++◌, slice_get, Option, Some, None, option_and_then, unwrap_or, refl, sym, ap, ◌∙◌}
use Rattle.std.specs.List.{cons_option, find}
use Rattle.std.specs.Option.{option_map, option_or}
use Rattle.std.proofs.lemmas.List.{append-nil}
use Rattle.std.proofs.lemmas.List.Elements.{filter_map-append}
use Rattle.std.proofs.lemmas.List.Folds.{find-append}
use Rattle.stream_constants.specs.declared.packets.TheConstants.{PACKET_BYTES}
use Rattle.pcr_writer.specs.declared.pcr.TheConstants.{BASE_END_BYTE}
use Rattle.pcr_writer.specs.PcrPacket.{arrival_ticks}
use Rattle.ts_demux.specs.declared.pid_places.Place.{Place}
use Rattle.stream_audit.specs.declared.clock.FileClock.{FileClock}
use Rattle.stream_audit.specs.Clock.{HasSeen, PlacedPcr, is_off, pcrs_of, ticks_from}
use Rattle.stream_audit.specs.Private.Clock.{off_behind, zero_behind}

-- ---- the list of references

abbrev placed : Place → ℕ → PlacedPcr
placed place pcr = record { packet = place.packet; pcr = pcr }

pcrs-more : (places : List Place) (place : Place) (pcr : Option ℕ) → place.pcr ≡ pcr → pcrs_of (places ++ place ∷ []) ≡ pcrs_of places ++ cons_option (option_map (placed place) pcr) []
pcrs-more places place pcr is =
    filter_map-append (λ (p : Place). option_map (placed p) p.pcr) places (place ∷ [])
    ∙ ap (λ (o : Option ℕ). pcrs_of places ++ cons_option (option_map (placed place) o) []) is

-- ---- one more reference

module _ (F G : PlacedPcr → ℕ) (is_bad : ℕ → PlacedPcr → Bool) (x : PlacedPcr) where
  zero_step : (xs : List PlacedPcr) (zero : Option ℕ) → zero ≡ option_map F (slice_get xs 0) → Some (unwrap_or zero (F x)) ≡ option_map F (slice_get (xs ++ x ∷ []) 0)
  zero_step [] zero is = ap (λ (z : Option ℕ). Some (unwrap_or z (F x))) is
  zero_step (y ∷ ys) zero is = ap (λ (z : Option ℕ). Some (unwrap_or z (F x))) is

  last_one : (b : Bool) → cond b (Some (G x)) None ≡ option_map G (cond b (Some x) None)
  last_one true = refl
  last_one false = refl

  found_or : (o : Option PlacedPcr) (b : Bool) → option_or (option_map G o) (cond b (Some (G x)) None) ≡ option_map G (option_or o (cond b (Some x) None))
  found_or (Some y) b = refl
  found_or None b = last_one b

  off_step : (xs : List PlacedPcr) (zero off : Option ℕ) → zero ≡ option_map F (slice_get xs 0) →
      off ≡ option_and_then (λ z. option_map G (find (is_bad z) xs)) (option_map F (slice_get xs 0)) →
      option_or off (cond (is_bad (unwrap_or zero (F x)) x) (Some (G x)) None)
      ≡ option_and_then (λ z. option_map G (find (is_bad z) (xs ++ x ∷ []))) (option_map F (slice_get (xs ++ x ∷ []) 0))
  off_step [] zero off zero_is off_is =
      ap (λ (o : Option ℕ). option_or o (cond (is_bad (unwrap_or zero (F x)) x) (Some (G x)) None)) off_is
      ∙ ap (λ (z : Option ℕ). cond (is_bad (unwrap_or z (F x)) x) (Some (G x)) None) zero_is
      ∙ last_one (is_bad (F x) x)
  off_step (y ∷ ys) zero off zero_is off_is =
      ap (λ (o : Option ℕ). option_or o (cond (is_bad (unwrap_or zero (F x)) x) (Some (G x)) None)) off_is
      ∙ ap (λ (z : Option ℕ). option_or (option_map G (find (is_bad (F y)) (y ∷ ys))) (cond (is_bad (unwrap_or z (F x)) x) (Some (G x)) None)) zero_is
      ∙ found_or (find (is_bad (F y)) (y ∷ ys)) (is_bad (F y) x)
      ∙ ap (option_map G) (sym (find-append (is_bad (F y)) (y ∷ ys) (x ∷ [])))

-- ---- one more packet

module _ (slot : ℕ) (places : List Place) (place : Place) (was : FileClock) (seen : HasSeen slot places was) where
  -- it has none
  none_more : place.pcr ≡ None → pcrs_of (places ++ place ∷ []) ≡ pcrs_of places
  none_more is = pcrs-more places place None is ∙ append-nil (pcrs_of places)

  abbrev zero_in : List PlacedPcr → Option ℕ
  zero_in xs = option_map (λ first. ticks_from (arrival_ticks slot first.packet BASE_END_BYTE) first.pcr) (slice_get xs 0)

  abbrev off_in : List PlacedPcr → Option ℕ
  off_in xs = option_and_then (λ zero. option_map (λ reference. PACKET_BYTES * reference.packet) (find (is_off slot zero) xs)) (zero_in xs)

  pub seen-bare : place.pcr ≡ None → HasSeen slot (places ++ place ∷ []) was
  seen-bare is = record { zero_is = seen.zero_is ∙ ap zero_in (sym (none_more is)); off_is = seen.off_is ∙ ap off_in (sym (none_more is)) }

  -- it has one
  module _ (now : FileClock) (pcr : ℕ) (is : place.pcr ≡ Some pcr) (zero_is : now.zero ≡ zero_behind slot was.zero place.packet pcr)
      (off_is : now.off ≡ off_behind slot was.zero was.off place.packet pcr) where
    pub seen-more : HasSeen slot (places ++ place ∷ []) now
    seen-more = record {
      zero_is = zero_is
          ∙ zero_step (λ first. ticks_from (arrival_ticks slot first.packet BASE_END_BYTE) first.pcr) (λ reference. PACKET_BYTES * reference.packet) (is_off slot) (placed place pcr)
          (pcrs_of places) was.zero seen.zero_is
          ∙ ap zero_in (sym (pcrs-more places place (Some pcr) is));
      off_is = off_is
          ∙ off_step (λ first. ticks_from (arrival_ticks slot first.packet BASE_END_BYTE) first.pcr) (λ reference. PACKET_BYTES * reference.packet) (is_off slot) (placed place pcr)
          (pcrs_of places) was.zero was.off seen.zero_is seen.off_is
          ∙ ap off_in (sym (pcrs-more places place (Some pcr) is));
    }
