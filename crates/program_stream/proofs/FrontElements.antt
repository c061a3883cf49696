-- The elements that stand first in a file are the first of all that it has.
use Rattle.std.proofs.Common.{◌≡◌, ℕ, ◌+◌, ◌==◌, Bool, true, false, cond, List, [], ◌∷◌, ◌++◌, length, append_assoc, refl, sym, ap, ap₂, ◌∙◌}
use Rattle.std.specs.List.{AllByRecursion}
use Rattle.ts_demux.specs.declared.demuxed.PesUnit.{PesUnit}
use Rattle.program_stream.specs.Elements.{Element, element_bytes, element_spelling, all_spelled, IsSoundElement, AreElements}
use Rattle.program_stream.specs.Streams.{packets_from}
use Rattle.program_stream.proofs.OneReading.{end_stops, Stops, whole_same}

-- ---- elements

-- some elements and those behind the front
pub record HasFront (front all : List Element) : Type 0 where
  pub behind : List Element
  pub all_is : all ≡ front ++ behind

front_of : (front all : List Element) (more rest : List ℕ) → AllByRecursion IsSoundElement front → AllByRecursion IsSoundElement all → Stops rest
    → all_spelled front ++ more ≡ all_spelled all ++ rest → HasFront front all
front_of [] all more rest sound sound_all stops same = record { behind = all; all_is = refl }
front_of (x ∷ front) [] more rest sound sound_all stops same =
    absurd (stops x (all_spelled front ++ more) sound.0 (sym same ∙ append_assoc (element_spelling x) (all_spelled front) more))
front_of (x ∷ front) (y ∷ all) more rest sound sound_all stops same =
    let one = whole_same x y (all_spelled front ++ more) (all_spelled all ++ rest) sound.0.whole sound_all.0.whole
    (sym (append_assoc (element_spelling x) (all_spelled front) more) ∙ same ∙ append_assoc (element_spelling y) (all_spelled all) rest) in
    let later = front_of front all more rest sound.1 sound_all.1 stops one.rests in
    record { behind = later.behind; all_is = ap₂ (λ (e : Element) (es : List Element). e ∷ es) (sym one.elements) later.all_is }

pub front_elements : (front all : List Element) (more : List ℕ) (cut : ℕ) → AllByRecursion IsSoundElement front → AreElements (all_spelled front ++ more) all cut → HasFront front all
front_elements front all more cut sound are = front_of front all more are.rest sound are.sound (end_stops are.rest cut are.ending) are.bytes_are

-- ---- their packets

-- some packets and those behind the front
pub record HasFrontPackets (front all : List PesUnit) : Type 0 where
  pub behind : List PesUnit
  pub all_is : all ≡ front ++ behind

pub front_packets : (at id : ℕ) (front behind : List Element) → HasFrontPackets (packets_from at id front) (packets_from at id (front ++ behind))
front_packets at id [] behind = record { behind = packets_from at id behind; all_is = refl }
front_packets at id (x ∷ front) behind = by_test (x.id == id) (front_packets next id front behind)
  where
    next : ℕ
    next = at + length (element_spelling x)

    unit : PesUnit
    unit = record { at = at + x.zeros; bytes = element_bytes x }

    by_test : (is : Bool) → HasFrontPackets (packets_from next id front) (packets_from next id (front ++ behind))
        → HasFrontPackets (cond is (unit ∷ packets_from next id front) (packets_from next id front)) (cond is (unit ∷ packets_from next id (front ++ behind)) (packets_from next id (front ++ behind)))
    by_test true later = record { behind = later.behind; all_is = ap (λ (units : List PesUnit). unit ∷ units) later.all_is }
    by_test false later = later
