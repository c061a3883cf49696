-- A stream of a program stream whose PES packets pass.
use Rattle.std.proofs.Common.{◌≡◌, inl, inr, ℕ, ◌<◌, ◌≤◌, List, [], ◌∷◌, ◌++◌, length, Option, Some}
use Rattle.std.proofs.Common.{sym, ap, ◌∙◌, arith, length-append}
use Rattle.std.specs.Option.{option_to_list}
use Rattle.shelf_io.specs.Source.{source_bytes_most}
use Rattle.ts_demux.specs.declared.demuxed.PesUnit.{PesUnit}
use Rattle.ts_demux.specs.Pass.{IsEarly, IsWhole}
use Rattle.ts_demux.proofs.PassSteps.{passes_size}
use Rattle.program_stream.specs.declared.element_fault.ElementFault.{ElementFault}
use Rattle.program_stream.specs.declared.element_fault.ElementFault.TheVariants as elements
use Rattle.program_stream.specs.PassingElements.{AreRefused, IsShortFile, OnRefused}
use Rattle.program_stream.specs.Streams.{packets_of}
use Rattle.program_stream.proofs.PassingSteps.{early_on, whole_on}
use Rattle.pes_passing.specs.declared.element_packets.ElementPackets.{ElementPackets}
use Rattle.pes_passing.specs.ElementPackets.{HasPassed, held_of, id_of, StandsAtEnd, taken_of}
use Rattle.pes_passing.specs.Private.ElementWalk.{count_of}
use Rattle.pes_passing.specs.PassingPackets.{size_of}
use Rattle.pes_passing.proofs.ElementSteps.{sizes_in, within}
use Rattle.stream_pass.specs.declared.read_fault.ReadFault.TheVariants as faults
use Rattle.stream_pass.specs.PassedElements.{AreElementsRefused, HasIdPackets, IsIdRefused, IsOfId, IsOverIdLimit}
use Rattle.stream_pass.specs.Private.Passed.{all_of, IsLast, IsNext, IsOfPackets, IsOver}

-- ---- one packet more

-- it is the next one
pub next_is : (left after : Option (List ℕ)) (most most_after : ℕ) (ended : List PesUnit) (packets : ElementPackets) (packet : PesUnit) (given : Option PesUnit)
    → given ≡ held_of packets → held_of packets ≡ Some packet → HasPassed left after most most_after (ended ++ packet ∷ []) packets → IsNext ended packet given
next_is left after most most_after ended packets packet given same held_is passed =
    let few = within left after most most_after (ended ++ packet ∷ []) packets passed in
    record { held_is = same ∙ held_is; count_few = omega (arith, few.0, few.2); bytes_few = omega (arith, few.1, few.2) }

-- it is counted, and no more than a source has
pub more_counted : (left mid after : Option (List ℕ)) (most most_mid most_after : ℕ) (ended : List PesUnit) (packet : PesUnit) (old new : ElementPackets)
    → HasPassed left mid most most_mid ended old → HasPassed left after most most_after (ended ++ packet ∷ []) new → (count_of old < count_of new) × (count_of new ≤ source_bytes_most)
more_counted left mid after most most_mid most_after ended packet old new was is =
    let few = within left after most most_after (ended ++ packet ∷ []) new is in (
      omega (arith, was.are_in.count_is, is.are_in.count_is, length-append ended (packet ∷ [])),
      omega (arith, is.are_in.count_is, few.0, few.2),
    )

-- ---- refusals

-- of a file that is short
pub short_refused : {F : Type 0} → (refuses : List PesUnit → F → Type 0) (left after : Option (List ℕ)) (most most_after id : ℕ) (fault : ElementFault)
    → OnRefused fault (λ refusal. IsWhole left after most most_after [] (λ file. IsShortFile file refusal)) → IsIdRefused left after most most_after id refuses (faults.Passing fault)
short_refused refuses left after most most_after id (elements.Outside fault) said = tt
short_refused refuses left after most most_after id (elements.Refused fault) said =
    inr (whole_on left after most most_after [] (λ file. IsShortFile file fault) (λ file. AreElementsRefused file fault) (λ file is. inl is) said)

-- of an element
pub element_refused : {F : Type 0} → (refuses : List PesUnit → F → Type 0) (left after : Option (List ℕ)) (most most_after id : ℕ) (fault : ElementFault)
    → OnRefused fault (λ refusal. IsEarly left after most most_after [] (λ file. AreRefused file refusal)) → IsIdRefused left after most most_after id refuses (faults.Passing fault)
element_refused refuses left after most most_after id (elements.Outside fault) said = tt
element_refused refuses left after most most_after id (elements.Refused fault) said =
    inl (early_on left after most most_after [] (λ file. AreRefused file fault) (λ file. AreElementsRefused file fault) (λ file is. inr is) said)

-- ---- at the end of a source

module _ (left after : Option (List ℕ)) (most most_after : ℕ) (ended : List PesUnit) (packets : ElementPackets)
    (at_end : IsWhole left after most most_after [] (λ file. StandsAtEnd file ended packets × (length file ≡ taken_of packets))) (few : most ≤ source_bytes_most) where
  -- places in it have 64 bits
  pub end_taken : taken_of packets ≤ source_bytes_most
  end_taken = omega (arith, few, at_end.whole.1, length-append at_end.seen [], passes_size left after most most_after [] at_end.seen [] at_end.passes)

  module _ (last : Option PesUnit) (same : last ≡ held_of packets) where
    abbrev all : List PesUnit
    all = all_of ended last

    abbrev file : List ℕ
    file = at_end.seen ++ []

    all_is : all ≡ packets_of at_end.whole.0.elements packets.id
    all_is = ap (λ (o : Option PesUnit). ended ++ option_to_list o) same ∙ sym at_end.whole.0.split.packets

    pub last_is : IsLast ended last (taken_of packets)
    last_is =
        let stands = at_end.whole.0 in
        let sizes = sizes_in file stands.elements stands.cut packets.id stands.elements_are in
        record {
          none = λ no. stands.split.none (sym same ∙ no);
          count_few = omega (arith, ap length all_is, length-append ended (option_to_list last), sizes.0, at_end.whole.1, end_taken);
          size = omega (arith, ap size_of all_is, sizes.1, at_end.whole.1);
        }

    module _ (id : ℕ) (id_is : id_of packets ≡ id) where
      has : HasIdPackets file id all
      has = record {
        elements = at_end.whole.0.elements;
        cut = at_end.whole.0.cut;
        elements_are = at_end.whole.0.elements_are;
        packets_are = all_is ∙ ap (packets_of at_end.whole.0.elements) id_is;
      }

      whole : (P : List ℕ → Type 0) → P file → IsWhole left after most most_after [] P
      whole P is = record { seen = at_end.seen; passes = at_end.passes; end = at_end.end; whole = is }

      -- what is said of its PES packets is said of the stream
      pub of_id : {A : Type 0} → (says : List PesUnit → A → Type 0) (answer : A) → IsOfPackets (taken_of packets) all says answer
          → IsWhole left after most most_after [] (λ file. IsOfId file id says answer)
      of_id says answer is = whole (λ f. IsOfId f id says answer) (record {
        packets = all;
        sound_stream = record { has = has; short = omega (arith, at_end.whole.1, is.within.short); few = is.within.few };
        said = is.said;
      })

      -- so is that they are too many
      pub over_limit : IsOver (taken_of packets) all → IsWhole left after most most_after [] (λ file. IsOverIdLimit file id)
      over_limit (inl long) = whole (λ f. IsOverIdLimit f id) (IsOverIdLimit.long (omega (arith, at_end.whole.1, long)))
      over_limit (inr many) = whole (λ f. IsOverIdLimit f id) (IsOverIdLimit.many_packets all has (omega (arith, at_end.whole.1, many.0)) many.1)
