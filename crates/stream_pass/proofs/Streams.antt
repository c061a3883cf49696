-- A stream of a transport stream whose PES packets pass.
use Rattle.std.proofs.Common.{◌≡◌, ◌⊎◌, inl, inr, ℕ, ◌+◌, ◌*◌, ◌<◌, ◌≤◌, List, [], ◌∷◌, ◌++◌, length, slice_get, Option, Some}
use Rattle.std.proofs.Common.{sym, ap, ◌∙◌, subst, arith, length-append}
use Rattle.std.specs.Option.{option_to_list}
use Rattle.std.proofs.lemmas.List.Sums.{sum_by-append}
use Rattle.shelf_io.specs.Source.{source_bytes_most}
use Rattle.ts_demux.specs.declared.demuxed.PesUnit.{PesUnit}
use Rattle.ts_demux.specs.declared.pass_fault.PassFault.{PassFault}
use Rattle.ts_demux.specs.declared.pass_fault.PassFault.TheVariants as passes
use Rattle.ts_demux.specs.Demux.{AreStreamsSound, IsFirstStreamFault}
use Rattle.ts_demux.specs.Faults.{IsMemory}
use Rattle.ts_demux.specs.Pass.{IsEarly, IsWhole, OnRefused}
use Rattle.ts_demux.proofs.PassSteps.{passes_size}
use Rattle.pes_passing.specs.declared.passing_packets.PassingPackets.{PassingPackets}
use Rattle.pes_passing.specs.PassingPackets.{count_of, HasPassed, held_of, index_of, open_of, pids_of, size_of, StandsAtEnd}
use Rattle.pes_passing.proofs.Passing.{within}
use Rattle.stream_pass.specs.declared.read_fault.ReadFault.TheVariants as faults
use Rattle.stream_pass.specs.PassedStream.{HasPackets, IsOfStream, IsOverLimit, IsReadRefused}
use Rattle.stream_pass.specs.Private.Passed.{all_of, IsLast, IsNext, IsOfPackets, IsOver}

-- ---- one packet more

-- it is the next one
pub next_is : (left after : Option (List ℕ)) (most most_after : ℕ) (held : List ℕ) (ended : List PesUnit) (packets : PassingPackets) (packet : PesUnit) (given : Option PesUnit)
    → given ≡ held_of packets → held_of packets ≡ Some packet → HasPassed left after most most_after held (ended ++ packet ∷ []) packets → IsNext ended packet given
next_is left after most most_after held ended packets packet given same held_is passed =
    let stands = passed.every [] in
    let few = within left after most most_after held (ended ++ packet ∷ []) packets passed in
    record {
      held_is = same ∙ held_is;
      count_few = omega (arith, stands.count_is, few.0, few.1);
      bytes_few = omega (arith, few.0, stands.few_bytes, sum_by-append (λ (p : PesUnit). length p.bytes) (ended ++ packet ∷ []) (option_to_list (open_of packets.pes)));
    }

-- it is counted, and no more than a source has
pub more_counted : (left mid after : Option (List ℕ)) (most most_mid most_after : ℕ) (held held_after : List ℕ) (ended : List PesUnit) (packet : PesUnit) (old new : PassingPackets)
    → HasPassed left mid most most_mid held ended old → HasPassed left after most most_after held_after (ended ++ packet ∷ []) new
    → (count_of old < count_of new) × (count_of new ≤ source_bytes_most)
more_counted left mid after most most_mid most_after held held_after ended packet old new was is =
    let few = within left after most most_after held_after (ended ++ packet ∷ []) new is in
    let before = was.every [] in
    let now = is.every [] in
    (omega (arith, before.count_is, now.count_is, length-append ended (packet ∷ [])), omega (arith, few.0, few.1))

-- a fault of the packets
pub passing_refused : {F : Type 0} → (refuses : List PesUnit → F → Type 0) (left after : Option (List ℕ)) (most most_after : ℕ) (held ps pids : List ℕ) (index : ℕ) (fault : PassFault) → ps ≡ pids
    → OnRefused fault (λ refusal. IsMemory refusal ⊎ IsEarly left after most most_after held (λ file. IsFirstStreamFault file ps refusal))
    → IsReadRefused left after most most_after held pids index refuses (faults.Passing fault)
passing_refused refuses left after most most_after held ps pids index (passes.Outside fault) same said = tt
passing_refused refuses left after most most_after held ps pids index (passes.Refused fault) same said =
    subst (λ (of : List ℕ). IsMemory fault ⊎ IsEarly left after most most_after held (λ file. IsFirstStreamFault file of fault)) same said

-- ---- at the end of a source

module _ (left after : Option (List ℕ)) (most most_after : ℕ) (held : List ℕ) (ended : List PesUnit) (packets : PassingPackets)
    (at_end : IsWhole left after most most_after held (λ file. StandsAtEnd file ended packets × (length file ≡ 188 * packets.read + length held))) (few : most ≤ source_bytes_most) where
  -- places in it have 64 bits
  pub end_place : 188 * packets.read + length held ≤ source_bytes_most
  end_place = omega (arith, few, at_end.whole.1, length-append at_end.seen held, passes_size left after most most_after [] at_end.seen held at_end.passes)

  module _ (bytes : ℕ) (last : Option PesUnit) (bytes_are : bytes ≡ 188 * packets.read + length held) (same : last ≡ held_of packets) where
    abbrev all : List PesUnit
    all = all_of ended last

    pub last_is : IsLast ended last bytes
    last_is =
        let stands = at_end.whole.0 in
        record {
          none = λ no. stands.split.none (sym same ∙ no);
          count_few = omega (arith, stands.few, end_place);
          size = omega (arith, bytes_are, ap (λ (o : Option PesUnit). size_of (ended ++ option_to_list o)) same, stands.few_bytes);
        }

    module _ (pids : List ℕ) (index : ℕ) (pids_are : pids_of packets ≡ pids) (index_is : index_of packets ≡ index) where
      abbrev file : List ℕ
      file = at_end.seen ++ held

      has : HasPackets file pids index all
      has =
          let stands = at_end.whole.0 in
          record {
            pid = stands.pid;
            pid_is = subst (λ (ps : List ℕ). slice_get ps index ≡ Some stands.pid) pids_are (subst (λ (n : ℕ). slice_get (pids_of packets) n ≡ Some stands.pid) index_is stands.pid_is);
            packets_are = ap (λ (o : Option PesUnit). ended ++ option_to_list o) same ∙ sym stands.split.packets;
          }

      sound : AreStreamsSound file pids
      sound = subst (AreStreamsSound file) pids_are at_end.whole.0.sound

      size : length file ≡ bytes
      size = at_end.whole.1 ∙ sym bytes_are

      whole : (P : List ℕ → Type 0) → P file → IsWhole left after most most_after held P
      whole P is = record { seen = at_end.seen; passes = at_end.passes; end = at_end.end; whole = is }

      -- what is said of its PES packets is said of the stream
      pub of_stream : {A : Type 0} → (says : List PesUnit → A → Type 0) (answer : A) → IsOfPackets bytes all says answer
          → IsWhole left after most most_after held (λ file. IsOfStream file pids index says answer)
      of_stream says answer is = whole (λ f. IsOfStream f pids index says answer) (record {
        packets = all;
        sound_stream = record { sound = sound; has = has; short = omega (arith, size, is.within.short); few = is.within.few };
        said = is.said;
      })

      -- so is that they are too many
      pub over_limit : IsOver bytes all → IsWhole left after most most_after held (λ file. IsOverLimit file pids index)
      over_limit (inl long) = whole (λ f. IsOverLimit f pids index) (IsOverLimit.long (omega (arith, size, long)))
      over_limit (inr many) = whole (λ f. IsOverLimit f pids index) (IsOverLimit.many_packets all sound has (omega (arith, size, many.0)) many.1)
