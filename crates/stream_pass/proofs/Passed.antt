-- A stream whose PES packets pass, one packet further and at the end.
use Rattle.std.proofs.Common.{◌≡◌, ℕ, ◌+◌, ◌<◌, ◌≤◌, List, [], ◌∷◌, ◌++◌, length, Option, Some, None, Result, Ok, Err, IfErr, IfOk, MatchResult}
use Rattle.std.proofs.Common.{refl, sym, ap, ◌∙◌, subst, arith, append_assoc, length-append, length-drop}
use Rattle.std.specs.Option.{option_to_list}
use Rattle.std.proofs.lemmas.List.Sums.{sum_by-append, sum_by-cons}
use Rattle.std.proofs.lemmas.Option.{same_Some}
use Rattle.pes_units.specs.PesHeader.{header_length}
use Rattle.ts_demux.specs.declared.demuxed.PesUnit.{PesUnit}
use Rattle.elementary_streams.specs.Packets.{joined, pes_payload_of}
use Rattle.pes_passing.specs.PassingPackets.{AreSplit, size_of}
use Rattle.stream_pass.specs.declared.limited_walk.Passed.{Passed}
use Rattle.stream_pass.specs.declared.limited_walk.State.{State}
use Rattle.stream_pass.specs.declared.limited_walk.State.TheVariants as states
use Rattle.stream_pass.specs.declared.limits.TheConstants.{FILE_BYTES_MOST, PES_PACKETS_MOST}
use Rattle.stream_pass.specs.declared.read_fault.ReadFault.{ReadFault}
use Rattle.stream_pass.specs.declared.read_fault.ReadFault.TheVariants as faults
use Rattle.stream_pass.specs.declared.stream_walk.WalkFault.{WalkFault}
use Rattle.stream_pass.specs.declared.stream_walk.WalkFault.TheVariants as walks
use Rattle.stream_pass.specs.StreamWalk.{AreFew, IsRefusal}
use Rattle.stream_pass.specs.Private.Passed.{all_of, AreReadTo, AreTaken, IsEndRefused, IsHeld, IsLast, IsNext, IsOfPackets, IsOver, IsWithin}

-- ---- how many there are

-- the bytes behind headers are no more than all
pub joined_few : (packets : List PesUnit) → length (joined packets) ≤ size_of packets
joined_few [] = omega arith
joined_few (packet ∷ packets) =
    omega (
      arith,
      length-append (pes_payload_of packet) (joined packets),
      length-drop (header_length packet.bytes) packet.bytes,
      joined_few packets,
      sum_by-cons (λ (p : PesUnit). length p.bytes) packet packets,
    )

-- those before others
pub few_front : (packets more : List PesUnit) → AreFew (packets ++ more) → AreFew packets
few_front packets more few = record {
  packets_few = omega (arith, few.packets_few, length-append packets more);
  bytes_few = omega (arith, few.bytes_few, sum_by-append (λ (p : PesUnit). length p.bytes) packets more);
}

-- ---- one packet more

module _ {W F : Type 0} (has_read : List PesUnit → W → Type 0) (refuses : List PesUnit → F → Type 0) where
  -- a fault stays the first
  pub held_longer : (packets more : List PesUnit) (fault : F) → IsHeld refuses packets fault → IsHeld refuses (packets ++ more) fault
  held_longer packets more fault is = record {
    before = is.before;
    packet = is.packet;
    later = is.later ++ more;
    split = ap (λ (all : List PesUnit). all ++ more) is.split ∙ append_assoc is.before (is.packet ∷ is.later) more;
    first = is.first;
  }

  pub held_here : (packets : List PesUnit) (packet : PesUnit) (fault : F) → ((next : PesUnit) (more : List PesUnit) → refuses (packets ++ packet ∷ next ∷ more) fault)
      → IsHeld refuses (packets ++ packet ∷ []) fault
  held_here packets packet fault first = record { before = packets; packet = packet; later = []; split = refl; first = first }

  -- what the state is
  pub taken_is : (packets : List PesUnit) (state : State W F) (walk : W) → state ≡ states.Taken walk → AreReadTo has_read refuses packets state → has_read packets walk
  taken_is packets state walk is read = subst (AreReadTo has_read refuses packets) is read

  pub held_is : (packets : List PesUnit) (state : State W F) (fault : F) → state ≡ states.Refused fault → AreReadTo has_read refuses packets state → IsHeld refuses packets fault
  held_is packets state fault is read = subst (AreReadTo has_read refuses packets) is read

  -- it is counted
  pub added : (ended : List PesUnit) (packet : PesUnit) (old : Passed W F) (state : State W F) (count bytes : ℕ) → count ≡ old.count + 1 → bytes ≡ old.bytes + length packet.bytes
      → AreTaken has_read refuses ended old → (AreFew (ended ++ packet ∷ []) → AreReadTo has_read refuses (ended ++ packet ∷ []) state)
      → AreTaken has_read refuses (ended ++ packet ∷ []) (record { state = state; count = count; bytes = bytes })
  added ended packet old state count bytes count_is bytes_are taken read = record {
    count_is = omega (arith, count_is, taken.count_is, length-append ended (packet ∷ []));
    bytes_are = omega (
      arith,
      bytes_are,
      taken.bytes_are,
      sum_by-append (λ (p : PesUnit). length p.bytes) ended (packet ∷ []),
      sum_by-cons (λ (p : PesUnit). length p.bytes) packet [],
    );
    read = read;
  }

-- the packet that is held
module _ (ended : List PesUnit) (packet : PesUnit) (held : Option PesUnit) (is : IsNext ended packet held) where
  pub some_held : held ≡ None → ⊥
  some_held none = let bad : Some packet ≡ None = sym is.held_is ∙ none in cc

  pub given_is : (given : PesUnit) → held ≡ Some given → packet ≡ given
  given_is given same = same_Some packet given (sym is.held_is ∙ same)

-- ---- at the end

-- a packet with a fault is followed by another one
pub refused_at_end : {F : Type 0} → (refuses : List PesUnit → F → Type 0) (ended : List PesUnit) (last : Option PesUnit) (fault : F) → (last ≡ None → ended ≡ []) → IsHeld refuses ended fault
    → refuses (ended ++ option_to_list last) fault
refused_at_end refuses ended None fault none is = absurd (let bad : is.before ++ is.packet ∷ is.later ≡ [] = sym is.split ∙ none refl in
    omega (arith, ap length bad, length-append is.before (is.packet ∷ is.later)))
refused_at_end {F} refuses ended (Some last) fault none is = by_later is.later is.split
  where
    by_next : (next : PesUnit) (more all : List PesUnit) → all ≡ is.before ++ is.packet ∷ next ∷ more → refuses all fault
    by_next next more all same = subst (λ (packets : List PesUnit). refuses packets fault) (sym same) (is.first next more)

    by_later : (later : List PesUnit) → ended ≡ is.before ++ is.packet ∷ later → refuses (ended ++ last ∷ []) fault
    by_later [] split = by_next last [] (ended ++ last ∷ []) (ap (λ (packets : List PesUnit). packets ++ last ∷ []) split ∙ append_assoc is.before (is.packet ∷ []) (last ∷ []))
    by_later (next ∷ more) split = by_next next (more ++ last ∷ []) (ended ++ last ∷ [])
        (ap (λ (packets : List PesUnit). packets ++ last ∷ []) split ∙ append_assoc is.before (is.packet ∷ next ∷ more) (last ∷ []))

module _ (ended : List PesUnit) (last : Option PesUnit) (bytes count : ℕ) (is : IsLast ended last bytes) (count_is : count ≡ length ended) where
  pub all_count : length (all_of ended last) ≡ count + length (option_to_list last)
  all_count = omega (arith, count_is, length-append ended (option_to_list last))

  module _ (short : bytes ≤ FILE_BYTES_MOST) where
    pub too_many : PES_PACKETS_MOST < count + length (option_to_list last) → PES_PACKETS_MOST < length (all_of ended last)
    too_many many = omega (arith, all_count, many)

    module _ (few : count + length (option_to_list last) ≤ PES_PACKETS_MOST) where
      pub within_all : IsWithin bytes (all_of ended last)
      within_all = record { short = short; few = omega (arith, all_count, few) }

      pub few_all : AreFew (all_of ended last)
      few_all = record { packets_few = omega (arith, all_count, few); bytes_few = omega (arith, short, is.size) }

      pub few_ended : AreFew ended
      few_ended = few_front ended (option_to_list last) few_all

      pub all_are : AreSplit (all_of ended last) ended last
      all_are = record { packets = refl; none = is.none }

-- a walk's refusal
pub refusal_is : {F : Type 0} → (refuses : F → Type 0) (found : WalkFault F) (fault : F) → found ≡ walks.Refused fault → IsRefusal refuses found → refuses fault
refusal_is refuses found fault is refused = subst (IsRefusal refuses) is refused

-- ---- what is answered then

module _ {R P F : Type 0} (bytes : ℕ) (packets : List PesUnit) (reads : List PesUnit → R → Type 0) (refuses : List PesUnit → F → Type 0) where
  pub on_read : (result : Result R (ReadFault P F)) → MatchResult result (IsOfPackets bytes packets reads) (IsEndRefused bytes packets refuses) → (Q : R → Type 0)
      → ((read : R) → IsOfPackets bytes packets reads read → Q read) → IfOk result Q
  on_read (Ok read) said Q on = on read said
  on_read (Err fault) said Q on = tt

  pub on_refused : (result : Result R (ReadFault P F)) → MatchResult result (IsOfPackets bytes packets reads) (IsEndRefused bytes packets refuses) → (Q : ReadFault P F → Type 0)
      → (IsOver bytes packets → Q faults.Limit) → ((fault : F) → IsOfPackets bytes packets refuses fault → Q (faults.Refused fault)) → Q faults.OutOfMemory → IfErr result Q
  on_refused (Ok read) said Q over on memory = tt
  on_refused (Err (faults.Passing fault)) said Q over on memory = absurd said
  on_refused (Err faults.Limit) said Q over on memory = over said
  on_refused (Err (faults.Refused fault)) said Q over on memory = on fault said
  on_refused (Err faults.OutOfMemory) said Q over on memory = memory

  pub never_passing : (result : Result R (ReadFault P F)) → MatchResult result (IsOfPackets bytes packets reads) (IsEndRefused bytes packets refuses) → (fault : P)
      → result ≡ Err (faults.Passing fault) → ⊥
  never_passing result said fault bad =
      subst (λ (r : Result R (ReadFault P F)). MatchResult r (IsOfPackets bytes packets reads) (IsEndRefused bytes packets refuses)) bad said
