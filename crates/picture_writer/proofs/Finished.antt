-- What a sink got when a writer over it stopped or was finished, and what it got before.
use Rattle.std.proofs.Common.{
  ◌≡◌,
  ℕ,
  ◌-◌,
  ◌^◌,
  ◌<◌,
  ◌≤◌,
  ◌≢◌,
  List,
  [],
  ◌++◌,
  Result,
  Ok,
  Err,
  OnOk,
  OnErr,
  IsErrOf,
  IsErrAnd,
  IsErr,
  true,
  false,
  take,
  drop,
  sym,
  ap,
  subst,
  inl,
  inr,
  ◌∙◌,
  arith,
  append_assoc,
  append-nil,
}
use Rattle.std.proofs.lemmas.Bool.{cases_lt}
use Rattle.shelf_io.specs.declared.fault.Fault.{Fault}
use Rattle.shelf_io.specs.declared.fault.Fault.TheVariants.{Failed, Missing}
use Rattle.shelf_io.specs.Causes.{SinkCauses}
use Rattle.shelf_io.specs.Counts.{Rose}
use Rattle.shelf_io.specs.Sink.{Told, with_bytes, AddsPrefix}
use Rattle.shelf_io.proofs.Written.{with_bytes-twice}
use Rattle.bit_lists.specs.Fields.{AreBytes, bit_list}
use Rattle.bit_lists.proofs.ByteLemmas.{AreBytes-append, AreBytes-take, bit_list-append, bit_list-take}
use Rattle.bit_lists.proofs.PrefixLemmas.{IsPrefix-append, IsPrefix-behind}
use Rattle.bit_cursor.specs.declared.bit_writer.BitWriter.{BitWriter}
use Rattle.bit_cursor.specs.BitWriter.{AddsBits, GetsFront, Writes, told_by, waiting_in, sink_of}
use Rattle.bit_cursor.proofs.Composed.{gets_then_front}
use Rattle.picture_writer.specs.WrittenPicture.{AddsFront}
use Rattle.shelf_io.proofs.Counted.{rose_later}

-- ---- the exit of a `?`

-- no answer Ok
pub no_ok : {T E : Type 0} (P : Type 0) (r : Result T E) → IsErr r → OnOk r P
no_ok P (Ok x) is = absurd (let e : false ≡ true = is in cc)
no_ok P (Err e) is = tt

-- the same fault
pub same_fault : {T E P : Type 0} (e : E) (r : Result T E) → IsErrAnd r (λ f. f ≡ e) → P → OnErr r P
same_fault e (Ok x) is holds = tt
same_fault e (Err f) is holds = holds

pub same_causes : {K T U : Type 0} {faults : K → ℕ} {first last : K} (e : Fault) (q : Result U Fault) (r : Result T Fault) → q ≡ Err e → IsErrAnd r (λ f. f ≡ e)
    → SinkCauses faults (IsErrOf q Failed) (IsErrOf q Missing) first last → SinkCauses faults (IsErrOf r Failed) (IsErrOf r Missing) first last
same_causes e q (Ok x) was is causes = absurd is
same_causes e q (Err f) was is causes = record {
  failed_rose = λ failed. causes.failed_rose (let same : f ≡ Failed = (let h = failed in cc) in let both : q ≡ Err Failed = was ∙ ap Err (sym is ∙ same) in both);
  never_missing = λ missing. causes.never_missing (let same : f ≡ Missing = (let h = missing in cc) in let both : q ≡ Err Missing = was ∙ ap Err (sym is ∙ same) in both);
  faults_grow = causes.faults_grow;
}

-- ---- a call behind another one

pub causes_behind : {K : Type 0} {faults : K → ℕ} {F G M N : Type 0} {first mid last : K} → SinkCauses faults F M first mid → SinkCauses faults G N mid last → SinkCauses faults G N first last
causes_behind {faults} {first} {mid} {last} a b = record {
  failed_rose = λ failed. rose_later (faults first) (faults mid) (faults last) a.faults_grow b.faults_grow (b.failed_rose failed);
  never_missing = b.never_missing;
  faults_grow = omega (arith, a.faults_grow, b.faults_grow);
}

module _ {K : Type 0} {written : K → Told} {faults : K → ℕ} {keeps : K → K → Type 0} where
  -- ---- what the sink became, when a writer was made over it, put bits and was let go

  pub writer_causes : {T : Type 0} {a b : BitWriter K} {bits : List ℕ} (r : Result T Fault) (first : K) {last : K} → (sink_of a).now ≡ first → last ≡ (sink_of b).now
      → Writes written faults keeps a b r bits
      → SinkCauses faults (IsErrOf r Failed) (IsErrOf r Missing) first last
  writer_causes {b} r first is back call = rw (back, ← is) (record { failed_rose = call.failed; never_missing = call.never_missing; faults_grow = call.counts })

  pub writer_front : {T : Type 0} {a b : BitWriter K} {bits : List ℕ} (r : Result T Fault) (first : K) {last : K} → (sink_of a).now ≡ first → waiting_in a ≡ [] → last ≡ (sink_of b).now
      → Writes written faults keeps a b r bits → OnErr r (AddsFront (written first) (written last) bits)
  writer_front {a} {b} {bits} r first is none back call =
      rw (back, ← is) (subst (λ (waited : List ℕ). OnErr r (GetsFront (told_by written a) (told_by written b) waited bits)) none call.err)

  pub writer_keeps : {T : Type 0} {a b : BitWriter K} {bits : List ℕ} (r : Result T Fault) (first : K) {last : K} → (sink_of a).now ≡ first → last ≡ (sink_of b).now
      → Writes written faults keeps a b r bits
      → keeps first last
  writer_keeps r first is back call = rw (back, ← is) call.kept

  -- ---- and was finished

  pub finish_causes : {T U : Type 0} {a b : BitWriter K} {x : T} {bits : List ℕ} (r : Result U Fault) (first out : K) {last : K} → (sink_of a).now ≡ first → last ≡ out
      → Writes written faults keeps a b (Ok x) bits
      → (IsErrOf r Failed → Rose (faults (sink_of b).now) (faults out)) → r ≢ Err Missing → faults (sink_of b).now ≤ faults out → SinkCauses faults (IsErrOf r Failed) (IsErrOf r Missing) first last
  finish_causes {a} {b} r first out is back call failed never counts = rw (back, ← is) (record {
    failed_rose = λ e. rose_later (faults (sink_of a).now) (faults (sink_of b).now) (faults out) call.counts counts (failed e);
    never_missing = never;
    faults_grow = omega (arith, call.counts, counts);
  })

  pub finish_front : {T U : Type 0} {a b : BitWriter K} {x : T} {bits : List ℕ} (r : Result U Fault) (first out : K) {last : K} → (sink_of a).now ≡ first → waiting_in a ≡ [] → last ≡ out
      → Writes written faults keeps a b (Ok x) bits → OnErr r (GetsFront (told_by written b) (written out) (waiting_in b) []) → OnErr r (AddsFront (written first) (written last) bits)
  finish_front {a} {b} {bits} (Ok y) first out is none back call ends = tt
  finish_front {a} {b} {bits} (Err e) first out is none back call ends =
      let whole : GetsFront (told_by written a) (written out) (waiting_in a) (bits ++ []) = gets_then_front call.ok ends in
      rw (back, ← is) (subst (λ (waited : List ℕ). GetsFront (told_by written a) (written out) waited bits) none
      (subst (λ (put : List ℕ). GetsFront (told_by written a) (written out) (waiting_in a) put) (append-nil bits) whole))

  pub finish_keeps : {T : Type 0} {a b : BitWriter K} {x : T} {bits : List ℕ} (first out : K) {last : K} → ((one two three : K) → keeps one two → keeps two three → keeps one three)
      → (sink_of a).now ≡ first → last ≡ out
      → Writes written faults keeps a b (Ok x) bits → keeps (sink_of b).now out → keeps first last
  finish_keeps {a} {b} first out keeps_on is back call kept = rw (back, ← is) (keeps_on (sink_of a).now (sink_of b).now out call.kept kept)

-- ---- bytes before that

-- bytes, then bits in whole bytes
pub adds_behind : (told mid after : Told) (bytes bits : List ℕ) → AreBytes bytes → mid ≡ with_bytes told bytes → AddsBits mid after bits → AddsBits told after (bit_list bytes ++ bits)
adds_behind told mid after bytes bits are first adds = record {
  bytes = bytes ++ adds.bytes;
  are_bytes = AreBytes-append bytes adds.bytes are adds.are_bytes;
  at_the_end = adds.at_the_end ∙ ap (λ t. with_bytes t adds.bytes) first ∙ with_bytes-twice told bytes adds.bytes;
  spelled = bit_list-append bytes adds.bytes ∙ ap (λ b. bit_list bytes ++ b) adds.spelled;
}

pub front_behind : (told mid after : Told) (bytes bits : List ℕ) → AreBytes bytes → mid ≡ with_bytes told bytes → AddsFront mid after bits → AddsFront told after (bit_list bytes ++ bits)
front_behind told mid after bytes bits are first adds = record {
  bytes = bytes ++ adds.bytes;
  are_bytes = AreBytes-append bytes adds.bytes are adds.are_bytes;
  at_the_end = adds.at_the_end ∙ ap (λ t. with_bytes t adds.bytes) first ∙ with_bytes-twice told bytes adds.bytes;
  front = rw (bit_list-append bytes adds.bytes) (IsPrefix-behind (bit_list bytes) (bit_list adds.bytes) bits adds.front);
}

-- a front of the bytes alone
pub front_within : (told after : Told) (bytes more : List ℕ) → AreBytes bytes → AddsPrefix told after bytes → AddsFront told after (bit_list bytes ++ more)
front_within told after bytes more are (k, few, adds) =
    let split : bit_list bytes ++ more ≡ bit_list (take k bytes) ++ (bit_list (drop k bytes) ++ more) =
    ap (λ b. b ++ more) (bit_list-take k bytes) ∙ append_assoc (bit_list (take k bytes)) (bit_list (drop k bytes)) more in
    record {
      bytes = take k bytes;
      are_bytes = AreBytes-take k bytes are;
      at_the_end = adds;
      front = rw split (IsPrefix-append (bit_list (take k bytes)) (bit_list (drop k bytes) ++ more));
    }
