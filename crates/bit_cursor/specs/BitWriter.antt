-- What a writer of bits puts into its sink, and what waits in it. The first bit of a byte is its most significant one
-- (bslbf and uimsbf of ISO/IEC 13818-1, 2.2.6, and 13818-2, 5.2).
use Rattle.std.specs.Prelude.{◌≡◌, ◌≢◌, ℕ, ◌-◌, ◌%◌, ◌≤◌, Bool, List, ◌++◌, Result, Err, OnOk, OnErr, IsErrOf, is_err, length, replicate}
use Rattle.std.specs.Borrow.{MutBor}
use Rattle.shelf_io.specs.declared.fault.Fault.{Fault}
use Rattle.shelf_io.specs.declared.fault.Fault.TheVariants.{Failed, Missing}
use Rattle.shelf_io.specs.Counts.{Rose}
use Rattle.shelf_io.specs.Sink.{Told, with_bytes}
use Rattle.bit_lists.specs.Bits.{IsPrefix}
use Rattle.bit_lists.specs.Fields.{AreBytes, bit_list}
use Rattle.bit_cursor.specs.declared.bit_writer.BitWriter.{BitWriter}

-- the sink that it borrows
abbrev pub sink_of : {K : Type 0} → BitWriter K → MutBor K
sink_of writer = writer.sink

-- what the sink tells of what was written to it
abbrev pub told_by : {K : Type 0} → (K → Told) → BitWriter K → Told
told_by written writer = written (sink_of writer).now

-- the bits that were put and that the sink hasn't got yet
abbrev pub waiting_in : {K : Type 0} → BitWriter K → List ℕ
waiting_in writer = writer.waiting

-- a fault came
abbrev pub is_stopped : {K : Type 0} → BitWriter K → Bool
is_stopped writer = writer.stopped

-- how many bits stand behind the last whole byte
abbrev pub odd_bits : {K : Type 0} → BitWriter K → ℕ
odd_bits writer = length (waiting_in writer) % 8

-- the least zero bits to a whole byte
abbrev pub zeros_to_byte : ℕ → List ℕ
zeros_to_byte odd = replicate ((8 - odd) % 8) 0

-- a sink got bytes: their bits and then those that wait now are the bits that waited and then those that were put
pub record Gets (told told_after : Told) (waited put waits : List ℕ) : Type 0 where
  pub bytes : List ℕ
  pub are_bytes : AreBytes bytes
  pub at_the_end : told_after ≡ with_bytes told bytes
  pub in_order : bit_list bytes ++ waits ≡ waited ++ put

-- a sink got bytes whose bits are a front of the bits that waited and then those that were put
pub record GetsFront (told told_after : Told) (waited put : List ℕ) : Type 0 where
  pub bytes : List ℕ
  pub are_bytes : AreBytes bytes
  pub at_the_end : told_after ≡ with_bytes told bytes
  pub front : IsPrefix (bit_list bytes) (waited ++ put)

-- between two states these bits were put
abbrev pub Puts : {K : Type 0} → (K → Told) → BitWriter K → BitWriter K → List ℕ → Type 0
Puts written old new bits = Gets (told_by written old) (told_by written new) (waiting_in old) bits (waiting_in new)

-- a fault came while these bits were put, and a front of all that was put went out
abbrev pub PutsFront : {K : Type 0} → (K → Told) → BitWriter K → BitWriter K → List ℕ → Type 0
PutsFront written old new bits = GetsFront (told_by written old) (told_by written new) (waiting_in old) bits

-- How a call that puts these bits ends: they were put, or a fault of the sink's own stopped the writer and a front of
-- all that was put went out.
pub record Writes {K T : Type 0} (written : K → Told) (faults : K → ℕ) (keeps : K → K → Type 0) (old new : BitWriter K) (result : Result T Fault) (bits : List ℕ) : Type 0 where
  pub ok : OnOk result (Puts written old new bits)
  pub err : OnErr result (PutsFront written old new bits)
  pub stopped : is_stopped new ≡ is_err result
  pub failed : IsErrOf result Failed → Rose (faults (sink_of old).now) (faults (sink_of new).now)
  pub never_missing : result ≢ Err Missing
  pub counts : faults (sink_of old).now ≤ faults (sink_of new).now
  pub kept : keeps (sink_of old).now (sink_of new).now
  pub same_sink : (sink_of new).ghost_name ≡ (sink_of old).ghost_name

-- a sink got whole bytes with these bits: what a writer put that was made and finished between the two states
pub record AddsBits (told told_after : Told) (bits : List ℕ) : Type 0 where
  pub bytes : List ℕ
  pub are_bytes : AreBytes bytes
  pub at_the_end : told_after ≡ with_bytes told bytes
  pub spelled : bit_list bytes ≡ bits
