-- Bits that went into a writer that goes on.
use Rattle.std.specs.Prelude.{◌≡◌, ℕ, List, false}
use Rattle.shelf_io.specs.Sink.{Told}
use Rattle.bit_cursor.specs.declared.bit_writer.BitWriter.{BitWriter}
use Rattle.bit_cursor.specs.BitWriter.{Puts, is_stopped, sink_of}

-- these bits were put, and more may follow
pub record GoesOn {K : Type 0} (written : K → Told) (old new : BitWriter K) (bits : List ℕ) : Type 0 where
  pub puts : Puts written old new bits
  pub goes : is_stopped new ≡ false
  pub same_sink : (sink_of new).ghost_name ≡ (sink_of old).ghost_name
