-- Bits that went into a writer that goes on, one call behind the other.
use Rattle.std.proofs.Common.{◌≡◌, ℕ, false, List, [], ◌++◌, refl, sym, ◌∙◌, subst, append-nil}
use Rattle.shelf_io.specs.Sink.{Told}
use Rattle.bit_cursor.specs.declared.bit_writer.BitWriter.{BitWriter}
use Rattle.bit_cursor.specs.BitWriter.{is_stopped}
use Rattle.bit_cursor.proofs.Gets.{gets_none}
use Rattle.bit_cursor.proofs.Composed.{gets_twice}
use Rattle.macroblock_writer.specs.Private.Going.{GoesOn}

module _ {K : Type 0} {written : K → Told} where
  pub goes-then : {a b c : BitWriter K} {xs ys : List ℕ} → GoesOn written a b xs → GoesOn written b c ys → GoesOn written a c (xs ++ ys)
  goes-then first then = record { puts = gets_twice first.puts then.puts; goes = then.goes; same_sink = then.same_sink ∙ first.same_sink }

  pub goes-as : {a b : BitWriter K} {xs ys : List ℕ} → GoesOn written a b xs → xs ≡ ys → GoesOn written a b ys
  goes-as {a} {b} goes e = subst (λ (bits : List ℕ). GoesOn written a b bits) e goes

  pub goes-nowhere : (a : BitWriter K) → is_stopped a ≡ false → GoesOn written a a []
  goes-nowhere a goes = record { puts = gets_none (written (a.sink.now)) a.waiting [] a.waiting (sym (append-nil a.waiting)); goes = goes; same_sink = refl }
