-- What a sink that counts is, as contracts see it.
use Rattle.std.specs.Prelude.{ℕ, ◌+◌, List, length, Result, Ok, Err, refl}
use Rattle.std.specs.Coded.{Coded, code_by, coded×, coded_ℕ}
use Rattle.shelf_io.specs.declared.fault.Fault.{Fault}
use Rattle.shelf_io.specs.Counts.{one_more}

-- the number of the bytes that were written, and the count of faults
pub record CountState : Type 0 where
  pub count : ℕ
  pub faults : ℕ

-- by this code a proof tells sinks apart
abbrev pub count_code : Coded CountState
count_code = code_by (ℕ × ℕ) (coded× coded_ℕ coded_ℕ) (λ s. (s.count, s.faults)) (λ p. record { count = p.0; faults = p.1 }) (λ _. refl)

-- after a call of put with this piece: its only fault is a number that would pass its type's end
abbrev pub after_put : CountState → Result ℕ Fault → List ℕ → CountState
after_put sink (Ok n) piece = record sink { count = sink.count + length piece }
after_put sink (Err fault) piece = record sink { faults = one_more sink.faults }
