-- What a sink in memory is, as contracts see it.
use Rattle.std.specs.Prelude.{ℕ, List, ◌++◌, Result, Ok, Err, Contains, refl}
use Rattle.std.specs.Coded.{Coded, code_by, coded×, coded_ℕ, coded_list}
use Rattle.shelf_io.specs.declared.fault.Fault.{Fault}
use Rattle.shelf_kinds.specs.Counted.{faults_after_put}
use Rattle.shelf_io.specs.Counts.{one_more}

-- what was written, the count of faults, how many calls of put there were, how many of them after the last fault, and the
-- numbers of those that fail
pub record SinkState : Type 0 where
  pub written : List ℕ
  pub faults : ℕ
  pub calls : ℕ
  pub since_fault : ℕ
  pub failing : List ℕ

-- by this code a proof tells sinks apart
abbrev pub sink_code : Coded SinkState
sink_code =
    code_by (List ℕ × (ℕ × (ℕ × (ℕ × List ℕ)))) (coded× (coded_list coded_ℕ) (coded× coded_ℕ (coded× coded_ℕ (coded× coded_ℕ (coded_list coded_ℕ)))))
    (λ s. (s.written, (s.faults, (s.calls, (s.since_fault, s.failing)))))
    (λ p. record { written = p.0; faults = p.1.0; calls = p.1.1.0; since_fault = p.1.1.1.0; failing = p.1.1.1.1 }) (λ _. refl)

-- the next call is one of those that fail
abbrev pub FailsNext : SinkState → Type 0
FailsNext sink = Contains sink.failing (one_more sink.calls)

-- after a call of put with this piece
abbrev pub after_put : SinkState → Result ℕ Fault → List ℕ → SinkState
after_put sink (Ok n) piece = record sink { written = sink.written ++ piece; calls = one_more sink.calls; since_fault = one_more sink.since_fault }
after_put sink (Err fault) piece = record sink {
  faults = faults_after_put {T = ℕ} sink.faults (Err fault);
  calls = one_more sink.calls;
  since_fault = 0;
}
