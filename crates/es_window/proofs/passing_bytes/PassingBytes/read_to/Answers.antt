use Rattle.std.proofs.Common.{◌⊎◌, ℕ, List, subst}
use Rattle.ts_demux.specs.Demux.{IsFirstStreamFault}
use Rattle.ts_demux.specs.Faults.{IsMemory}
use Rattle.ts_demux.specs.Pass.{IsEarly, OnRefused}
use Rattle.es_window.proofs.passing_bytes.PassingBytes.read_to.Goals as goal

pub returns-in-Err-clause-refused : goal.returns-in-Err-clause-refused
returns-in-Err-clause-refused g c left most has =
    subst (λ (pids : List ℕ). OnRefused c.in-Err.fault (λ refusal. IsMemory refusal
    ⊎ IsEarly left (g.S.Source.left c.step.new.source) most (g.S.Source.most c.step.new.source) c.step.new.buffer (λ file. IsFirstStreamFault file pids refusal)))
    c.loop-to.invariant.pids (c.in-Err.ensures.refused left most (c.loop-to.invariant.read left most has))
