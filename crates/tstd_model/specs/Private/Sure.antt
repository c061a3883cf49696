-- Which faults a decoder surely has not; no public clause cites these.
use Rattle.std.specs.Prelude.{IsTrue}
use Rattle.tstd_model.specs.declared.sure.Sure.{Sure}
use Rattle.tstd_model.specs.Decoder.{BufferKind, Video, Audio, System}

-- removals are made from the buffer behind TB
abbrev pub IsJudged : BufferKind → Type 0
IsJudged (Video vbv) = Unit {0}
IsJudged Audio = Unit {0}
IsJudged System = ⊥

-- nothing is sure
pub record IsNothing (sure : Sure) : Type 0 where
  pub tb : IsTrue sure.tb → ⊥
  pub main : IsTrue sure.main → ⊥
  pub found : IsTrue sure.found → ⊥
  pub held : IsTrue sure.held → ⊥

-- what is sure by two
pub record AreBoth (one other both : Sure) : Type 0 where
  pub tb : IsTrue both.tb → IsTrue one.tb × IsTrue other.tb
  pub main : IsTrue both.main → IsTrue one.main × IsTrue other.main
  pub found : IsTrue both.found → IsTrue one.found × IsTrue other.found
  pub held : IsTrue both.held → IsTrue one.held × IsTrue other.held
