-- Times of PES packets on one axis, one behind the other; no public clause cites these.
use Rattle.std.specs.Prelude.{List, [], ◌∷◌, unwrap_or, ℤ}
use Rattle.audio_frames.specs.declared.pes_start.PesStart.{PesStart}

-- the last time of some packets, or the one before them
abbrev pub last_time : ℤ → List PesStart → ℤ
last_time before [] = before
last_time before (start ∷ starts) = last_time (unwrap_or start.time before) starts
