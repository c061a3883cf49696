-- Times that aren't far from 0, so that numbers of 64 bits hold them (this project's).
use Rattle.std.specs.Prelude.{ℕ, ◌+◌, ◌*◌, ◌^◌, List, All, IfSome, ℤ, pos, neg_ℤ, ◌≤ℤ◌}
use Rattle.audio_frames.specs.declared.pes_start.PesStart.{PesStart}

-- a time no farther from 0 than the first round of the clock and a half round for each of so many packets, in units of 1/90,000 s
pub record IsNear (count : ℕ) (time : ℤ) : Type 0 where
  pub low : neg_ℤ (pos (2 ^ 33 + count * 2 ^ 32)) ≤ℤ time
  pub high : time ≤ℤ pos (2 ^ 33 + count * 2 ^ 32)

-- the times of packets are such
abbrev pub AreNear : ℕ → List PesStart → Type 0
AreNear count starts = All (λ start. IfSome start.time (IsNear count)) starts

-- a time in ticks that is far from the ends of 64 bits
pub record IsTime (time : ℤ) : Type 0 where
  pub least : neg_ℤ (pos (9 * 10 ^ 18)) ≤ℤ time
  pub most : time ≤ℤ pos (9 * 10 ^ 18)
