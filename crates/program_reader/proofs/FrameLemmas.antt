-- Frames that a payload byte doesn't count with.
use Rattle.std.proofs.Common.{◌≡◌, ℕ, ◌+◌, ◌≤◌, nat_lt, true, false, List, ◌∷◌, refl, arith}
use Rattle.std.proofs.lemmas.Bool.{ltb-false, le-ltb}
use Rattle.audio_frames.specs.declared.frame.Frame.{Frame}
use Rattle.program_reader.specs.Audio.{time_of_byte}

-- a frame that ends before a place tells nothing of the places behind
pub frame_passed : (frame : Frame) (frames : List Frame) (place later : ℕ) → place ≤ later → nat_lt place (frame.at + frame.len) ≡ false →
    time_of_byte frames later ≡ time_of_byte (frame ∷ frames) later
frame_passed frame frames place later le ended =
    let end : frame.at + frame.len ≤ place = ltb-false place (frame.at + frame.len) ended in
    let past : nat_lt later (frame.at + frame.len) ≡ false = le-ltb later (frame.at + frame.len) (omega (arith, end, le)) in
    rw past refl

pub first_time : (frame : Frame) (frames : List Frame) (place : ℕ) → nat_lt place (frame.at + frame.len) ≡ true → time_of_byte (frame ∷ frames) place ≡ frame.time
first_time frame frames place is = rw is refl
