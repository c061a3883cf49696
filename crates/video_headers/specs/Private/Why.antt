-- Reasons for refusals, as kinds of the grammar and as faults at a place.
use Rattle.std.specs.Prelude.{ℕ}
use Rattle.picture_grammar.specs.Refusal.{Refusal}
use Rattle.video_headers.specs.declared.fault.HeadFault.{HeadFault}
use Rattle.video_headers.specs.declared.fault.HeadFault.TheVariants as fault
use Rattle.video_headers.specs.declared.why.Why.{Why}
use Rattle.video_headers.specs.declared.why.Why.TheVariants.{BadHeader, NotMpeg2, Profile, LowDelay, Size, End}

-- the kind of refusal that a reason is
abbrev pub refusal_of : Why → Refusal
refusal_of BadHeader = Refusal.BadHeader
refusal_of NotMpeg2 = Refusal.NotMpeg2
refusal_of Profile = Refusal.Profile
refusal_of LowDelay = Refusal.LowDelay
refusal_of Size = Refusal.Size
refusal_of End = Refusal.End

-- the fault that says so
abbrev pub fault_at : Why → ℕ → HeadFault
fault_at BadHeader at = fault.BadHeader at
fault_at NotMpeg2 at = fault.NotMpeg2 at
fault_at Profile at = fault.Profile at
fault_at LowDelay at = fault.LowDelay at
fault_at Size at = fault.Size at
fault_at End at = fault.End at
