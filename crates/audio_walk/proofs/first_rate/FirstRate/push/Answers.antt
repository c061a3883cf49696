use Rattle.std.proofs.Common.{◌-◌, List, ℕ, length, drop, ap, sym, ◌∙◌}
use Rattle.audio_walk.proofs.Rates.{rate_here, rate_short, rate_still}
use Rattle.audio_walk.proofs.first_rate.FirstRate.push.Goals as goal

pub returns-then-is_some : goal.returns-then-is_some
returns-then-is_some c payload has walked =
    rate_still payload c.args.piece.now c.args.self.now.bytes.items c.args.self.now.low (sym c.is_some.ensures ∙ c.if-is_some.true) has

pub returns-then-is_empty : goal.returns-then-is_empty
returns-then-is_empty c payload has walked =
    rate_short payload c.args.piece.now c.args.self.now.bytes.items c.keep_last.new.bytes.items c.args.self.now.low c.args.walk.now c.places.result.now
    (sym c.is_some.ensures ∙ c.if-is_some.false) has walked c.requires c.places.ensures.places (sym c.is_empty.ensures ∙ c.if-is_empty.true)
    (c.keep_last.ensures ∙ ap (λ (bytes : List ℕ). drop (length bytes - 3460) bytes) c.in_ok-extend_from_slice.ensures.items)

pub returns : goal.returns
returns c payload has walked =
    rate_here payload c.args.piece.now c.args.self.now.bytes.items c.as_slice.result.now c.clear.new.self.items c.args.self.now.low c.has_low_rate.result c.args.walk.now c.places.result.now
    (sym c.is_some.ensures ∙ c.if-is_some.false) has walked c.places.ensures.places (sym c.is_empty.ensures ∙ c.if-is_empty.false)
    (c.as_slice.ensures.value ∙ c.in_ok-extend_from_slice.ensures.items) c.has_low_rate.ensures
