use Rattle.std.proofs.Common.{subst, refl}
use Rattle.std.specs.Option.{option_copied}
use Rattle.pes_units.specs.declared.times.Times.{Times}
use Rattle.pes_units.specs.Times.{decoding_time}
use Rattle.program_reader.specs.Units.{IsUnitRefused, HasNoTime, IsTimed}
use Rattle.program_reader.proofs.timed_picture.timed_picture.Goals as goal

pub returns-then-is_unpaired : goal.returns-then-is_unpaired
returns-then-is_unpaired c = λ es packets earlier same tells coded are last. IsUnitRefused.unpaired c.args.seq.now c.args.coding.now coded (c.is_unpaired.ensures.yes c.if-is_unpaired.true) refl

pub returns-then-end-begin-gt-UNIT_BYTES_MOST : goal.returns-then-end-begin-gt-UNIT_BYTES_MOST
returns-then-end-begin-gt-UNIT_BYTES_MOST c = λ es packets earlier same tells coded are last.
    IsUnitRefused.long c.args.seq.now c.args.coding.now coded (c.is_unpaired.ensures.no c.if-is_unpaired.false) c.if-end-begin-gt-UNIT_BYTES_MOST.true refl

pub returns-in_default : goal.returns-in_default
returns-in_default c = λ es packets earlier same tells coded are last.
    IsUnitRefused.no_time c.args.seq.now c.args.coding.now coded (c.is_unpaired.ensures.no c.if-is_unpaired.false) c.if-end-begin-gt-UNIT_BYTES_MOST.false
    (subst (λ (times : Times). HasNoTime (option_copied c.args.before) (decoding_time times)) are c.in_default.ensures) refl

pub returns-then-not-is_later : goal.returns-then-not-is_later
returns-then-not-is_later c = λ es packets earlier same tells coded are last.
    IsUnitRefused.not_later c.args.seq.now c.args.coding.now c.in-Some.time.stated c.in-Some.time.ticks coded (c.is_unpaired.ensures.no c.if-is_unpaired.false) c.if-end-begin-gt-UNIT_BYTES_MOST.false
    (subst (λ (times : Times). IsTimed (option_copied c.args.before) (decoding_time times) c.in-Some.time.stated c.in-Some.time.ticks) are c.in-Some.ensures)
    (c.is_later.ensures.no c.if-not-is_later.true) refl
