use Rattle.std.proofs.Common.{refl, arith}
use Rattle.program_stream.specs.declared.split_fault.SplitFault.TheVariants.{ShortFile}
use Rattle.program_stream.specs.Split.{IsSplitRefused}
use Rattle.program_stream.proofs.OneReading.{refused_or_not}
use Rattle.program_reader.specs.Programs.{AreStreamsRefused}
use Rattle.program_reader.proofs.found_streams.other_number.Goals as goal

pub returns-then-file-lt-PACK_HEADER_BYTES : goal.returns-then-file-lt-PACK_HEADER_BYTES
returns-then-file-lt-PACK_HEADER_BYTES c = λ drop.
    AreStreamsRefused.of_elements (ShortFile 0) refl (λ other. omega (arith, other.elements_are.long, c.if-file-lt-PACK_HEADER_BYTES.true))
    (IsSplitRefused.short_file c.if-file-lt-PACK_HEADER_BYTES.true refl) c.split_refused.ensures

pub returns-in-Ok : goal.returns-in-Ok
returns-in-Ok c = λ drop.
    AreStreamsRefused.no_program refl
    (record { elements = c.in-Ok.ensures.0; cut = c.in-Ok._cut; elements_are = record { long = c.if-file-lt-PACK_HEADER_BYTES.false; are = c.in-Ok.ensures.1 }; other = c.requires }) refl

pub returns-in-Err : goal.returns-in-Err
returns-in-Err c = λ drop.
    AreStreamsRefused.of_elements c.in-Err.fault refl (λ other. refused_or_not c.args.file.now other.elements other.cut c.in-Err.fault other.elements_are.are c.in-Err.ensures)
    (IsSplitRefused.element c.if-file-lt-PACK_HEADER_BYTES.false c.in-Err.ensures) c.split_refused-in-Err.ensures
