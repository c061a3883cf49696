-- How the writing of the certificate ends.
use Rattle.std.proofs.Common.{◌≡◌, ℕ, List, Option, Some, None, IfSome, refl, inl, inr}
use Rattle.job_report.specs.declared.report.Report.TheVariants as reports
use Rattle.shelf_io.specs.Asked.{AsksNothing}
use Rattle.shelf_io.specs.Causes.{WriteCauses}
use Rattle.shelf_io.specs.Files.{Files, with_content}
use Rattle.shelf_io.specs.WholeFile.{HoldsPrefix}
use Rattle.command_words.specs.declared.ended.Ended.{Ended}
use Rattle.command_words.specs.declared.status.Status.TheVariants.{WriteFault}
use Rattle.command_words.specs.Ended.{EndsBy, answer_of}
use Rattle.shelf_io.specs.Facts.{ShelfFacts}
use Rattle.command_words.proofs.Counted.{write_grows}
use Rattle.command_words.proofs.Ends.{ends_by_write, tells}
use Rattle.run_command.specs.declared.steps.Prepared.{Prepared}
use Rattle.run_command.specs.Private.Prepared.{CertificateHasCause, Certifies, EndsCertificate}

-- whole
pub certifies_whole : {failed missing : Type 0} (old new : ShelfFacts) (name : List ℕ) (prepared : Prepared) → new.files ≡ with_content old.files name prepared.bytes
    → WriteCauses failed missing old.counts new.counts → (failed → ⊥) → AsksNothing old.asked new.asked → Certifies old new name prepared (Some prepared.done)
certifies_whole old new name prepared written causes unfailed asks = record {
  written = inl (refl, written);
  cause = inl refl;
  ends = ends_by_write old new (answer_of (Some prepared.done)) causes (λ fails. absurd (unfailed fails)) (λ fails. absurd (unfailed fails));
  counts = write_grows causes;
  asked = asks;
}

-- broken off by a fault
broken_written : (old new : Option Files) (name : List ℕ) (prepared : Prepared) (result : Option Ended) → IfSome result (EndsBy WriteFault (reports.WriteFault name))
    → HoldsPrefix old new name prepared.bytes → EndsCertificate old new name prepared result
broken_written old new name prepared None so part = part
broken_written old new name prepared (Some ended) so part = inr (so, part)

broken_cause : {failed missing : Type 0} (old new : ShelfFacts) (name : List ℕ) (prepared : Prepared) (result : Option Ended)
    → IfSome result (EndsBy WriteFault (reports.WriteFault name)) → WriteCauses failed missing old.counts new.counts → failed → new.since_fault ≡ 0
    → CertificateHasCause old.counts new.counts new.since_fault name prepared result
broken_cause old new name prepared None so causes fails last = tt
broken_cause old new name prepared (Some ended) so causes fails last = inr (so, causes.failed_rose fails, last)

pub certifies_broken : {failed missing : Type 0} (old new : ShelfFacts) (name : List ℕ) (prepared : Prepared) (result : Option Ended)
    → IfSome result (EndsBy WriteFault (reports.WriteFault name)) → HoldsPrefix old.files new.files name prepared.bytes
    → WriteCauses failed missing old.counts new.counts → failed → new.since_fault ≡ 0 → AsksNothing old.asked new.asked → Certifies old new name prepared result
certifies_broken old new name prepared result so part causes fails last asks = record {
  written = broken_written old.files new.files name prepared result so part;
  cause = broken_cause old new name prepared result so causes fails last;
  ends = ends_by_write old new (answer_of result) causes (λ it. last) (λ it. tells result WriteFault (reports.WriteFault name) so);
  counts = write_grows causes;
  asked = asks;
}

-- or by want of memory
pub certifies_wanting : {failed missing : Type 0} (old new : ShelfFacts) (name : List ℕ) (prepared : Prepared) → HoldsPrefix old.files new.files name prepared.bytes
    → WriteCauses failed missing old.counts new.counts → (failed → new.since_fault ≡ 0) → AsksNothing old.asked new.asked → Certifies old new name prepared None
certifies_wanting old new name prepared part causes last asks = record {
  written = part;
  cause = tt;
  ends = ends_by_write old new None causes last (λ it. tt);
  counts = write_grows causes;
  asked = asks;
}
