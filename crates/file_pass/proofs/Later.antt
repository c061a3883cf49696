-- Reads of one file that follow each other.
use Rattle.std.proofs.Common.{◌≡◌, ℕ, ◌<◌, ◌≤◌, List, Option, None, Some, max, refl, subst, ◌∙◌, arith}
use Rattle.shelf_io.specs.declared.fault.Fault.{Fault}
use Rattle.shelf_io.specs.declared.fault.Fault.TheVariants.{Failed, Missing, OutOfMemory}
use Rattle.shelf_io.specs.Asked.{AsksUpTo}
use Rattle.shelf_io.specs.Counts.{Rose, ShelfCounts}
use Rattle.shelf_io.specs.Files.{Files, Lacks}
use Rattle.shelf_io.proofs.Whole.{asks_twice}
use Rattle.file_pass.specs.FilePass.{Raises, ReadsUpTo, SameReads, StopsAs}

same_twice : {old middle new : ShelfCounts} → SameReads old middle → SameReads middle new → SameReads old new
same_twice before after = record {
  same_faults = after.same_faults ∙ before.same_faults;
  same_absences = after.same_absences ∙ before.same_absences;
}

pub raises_later : (old middle new other_old other_middle other_new since : ℕ) → middle ≡ old → other_middle ≡ other_old → Raises middle new other_middle other_new since
    → Raises old new other_old other_new since
raises_later old middle new other_old other_middle other_new since same other_same raises =
    subst (λ (count : ℕ). Raises count new other_old other_new since) same (subst (λ (count : ℕ). Raises middle new count other_new since) other_same raises)

-- reads that raised no count come before others
pub stops_later : (stop : Option Fault) (told : Option Files) (name : List ℕ) (old middle new : ShelfCounts) (since : ℕ) → SameReads old middle → StopsAs stop told name middle new since
    → StopsAs stop told name old new since
stops_later None told name old middle new since same stops = same_twice same stops
stops_later (Some Failed) told name old middle new since same stops =
    raises_later old.faults middle.faults new.faults old.absences middle.absences new.absences since same.same_faults same.same_absences stops
stops_later (Some Missing) told name old middle new since same stops =
    (stops.0, raises_later old.absences middle.absences new.absences old.faults middle.faults new.faults since same.same_absences same.same_faults stops.1)
stops_later (Some OutOfMemory) told name old middle new since same stops = same_twice same stops

module _ {K : Type 0} (files : K → Option Files) (counts : K → ShelfCounts) (asked : K → List ℕ → ℕ) (since_fault : K → ℕ) where
  -- none at all
  pub reads_none : (name : List ℕ) (place : ℕ) (shelf : K) → ReadsUpTo files counts asked since_fault name place None shelf shelf
  reads_none name place shelf = record {
    same_files = refl;
    same_write_faults = refl;
    asks = record { here = omega arith; others = λ other differs. omega arith };
    stops = record { same_faults = refl; same_absences = refl };
  }

  -- some, and then others
  pub reads_twice : (name : List ℕ) (place : ℕ) (stop : Option Fault) (first second third : K) → ReadsUpTo files counts asked since_fault name place None first second
      → ReadsUpTo files counts asked since_fault name place stop second third → ReadsUpTo files counts asked since_fault name place stop first third
  reads_twice name place stop first second third before after = record {
    same_files = after.same_files ∙ before.same_files;
    same_write_faults = after.same_write_faults ∙ before.same_write_faults;
    asks = asks_twice before.asks after.asks;
    stops = stops_later stop (files first) name (counts first) (counts second) (counts third) (since_fault third) before.stops
        (subst (λ (told : Option Files). StopsAs stop told name (counts second) (counts third) (since_fault third)) before.same_files after.stops);
  }

  -- reads up to a place are reads up to a farther one
  pub reads_farther : (name : List ℕ) (place farther : ℕ) (stop : Option Fault) (old new : K) → place ≤ farther → ReadsUpTo files counts asked since_fault name place stop old new
      → ReadsUpTo files counts asked since_fault name farther stop old new
  reads_farther name place farther stop old new more reads = record {
    same_files = reads.same_files;
    same_write_faults = reads.same_write_faults;
    asks = record { here = omega (arith, more, reads.asks.here); others = reads.asks.others };
    stops = reads.stops;
  }
