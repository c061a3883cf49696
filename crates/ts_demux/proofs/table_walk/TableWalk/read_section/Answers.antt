use Rattle.std.proofs.Common.{◌≡◌, ◌+◌, ℕ, List, subst, sym}
use Rattle.ts_demux.specs.declared.table_walk.TablePid.{TablePid}
use Rattle.ts_demux.specs.TableWalk.{IsBetween}
use Rattle.ts_demux.specs.Private.TableWalk.{IsInTable, KnowsWhereRead, Reads}
use Rattle.ts_demux.proofs.table_walk.TableWalk.read_section.Goals as goal

pub returns-in-OfPat-clause-read : goal.returns-in-OfPat-clause-read
returns-in-OfPat-clause-read c =
    let was = c.args.self.now in
    let walk = c.read_pat_section.new.self in
    subst (λ (on : TablePid). (file : List ℕ) → IsInTable on file c.args.n was
    → Reads file was.program c.read_pat_section.result (IsInTable on file c.args.n walk × (walk.program ≡ was.program)) (IsBetween file (c.args.n + 1) walk × (walk.program ≡ was.program)))
    (sym c.in-OfPat.is) c.read_pat_section.ensures.read

pub returns-in-OfPat-clause-known : goal.returns-in-OfPat-clause-known
returns-in-OfPat-clause-known c =
    let was = c.args.self.now in
    subst (λ (on : TablePid). (file : List ℕ) → IsInTable on file c.args.n was → KnowsWhereRead file was.program c.read_pat_section.result c.read_pat_section.new.self.known)
    (sym c.in-OfPat.is) c.read_pat_section.ensures.known

pub returns-in-OfMap-clause-read : goal.returns-in-OfMap-clause-read
returns-in-OfMap-clause-read c =
    let was = c.args.self.now in
    let walk = c.read_map_section.new.self in
    subst (λ (on : TablePid). (file : List ℕ) → IsInTable on file c.args.n was
    → Reads file was.program c.read_map_section.result (IsInTable on file c.args.n walk × (walk.program ≡ was.program)) (IsBetween file (c.args.n + 1) walk × (walk.program ≡ was.program)))
    (sym c.in-OfMap.is) c.read_map_section.ensures.read

pub returns-in-OfMap-clause-known : goal.returns-in-OfMap-clause-known
returns-in-OfMap-clause-known c =
    let was = c.args.self.now in
    subst (λ (on : TablePid). (file : List ℕ) → IsInTable on file c.args.n was → KnowsWhereRead file was.program c.read_map_section.result c.read_map_section.new.self.known)
    (sym c.in-OfMap.is) c.read_map_section.ensures.known
