use Rattle.std.proofs.Common.{◌≡◌, ◌==◌, ℕ, Bool, true, false, refl, sym, ◌∙◌, subst, arith}
use Rattle.std.proofs.lemmas.Bool.Decides.{nat_tests}
use Rattle.ts_demux.specs.declared.demux_fault.DemuxFault.TheVariants.{Sync}
use Rattle.ts_demux.specs.Tables.{pat_pid, refuse, StopsFirst}
use Rattle.ts_demux.proofs.WalkSteps.{is_of, on_map, not_on_map, other_goes_on, sync_refuses}
use Rattle.ts_demux.proofs.table_walk.TableWalk.take.Goals as goal

no_test : (pid : ℕ) → (pid ≡ 0 → ⊥) → (pid == 0) ≡ false
no_test pid other = by_test (pid == 0) refl
  where
    by_test : (is : Bool) → (pid == 0) ≡ is → is ≡ false
    by_test true is = let same : pid ≡ 0 = grind (arith, nat_tests) in absurd (other same)
    by_test false is = refl

yes_test : (pid : ℕ) → pid ≡ 0 → (pid == 0) ≡ true
yes_test pid same = grind (arith, nat_tests)

pub returns-in_default-clause-ends : goal.returns-in_default-clause-ends
returns-in_default-clause-ends c file within bytes_are between =
    subst (λ at. StopsFirst file c.args.self.now.program (refuse (Sync at))) (sym c.place_of.ensures)
    (sync_refuses file c.args.n c.args.self.now c.args.bytes.now within bytes_are c.in_default.ensures.sync.1 between)

pub take_pat_packet-requires-clause-of_pid : goal.take_pat_packet-requires-clause-of_pid
take_pat_packet-requires-clause-of_pid c file bytes_are = is_of file c.args.n c.in-Ok.pid pat_pid c.args.bytes.now true bytes_are
    c.in-Ok.ensures.pid.1 (yes_test c.in-Ok.pid c.if-pid-eq-PAT_PID.true)

pub take_map_packet-requires-clause-of_pid : goal.take_map_packet-requires-clause-of_pid
take_map_packet-requires-clause-of_pid c file bytes_are = on_map file c.args.n c.in-Ok.pid c.args.bytes.now c.args.self.now.known bytes_are
    c.in-Ok.ensures.pid.1 c.if-pid-eq-PAT_PID.false (sym c.is_map_on.ensures ∙ c.if-is_map_on.true)

pub returns-clause-ends : goal.returns-clause-ends
returns-clause-ends c file within bytes_are between = (
  other_goes_on file c.args.n c.args.self.now c.args.bytes.now bytes_are c.in-Ok.ensures.pid.0
      (is_of file c.args.n c.in-Ok.pid pat_pid c.args.bytes.now false bytes_are c.in-Ok.ensures.pid.1 (no_test c.in-Ok.pid c.if-pid-eq-PAT_PID.false))
      (not_on_map file c.args.n c.in-Ok.pid c.args.bytes.now c.args.self.now.known bytes_are c.in-Ok.ensures.pid.1
      (sym c.is_map_on.ensures ∙ c.if-is_map_on.false)) between,
  refl,
)
