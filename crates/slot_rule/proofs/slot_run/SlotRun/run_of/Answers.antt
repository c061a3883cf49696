use Rattle.std.proofs.Common.{◌≡◌, ◌-◌, ◌*◌, ◌≤◌, ℕ, List, length, max, sym, ap, ap₂, subst, ◌∙◌, true≢false, arith}
use Rattle.std.proofs.lemmas.Slice.Zip.{AllZip-long}
use Rattle.version_table.specs.declared.table.Table.{Table}
use Rattle.version_table.specs.Choice.{Fits, HasVersion}
use Rattle.version_table.specs.Table.{IsValidTable, units_of}
use Rattle.slot_rule.specs.SlotRun.{CountsCheckpoints, KeptRun}
use Rattle.slot_rule.specs.Private.Checkpoints.{AreCheckpoints, TellsUpto, reach}
use Rattle.std.proofs.lemmas.Nat.{mul-le}
use Rattle.slot_rule.proofs.LatestDue.{apart-most}
use Rattle.slot_rule.proofs.slot_run.SlotRun.run_of.Goals as goal

pub keep_same-requires-clause-are : goal.keep_same-requires-clause-are
keep_same-requires-clause-are c =
    subst (λ (list : List ℕ). AreCheckpoints c.self.inside.table.now list c.self.inside.checkpoints.items) (sym c.as_slice.ensures.value) c.self.invariant.are

pub keep_choice-requires : goal.keep_choice-requires
keep_choice-requires c =
    let same = ap (λ (run : KeptRun). run.table) c.self.view_is in
    let fits : Fits c.self.inside.table.now c.args.choice.now = subst (λ (table : Table). Fits table c.args.choice.now) (sym same) c.requires.fits in
    record { room = omega (arith, AllZip-long HasVersion (units_of c.self.inside.table.now) c.args.choice.now fits, c.self.invariant.choice_room) }

pub overflow_mul-self-inside : goal.overflow_mul-self-inside
overflow_mul-self-inside c =
    let few : c.saturating_sub.result ≤ 1024 = omega (arith, c.saturating_sub.ensures, c.len.ensures, c.run_on-miss.ensures.few) in
    let most = mul-le c.self.inside.apart c.saturating_sub.result 2097152 1024 (omega (arith, c.self.invariant.apart, apart-most c.self.inside.table.now c.self.invariant.valid)) few in
    omega (arith, most)

pub invariant_of-self : goal.invariant_of-self
invariant_of-self c =
    let table = c.self.inside.table.now in
    let same = ap (λ (run : KeptRun). run.table) c.self.view_is in
    let fits : Fits c.self.inside.table.now c.args.choice.now = subst (λ (table : Table). Fits table c.args.choice.now) (sym same) c.requires.fits in
    let kept = sym c.keep_choice.ensures.same in
    let n = length c.run_on-miss.new.checkpoints.items in
    let many : c.saturating_sub.result ≡ length c.run_on-miss.new.checkpoints.items - 1 =
    omega (arith, c.saturating_sub.ensures, c.len.ensures, c.run_on-miss.new.checkpoints.ok.0) in
    let upto : c.max-self-inside.result ≡ reach c.self.inside.table.now c.args.end (length c.run_on-miss.new.checkpoints.items) =
    c.max-self-inside.ensures ∙ ap₂ (λ (a b : ℕ). max c.args.end (a * b)) c.self.invariant.apart many in
    record {
      valid = c.self.invariant.valid;
      room = omega (arith, c.self.invariant.room, c.keep_same.ensures.room, c.run_on-miss.ensures.room);
      choice_room = omega (arith, c.self.invariant.choice_room, c.keep_choice.ensures.room);
      few = omega (arith, c.run_on-miss.ensures.few, c.run_on-miss.new.checkpoints.ok.0);
      fresh = λ never. absurd (true≢false never);
      fits = λ _. subst (λ (list : List ℕ). Fits table list) kept fits;
      are = subst (λ (list : List ℕ). AreCheckpoints table list c.run_on-miss.new.checkpoints.items) kept c.run_on-miss.ensures.are;
      apart = c.self.invariant.apart;
      counts = λ _. subst (λ (list : List ℕ). CountsCheckpoints table list c.max-self-inside.result n) kept
          (subst (λ (u : ℕ). CountsCheckpoints table c.args.choice.now u n) (sym upto) c.run_on-miss.ensures.counts);
    }

pub returns-clause-tells : goal.returns-clause-tells
returns-clause-tells c =
    subst (λ (table : Table). TellsUpto table c.args.choice.now c.args.end c.run_on-miss.result) (ap (λ (run : KeptRun). run.table) c.self.view_is) c.run_on-miss.ensures.tells

pub returns-clause-valid : goal.returns-clause-valid
returns-clause-valid c = subst IsValidTable (ap (λ (run : KeptRun). run.table) c.self.view_is) c.self.invariant.valid
