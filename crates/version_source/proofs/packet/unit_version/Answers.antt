use Rattle.std.proofs.Common.{◌≡◌, ℕ, List, Result, Ok, Err, IfOk, subst, sym}
use Rattle.std.specs.Option.{option_copied}
use Rattle.version_maker.specs.Versions.{IsVersionAt}
use Rattle.version_source.proofs.StateLemmas.{not-refused}
use Rattle.version_source.proofs.packet.unit_version.Goals as goal

ok-weaker : {T E : Type 0} (P Q : T → Type 0) (r : Result T E) → ((x : T) → P x → Q x) → IfOk r P → IfOk r Q
ok-weaker P Q (Ok x) weaker is = weaker x is
ok-weaker P Q (Err e) weaker is = tt

pub first_version_of-requires-clause-picture : goal.first_version_of-requires-clause-picture
first_version_of-requires-clause-picture c = let (after, leaves) = c.requires.picture in (leaves.picture, leaves.whole)

pub want_of_memory-requires : goal.want_of_memory-requires
want_of_memory-requires c = not-refused (option_copied c.args.before) c.args.unit.now c.in-Err.fault c.requires.picture c.in-Err.ensures

pub returns-then-index-eq0 : goal.returns-then-index-eq0
returns-then-index-eq0 c =
    let before = option_copied c.args.before in
    let unit = c.args.unit.now in
    let coarser = c.args.coarser.now in
    ok-weaker (λ (bytes : List ℕ). (ratios : List ℕ) → IsVersionAt before unit ratios 0 bytes) (IsVersionAt before unit coarser c.args.index) c.first_version_of.result
    (λ bytes is. subst (λ (n : ℕ). IsVersionAt before unit coarser n bytes) (sym c.if-index-eq0.true) (is coarser)) c.first_version_of.ensures
