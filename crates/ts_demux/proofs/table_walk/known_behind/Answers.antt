use Rattle.std.proofs.Common.{◌≡◌, ℕ, true, Option, Ok, refl, subst, sym}
use Rattle.psi_tables.specs.Section.{IsCurrent}
use Rattle.ts_demux.specs.declared.table_walk.Known.{Known}
use Rattle.ts_demux.specs.Private.TableWalk.{IsKnownBehind}
use Rattle.ts_demux.proofs.Readings.{SaysPat, bad_pat, sound_pat, known_named, known_other, known_same}
use Rattle.ts_demux.proofs.table_walk.known_behind.Goals as goal

pub returns-in-Err : goal.returns-in-Err
returns-in-Err c = bad_pat c.args.program c.args.section.now.items c.in-Err.fault (record { other = c.in-Err.ensures.other; pid = c.in-Err.ensures.pid }) c.in-Err.ensures.bad

pub returns-in-MapOn : goal.returns-in-MapOn
returns-in-MapOn c = (
  sound_pat c.args.section.now.items c.in-Ok.ensures.ok,
  subst (λ (known : Known). IsKnownBehind c.args.program c.args.section.now.items c.args.n known known) (sym c.in-MapOn.is) refl,
)

pub returns-then-is_pat : goal.returns-then-is_pat
returns-then-is_pat c =
    let says : SaysPat c.args.program c.args.section.now.items (Ok c.in-Ok.named) = record { other = c.in-Ok.ensures.other; pid = c.in-Ok.ensures.pid } in
    let says_none = subst (λ (named : Option ℕ). SaysPat c.args.program c.args.section.now.items (Ok named)) c.in_default-named.is says in
    let current : IsCurrent 0 c.args.section.now.items = c.is_pat-is_pat.ensures.0 c.if-is_pat.true in
    (sound_pat c.args.section.now.items c.in-Ok.ensures.ok, known_other c.args.program c.args.section.now.items c.args.n c.args.known c.in_default.not-MapOn says_none current)

pub returns-in_default-named : goal.returns-in_default-named
returns-in_default-named c =
    let says : SaysPat c.args.program c.args.section.now.items (Ok c.in-Ok.named) = record { other = c.in-Ok.ensures.other; pid = c.in-Ok.ensures.pid } in
    let says_none = subst (λ (named : Option ℕ). SaysPat c.args.program c.args.section.now.items (Ok named)) c.in_default-named.is says in
    let not_current : IsCurrent 0 c.args.section.now.items → ⊥ = λ current. let yes : c.is_pat-is_pat.result ≡ true = c.is_pat-is_pat.ensures.1 current in absurd (cc (c.if-is_pat.false)) in
    (sound_pat c.args.section.now.items c.in-Ok.ensures.ok, known_same c.args.program c.args.section.now.items c.args.n c.args.known c.in_default.not-MapOn says_none not_current)

pub returns : goal.returns
returns c =
    let says : SaysPat c.args.program c.args.section.now.items (Ok c.in-Ok.named) = record { other = c.in-Ok.ensures.other; pid = c.in-Ok.ensures.pid } in
    let says_it = subst (λ (named : Option ℕ). SaysPat c.args.program c.args.section.now.items (Ok named)) c.in-Some.is says in (
      sound_pat c.args.section.now.items c.in-Ok.ensures.ok,
      known_named c.args.program c.args.section.now.items c.args.n c.args.known c.in-Some.pid _
          c.in_default.not-MapOn refl says_it c.in-Ok.ensures.ok,
    )
