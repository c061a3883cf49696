use Rattle.std.proofs.Common.{rules, w8, SFits, to_z, of_z, ◌≡◌, ◌<◌, ◌+◌, ◌-◌, ◌*◌, ◌/◌, ◌%◌, ◌^◌, nat_eq, refl, ap, ◌∙◌, arith}
use Rattle.std.proofs.lemmas.Int.{to_z-of_z}
use Rattle.std.proofs.lemmas.Nat.{one_shl}
use Rattle.prefix_codes.specs.declared.table_name.TableName.TheVariants.{Motion}
use Rattle.picture_grammar.specs.Block.{signed}
use Rattle.macroblock_reader.proofs.WholeParts.{motion-most, residual-fits, still-found, moving-found}
use Rattle.grammar_reading.proofs.Cuts.{begun-whole}
use Rattle.macroblock_reader.proofs.motion.whole_part.Goals as goal

pub returns-then-size-eq0 : goal.returns-then-size-eq0
returns-then-size-eq0 c =
    let b = begun-whole Motion c.args.window c.in-Some.size c.in-Some.len c.from-behind.result c.requires.whole c.find_whole.ensures.front c.in-Some.is c.from-behind.ensures in
    still-found c.args.f_code c.args.window c.in-Some.size c.from-behind.result b c.if-size-eq0.true

pub overflow_cast-size : goal.overflow_cast-size
overflow_cast-size c =
    let b = begun-whole Motion c.args.window c.in-Some.size c.in-Some.len c.from-behind.result c.requires.whole c.find_whole.ensures.front c.in-Some.is c.from-behind.ensures in
    let most = motion-most c.in-Some.size b.code b.listed in
    record { fits = omega (arith, most) }

pub signed-requires : goal.signed-requires
signed-requires c =
    let b = begun-whole Motion c.args.window c.in-Some.size c.in-Some.len c.from-behind.result c.requires.whole c.find_whole.ensures.front c.in-Some.is c.from-behind.ensures in
    motion-most c.in-Some.size b.code b.listed

pub overflow_cast-result : goal.overflow_cast-result
overflow_cast-result c = record { fits = residual-fits c.from-residual_bits.result _ (omega (arith, c.from-residual_bits.ensures, c.saturating_sub.ensures)) }

pub returns : goal.returns
returns c =
    let window = c.args.window in
    let size = c.in-Some.size in
    let behind = c.from-behind.result in
    let n = c.from-residual_bits.result in
    let b = begun-whole Motion window size c.in-Some.len behind c.requires.whole c.find_whole.ensures.front c.in-Some.is c.from-behind.ensures in
    let negative = nat_eq (window.bits / 2 ^ (23 - behind) % 2) 1 in
    let few : n < 16 = omega (arith, c.from-residual_bits.ensures, c.saturating_sub.ensures) in
    let mask : 1 * 2 ^ n % 2 ^ 32 ≡ 2 ^ n = one_shl n 32 (omega (arith, few)) in
    let residual = window.bits / 2 ^ (24 - (behind + 1 + n)) % (1 * 2 ^ n % 2 ^ 32) in
    let found = moving-found c.args.f_code window size behind b c.if-size-eq0.false negative n residual (omega (arith, c.if-end-gt-WINDOW_BITS.false)) c.requires.whole
    (c.from-residual_bits.ensures ∙ c.saturating_sub.ensures) refl (ap (λ m. window.bits / 2 ^ (24 - (behind + 1 + n)) % m) mask) in
    let fits_code : SFits w8 c.signed.result = search rules in
    let code : to_z w8 (of_z w8 c.signed.result) ≡ signed size negative = to_z-of_z w8 c.signed.result fits_code ∙ c.signed.ensures in
    rw code found
