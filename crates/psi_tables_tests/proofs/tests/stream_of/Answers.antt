use Rattle.std.proofs.Common.{◌≡◌, ◌++◌, ◌∷◌, [], ℕ, List, length, refl, sym, ap, subst, ◌∙◌, arith, true}
use Rattle.std.proofs.lemmas.List.{append-nil}
use Rattle.std.proofs.lemmas.List.Elements.{All-cons, All-nil}
use Rattle.psi_tables.specs.Section.{IsItemRow}
use Rattle.psi_tables.specs.Descriptors.{IsDescriptor, is_tag_kept, is_kept, descriptor_tag}
use Rattle.psi_tables.proofs.Elements.{descriptor_tag-is, descriptor_length-is}
use Rattle.psi_tables_tests.proofs.tests.stream_of.Goals as goal

pub returns : goal.returns
returns c =
    let content : List ℕ = c.args.content.now in
    let descriptor : List ℕ = c.args.tag ∷ length content ∷ content in
    let items : c.try_extend_from_slice.new.self.items ≡ descriptor =
    c.in_ok-try_extend_from_slice.ensures.ok
    ∙ ap (λ (xs : List ℕ). xs ++ content) (c.push-2.ensures.items
    ∙ ap (λ (xs : List ℕ). xs ++ length content ∷ []) (c.push.ensures.items
    ∙ ap (λ (xs : List ℕ). xs ++ c.args.tag ∷ []) c.new-descriptors.ensures)) in
    let tag : descriptor_tag descriptor ≡ c.args.tag = omega (arith, c.ranges.tag.fits, descriptor_tag-is descriptor) in
    record {
      pid = c.requires.pid;
      descriptors = descriptor ∷ [];
      descriptors_are = subst (IsItemRow IsDescriptor (descriptor ∷ [])) (sym items) (
        descriptor,
        [],
        sym (append-nil descriptor),
        record
            { bytes_are = refl; size = omega (arith, c.requires.size, descriptor_length-is descriptor) },
        refl,
      );
      kept = All-cons (λ (d : List ℕ). is_kept d ≡ true) descriptor [] (ap is_tag_kept tag ∙ c.requires.kept) (All-nil (λ (d : List ℕ). is_kept d ≡ true));
    }
