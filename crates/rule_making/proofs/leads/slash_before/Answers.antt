-- A slash, the group without slashes, and what follows it.
use Rattle.std.proofs.Common.{◌++◌, ◌∷◌, [], ap, ◌∙◌, append_assoc}
use Rattle.rule_globs.specs.Tokens.{byte, opening, closing, with_commas, tokens_of}
use Rattle.rule_writer.specs.laws.CanonWrites.{items_parts}
use Rattle.rule_making.proofs.GroupLaws.{before_tokens, before_full}
use Rattle.rule_making.proofs.leads.slash_before.Goals as goal

pub returns-clause-tokens : goal.returns-clause-tokens
returns-clause-tokens c =
    let bare = c.in_ok-without_slashes.field-0 in
    let follow = tokens_of c.args.follow.now in
    c.in_ok-put_copies.ensures.tokens
    ∙ ap (λ row. row ++ follow) (before_tokens c.new-items.result.items c.put.new.items.items c.put-2.new.items.items bare
    c.new-items.ensures.items c.in_ok-put.ensures c.in_ok-put-2.ensures)
    ∙ ap (λ row. byte 47 ∷ (opening ∷ row)) (append_assoc (with_commas (items_parts bare.items)) (closing ∷ []) follow)
    ∙ ap (λ rows. byte 47 ∷ (opening ∷ (with_commas rows ++ (closing ∷ follow)))) c.in_ok-without_slashes.ensures.tokens

pub returns-clause-full : goal.returns-clause-full
returns-clause-full c =
    c.in_ok-put_copies.ensures.full
    ∙ before_full c.new-items.result.items c.put.new.items.items c.put-2.new.items.items c.in_ok-without_slashes.field-0
    c.args.alternatives.now c.new-items.ensures.items c.in_ok-put.ensures c.in_ok-put-2.ensures c.in_ok-without_slashes.ensures.tokens
    c.requires.some c.in_ok-without_slashes.ensures.full
