use Rattle.std.proofs.Common.{◌+◌, ◌-◌, ◌∷◌, Some, None, length, drop, take, get_or, refl, sym, ap, ◌∙◌}
use Rattle.std.proofs.lemmas.List.{take_rest}
use Rattle.apparmor_pieces.specs.Pieces.{Text, byte, use_of, pieces_behind, pieces, escape}
use Rattle.apparmor_pieces.specs.laws.PieceSteps.{pieces_behind-drop, begins_with, plain_first, at_first, use_length}
use Rattle.apparmor_pieces.proofs.pieces.split_piece.Goals as goal

pub returns-then-byte-eq92-clause-some : goal.returns-then-byte-eq92-clause-some
returns-then-byte-eq92-clause-some c =
    let text = c.args.text.now in
    let rest = take (length text - 1) (drop 1 text) in
    begins_with text 92 (escape rest) c.in-len1-up.len_at_least c.if-byte-eq92.true refl
    ∙ (λ i. sym c.escape.ensures.piece i ∷ c.escape.ensures.rest i)

pub returns-then-byte-ne64-clause-some : goal.returns-then-byte-ne64-clause-some
returns-then-byte-ne64-clause-some c =
    let text = c.args.text.now in
    let rest = take (length text - 1) (drop 1 text) in
    begins_with text (get_or text 0 0) (byte (get_or text 0 0)) c.in-len1-up.len_at_least refl
    (plain_first (get_or text 0 0) rest c.if-byte-eq92.false c.if-byte-ne64.true)

pub returns-in-Some-clause-some : goal.returns-in-Some-clause-some
returns-in-Some-clause-some c =
    let text = c.args.text.now in
    let rest = take (length text - 1) (drop 1 text) in
    let name = c.in-Some.name.now in
    begins_with text 64 (use_of name) c.in-len1-up.len_at_least c.if-byte-ne64.false
    (at_first rest (Some name) (sym c.in-Some.ensures.name))
    ∙ ap (λ n. use_of name ∷ pieces_behind n rest) (use_length name)
    ∙ ap (λ behind. use_of name ∷ behind) (pieces_behind-drop (length name + 2) rest)
    ∙ ap (λ (t : Text). use_of name ∷ pieces t) (sym (take_rest rest (length name + 2)))

pub returns-in-None-clause-some : goal.returns-in-None-clause-some
returns-in-None-clause-some c =
    let text = c.args.text.now in
    let rest = take (length text - 1) (drop 1 text) in
    begins_with text 64 (byte 64) c.in-len1-up.len_at_least c.if-byte-ne64.false (at_first rest None (sym c.in-None.ensures.name))
