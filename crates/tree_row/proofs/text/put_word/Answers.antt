use Rattle.std.proofs.Common.{◌≡◌, ◌∙◌, ◌++◌, drop, length, get_or, sym, arith}
use Rattle.std.specs.Int.{to_le_bytes, w64}
use Rattle.std.proofs.lemmas.List.{get_or_append_left, get_or-take}
use Rattle.tree_row.proofs.Bytes.{byte_is}
use Rattle.tree_row.proofs.text.put_word.Goals as goal

pub returns-then-count-ge8-clause-start : goal.returns-then-count-ge8-clause-start
returns-then-count-ge8-clause-start c = λ j l near.
    let is : c.copy_from_slice.new.self ≡ to_le_bytes w64 c.args.word = c.copy_from_slice.ensures.after ∙ c.to_le_bytes-bytes.ensures in
    sym ((λ k. get_or (is k ++ drop 8 c.args.room.now) j 0) ∙ get_or_append_left (to_le_bytes w64 c.args.word) _ 0 j l
    ∙ byte_is c.args.word j l)

pub returns-else-count-ge8-clause-start : goal.returns-else-count-ge8-clause-start
returns-else-count-ge8-clause-start c = λ j l near.
    let is = c.copy_from_slice-else-count-ge8.ensures.after in
    let bytes : c.to_le_bytes-bytes.result ≡ to_le_bytes w64 c.args.word = c.to_le_bytes-bytes.ensures in
    let long = c.copy_from_slice-else-count-ge8.ensures.len in
    sym ((λ k. get_or (is k) j 0) ∙ get_or-take (length c.args.room.now) c.to_le_bytes-bytes.result j 0 (omega arith)
    ∙ (λ k. get_or (bytes k) j 0) ∙ byte_is c.args.word j l)
