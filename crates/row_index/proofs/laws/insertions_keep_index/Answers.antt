use Rattle.row_index.proofs.Edited.{inserts}
use Rattle.row_index.proofs.laws.insertions_keep_index.Goals as goal

pub returns : goal.returns
returns g c base size s row after fits homes low one keeps put =
    inserts base size g.S.Slots.used g.T.Slots.used g.S.Slots.home
    (λ x is. (homes x is).0) (λ x is. (homes x is).1) s row after fits keeps one.past_root low one.new one.now one.more one.fewer put
