use Rattle.row_index.proofs.Edited.{removes}
use Rattle.row_index.proofs.laws.removals_keep_index.Goals as goal

pub returns : goal.returns
returns g c base size s row after fits homes one keeps gone =
    removes base size g.S.Slots.used g.T.Slots.used g.S.Slots.home
    (λ x is. (homes x is).0) (λ x is. (homes x is).1) s row after fits keeps one.old one.more one.fewer gone
