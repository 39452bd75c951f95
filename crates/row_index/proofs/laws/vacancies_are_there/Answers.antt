use Rattle.row_index.proofs.Vacancies.{not_full}
use Rattle.row_index.proofs.laws.vacancies_are_there.Goals as goal

pub returns : goal.returns
returns g c size most start word keeps within few low full =
    not_full size word g.S.Slots.used g.S.Slots.home keeps start low full most within few
