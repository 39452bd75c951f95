-- The record is found, or it is put after the others.
use Rattle.std.proofs.Common.{sym, rules}
use Rattle.names.specs.contracts.record.RecordPartialEq.TheImpl as record_impl
use Rattle.table_image.proofs.RecordNumbers.{number_found, number_new}
use Rattle.table_image.proofs.packer.number_of.Goals as goal

pub returns-in-Some-clause-number : goal.returns-in-Some-clause-number
returns-in-Some-clause-number c =
    number_found (record_impl.eq-value.it c.args.hits) c.args.numbers.now.keys c.args.records.now.items c.args.hits c.in-Some.number
    c.requires.same (c.equal_records_are_one.ensures c.args.hits) (sym c.in-Some.ensures.index)

pub returns-clause-number : goal.returns-clause-number
returns-clause-number c =
    number_new c.args.records.now.items c.push.new.self.items c.args.hits c.len-number.result c.in_ok-push.ensures.items (search rules)
