use Rattle.std.proofs.Common.{◌++◌, ◌∙◌, inl, inr, length, sym, ⊎_elim}
use Rattle.image_header.proofs.Fronts.{fault_or_length, one_told_length, whole_has_none}
use Rattle.tables.specs.laws.Decisions.{decided_equal}
use Rattle.tables.specs.declared.fault.ImageFault.TheVariants as fault
use Rattle.image_header.proofs.laws.headers_settle_images.Goals as goal

pub returns-clause-no_table : goal.returns-clause-no_table
returns-clause-no_table c front more f t all is = c.bytes_have_one_outcome.ensures.either (front ++ more) t f is (all more)

pub returns-clause-one_fault : goal.returns-clause-one_fault
returns-clause-one_fault c front more f g all (inl h) = absurd (whole_has_none (front ++ more) f h.1 (all more).has)
returns-clause-one_fault c front more f g all (inr h) = c.bytes_have_one_outcome.ensures.one_fault (front ++ more) g f h (all more)

pub returns-clause-length_alone : goal.returns-clause-length_alone
returns-clause-length_alone c front more n t of is = ⊎_elim
    (λ same. same)
    (λ other. absurd (c.bytes_have_one_outcome.ensures.either (front ++ more) t fault.Length is (of.other more other)))
    (decided_equal (length (front ++ more)) n)

pub returns-clause-one_length : goal.returns-clause-one_length
returns-clause-one_length c front m n one other =
    one.is.2 ∙ one_told_length front one.is.0 other.is.0 one.is.1 other.is.1 ∙ sym other.is.2

pub returns-clause-either : goal.returns-clause-either
returns-clause-either c front n f short of all = fault_or_length front n f short of all
