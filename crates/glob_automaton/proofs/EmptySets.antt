-- The empty set: its record, and that nothing else is reached where nothing is live at first.
use Rattle.std.proofs.Common.{◌≡◌, ⊎_elim, ℕ, List, [], sym, ap, ◌∙◌, subst}
use Rattle.names.specs.declared.permissions.Permission.{Permission}
use Rattle.names.specs.declared.kind.RuleKind.{RuleKind}
use Rattle.names.specs.declared.kind.RuleKind.TheVariants.{Allow, Deny}
use Rattle.glob_automaton.specs.declared.chart.Chart.{Chart}
use Rattle.names.specs.declared.record.Record.{Record}
use Rattle.glob_automaton.specs.inner.ChartStates.{IsStartOf, IsStepOf, IsReached, begins, goes_on, EndsIn, IsRecordOf}
use Rattle.names.specs.Hits.{no_hits}
use Rattle.names.specs.Least.{hits_of, no_hit, IsLeastOrNone}
use Rattle.names.specs.laws.Positions.{place_below, stands_there}
use Rattle.names.specs.laws.Records.{hits_made}
use Rattle.glob_automaton.specs.laws.AscendingLists.{no_members, contains_none}
use Rattle.glob_automaton.proofs.OneRecord.{AreTheirHits}
use Rattle.glob_automaton.proofs.SetSteps.{step_empty}

-- no end is in the empty set
none_ends : (chart : Chart) (kind : RuleKind) (p : Permission) (n : ℕ) → IsLeastOrNone (EndsIn chart [] kind p) n → n ≡ 0
none_ends chart kind p n least = ⊎_elim
    (λ h. h.0)
    (λ h. absurd (contains_none h.0.1.end h.0.6))
    least

-- no permission has hits
none : (p : Permission) → no_hit ≡ hits_of no_hits p
none p = sym (hits_made place_below stands_there (λ q. no_hit) p)

-- the empty set's record has no hits
pub empty_record : AreTheirHits → (chart : Chart) (r : Record) → IsRecordOf chart [] r → r ≡ no_hits
empty_record same chart r is = same r no_hits (λ p. no_hits_of p (is p))
  where
    no_hits_of : (p : Permission) → IsLeastOrNone (EndsIn chart [] Allow p) (hits_of r p).allow × IsLeastOrNone (EndsIn chart [] Deny p)
        (hits_of r p).deny →
        hits_of r p ≡ hits_of no_hits p
    no_hits_of p h =
        ap (λ z. record { allow = z; deny = (hits_of r p).deny }) (none_ends chart Allow p (hits_of r p).allow h.0)
        ∙ ap (λ z. record { allow = 0; deny = z }) (none_ends chart Deny p (hits_of r p).deny h.1) ∙ none p

-- where nothing is live at first, nothing ever is
pub all_empty : (chart : Chart) → IsStartOf chart [] → (bytes set : List ℕ) → IsReached chart bytes set → set ≡ []
all_empty chart none _ set (begins _ _ begun) = no_members set (λ q h. contains_none q ((none.live q).1 ((begun.live q).0 h)))
all_empty chart none _ set (goes_on _ front before _ b reached small step) =
    step_empty chart b set (subst (λ z. IsStepOf chart z b set) (all_empty chart none front before reached) step)
