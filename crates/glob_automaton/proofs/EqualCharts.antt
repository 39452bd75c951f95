-- What a comparison finds equal of two charts is the same.
use Rattle.std.proofs.Common.{◌≡◌, ◌&&◌, Bool, true, false, not, nat_eq, refl, subst, List, rules}
use Rattle.std.proofs.lemmas.Bool.{eqb-true}
use Rattle.std.proofs.Math.Bool.{and-true}
use Rattle.std.specs.Bool.{Decides}
use Rattle.std.specs.Cmp.Lexicographic.{pointwise}
use Rattle.std.specs.List.{list_all}
use Rattle.std.specs.contracts.prelude.BoolPartialEq.TheImpl as bool_impl
use Rattle.std.proofs.lemmas.Slice.Eq.{slice_eq-Decides}
use Rattle.names.specs.declared.permissions.Perms.{Perms}
use Rattle.names.specs.Permissions.{all_permissions, has}
use Rattle.names.specs.laws.PermissionSets.{each_passes, same_perms}
use Rattle.names.specs.contracts.permissions.PermsPartialEq.TheImpl as perms_impl
use Rattle.names.specs.declared.kind.RuleKind.{RuleKind}
use Rattle.names.specs.contracts.kind.RuleKindPartialEq.TheImpl as kind_impl
use Rattle.glob_automaton.specs.declared.chart.ChartPlace.{ChartPlace}
use Rattle.glob_automaton.specs.declared.chart.ChartRule.{ChartRule}
use Rattle.glob_automaton.specs.declared.chart.Entry.{Entry}
use Rattle.glob_automaton.specs.contracts.chart.ChartPlacePartialEq.TheImpl as place_impl
use Rattle.glob_automaton.specs.contracts.chart.ChartRulePartialEq.TheImpl as rule_impl
use Rattle.glob_automaton.specs.contracts.chart.EntryPartialEq.TheImpl as entry_impl

pub entry_decided : (a b : Entry) → Decides (entry_impl.eq-value.it a b) (a ≡ b)
entry_decided a b = (λ e. search rules, λ e. search rules)

pub place_decided : (a b : ChartPlace) → Decides (place_impl.eq-value.it a b) (a ≡ b)
place_decided a b = (λ e. search rules, λ e. search rules)

bit_decided : (a b : Bool) → Decides (bool_impl.ghosts.eq a b) (a ≡ b)
bit_decided a b = (λ e. search rules, λ e. search rules)

pub class_decided : (a b : List Bool) → Decides (pointwise bool_impl.ghosts.eq a b) (a ≡ b)
class_decided a b = slice_eq-Decides bit_decided a b (pointwise bool_impl.ghosts.eq a b) refl

kind_decided : (a b : RuleKind) → Decides (kind_impl.eq-value.it a b) (a ≡ b)
kind_decided a b = (λ e. search rules, λ e. search rules)

-- both tests hold where their conjunction does
both : (a b : Bool) → (a && b) ≡ true → (a ≡ true) × (b ≡ true)
both true b e = (refl, e)
both false b e = absurd (cc e)

joined : (a b : Bool) → a ≡ true → b ≡ true → (a && b) ≡ true
joined true b one other = other
joined false b one other = absurd (cc one)

-- a comparison of two sets says of each permission that both have it or neither has
perms_decided : (a b : Perms) → Decides (perms_impl.eq-value.it a b) (a ≡ b)
perms_decided a b = (
  λ e.
      let all : list_all (λ p. bool_impl.ghosts.eq (has a p) (has b p)) all_permissions ≡ true = simp and-true e in
      same_perms a b (λ p. (bit_decided (has a p) (has b p)).0 (each_passes (λ q. bool_impl.ghosts.eq (has a q) (has b q)) all p)),
  λ e. search rules,
)

rule_itself : (a : ChartRule) → rule_impl.eq-value.it a a ≡ true
rule_itself a = joined _ _ (search rules)
    (joined _ _ (search rules) (joined _ _ ((kind_decided a.kind a.kind).1 refl) ((perms_decided a.perms a.perms).1 refl)))

pub rule_decided : (a b : ChartRule) → Decides (rule_impl.eq-value.it a b) (a ≡ b)
rule_decided a b = (
  λ e.
      let all = both (nat_eq a.end b.end) _ e in
      let but_end = both (nat_eq a.start b.start) _ all.1 in
      let last = both (kind_impl.eq-value.it a.kind b.kind) _ but_end.1 in
      λ i. record {
        end = eqb-true a.end b.end all.0 i;
        start = eqb-true a.start b.start but_end.0 i;
        kind = (kind_decided a.kind b.kind).0 last.0 i;
        perms = (perms_decided a.perms b.perms).0 last.1 i;
      },
  λ e. subst (λ (z : ChartRule). rule_impl.eq-value.it a z ≡ true) e (rule_itself a),
)

-- what isn't different is equal
pub not_different : (differs same : Bool) → differs ≡ not same → differs ≡ false → same ≡ true
not_different differs true is equal = refl
not_different differs false is equal = absurd (cc (is, equal))
