-- What is built on the chart of some rules is their automaton.
use Rattle.std.proofs.Common.{◌≡◌, ℕ, suc, ◌+◌, ◌-◌, ◌<◌, ◌↔◌, inl, inr, List, [], ◌∷◌, ◌++◌, length, Some, slice_get}
use Rattle.std.proofs.Common.{slice_index_or, IsTrue, append_assoc, append-nil, refl, sym, ap, ◌∙◌, subst, arith}
use Rattle.std.specs.List.{Contains}
use Rattle.names.specs.declared.permissions.Permission.{Permission}
use Rattle.names.specs.Permissions.{has}
use Rattle.rule_globs.specs.laws.Behind.{iff_trans}
use Rattle.rule_globs.specs.Glob.{Glob, places}
use Rattle.rule_profile.specs.Profile.{RuleValue, pattern}
use Rattle.rule_globs.specs.Verdict.{Hits, IsRuleAt}
use Rattle.names.specs.declared.kind.RuleKind.{RuleKind}
use Rattle.names.specs.declared.kind.RuleKind.TheVariants.{Allow, Deny}
use Rattle.glob_automaton.specs.declared.chart.Chart.{Chart}
use Rattle.glob_automaton.specs.declared.chart.ChartRule.{ChartRule}
use Rattle.automaton_rows.specs.declared.fault.CompileFault.{CompileFault}
use Rattle.automaton_rows.specs.declared.fault.CompileFault.TheVariants.{TooManyStates, NoMemory}
use Rattle.names.specs.declared.record.Record.{Record}
use Rattle.automaton_rows.specs.Automata.{Automaton, target, goes_to, state_after, most_sets}
use Rattle.glob_automaton.specs.Automata.{IsCompileFault}
use Rattle.glob_automaton.specs.inner.ChartStates.{IsReached, begins, goes_on, EndsIn, IsRecordOf, IsBuilt, IsBuildFault}
use Rattle.glob_automaton.specs.inner.Drawings.{HasRule, IsChartOf}
use Rattle.names.specs.Least.{hits_of, IsLeastOrNone}
use Rattle.glob_automaton.specs.Parts.{SameIn, NoneIn, HitsIn, IsLeastIn, IsAutomatonOfPart}
use Rattle.names.specs.Bytes.{are_bytes}
use Rattle.glob_automaton.specs.Sets.{AreMoreThan}
use Rattle.names.specs.Hits.{no_hits}
use Rattle.glob_automaton.proofs.EmptySets.{empty_record}
use Rattle.std.proofs.lemmas.List.Elements.{All-nil, All-push}
use Rattle.std.proofs.lemmas.Option.{slice_get-get_or}
use Rattle.glob_automaton.proofs.SetCounts.{each_counted}
use Rattle.glob_automaton.proofs.LiveByParts.{LeftFirst}
use Rattle.glob_automaton.proofs.LiveNumbers.{LiveAtFirst, LiveAfterByte}
use Rattle.glob_automaton.proofs.NamePrefixes.{EachWithSlash}
use Rattle.glob_automaton.proofs.OneRecord.{AreTheirHits}
use Rattle.glob_automaton.proofs.PatternPlaces.{end_live}
use Rattle.glob_automaton.proofs.ReachedSets.{at_index, has_number, number_there, equal_sets, empty_set}
use Rattle.glob_automaton.proofs.WholeParts.{same_of_part, none_of_part, same_of_whole, none_of_whole}
use Rattle.glob_automaton.proofs.RuleNumbers.{rule_stands, drawn_of, rule_of, neither_less}

-- the least member, of sets with the same members
same_least : (S T : ℕ → Type 0) (n : ℕ) → ((m : ℕ) → S m ↔ T m) → IsLeastOrNone S n → IsLeastOrNone T n
same_least S T n same (inl h) = inl (h.0, λ m t. h.1 m ((same m).1 t))
same_least S T n same (inr h) = inr ((same n).0 h.0, λ m t. h.1 m ((same m).1 t))

-- a hit of some rule is one of a rule of the whole part
hit_of_part : (rules : List RuleValue) (kind : RuleKind) (p : Permission) (bytes : List ℕ) (n : ℕ) →
    Hits rules kind p bytes n ↔ HitsIn rules 0 (length rules) kind p bytes n
hit_of_part rules kind p bytes n = (λ hit. (omega (arith, hit.1.0), hit.1.1, hit), λ h. h.2)

-- what reaches a set is bytes
reached_bytes : (chart : Chart) (bytes set : List ℕ) → IsReached chart bytes set → are_bytes bytes
reached_bytes chart bytes set (begins c s start) = All-nil (λ z. z < 256)
reached_bytes chart bytes set (goes_on c front old s b reached small step) =
    All-push (λ z. z < 256) front b (reached_bytes chart front old reached) small

module _ (first : LiveAtFirst) (after : LiveAfterByte) (by_steps : LeftFirst) (rules : List RuleValue) (chart : Chart)
    (is : IsChartOf rules chart) where
  -- a rule's end is in the set exactly where the rule hits
  end_hits : (bytes set : List ℕ) → IsReached chart bytes set → (kind : RuleKind) (p : Permission) (n : ℕ) →
      EndsIn chart set kind p n ↔ Hits rules kind p bytes n
  end_hits bytes set reached kind p n = (
    λ h.
        let d : ChartRule = h.1 in
        let r = rule_of chart rules chart.rules.items 0 is.drawn h.0 d h.3 in
        let g : Glob = pattern r.0 in
        let has_it : HasRule chart r.0 d = rule_stands chart rules chart.rules.items 0 is.drawn h.0 r.0 d r.1 h.3 in
        let last : d.end ≡ d.end + (places g - places g) = omega arith in (
          r.0,
          subst (λ z. IsRuleAt rules z r.0) (sym h.2) (has_number rules h.0 r.0 r.1),
          sym has_it.kind ∙ h.4,
          subst (λ z. IsTrue (has z p)) has_it.perms h.5,
          end_live g bytes ((number_there first after rules chart is bytes set reached h.0 r.0 d (places g) r.1 h.3 (omega arith)).0
              (subst (λ z. Contains set z) last h.6)),
        ),
    λ h.
        let g : Glob = pattern h.0 in
        let stands = at_index rules n h.0 h.1 in
        let w = drawn_of chart rules chart.rules.items 0 is.drawn (n - 1) h.0 stands in
        let d : ChartRule = w.0 in
        let has_it : HasRule chart h.0 d = rule_stands chart rules chart.rules.items 0 is.drawn (n - 1) h.0 d stands w.1 in
        let last : d.end + (places g - places g) ≡ d.end = omega arith in (
          n - 1,
          d,
          omega (arith, h.1.0),
          w.1,
          has_it.kind ∙ h.2,
          subst (λ z. IsTrue (has z p)) (sym has_it.perms) h.3,
          subst (λ z. Contains set z) last
              ((number_there first after rules chart is bytes set reached (n - 1) h.0 d (places g) stands w.1 (omega arith)).1
              (inr (refl, h.4))),
        ),
  )

  -- a set's record is that of the least hits
  record_least : (bytes set : List ℕ) (r : Record) → IsReached chart bytes set → IsRecordOf chart set r →
      IsLeastIn rules 0 (length rules) bytes r
  record_least bytes set r reached h p = (
    same_least (EndsIn chart set Allow p) (HitsIn rules 0 (length rules) Allow p bytes) (hits_of r p).allow
        (λ n. iff_trans (end_hits bytes set reached Allow p n) (hit_of_part rules Allow p bytes n)) (h p).0,
    same_least (EndsIn chart set Deny p) (HitsIn rules 0 (length rules) Deny p bytes) (hits_of r p).deny
        (λ n. iff_trans (end_hits bytes set reached Deny p n) (hit_of_part rules Deny p bytes n)) (h p).1,
  )

  module _ (a : Automaton) (b : IsBuilt chart a) where
    start_there : a.start < length b.sets
    start_there = omega (arith, b.whole.start_there, b.each_row)

    target_there : (s c : ℕ) → s < length b.sets → c < 256 → target a s c < length b.sets
    target_there s c lt small = omega (arith, b.whole.targets s c (omega (arith, lt, b.each_row)) small, b.each_row)

    -- the state after more bytes is that of the set that they reach
    followed : (s : ℕ) (front bytes : List ℕ) → s < length b.sets → IsReached chart front (slice_index_or b.sets s []) → are_bytes bytes →
        (goes_to a s bytes < length b.sets) × IsReached chart (front ++ bytes) (slice_index_or b.sets (goes_to a s bytes) [])
    followed s front [] lt reached small =
        (lt, subst (λ z. IsReached chart z (slice_index_or b.sets s [])) (sym (append-nil front)) reached)
    followed s front (c ∷ bytes) lt reached small =
        let one : c < 256 = small 0 0 (omega arith) in
        let next : ℕ = target a s c in
        let w = followed next (front ++ c ∷ []) bytes (target_there s c lt one)
        (goes_on chart front (slice_index_or b.sets s []) (slice_index_or b.sets next []) c reached one (b.steps s c lt one))
        (λ k d within. small (suc k) d (omega (arith, within))) in
        (w.0, subst (λ z. IsReached chart z (slice_index_or b.sets (goes_to a next bytes) [])) (append_assoc front (c ∷ []) bytes) w.1)

    state_there : (bytes : List ℕ) → are_bytes bytes → state_after a bytes < length b.sets
    state_there bytes small =
        (followed a.start [] bytes start_there (begins chart (slice_index_or b.sets a.start []) b.begins) small).0

    state_set : (bytes : List ℕ) → are_bytes bytes → IsReached chart bytes (slice_index_or b.sets (state_after a bytes) [])
    state_set bytes small =
        (followed a.start [] bytes start_there (begins chart (slice_index_or b.sets a.start []) b.begins) small).1

    -- one state for each set
    same_state : (i j : ℕ) → i < length b.sets → j < length b.sets → slice_index_or b.sets i [] ≡ slice_index_or b.sets j [] → i ≡ j
    same_state i j low high e =
        neither_less i j (λ lt. b.are_sets.different i j lt high e) (λ lt. b.are_sets.different j i lt low (sym e))

    state_same : (x y : List ℕ) → are_bytes x → are_bytes y →
        (state_after a x ≡ state_after a y) ↔ SameIn rules 0 (length rules) x y
    state_same x y one two =
        let equal = equal_sets first after by_steps rules chart is x y (slice_index_or b.sets (state_after a x) [])
        (slice_index_or b.sets (state_after a y) [])
        (state_set x one) (state_set y two) in (
          λ e. same_of_part rules 0 (length rules) x y (equal.0 (ap (λ s. slice_index_or b.sets s []) e)),
          λ same. same_state (state_after a x) (state_after a y) (state_there x one) (state_there y two)
              (equal.1 (same_of_whole rules x y same)),
        )

    state_dead : (bytes : List ℕ) → are_bytes bytes → (state_after a bytes ≡ 0) ↔ NoneIn rules 0 (length rules) bytes
    state_dead bytes small =
        let none = empty_set first after by_steps rules chart is bytes (slice_index_or b.sets (state_after a bytes) [])
        (state_set bytes small) in (
          λ e. none_of_part rules 0 (length rules) bytes (none.0 (ap (λ s. slice_index_or b.sets s []) e ∙ b.are_sets.empty)),
          λ h. same_state (state_after a bytes) 0 (state_there bytes small) b.are_sets.some
              (none.1 (none_of_whole rules bytes h) ∙ sym b.are_sets.empty),
        )

    -- each set's state is met
    met : (s : ℕ) → 0 < s → s < length b.sets → (bytes : List ℕ) × are_bytes bytes × (state_after a bytes ≡ s)
    met s some lt =
        let w = b.are_sets.reached s some lt in
        let small = reached_bytes chart w.0 (slice_index_or b.sets s []) w.1 in
        let equal = equal_sets first after by_steps rules chart is w.0 w.0 (slice_index_or b.sets (state_after a w.0) [])
        (slice_index_or b.sets s []) (state_set w.0 small) w.1 in
        (w.0, small, same_state (state_after a w.0) s (state_there w.0 small) lt (equal.1 (λ n p. (λ live. live, λ live. live))))

    -- the record of a state
    record_there : (s : ℕ) → s < length b.sets → (r : Record) × (slice_get a.records s ≡ Some r) × IsRecordOf chart
        (slice_index_or b.sets s []) r
    record_there s lt =
        let r : Record = slice_index_or a.records s no_hits in
        (r, slice_get-get_or a.records s no_hits (omega (arith, lt, b.each_row, b.whole.each_record)), b.records s no_hits lt)

    -- that of the empty set has no hits
    none_there : AreTheirHits → slice_get a.records 0 ≡ Some no_hits
    none_there same =
        let w = record_there 0 b.are_sets.some in
        w.1 ∙ ap Some (empty_record same chart w.0 (subst (λ z. IsRecordOf chart z w.0) b.are_sets.empty w.2))

    -- what is built on a chart of rules is the automaton of the part that is all of them
    pub built : AreTheirHits → IsAutomatonOfPart rules 0 (length rules) a
    built same = record {
      whole = b.whole;
      least = λ bytes small.
          let w = record_there (state_after a bytes) (state_there bytes small) in
          (w.0, w.1, record_least bytes (slice_index_or b.sets (state_after a bytes) []) w.0 (state_set bytes small) w.2);
      one_each = state_same;
      dead = state_dead;
      hits_nothing = none_there same;
      met = λ s some lt. met s some (omega (arith, lt, b.each_row));
    }

  -- more sets than are built on are more than the rules may have
  pub too_many : EachWithSlash rules → IsBuildFault chart TooManyStates → AreMoreThan most_sets rules
  too_many slashes h =
      let counted = each_counted first after by_steps rules chart is slashes h.0 h.1 in
      (counted.0, counted.1, omega (arith, counted.2, h.2))

  -- why nothing was built is why there is no automaton
  pub not_built : EachWithSlash rules → (fault : CompileFault) → IsBuildFault chart fault → IsCompileFault rules fault
  not_built slashes TooManyStates h = too_many slashes h
  not_built slashes NoMemory h = tt
