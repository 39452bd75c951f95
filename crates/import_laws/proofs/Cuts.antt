-- How the items of a canonical text are cut: into spans of which none is reported.
use Rattle.std.proofs.Common.{◌≡◌, ℕ, ◌-◌, ◌==◌, Bool, true, false, ◌&&◌, List, [], ◌∷◌, ◌++◌, map, length, Option, None, refl, sym}
use Rattle.std.proofs.Common.{ap, ◌∙◌, subst, if◌then◌else◌}
use Rattle.std.specs.Prelude.{codes}
use Rattle.std.proofs.lemmas.Bool.{and_right}
use Rattle.std.proofs.lemmas.List.{append-nil}
use Rattle.rule_globs.specs.Each.{Each}
use Rattle.rule_globs.specs.Rules.{RuleValue, ProfileValue}
use Rattle.names.specs.declared.permissions.Perms.{Perms}
use Rattle.names.specs.declared.kind.RuleKind.{RuleKind}
use Rattle.names.specs.declared.kind.RuleKind.TheVariants.{Allow, Deny}
use Rattle.apparmor_text.specs.declared.part.ItemKind.TheVariants as items
use Rattle.apparmor_text.specs.Parts.{PartValue, ItemValue}
use Rattle.import_laws.specs.CanonicalItems.{blank_item, head_item, rule_item, close_item, inner_items, canonical_items}
use Rattle.apparmor_rules.specs.declared.what.What.TheVariants as whats
use Rattle.import_spans.specs.declared.cut.Phase.{Phase}
use Rattle.import_spans.specs.declared.cut.Phase.TheVariants.{Outer, Skipping, Chosen}
use Rattle.import_spans.specs.declared.context.Choice.{Choice}
use Rattle.import_spans.specs.declared.context.RuleReading.{RuleReading}
use Rattle.import_spans.specs.declared.span.Span.{Span}
use Rattle.import_spans.specs.declared.span.SpanKind.{SpanKind}
use Rattle.import_spans.specs.declared.span.SpanKind.TheVariants.{Kept, Blank}
use Rattle.import_spans.specs.CutStates.{CutState, at_start, pass, put, enter, opened, closed, put_item}
use Rattle.import_spans.specs.Cuts.{chosen_head, outer_head, chosen_close, chosen_rule, outer_item, chosen_item, plain_item, is_chosen}
use Rattle.import_spans.specs.Cuts.{is_rule, cut_item, cut_items, rest_kind}
use Rattle.import_spans.specs.PartSpans.{head_kind, rule_kind}
use Rattle.apparmor_variables.specs.Variables.{Variable}
use Rattle.apparmor_rules.specs.declared.subject.Subject.{Subject}
use Rattle.apparmor_rules.specs.Restatement.{has_some, with_path}
use Rattle.apparmor_rules.specs.laws.RestatedPerms.{already_fitting}
use Rattle.apparmor_rules.specs.SubjectRules.{SubjectRule}
use Rattle.import_profile.specs.AddedRules.{added_rules}
use Rattle.import_profile.specs.FileRules.{PlacedRule, subject_rule, item_reading, rules_at, rules_in}
use Rattle.import_profile.specs.Restated.{PlacedValue, cut_for, all_rules, restated_rules}
use Rattle.import_laws.specs.Untold.{IsUntold}
use Rattle.import_laws.proofs.Lists.{each_append}
use Rattle.import_laws.proofs.Imported.{IsImported}
use Rattle.import_laws.proofs.RuleItems.{plain_rule, plain_reading, says_itself, is_told}

-- the state of cutting a canonical text: this phase and this depth; nothing was reported, and nothing adds more rules
pub record IsCut (chosen : Subject) (within : Phase) (deep : ℕ) (s : CutState) : Type 0 where
  pub subject : s.choice.subject ≡ chosen
  pub phase : s.phase ≡ within
  pub depth : s.depth ≡ deep
  pub change : s.changes_profile ≡ None
  pub hat : s.has_hat ≡ None
  pub untold : Each (λ (span : Span). IsUntold span.kind) s.spans

module _ (chosen : Subject) (phase : Phase) (depth : ℕ) where
  passing : (count : ℕ) (s : CutState) → IsCut chosen phase depth s → IsCut chosen phase depth (pass count s)
  passing count s g = record { subject = g.subject; phase = g.phase; depth = g.depth; change = g.change; hat = g.hat; untold = g.untold }

  putting : (kind : SpanKind) (s : CutState) → IsUntold kind → IsCut chosen phase depth s → IsCut chosen phase depth (put kind s)
  putting kind s fine g = at (s.from == s.at)
    where
      at : (b : Bool) → IsCut chosen phase depth
          (if b then s else record s { from = s.at; spans = s.spans ++ (record { start = s.from; end = s.at; kind = kind } ∷ []) })
      at true = g
      at false = record {
        subject = g.subject;
        phase = g.phase;
        depth = g.depth;
        change = g.change;
        hat = g.hat;
        untold = each_append (λ (span : Span). IsUntold span.kind) s.spans (record { start = s.from; end = s.at; kind = kind } ∷ [])
            g.untold (fine, tt);
      }

  -- one part that is put
  part_put : (kind : SpanKind) (count : ℕ) (s : CutState) → IsUntold kind → IsCut chosen phase depth s →
      IsCut chosen phase depth (put kind (pass count s))
  part_put kind count s fine g = putting kind (pass count s) fine (passing count s g)

-- ---- items

-- an item, by the phase that it is in
abbrev in_phase : Phase → RuleReading → ItemValue → CutState → CutState
in_phase phase reading item s = if is_chosen phase && is_rule item.kind then chosen_rule reading item s else plain_item phase item s

there : (chosen : Subject) (phase : Phase) (depth : ℕ) (reading : RuleReading) (item : ItemValue) (s : CutState) →
    IsCut chosen phase depth s
    → cut_item reading item s ≡ in_phase phase reading item s
there chosen phase depth reading item s g = ap (λ (p : Phase). in_phase p reading item s) g.phase

blank_put : (phase : Phase) (chosen : Subject) (depth : ℕ) (reading : RuleReading) (bytes : List ℕ) (s : CutState) →
    IsCut chosen phase depth s
    → (put Blank (pass (length bytes) s) ≡ in_phase phase reading (blank_item bytes) s) →
    IsCut chosen phase depth (cut_item reading (blank_item bytes) s)
blank_put phase chosen depth reading bytes s g e =
    subst (IsCut chosen phase depth) (e ∙ sym (there chosen phase depth reading (blank_item bytes) s g))
    (part_put chosen phase depth Blank (length bytes) s tt g)

blank_within : (chosen : Subject) (reading : RuleReading) (bytes : List ℕ) (s : CutState) → IsCut chosen Chosen 1 s →
    IsCut chosen Chosen 1 (cut_item reading (blank_item bytes) s)
unfolding plain_item chosen_item
blank_within chosen reading bytes s g = blank_put Chosen chosen 1 reading bytes s g refl

blank_behind : (chosen : Subject) (reading : RuleReading) (bytes : List ℕ) (s : CutState) → IsCut chosen Outer 0 s →
    IsCut chosen Outer 0 (cut_item reading (blank_item bytes) s)
unfolding plain_item outer_item
blank_behind chosen reading bytes s g = blank_put Outer chosen 0 reading bytes s g refl

-- ---- the head

-- the choice of a text's only profile
abbrev pub first_choice : Subject → Choice
first_choice chosen = record { subject = chosen; profile = 0; outermost = 0 }

-- the parts of a head, one after another
abbrev put_head : List PartValue → CutState → CutState
put_head [] s = s
put_head (p ∷ parts) s = put_head parts (put (head_kind s.choice.subject p.kind p.bytes) (pass (length p.bytes) s))

head_put : (chosen : Subject) (parts : List PartValue) (s : CutState) →
    Each (λ (p : PartValue). IsUntold (head_kind chosen p.kind p.bytes)) parts → IsCut chosen Chosen 1 s →
    IsCut chosen Chosen 1 (put_head parts s)
head_put chosen [] s fine g = g
head_put chosen (p ∷ parts) s fine g =
    let kind = head_kind s.choice.subject p.kind p.bytes in
    let count = length p.bytes in
    let here : IsUntold kind = subst (λ (x : Subject). IsUntold (head_kind x p.kind p.bytes)) (sym g.subject) fine.0 in
    head_put chosen parts (put kind (pass count s)) fine.1 (part_put chosen Chosen 1 kind count s here g)

head_cut : (chosen : Subject) (reading : RuleReading) (name : List ℕ) →
    IsCut chosen Chosen 1 (cut_item reading (head_item name) (at_start (first_choice chosen)))
unfolding plain_item outer_item outer_head chosen_head
head_cut chosen reading name =
    head_put chosen (head_item name).parts (opened (enter Chosen (at_start (first_choice chosen)))) (tt, (tt, (tt, (tt, (tt, tt)))))
    (record { subject = refl; phase = refl; depth = refl; change = refl; hat = refl; untold = tt })

-- ---- a rule, which stays as it is

untold_parts : (chosen : Subject) (r : RuleValue) (kind : RuleKind)
    → Each (λ (p : PartValue). IsUntold (rule_kind chosen (plain_reading r) p.kind)) (rule_item (record r { kind = kind })).parts
untold_parts chosen r Allow = (tt, (tt, (tt, (tt, tt))))
untold_parts chosen r Deny = (tt, (tt, (tt, (tt, (tt, (tt, tt))))))

if_stays : (P : CutState → Type 0) (b : Bool) (one other : CutState) → b ≡ true → P one → P (if b then one else other)
if_stays P true one other e h = h
if_stays P false one other e h = absurd cc

-- what stays doesn't depend on what it would be reported as
as_it_stays : (P : CutState → Type 0) (b : Bool) (one left other : CutState) → b ≡ true → P (if b then one else left) →
    P (if b then one else other)
as_it_stays P true one left other e h = h
as_it_stays P false one left other e h = absurd cc

rule_put : (chosen : Subject) (r : RuleValue) (parts : List PartValue) (s : CutState) → has_some r.perms ≡ true
    → Each (λ (p : PartValue). IsUntold (rule_kind chosen (plain_reading r) p.kind)) parts → IsCut chosen Chosen 1 s
    → IsCut chosen Chosen 1 (chosen_rule (plain_reading r) (record { kind = items.Rule; parts = parts }) s)
unfolding chosen_rule
rule_put chosen r [] s some fine g = if_stays (IsCut chosen Chosen 1) (has_some r.perms) s _ some g
rule_put chosen r (p ∷ parts) s some fine g =
    let kind = rule_kind s.choice.subject (plain_reading r) p.kind in
    let here : IsUntold kind = subst (λ (x : Subject). IsUntold (rule_kind x (plain_reading r) p.kind)) (sym g.subject) fine.0 in
    as_it_stays (IsCut chosen Chosen 1) (has_some r.perms) _ _ _ some
    (rule_put chosen r parts (put kind (pass (length p.bytes) s)) some fine.1 (part_put chosen Chosen 1 kind (length p.bytes) s here g))

rule_cut : (chosen : Subject) (r : RuleValue) (s : CutState) → IsImported r → IsCut chosen Chosen 1 s →
    IsCut chosen Chosen 1 (cut_item (plain_reading r) (rule_item r) s)
rule_cut chosen r s h g =
    subst (IsCut chosen Chosen 1) (sym (there chosen Chosen 1 (plain_reading r) (rule_item r) s g))
    (rule_put chosen r (rule_item r).parts s h.perms (untold_parts chosen r r.kind) g)

-- ---- the closing brace

close_cut : (chosen : Subject) (reading : RuleReading) (s : CutState) → IsCut chosen Chosen 1 s →
    IsCut chosen Outer 0 (cut_item reading close_item s)
unfolding plain_item chosen_item chosen_close
close_cut chosen reading s g =
    let less : (closed s).depth ≡ 0 = ap (λ (n : ℕ). n - 1) g.depth in
    let before : IsCut chosen Chosen 0 (closed s) = record {
      subject = g.subject;
      phase = g.phase;
      depth = less;
      change = g.change;
      hat =
          g.hat;
      untold = g.untold;
    } in
    let behind : IsCut chosen Chosen 0 (put_item Kept close_item (closed s)) =
    putting chosen Chosen 0 Kept (pass 1 (closed s)) tt (passing chosen Chosen 0 1 (closed s) before) in
    let outer : IsCut chosen Outer 0 (enter Outer (put_item Kept close_item (closed s))) =
    record {
      subject = behind.subject;
      phase = refl;
      depth = behind.depth;
      change = behind.change;
      hat = behind.hat;
      untold =
          behind.untold;
    } in
    subst (IsCut chosen Outer 0)
    (ap (λ (n : ℕ). enter (if n == 0 then Outer else Skipping (record { what = whats.Parent; floor = 0 }))
    (put_item Kept close_item (closed s))) (sym less) ∙ sym (there chosen Chosen 1 reading close_item s g)) outer

-- ---- all items

module _ (variables : List Variable) (chosen : Subject) where
  -- the state after one more item
  abbrev behind : ItemValue → CutState → CutState
  behind item s = cut_item (item_reading variables chosen item) item s

  blank_next : (bytes : List ℕ) (s : CutState) → IsCut chosen Chosen 1 s → IsCut chosen Chosen 1 (behind (blank_item bytes) s)
  blank_next bytes s g = blank_within chosen (item_reading variables chosen (blank_item bytes)) bytes s g

  rule_next : (r : RuleValue) (s : CutState) → IsImported r → IsCut chosen Chosen 1 s → IsCut chosen Chosen 1 (behind (rule_item r) s)
  rule_next r s h g =
      subst (λ (reading : RuleReading). IsCut chosen Chosen 1 (cut_item reading (rule_item r) s)) (sym (is_told variables chosen r h))
      (rule_cut chosen r s h g)

  inner_cut : (rules : List RuleValue) (s : CutState) → Each IsImported rules → IsCut chosen Chosen 1 s
      → IsCut chosen Outer 0 (cut_items (item_reading variables chosen) (inner_items rules) s)
  inner_cut [] s h g =
      let blank = blank_item (codes "\n") in
      let one = behind blank s in
      blank_behind chosen (item_reading variables chosen blank) (codes "\n") (behind close_item one)
      (close_cut chosen (item_reading variables chosen close_item) one (blank_next (codes "\n") s g))
  inner_cut (r ∷ rules) s h g =
      let one = behind (blank_item (codes "\n  ")) s in
      inner_cut rules (behind (rule_item r) one) h.1 (rule_next r one h.0 (blank_next (codes "\n  ") s g))

  -- ---- the rules

  -- what placed rules are restated as
  abbrev values : List PlacedRule → List RuleValue
  values rules = map (λ (v : PlacedValue). v.value) (restated_rules chosen rules)

  no_rule : (item : ItemValue) (s : CutState) → is_rule item.kind ≡ false → rules_at variables item s ≡ []
  no_rule item s e =
      ap (λ (b : Bool). if b then record { place = s.at; rule = subject_rule variables item.parts } ∷ [] else [])
      (and_right (is_chosen s.phase) (is_rule item.kind) e)

  own_rule : (r : RuleValue) (s : CutState) → IsImported r → IsCut chosen Chosen 1 s → rules_at variables (rule_item r) s
      ≡ record { place = s.at; rule = plain_rule r } ∷ []
  own_rule r s h g =
      ap (λ (p : Phase). if is_chosen p && true then record { place = s.at; rule = subject_rule variables (rule_item r).parts } ∷ []
      else []) g.phase
      ∙ ap (λ (rule : SubjectRule). record { place = s.at; rule = rule } ∷ []) (says_itself variables r h)

  itself : (place : ℕ) (r : RuleValue) (others : List PlacedRule) → IsImported r →
      values (record { place = place; rule = plain_rule r } ∷ others) ≡ r ∷ values others
  itself place r others h =
      ap (λ (b : Bool). map (λ (v : PlacedValue). v.value) (map (λ value. record { place = place; value = value })
      (if b then map (with_path (plain_rule r)) (r.items ∷ []) else []) ++ restated_rules chosen others)) h.perms
      ∙ ap (λ (perms : Perms). record { kind = r.kind; perms = perms; items = r.items } ∷ values others) (already_fitting r.perms h.fit)

  inner_rules : (rules : List RuleValue) (s : CutState) → Each IsImported rules → IsCut chosen Chosen 1 s →
      values (rules_in variables chosen (inner_items rules) s) ≡ rules
  inner_rules [] s h g =
      let blank = blank_item (codes "\n") in
      let one = behind blank s in
      let two = behind close_item one in
      ap (λ (l : List PlacedRule). values (l ++ (rules_at variables close_item one ++ (rules_at variables blank two ++ []))))
      (no_rule blank s refl)
      ∙ ap (λ (l : List PlacedRule). values (l ++ (rules_at variables blank two ++ []))) (no_rule close_item one refl)
      ∙ ap (λ (l : List PlacedRule). values (l ++ [])) (no_rule blank two refl)
  inner_rules (r ∷ rules) s h g =
      let blank = blank_item (codes "\n  ") in
      let one = behind blank s in
      let two = behind (rule_item r) one in
      let cut = blank_next (codes "\n  ") s g in
      let others = rules_in variables chosen (inner_items rules) two in
      ap (λ (l : List PlacedRule). values (l ++ (rules_at variables (rule_item r) one ++ others))) (no_rule blank s refl)
      ∙ ap (λ (l : List PlacedRule). values (l ++ others)) (own_rule r one h.0 cut)
      ∙ itself one.at r others h.0
      ∙ ap (λ (l : List RuleValue). r ∷ l) (inner_rules rules two h.1 (rule_next r one h.0 cut))

  -- ---- the whole text

  module _ (p : ProfileValue) (h : Each IsImported p.rules) where
    abbrev whole : List ItemValue
    whole = canonical_items p

    head_behind : IsCut chosen Chosen 1 (behind (head_item p.name) (at_start (first_choice chosen)))
    head_behind = head_cut chosen (item_reading variables chosen (head_item p.name)) p.name

    pub whole_cut : IsCut chosen Outer 0 (cut_for variables (first_choice chosen) whole)
    whole_cut =
        let end = cut_items (item_reading variables chosen) whole (at_start (first_choice chosen)) in
        let cut = inner_cut p.rules (behind (head_item p.name) (at_start (first_choice chosen))) h head_behind in
        putting chosen Outer 0 (rest_kind end.choice.subject end.phase) end
        (subst (λ (phase : Phase). IsUntold (rest_kind end.choice.subject phase)) (sym cut.phase) tt) cut

    pub whole_rules : values (all_rules variables (first_choice chosen) whole) ≡ p.rules
    whole_rules =
        let start = at_start (first_choice chosen) in
        let end = cut_for variables (first_choice chosen) whole in
        let others = rules_in variables chosen (inner_items p.rules) (behind (head_item p.name) start) in
        ap (λ (o : Option ℕ). values (rules_in variables chosen whole start ++ added_rules o end.has_hat)) whole_cut.change
        ∙ ap (λ (o : Option ℕ). values (rules_in variables chosen whole start ++ added_rules None o)) whole_cut.hat
        ∙ ap values (append-nil (rules_in variables chosen whole start))
        ∙ ap (λ (l : List PlacedRule). values (l ++ others)) (no_rule (head_item p.name) start refl)
        ∙ inner_rules p.rules (behind (head_item p.name) start) h head_behind
