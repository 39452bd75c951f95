-- How the items of a text are cut into spans for one of its profiles (our choice).
use Rattle.std.specs.Prelude.{ℕ, ◌==◌, List, [], ◌∷◌, ◌&&◌, Bool, true, false, if◌then◌else◌}
use Rattle.apparmor_text.specs.declared.part.ItemKind.{ItemKind}
use Rattle.apparmor_text.specs.declared.part.ItemKind.TheVariants as items
use Rattle.apparmor_text.specs.declared.part.PartKind.{PartKind}
use Rattle.apparmor_text.specs.declared.part.PartKind.TheVariants as kinds
use Rattle.apparmor_text.specs.Parts.{PartValue, ItemValue}
use Rattle.apparmor_rules.specs.RuleParts.{rule_whats, no_effect}
use Rattle.apparmor_rules.specs.RuleWords.{has_part}
use Rattle.apparmor_rules.specs.declared.what.What.{What}
use Rattle.apparmor_rules.specs.declared.what.What.TheVariants as whats
use Rattle.apparmor_rules.specs.declared.effect.Effect.{Effect}
use Rattle.apparmor_rules.specs.declared.subject.Subject.{Subject}
use Rattle.apparmor_rules.specs.Changes.{effect}
use Rattle.apparmor_rules.specs.Restatement.{is_restated}
use Rattle.import_spans.specs.declared.context.Choice.{Choice}
use Rattle.import_spans.specs.declared.context.RuleReading.{RuleReading}
use Rattle.import_spans.specs.declared.cut.Phase.{Phase}
use Rattle.import_spans.specs.declared.cut.Phase.TheVariants.{Outer, Skipping, Chosen}
use Rattle.import_spans.specs.declared.cut.Run.{Run}
use Rattle.import_spans.specs.declared.span.SpanKind.{SpanKind}
use Rattle.import_spans.specs.declared.span.SpanKind.TheVariants.{Kept}
use Rattle.import_spans.specs.declared.reports.PartTelling.TheVariants.{Plain, OfHead, OfRule}
use Rattle.import_spans.specs.PartSpans.{told, added_effect, statement_whats, statement_effect, changes_profile}
use Rattle.import_spans.specs.CutStates.{CutState, at_start, put, enter, opened, closed, with_hat, with_change, passed}
use Rattle.import_spans.specs.CutStates.{put_item, put_parts}

-- ---- runs of items that are one span

-- a child or a hat of the chosen profile adds rules to it
abbrev pub run_effect : Subject → What → Effect
run_effect chosen whats.Hat = added_effect chosen
run_effect chosen whats.Child = added_effect chosen
run_effect chosen _ = no_effect chosen

abbrev pub run_kind : Subject → What → SpanKind
run_kind chosen what = told (what ∷ []) (run_effect chosen what)

-- a run begins here: the items up to the one that closes what this head opens
unfoldable pub start_run : What → ItemValue → CutState → CutState
start_run what item s = passed item (opened (enter (Skipping (record { what = what; floor = s.depth })) s))

-- the phase after a run with this floor
abbrev pub behind_run : ℕ → Phase
behind_run floor = if floor == 0 then Outer else Chosen

-- ---- heads

abbrev pub is_hat : PartKind → Bool
is_hat kinds.Hat = true
is_hat _ = false

-- a head of these parts begins here, which is marked if it is a hat's
abbrev pub marked : List PartValue → CutState → CutState
marked parts s = if has_part is_hat parts then with_hat s else s

-- the chosen profile's
unfoldable pub chosen_head : ItemValue → CutState → CutState
chosen_head item s = put_parts OfHead item.parts (opened (enter Chosen (marked item.parts s)))

-- one outside of profiles
unfoldable pub outer_head : ItemValue → CutState → CutState
outer_head item s =
    if s.heads == s.choice.profile then chosen_head item s
    else start_run (if s.heads == s.choice.outermost then whats.Parent else whats.Profile) item s

-- one in a run, which ends before the chosen profile
unfoldable pub run_head : What → ItemValue → CutState → CutState
run_head what item s =
    if s.heads == s.choice.profile then chosen_head item (put (run_kind s.choice.subject what) s)
    else passed item (opened s)

-- one in the chosen profile
unfoldable pub child_head : What → ItemValue → CutState → CutState
child_head what item s = start_run what item (with_hat s)

-- ---- ends of profiles

-- in a run
unfoldable pub run_close : Run → ItemValue → CutState → CutState
run_close run item s =
    if (closed s).depth == run.floor
    then enter (behind_run run.floor) (put_item (run_kind s.choice.subject run.what) item (closed s))
    else passed item (closed s)

-- the chosen profile's: what is left of the one that it is in is a run
unfoldable pub chosen_close : ItemValue → CutState → CutState
chosen_close item s =
    enter (if (closed s).depth == 0 then Outer else Skipping (record { what = whats.Parent; floor = 0 }))
    (put_item Kept item (closed s))

-- ---- statements and rules

-- a statement, reported as one
unfoldable pub statement_item : ItemValue → CutState → CutState
statement_item item s =
    put_item (told (statement_whats item.parts) (statement_effect s.choice.subject (statement_whats item.parts))) item
    (if changes_profile (statement_whats item.parts) then with_change s else s)

-- a rule of the chosen profile: if it stays, its parts are reported, else all of it
unfoldable pub chosen_rule : RuleReading → ItemValue → CutState → CutState
chosen_rule reading item s =
    if is_restated s.choice.subject reading.shape then put_parts (OfRule reading) item.parts s
    else put_item (told (rule_whats reading.marks item.parts) (effect s.choice.subject reading.shape)) item s

-- ---- items, by what they are

-- outside of profiles
unfoldable pub outer_item : ItemKind → ItemValue → CutState → CutState
outer_item items.Blank item s = put_parts Plain item.parts s
outer_item items.Statement item s = statement_item item s
outer_item items.Profile item s = outer_head item s
outer_item items.Hat item s = outer_head item s
outer_item _ item s = put_item Kept item s

-- in a run
unfoldable pub run_item : Run → ItemKind → ItemValue → CutState → CutState
run_item run items.Profile item s = run_head run.what item s
run_item run items.Hat item s = run_head run.what item s
run_item run items.Close item s = run_close run item s
run_item run _ item s = passed item s

-- directly in the chosen profile, except rules
unfoldable pub chosen_item : ItemKind → ItemValue → CutState → CutState
chosen_item items.Blank item s = put_parts Plain item.parts s
chosen_item items.Statement item s = statement_item item s
chosen_item items.Profile item s = child_head whats.Child item s
chosen_item items.Hat item s = child_head whats.Hat item s
chosen_item items.Close item s = chosen_close item s
chosen_item _ item s = put_item Kept item s

-- any item except a rule of the chosen profile, by where it is
unfoldable pub plain_item : Phase → ItemValue → CutState → CutState
plain_item Outer item s = outer_item item.kind item s
plain_item (Skipping run) item s = run_item run item.kind item s
plain_item Chosen item s = chosen_item item.kind item s

abbrev pub is_rule : ItemKind → Bool
is_rule items.Rule = true
is_rule _ = false

abbrev pub is_chosen : Phase → Bool
is_chosen Chosen = true
is_chosen _ = false

-- it is a rule of the chosen profile
abbrev pub is_chosen_rule : ItemValue → CutState → Bool
is_chosen_rule item s = is_chosen s.phase && is_rule item.kind

-- any item, where this is how it is read if it is a rule of the chosen profile
abbrev pub cut_item : RuleReading → ItemValue → CutState → CutState
cut_item reading item s =
    if is_chosen_rule item s then chosen_rule reading item s else plain_item s.phase item s

-- ---- texts

-- the kind of what is in no span yet: that of a run that is still open, if there is one. Otherwise no byte is left.
abbrev pub rest_kind : Subject → Phase → SpanKind
rest_kind chosen (Skipping run) = run_kind chosen run.what
rest_kind chosen _ = Kept

abbrev pub finished : CutState → CutState
finished s = put (rest_kind s.choice.subject s.phase) s

-- one item after another, where this is how rules are read
abbrev pub cut_items : (ItemValue → RuleReading) → List ItemValue → CutState → CutState
cut_items reading [] s = s
cut_items reading (item ∷ items) s = cut_items reading items (cut_item (reading item) item s)

-- all items of a text
abbrev pub cut_of : (ItemValue → RuleReading) → Choice → List ItemValue → CutState
cut_of reading choice items = finished (cut_items reading items (at_start choice))
