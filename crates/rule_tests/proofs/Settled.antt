-- Which faults are settled, determined by reading.
use Rattle.std.proofs.Common.{◌≡◌, ◌∙◌, ℕ, Bool, true, false, not, List, Ok, Err, refl, sym, ap, true≢false}
use Rattle.std.specs.List.{All, list_all}
use Rattle.std.proofs.lemmas.List.Sums.{AllPass-from_list_all}
use Rattle.rule_reader.specs.ReadHeader.{slash_name_at, name_at, attachment_at, brace_at, named_header_at, slash_header_at, header_at}
use Rattle.rule_reader.specs.ReadWords.{name_bytes, name_in, quoted_name}
use Rattle.rule_reader.specs.ReadClasses.{members_at, class_at}
use Rattle.rule_reader.specs.ReadPaths.{goes_on_at, token_at, tokens_at, path_in, path_at}
use Rattle.rule_reader.specs.ReadText.{perms_at, perms_behind, first_word_at, qualifier_at, start_at, rule_begins, comma_at}
use Rattle.rule_reader.specs.ReadText.{body_at, rule_at, rules_at, text_at}
use Rattle.rule_reader.specs.ReadFaults.{IsSettled}
use Rattle.rule_tests.specs.Settled.{settled_fronts, unsettled_fronts}

-- reading the text stops at a settled fault
is_settled : List ℕ → Bool
is_settled text = elim (text_at text) [ Ok p ↦ false | Err s ↦ s.settled ]

-- reading the text stops at a fault that isn't settled
is_unsettled : List ℕ → Bool
is_unsettled text = elim (text_at text) [ Ok p ↦ false | Err s ↦ not s.settled ]

when_settled : (text : List ℕ) → is_settled text ≡ true → IsSettled text
unfolding is_settled
when_settled text =
    elim (text_at text) as (λ r. text_at text ≡ r → elim r [ Ok p ↦ false | Err s ↦ s.settled ] ≡ true → IsSettled text) [
      | Ok p ↦ λ e h. absurd (true≢false (sym h))
      | Err s ↦ λ e h. (s, e, h)
    ] refl

when_unsettled : (text : List ℕ) → is_unsettled text ≡ true → IsSettled text → ⊥
unfolding is_unsettled
when_unsettled text h x = true≢false (sym h ∙ ap (λ r. elim r [ Ok p ↦ false | Err s ↦ not s.settled ]) x.1 ∙ ap not x.2)

all_settled : list_all is_settled settled_fronts ≡ true
unfolding is_settled slash_name_at name_at attachment_at brace_at named_header_at slash_header_at header_at name_bytes name_in quoted_name
    members_at class_at goes_on_at token_at tokens_at path_in path_at perms_at perms_behind first_word_at qualifier_at start_at rule_begins
    comma_at body_at rule_at rules_at text_at
all_settled = refl

all_unsettled : list_all is_unsettled unsettled_fronts ≡ true
unfolding is_unsettled slash_name_at name_at attachment_at brace_at named_header_at slash_header_at header_at name_bytes name_in
    quoted_name members_at class_at goes_on_at token_at tokens_at path_in path_at perms_at perms_behind first_word_at qualifier_at start_at
    rule_begins comma_at body_at rule_at rules_at text_at
all_unsettled = refl

pub settled : All IsSettled settled_fronts
settled k d below = when_settled _ (AllPass-from_list_all is_settled settled_fronts all_settled k d below)

pub unsettled : All (λ front. IsSettled front → ⊥) unsettled_fronts
unsettled k d below = when_unsettled _ (AllPass-from_list_all is_unsettled unsettled_fronts all_unsettled k d below)
