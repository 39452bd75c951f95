-- When a group chooses.
use Rattle.std.proofs.Common.{◌≡◌, ℕ, ◌≤◌, ◌<◌, Bool, true, false, ◌&&◌, List, [], ◌∷◌, length, map, Vec, Global, refl, sym, ap, ◌∙◌}
use Rattle.std.proofs.Common.{arith}
use Rattle.std.specs.Prelude.{nat_le}
use Rattle.std.specs.List.{list_all}
use Rattle.std.proofs.lemmas.Bool.Decides.{nat_tests}
use Rattle.std.proofs.lemmas.List.Folds.{list_all-map}
use Rattle.std.proofs.lemmas.List.{length-map}
use Rattle.rule_globs.specs.declared.items.Item.{Item, Item-F, fold-roll-Item}
use Rattle.rule_globs.specs.declared.items.Item.TheVariants as v
use Rattle.rule_globs.specs.declared.items.Item.TheVariants.{rolls-Group}
use Rattle.rule_making.specs.Choices.{node_chooses, chooses, all_choose}

all_row : (f : Vec Item Global → Vec Bool Global) → ((v : Vec Item Global) → (f v).items ≡ map chooses v.items) →
    (alternatives : List (Vec Item Global)) →
    list_all (λ items. list_all (λ c. c) items.items) (map f alternatives) ≡ list_all (λ items. all_choose items.items) alternatives
all_row f same [] = refl
all_row f same (a ∷ others) =
    let here : list_all (λ c. c) (f a).items ≡ all_choose a.items = rw (same a) (list_all-map (λ c. c) chooses a.items) in
    let there = all_row f same others in cc

-- two alternatives or more, and all of them choose
abbrev pub some_choose : List (Vec Item Global) → Bool
some_choose alternatives = nat_le 2 (length alternatives) && list_all (λ items. all_choose items.items) alternatives

some_row : (f : Vec Item Global → Vec Bool Global) → ((v : Vec Item Global) → (f v).items ≡ map chooses v.items) →
    (alternatives : List (Vec Item Global)) →
    (nat_le 2 (length (map f alternatives)) && list_all (λ items. list_all (λ c. c) items.items) (map f alternatives))
    ≡ some_choose alternatives
some_row f same alternatives = cc (length-map alternatives f, all_row f same alternatives)

pub chooses-Group : (alternatives : Vec (Vec Item Global) Global) → chooses (v.Group alternatives) ≡ some_choose alternatives.items
chooses-Group alternatives =
    ap chooses (sym (rolls-Group alternatives)) ∙ fold-roll-Item Bool node_chooses (Item-F.Group alternatives)
    ∙ some_row _ (λ v. refl) alternatives.items

-- too few alternatives
pub no_choice : (alternatives : List (Vec Item Global)) → length alternatives < 2 → some_choose alternatives ≡ false
no_choice alternatives few =
    let none : nat_le 2 (length alternatives) ≡ false = grind (arith, nat_tests) in
    ap (λ x. x && list_all (λ items. all_choose items.items) alternatives) none

pub by_alternatives : (alternatives : List (Vec Item Global)) → 2 ≤ length alternatives → some_choose alternatives
    ≡ list_all (λ items. all_choose items.items) alternatives
by_alternatives alternatives some =
    let two : nat_le 2 (length alternatives) ≡ true = grind (arith, nat_tests) in
    ap (λ x. x && list_all (λ items. all_choose items.items) alternatives) two

pub too_few : (n : ℕ) → n < 2 → nat_le 2 n ≡ false
too_few n few = grind (arith, nat_tests)
