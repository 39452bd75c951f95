-- What is justified by some changes stays so by more.
use Rattle.std.proofs.Common.{◌≡◌, ℕ, ◌+◌, ◌≤◌, List, length, take, Some, None, Option, sym, ap, ◌∙◌, arith, length-append}
use Rattle.std.proofs.Common.{length-take}
use Rattle.std.proofs.lemmas.List.{take-append-le}
use mathlib.Core.List.{IsPrefix}
use Rattle.names.specs.declared.permissions.Perms.{Perms}
use Rattle.directory_tree.specs.laws.Rooms.{roomy_after}
use Rattle.directory_tree.specs.declared.change.Change.{Change}
use Rattle.directory_tree.specs.Tree.{Tree}
use Rattle.directory_tree.specs.Apply.{tree_after}
use Rattle.mediation.specs.Deeds.{Deed, policy_after}
use Rattle.mediation.specs.Judge.{Judge}
use Rattle.justification.specs.declared.answer.Answer.{Answer}
use Rattle.justification.specs.declared.answer.Answer.TheVariants.{Judged, Failed, NoProfile, Busy, NoEntry}
use Rattle.justification.specs.Justified.{Justified}
use Rattle.justification.specs.Versions.{IsTreeAt, IsPublishedAt}

module _ {A : Type 0} where
  pub prefix_is_shorter : (xs ys : List A) → IsPrefix xs ys → length xs ≤ length ys
  prefix_is_shorter xs ys begins =
      let all : length xs + length begins.0 ≡ length ys = sym (length-append xs begins.0) ∙ ap length begins.1 in omega arith

  pub first_stay : (xs ys : List A) (n : ℕ) → IsPrefix xs ys → n ≤ length xs → take n ys ≡ take n xs
  first_stay xs ys n begins within = ap (take n) (sym begins.1) ∙ take-append-le n xs begins.0 within

pub tree_stays : (changes later : List Change) (version : ℕ) (t : Tree) → IsPrefix changes later → IsTreeAt changes version t →
    IsTreeAt later version t
tree_stays changes later version t begins (within, made) =
    let shorter = prefix_is_shorter changes later begins in
    let fits : length (take version changes) ≤ length later = omega (arith, length-take version changes) in (
      omega arith,
      ap (tree_after (length later)) (first_stay changes later version begins within)
          ∙ roomy_after (length later) (length changes) (take version changes) t fits made,
    )

pub published_stays : (deeds more : List Deed) (version : ℕ) (profile : List ℕ) (published : Option Judge) → IsPrefix deeds more →
    IsPublishedAt deeds version profile published → IsPublishedAt more version profile published
published_stays deeds more version profile published begins (within, is) =
    let shorter = prefix_is_shorter deeds more begins in
    (omega arith, ap (λ (first : List Deed). policy_after first profile) (first_stay deeds more version begins within) ∙ is)

pub justified_stays : (profile path : List ℕ) (ask : Perms) (changes later : List Change) (deeds more : List Deed) (answer : Answer)
    → IsPrefix changes later → IsPrefix deeds more → Justified profile path ask changes deeds answer →
    Justified profile path ask later more answer
justified_stays profile path ask changes later deeds more (Judged verdict node tree policy) longer grown
    (t, file, judge, at, is, published, says) = (
      t,
      file,
      judge,
      tree_stays changes later tree t longer at,
      is,
      published_stays deeds more policy profile (Some judge) grown published,
      says,
    )
justified_stays profile path ask changes later deeds more (Failed errno tree) longer grown (t, at, is) =
    (t, tree_stays changes later tree t longer at, is)
justified_stays profile path ask changes later deeds more (NoProfile policy) longer grown published =
    published_stays deeds more policy profile None grown published
justified_stays profile path ask changes later deeds more (Busy began ended) longer grown disturbed = disturbed
justified_stays profile path ask changes later deeds more NoEntry longer grown is = is
