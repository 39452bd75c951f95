use Rattle.std.proofs.Common.{◌≡◌, ℕ, List, subst}
use Rattle.std.specs.Prelude.{◌⊎◌}
use Rattle.std.specs.Option.{option_or}
use Rattle.tree_row.specs.Known.{known_at}
use Rattle.tree_row.proofs.Merges.{known_both, known_either}
use Rattle.tree_row.proofs.known.KnownWords.append.Goals as goal

pub returns-in_err-append-clause-either : goal.returns-in_err-append-clause-either
returns-in_err-append-clause-either c =
    let moves = c.append.ensures.moves in
    subst (λ (z : ℕ × List (ℕ × ℕ)). (place : ℕ) → (known_at c.append.new.self.entries place ≡ known_at c.args.self.now.1 place)
    ⊎ (known_at c.append.new.self.entries place ≡ known_at z.1 place)) c.later.view_is
    (subst (λ (z : ℕ × List (ℕ × ℕ)). (place : ℕ) → (known_at c.append.new.self.entries place ≡ known_at z.1 place)
    ⊎ (known_at c.append.new.self.entries place ≡ known_at c.later.inside.words.entries place)) c.self.view_is
    (known_either _ _ moves.0 _ c.append.new.self.entries c.append.ensures.other_was_ordered moves.1 moves.2.0))

pub returns-clause-either : goal.returns-clause-either
returns-clause-either c =
    let moves = c.append.ensures.moves in
    subst (λ (z : ℕ × List (ℕ × ℕ)). (place : ℕ) → (known_at c.append.new.self.entries place ≡ known_at c.args.self.now.1 place)
    ⊎ (known_at c.append.new.self.entries place ≡ known_at z.1 place)) c.later.view_is
    (subst (λ (z : ℕ × List (ℕ × ℕ)). (place : ℕ) → (known_at c.append.new.self.entries place ≡ known_at z.1 place)
    ⊎ (known_at c.append.new.self.entries place ≡ known_at c.later.inside.words.entries place)) c.self.view_is
    (known_either _ _ moves.0 _ c.append.new.self.entries c.append.ensures.other_was_ordered moves.1 moves.2.0))

pub returns-clause-ok : goal.returns-clause-ok
returns-clause-ok c =
    subst (λ (z : ℕ × List (ℕ × ℕ)). (place : ℕ) → known_at c.append.new.self.entries place ≡ option_or (known_at z.1 place)
    (known_at c.args.self.now.1 place)) c.later.view_is
    (subst (λ (z : ℕ × List (ℕ × ℕ)). (place : ℕ) → known_at c.append.new.self.entries place
    ≡ option_or (known_at c.later.inside.words.entries place) (known_at z.1 place)) c.self.view_is
    (known_both _ c.later.inside.words.entries _ c.append.ensures.other_was_ordered c.in_ok-append.ensures.inserts_all.0))
