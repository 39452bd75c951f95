-- Questions, and the verdicts that are kept under them.
use Rattle.std.specs.Prelude.{ℕ, Bool, ◌&&◌, ◌==◌, List, Option, Contains, nat_eq}
use Rattle.std.specs.Cmp.Lexicographic.{pointwise}
use Rattle.std.specs.Map.{lookup}
use Rattle.names.specs.declared.permissions.Perms.{Perms}
use Rattle.names.specs.contracts.permissions.PermsPartialEq.TheImpl as perms
use Rattle.names.specs.declared.verdict.Verdict.{Verdict}
use Rattle.lru.specs.LruCache.{lru_cache, promoted, put_entries}

-- what an open asks, by which profile, and at which versions of the tree and of the policy
pub record Asked : Type 0 where
  pub path : List ℕ
  pub profile : List ℕ
  pub ask : Perms
  pub tree : ℕ
  pub policy : ℕ

-- what was answered: the verdict, the node that it is on, and the name that was judged
pub record Kept : Type 0 where
  pub verdict : Verdict
  pub node : ℕ
  pub name : List ℕ

-- the verdicts that are kept, the most recently used first, and how many there may be
pub record Verdicts : Type 0 where
  pub entries : List (Asked × Kept)
  pub capacity : ℕ

abbrev pub verdicts : List (Asked × Kept) → ℕ → Verdicts
verdicts es n = record { entries = es; capacity = n }

-- whether two questions are the same
abbrev pub asks : Asked → Asked → Bool
asks p q = (p.tree == q.tree) && ((p.policy == q.policy)
    && (pointwise nat_eq p.path q.path && (pointwise nat_eq p.profile q.profile && perms.ghosts.eq p.ask q.ask)))

-- what is kept under the question
abbrev pub found_under : Asked → Verdicts → Option Kept
found_under q c = lookup (asks q) c.entries

-- after a look: what is kept under the question goes first
abbrev pub with_first : Asked → Verdicts → Verdicts
with_first q c = verdicts (promoted (asks q) c.entries) c.capacity

-- after a keep: the pair is first, in place of the one under the same question; else the last of a full cache goes
abbrev pub with_kept : Asked → Kept → Verdicts → Verdicts
with_kept q k c = verdicts (put_entries asks (lru_cache c.entries c.capacity) q k) c.capacity

-- P holds of each question with what is kept under it
abbrev pub OfEach : (Asked × Kept → Type 0) → Verdicts → Type 0
OfEach P c = (e : Asked × Kept) → Contains c.entries e → P e
