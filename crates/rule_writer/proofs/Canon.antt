-- Which profiles can be read, and their canonical texts.
use Rattle.std.proofs.Common.{◌≡◌, ℕ, ◌↔◌, List, IsTrue, subst, sym}
use Rattle.rule_reader.specs.Grammar.{ReadsAs}
use Rattle.rule_profile.specs.Profile.{ProfileValue}
use Rattle.rule_profile.specs.Readable.{is_profile}
use Rattle.rule_writer.specs.Canonical.{canonical, CanBeRead}
use Rattle.rule_writer.proofs.CanonTexts.{canonical_read}

-- what a text is read as passes the test of the profiles that can be read
abbrev pub Tested : Type 0
Tested = (text : List ℕ) (p : ProfileValue) → ReadsAs text p → IsTrue (is_profile p)

-- a text has one profile
abbrev pub HasOneProfile : Type 0
HasOneProfile = (text : List ℕ) (p q : ProfileValue) → ReadsAs text p → ReadsAs text q → p ≡ q

pub readable_iff : Tested → (p : ProfileValue) → CanBeRead p ↔ IsTrue (is_profile p)
readable_iff tested p = (λ h. tested h.0 p h.1, λ h. (canonical p, canonical_read p h))

pub again : Tested → (p : ProfileValue) → CanBeRead p → ReadsAs (canonical p) p
again tested p h = canonical_read p (tested h.0 p h.1)

-- two profiles have two canonical texts, since a text has one profile
pub canon_apart : Tested → HasOneProfile → (p q : ProfileValue) → CanBeRead p → CanBeRead q → canonical p ≡ canonical q → p ≡ q
canon_apart tested one_profile p q h g e = one_profile (canonical p) p q (again tested p h)
    (subst (λ (x : List ℕ). ReadsAs x q) (sym e) (again tested q g))
