-- The first rules of each permission that hold it and match a name.
use Rattle.std.specs.Prelude.{ℕ, Bool, true, false, Option, Some, None}
use Rattle.names.specs.declared.permissions.Permission.{Permission}
use Rattle.names.specs.declared.permissions.Permission.TheVariants.{Read, Write, Link, Lock, Map, Append}
use Rattle.names.specs.declared.kind.RuleKind.{RuleKind}
use Rattle.names.specs.declared.kind.RuleKind.TheVariants.{Allow, Deny}
use Rattle.rule_explain.specs.declared.hits.FirstHits.{FirstHits}
use Rattle.rule_explain.specs.declared.hits.Firsts.{Firsts}

-- the first, if there was none before this one
abbrev pub with_first : Option ℕ → ℕ → Option ℕ
with_first None rule = Some rule
with_first (Some first) rule = Some first

abbrev pub with_rule : RuleKind → ℕ → FirstHits → FirstHits
with_rule Deny rule hits = record { denied = with_first hits.denied rule; allowed = hits.allowed }
with_rule Allow rule hits = record { denied = hits.denied; allowed = with_first hits.allowed rule }

-- with one more rule that matches the name, by whether it holds the permission
abbrev pub with_hit : FirstHits → Bool → RuleKind → ℕ → FirstHits
with_hit hits false kind rule = hits
with_hit hits true kind rule = with_rule kind rule hits

-- those of one permission
abbrev pub hits_of : Firsts → Permission → FirstHits
hits_of firsts Read = firsts.read
hits_of firsts Write = firsts.write
hits_of firsts Link = firsts.link
hits_of firsts Lock = firsts.lock
hits_of firsts Map = firsts.map
hits_of firsts Append = firsts.append
