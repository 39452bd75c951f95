-- What a store contains, and what a change makes of it.
use Rattle.std.specs.Prelude.{ℕ, ◌+◌, List, map, Vec}
use Rattle.std.specs.FinMap.{from_entries}
use Rattle.std.specs.declared.alloc.Global.{Global}
use Rattle.std.specs.declared.sync.Arc.{Arc}
use Rattle.matcher.specs.declared.profiles.AnyProfile.{AnyProfile}
use Rattle.matcher.specs.declared.profiles.PolicyChange.{PolicyChange}
use Rattle.mediation.specs.Judge.{Judge}
use Rattle.mediation.specs.PolicyChanges.{judge_shared, deed_of}
use Rattle.profile_registry.specs.declared.store.Contents.{Contents}
use Rattle.profile_registry.specs.declared.store.Store.{Store}
use Rattle.profile_registry.specs.inner.Names.{Profiles, profiles_after}

-- a name with what its profile says
abbrev pub said : Vec ℕ Global × Arc AnyProfile Global → List ℕ × Judge
said entry = (entry.0.items, judge_shared entry.1)

abbrev pub contents_of : Store → Contents
contents_of store = record { version = store.version; profiles = from_entries (map said store.profiles.entries) }

-- with other profiles, at the same version
abbrev pub with_profiles : Contents → Profiles → Contents
with_profiles contents profiles = record { version = contents.version; profiles = profiles }

-- with one more change
abbrev pub with_change : Contents → PolicyChange → Contents
with_change contents change = record { version = contents.version + 1; profiles = profiles_after contents.profiles (deed_of change) }
