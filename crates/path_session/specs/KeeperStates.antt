-- A keeper's state as the view of a plain tree, and what was done to it and to the policy.
use Rattle.std.specs.Prelude.{List}
use Rattle.directory_tree.specs.Plain.{Plain}
use Rattle.dentry_cache.specs.Models.{Held}
use Rattle.mediation.specs.Deeds.{Deed}
use Rattle.mediation.specs.History.{History}

abbrev pub plain_of : Held → Plain
plain_of h = record { capacity = h.capacity; history = h.history }

abbrev pub history_of : Held → List Deed → History
history_of h deeds = record { tree = plain_of h; deeds = deeds }
