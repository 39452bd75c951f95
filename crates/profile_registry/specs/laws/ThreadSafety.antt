-- Profiles, what readers were given and publishers may move to other threads. A `search` in a crate above finds it by these.
use denote.Param.Send.{IsSend, IsSync, sendable}
use Rattle.std.proofs.Crossing as boxes
use Rattle.std.proofs.MapsCrossing as maps
use Rattle.left_right.proofs.reader.Reader.TheSendSync as reader
use Rattle.left_right.proofs.writer.Writer.TheSendSync as writer
use Rattle.rule_globs.proofs.items.Item.TheLaws.TheKnot as items
use Rattle.rule_profile.specs.contracts.profile.Profile as profile
use Rattle.matcher.specs.contracts.profiles.AnyProfile as any
use Rattle.matcher.specs.contracts.profiles.PolicyChange as change
use Rattle.matcher.specs.contracts.compiled.CompiledProfile as compiled
use Rattle.table_verifier.proofs.verified.VerifiedTable.TheSendSync as verified
use Rattle.table_verifier.proofs.loaded.LoadedProfile.TheSendSync as loaded
use Rattle.profile_registry.specs.contracts.store.Store as store
use Rattle.profile_registry.specs.contracts.reader.Told as told
use Rattle.profile_registry.specs.contracts.publisher.Publisher as publisher

profile_send : IsSend profile.the_field.row
profile_send = search (sendable, boxes.crosses, items.crosses) depth 40 fits 20000

profile_sync : IsSync profile.the_field.row
profile_sync = search (sendable, boxes.crosses, items.crosses) depth 40 fits 20000

compiled_send : IsSend compiled.the_field.row
compiled_send = search (sendable, profile_send, verified.the_send) depth 40 fits 20000

compiled_sync : IsSync compiled.the_field.row
compiled_sync = search (sendable, profile_sync, verified.the_sync) depth 40 fits 20000

pub any_send : IsSend any.the_row
any_send = search (sendable, compiled_send, loaded.the_send) depth 40 fits 20000

pub any_sync : IsSync any.the_row
any_sync = search (sendable, compiled_sync, loaded.the_sync) depth 40 fits 20000

store_send : IsSend store.the_row
store_send = search (sendable, any_send, any_sync, boxes.crosses, maps.crosses) depth 40 fits 20000

pub store_sync : IsSync store.the_row
store_sync = search (sendable, any_send, any_sync, boxes.crosses, maps.crosses) depth 40 fits 20000

change_send : IsSend change.the_row
change_send = search (sendable, any_send, any_sync, boxes.crosses) depth 40 fits 20000

pub told_send : IsSend told.the_row
told_send = search (sendable, reader.the_field_send, store_sync, boxes.crosses, boxes.send, boxes.sync) depth 40 fits 20000

pub publisher_send : IsSend publisher.the_row
publisher_send = search (sendable, writer.the_field_send, change_send, store_send, store_sync, boxes.crosses, boxes.send, boxes.sync)
    depth 40 fits 20000
