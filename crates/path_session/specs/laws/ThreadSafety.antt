-- A session may move to another thread. A `search` in a crate above finds it by this.
use denote.Param.Send.{IsSend, sendable}
use Rattle.std.proofs.Crossing as boxes
use Rattle.profile_registry.proofs.ThreadSafety.{reader_send}
use Rattle.profile_registry.specs.laws.ThreadSafety.{any_send, any_sync}
use Rattle.path_lookup.proofs.scratch.Scratch.TheSendSync as scratch
use Rattle.dentry_cache.proofs.walker.Walker.TheSendSync as walker
use Rattle.verdict_cache.proofs.cache.VerdictCache.TheSendSync as cache
use Rattle.path_session.specs.contracts.session.Session as session

pub session_send : IsSend session.the_row
session_send = search (sendable, any_send, any_sync, walker.the_send, scratch.the_send, cache.the_send, reader_send, boxes.crosses)
    depth 60 fits 20000
