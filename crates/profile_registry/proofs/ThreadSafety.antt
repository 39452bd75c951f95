-- A reader may move to another thread. A `search` in a crate above finds it by this.
use denote.Param.Send.{IsSend, sendable}
use Rattle.std.proofs.Crossing as boxes
use Rattle.left_right.proofs.reader.Reader.TheSendSync as reader
use Rattle.profile_registry.proofs.refusals.Refusals.TheSendSync as refusals
use Rattle.profile_registry.specs.contracts.reader.PolicyReader as policy_reader
use Rattle.profile_registry.specs.laws.ThreadSafety.{store_sync}

pub reader_send : IsSend policy_reader.the_row
reader_send = search (sendable, reader.the_field_send, refusals.the_send, store_sync, boxes.crosses, boxes.send, boxes.sync)
    depth 40 fits 20000
