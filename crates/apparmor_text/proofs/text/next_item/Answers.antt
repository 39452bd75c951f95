use Rattle.std.proofs.Common.{◌-◌, List, ℕ, take, length, sym, ap, ◌∙◌}
use Rattle.apparmor_text.specs.Parts.{bytes_of_parts}
use Rattle.apparmor_text.proofs.ItemLoop.{item_taken}
use Rattle.apparmor_text.proofs.text.next_item.Goals as goal

pub new-requires : goal.new-requires
new-requires c =
    let bytes = c.args.bytes.now in
    let s = c.item.new.self in
    let here = rw c.new-reader.ensures at c.in_ok-kind.ensures in
    let taken = item_taken c.args.position bytes c.in_ok-kind.kind s c.requires here in
    let count = c.saturating_sub.ensures ∙ ap (λ (r : List ℕ). length bytes - length r) c.finish-parts.ensures.rest in
    c.split_at.ensures.front ∙ ap (λ n. take n bytes) count ∙ taken ∙ sym (ap bytes_of_parts c.finish-parts.ensures.parts)
