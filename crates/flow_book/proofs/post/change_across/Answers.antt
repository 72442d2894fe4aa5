use Rattle.std.proofs.Common.{subst, Bool}
use Rattle.flow_item.specs.declared.event.Event.{Event}
use Rattle.flow_book.specs.Posts.{ChangesAcross}
use Rattle.flow_book.proofs.post.change_across.Goals as goal

pub change_two-requires : goal.change_two-requires
change_two-requires c = subst (λ (b : Bool). (e : Event) × ChangesAcross b c.args.node.now c.args.other.now c.args.change e) c.if-from.true c.requires

pub change_two-requires-else-from : goal.change_two-requires-else-from
change_two-requires-else-from c = subst (λ (b : Bool). (e : Event) × ChangesAcross b c.args.node.now c.args.other.now c.args.change e) c.if-from.false c.requires
