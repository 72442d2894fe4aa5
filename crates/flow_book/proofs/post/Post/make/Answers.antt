use Rattle.std.proofs.Common.{◌≡◌, true, sym, subst}
use Rattle.flow_item.specs.Events.{parties_of, one}
use Rattle.flow_machine.specs.Enabled.{allows_at}
use Rattle.flow_book.specs.Posts.{Posted}
use Rattle.flow_book.proofs.Replays.{stays-replayed, changes-one, takes-alone}
use Rattle.flow_book.proofs.post.Post.make.Goals as goal

pub change_one-requires : goal.change_one-requires
change_one-requires g c =
    let alone = subst (λ (s : Posted). parties_of c.args.event ≡ one s.chair.party) (sym c.self.view_is) c.requires.alone in
    let step = subst (λ (s : Posted). allows_at s.node.place s.node.state c.args.event ≡ true) (sym c.self.view_is) c.requires.step in (
      c.args.event,
      changes-one c.self.inside.chair c.prepare.new.self c.self.inside.node.node c.of-change.result c.args.event c.self.invariant.1 c.prepare.ensures.same c.of-change.ensures
          c.requires.link (takes-alone (parties_of c.args.event) c.self.inside.chair.party alone) step c.in-Ok.ensures.ok,
    )

pub invariant_of-self-2 : goal.invariant_of-self-2
invariant_of-self-2 g c =
    let m = c.in_ok-commit1.ensures.made in
    let alone = subst (λ (s : Posted). parties_of c.args.event ≡ one s.chair.party) (sym c.self.view_is) c.requires.alone in
    let step = subst (λ (s : Posted). allows_at s.node.place s.node.state c.args.event ≡ true) (sym c.self.view_is) c.requires.step in
    let changes = changes-one c.self.inside.chair c.prepare.new.self c.self.inside.node.node c.of-change.result c.args.event c.self.invariant.1 c.prepare.ensures.same c.of-change.ensures
    c.requires.link (takes-alone (parties_of c.args.event) c.self.inside.chair.party alone) step c.in-Ok.ensures.ok in
    stays-replayed c.self.inside.chair c.commit1.new.c c.self.inside.number c.prepare.new.self.node c.self.inside.node.node c.change_one.new.self.node c.args.event m.0
    m.2 c.self.invariant.0 c.self.invariant.1 c.prepare.ensures.same (c.change_one.ensures c.args.event changes)
