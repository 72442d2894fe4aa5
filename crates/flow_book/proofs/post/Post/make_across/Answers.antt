use Rattle.std.proofs.Common.{◌≡◌, true, sym, subst}
use Rattle.flow_item.specs.Events.{parties_of}
use Rattle.flow_machine.specs.Enabled.{allows_at}
use Rattle.flow_line.specs.Values.{IsPair}
use Rattle.flow_book.specs.Posts.{Posted}
use Rattle.flow_book.proofs.Replays.{stays-replayed, changes-across}
use Rattle.flow_book.proofs.post.Post.make_across.Goals as goal

pub change_across-requires : goal.change_across-requires
change_across-requires g c =
    let pair = subst (λ (s : Posted). IsPair (parties_of c.args.event) s.chair.party c.other.inside.chair.party) (sym c.self.view_is)
    (subst (λ (s : Posted). IsPair (parties_of c.args.event) c.args.self.now.chair.party s.chair.party) (sym c.other.view_is) c.requires.pair) in
    let step = subst (λ (s : Posted). allows_at s.node.place s.node.state c.args.event ≡ true) (sym c.self.view_is) c.requires.step in
    let other_step = subst (λ (s : Posted). allows_at s.node.place s.node.state c.args.event ≡ true) (sym c.other.view_is) c.requires.other_step in (
      c.args.event,
      changes-across c.self.inside.chair c.other.inside.chair c.prepare.new.self c.prepare-2.new.self c.self.inside.node.node c.other.inside.node.node c.self.inside.number c.leads-from.result c.of-change.result c.args.event
          c.self.invariant.1 c.other.invariant.1 c.self.invariant.0 c.prepare.ensures.same c.prepare-2.ensures.same c.leads-from.ensures pair c.of-change.ensures step other_step c.in-Ok.ensures.ok c.in-Ok-prepare.ensures.ok,
    )

pub invariant_of-self-2 : goal.invariant_of-self-2
invariant_of-self-2 g c =
    let m = c.in_ok-commit2.ensures.made in
    let pair = subst (λ (s : Posted). IsPair (parties_of c.args.event) s.chair.party c.other.inside.chair.party) (sym c.self.view_is)
    (subst (λ (s : Posted). IsPair (parties_of c.args.event) c.args.self.now.chair.party s.chair.party) (sym c.other.view_is) c.requires.pair) in
    let step = subst (λ (s : Posted). allows_at s.node.place s.node.state c.args.event ≡ true) (sym c.self.view_is) c.requires.step in
    let other_step = subst (λ (s : Posted). allows_at s.node.place s.node.state c.args.event ≡ true) (sym c.other.view_is) c.requires.other_step in
    let changes = changes-across c.self.inside.chair c.other.inside.chair c.prepare.new.self c.prepare-2.new.self c.self.inside.node.node c.other.inside.node.node c.self.inside.number c.leads-from.result c.of-change.result c.args.event
    c.self.invariant.1 c.other.invariant.1 c.self.invariant.0 c.prepare.ensures.same c.prepare-2.ensures.same c.leads-from.ensures pair c.of-change.ensures step other_step c.in-Ok.ensures.ok c.in-Ok-prepare.ensures.ok in
    stays-replayed c.self.inside.chair c.commit2.new.a c.self.inside.number c.prepare.new.self.node c.self.inside.node.node c.change_across.new.node.node c.args.event m.0
    m.3 c.self.invariant.0 c.self.invariant.1 c.prepare.ensures.same (c.change_across.ensures.node c.args.event changes)

pub invariant_of-other-2 : goal.invariant_of-other-2
invariant_of-other-2 g c =
    let m = c.in_ok-commit2.ensures.made in
    let pair = subst (λ (s : Posted). IsPair (parties_of c.args.event) s.chair.party c.other.inside.chair.party) (sym c.self.view_is)
    (subst (λ (s : Posted). IsPair (parties_of c.args.event) c.args.self.now.chair.party s.chair.party) (sym c.other.view_is) c.requires.pair) in
    let step = subst (λ (s : Posted). allows_at s.node.place s.node.state c.args.event ≡ true) (sym c.self.view_is) c.requires.step in
    let other_step = subst (λ (s : Posted). allows_at s.node.place s.node.state c.args.event ≡ true) (sym c.other.view_is) c.requires.other_step in
    let changes = changes-across c.self.inside.chair c.other.inside.chair c.prepare.new.self c.prepare-2.new.self c.self.inside.node.node c.other.inside.node.node c.self.inside.number c.leads-from.result c.of-change.result c.args.event
    c.self.invariant.1 c.other.invariant.1 c.self.invariant.0 c.prepare.ensures.same c.prepare-2.ensures.same c.leads-from.ensures pair c.of-change.ensures step other_step c.in-Ok.ensures.ok c.in-Ok-prepare.ensures.ok in
    stays-replayed c.other.inside.chair c.commit2.new.b c.other.inside.number c.prepare-2.new.self.node c.other.inside.node.node c.change_across.new.other.node c.args.event m.0
    m.4 c.other.invariant.0 c.other.invariant.1 c.prepare-2.ensures.same (c.change_across.ensures.other c.args.event changes)
