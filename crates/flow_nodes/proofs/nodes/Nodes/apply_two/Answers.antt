use Rattle.std.proofs.Common.{sym, ap, ◌∙◌}
use Rattle.std.proofs.lemmas.Bool.{eqb-false}
use Rattle.flow_item.specs.declared.event.Parties.{Parties}
use Rattle.flow_nodes.proofs.StepLemmas.{takes-first, takes-second, takes-two, can-stay, can-stay-other, prepared-stays, nodes-stay, two-ends, two-stepped}
use Rattle.flow_nodes.proofs.nodes.Nodes.apply_two.Goals as goal

pub prepare-requires : goal.prepare-requires
prepare-requires c = c.requires.can.within c.args.a (takes-first _ _ (ap (λ (p : Parties). p.first) c.requires.parties))

pub returns-in-Err-clause-err : goal.returns-in-Err-clause-err
returns-in-Err-clause-err c = nodes-stay c.prepare.ensures.same

pub prepare-requires-2 : goal.prepare-requires-2
prepare-requires-2 c = (can-stay c.args.e.now c.prepare.ensures.same c.requires.can).within c.args.b (takes-second _ _ _ c.requires.parties)

pub returns-in-Err-prepare-clause-err : goal.returns-in-Err-prepare-clause-err
returns-in-Err-prepare-clause-err c = nodes-stay c.prepare-2.ensures.same ∙ nodes-stay c.prepare.ensures.same

pub step_from-given-requires : goal.step_from-given-requires
step_from-given-requires c =
    let e = c.args.e.now in
    let can = can-stay e c.prepare-2.ensures.same (can-stay e c.prepare.ensures.same c.requires.can) in
    let party = takes-first _ c.args.a (ap (λ (p : Parties). p.first) c.requires.parties) in
    let ends = two-ends e c.args.a c.args.b c.requires.parties c.requires.can.apart in
    record {
      within = can.within c.args.a party;
      may = can.may c.args.a party;
      prepared = prepared-stays c.args.a e c.prepare-2.ensures.same (λ h. eqb-false _ _ ends.apart (sym h)) c.in_default.ensures.ok;
      from = ends.from;
    }

pub step_to-requires : goal.step_to-requires
step_to-requires c =
    let e = c.args.e.now in
    let can = can-stay e c.prepare-2.ensures.same (can-stay e c.prepare.ensures.same c.requires.can) in
    let party = takes-second _ _ _ c.requires.parties in
    let ends = two-ends e c.args.a c.args.b c.requires.parties c.requires.can.apart in
    let later = can-stay-other c.args.b e c.step_from-given.ensures.node (eqb-false _ _ ends.apart) (can.within c.args.b party) (can.may c.args.b party) in
    record {
      within = later.0;
      may = later.1;
      prepared = prepared-stays c.args.b e c.step_from-given.ensures.node (eqb-false _ _ ends.apart) c.in_default-prepare.ensures.ok;
      over = ends.over;
      to = ends.to;
      given = c.step_from-given.ensures.given;
    }

pub returns-clause-ok : goal.returns-clause-ok
returns-clause-ok c =
    let e = c.args.e.now in
    let ends = two-ends e c.args.a c.args.b c.requires.parties c.requires.can.apart in
    two-stepped e c.args.a c.args.b c.prepare.ensures.same c.prepare-2.ensures.same c.step_from-given.ensures.node c.step_to.ensures ends.apart (λ k. takes-two _ _ _ k c.requires.parties)
