use Rattle.std.proofs.Common.{◌+◌, length}
use Rattle.flow_machine.specs.Machine.{is_legal, is_of_run}
use Rattle.std.specs.List.{list_all}
use Rattle.flow_item.proofs.Tests.{and_left}
use Rattle.flow_laws.proofs.Settled.{settles}
use Rattle.flow_work.proofs.MeaningLemmas.{keeps-meaning}
use Rattle.flow_work.proofs.PromiseLemmas.{edges-agree, holds-agree, nodes-within, ledger-adds-up, one-fate-each, lineages-each, holds-reserve, nothing-is-held, parents-were-born, can-run}
use Rattle.flow_run.proofs.Answered.{where_ok}
use Rattle.flow_run.proofs.run.run_all_with_nodes.Goals as goal

pub returns-clause-edges : goal.returns-clause-edges
returns-clause-edges g c =
    let shape = c.args.doc.now.shape in
    let es = c.run_kept.new.kept.journal in
    let run = c.run_kept.ensures.run in
    let can = can-run (g.S.Bodies.count c.args.bodies.now) c.args.doc.now c.requires.fits c.requires.built c.requires.version in
    let legal = and_left (is_legal shape es) (list_all (is_of_run shape (length c.args.doc.now.scripts) (c.args.workers + length c.args.doc.now.scripts)) es) run.run in
    edges-agree shape es can.valid legal

pub returns-clause-holds : goal.returns-clause-holds
returns-clause-holds g c =
    let shape = c.args.doc.now.shape in
    let es = c.run_kept.new.kept.journal in
    let run = c.run_kept.ensures.run in
    let can = can-run (g.S.Bodies.count c.args.bodies.now) c.args.doc.now c.requires.fits c.requires.built c.requires.version in
    let legal = and_left (is_legal shape es) (list_all (is_of_run shape (length c.args.doc.now.scripts) (c.args.workers + length c.args.doc.now.scripts)) es) run.run in
    holds-agree shape es can.valid legal

pub returns-clause-node_limits : goal.returns-clause-node_limits
returns-clause-node_limits g c =
    let shape = c.args.doc.now.shape in
    let es = c.run_kept.new.kept.journal in
    let run = c.run_kept.ensures.run in
    let can = can-run (g.S.Bodies.count c.args.bodies.now) c.args.doc.now c.requires.fits c.requires.built c.requires.version in
    let legal = and_left (is_legal shape es) (list_all (is_of_run shape (length c.args.doc.now.scripts) (c.args.workers + length c.args.doc.now.scripts)) es) run.run in
    nodes-within shape es can.valid legal

pub returns-clause-ledger : goal.returns-clause-ledger
returns-clause-ledger g c =
    let shape = c.args.doc.now.shape in
    let es = c.run_kept.new.kept.journal in
    let run = c.run_kept.ensures.run in
    let can = can-run (g.S.Bodies.count c.args.bodies.now) c.args.doc.now c.requires.fits c.requires.built c.requires.version in
    let legal = and_left (is_legal shape es) (list_all (is_of_run shape (length c.args.doc.now.scripts) (c.args.workers + length c.args.doc.now.scripts)) es) run.run in
    ledger-adds-up shape es can.valid legal

pub returns-clause-fates : goal.returns-clause-fates
returns-clause-fates g c =
    let shape = c.args.doc.now.shape in
    let es = c.run_kept.new.kept.journal in
    let run = c.run_kept.ensures.run in
    let can = can-run (g.S.Bodies.count c.args.bodies.now) c.args.doc.now c.requires.fits c.requires.built c.requires.version in
    let legal = and_left (is_legal shape es) (list_all (is_of_run shape (length c.args.doc.now.scripts) (c.args.workers + length c.args.doc.now.scripts)) es) run.run in
    one-fate-each shape es can.valid legal

pub returns-clause-lineages : goal.returns-clause-lineages
returns-clause-lineages g c =
    let shape = c.args.doc.now.shape in
    let es = c.run_kept.new.kept.journal in
    let run = c.run_kept.ensures.run in
    let can = can-run (g.S.Bodies.count c.args.bodies.now) c.args.doc.now c.requires.fits c.requires.built c.requires.version in
    let legal = and_left (is_legal shape es) (list_all (is_of_run shape (length c.args.doc.now.scripts) (c.args.workers + length c.args.doc.now.scripts)) es) run.run in
    lineages-each shape es can.valid legal

pub returns-clause-reservations : goal.returns-clause-reservations
returns-clause-reservations g c =
    let shape = c.args.doc.now.shape in
    let es = c.run_kept.new.kept.journal in
    let run = c.run_kept.ensures.run in
    let can = can-run (g.S.Bodies.count c.args.bodies.now) c.args.doc.now c.requires.fits c.requires.built c.requires.version in
    let legal = and_left (is_legal shape es) (list_all (is_of_run shape (length c.args.doc.now.scripts) (c.args.workers + length c.args.doc.now.scripts)) es) run.run in
    holds-reserve shape es can.valid legal

pub returns-clause-complete : goal.returns-clause-complete
returns-clause-complete g c = where_ok c.run_kept.result.0 c.run_kept.ensures.run.whole

pub returns-clause-closed : goal.returns-clause-closed
returns-clause-closed g c = where_ok c.run_kept.result.0 c.run_kept.ensures.run.closed

pub returns-clause-at_rest : goal.returns-clause-at_rest
returns-clause-at_rest g c = λ none.
    let shape = c.args.doc.now.shape in
    let es = c.run_kept.new.kept.journal in
    let can = can-run (g.S.Bodies.count c.args.bodies.now) c.args.doc.now c.requires.fits c.requires.built c.requires.version in
    let legal = and_left (is_legal shape es) (list_all (is_of_run shape (length c.args.doc.now.scripts) (c.args.workers + length c.args.doc.now.scripts)) es) c.run_kept.ensures.run.run in
    let settled = settles shape es can.valid legal none in
    (settled, nothing-is-held shape es can.valid legal settled, parents-were-born shape es can.valid legal settled)

pub returns-clause-settled : goal.returns-clause-settled
returns-clause-settled g c =
    let shape = c.args.doc.now.shape in
    let es = c.run_kept.new.kept.journal in
    let run = c.run_kept.ensures.run in
    let can = can-run (g.S.Bodies.count c.args.bodies.now) c.args.doc.now c.requires.fits c.requires.built c.requires.version in
    let legal = and_left (is_legal shape es) (list_all (is_of_run shape (length c.args.doc.now.scripts) (c.args.workers + length c.args.doc.now.scripts)) es) run.run in
    where_ok c.run_kept.result.0 (λ t. settles shape es can.valid legal (run.closed t))

pub returns-clause-released : goal.returns-clause-released
returns-clause-released g c =
    let shape = c.args.doc.now.shape in
    let es = c.run_kept.new.kept.journal in
    let run = c.run_kept.ensures.run in
    let can = can-run (g.S.Bodies.count c.args.bodies.now) c.args.doc.now c.requires.fits c.requires.built c.requires.version in
    let legal = and_left (is_legal shape es) (list_all (is_of_run shape (length c.args.doc.now.scripts) (c.args.workers + length c.args.doc.now.scripts)) es) run.run in
    where_ok c.run_kept.result.0 (λ t. nothing-is-held shape es can.valid legal (settles shape es can.valid legal (run.closed t)))

pub returns-clause-parents : goal.returns-clause-parents
returns-clause-parents g c =
    let shape = c.args.doc.now.shape in
    let es = c.run_kept.new.kept.journal in
    let run = c.run_kept.ensures.run in
    let can = can-run (g.S.Bodies.count c.args.bodies.now) c.args.doc.now c.requires.fits c.requires.built c.requires.version in
    let legal = and_left (is_legal shape es) (list_all (is_of_run shape (length c.args.doc.now.scripts) (c.args.workers + length c.args.doc.now.scripts)) es) run.run in
    where_ok c.run_kept.result.0 (λ t. parents-were-born shape es can.valid legal (settles shape es can.valid legal (run.closed t)))

pub returns-clause-meaning : goal.returns-clause-meaning
returns-clause-meaning g c =
    let doc = c.args.doc.now in
    let es = c.run_kept.new.kept.journal in
    let run = c.run_kept.ensures.run in
    let workers = c.args.workers + length doc.scripts in
    let can = can-run (g.S.Bodies.count c.args.bodies.now) doc c.requires.fits c.requires.built c.requires.version in
    let legal = and_left (is_legal doc.shape es) (list_all (is_of_run doc.shape (length doc.scripts) workers) es) run.run in
    where_ok c.run_kept.result.0 (λ t. keeps-meaning (g.S.Bodies.meanings c.args.bodies.now) doc workers es c.answer_once.ensures can.valid run.run run.bodies (run.whole t) (settles doc.shape es can.valid legal (run.closed t)))

pub returns-clause-legal_run : goal.returns-clause-legal_run
returns-clause-legal_run g c = c.run_kept.ensures.run.run

pub returns-clause-scripts : goal.returns-clause-scripts
returns-clause-scripts g c = c.run_kept.ensures.run.follows

pub returns-clause-waits : goal.returns-clause-waits
returns-clause-waits g c = c.run_kept.ensures.run.waits

pub returns-clause-bodies : goal.returns-clause-bodies
returns-clause-bodies g c = c.run_kept.ensures.run.bodies

pub returns-clause-limits : goal.returns-clause-limits
returns-clause-limits g c = c.run_kept.ensures.run.within

pub returns-clause-refused : goal.returns-clause-refused
returns-clause-refused g c = c.run_kept.ensures.run.event
