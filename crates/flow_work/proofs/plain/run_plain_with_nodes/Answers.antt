use Rattle.std.proofs.Common.{length}
use Rattle.flow_body.specs.Shelves.{meanings_of_shelf}
use Rattle.flow_work.specs.Plain.{run_of, outcome_of}
use Rattle.flow_work.specs.Tasks.{IsDone}
use Rattle.flow_work.proofs.RunLemmas.{legal-of}
use Rattle.flow_work.proofs.PromiseLemmas.{edges-agree, holds-agree, nodes-within, ledger-adds-up, one-fate-each, lineages-each, holds-reserve, nothing-is-held, parents-were-born, has-bodies, can-run, on_ok}
use Rattle.flow_work.proofs.MeaningLemmas.{keeps-meaning}
use Rattle.flow_work.proofs.plain.run_plain_with_nodes.Goals as goal

pub run_graph-requires-clause-runnable : goal.run_graph-requires-clause-runnable
run_graph-requires-clause-runnable g c = can-run (length c.args.shelf.now.bodies.items) c.args.doc.now c.requires.fits c.requires.built c.requires.version

pub run_graph-requires-clause-bodies : goal.run_graph-requires-clause-bodies
run_graph-requires-clause-bodies g c = has-bodies (length c.args.shelf.now.bodies.items) c.args.doc.now c.requires.fits

pub returns-clause-births : goal.returns-clause-births
returns-clause-births g c = c.run_graph.ensures.leaves.journal.few

pub returns-clause-edges : goal.returns-clause-edges
returns-clause-edges g c = let left = c.run_graph.ensures.leaves in edges-agree c.args.doc.now.shape c.run_graph.new.kept.journal left.runnable.valid (legal-of (run_of c.args.doc.now.shape c.args.doc.now.scripts c.args.items c.args.events c.run_graph.new.kept.journal) left.journal)

pub returns-clause-holds : goal.returns-clause-holds
returns-clause-holds g c = let left = c.run_graph.ensures.leaves in holds-agree c.args.doc.now.shape c.run_graph.new.kept.journal left.runnable.valid (legal-of (run_of c.args.doc.now.shape c.args.doc.now.scripts c.args.items c.args.events c.run_graph.new.kept.journal) left.journal)

pub returns-clause-node_limits : goal.returns-clause-node_limits
returns-clause-node_limits g c = let left = c.run_graph.ensures.leaves in nodes-within c.args.doc.now.shape c.run_graph.new.kept.journal left.runnable.valid (legal-of (run_of c.args.doc.now.shape c.args.doc.now.scripts c.args.items c.args.events c.run_graph.new.kept.journal) left.journal)

pub returns-clause-ledger : goal.returns-clause-ledger
returns-clause-ledger g c = let left = c.run_graph.ensures.leaves in ledger-adds-up c.args.doc.now.shape c.run_graph.new.kept.journal left.runnable.valid (legal-of (run_of c.args.doc.now.shape c.args.doc.now.scripts c.args.items c.args.events c.run_graph.new.kept.journal) left.journal)

pub returns-clause-fates : goal.returns-clause-fates
returns-clause-fates g c = let left = c.run_graph.ensures.leaves in one-fate-each c.args.doc.now.shape c.run_graph.new.kept.journal left.runnable.valid (legal-of (run_of c.args.doc.now.shape c.args.doc.now.scripts c.args.items c.args.events c.run_graph.new.kept.journal) left.journal)

pub returns-clause-lineages : goal.returns-clause-lineages
returns-clause-lineages g c = let left = c.run_graph.ensures.leaves in lineages-each c.args.doc.now.shape c.run_graph.new.kept.journal left.runnable.valid (legal-of (run_of c.args.doc.now.shape c.args.doc.now.scripts c.args.items c.args.events c.run_graph.new.kept.journal) left.journal)

pub returns-clause-reservations : goal.returns-clause-reservations
returns-clause-reservations g c = let left = c.run_graph.ensures.leaves in holds-reserve c.args.doc.now.shape c.run_graph.new.kept.journal left.runnable.valid (legal-of (run_of c.args.doc.now.shape c.args.doc.now.scripts c.args.items c.args.events c.run_graph.new.kept.journal) left.journal)

pub returns-clause-released : goal.returns-clause-released
returns-clause-released g c = let left = c.run_graph.ensures.leaves in on_ok (outcome_of c.run_graph.result) (λ (done : IsDone (run_of c.args.doc.now.shape c.args.doc.now.scripts c.args.items c.args.events c.run_graph.new.kept.journal)). nothing-is-held c.args.doc.now.shape c.run_graph.new.kept.journal left.runnable.valid (legal-of (run_of c.args.doc.now.shape c.args.doc.now.scripts c.args.items c.args.events c.run_graph.new.kept.journal) left.journal) done.settled) left.done

pub returns-clause-parents : goal.returns-clause-parents
returns-clause-parents g c = let left = c.run_graph.ensures.leaves in on_ok (outcome_of c.run_graph.result) (λ (done : IsDone (run_of c.args.doc.now.shape c.args.doc.now.scripts c.args.items c.args.events c.run_graph.new.kept.journal)). parents-were-born c.args.doc.now.shape c.run_graph.new.kept.journal left.runnable.valid (legal-of (run_of c.args.doc.now.shape c.args.doc.now.scripts c.args.items c.args.events c.run_graph.new.kept.journal) left.journal) done.settled) left.done

pub returns-clause-meaning : goal.returns-clause-meaning
returns-clause-meaning g c =
    let left = c.run_graph.ensures.leaves in
    let m = meanings_of_shelf (λ n. (goal.Body-dyn g (n.body.vtable, n.body.value)).pure n.body.value) (λ n. (goal.Body-dyn g (n.body.vtable, n.body.value)).single n.body.value) (λ n. (goal.Body-dyn g (n.body.vtable, n.body.value)).out n.body.value) c.args.shelf.now.bodies.items in
    on_ok (outcome_of c.run_graph.result) (λ (done : IsDone (run_of c.args.doc.now.shape c.args.doc.now.scripts c.args.items c.args.events c.run_graph.new.kept.journal)). keeps-meaning m c.args.doc.now 1 c.run_graph.new.kept.journal c.shelf_answers_once.ensures left.runnable.valid left.journal.run left.bodies done.whole done.settled) left.done
