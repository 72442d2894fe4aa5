use Rattle.std.proofs.Common.{◌≡◌, ◌++◌, true, All, sym, ap, ◌∙◌, subst}
use Rattle.flow_item.specs.Events.{parties_of}
use Rattle.flow_machine.specs.Machine.{is_run, open_after}
use Rattle.flow_machine.specs.Settled.{IsSettled}
use Rattle.flow_laws.specs.Moments.{AtEachStart, EdgesAgree, HoldsAgree, NodesWithinLimits, LedgerAddsUp}
use Rattle.flow_fates.specs.Facts.{ItemsHaveOneFate, ItemsHaveLineages, HoldsReserve, NothingIsHeld, ParentsWereBorn}
use Rattle.flow_line.specs.Values.{IsPart}
use Rattle.flow_line.specs.Kept.{first_kept}
use Rattle.flow_book.specs.Answers.{about_of}
use Rattle.flow_crew.proofs.Lists.{all-together, some-together}
use Rattle.flow_crew.proofs.parts.Parts.close_with_nodes.Goals as goal

pub close_with_nodes-requires-clause-of : goal.close_with_nodes-requires-clause-of
close_with_nodes-requires-clause-of g c =
    let seats = c.into_seats-book.result.1 in
    let told = c.into_seats-book.ensures in
    let book = c.args.self.graph.book in
    subst (λ b. All (λ s. s.about ≡ about_of b.run b.items b.events) (seats.callers.items ++ seats.workers.items)) (sym told.book)
    (all-together (λ k. k.chair) (λ k. k.worker.chair) (λ w. w.chair) c.args.self.callers.items c.args.self.workers.items seats.callers.items seats.workers.items told.callers told.workers
    (λ s. s.about ≡ about_of book.run book.items book.events) c.requires.callers c.requires.workers)

pub close_with_nodes-requires-clause-some : goal.close_with_nodes-requires-clause-some
close_with_nodes-requires-clause-some g c =
    let seats = c.into_seats-book.result.1 in
    let told = c.into_seats-book.ensures in
    some-together (λ k. k.chair) (λ k. k.worker.chair) (λ w. w.chair) c.args.self.callers.items c.args.self.workers.items seats.callers.items seats.workers.items told.callers told.workers c.requires.some

pub returns-clause-parts : goal.returns-clause-parts
returns-clause-parts g c =
    let told = c.into_seats-book.ensures in
    let book = c.args.self.graph.book in
    subst (λ l. All (IsPart parties_of (about_of book.run book.items book.events) c.close_with_nodes.result.0) l) (λ i. told.callers i ++ told.workers i)
    (subst (λ b. All (IsPart parties_of (about_of b.run b.items b.events) c.close_with_nodes.result.0) (c.into_seats-book.result.1.callers.items ++ c.into_seats-book.result.1.workers.items)) told.book c.close_with_nodes.ensures.parts)

pub returns-clause-kept : goal.returns-clause-kept
returns-clause-kept g c =
    let told = c.into_seats-book.ensures in
    c.close_with_nodes.ensures.kept ∙ ap first_kept (λ i. told.callers i ++ told.workers i)

pub returns-clause-run : goal.returns-clause-run
returns-clause-run g c = subst (λ b. is_run b.run.shape b.run.callers b.run.workers c.close_with_nodes.result.0 ≡ true) c.into_seats-book.ensures.book c.close_with_nodes.ensures.run

pub returns-clause-edges : goal.returns-clause-edges
returns-clause-edges g c = subst (λ b. AtEachStart (EdgesAgree b.run.shape) c.close_with_nodes.result.0) c.into_seats-book.ensures.book c.close_with_nodes.ensures.edges

pub returns-clause-holds : goal.returns-clause-holds
returns-clause-holds g c = subst (λ b. AtEachStart (HoldsAgree b.run.shape) c.close_with_nodes.result.0) c.into_seats-book.ensures.book c.close_with_nodes.ensures.holds

pub returns-clause-node_limits : goal.returns-clause-node_limits
returns-clause-node_limits g c = subst (λ b. AtEachStart (NodesWithinLimits b.run.shape) c.close_with_nodes.result.0) c.into_seats-book.ensures.book c.close_with_nodes.ensures.node_limits

pub returns-clause-ledger : goal.returns-clause-ledger
returns-clause-ledger g c = subst (λ b. AtEachStart (LedgerAddsUp b.run.shape) c.close_with_nodes.result.0) c.into_seats-book.ensures.book c.close_with_nodes.ensures.ledger

pub returns-clause-fates : goal.returns-clause-fates
returns-clause-fates g c = subst (λ b. AtEachStart (ItemsHaveOneFate b.run.shape) c.close_with_nodes.result.0) c.into_seats-book.ensures.book c.close_with_nodes.ensures.fates

pub returns-clause-lineages : goal.returns-clause-lineages
returns-clause-lineages g c = subst (λ b. AtEachStart (ItemsHaveLineages b.run.shape) c.close_with_nodes.result.0) c.into_seats-book.ensures.book c.close_with_nodes.ensures.lineages

pub returns-clause-reservations : goal.returns-clause-reservations
returns-clause-reservations g c = subst (λ b. HoldsReserve b.run.shape c.close_with_nodes.result.0) c.into_seats-book.ensures.book c.close_with_nodes.ensures.reservations

pub returns-clause-settled : goal.returns-clause-settled
returns-clause-settled g c = subst (λ b. open_after b.run.shape c.close_with_nodes.result.0 ≡ 0 → IsSettled b.run.shape c.close_with_nodes.result.0) c.into_seats-book.ensures.book c.close_with_nodes.ensures.settled

pub returns-clause-released : goal.returns-clause-released
returns-clause-released g c = subst (λ b. open_after b.run.shape c.close_with_nodes.result.0 ≡ 0 → NothingIsHeld b.run.shape c.close_with_nodes.result.0) c.into_seats-book.ensures.book c.close_with_nodes.ensures.released

pub returns-clause-parents : goal.returns-clause-parents
returns-clause-parents g c = subst (λ b. open_after b.run.shape c.close_with_nodes.result.0 ≡ 0 → ParentsWereBorn b.run.shape c.close_with_nodes.result.0) c.into_seats-book.ensures.book c.close_with_nodes.ensures.parents
