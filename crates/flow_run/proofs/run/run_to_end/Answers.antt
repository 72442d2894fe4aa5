use Rattle.std.proofs.Common.{◌≡◌, ◌+◌, ◌<◌, ◌≤◌, ◌++◌, map, length, take, drop, All, sym, ap, ◌∙◌, subst, arith}
use Rattle.flow_pool.specs.Posts.{IsPostOf}
use Rattle.flow_book.specs.Answers.{about_of}
use Rattle.flow_run.specs.Following.{FollowsOwn}
use Rattle.flow_run.proofs.Changed.{written, same-length, abouts}
use Rattle.flow_run.proofs.Closed.{parts-closed}
use Rattle.flow_run.proofs.run.run_to_end.Goals as goal

pub close_with_nodes-journal-requires-clause-room : goal.close_with_nodes-journal-requires-clause-room
close_with_nodes-journal-requires-clause-room g c = λ κs lives.
    let cs = c.args.parts.callers.items in
    let new = c.run_parts.new.callers in
    let same = same-length (λ k. k.chair.party) new c.as_mut_slice.result.now c.run_parts.ensures.parties ∙ ap length c.as_mut_slice.ensures.value in
    let back : take c.args.parts.callers.len (new ++ drop (length new) cs) ≡ new = written c.args.parts.callers.len cs new (let ok = c.args.parts.callers.ok.0 in omega (arith, ok)) same in
    let ws = c.args.parts.workers.items in
    let works = c.run_parts.new.workers in
    let alike = same-length (λ w. w.chair.party) works c.as_mut_slice-2.result.now c.run_parts.ensures.worker_parties ∙ ap length c.as_mut_slice-2.ensures.value in
    let returned : take c.args.parts.workers.len (works ++ drop (length works) ws) ≡ works = written c.args.parts.workers.len ws works (let ok = c.args.parts.workers.ok.0 in omega (arith, ok)) alike in
    let last = c.is_done-done.new.workers.items in
    let parties : map (λ w. w.chair.party) last ≡ map (λ w. w.chair.party) works = c.is_done-done.ensures.parties ∙ ap (map (λ w. w.chair.party)) returned in
    let count = same-length (λ w. w.chair.party) last works parties in
    let first = c.requires.room.0 in
    let second = c.requires.room.1 in
    subst (λ xs. (length xs ≤ c.args.parts.seats.callers.spare) × (length last + length xs ≤ c.args.parts.seats.workers.spare)) (sym back)
    (omega (arith, first, same), omega (arith, second, same, alike, count))

pub close_with_nodes-journal-requires-clause-some : goal.close_with_nodes-journal-requires-clause-some
close_with_nodes-journal-requires-clause-some g c = λ κs lives.
    let cs = c.args.parts.callers.items in
    let new = c.run_parts.new.callers in
    let same = same-length (λ k. k.chair.party) new c.as_mut_slice.result.now c.run_parts.ensures.parties ∙ ap length c.as_mut_slice.ensures.value in
    let back : take c.args.parts.callers.len (new ++ drop (length new) cs) ≡ new = written c.args.parts.callers.len cs new (let ok = c.args.parts.callers.ok.0 in omega (arith, ok)) same in
    let ws = c.args.parts.workers.items in
    let works = c.run_parts.new.workers in
    let alike = same-length (λ w. w.chair.party) works c.as_mut_slice-2.result.now c.run_parts.ensures.worker_parties ∙ ap length c.as_mut_slice-2.ensures.value in
    let returned : take c.args.parts.workers.len (works ++ drop (length works) ws) ≡ works = written c.args.parts.workers.len ws works (let ok = c.args.parts.workers.ok.0 in omega (arith, ok)) alike in
    let last = c.is_done-done.new.workers.items in
    let parties : map (λ w. w.chair.party) last ≡ map (λ w. w.chair.party) works = c.is_done-done.ensures.parties ∙ ap (map (λ w. w.chair.party)) returned in
    let count = same-length (λ w. w.chair.party) last works parties in
    let some = c.requires.some in
    subst (λ xs. 0 < length last + length xs) (sym back) (omega (arith, some, alike, count))

pub close_with_nodes-journal-requires-clause-callers : goal.close_with_nodes-journal-requires-clause-callers
close_with_nodes-journal-requires-clause-callers g c = λ κs lives.
    let cs = c.args.parts.callers.items in
    let new = c.run_parts.new.callers in
    let same = same-length (λ k. k.chair.party) new c.as_mut_slice.result.now c.run_parts.ensures.parties ∙ ap length c.as_mut_slice.ensures.value in
    let back : take c.args.parts.callers.len (new ++ drop (length new) cs) ≡ new = written c.args.parts.callers.len cs new (let ok = c.args.parts.callers.ok.0 in omega (arith, ok)) same in
    let ws = c.args.parts.workers.items in
    let works = c.run_parts.new.workers in
    let alike = same-length (λ w. w.chair.party) works c.as_mut_slice-2.result.now c.run_parts.ensures.worker_parties ∙ ap length c.as_mut_slice-2.ensures.value in
    let returned : take c.args.parts.workers.len (works ++ drop (length works) ws) ≡ works = written c.args.parts.workers.len ws works (let ok = c.args.parts.workers.ok.0 in omega (arith, ok)) alike in
    let last = c.is_done-done.new.workers.items in
    let parties : map (λ w. w.chair.party) last ≡ map (λ w. w.chair.party) works = c.is_done-done.ensures.parties ∙ ap (map (λ w. w.chair.party)) returned in
    let count = same-length (λ w. w.chair.party) last works parties in
    let run = c.args.parts.graph.book.run in
    let items = c.args.parts.graph.book.items in
    let events = c.args.parts.graph.book.events in
    subst (λ xs. All (λ k. (k.chair.about ≡ about_of run items events) × (k.worker.chair.about ≡ about_of run items events)) xs) (sym back)
    (abouts (λ k. k.chair) (λ k. k.worker.chair) (λ k. k.worker.busy) (λ k. FollowsOwn run.shape c.args.doc.now.scripts k.chair) (g.S.Bodies.meanings c.args.parts.graph.bench.bodies.now) run items events new c.run_parts.ensures.followed)

pub returns-clause-run : goal.returns-clause-run
returns-clause-run g c =
    let cs = c.args.parts.callers.items in
    let new = c.run_parts.new.callers in
    let same = same-length (λ k. k.chair.party) new c.as_mut_slice.result.now c.run_parts.ensures.parties ∙ ap length c.as_mut_slice.ensures.value in
    let back : take c.args.parts.callers.len (new ++ drop (length new) cs) ≡ new = written c.args.parts.callers.len cs new (let ok = c.args.parts.callers.ok.0 in omega (arith, ok)) same in
    let ws = c.args.parts.workers.items in
    let works = c.run_parts.new.workers in
    let alike = same-length (λ w. w.chair.party) works c.as_mut_slice-2.result.now c.run_parts.ensures.worker_parties ∙ ap length c.as_mut_slice-2.ensures.value in
    let returned : take c.args.parts.workers.len (works ++ drop (length works) ws) ≡ works = written c.args.parts.workers.len ws works (let ok = c.args.parts.workers.ok.0 in omega (arith, ok)) alike in
    let last = c.is_done-done.new.workers.items in
    let parties : map (λ w. w.chair.party) last ≡ map (λ w. w.chair.party) works = c.is_done-done.ensures.parties ∙ ap (map (λ w. w.chair.party)) returned in
    let count = same-length (λ w. w.chair.party) last works parties in
    let run = c.args.parts.graph.book.run in
    let items = c.args.parts.graph.book.items in
    let events = c.args.parts.graph.book.events in
    parts-closed (λ k. k.chair) (λ k. k.worker.chair) (λ k. k.worker.busy) (λ w. w.chair) (λ w. w.busy) (λ w. IsPostOf c.args.parts.graph.pool w.post) (g.S.Bodies.meanings c.args.parts.graph.bench.bodies.now) run c.args.doc.now.scripts items events
    c.close_with_nodes-journal.result.0 c.close_with_nodes-journal.result.1 c.is_done-done.result new (take c.args.parts.callers.len (new ++ drop (length new) cs)) last
    c.requires.valid c.requires.scripts.0 back c.run_parts.ensures.followed c.is_done-done.ensures.worked
    (c.run_parts.ensures.parties ∙ (ap (map (λ k. k.chair.party)) c.as_mut_slice.ensures.value ∙ c.requires.callers))
    ((λ i. (parties ∙ (c.run_parts.ensures.worker_parties ∙ ap (map (λ w. w.chair.party)) c.as_mut_slice-2.ensures.value)) i ++ (c.run_parts.ensures.waiters ∙ ap (map (λ k. k.worker.chair.party)) c.as_mut_slice.ensures.value) i) ∙ c.requires.workers)
    c.close_with_nodes-journal.ensures.run c.close_with_nodes-journal.ensures.parts c.close_with_nodes-journal.ensures.limits c.close_with_nodes-journal.ensures.kept c.is_done-done.ensures.done
