use Rattle.std.proofs.Common.{refl, map, ◌∷◌, Some}
use Rattle.crossbeam_deque.specs.Handles.{view, worker_view}
use Rattle.crossbeam_deque.specs.Injected.{injector_view}
use Rattle.flow_pool.proofs.Posts.{own_is_told, entry_is_told, reaches_are_told, told_reaches, renewed}
use Rattle.flow_pool.proofs.Asking.{asked_first, asked_later, stays_told, is_node}
use Rattle.flow_pool.specs.Posts.{hands}
use Rattle.flow_pool.proofs.pool.Pool.take.Goals as goal

pub pop-requires : goal.pop-requires
pop-requires g c = (c.requires.post.flavor, (own_is_told c.args.self.now c.args.post.now c.requires.post).0)

pub take_elsewhere-requires-clause-entry : goal.take_elsewhere-requires-clause-entry
take_elsewhere-requires-clause-entry g c = (c.requires.post.entry, (entry_is_told c.args.self.now c.args.post.now c.requires.post).0)

pub take_elsewhere-requires-clause-told : goal.take_elsewhere-requires-clause-told
take_elsewhere-requires-clause-told g c = told_reaches c.args.self.now.nodes c.args.post.now.reaches.items (reaches_are_told c.args.self.now c.args.post.now c.requires.post)

pub returns-in-Some-clause-same : goal.returns-in-Some-clause-same
returns-in-Some-clause-same g c =
    let pool = c.args.self.now in
    let post = c.args.post.now in
    let p = c.requires.post in
    let asked = asked_first c.in-Some.node (worker_view post.own) (worker_view c.pop.new.own) (injector_view post.entry ∷ map view post.reaches.items) c.in-Some.ensures.asked in
    (renewed pool post _ refl c.pop.ensures.same p.entry p.reaches (stays_told pool.nodes (Some c.in-Some.node) (hands post) _ asked p.told) p, refl)

pub returns-in-Some-clause-node : goal.returns-in-Some-clause-node
returns-in-Some-clause-node g c =
    let pool = c.args.self.now in
    let post = c.args.post.now in
    let asked = asked_first c.in-Some.node (worker_view post.own) (worker_view c.pop.new.own) (injector_view post.entry ∷ map view post.reaches.items) c.in-Some.ensures.asked in
    is_node pool.nodes (Some c.in-Some.node) (hands post) _ asked c.requires.post.told

pub returns-in-None-clause-same : goal.returns-in-None-clause-same
returns-in-None-clause-same g c =
    let pool = c.args.self.now in
    let post = c.args.post.now in
    let p = c.requires.post in
    let asked = asked_later c.take_elsewhere.result (worker_view post.own) (worker_view c.pop.new.own) (injector_view post.entry ∷ map view post.reaches.items) _ c.in-None.ensures.asked c.take_elsewhere.ensures.asked in
    (renewed pool post _ refl c.pop.ensures.same c.take_elsewhere.ensures.same.0 c.take_elsewhere.ensures.same.1 (stays_told pool.nodes c.take_elsewhere.result (hands post) _ asked p.told) p, refl)

pub returns-in-None-clause-asked : goal.returns-in-None-clause-asked
returns-in-None-clause-asked g c = asked_later _ _ _ _ _ c.in-None.ensures.asked c.take_elsewhere.ensures.asked

pub returns-in-None-clause-node : goal.returns-in-None-clause-node
returns-in-None-clause-node g c =
    let pool = c.args.self.now in
    let post = c.args.post.now in
    let asked = asked_later c.take_elsewhere.result (worker_view post.own) (worker_view c.pop.new.own) (injector_view post.entry ∷ map view post.reaches.items) _ c.in-None.ensures.asked c.take_elsewhere.ensures.asked in
    is_node pool.nodes c.take_elsewhere.result (hands post) _ asked c.requires.post.told
