use Rattle.std.proofs.Common.{refl, sym, subst, map, ◌∷◌}
use Rattle.std.proofs.lemmas.List.Elements.{All-cons}
use Rattle.crossbeam_deque.specs.Handles.{view, worker_view}
use Rattle.crossbeam_deque.specs.Injected.{injector_view}
use Rattle.flow_pool.specs.Posts.{IsTold}
use Rattle.flow_pool.proofs.Posts.{entry_told, own_is_told, entry_is_told, reaches_are_told, either_way, renewed, same_worker}
use Rattle.flow_pool.proofs.pool.Pool.inject.Goals as goal

pub inject-requires-clause-node : goal.inject-requires-clause-node
inject-requires-clause-node g c = entry_told c.args.self.now c.args.post.now c.args.node c.requires.post c.requires.node

pub returns-clause-same : goal.returns-clause-same
returns-clause-same g c =
    let pool = c.args.self.now in
    let post = c.args.post.now in
    let p = c.requires.post in
    let t = entry_is_told pool post p in
    let told : IsTold pool.nodes (injector_view c.inject.new.entry) = either_way c.inject.result c.inject.ensures.pushed c.inject.ensures.refused (λ e. subst (IsTold pool.nodes) (sym e) t) (λ e. subst (IsTold pool.nodes) (sym e) t) in
    let rest = All-cons (IsTold pool.nodes) (injector_view c.inject.new.entry) (map view post.reaches.items) told (reaches_are_told pool post p) in
    let all = All-cons (IsTold pool.nodes) (worker_view post.own) (injector_view c.inject.new.entry ∷ map view post.reaches.items) (own_is_told pool post p) rest in
    (renewed pool post _ refl (same_worker post) c.inject.ensures.same p.reaches all p, refl)
