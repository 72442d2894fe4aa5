use Rattle.std.proofs.Common.{refl, sym, subst, map, ◌∷◌}
use Rattle.std.proofs.lemmas.List.Elements.{All-cons}
use Rattle.crossbeam_deque.specs.Handles.{view, worker_view}
use Rattle.crossbeam_deque.specs.Injected.{injector_view}
use Rattle.flow_pool.specs.Posts.{IsTold}
use Rattle.flow_pool.proofs.Posts.{own_told, own_is_told, rest_is_told, either_way, renewed}
use Rattle.flow_pool.proofs.pool.Pool.push.Goals as goal

pub push-requires : goal.push-requires
push-requires c = own_told c.args.self.now c.args.post.now c.args.node c.requires.post c.requires.node

pub returns-clause-same : goal.returns-clause-same
returns-clause-same c =
    let pool = c.args.self.now in
    let post = c.args.post.now in
    let p = c.requires.post in
    let t = own_is_told pool post p in
    let told : IsTold pool.nodes (worker_view c.push.new.own) = either_way c.push.result c.push.ensures.pushed c.push.ensures.refused (λ e. subst (IsTold pool.nodes) (sym e) t) (λ e. subst (IsTold pool.nodes) (sym e) t) in
    let all = All-cons (IsTold pool.nodes) (worker_view c.push.new.own) (injector_view post.entry ∷ map view post.reaches.items) told (rest_is_told pool post p) in
    (renewed pool post _ refl c.push.ensures.same p.entry p.reaches all p, refl)
