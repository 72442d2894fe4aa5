use Rattle.std.proofs.Common.{◌≡◌, List, [], ◌∷◌, ◌++◌, map, sym, ap, ◌∙◌}
use Rattle.std.proofs.lemmas.List.{map-append}
use Rattle.flow_pool.specs.Posts.{IsPostOf}
use Rattle.flow_crew.specs.Crew.{IsWorker}
use Rattle.flow_run.proofs.Changed.{last-changed}
use Rattle.flow_run.proofs.run.is_done.Goals as goal

-- what the last member keeps, the list keeps
last-same : {X Y : Type 0} (f : X → Y) (old front new : List X) (x y : X) → old ≡ front ++ x ∷ [] → new ≡ front ++ y ∷ [] → f y ≡ f x → map f new ≡ map f old
last-same f old front new x y was is h =
    ap (map f) is
    ∙ (map-append f front (y ∷ []) ∙ (ap (λ z. map f front ++ z ∷ []) h ∙ (sym (map-append f front (x ∷ [])) ∙ ap (map f) (sym was))))

pub returns-clause-worked : goal.returns-clause-worked
returns-clause-worked g c =
    last-changed (λ w. IsWorker (g.S.Bodies.meanings c.args.graph.now.bench.bodies.now) c.args.graph.now.book.run c.args.graph.now.book.items c.args.graph.now.book.events w.chair w.busy × IsPostOf c.args.graph.now.pool w.post) c.args.workers.now.items c.pop.new.self.items c.push_reserved.new.self.items c.in-Some.worker c.ended-ended.new.self c.requires.hired c.in-Some.ensures.items c.push_reserved.ensures.items (c.ended-ended.ensures.of, c.ended-ended.ensures.post)

pub returns-clause-parties : goal.returns-clause-parties
returns-clause-parties g c = last-same (λ w. w.chair.party) c.args.workers.now.items c.pop.new.self.items c.push_reserved.new.self.items c.in-Some.worker c.ended-ended.new.self c.in-Some.ensures.items c.push_reserved.ensures.items c.ended-ended.ensures.worked.party
