use Rattle.std.proofs.Common.{◌≡◌, length, ◌∙◌, arith, rules}
use Rattle.flow_body.specs.Shelves.{meanings_of_shelf}
use Rattle.flow_mean.proofs.Walked.{sizes-on, visit-on, lent-all}
use Rattle.flow_mean.proofs.flow.Flow.visit.Goals as goal

pub returns-clause-sizes : goal.returns-clause-sizes
returns-clause-sizes g c =
    let meanings = meanings_of_shelf (λ n. (goal.Body-dyn g (n.body.vtable, n.body.value)).pure n.body.value) (λ n. (goal.Body-dyn g (n.body.vtable, n.body.value)).single n.body.value) (λ n. (goal.Body-dyn g (n.body.vtable, n.body.value)).out n.body.value) c.args.shelf.now.bodies.items in
    let same : length c.find.new.puts ≡ length c.args.self.now.puts.items = search rules in
    let count : length c.args.self.now.puts.items ≡ c.args.self.now.puts.len = omega (arith, c.args.self.now.puts.ok.0) in
    let moved : c.note.new.self.puts.items ≡ c.find.new.puts = c.note.ensures.puts ∙ lent-all c.args.self.now.puts.len c.find.new.puts c.args.self.now.puts.items count same in
    sizes-on meanings c.args.doc.now c.args.node c.args.self.now.passed.items c.args.self.now.kept.items c.args.self.now.puts.items c.args.self.now.repeats.items c.in_ok-found.found.passing.passed c.in_ok-found.found.passing.kept c.in_ok-found.found.repeats c.find.new.puts c.note.new.self.passed.items c.note.new.self.kept.items c.note.new.self.puts.items c.note.new.self.repeats.items c.note.ensures.passed c.note.ensures.kept moved c.note.ensures.repeats c.requires.sizes same

pub returns-clause-visited : goal.returns-clause-visited
returns-clause-visited g c = λ done new awaits before.
    let meanings = meanings_of_shelf (λ n. (goal.Body-dyn g (n.body.vtable, n.body.value)).pure n.body.value) (λ n. (goal.Body-dyn g (n.body.vtable, n.body.value)).single n.body.value) (λ n. (goal.Body-dyn g (n.body.vtable, n.body.value)).out n.body.value) c.args.shelf.now.bodies.items in
    let same : length c.find.new.puts ≡ length c.args.self.now.puts.items = search rules in
    let count : length c.args.self.now.puts.items ≡ c.args.self.now.puts.len = omega (arith, c.args.self.now.puts.ok.0) in
    let moved : c.note.new.self.puts.items ≡ c.find.new.puts = c.note.ensures.puts ∙ lent-all c.args.self.now.puts.len c.find.new.puts c.args.self.now.puts.items count same in
    visit-on meanings c.args.doc.now c.args.node c.args.self.now.passed.items c.args.self.now.kept.items c.args.self.now.puts.items c.args.self.now.repeats.items c.in_ok-found.found.passing.passed c.in_ok-found.found.passing.kept c.in_ok-found.found.repeats c.find.new.puts c.note.new.self.passed.items c.note.new.self.kept.items c.note.new.self.puts.items c.note.new.self.repeats.items c.note.ensures.passed c.note.ensures.kept moved c.note.ensures.repeats c.requires.sizes done c.as_slice.result.now c.as_mut_slice.result.now c.requires.within c.as_slice.ensures.value c.as_mut_slice.ensures.value before
    (λ known. c.in_ok-found.ensures.found done new awaits known) c.find.ensures.others
