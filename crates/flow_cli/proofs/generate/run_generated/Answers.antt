use Rattle.std.proofs.Common.{◌≡◌, Some, map, length, rules}
use Rattle.std.proofs.lemmas.List.{length-map}
use Rattle.flow_gen.specs.Generated.{generated_from}
use Rattle.flow_cli.proofs.GenLemmas.{found_runs, found_built, found_early}
use Rattle.flow_cli.proofs.generate.run_generated.Goals as goal

pub run_whole-requires-clause-fits : goal.run_whole-requires-clause-fits
run_whole-requires-clause-fits g c =
    let is : generated_from (map (λ b. b.name) c.args.shelf.now.bodies.items) c.args.count ≡ Some c.in-Ok-Some.doc = search rules in
    found_runs (map (λ b. b.name) c.args.shelf.now.bodies.items) (length c.args.shelf.now.bodies.items) c.args.count c.in-Ok-Some.doc (length-map c.args.shelf.now.bodies.items (λ b. b.name)) is

pub run_whole-requires-clause-built : goal.run_whole-requires-clause-built
run_whole-requires-clause-built g c =
    let is : generated_from (map (λ b. b.name) c.args.shelf.now.bodies.items) c.args.count ≡ Some c.in-Ok-Some.doc = search rules in
    found_built (map (λ b. b.name) c.args.shelf.now.bodies.items) c.args.count c.in-Ok-Some.doc is

pub run_whole-requires-clause-version : goal.run_whole-requires-clause-version
run_whole-requires-clause-version g c =
    let is : generated_from (map (λ b. b.name) c.args.shelf.now.bodies.items) c.args.count ≡ Some c.in-Ok-Some.doc = search rules in
    found_early (map (λ b. b.name) c.args.shelf.now.bodies.items) c.args.count c.in-Ok-Some.doc is
