use Rattle.std.proofs.Common.{◌≡◌, ℕ, true, ◌&&◌, List, [], ◌∷◌, ap, ◌∙◌}
use Rattle.std.specs.List.{list_all}
use Rattle.flow_item.proofs.Tests.{and_left, and_right}
use Rattle.flow_shape.specs.declared.Kind.{Kind}
use Rattle.flow_shape.specs.declared.Edge.{Edge}
use Rattle.flow_shape.specs.declared.Step.{Step}
use Rattle.flow_doc.specs.Fits.{doc_fits}
use Rattle.flow_node.specs.Built.{is_built}
use Rattle.flow_book.specs.Callers.{takes_puts}
use Rattle.flow_tests_crew.specs.Tried.{one_node, is_tried}
use Rattle.flow_tests_crew.proofs.trials.alone.Goals as goal

tried-both : (k : Kind) (scripts : List (List Step)) → is_tried k scripts ≡ true → (doc_fits 10 (one_node k [] scripts) && list_all is_built (k ∷ [])) ≡ true
tried-both k scripts h = and_left (doc_fits 10 (one_node k [] scripts) && list_all is_built (k ∷ [])) (takes_puts (one_node k [] scripts).shape 0 0) h

tried-fits : (k : Kind) (scripts : List (List Step)) (names : List (List ℕ)) (name : List ℕ) (nodes : List Kind) (edges : List Edge) (sinks : List ℕ) → is_tried k scripts ≡ true → names ≡ name ∷ [] → nodes ≡ k ∷ [] → edges ≡ [] → sinks ≡ []
    → doc_fits 10 (record { version = 1; names = names; shape = record { nodes = nodes; edges = edges }; scripts = scripts; sinks = sinks }) ≡ true
tried-fits k scripts names name nodes edges sinks h n m e s =
    let whole : doc_fits 10 (one_node k name scripts) ≡ true = and_left (doc_fits 10 (one_node k name scripts)) (list_all is_built (k ∷ [])) (tried-both k scripts h) in
    (λ i. doc_fits 10 (record { version = 1; names = n i; shape = record { nodes = m i; edges = e i }; scripts = scripts; sinks = s i })) ∙ whole

tried-built : (k : Kind) (scripts : List (List Step)) (nodes : List Kind) → is_tried k scripts ≡ true → nodes ≡ k ∷ [] → list_all is_built nodes ≡ true
tried-built k scripts nodes h m = ap (list_all is_built) m ∙ and_right (doc_fits 10 (one_node k [] scripts)) (list_all is_built (k ∷ [])) (tried-both k scripts h)

pub returns-clause-fits : goal.returns-clause-fits
returns-clause-fits g c =
    tried-fits c.args.kind c.args.scripts _ _ _ _ _ c.requires
    c.one_name.ensures c.one_kind.ensures c.new.ensures c.new-2.ensures

pub returns-clause-built : goal.returns-clause-built
returns-clause-built g c = tried-built c.args.kind c.args.scripts _ c.requires c.one_kind.ensures
