use Rattle.std.proofs.Common.{◌≡◌, ℕ, zero, suc, ◌≤◌, List, [], ◌∷◌, ◌++◌, length, take, drop, All, refl, sym, ap, ◌∙◌, subst, arith}
use Rattle.std.proofs.lemmas.List.{drop_all, append-nil}
use Rattle.flow_book.specs.Answers.{about_of}
use Rattle.flow_tests_crew.proofs.crew_threads.ran_named.Goals as goal

take-whole : {X : Type 0} (n : ℕ) (xs : List X) → length xs ≤ n → take n xs ≡ xs
take-whole zero [] h = refl
take-whole (suc n) [] h = refl
take-whole zero (x ∷ xs) h = absurd (let never : ⊥ = omega (arith, h) in never)
take-whole (suc n) (x ∷ xs) h = ap (λ ys. x ∷ ys) (take-whole n xs (omega (arith, h)))

-- what was written back to a list as long as it was is the list
written : {X : Type 0} (len : ℕ) (old xs : List X) → len ≡ length old → length xs ≡ length old → take len (xs ++ drop (length xs) old) ≡ xs
written len old xs is same =
    ap (λ ys. take len (xs ++ ys)) (drop_all (length xs) old (let le : length old ≤ length xs = omega (arith, same) in le))
    ∙ (ap (take len) (append-nil xs) ∙ take-whole len xs (let enough : length xs ≤ len = omega (arith, is, same) in enough))

pub close-requires-clause-callers : goal.close-requires-clause-callers
close-requires-clause-callers g c = λ κs lives.
    let graph = c.opened_parts-graph.result.graph in
    let cs = c.opened_parts-graph.result.callers.items in
    let new = c.run_parts.new.callers in
    let same = c.run_parts.ensures.counts.0 ∙ ap length c.as_mut_slice.ensures.value in
    let back : take c.opened_parts-graph.result.callers.len (new ++ drop (length new) cs) ≡ new = written c.opened_parts-graph.result.callers.len cs new (let ok = c.opened_parts-graph.result.callers.ok.0 in omega (arith, ok)) same in
    subst (λ xs. All (λ k. (k.chair.about ≡ about_of graph.book.run graph.book.items graph.book.events) × (k.worker.chair.about ≡ about_of graph.book.run graph.book.items graph.book.events)) xs) (sym back)
    c.run_parts.ensures.called
