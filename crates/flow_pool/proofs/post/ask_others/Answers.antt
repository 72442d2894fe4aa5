use Rattle.std.proofs.Common.{◌<◌, ◌≤◌, length, map, arith}
use Rattle.std.proofs.lemmas.List.{length-map}
use Rattle.crossbeam_deque.specs.Handles.{view}
use Rattle.flow_pool.proofs.Asking.{still_empty, all_empty}
use Rattle.flow_pool.proofs.Posts.{told_again}
use Rattle.flow_pool.proofs.post.ask_others.Goals as goal

pub loop-k-preserved : goal.loop-k-preserved
loop-k-preserved g c =
    let h = c.loop-k.invariant in
    let old = c.args.reaches.now.items in
    let test = c.loop-k-test.true in
    let end = c.len-k-end.ensures in
    let ok = c.args.reaches.now.ok.0 in
    let l : c.loop-k.k < length (map view old) = omega (arith, length-map old view) in
    let s = still_empty c.loop-k.k (map view old) (map view c.loop-k.reaches.items) (map view c.ask.new.reaches.items) h.2 l c.in_default.ensures.asked h.3 in
    (c.ask.ensures.same, told_again old c.ask.new.reaches.items s.0 c.requires.told, s.0, s.1)

pub returns-clause-asked : goal.returns-clause-asked
returns-clause-asked g c =
    let h = c.loop-k.invariant in
    let old = c.args.reaches.now.items in
    let test = c.loop-k-test.false in
    let end = c.len-k-end.ensures in
    let ok = c.args.reaches.now.ok.0 in
    let l : length (map view old) ≤ c.loop-k.k = omega (arith, length-map old view) in
    (h.2, all_empty c.loop-k.k (map view old) l h.3)
