use Rattle.std.proofs.Common.{arith}
use Rattle.flow_book.proofs.Handing.{taken-one, one-longer}
use Rattle.flow_book.proofs.close.take_posts.Goals as goal

pub loop-post-preserved : goal.loop-post-preserved
loop-post-preserved g c =
    let h = c.loop-post.invariant in
    let one = c.in_ok-take_node.ensures.taken in
    let longer = one-longer c.loop-post.nodes.items c.take_node.new.nodes.items c.loop-post.workers.items c.take_node.new.workers.items one in
    record {
      taken = taken-one c.args.workers.now.items c.loop-post.workers.items c.take_node.new.workers.items c.loop-post.nodes.items c.take_node.new.nodes.items h.taken one;
      all = omega (arith, h.all, c.in-Some.ensures.cases, longer);
    }
