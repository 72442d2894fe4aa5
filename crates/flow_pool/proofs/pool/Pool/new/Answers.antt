use Rattle.flow_pool.proofs.Opening.{begun}
use Rattle.flow_pool.proofs.pool.Pool.new.Goals as goal

pub seat_posts-requires : goal.seat_posts-requires
seat_posts-requires c =
    let same = c.add_thieves.ensures.same in
    let reached = c.in_ok-add_thieves.ensures.reached in
    let made = c.in_ok-list.ensures in
    begun _ c.add_thieves.new.pool c.args.posts c.in_ok-list.list.items same.0 same.1 made.0 reached.0 made.1 reached.1
