use Rattle.std.proofs.Common.{◌≤◌, ◌+◌, ◌-◌, ap, arith}
use Rattle.flow_item.specs.declared.event.Party.TheVariants.{Worker}
use Rattle.flow_book.specs.Opening.{with_workers}
use Rattle.flow_book.proofs.Starts.{last-worker, one-more-chair, out-last, some-last}
use Rattle.flow_book.proofs.open.seat_workers.Goals as goal

pub take_last-requires : goal.take_last-requires
take_last-requires g c =
    let below : c.loop-n.n ≤ c.args.run.now.workers = omega (arith, c.loop-n-test.true) in
    some-last c.args.run.now c.args.items c.args.events (with_workers c.args.run.now (c.loop-n.n + 1) (c.args.run.now.workers + 1 - (c.loop-n.n + 1))) _ (Worker c.loop-n.n) c.loop-n.chairs.items
    (last-worker c.args.run.now c.loop-n.n below) c.loop-n.invariant.left

pub loop-n-preserved : goal.loop-n-preserved
loop-n-preserved g c =
    let below : c.loop-n.n ≤ c.args.run.now.workers = omega (arith, c.loop-n-test.true) in
    let out = out-last c.args.run.now c.args.items c.args.events (with_workers c.args.run.now (c.loop-n.n + 1) (c.args.run.now.workers + 1 - (c.loop-n.n + 1))) _ (Worker c.loop-n.n) c.loop-n.chairs.items c.take_last.new.chairs.items c.take_last.result
    (last-worker c.args.run.now c.loop-n.n below) c.loop-n.invariant.left c.take_last.ensures in
    record {
      left = out.0;
      out = one-more-chair c.args.run.now c.args.items c.args.events c.loop-n.n c.loop-n.workers.items _ c.take_last.result c.loop-n.invariant.out out.1 (ap (λ r. r.items) c.push_reserved.ensures);
      room = let spare = ap (λ r. r.spare) c.push_reserved.ensures in omega (arith, spare, c.loop-n.invariant.room, c.loop-n-test.true);
    }
