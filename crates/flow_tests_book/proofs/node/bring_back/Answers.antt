use Rattle.std.specs.Prelude.{pos}
use Rattle.flow_item.specs.declared.val.Val.TheVariants as V
use Rattle.flow_body.specs.declared.ask.Ask.{Ask}
use Rattle.flow_tests_book.proofs.Nodes.{works-strange}
use Rattle.flow_tests_book.proofs.node.bring_back.Goals as goal

pub returns : goal.returns
returns g c =
    let ask : Ask = record { node = c.args.node; ticket = 5; arg = V.Int (pos 1); item = record { id = record { node = c.args.node; no = 5 }; tag = 0; val = V.Int (pos 5) } } in
    works-strange c.args.book.now.run c.args.book.now.items c.args.book.now.events c.args.w.now c.back.new.w ask _ c.in-Ok.took c.requires c.in-Ok.ensures.took c.in-Stranger.is
