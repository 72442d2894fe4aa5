use Rattle.std.proofs.Common.{◌∙◌, arith}
use Rattle.flow_book.proofs.Closing.{leaves-few}
use Rattle.flow_book.proofs.book.Book.left.Goals as goal

pub of_callers-requires : goal.of_callers-requires
of_callers-requires g c =
    let few = leaves-few c.args.self.now.run c.args.self.now.items c.args.self.now.events c.count-leaves.new.c.about c.count-leaves.new.c.seen (c.count-leaves.ensures.rest.2 ∙ c.requires.of) c.len.ensures.legal in
    omega (arith, few, c.count-leaves.ensures.value)
