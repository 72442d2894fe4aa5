use Rattle.std.proofs.Common.{sym, ◌∙◌}
use Rattle.std.specs.Str.{bytes_eq}
use Rattle.flow_item.specs.Values.{same_val}
use Rattle.flow_book.proofs.Equal.{text-same, list-same, uneven}
use Rattle.flow_book.proofs.ticket.+same.Goals as goal

pub same_val-returns-in-Text-b : goal.same_val-returns-in-Text-b
same_val-returns-in-Text-b t c =
    c.eq.ensures ∙ ((λ i. bytes_eq (c.as_str.ensures i) (c.as_str-in-Text-b.ensures i))
    ∙ (text-same c.in-Text.s c.in-Text-b.t ∙ (λ i. same_val (sym c.in-Text.is i) (sym c.in-Text-b.is i))))

pub same_val-returns-in-List-b : goal.same_val-returns-in-List-b
same_val-returns-in-List-b t c =
    c.same_vals.ensures ∙ (sym (list-same c.in-List.xs c.in-List-b.ys) ∙ (λ i. same_val (sym c.in-List.is i) (sym c.in-List-b.is i)))

pub same_vals-returns-then-len : goal.same_vals-returns-then-len
same_vals-returns-then-len t c = uneven c.args.xs.now c.args.ys.now c.len.result c.len-2.result c.len.ensures c.len-2.ensures c.if-len.true
