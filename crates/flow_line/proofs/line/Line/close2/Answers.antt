use Rattle.std.proofs.Common.{◌++◌, ap, sym, ◌∙◌, subst}
use Rattle.std.proofs.lemmas.List.Elements.{All-append}
use Rattle.flow_line.specs.Values.{IsPart, IsWhole}
use Rattle.flow_line.proofs.Whole.{whole}
use Rattle.flow_line.proofs.line.Line.close2.Goals as goal

pub returns : goal.returns
returns g c =
    let h = c.gather-2.ensures.line in
    let s = c.gather.ensures.same in
    let t = c.gather-2.ensures.same in
    let about = c.gather-2.new.log.seat.me.0.known.about in
    let log = c.gather-2.new.log.events.items in
    subst (λ log. IsWhole g.M.Machine.parties_of g.M.Machine.births_of g.M.Machine.allows log (c.args.a.items ++ c.args.b.items)) (sym c.journal_of.ensures)
    (whole g.M.Machine.parties_of g.M.Machine.births_of g.M.Machine.allows about log _ h.told h.legal
    (All-append (IsPart g.M.Machine.parties_of about log) c.args.a.items c.args.b.items
    (rw (t.5 ∙ s.5, ap (λ v. v.items) (t.0 ∙ s.0), ← ap (λ r. r.items) c.a.view_is) c.gather.ensures.parts)
    (rw (t.5, ap (λ v. v.items) t.0, ← ap (λ r. r.items) c.b.view_is) c.gather-2.ensures.parts)))
