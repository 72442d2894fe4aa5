use Rattle.std.proofs.Common.{ap, ◌∙◌}
use Rattle.flow_book.specs.Callers.{number_of}
use Rattle.flow_book.specs.Posts.{Posted}
use Rattle.flow_book.proofs.Ended.{answers-within, end-on}
use Rattle.flow_book.proofs.book.Book.end_job.Goals as goal

pub post-post-requires : goal.post-post-requires
post-post-requires g c = answers-within c.args.self.now.run c.args.self.now.items c.args.self.now.events c.args.w.now.about c.args.node c.args.outs c.requires.of c.requires.outs

pub returns-clause-refused : goal.returns-clause-refused
returns-clause-refused g c =
    let m = c.meet.ensures in
    let node = ap (λ (s : Posted). number_of s.chair.party) c.deref_mut-2.ensures.value ∙ (ap number_of m.same.1 ∙ (ap (λ (s : Posted). number_of s.chair.party) c.deref_mut.ensures.value ∙ ap number_of c.post-post.ensures)) in
    end-on c.args.w.now c.meet.new.c c.make_end.new.w (number_of c.deref_mut-2.result.now.chair.party) c.args.node c.args.item c.args.outs c.in-Err.refused.stop c.in-Err.refused.event
    (record { party = m.rest.1; about = m.about.0; own = m.rest.0; seen = m.prefix.0; looks = m.rest.3 }, m.rest.2) node c.in-Err.ensures.refused
