use Rattle.std.proofs.Common.{ap}
use Rattle.flow_book.specs.Posts.{Posted}
use Rattle.flow_book.proofs.post.Post.into_parts.Goals as goal

pub returns : goal.returns
returns g c = record {
  node = ap (λ (s : Posted). s.node) c.self.view_is;
  chair = ap (λ (s : Posted). s.chair) c.self.view_is;
  replay = c.self.invariant.1;
}
