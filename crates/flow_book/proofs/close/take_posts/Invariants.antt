use Rattle.std.proofs.Common.{◌≡◌, ◌+◌, Some, length, vec_len}
use Rattle.flow_book.specs.Handed.{AreTaken}
use Rattle.flow_book.proofs.close.take_posts.Given as goal

-- the nodes that were taken, which are all with those that are left
abbrev pub invariant-loop-post : goal.invariant-loop-post
invariant-loop-post g l = record {
  taken : AreTaken (length l.nodes.items) l.initial.workers.items l.workers.items (Some l.nodes.items);
  all : vec_len l.posts + length l.nodes.items ≡ vec_len l.fn.posts;
}

abbrev pub decreases-loop-post : goal.decreases-loop-post
decreases-loop-post g l = vec_len l.posts
