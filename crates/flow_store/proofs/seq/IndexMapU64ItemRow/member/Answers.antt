use Rattle.std.proofs.Common.{sym}
use Rattle.flow_store.proofs.TagOrders.{entry-at, entry-within}
use Rattle.flow_store.proofs.seq.IndexMapU64ItemRow.member.Goals as goal

pub unreachable-requires : goal.unreachable-requires
unreachable-requires c = entry-within c.args.self.now.entries c.args.place c.requires c.in-None.ensures.entry

pub returns : goal.returns
returns c = sym (entry-at c.args.self.now.entries c.args.place _ c.in-Some.ensures.entry)
