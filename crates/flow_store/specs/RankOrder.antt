-- How ranked items compare: the greater rank is the greater, and of equal ranks the older.
use Rattle.std.specs.Prelude.{Bool, ◌==◌}
use Rattle.std.specs.Option.{option_cmp, option_eq}
use Rattle.std.specs.declared.cmp.Ordering.{Ordering}
use Rattle.std.specs.Ordering.{int_cmp, int_eq, nat_cmp, on, flip_args, then_cmp, eq_of_both}
use Rattle.flow_store.specs.declared.ranked.Ranked.{Ranked}
use Rattle.flow_store.specs.Orders.{rank_of}

abbrev pub ranked_eq : Ranked → Ranked → Bool
ranked_eq = eq_of_both (on (λ r. rank_of r.item.val) (option_eq int_eq)) (on (λ r. r.item.id.no) ◌==◌)

abbrev pub ranked_cmp : Ranked → Ranked → Ordering
ranked_cmp = then_cmp (on (λ r. rank_of r.item.val) (option_cmp int_cmp)) (flip_args (on (λ r. r.item.id.no) nat_cmp))
