use Rattle.std.proofs.Common.{◌≡◌, ◌<◌, ◌≤◌, None, length, vec_len, vec_capacity, slice_set, ap, sym, ◌∙◌, arith}
use Rattle.flow_item.specs.Rooms.{roomy, free_places}
use Rattle.flow_line.specs.Kept.{first_kept, without_first_kept}
use Rattle.flow_line.proofs.Firsts.{found_here, none_further, none_of_all, none_taken}
use Rattle.flow_line.proofs.chairs.Chairs.take_first_kept.Goals as goal

pub loop-k-preserved : goal.loop-k-preserved
loop-k-preserved g c =
    let v = c.loop-k.self-inside.list in
    let within : c.loop-k.k < length v.items = omega (arith, c.loop-k-test.true, c.len-k-end.ensures, ap vec_len c.loop-k.invariant.same, v.ok.0) in
    record {
      same = c.loop-k.invariant.same;
      none = none_further v.items c.loop-k.k c.index.result.now c.index.ensures within c.loop-k.invariant.none (sym c.keeps.ensures ∙ c.if-keeps.false);
    }

pub returns-then-keeps-clause-value : goal.returns-then-keeps-clause-value
returns-then-keeps-clause-value g c =
    let v = c.loop-k.self-inside.list in
    let within : c.loop-k.k < length v.items = omega (arith, c.loop-k-test.true, c.len-k-end.ensures, ap vec_len c.loop-k.invariant.same, v.ok.0) in
    let found = found_here v.items c.loop-k.k c.index.result.now c.index_mut.result.now c.keeps.result c.index.ensures c.index_mut.ensures.value within c.loop-k.invariant.none c.keeps.ensures c.if-keeps.true in
    c.take_kept.ensures.value ∙ (sym found.0 ∙ (ap (λ w. first_kept w.items) c.loop-k.invariant.same ∙ ap (λ r. first_kept r.items) c.self.view_is))

pub returns-then-keeps-clause-rest : goal.returns-then-keeps-clause-rest
returns-then-keeps-clause-rest g c =
    let v = c.loop-k.self-inside.list in
    let within : c.loop-k.k < length v.items = omega (arith, c.loop-k-test.true, c.len-k-end.ensures, ap vec_len c.loop-k.invariant.same, v.ok.0) in
    let found = found_here v.items c.loop-k.k c.index.result.now c.index_mut.result.now c.keeps.result c.index.ensures c.index_mut.ensures.value within c.loop-k.invariant.none c.keeps.ensures c.if-keeps.true in
    ap (λ x. roomy (slice_set v.items c.loop-k.k x) (free_places (vec_capacity v) (vec_len v))) c.take_kept.ensures.rest
    ∙ (ap (λ l. roomy l (free_places (vec_capacity v) (vec_len v))) (sym found.1)
    ∙ (ap (λ w. roomy (without_first_kept w.items) (free_places (vec_capacity w) (vec_len w))) c.loop-k.invariant.same
    ∙ ap (λ r. roomy (without_first_kept r.items) r.spare) c.self.view_is))

pub returns-clause-rest : goal.returns-clause-rest
returns-clause-rest g c =
    let v = c.loop-k.self-inside.list in
    let past : length v.items ≤ c.loop-k.k = omega (arith, c.loop-k-test.false, c.len-k-end.ensures, ap vec_len c.loop-k.invariant.same, v.ok.0) in
    let none : first_kept v.items ≡ None = none_of_all v.items c.loop-k.k past c.loop-k.invariant.none in
    ap (λ l. roomy l (free_places (vec_capacity v) (vec_len v))) (sym (none_taken v.items none))
    ∙ (ap (λ w. roomy (without_first_kept w.items) (free_places (vec_capacity w) (vec_len w))) c.loop-k.invariant.same
    ∙ ap (λ r. roomy (without_first_kept r.items) r.spare) c.self.view_is)
