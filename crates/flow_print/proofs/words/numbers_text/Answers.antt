use Rattle.std.proofs.Common.{◌<◌, length, get_or, arith}
use Rattle.std.proofs.lemmas.Option.{slice_get-get_or}
use Rattle.flow_print.proofs.Joined.{numbers_more}
use Rattle.flow_print.proofs.words.numbers_text.Goals as goal

pub loop-number-preserved : goal.loop-number-preserved
loop-number-preserved c =
    let ns = c.args.counts.now in
    let i = c.loop-number.number-index in
    let lt : i < length ns = omega (arith, c.loop-number-test.true) in
    numbers_more c.args.word.now ns i (get_or ns i 0) _ _ (slice_get-get_or ns i 0 lt) c.loop-number.invariant c.in_ok-add_number.ensures
