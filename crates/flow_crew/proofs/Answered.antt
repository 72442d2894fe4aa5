-- What a body answers is what it means.
use Rattle.std.proofs.Common.{◌≡◌, ℕ, Bool, true, false, cond, refl, sym, ap, ◌∙◌}
use Rattle.std.specs.Prelude.{Result, Ok, Err, IfOk, List}
use Rattle.flow_item.specs.declared.val.Val.{Val}
use Rattle.flow_item.specs.declared.item.Item.{Item}
use Rattle.flow_item.specs.declared.item.Msg.{Msg}
use Rattle.flow_item.specs.Values.{same_msgs}
use Rattle.flow_machine.specs.Bodies.{Meanings}
use Rattle.flow_progress.proofs.Same.{msgs-same}
use Rattle.flow_book.specs.declared.job.JobBody.{JobBody}
use Rattle.flow_book.specs.declared.job.JobBody.TheVariants as J
use Rattle.flow_crew.specs.Bodies.{answers_job}

pub answers-run : {X : Type 0} (m : Meanings) (b : JobBody) (body : ℕ) (arg : Val) (x : Item) (r : Result (List Msg) X) → b ≡ J.Run body arg
    → (m.is_pure body ≡ true → IfOk r (λ outs. outs ≡ m.out body arg x.tag x.val)) → IfOk r (λ outs. answers_job m b x outs ≡ true)
answers-run m b body arg x (Err e) is h = tt
answers-run m b body arg x (Ok outs) is h = ap (λ (b : JobBody). answers_job m b x outs) is ∙ by_pure (m.is_pure body) h
  where
    by_pure : (p : Bool) → (p ≡ true → outs ≡ m.out body arg x.tag x.val) → cond p (same_msgs outs (m.out body arg x.tag x.val)) true ≡ true
    by_pure true h = ap (same_msgs outs) (sym (h refl)) ∙ msgs-same outs
    by_pure false h = refl
