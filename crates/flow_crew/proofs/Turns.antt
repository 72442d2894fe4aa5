-- What a worker's turns leave of it.
use Rattle.std.proofs.Common.{◌≡◌, ℕ, Bool, true, false, refl, sym, ◌∙◌, subst}
use Rattle.flow_item.specs.declared.event.Event.{Event}
use Rattle.flow_machine.specs.Bodies.{Meanings}
use Rattle.flow_line.specs.Values.{Sitting}
use Rattle.flow_pool.specs.declared.pool.Pool.{Pool}
use Rattle.flow_pool.specs.declared.post.Post.{Post}
use Rattle.flow_pool.specs.Posts.{IsPostOf}
use Rattle.flow_book.specs.declared.machine.Run.{Run}
use Rattle.flow_book.specs.Answers.{IsSame}
use Rattle.flow_crew.specs.Crew.{IsWorker, HasWorked, IsFree, HasTurned}
use Rattle.flow_crew.proofs.Works.{worked-none, worked-on, worked-kept, worker-same}

module _ (m : Meanings) (run : Run) (items events : ℕ) (pool : Pool) where
  -- with another post
  pub free-post : (c : Sitting Event Run) (post q : Post) (busy : Bool) → IsFree m run items events pool c post busy → IsPostOf pool q → IsFree m run items events pool c q busy
  free-post c post q busy f h = record { of = f.of; place = h; idle = f.idle }

  -- a turn in which nothing was refused leaves the worker free
  pub free-turned : (c d : Sitting Event Run) (post : Post) (busy refused : Bool) → HasTurned m run items events pool c d post busy refused → refused ≡ false → IsFree m run items events pool d post busy
  free-turned c d post busy refused t h = record { of = t.of; place = t.place; idle = t.idle h }

  -- a free worker had a turn in which it did nothing
  pub turned-none : (c : Sitting Event Run) (post q : Post) (busy refused : Bool) → IsFree m run items events pool c post busy → IsPostOf pool q → HasTurned m run items events pool c c q busy refused
  turned-none c post q busy refused f h = record { of = f.of; place = h; worked = worked-none c; idle = λ r. f.idle }

  -- a turn after others
  pub turned-on : (c d e : Sitting Event Run) (post : Post) (busy refused : Bool) → HasWorked c d → HasTurned m run items events pool d e post busy refused → HasTurned m run items events pool c e post busy refused
  turned-on c d e post busy refused w t = record { of = t.of; place = t.place; worked = worked-on c d e w t.worked; idle = t.idle }

  -- a turn, and after it nothing but looks
  pub turned-same : (c d e : Sitting Event Run) (post : Post) (busy refused now : Bool) → HasTurned m run items events pool c d post busy refused → IsSame d e → (now ≡ false → refused ≡ false)
      → HasTurned m run items events pool c e post busy now
  turned-same c d e post busy refused now t s h = record {
    of = worker-same m run items events d e busy t.of s;
    place = t.place;
    worked = worked-on c d e t.worked (worked-kept d e s.0);
    idle = λ r. t.idle (h r);
  }

  -- a turn in which nothing was refused, and after it a question
  pub turned-asked : (c d e : Sitting Event Run) (post q : Post) (busy now refused : Bool) → HasTurned m run items events pool c d post busy false → IsWorker m run items events e now → IsPostOf pool q → HasWorked d e → now ≡ busy
      → HasTurned m run items events pool c e q now refused
  turned-asked c d e post q busy now refused t of place w same = record {
    of = of;
    place = place;
    worked = worked-on c d e t.worked w;
    idle = λ r. same ∙ t.idle refl;
  }

  -- and what is as after the turn
  pub turned-as : (c d e : Sitting Event Run) (post q : Post) (busy now refused : Bool) → HasTurned m run items events pool c d post busy refused → e ≡ d → q ≡ post → now ≡ busy → HasTurned m run items events pool c e q now refused
  turned-as c d e post q busy now refused t chair at same =
      subst (λ (s : Sitting Event Run). HasTurned m run items events pool c s q now refused) (sym chair)
      (subst (λ (p : Post). HasTurned m run items events pool c d p now refused) (sym at) (subst (λ (b : Bool). HasTurned m run items events pool c d post b refused) (sym same) t))
