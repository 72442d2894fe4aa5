-- Scripts, step by step.
use Rattle.std.proofs.Common.{◌≡◌, ℕ, suc, ◌+◌, ◌<◌, ◌≤◌, Bool, true, false, ◌||◌, ltb, eqb, Option, Some, None, List, [], ◌∷◌, ◌++◌, length, drop, refl, sym, ap, ◌∙◌, subst, arith, inl, inr, append_assoc}
use Rattle.std.proofs.lemmas.Bool.{ltb-true}
use Rattle.std.proofs.lemmas.List.{append-nil, drop_all}
use Rattle.std.proofs.lemmas.Option.{same_Some, slice_get_within}
use Rattle.std.specs.Prelude.{slice_get, IfSome}
use mathlib.Core.List.{IsPrefix}
use Rattle.flow_item.specs.declared.event.Event.{Event}
use Rattle.flow_item.specs.declared.event.Event.TheVariants as E
use Rattle.flow_item.specs.declared.event.Stop.{Stop}
use Rattle.flow_item.specs.declared.event.Stop.TheVariants.{Limit, Memory}
use Rattle.flow_item.specs.declared.event.Party.{Party}
use Rattle.flow_item.specs.declared.event.Party.TheVariants.{Caller}
use Rattle.flow_item.specs.Events.{parties_of}
use Rattle.flow_item.specs.Legal.{projection}
use Rattle.flow_item.proofs.Places.{slice_get-below}
use Rattle.flow_shape.specs.declared.Shape.{Shape}
use Rattle.flow_shape.specs.declared.Step.{Step}
use Rattle.flow_shape.specs.declared.Step.TheVariants as T
use Rattle.flow_machine.specs.Machine.{open_after}
use Rattle.flow_machine.specs.Scripts.{Sent, puts, acts, leaves, sent_by, all_sent, sent_of, script}
use Rattle.flow_line.specs.Values.{Sitting}
use Rattle.flow_line.proofs.Beginnings.{prefix_snoc}
use Rattle.flow_book.specs.declared.machine.Run.{Run}
use Rattle.flow_book.specs.Answers.{kept_first, IsDone, IsHalted, IsKept, IsSame, IsStopped}
use Rattle.flow_book.specs.Callers.{number_of, is_caller_of}
use Rattle.flow_node.proofs.NumberLemmas.{drop-at}
use Rattle.flow_work.specs.Promises.{WaitedAt}
use Rattle.flow_work.specs.Runs.{is_good_step}
use Rattle.flow_work.proofs.CursorLemmas.{all_sent-append}
use Rattle.flow_work.proofs.EndLemmas.{later-shorter}
use Rattle.flow_work.proofs.LimitLemmas.{not-less}
use Rattle.flow_shape.proofs.Sorting.{all-at}
use Rattle.flow_machine.specs.Bodies.{Meanings}
use Rattle.flow_crew.specs.Crew.{IsWorker}
use Rattle.std.specs.List.{list_all}
use Rattle.flow_run.specs.Following.{HasAllOwn, DoesStep, IsOfStep, StopsBy, LeavesOr, IsAt, IsRefusedStep, HasFollowed, FollowsOwn}

-- ---- scripts

all_sent-snoc : (es : List Event) (e : Event) → all_sent (es ++ e ∷ []) ≡ all_sent es ++ sent_by e
all_sent-snoc es e = all_sent-append es (e ∷ []) ∙ ap (λ ds. all_sent es ++ ds) (append-nil (sent_by e))

or-false : (b : Bool) → (b || false) ≡ b
or-false true = refl
or-false false = refl

-- ---- one step more

module _ (shape : Shape) (steps : List Step) where
  -- what was waited for stays so
  pub waited-longer : (xs ys : List Event) (n j : ℕ) → IsPrefix xs ys → WaitedAt shape steps xs n j → WaitedAt shape steps ys n j
  waited-longer xs ys n j begins w = record {
    before = w.before;
    later = w.later ++ begins.0;
    is = sym begins.1 ∙ (ap (λ es. es ++ begins.0) w.is ∙ append_assoc w.before w.later begins.0);
    done = w.done;
    closed = w.closed;
  }

  waited-on : (c d : Sitting Event Run) (j : ℕ) → d.party ≡ c.party → IsPrefix c.seen d.seen → WaitedAt shape steps c.seen (number_of c.party) j → WaitedAt shape steps d.seen (number_of d.party) j
  waited-on c d j party begins w = subst (λ (p : Party). WaitedAt shape steps d.seen (number_of p) j) (sym party) (waited-longer c.seen d.seen (number_of c.party) j begins w)

  pub at-start : (c : Sitting Event Run) → c.own ≡ [] → IsAt shape steps 0 c
  at-start c none = record {
    whole = ap (λ es. all_sent es ++ script shape steps) none;
    waited = λ j below at. absurd (let never : ⊥ = omega (arith, below) in never);
  }

  script-at : (k : ℕ) (s : Step) → slice_get steps k ≡ Some s → script shape (drop k steps) ≡ script shape (s ∷ drop (suc k) steps)
  script-at k s at = ap (script shape) (drop-at steps k s at)

  -- the step made an event
  one-sent : (c d : Sitting Event Run) (k : ℕ) (s : Step) (e : Event) (x : Sent) → slice_get steps k ≡ Some s → script shape (s ∷ drop (suc k) steps) ≡ x ∷ script shape (drop (suc k) steps) → sent_by e ≡ x ∷ [] → (s ≡ T.Wait → ⊥)
      → IsDone c e d → IsAt shape steps k c → IsAt shape steps (suc k) d
  one-sent c d k s e x at starts sends moves m here = record {
    whole =
        ap (λ es. all_sent es ++ script shape (drop (suc k) steps)) m.own
        ∙ (ap (λ ds. ds ++ script shape (drop (suc k) steps)) (all_sent-snoc c.own e ∙ ap (λ ds. all_sent c.own ++ ds) sends)
        ∙ (append_assoc (all_sent c.own) (x ∷ []) (script shape (drop (suc k) steps))
        ∙ (ap (λ ds. all_sent c.own ++ ds) (sym starts ∙ sym (script-at k s at)) ∙ here.whole)));
    waited = λ j below wait. by_less j below wait (ltb j k) refl;
  }
    where
      begins : IsPrefix c.seen d.seen
      begins = prefix_snoc c.seen m.log d.seen e m.start m.seen

      by_less : (j : ℕ) → j < suc k → slice_get steps j ≡ Some T.Wait → (b : Bool) → ltb j k ≡ b → WaitedAt shape steps d.seen (number_of d.party) j
      by_less j below wait true is = waited-on c d j m.party begins (here.waited j (ltb-true j k is) wait)
      by_less j below wait false is =
          let low : k ≤ j = not-less k j is in
          let same : j ≡ k = omega (arith, low, below) in
          absurd (moves (same_Some s T.Wait (sym at ∙ (ap (slice_get steps) (sym same) ∙ wait))))

  -- the step was a wait
  one-waited : (c d : Sitting Event Run) (k : ℕ) → slice_get steps k ≡ Some T.Wait → IsSame c d → HasAllOwn d → d.party ≡ Caller (number_of d.party) → open_after shape d.seen ≡ 0
      → IsAt shape steps k c → IsAt shape steps (suc k) d
  one-waited c d k at same own party closed here = record {
    whole = before ∙ here.whole;
    waited = λ j below wait. by_less j below wait (ltb j k) refl;
  }
    where
      before : all_sent d.own ++ script shape (drop (suc k) steps) ≡ all_sent c.own ++ script shape (drop k steps)
      before = ap (λ es. all_sent es ++ script shape (drop (suc k) steps)) same.0.own ∙ ap (λ ds. all_sent c.own ++ ds) (sym (script-at k T.Wait at))

      done : sent_of d.seen (number_of d.party) ++ script shape (drop k steps) ≡ script shape steps
      done =
          ap (λ es. all_sent es ++ script shape (drop k steps)) (sym (own ∙ ap (λ p. projection parties_of p d.seen) party) ∙ same.0.own)
          ∙ here.whole

      by_less : (j : ℕ) → j < suc k → slice_get steps j ≡ Some T.Wait → (b : Bool) → ltb j k ≡ b → WaitedAt shape steps d.seen (number_of d.party) j
      by_less j below wait true is = waited-on c d j same.0.party same.0.seen (here.waited j (ltb-true j k is) wait)
      by_less j below wait false is =
          let low : k ≤ j = not-less k j is in
          let now : k ≡ j = omega (arith, low, below) in
          subst (λ j. WaitedAt shape steps d.seen (number_of d.party) j) now record { before = d.seen; later = []; is = sym (append-nil d.seen); done = done; closed = closed }

  -- a caller that did its next step is one step further
  pub step-more : (c d : Sitting Event Run) (k : ℕ) (s : Step) → slice_get steps k ≡ Some s → DoesStep shape s c d → HasAllOwn d → d.party ≡ Caller (number_of d.party) → IsAt shape steps k c → IsAt shape steps (suc k) d
  step-more c d k (T.Put n port tag val) at h own party here =
      one-sent c d k (T.Put n port tag val) (E.Put (number_of c.party) n port tag val h.0) (puts n port tag val) at refl refl (λ is. cc) h.1 here
  step-more c d k (T.Act n) at h own party here = one-sent c d k (T.Act n) (E.Act (number_of c.party) n) (acts n) at refl refl (λ is. cc) h here
  step-more c d k T.Wait at h own party here = one-waited c d k at h.0 own party h.1 here
  step-more c d k T.Cancel at h own party here = absurd h

  -- ---- how a script ends

  -- the waits before what is left were heeded
  heeded : (c d : Sitting Event Run) (k : ℕ) → d.party ≡ c.party → IsPrefix c.seen d.seen → IsAt shape steps k c → (j : ℕ) → slice_get steps j ≡ Some T.Wait
      → length (script shape (drop k steps)) < length (script shape (drop j steps)) → WaitedAt shape steps d.seen (number_of d.party) j
  heeded c d k party begins here j wait more = by_less (ltb j k) refl
    where
      by_less : (b : Bool) → ltb j k ≡ b → WaitedAt shape steps d.seen (number_of d.party) j
      by_less true is = waited-on c d j party begins (here.waited j (ltb-true j k is) wait)
      by_less false is = absurd (let short = later-shorter shape steps k j (not-less k j is) in let never : ⊥ = omega (arith, short, more) in never)

  -- it stopped before step k, and what it keeps is of this step
  stopped : (c d : Sitting Event Run) (k : ℕ) → IsKept c d → IfSome d.kept (λ kept. IsRefusedStep d (script shape (drop k steps)) kept.0) → IsAt shape steps k c → HasFollowed shape steps d
  stopped c d k kept refused here = record {
    left = script shape (drop k steps);
    whole = ap (λ es. all_sent es ++ script shape (drop k steps)) kept.own ∙ here.whole;
    waited = heeded c d k kept.party kept.seen here;
    refused = refused;
  }

  none-kept : (c d : Sitting Event Run) (k : ℕ) → IsSame c d → c.kept ≡ None → IfSome d.kept (λ kept. IsRefusedStep d (script shape (drop k steps)) kept.0)
  none-kept c d k same none = subst (λ (o : Option (Event × ℕ)). IfSome o (λ kept. IsRefusedStep d (script shape (drop k steps)) kept.0)) (sym (same.1 ∙ none)) _

  one-kept : (c d : Sitting Event Run) (k : ℕ) (e : Event) → IsStopped c e d → c.kept ≡ None → IsRefusedStep d (script shape (drop k steps)) e → IfSome d.kept (λ kept. IsRefusedStep d (script shape (drop k steps)) kept.0)
  one-kept c d k e st none h =
      let now : d.kept ≡ Some (e, length d.seen) = st.kept ∙ ap (λ o. kept_first o e (length d.seen)) none in
      subst (λ (o : Option (Event × ℕ)). IfSome o (λ kept. IsRefusedStep d (script shape (drop k steps)) kept.0)) (sym now) h

  step-refused : (c d : Sitting Event Run) (k : ℕ) (s : Step) (e : Event) → slice_get steps k ≡ Some s → IsOfStep (number_of c.party) s e → IsStopped c e d → HasAllOwn d → IsRefusedStep d (script shape (drop k steps)) e
  step-refused c d k (T.Put n port tag val) e at of st own = subst (λ (e : Event). IsStopped c e d → IsRefusedStep d (script shape (drop k steps)) e) (sym of.1)
      (λ st. record {
        passes_it = st.limit;
        own = own;
        of = λ m. ap (λ (p : Party). eqb (number_of p) m) (sym st.rest.party);
        next = (script shape (drop (suc k) steps), sym (script-at k (T.Put n port tag val) at));
        plain = refl;
      }) st
  step-refused c d k (T.Act n) e at of st own = subst (λ (e : Event). IsStopped c e d → IsRefusedStep d (script shape (drop k steps)) e) (sym of)
      (λ st. record {
        passes_it = st.limit;
        own = own;
        of = λ m. ap (λ (p : Party). eqb (number_of p) m) (sym st.rest.party);
        next = (script shape (drop (suc k) steps), sym (script-at k (T.Act n) at));
        plain = refl;
      }) st
  step-refused c d k T.Wait e at of st own = absurd of
  step-refused c d k T.Cancel e at of st own = absurd of

  -- a caller that was refused at its next step
  pub step-stopped : (c d : Sitting Event Run) (k : ℕ) (s : Step) → slice_get steps k ≡ Some s → StopsBy (IsOfStep (number_of c.party) s) c d → HasAllOwn d → c.kept ≡ None → IsAt shape steps k c → HasFollowed shape steps d
  step-stopped c d k s at (inl same) own none here = stopped c d k same.0 (none-kept c d k same none) here
  step-stopped c d k s at (inr h) own none here = stopped c d k h.2.rest (one-kept c d k h.0 h.2 none (step-refused c d k s h.0 at h.1 h.2 own)) here

  at-end : script shape (drop (length steps) steps) ≡ leaves ∷ []
  at-end = ap (script shape) (drop_all (length steps) steps (omega arith))

  has-left : (c d : Sitting Event Run) → IsDone c (E.Leave (number_of c.party)) d → c.kept ≡ None → IsAt shape steps (length steps) c → HasFollowed shape steps d
  has-left c d m none here = record {
    left = [];
    whole =
        append-nil (all_sent d.own)
        ∙ (ap all_sent m.own ∙ (all_sent-snoc c.own (E.Leave (number_of c.party)) ∙ (ap (λ ds. all_sent c.own ++ ds) (sym at-end) ∙ here.whole)));
    waited = λ j wait more. waited-on c d j m.party (prefix_snoc c.seen m.log d.seen (E.Leave (number_of c.party)) m.start m.seen) (here.waited j (slice_get_within steps j T.Wait wait) wait);
    refused = subst (λ (o : Option (Event × ℕ)). IfSome o (λ kept. IsRefusedStep d [] kept.0)) (sym (m.kept ∙ none)) _;
  }

  leave-refused : (c d : Sitting Event Run) (e : Event) → e ≡ E.Leave (number_of c.party) → IsStopped c e d → HasAllOwn d → IsRefusedStep d (script shape (drop (length steps) steps)) e
  leave-refused c d e is st own = subst (λ (e : Event). IsStopped c e d → IsRefusedStep d (script shape (drop (length steps) steps)) e) (sym is)
      (λ st. record {
        passes_it = st.limit;
        own = own;
        of = λ m. or-false (eqb (number_of c.party) m) ∙ ap (λ (p : Party). eqb (number_of p) m) (sym st.rest.party);
        next = ([], sym at-end);
        plain = refl;
      }) st

  -- a caller that left, or was refused as it left
  pub script-ended : (c d : Sitting Event Run) → LeavesOr c d → HasAllOwn d → c.kept ≡ None → IsAt shape steps (length steps) c → HasFollowed shape steps d
  script-ended c d (inl m) own none here = has-left c d m none here
  script-ended c d (inr (inl same)) own none here = stopped c d (length steps) same.0 (none-kept c d (length steps) same none) here
  script-ended c d (inr (inr h)) own none here = stopped c d (length steps) h.2.rest (one-kept c d (length steps) h.0 h.2 none (leave-refused c d h.0 h.1 h.2 own)) here

-- ---- what calls leave

pub halted-stops : (Meant : Event → Type 0) (c d : Sitting Event Run) (stop : Stop) → IsHalted c Meant d stop → StopsBy Meant c d
halted-stops Meant c d Limit h = inr h
halted-stops Meant c d Memory h = inl h

-- a worker that stayed as it was
pub same-worker : (m : Meanings) (run : Run) (items events : ℕ) (c d : Sitting Event Run) (b b' : Bool) → (d ≡ c) × (b' ≡ b) → IsWorker m run items events c b → IsWorker m run items events d b'
same-worker m run items events c d b b' same w =
    subst (λ (x : Bool). IsWorker m run items events d x) (sym same.1) (subst (λ (x : Sitting Event Run). IsWorker m run items events x b) (sym same.0) w)

-- a step that a good script has
pub good-at : (shape : Shape) (steps : List Step) (k : ℕ) (s : Step) → list_all (is_good_step shape) steps ≡ true → slice_get steps k ≡ Some s → is_good_step shape s ≡ true
good-at shape steps k s good at = all-at (is_good_step shape) steps k s good at

-- a place within a list has a member
pub never-missing : {X : Type 0} (xs : List X) (k : ℕ) → k < length xs → slice_get xs k ≡ None → ⊥
never-missing {X} xs k below none =
    let found = slice_get-below xs k below in
    let clash : ◌≡◌ {A = Option X} None (Some found.0) = sym none ∙ found.1 in
    cc

-- ---- parties

pub caller-is : (p : Party) (n : ℕ) → p ≡ Caller n → p ≡ Caller (number_of p)
caller-is p n h = h ∙ ap (λ (q : Party). Caller (number_of q)) (sym h)

pub caller-below : (callers : ℕ) (p : Party) (n : ℕ) → p ≡ Caller n → is_caller_of callers p ≡ true → n < callers
caller-below callers p n h c = ltb-true n callers (ap (is_caller_of callers) (sym h) ∙ c)

-- what follows the script of the caller's number follows the caller's own
pub own-script : (shape : Shape) (scripts : List (List Step)) (steps : List Step) (n : ℕ) (p : Party) (d : Sitting Event Run) → p ≡ Caller n → d.party ≡ p → slice_get scripts n ≡ Some steps → HasFollowed shape steps d → FollowsOwn shape scripts d
own-script shape scripts steps n p d party same at h others there =
    let number : number_of d.party ≡ n = ap number_of (same ∙ party) in
    let is : steps ≡ others = same_Some steps others (sym at ∙ (ap (slice_get scripts) (sym number) ∙ there)) in
    subst (λ (ss : List Step). HasFollowed shape ss d) is h

pub next-at : (shape : Shape) (steps : List Step) (k : ℕ) (d : Sitting Event Run) → IsAt shape steps (suc k) d → IsAt shape steps (k + 1) d
next-at shape steps k d h = let next : suc k ≡ k + 1 = omega arith in subst (λ (n : ℕ). IsAt shape steps n d) next h
