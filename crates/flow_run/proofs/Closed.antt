-- What a closed run leaves, from what its chairs tell.
use Rattle.std.proofs.Common.{◌≡◌, ℕ, zero, suc, ◌+◌, ◌<◌, Bool, true, false, cond, ◌&&◌, ltb, eqb, Option, Some, None, List, map, [], ◌∷◌, ◌++◌, length, drop, All, refl, sym, ap, ◌∙◌, subst, arith, append_assoc, append-nil}
use Rattle.std.proofs.lemmas.Bool.{ltb-true, eqb-true}
use Rattle.std.proofs.lemmas.List.{map-append, length-append}
use Rattle.std.proofs.lemmas.List.Elements.{All-head, All-tail, All-append, All-map}
use Rattle.std.proofs.lemmas.List.Folds.{list_all-append}
use Rattle.std.proofs.lemmas.Option.{same_Some, slice_get-map, slice_get-get_or, slice_get_within}
use Rattle.std.proofs.Math.ListN.{get_or-append}
use Rattle.std.proofs.Math.Seq.{get_or-append_seam}
use Rattle.std.specs.Prelude.{slice_get, get_or, IfSome}
use Rattle.std.specs.Option.{option_map}
use Rattle.std.specs.List.{list_all, count_by}
use mathlib.Core.List.{IsPrefix}
use Rattle.flow_item.specs.declared.event.Event.{Event}
use Rattle.flow_item.specs.declared.event.Party.{Party}
use Rattle.flow_item.specs.declared.event.Party.TheVariants.{Node, Caller, Worker}
use Rattle.flow_item.specs.Events.{parties_of}
use Rattle.flow_item.specs.Legal.{takes_part, projection}
use Rattle.flow_item.proofs.Tests.{and_left, and_right, both_true}
use Rattle.flow_item.proofs.Journals.{is_legal-start, is_legal-snoc}
use Rattle.flow_shape.specs.declared.Shape.{Shape}
use Rattle.flow_shape.specs.declared.Step.{Step}
use Rattle.flow_shape.specs.declared.Step.TheVariants as T
use Rattle.flow_shape.specs.Kinds.{is_body}
use Rattle.flow_shape.specs.Rules.{IsValid}
use Rattle.flow_item.specs.Lists.{places}
use Rattle.flow_machine.specs.Machine.{allows, is_leave, is_legal, may_follow, is_of_run, is_run, open_after}
use Rattle.flow_machine.specs.Scripts.{Sent, puts, acts, cancels, does, sent_by, all_sent, sent_of, duties, done_in, script}
use Rattle.flow_machine.specs.Schedule.{is_left}
use Rattle.flow_machine.specs.Bodies.{Meanings, bodies_kept}
use Rattle.flow_progress.specs.NeverStuck.{has_left}
use Rattle.flow_laws.specs.Moments.{IsWithinLimits}
use Rattle.flow_determinacy.proofs.Along.{sent_of-append}
use Rattle.flow_line.specs.Values.{Sitting, IsPart}
use Rattle.flow_line.specs.Kept.{kept_event, or_else, first_kept}
use Rattle.flow_line.proofs.Beginnings.{prefix_trans}
use Rattle.flow_book.specs.declared.machine.Run.{Run}
use Rattle.flow_book.specs.Answers.{about_of, passes}
use Rattle.flow_book.specs.Callers.{number_of, is_caller_of}
use Rattle.flow_book.specs.Opening.{numbers_below, callers_of, workers_of}
use Rattle.flow_work.specs.Promises.{FollowsScripts, CompletesScripts, HeedsWaits, KeepsBodies, WaitedAt}
use Rattle.flow_work.proofs.CallerLemmas.{left-events}
use Rattle.flow_work.proofs.CursorLemmas.{sent_of-snoc}
use Rattle.flow_work.proofs.LimitLemmas.{not-less}
use Rattle.flow_work.proofs.RunLemmas.{plain-kept, bodies-snoc}
use Rattle.flow_crew.specs.Bodies.{KeepsOf}
use Rattle.flow_crew.specs.Crew.{KeptSuch, KeepsSuch, IsWork, IsCaller, IsWorker}
use Rattle.flow_crew.proofs.Owned.{kept-part}
use Rattle.flow_crew.proofs.Quiet.{nothing-follows, stays}
use Rattle.flow_crew.proofs.Ready.{all-both, all-parts}
use Rattle.flow_item.proofs.Places.{slice_get-below}
use Rattle.flow_run.specs.Following.{IsRefusedStep, HasFollowed, FollowsOwn}
use Rattle.flow_run.specs.Refusals.{IsRefusedWithin}
use Rattle.flow_run.specs.Runs.{IsRunOf, SawTheEnd}
use Rattle.flow_run.proofs.BodyLemmas.{all-there, bodies-start, bodies-of-workers}
use Rattle.flow_run.proofs.Changed.{all-imply, map-twice}
use Rattle.flow_run.proofs.Following.{waited-longer}

-- ---- chairs by number

all-at : {X : Type 0} (P : X → Type 0) (xs : List X) (k : ℕ) (x : X) → All P xs → slice_get xs k ≡ Some x → P x
all-at P [] k x h at = cc
all-at P (y ∷ xs) zero x h at = subst P (same_Some y x at) (All-head P y xs h)
all-at P (y ∷ xs) (suc k) x h at = all-at P xs k x (All-tail P y xs h) at

module _ (f : ℕ → Party) where
  number-count : (n : ℕ) → length (map f (numbers_below n)) ≡ n
  number-count zero = refl
  number-count (suc n) =
      let sum = ap length (map-append f (numbers_below n) (n ∷ [])) ∙ length-append (map f (numbers_below n)) (f n ∷ []) in
      let rest = number-count n in
      omega (arith, sum, rest)

  number-at : (n k : ℕ) (d : Party) → k < n → get_or (map f (numbers_below n)) k d ≡ f k
  number-at zero k d below = absurd (let never : ⊥ = omega (arith, below) in never)
  number-at (suc n) k d below = ap (λ ps. get_or ps k d) (map-append f (numbers_below n) (n ∷ [])) ∙ by_less (number-at n k d) (ltb k n) refl
    where
      by_less : (k < n → get_or (map f (numbers_below n)) k d ≡ f k) → (b : Bool) → ltb k n ≡ b → get_or (map f (numbers_below n) ++ f n ∷ []) k d ≡ f k
      by_less earlier true is =
          let low : k < n = ltb-true k n is in
          let count = number-count n in
          get_or-append (map f (numbers_below n)) (f n ∷ []) d k (omega (arith, low, count)) ∙ earlier low
      by_less earlier false is =
          let high = not-less n k is in
          let same : length (map f (numbers_below n)) ≡ k = (let count = number-count n in omega (arith, count, high, below)) in
          let last : n ≡ k = omega (arith, high, below) in
          ap (λ i. get_or (map f (numbers_below n) ++ f n ∷ []) i d) (sym same) ∙ (get_or-append_seam (map f (numbers_below n)) (f n) [] d ∙ ap f last)

  -- of each number there is a chair
  pub by-number : (P : Sitting Event Run → Type 0) (n : ℕ) (cs : List (Sitting Event Run)) → map (λ c. c.party) cs ≡ map f (numbers_below n) → All P cs → (k : ℕ) → k < n → (c : Sitting Event Run) × P c × (c.party ≡ f k)
  by-number P n cs h all k below = by_place (slice_get cs k) refl (sym (slice_get-map (λ (c : Sitting Event Run). c.party) cs k) ∙ there)
    where
      there : slice_get (map (λ (c : Sitting Event Run). c.party) cs) k ≡ Some (f k)
      there =
          ap (λ ps. slice_get ps k) h
          ∙ (slice_get-get_or (map f (numbers_below n)) k (f k) (let count = number-count n in omega (arith, count, below))
          ∙ ap (λ (p : Party). let o : Option Party = Some p in o) (number-at n k (f k) below))

      by_place : (o : Option (Sitting Event Run)) → slice_get cs k ≡ o → option_map (λ (c : Sitting Event Run). c.party) o ≡ Some (f k) → (c : Sitting Event Run) × P c × (c.party ≡ f k)
      by_place None at h = cc
      by_place (Some c) at h = (c, all-at P cs k c all at, same_Some c.party (f k) h)

-- ---- scripts

-- what is followed is followed in each beginning
pub follows-start : (shape : Shape) (scripts : List (List Step)) (xs es : List Event) → IsPrefix xs es → FollowsScripts shape scripts es → FollowsScripts shape scripts xs
follows-start shape scripts xs es begins h n steps at =
    let whole = h n steps at in (
      sent_of begins.0 n ++ whole.0,
      sym (append_assoc (sent_of xs n) (sent_of begins.0 n) whole.0)
          ∙ (ap (λ ds. ds ++ whole.0) (sym (sent_of-append xs begins.0 n) ∙ ap (λ es. sent_of es n) begins.1) ∙ whole.1),
    )

module _ (shape : Shape) (steps : List Step) (run : Run) (items events : ℕ) (es : List Event) (c : Sitting Event Run) (n : ℕ) where
  sent-own : IsPart parties_of (about_of run items events) es c → c.party ≡ Caller n → sent_of es n ≡ all_sent c.own
  sent-own part party = ap all_sent (ap (λ p. projection parties_of p es) (sym party) ∙ sym part.own)

  pub follows-one : HasFollowed shape steps c → IsPart parties_of (about_of run items events) es c → c.party ≡ Caller n → (left : List Sent) × (sent_of es n ++ left ≡ script shape steps)
  follows-one h part party = (h.left, ap (λ ds. ds ++ h.left) (sent-own part party) ∙ h.whole)

  pub heeds-one : HasFollowed shape steps c → IsPart parties_of (about_of run items events) es c → c.party ≡ Caller n → (k : ℕ) → slice_get steps k ≡ Some T.Wait
      → length (script shape steps) < length (sent_of es n) + length (script shape (drop k steps)) → WaitedAt shape steps es n k
  heeds-one h part party k at more =
      let sum : length (script shape steps) ≡ length (all_sent c.own) + length h.left = ap length (sym h.whole) ∙ length-append (all_sent c.own) h.left in
      let sent = ap length (sent-own part party) in
      let less : length h.left < length (script shape (drop k steps)) = omega (arith, sum, sent, more) in
      waited-longer shape steps c.seen es n k part.seen (subst (λ (p : Party). WaitedAt shape steps c.seen (number_of p) k) party (h.waited k at less))

-- ---- whole scripts

nothing-right : {X : Type 0} (xs ys : List X) → xs ++ ys ≡ [] → ys ≡ []
nothing-right [] ys h = h
nothing-right (x ∷ xs) ys h = cc

-- who left has nothing left to do
nothing-left : (shape : Shape) (steps : List Step) (ds left : List Sent) → ds ++ left ≡ script shape steps → is_left ds ≡ true → left ≡ []
nothing-left shape [] [] left h l = cc
nothing-left shape [] (d ∷ ds) left h l = nothing-right ds left (let tail : ds ++ left ≡ [] = cc in tail)
nothing-left shape (T.Put n port tag val ∷ ss) [] left h l = cc
nothing-left shape (T.Put n port tag val ∷ ss) (d ∷ ds) left h l =
    let head : d ≡ puts n port tag val = cc in
    let tail : ds ++ left ≡ script shape ss = cc in
    let rest : is_left (puts n port tag val ∷ ds) ≡ true = subst (λ (d : Sent). is_left (d ∷ ds) ≡ true) head l in
    nothing-left shape ss ds left tail rest
nothing-left shape (T.Act n ∷ ss) [] left h l = cc
nothing-left shape (T.Act n ∷ ss) (d ∷ ds) left h l =
    let head : d ≡ acts n = cc in
    let tail : ds ++ left ≡ script shape ss = cc in
    let rest : is_left (acts n ∷ ds) ≡ true = subst (λ (d : Sent). is_left (d ∷ ds) ≡ true) head l in
    nothing-left shape ss ds left tail rest
nothing-left shape (T.Wait ∷ ss) ds left h l = nothing-left shape ss ds left h l
nothing-left shape (T.Cancel ∷ ss) ds left h l = behind (λ ds h l. nothing-left shape ss ds left h l) (places is_body 0 shape.nodes) ds h l
  where
    behind : ((ds : List Sent) → ds ++ left ≡ script shape ss → is_left ds ≡ true → left ≡ []) → (ns : List ℕ) (ds : List Sent) → ds ++ left ≡ done_in (map (λ n. does (cancels n)) ns ++ duties shape ss) → is_left ds ≡ true → left ≡ []
    behind last [] ds h l = last ds h l
    behind last (n ∷ ns) [] h l = cc
    behind last (n ∷ ns) (d ∷ ds) h l =
        let head : d ≡ cancels n = cc in
        let tail : ds ++ left ≡ done_in (map (λ n. does (cancels n)) ns ++ duties shape ss) = cc in
        let rest : is_left (cancels n ∷ ds) ≡ true = subst (λ (d : Sent). is_left (d ∷ ds) ≡ true) head l in
        behind last ns ds tail rest

-- where all callers have left, each did its whole script
pub completes : (shape : Shape) (scripts : List (List Step)) (workers : ℕ) (es : List Event) → is_run shape (length scripts) workers es ≡ true → count_by is_leave es ≡ length scripts → FollowsScripts shape scripts es → CompletesScripts shape scripts es
completes shape scripts workers es run all follows n steps at =
    let one = follows n steps at in
    let gone : has_left es n ≡ true = by_left (has_left es n) refl in
    let none : one.0 ≡ [] = nothing-left shape steps (sent_of es n) one.0 one.1 (left-events (projection parties_of (Caller n) es) ∙ gone) in
    sym (append-nil (sent_of es n)) ∙ (ap (λ ds. sent_of es n ++ ds) (sym none) ∙ one.1)
  where
    by_left : (b : Bool) → has_left es n ≡ b → has_left es n ≡ true
    by_left true is = is
    by_left false is = absurd (stays shape (length scripts) workers es run all n (slice_get_within scripts n steps at) is)

-- ---- the end of the journal

-- where a chair saw that all have left and nothing is open, it saw the whole journal
pub saw-all : (shape : Shape) (callers workers : ℕ) (seen es : List Event) → IsValid shape → IsPrefix seen es → is_run shape callers workers es ≡ true → count_by is_leave seen ≡ callers → open_after shape seen ≡ 0 → seen ≡ es
saw-all shape callers workers seen es valid begins run all closed = by_rest begins.0 begins.1
  where
    legal : is_legal shape es ≡ true
    legal = and_left (is_legal shape es) (list_all (is_of_run shape callers workers) es) run

    own : list_all (is_of_run shape callers workers) es ≡ true
    own = and_right (is_legal shape es) (list_all (is_of_run shape callers workers) es) run

    by_rest : (rest : List Event) → seen ++ rest ≡ es → seen ≡ es
    by_rest [] is = sym (append-nil seen) ∙ is
    by_rest (e ∷ more) is =
        let joined : (seen ++ e ∷ []) ++ more ≡ es = append_assoc seen (e ∷ []) more ∙ is in
        let longer : is_legal shape (seen ++ e ∷ []) ≡ true = is_legal-start parties_of (allows shape) (seen ++ e ∷ []) more (ap (is_legal shape) joined ∙ legal) in
        let both : (is_legal shape seen && may_follow shape seen e) ≡ true = sym (is_legal-snoc parties_of (allows shape) seen e) ∙ longer in
        let owned : (list_all (is_of_run shape callers workers) seen && list_all (is_of_run shape callers workers) (e ∷ more)) ≡ true =
        sym (list_all-append (is_of_run shape callers workers) seen (e ∷ more)) ∙ (ap (list_all (is_of_run shape callers workers)) is ∙ own) in
        let run_seen : is_run shape callers workers seen ≡ true =
        both_true (and_left (is_legal shape seen) (may_follow shape seen e) both) (and_left (list_all (is_of_run shape callers workers) seen) (list_all (is_of_run shape callers workers) (e ∷ more)) owned) in
        absurd (nothing-follows shape callers workers seen valid run_seen all closed e (and_right (is_legal shape seen) (may_follow shape seen e) both)
        (all-there (is_of_run shape callers workers) seen more e (ap (list_all (is_of_run shape callers workers)) is ∙ own)))

-- ---- the refused event

-- such is the first event that is kept, where each that is kept is
pub first-such : (P : Event → Type 0) (cs : List (Sitting Event Run)) → All (λ c. IfSome c.kept (λ kept. P kept.0)) cs → IfSome (first_kept cs) P
first-such P [] h = _
first-such P (c ∷ cs) h = by_kept (first-such P cs (All-tail (λ c. IfSome c.kept (λ kept. P kept.0)) c cs h)) c.kept (All-head (λ c. IfSome c.kept (λ kept. P kept.0)) c cs h)
  where
    by_kept : IfSome (first_kept cs) P → (o : Option (Event × ℕ)) → IfSome o (λ kept. P kept.0) → IfSome (or_else (kept_event o) (first_kept cs)) P
    by_kept later None g = later
    by_kept later (Some kept) g = g

module _ (m : Meanings) (shape : Shape) (scripts : List (List Step)) (workers items events : ℕ) (es : List Event) where
  abbrev run_of : Run
  run_of = record { shape = shape; callers = length scripts; workers = workers }

  bodies-before : (xs : List Event) → IsPrefix xs es → KeepsBodies m shape es → KeepsBodies m shape xs
  bodies-before xs begins kept = bodies-start m shape [] xs begins.0 (ap (bodies_kept m shape) begins.1 ∙ kept)

  passes-there : (c : Sitting Event Run) (xs : List Event) (e : Event) → IsPart parties_of (about_of run_of items events) es c → passes c.about xs e ≡ true → passes (about_of run_of items events) xs e ≡ true
  passes-there c xs e part h = ap (λ o. passes o xs e) (sym part.about_is) ∙ h

  -- that of a caller is the next of its script
  next-follows : (c : Sitting Event Run) (n : ℕ) (steps : List Step) (e : Event) → slice_get scripts n ≡ Some steps → c.party ≡ Caller n → IsPart parties_of (about_of run_of items events) es c → FollowsScripts shape scripts es
      → (h : HasFollowed shape steps c) → IsRefusedStep c h.left e → FollowsScripts shape scripts (c.seen ++ e ∷ [])
  next-follows c n steps e at party part follows h r n' steps' at' = by_number (eqb n n') refl
    where
      takes : takes_part (parties_of e) (Caller n') ≡ eqb n n'
      takes = r.of n' ∙ ap (λ (p : Party). eqb (number_of p) n') party

      sent : sent_of (c.seen ++ e ∷ []) n' ≡ cond (eqb n n') (sent_of c.seen n' ++ sent_by e) (sent_of c.seen n')
      sent = sent_of-snoc c.seen e n' ∙ ap (λ b. cond b (sent_of c.seen n' ++ sent_by e) (sent_of c.seen n')) takes

      own : sent_of c.seen n ≡ all_sent c.own
      own = ap all_sent (ap (λ p. projection parties_of p c.seen) (sym party) ∙ sym r.own)

      by_number : (b : Bool) → eqb n n' ≡ b → (left : List Sent) × (sent_of (c.seen ++ e ∷ []) n' ++ left ≡ script shape steps')
      by_number true is =
          let same : n ≡ n' = eqb-true n n' is in
          let steps_are : steps ≡ steps' = same_Some steps steps' (sym at ∙ (ap (slice_get scripts) same ∙ at')) in
          let here : sent_of (c.seen ++ e ∷ []) n' ≡ all_sent c.own ++ sent_by e =
          sent ∙ (ap (λ b. cond b (sent_of c.seen n' ++ sent_by e) (sent_of c.seen n')) is ∙ ap (λ ds. ds ++ sent_by e) (ap (sent_of c.seen) (sym same) ∙ own)) in (
            r.next.0,
            ap (λ ds. ds ++ r.next.0) here
                ∙ (append_assoc (all_sent c.own) (sent_by e) r.next.0
                ∙ (ap (λ ds. all_sent c.own ++ ds) r.next.1 ∙ (h.whole ∙ ap (script shape) steps_are))),
          )
      by_number false is =
          let other = follows-start shape scripts c.seen es part.seen follows n' steps' at' in
          (other.0, ap (λ ds. ds ++ other.0) (sent ∙ ap (λ b. cond b (sent_of c.seen n' ++ sent_by e) (sent_of c.seen n')) is) ∙ other.1)

  pub caller-refused : (c : Sitting Event Run) (n : ℕ) (steps : List Step) (e : Event) → slice_get scripts n ≡ Some steps → c.party ≡ Caller n → IsPart parties_of (about_of run_of items events) es c → FollowsScripts shape scripts es
      → KeepsBodies m shape es → (h : HasFollowed shape steps c) → IsRefusedStep c h.left e → IsRefusedWithin m shape scripts workers items events es e
  caller-refused c n steps e at party part follows kept h r = record {
    before = c.seen;
    start = part.seen;
    refused = record { passes = passes-there c c.seen e part r.passes_it; follows = next-follows c n steps e at party part follows h r };
    bodies = bodies-snoc m shape c.seen e (bodies-before c.seen part.seen kept) (plain-kept m shape c.seen e r.plain);
  }

  -- that of a worker is no caller's
  work-follows : (xs : List Event) (e : Event) → IsPrefix xs es → sent_by e ≡ [] → FollowsScripts shape scripts es → FollowsScripts shape scripts (xs ++ e ∷ [])
  work-follows xs e begins none follows n steps at =
      let before = follows-start shape scripts xs es begins follows n steps at in
      (before.0, ap (λ ds. ds ++ before.0) (sent_of-snoc xs e n ∙ by_part (takes_part (parties_of e) (Caller n))) ∙ before.1)
    where
      by_part : (b : Bool) → cond b (sent_of xs n ++ sent_by e) (sent_of xs n) ≡ sent_of xs n
      by_part true = ap (λ ds. sent_of xs n ++ ds) none ∙ append-nil (sent_of xs n)
      by_part false = refl

  pub worker-refused : (c : Sitting Event Run) → IsPart parties_of (about_of run_of items events) es c → FollowsScripts shape scripts es → KeepsBodies m shape es → KeepsSuch (IsWork m run_of) c
      → IfSome c.kept (λ kept. IsRefusedWithin m shape scripts workers items events es kept.0)
  worker-refused c part follows kept such = by_kept c.kept such
    where
      by_kept : (o : Option (Event × ℕ)) → KeptSuch (IsWork m run_of) c.about c.seen o → IfSome o (λ kept. IsRefusedWithin m shape scripts workers items events es kept.0)
      by_kept None h = _
      by_kept (Some (e, len)) h =
          let begins = prefix_trans h.0 c.seen es h.1 part.seen in
          record {
            before = h.0;
            start = begins;
            refused = record { passes = passes-there c h.0 e part h.3; follows = work-follows h.0 e begins h.4.1 follows };
            bodies = bodies-snoc m shape h.0 e (bodies-before h.0 begins kept) h.4.0;
          }

-- ---- the whole run

caller-party : (n : ℕ) (p : Party) → is_caller_of n p ≡ true → (p ≡ Caller (number_of p)) × (number_of p < n)
caller-party n (Caller c) h = (refl, ltb-true c n h)
caller-party n (Node m) h = cc
caller-party n (Worker w) h = cc

-- what is known of a closed run
pub record IsClosed (m : Meanings) (run : Run) (scripts : List (List Step)) (items events : ℕ) (es : List Event) (refused : Option Event) (done : Bool) (callers helpers : List (Sitting Event Run)) : Type 0 where
  pub valid : IsValid run.shape
  pub scripted : run.callers ≡ length scripts
  pub legal : is_run run.shape run.callers run.workers es ≡ true
  pub caller_parts : All (IsPart parties_of (about_of run items events) es) callers
  pub helper_parts : All (IsPart parties_of (about_of run items events) es) helpers
  pub within : IsWithinLimits items events es
  pub refused_is : refused ≡ first_kept (callers ++ helpers)
  pub caller_numbers : map (λ c. c.party) callers ≡ callers_of run
  pub helper_numbers : map (λ c. c.party) helpers ≡ workers_of run
  pub followed : All (λ c. IsCaller m run items events c × FollowsOwn run.shape scripts c) callers
  pub worked : All (λ c. (busy : Bool) × IsWorker m run items events c busy) helpers
  pub end : done ≡ true → SawTheEnd run helpers

module _ (m : Meanings) (shape : Shape) (scripts : List (List Step)) (workers items events : ℕ) (es : List Event) (refused : Option Event) (done : Bool) (callers helpers : List (Sitting Event Run)) where
  abbrev run : Run
  run = run_of m shape scripts workers items events es

  abbrev Closed : Type 0
  Closed = IsClosed m run scripts items events es refused done callers helpers

  caller-at : Closed → (n : ℕ) → n < length scripts → (c : Sitting Event Run) × (IsPart parties_of (about_of run items events) es c × (IsCaller m run items events c × FollowsOwn shape scripts c)) × (c.party ≡ Caller n)
  caller-at h n below =
      by-number Caller (λ c. IsPart parties_of (about_of run items events) es c × (IsCaller m run items events c × FollowsOwn shape scripts c)) (length scripts) callers h.caller_numbers
      (all-both (IsPart parties_of (about_of run items events) es) (λ c. IsCaller m run items events c × FollowsOwn shape scripts c) callers h.caller_parts h.followed) n below

  -- the script of the caller with this number
  script-of : (c : Sitting Event Run) (n : ℕ) (steps : List Step) → c.party ≡ Caller n → slice_get scripts n ≡ Some steps → FollowsOwn shape scripts c → HasFollowed shape steps c
  script-of c n steps party at follows = follows steps (ap (λ (p : Party). slice_get scripts (number_of p)) party ∙ at)

  all-follow : Closed → FollowsScripts shape scripts es
  all-follow h n steps at =
      let x = caller-at h n (slice_get_within scripts n steps at) in
      follows-one shape steps run items events es x.0 n (script-of x.0 n steps x.2 at x.1.1.1) x.1.0 x.2

  all-heed : Closed → HeedsWaits shape scripts es
  all-heed h n steps k at wait more =
      let x = caller-at h n (slice_get_within scripts n steps at) in
      heeds-one shape steps run items events es x.0 n (script-of x.0 n steps x.2 at x.1.1.1) x.1.0 x.2 k wait more

  all-bodies : Closed → KeepsBodies m shape es
  all-bodies h = bodies-of-workers m shape (length scripts) workers es h.legal each
    where
      each : (w : ℕ) → w < workers → KeepsOf m shape (Worker w) es
      each w below =
          let x = by-number Worker (λ c. IsPart parties_of (about_of run items events) es c × ((busy : Bool) × IsWorker m run items events c busy)) workers helpers h.helper_numbers
          (all-both (IsPart parties_of (about_of run items events) es) (λ c. (busy : Bool) × IsWorker m run items events c busy) helpers h.helper_parts h.worked) w below in
          subst (λ (p : Party). KeepsOf m shape p es) x.2 (kept-part m shape (about_of run items events) es x.0 x.1.0 x.1.1.1.bodies)

  abbrev Refused : Event → Type 0
  Refused e = IsRefusedWithin m shape scripts workers items events es e

  callers-kept : Closed → All (λ c. IfSome c.kept (λ kept. Refused kept.0)) callers
  callers-kept h =
      all-imply (λ c. IsPart parties_of (about_of run items events) es c × (IsCaller m run items events c × FollowsOwn shape scripts c)) (λ c. IfSome c.kept (λ kept. Refused kept.0)) one callers
      (all-both (IsPart parties_of (about_of run items events) es) (λ c. IsCaller m run items events c × FollowsOwn shape scripts c) callers h.caller_parts h.followed)
    where
      one : (c : Sitting Event Run) → IsPart parties_of (about_of run items events) es c × (IsCaller m run items events c × FollowsOwn shape scripts c) → IfSome c.kept (λ kept. Refused kept.0)
      one c x =
          let p = caller-party (length scripts) c.party x.1.0.caller in
          let s = slice_get-below scripts (number_of c.party) p.1 in
          let f = x.1.1 s.0 s.1 in
          by_kept (all-follow h) (all-bodies h) s.0 s.1 p.0 f c.kept f.refused
        where
          by_kept : FollowsScripts shape scripts es → KeepsBodies m shape es → (steps : List Step) → slice_get scripts (number_of c.party) ≡ Some steps → c.party ≡ Caller (number_of c.party) → (f : HasFollowed shape steps c)
              → (o : Option (Event × ℕ)) → IfSome o (λ kept. IsRefusedStep c f.left kept.0) → IfSome o (λ kept. Refused kept.0)
          by_kept follows bodies steps at party f None r = _
          by_kept follows bodies steps at party f (Some kept) r = caller-refused m shape scripts workers items events es c (number_of c.party) steps kept.0 at party x.0 follows bodies f r

  helpers-kept : Closed → All (λ c. IfSome c.kept (λ kept. Refused kept.0)) helpers
  helpers-kept h =
      all-imply (λ c. IsPart parties_of (about_of run items events) es c × ((busy : Bool) × IsWorker m run items events c busy)) (λ c. IfSome c.kept (λ kept. Refused kept.0))
      (λ c x. worker-refused m shape scripts workers items events es c x.0 (all-follow h) (all-bodies h) x.1.1.kept) helpers
      (all-both (IsPart parties_of (about_of run items events) es) (λ c. (busy : Bool) × IsWorker m run items events c busy) helpers h.helper_parts h.worked)

  -- the chair that saw the end saw the whole journal
  whole-seen : Closed → (s : SawTheEnd run helpers) → s.chair.seen ≡ es
  whole-seen h s =
      let part : IsPart parties_of (about_of run items events) es s.chair = all-at (IsPart parties_of (about_of run items events) es) (s.chair ∷ s.after) 0 s.chair
      (all-parts (IsPart parties_of (about_of run items events) es) s.before (s.chair ∷ s.after) (subst (λ (cs : List (Sitting Event Run)). All (IsPart parties_of (about_of run items events) es) cs) s.is h.helper_parts)).1 refl in
      saw-all shape (length scripts) workers s.chair.seen es h.valid part.seen h.legal s.left s.closed

  run-known : Closed → IsRunOf m shape scripts workers items events es refused done
  run-known h = record {
    run = h.legal;
    follows = all-follow h;
    waits = all-heed h;
    bodies = all-bodies h;
    within = h.within;
    event = subst (λ (o : Option Event). IfSome o Refused) (sym h.refused_is)
        (first-such Refused (callers ++ helpers) (All-append (λ c. IfSome c.kept (λ kept. Refused kept.0)) callers helpers (callers-kept h) (helpers-kept h)));
    whole = λ is. let s = h.end is in
        completes shape scripts workers es h.legal (ap (count_by is_leave) (sym (whole-seen h s)) ∙ s.left) (all-follow h);
    closed = λ is. let s = h.end is in ap (open_after shape) (sym (whole-seen h s)) ∙ s.closed;
  }

-- a closed run is one of its document
pub run-closed : (m : Meanings) (run : Run) (scripts : List (List Step)) (items events : ℕ) (es : List Event) (refused : Option Event) (done : Bool) (callers helpers : List (Sitting Event Run))
    → IsClosed m run scripts items events es refused done callers helpers → IsRunOf m run.shape scripts run.workers items events es refused done
run-closed m run scripts items events es refused done callers helpers h =
    let same : run ≡ run_of m run.shape scripts run.workers items events es = (λ i. record { shape = run.shape; callers = h.scripted i; workers = run.workers }) in
    run-known m run.shape scripts run.workers items events es refused done callers helpers
    (subst (λ (r : Run). IsClosed m r scripts items events es refused done callers helpers) same h)

-- ---- the parts of a closed run

saw-more : (run : Run) (cs ds : List (Sitting Event Run)) → SawTheEnd run cs → SawTheEnd run (cs ++ ds)
saw-more run cs ds s = record {
  before = s.before;
  after = s.after ++ ds;
  chair = s.chair;
  is = ap (λ l. l ++ ds) s.is ∙ append_assoc s.before (s.chair ∷ s.after) ds;
  left = s.left;
  closed = s.closed;
}

module _ {X Y : Type 0} (f g : X → Sitting Event Run) (fb : X → Bool) (h : Y → Sitting Event Run) (hb : Y → Bool) (Post : Y → Type 0) (m : Meanings) (run : Run) (scripts : List (List Step)) (items events : ℕ) where
  abbrev Caller_at : X → Type 0
  Caller_at x = IsCaller m run items events (f x) × IsWorker m run items events (g x) (fb x) × FollowsOwn run.shape scripts (f x)

  abbrev Working : Sitting Event Run → Type 0
  Working c = (busy : Bool) × IsWorker m run items events c busy

  abbrev chairs_of : List X → List Y → List (Sitting Event Run)
  chairs_of xs ys = map f xs ++ (map h ys ++ map g xs)

  -- a run whose callers and workers were closed
  pub parts-closed : (es : List Event) (refused : Option Event) (done : Bool) (new xs : List X) (ys : List Y) → IsValid run.shape → run.callers ≡ length scripts → xs ≡ new
      → All Caller_at new → All (λ y. IsWorker m run items events (h y) (hb y) × Post y) ys → map (λ x. (f x).party) new ≡ callers_of run → map (λ y. (h y).party) ys ++ map (λ x. (g x).party) new ≡ workers_of run
      → is_run run.shape run.callers run.workers es ≡ true → All (IsPart parties_of (about_of run items events) es) (chairs_of xs ys) → IsWithinLimits items events es → refused ≡ first_kept (chairs_of xs ys)
      → (done ≡ true → SawTheEnd run (map h ys)) → IsRunOf m run.shape scripts run.workers items events es refused done
  parts-closed es refused done new xs ys valid scripted same followed worked numbers helpers legal parts within kept end =
      let at_new : All (IsPart parties_of (about_of run items events) es) (chairs_of new ys) = subst (λ (l : List X). All (IsPart parties_of (about_of run items events) es) (chairs_of l ys)) same parts in
      let two = all-parts (IsPart parties_of (about_of run items events) es) (map f new) (map h ys ++ map g new) at_new in
      run-closed m run scripts items events es refused done (map f new) (map h ys ++ map g new) record {
        valid = valid;
        scripted = scripted;
        legal = legal;
        caller_parts = two.0;
        helper_parts = two.1;
        within = within;
        refused_is = kept ∙ ap (λ l. first_kept (chairs_of l ys)) same;
        caller_numbers = sym (map-twice f (λ (c : Sitting Event Run). c.party) new) ∙ numbers;
        helper_numbers =
            map-append (λ (c : Sitting Event Run). c.party) (map h ys) (map g new)
            ∙ ((λ i. sym (map-twice h (λ (c : Sitting Event Run). c.party) ys) i ++ sym (map-twice g (λ (c : Sitting Event Run). c.party) new) i) ∙ helpers);
        followed = All-map (λ c. IsCaller m run items events c × FollowsOwn run.shape scripts c) f new
            (all-imply Caller_at (λ x. IsCaller m run items events (f x) × FollowsOwn run.shape scripts (f x)) (λ x t. (t.0, t.2)) new followed);
        worked = All-append Working (map h ys) (map g new)
            (All-map Working h ys (all-imply (λ y. IsWorker m run items events (h y) (hb y) × Post y) (λ y. Working (h y)) (λ y t. (hb y, t.0)) ys worked))
            (All-map Working g new (all-imply Caller_at (λ x. Working (g x)) (λ x t. (fb x, t.1)) new followed));
        end = λ is. saw-more run (map h ys) (map g new) (end is);
      }
