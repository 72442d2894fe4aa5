-- What the journal of a closed book is.
use Rattle.std.proofs.Common.{◌≡◌, ℕ, ◌<◌, ◌≤◌, true, if◌then◌else◌, Option, Some, None, List, [], ◌∷◌, ◌++◌, length, refl, sym, ap, ◌∙◌, subst, arith, append_assoc, All}
use Rattle.std.specs.List.{sum_by, count_by, list_all}
use Rattle.std.specs.Option.{is_some}
use Rattle.std.proofs.lemmas.List.Elements.{All-nil, All-cons, All-head, All-tail}
use Rattle.flow_item.specs.declared.event.Event.{Event}
use Rattle.flow_item.specs.Events.{parties_of, births_of, births}
use Rattle.flow_item.specs.Legal as legal
use Rattle.flow_item.proofs.Tests.{and_left}
use Rattle.flow_shape.specs.Rules.{IsValid}
use Rattle.flow_machine.specs.Machine.{is_leave, is_legal, is_of_run, is_run, open_after}
use Rattle.flow_machine.specs.Settled.{IsSettled}
use Rattle.flow_laws.specs.Moments.{IsWithinLimits, AtEachStart, EdgesAgree, HoldsAgree, NodesWithinLimits, LedgerAddsUp}
use Rattle.flow_fates.specs.Facts.{ItemsHaveOneFate, ItemsHaveLineages, HoldsReserve, NothingIsHeld, ParentsWereBorn}
use Rattle.flow_fates.proofs.Facts.{one-fate-each, lineages-each, holds-reserve, closed-is-settled, closed-holds-nothing, parents-were-born}
use Rattle.flow_laws.proofs.EdgeStates.{modes-agree}
use Rattle.flow_laws.proofs.HoldsMatch.{holds-match}
use Rattle.flow_laws.proofs.HoldsTwoForms.{holds-twice}
use Rattle.flow_laws.proofs.Limits.{limits-kept}
use Rattle.flow_laws.proofs.LedgerLaw.{adds-up}
use Rattle.flow_laws.proofs.Births.{births-come}
use Rattle.flow_progress.proofs.Leaving.{callers-leave-once}
use Rattle.flow_line.specs.declared.view.About.{About}
use Rattle.flow_line.specs.Journal as line
use Rattle.flow_line.specs.Values.{Sitting, IsPart, IsWhole}
use Rattle.flow_line.specs.Kept.{kept_event, or_else, without_kept, first_kept, without_first_kept}
use Rattle.flow_line.proofs.Firsts.{parts_before, first_kept-append, none_taken}
use Rattle.flow_book.specs.declared.machine.Run.{Run}
use Rattle.flow_book.specs.Runs.{run_allows}
use Rattle.flow_book.specs.Answers as a
use Rattle.flow_book.proofs.Whole as whole

-- ---- the event that was kept

module _ {E S : Type 0} where
  -- nothing of the second list is taken where the first keeps an event
  taken-first : (cs ds : List (Sitting E S)) (e : E) → first_kept cs ≡ Some e → without_first_kept (cs ++ ds) ≡ without_first_kept cs ++ ds
  taken-first [] ds e h = cc
  taken-first (c ∷ cs) ds e h = by_kept (taken-first cs ds e) c.kept refl
    where
      by_kept : (first_kept cs ≡ Some e → without_first_kept (cs ++ ds) ≡ without_first_kept cs ++ ds) → (k : Option (E × ℕ)) → c.kept ≡ k → without_first_kept ((c ∷ cs) ++ ds) ≡ without_first_kept (c ∷ cs) ++ ds
      by_kept later None is =
          let rest : first_kept cs ≡ Some e = sym (ap (λ k. or_else (kept_event k) (first_kept cs)) is) ∙ h in
          ap (λ k. if is_some k then without_kept c ∷ (cs ++ ds) else c ∷ without_first_kept (cs ++ ds)) is
          ∙ (ap (λ l. c ∷ l) (later rest) ∙ sym (ap (λ k. (if is_some k then without_kept c ∷ cs else c ∷ without_first_kept cs) ++ ds) is))
      by_kept later (Some kept) is =
          ap (λ k. if is_some k then without_kept c ∷ (cs ++ ds) else c ∷ without_first_kept (cs ++ ds)) is
          ∙ sym (ap (λ k. (if is_some k then without_kept c ∷ cs else c ∷ without_first_kept cs) ++ ds) is)

  -- it is taken from the second list where the first keeps none
  taken-second : (cs ds : List (Sitting E S)) → first_kept cs ≡ None → without_first_kept (cs ++ ds) ≡ cs ++ without_first_kept ds
  taken-second [] ds h = refl
  taken-second (c ∷ cs) ds h = by_kept (taken-second cs ds) c.kept refl
    where
      by_kept : (first_kept cs ≡ None → without_first_kept (cs ++ ds) ≡ cs ++ without_first_kept ds) → (k : Option (E × ℕ)) → c.kept ≡ k → without_first_kept ((c ∷ cs) ++ ds) ≡ (c ∷ cs) ++ without_first_kept ds
      by_kept later None is =
          let rest : first_kept cs ≡ None = sym (ap (λ k. or_else (kept_event k) (first_kept cs)) is) ∙ h in
          ap (λ k. if is_some k then without_kept c ∷ (cs ++ ds) else c ∷ without_first_kept (cs ++ ds)) is ∙ ap (λ l. c ∷ l) (later rest)
      by_kept later (Some kept) is = let never : Some kept.0 ≡ None = sym (ap (λ k. or_else (kept_event k) (first_kept cs)) is) ∙ h in let no : ⊥ = cc in absurd no

  -- the first list keeps an event, which was taken out
  pub from-first : (cs ds cs2 : List (Sitting E S)) (o : Option E) (e : E) → o ≡ first_kept cs → o ≡ Some e → cs2 ≡ without_first_kept cs
      → (Some e ≡ first_kept (cs ++ ds)) × (cs2 ++ ds ≡ without_first_kept (cs ++ ds))
  from-first cs ds cs2 o e is some rest =
      let found : first_kept cs ≡ Some e = sym is ∙ some in
      (sym (first_kept-append cs ds ∙ ap (λ k. or_else k (first_kept ds)) found), ap (λ l. l ++ ds) rest ∙ sym (taken-first cs ds e found))

  -- the first list keeps none
  pub from-second : (cs ds cs2 ds2 : List (Sitting E S)) (o p : Option E) → o ≡ first_kept cs → o ≡ None → cs2 ≡ without_first_kept cs → p ≡ first_kept ds → ds2 ≡ without_first_kept ds
      → (p ≡ first_kept (cs ++ ds)) × (cs2 ++ ds2 ≡ without_first_kept (cs ++ ds))
  from-second cs ds cs2 ds2 o p is none rest is2 rest2 =
      let found : first_kept cs ≡ None = sym is ∙ none in
      let same : cs2 ≡ cs = rest ∙ none_taken cs found in
      (is2 ∙ sym (first_kept-append cs ds ∙ ap (λ k. or_else k (first_kept ds)) found), (λ i. same i ++ rest2 i) ∙ sym (taken-second cs ds found))

-- ---- the journal

some-is : {A : Type 0} (x y : A) → Some x ≡ Some y → x ≡ y
some-is x y h = cc h

within : (about : About Run) (es : List Event) (items events : ℕ) → about.items ≡ items → about.events ≡ events
    → ((before after : List Event) (e : Event) → es ≡ before ++ e ∷ after → 0 < births_of e → sum_by births_of before < about.items) → length es ≤ about.events → IsWithinLimits items events es
within about es items events i v room short = record {
  few = subst (λ n. length es ≤ n) v short;
  room = λ before e later is some.
      let less : sum_by births_of before < about.items = room before later e is some in
      subst (λ n. births before < n) i (subst (λ n. n < about.items) (whole.births-sum before) less);
}

-- a journal of the run, of which the seats have their parts
pub record IsClosed (run : Run) (items events : ℕ) (es : List Event) (seats : List (Sitting Event Run)) : Type 0 where
  pub journal : is_run run.shape run.callers run.workers es ≡ true
  pub parts : All (IsPart parties_of (a.about_of run items events) es) seats
  pub limits : IsWithinLimits items events es
  pub edges : AtEachStart (EdgesAgree run.shape) es
  pub holds : AtEachStart (HoldsAgree run.shape) es
  pub node_limits : AtEachStart (NodesWithinLimits run.shape) es
  pub ledger : AtEachStart (LedgerAddsUp run.shape) es
  pub fates : AtEachStart (ItemsHaveOneFate run.shape) es
  pub lineages : AtEachStart (ItemsHaveLineages run.shape) es
  pub reservations : HoldsReserve run.shape es
  pub settled : open_after run.shape es ≡ 0 → IsSettled run.shape es
  pub released : open_after run.shape es ≡ 0 → NothingIsHeld run.shape es
  pub parents : open_after run.shape es ≡ 0 → ParentsWereBorn run.shape es

module _ (run : Run) (items events : ℕ) (es : List Event) (seats : List (Sitting Event Run)) (valid : IsValid run.shape) where
  -- what the laws tell of it
  by-laws : is_run run.shape run.callers run.workers es ≡ true → All (IsPart parties_of (a.about_of run items events) es) seats → IsWithinLimits items events es → IsClosed run items events es seats
  by-laws is parts limits = record {
    journal = is;
    parts = parts;
    limits = limits;
    edges = λ before later same. modes-agree run.shape before later valid (start-legal before later same);
    holds = λ before later same. (holds-twice run.shape before valid).0 (holds-match run.shape before later valid (start-legal before later same));
    node_limits = λ before later same. limits-kept run.shape before later (start-legal before later same);
    ledger = λ before later same. record {
      each = adds-up run.shape before later valid (start-legal before later same);
      all = births-come run.shape before later valid (start-legal before later same);
    };
    fates = one-fate-each run.shape es valid legal;
    lineages = lineages-each run.shape es valid legal;
    reservations = holds-reserve run.shape es valid legal;
    settled = closed-is-settled run.shape es valid legal;
    released = closed-holds-nothing run.shape es valid legal;
    parents = λ none. parents-were-born run.shape es valid legal (closed-is-settled run.shape es valid legal none);
  }
    where
      legal : is_legal run.shape es ≡ true
      legal = and_left (is_legal run.shape es) (list_all (is_of_run run.shape run.callers run.workers) es) is

      start-legal : (before later : List Event) → es ≡ before ++ later → is_legal run.shape (before ++ later) ≡ true
      start-legal before later same = subst (λ es. is_legal run.shape es ≡ true) same legal

-- a closed line of the run, from whose chairs the first kept event was taken
pub closed : (run : Run) (items events : ℕ) (es log : List Event) (left seats : List (Sitting Event Run)) → IsValid run.shape → es ≡ log → left ≡ without_first_kept seats
    → IsWhole parties_of births_of run_allows log left → All (λ (c : Sitting Event Run). c.about ≡ a.about_of run items events) seats → 0 < length seats
    → IsClosed run items events es seats
closed run items events es log left [] valid of_log same w of some = absurd (omega (arith, some))
closed run items events es log left (c ∷ seats) valid of_log same w of some =
    let about : About Run = record { setup = run; items = items; events = events } in
    let parts : All (IsPart parties_of (Some w.about) log) (c ∷ seats) = parts_before parties_of (Some w.about) log (c ∷ seats) (subst (λ (l : List (Sitting Event Run)). All (IsPart parties_of (Some w.about) log) l) same w.parts) in
    let first = All-head (IsPart parties_of (Some w.about) log) c seats parts in
    let told : Some w.about ≡ Some about = sym first.about_is ∙ All-head (λ (c : Sitting Event Run). c.about ≡ a.about_of run items events) c seats of in
    let is : w.about ≡ about = some-is w.about about told in
    subst (λ (es : List Event). IsClosed run items events es (c ∷ seats)) (sym of_log)
    (by-laws run items events log (c ∷ seats) valid
    (whole.machine-run run log (subst (λ (x : About Run). legal.is_legal parties_of (run_allows x.setup) log ≡ true) is w.legal))
    (subst (λ (o : Option (About Run)). All (IsPart parties_of o log) (c ∷ seats)) told parts)
    (within w.about log items events (ap (λ (x : About Run). x.items) is) (ap (λ (x : About Run). x.events) is) w.births w.short))

-- what each of two lists has, if both together have it
pub all-parts : {X : Type 0} (P : X → Type 0) (xs ys : List X) → All P (xs ++ ys) → All P xs × All P ys
all-parts P [] ys h = (All-nil P, h)
all-parts P (x ∷ xs) ys h =
    let rest = all-parts P xs ys (All-tail P x (xs ++ ys) h) in
    (All-cons P x xs (All-head P x (xs ++ ys) h) rest.0, rest.1)

-- further chairs were put behind those of the seats
pub closed-beside : (run : Run) (items events : ℕ) (es log : List Event) (callers workers after beside seats : List (Sitting Event Run)) → IsValid run.shape → es ≡ log → after ≡ workers ++ beside → callers ++ workers ≡ without_first_kept seats
    → IsWhole parties_of births_of run_allows log (callers ++ after) → All (λ (c : Sitting Event Run). c.about ≡ a.about_of run items events) seats → 0 < length seats
    → IsClosed run items events es seats × All (IsPart parties_of (a.about_of run items events) es) beside
closed-beside run items events es log callers workers after beside [] valid of_log behind same w of some = absurd (omega (arith, some))
closed-beside run items events es log callers workers after beside (c ∷ seats) valid of_log behind same w of some =
    let about : About Run = record { setup = run; items = items; events = events } in
    let P : Sitting Event Run → Type 0 = IsPart parties_of (Some w.about) log in
    let order : callers ++ after ≡ (callers ++ workers) ++ beside = ap (λ l. callers ++ l) behind ∙ sym (append_assoc callers workers beside) in
    let two = all-parts P (callers ++ workers) beside (subst (λ l. All P l) order w.parts) in
    let first = All-head P c seats (parts_before parties_of (Some w.about) log (c ∷ seats) (subst (λ l. All P l) same two.0)) in
    let told : Some w.about ≡ Some about = sym first.about_is ∙ All-head (λ (c : Sitting Event Run). c.about ≡ a.about_of run items events) c seats of in
    let whole : IsWhole parties_of births_of run_allows log (callers ++ workers) = record { about = w.about; legal = w.legal; births = w.births; short = w.short; parts = two.0 } in (
      closed run items events es log (callers ++ workers) (c ∷ seats) valid of_log same whole of some,
      subst (λ (o : Option (About Run)). All (IsPart parties_of o es) beside) told (subst (λ (es : List Event). All (IsPart parties_of (Some w.about) es) beside) (sym of_log) two.1),
    )

-- ---- who has left

-- what is seen has no more leaves than the run has callers
pub leaves-few : (run : Run) (items events : ℕ) (o : Option (About Run)) (es : List Event) → o ≡ a.about_of run items events → line.is_legal parties_of births_of run_allows o es ≡ true → count_by is_leave es ≤ run.callers
leaves-few run items events o es of l =
    let about : About Run = record { setup = run; items = items; events = events } in
    callers-leave-once run.shape run.callers run.workers es (whole.legal-run about es (ap (λ o. line.is_legal parties_of births_of run_allows o es) (sym of) ∙ l))
