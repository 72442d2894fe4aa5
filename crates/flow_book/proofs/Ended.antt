-- The end of a body that runs, and tickets that come back.
use Rattle.std.proofs.Common.{◌≡◌, ℕ, zero, suc, ◌<◌, ◌≤◌, Bool, true, false, cond, ◌&&◌, ◌||◌, eqb, ltb, Option, Some, None, List, [], ◌∷◌, ◌++◌, length, take, refl, sym, ap, ◌∙◌, subst, arith, eq-eqb, append-nil}
use Rattle.std.specs.Prelude.{slice_get, is_none}
use Rattle.std.specs.List.{list_any, list_all, find}
use Rattle.std.specs.Option.{option_map}
use Rattle.flow_item.specs.declared.item.Item.{Item}
use Rattle.flow_item.specs.declared.item.Msg.{Msg}
use Rattle.flow_item.specs.declared.event.Event.{Event}
use Rattle.flow_item.specs.declared.event.Event.TheVariants as E
use Rattle.flow_item.specs.declared.event.Party.{Party}
use Rattle.flow_item.specs.declared.event.Party.TheVariants.{Node, Worker}
use Rattle.flow_item.specs.declared.event.Stop.{Stop}
use Rattle.flow_item.specs.declared.event.Stop.TheVariants.{Limit, Memory}
use Rattle.flow_item.specs.Events.{parties_of, births_of}
use Rattle.flow_item.specs.Legal.{projection}
use Rattle.flow_item.specs.Lists.{is_empty}
use Rattle.flow_item.specs.Values.{same_item}
use Rattle.flow_item.proofs.Tests.{and_left, and_right, both_true}
use Rattle.flow_shape.specs.declared.Kind.{Kind}
use Rattle.flow_shape.specs.declared.Kind.TheVariants as K
use Rattle.flow_shape.specs.declared.Shape.{Shape}
use Rattle.flow_shape.specs.Kinds.{is_input}
use Rattle.flow_shape.specs.Wiring.{is_some_and, at_node}
use Rattle.flow_shape.specs.Places.{place_at}
use Rattle.flow_machine.specs.State.{Part, body_part, PlacedNode}
use Rattle.flow_machine.specs.Enabled.{is_numbered, at_most_one, has_ticket, allows_at}
use Rattle.flow_machine.specs.Machine.{Task, task_of, runs, is_legal, is_of_run, state_of, node_after}
use Rattle.flow_machine.specs.WishEvents.{is_idle}
use Rattle.flow_machine.specs.Readers.{tickets_of}
use Rattle.flow_shape.specs.Rules.{IsValid}
use Rattle.flow_node.specs.Built.{is_built}
use Rattle.flow_machine.proofs.Local.{may_follow-allows_at}
use Rattle.flow_progress.specs.NeverStuck.{may_answer}
use Rattle.flow_progress.proofs.Workers.{workers-end, tickets-come-back}
use Rattle.flow_body.specs.declared.ask.Ask.{Ask}
use Rattle.flow_line.specs.declared.view.About.{About}
use Rattle.flow_line.specs.Journal as line
use Rattle.flow_line.specs.Values.{Sitting, may_make, may_make_about}
use Rattle.flow_book.specs.declared.machine.Run.{Run}
use Rattle.flow_book.specs.declared.job.Job.{Job}
use Rattle.flow_book.specs.declared.job.JobBody.{JobBody}
use Rattle.flow_book.specs.declared.job.JobBody.TheVariants as J
use Rattle.flow_book.specs.Runs.{run_allows}
use Rattle.flow_book.specs.Answers as a
use Rattle.flow_book.specs.Callers.{is_worker_about, is_idle_worker}
use Rattle.flow_book.specs.Jobs as j
use Rattle.flow_book.specs.Posts.{replayed}
use Rattle.flow_book.specs.Serving.{RunnableAbout}
use Rattle.flow_book.proofs.Whole.{legal-run}
use Rattle.flow_book.proofs.Wishes.{here_at, Stands, stands, start-served}
use Rattle.flow_book.proofs.Stops.{legal-short, halted-meant}
use Rattle.flow_book.proofs.Wished.{halted-limit}
use Rattle.flow_book.proofs.Serves.{same-on, done-on, stopped-on}
use Rattle.flow_book.specs.declared.job.Took.{Took}
use Rattle.flow_book.specs.declared.job.Took.TheVariants as T
use Rattle.std.proofs.lemmas.Option.{slice_get_within}
use Rattle.flow_book.proofs.Sizes.{size_of, size-own, own-short}
use Rattle.flow_book.proofs.Jobs.{Starts, starts}
use Rattle.flow_book.specs.Callers.{number_of}
use Rattle.flow_book.specs.Serving.{IsServed}
use Rattle.flow_book.specs.declared.serve.Did.TheVariants as D
use Rattle.flow_machine.specs.State.{NodeState}
use Rattle.flow_machine.specs.Enabled.{may_start}
use Rattle.flow_machine.specs.declared.Wish.TheVariants as W
use Rattle.flow_machine.specs.Wishes.{WishIs}
use Rattle.flow_machine.proofs.Frames.{Fits}
use Rattle.flow_laws.proofs.Births.{fits-along}

node-takes : (n : ℕ) (p : Party) → (Rattle.flow_item.specs.Events.same_party (Node n) (Node n) || Rattle.flow_item.specs.Events.same_party p (Node n)) ≡ true
node-takes n p = ap (λ b. b || Rattle.flow_item.specs.Events.same_party p (Node n)) (eq-eqb n n refl)

answer-at : (shape : Shape) (n : ℕ) (k : Kind) (outs : List Msg) → slice_get shape.nodes n ≡ Some k → at_node shape n (λ k. may_answer k outs) ≡ true → may_answer k outs ≡ true
answer-at shape n k outs at h = sym (ap (is_some_and (λ (k : Kind). may_answer k outs)) at) ∙ h

-- what may end a body whose messages are these
pub end-served : (c w : Sitting Event Run) (v : PlacedNode) (n k i made : ℕ) (outs : List Msg) → replayed c ≡ Some v → c.party ≡ Node n → w.party ≡ Worker k → RunnableAbout c.about
    → w.about ≡ c.about → w.seen ≡ c.seen → line.is_legal parties_of births_of run_allows c.about c.seen ≡ true
    → c.own ≡ projection parties_of c.party c.seen → w.own ≡ projection parties_of w.party w.seen → is_worker_about w.about w.party ≡ true
    → (let t : Task = Some (n, i) in task_of w.own ≡ t) → j.answers_about c.about n outs ≡ true → made ≡ v.state.made
    → (allows_at v.place v.state (E.End k n i made outs) ≡ true) × (may_make run_allows w (E.End k n i made outs) ≡ true)
end-served c w v n k i made outs r p pw valid ab seen l own wown is task answer is_made = by_about c.about refl valid l answer
  where
    by_about : (o : Option (About Run)) → c.about ≡ o → RunnableAbout o → line.is_legal parties_of births_of run_allows o c.seen ≡ true → j.answers_about o n outs ≡ true
        → (allows_at v.place v.state (E.End k n i made outs) ≡ true) × (may_make run_allows w (E.End k n i made outs) ≡ true)
    by_about None at valid l answer = absurd valid
    by_about (Some about) at valid l answer =
        let shape = about.setup.shape in
        let st = stands c v about n c.seen r at p (own ∙ ap (λ (p : Party). projection parties_of p c.seen) p) in
        let legal = and_left (is_legal shape c.seen) (list_all (is_of_run shape about.setup.callers about.setup.workers) c.seen) (legal-run about c.seen l) in
        let mine : task_of (projection parties_of (Worker k) c.seen) ≡ task_of w.own = (λ x. task_of (projection parties_of (sym pw x) (sym seen x))) ∙ ap task_of (sym wown) in
        let e = workers-end shape c.seen [] valid.0 (ap (is_legal shape) (append-nil c.seen) ∙ legal) k n i (mine ∙ task) in
        let same : e.0 ≡ st.0 = some-same (sym e.1 ∙ st.1) in
        let may = e.3 outs (answer-at shape n e.0 outs e.1 answer) in
        let allowed = may_follow-allows_at shape n e.0 e.1 c.seen (E.End k n i (state_of shape n e.0 c.seen).made outs) may (node-takes n (Worker k)) in
        let here : here_at shape n e.0 (state_of shape n e.0 c.seen) ≡ v = ap (λ kd. here_at shape n kd (state_of shape n kd c.seen)) same ∙ sym st.2 in
        let number : (state_of shape n e.0 c.seen).made ≡ made = ap (λ (u : PlacedNode). u.state.made) here ∙ sym is_made in
        let own_step : (Rattle.std.specs.Prelude.nat_lt k about.setup.workers && runs (task_of w.own) n i) ≡ true =
        both_true {a = Rattle.std.specs.Prelude.nat_lt k about.setup.workers} ((λ x. is_worker_about (sym (ab ∙ at) x) (sym pw x)) ∙ is) (ap (λ t. runs t n i) task ∙ both_true {a = eqb n n} (eq-eqb n n refl) (eq-eqb i i refl)) in (
          (λ x. allows_at (sym here x).place (sym here x).state (E.End k n i (sym number x) outs)) ∙ allowed,
          (λ x. may_make_about run_allows ((ab ∙ at) x) (pw x) w.own (E.End k n i made outs)) ∙ own_step,
        )
      where
        some-same : {X : Type 0} {x y : X} → Some x ≡ Some y → x ≡ y
        some-same h = cc

pub back-served : (c w : Sitting Event Run) (v : PlacedNode) (n k i made : ℕ) (outs : List Msg) → replayed c ≡ Some v → c.party ≡ Node n → w.party ≡ Worker k → RunnableAbout c.about
    → w.about ≡ c.about → w.seen ≡ c.seen → line.is_legal parties_of births_of run_allows c.about c.seen ≡ true
    → c.own ≡ projection parties_of c.party c.seen → w.own ≡ projection parties_of w.party w.seen → is_idle_worker w ≡ true
    → has_ticket v.state.part i ≡ true → made ≡ v.state.made
    → (allows_at v.place v.state (E.Back k n i made outs) ≡ true) × (may_make run_allows w (E.Back k n i made outs) ≡ true)
back-served c w v n k i made outs r p pw valid ab seen l own wown idle ticket is_made = by_about c.about refl valid l
  where
    by_about : (o : Option (About Run)) → c.about ≡ o → RunnableAbout o → line.is_legal parties_of births_of run_allows o c.seen ≡ true
        → (allows_at v.place v.state (E.Back k n i made outs) ≡ true) × (may_make run_allows w (E.Back k n i made outs) ≡ true)
    by_about None at valid l = absurd valid
    by_about (Some about) at valid l =
        let shape = about.setup.shape in
        let st = stands c v about n c.seen r at p (own ∙ ap (λ (p : Party). projection parties_of p c.seen) p) in
        let legal = and_left (is_legal shape c.seen) (list_all (is_of_run shape about.setup.callers about.setup.workers) c.seen) (legal-run about c.seen l) in
        let told : (is_worker_about (Some about) (Worker k) && is_none (task_of w.own)) ≡ true = (λ x. is_worker_about (sym (ab ∙ at) x) (sym pw x) && is_none (task_of w.own)) ∙ idle in
        let none : is_none (task_of w.own) ≡ true = and_right (is_worker_about (Some about) (Worker k)) (is_none (task_of w.own)) told in
        let free : is_idle c.seen k ≡ true = (λ x. is_none (task_of (projection parties_of (sym pw x) (sym seen x)))) ∙ (ap (λ es. is_none (task_of es)) (sym wown) ∙ none) in
        let there : has_ticket (state_of shape n st.0 c.seen).part i ≡ true = ap (λ (u : PlacedNode). has_ticket u.state.part i) (sym st.2) ∙ ticket in
        let may = tickets-come-back shape c.seen [] (ap (is_legal shape) (append-nil c.seen) ∙ legal) n st.0 st.1 i there k free outs in
        let allowed = may_follow-allows_at shape n st.0 st.1 c.seen (E.Back k n i (state_of shape n st.0 c.seen).made outs) may (node-takes n (Worker k)) in
        let number : (state_of shape n st.0 c.seen).made ≡ made = ap (λ (u : PlacedNode). u.state.made) (sym st.2) ∙ sym is_made in (
          (λ x. allows_at (st.2 x).place (st.2 x).state (E.Back k n i (sym number x) outs)) ∙ allowed,
          (λ x. may_make_about run_allows ((ab ∙ at) x) (pw x) w.own (E.Back k n i made outs)) ∙ told,
        )

-- ---- messages

one-less : (outs : List Msg) → length outs ≤ 1 → at_most_one outs ≡ true
one-less [] h = refl
one-less (m ∷ []) h = refl
one-less (m ∷ n ∷ ms) h = absurd (omega (arith, h))

-- at a node that is no input, or where there is one message at most, all go
pub all-go : (k : Kind) (body : JobBody) (outs : List Msg) → j.body_of k ≡ Some body → (j.is_submit body ≡ true → outs ≡ []) → (is_input k ≡ true → length outs ≤ 1) → may_answer k outs ≡ true
all-go (K.Async reject limit arg) body outs h none few =
    let same : J.Submit arg ≡ body = cc in
    ap is_empty (none (sym (ap j.is_submit same)))
all-go (K.Input b arg) body outs h none few = one-less outs (few refl)
all-go k body outs h none few = refl

take-all : (outs : List Msg) → length outs ≤ 1 → take 1 outs ≡ outs
take-all [] h = refl
take-all (m ∷ []) h = refl
take-all (m ∷ n ∷ ms) h = absurd (omega (arith, h))

pub whole-end : (b : Bool) (outs : List Msg) → (b ≡ true → length outs ≤ 1) → cond b (take 1 outs) outs ≡ outs
whole-end true outs h = take-all outs (h refl)
whole-end false outs h = refl

pub first-answers : (k : Kind) (outs : List Msg) → is_input k ≡ true → may_answer k (take 1 outs) ≡ true
first-answers (K.Input body arg) [] h = refl
first-answers (K.Input body arg) (m ∷ ms) h = refl
first-answers k outs h = cc

pub answers-there : (shape : Shape) (n : ℕ) (k : Kind) (outs : List Msg) → slice_get shape.nodes n ≡ Some k → may_answer k outs ≡ true → at_node shape n (λ k. may_answer k outs) ≡ true
answers-there shape n k outs at h = ap (is_some_and (λ (k : Kind). may_answer k outs)) at ∙ h

pub outs-end : (kept : Option (Event × ℕ)) (s : Stop) (w n i number : ℕ) (outs : List Msg) → j.outs_in (a.event_back kept s (E.End w n i number outs)) ≡ j.outs_back kept s outs
outs-end None Limit w n i number outs = refl
outs-end None Memory w n i number outs = refl
outs-end (Some kept) s w n i number outs = refl

pub outs-brought : (kept : Option (Event × ℕ)) (s : Stop) (w n i number : ℕ) (outs : List Msg) → j.outs_in (a.event_back kept s (E.Back w n i number outs)) ≡ j.outs_back kept s outs
outs-brought None Limit w n i number outs = refl
outs-brought None Memory w n i number outs = refl
outs-brought (Some kept) s w n i number outs = refl

-- the messages given, unless the event is kept
pub outs-given : (kept : Option (Event × ℕ)) (s : Stop) (e : Event) (outs : List Msg) → cond (is_none (a.event_back kept s e)) [] outs ≡ j.outs_back kept s outs
outs-given None Limit e outs = refl
outs-given None Memory e outs = refl
outs-given (Some kept) s e outs = refl

-- ---- tickets

find-any : (p : Item → Bool) (test : Item → Bool) (xs : List Item) → is_some_and test (find p xs) ≡ true → list_any p xs ≡ true
find-any p test [] h = cc
find-any p test (x ∷ xs) h = by_first (p x) h (λ g. find-any p test xs g)
  where
    by_first : (b : Bool) → is_some_and test (cond b (Some x) (find p xs)) ≡ true → (is_some_and test (find p xs) ≡ true → list_any p xs ≡ true) → (b || list_any p xs) ≡ true
    by_first true h r = refl
    by_first false h r = r h

pub ticket-there : (p : Part) (i : ℕ) (item : Item) → j.is_ticket p i item ≡ true → has_ticket p i ≡ true
ticket-there (body_part w) i item h = find-any (is_numbered i) (same_item item) w.tickets h
ticket-there p i item h = cc

-- the ask is that of a ticket of the node, as far as its own events tell
pub asked-same : (shape : Shape) (es fs : List Event) (ask : Ask) → projection parties_of (Node ask.node) es ≡ projection parties_of (Node ask.node) fs → j.is_asked shape es ask ≡ j.is_asked shape fs ask
asked-same shape es fs ask h =
    ap (λ own. at_node shape ask.node (λ k. j.submits k ask.arg && j.is_ticket (node_after (place_at shape ask.node k) own).part ask.ticket ask.item)) h

-- and so is a job
pub job-same : (o : Option (About Run)) (es fs : List Event) (job : Job) → projection parties_of (Node job.node) es ≡ projection parties_of (Node job.node) fs → j.IsJob o es job → j.IsJob o fs job
job-same None es fs job same h = absurd h
job-same (Some about) es fs job same h =
    (h.0, h.1, h.2, ap (λ own. j.next_item job.node (node_after (place_at about.setup.shape job.node h.0) own).part) (sym same) ∙ h.3)

pub asked-at : (shape : Shape) (seen : List Event) (n : ℕ) (v : PlacedNode) (k : Kind) (ask : Ask) → Stands shape seen ask.node v → slice_get shape.nodes ask.node ≡ Some k
    → j.is_asked shape seen ask ≡ (j.submits k ask.arg && j.is_ticket v.state.part ask.ticket ask.item)
asked-at shape seen n v k ask st at =
    let same : st.0 ≡ k = some-same (sym st.1 ∙ at) in
    ap (is_some_and (λ k. j.submits k ask.arg && j.is_ticket (state_of shape ask.node k seen).part ask.ticket ask.item)) at
    ∙ ap (λ (u : PlacedNode). j.submits k ask.arg && j.is_ticket u.state.part ask.ticket ask.item) (ap (λ k. here_at shape ask.node k (state_of shape ask.node k seen)) (sym same) ∙ sym st.2)
  where
    some-same : {X : Type 0} {x y : X} → Some x ≡ Some y → x ≡ y
    some-same h = cc

-- ---- sizes

small : (about : About Run) (seen : List Event) (n : ℕ) (k : Kind) (s : NodeState) → s ≡ state_of about.setup.shape n k seen → line.is_legal parties_of births_of run_allows (Some about) seen ≡ true → size_of s.part ≤ about.events
small about seen n k s is l =
    let whole = legal-short about [] seen (omega arith) l in
    let own = size-own (place_at about.setup.shape n k) (projection parties_of (Node n) seen) in
    let part = own-short parties_of (Node n) seen in
    let e : size_of s.part ≡ size_of (state_of about.setup.shape n k seen).part = ap (λ (s : NodeState). size_of s.part) is in
    omega (arith, whole, own, part, e)

ticket-size : (p : Part) → length (tickets_of p) ≤ size_of p
ticket-size (body_part w) = omega arith
ticket-size p = omega arith

-- ---- a job that was started

pub job-started : (s w d : Sitting Event Run) (job : Job) (k n : ℕ) → w.party ≡ Worker k → s.party ≡ Node n → s.party ≡ Node job.node → w.about ≡ s.about
    → s.own ≡ projection parties_of s.party s.seen → j.IsJob s.about s.seen job → a.IsDone w (E.Start k n job.item.id.no) d → a.IsPlaced s (E.Start k n job.item.id.no) d
    → IsServed (number_of s.party) w (D.Start job) d
job-started s w d job k n pw pn pj ab own is done placed =
    let worker : k ≡ number_of w.party = ap number_of (sym pw) in
    let node : n ≡ number_of s.party = ap number_of (sym pn) in
    let last : k ≡ number_of d.party = ap number_of (sym pw ∙ sym done.party) in
    let here : projection parties_of (Node job.node) s.seen ≡ projection parties_of (Node job.node) placed.0 =
    (λ x. projection parties_of (sym pj x) s.seen) ∙ (sym own ∙ (placed.2 ∙ (λ x. projection parties_of (pj x) placed.0))) in (
      subst (λ (e : Event). a.IsDone w e d) (λ x. E.Start (worker x) (node x) job.item.id.no) done,
      ap number_of (sym pj),
      (placed.0, placed.1 ∙ (λ x. placed.0 ++ E.Start (last x) (node x) job.item.id.no ∷ []), subst (λ (o : Option (About Run)). j.IsJob o placed.0 job) (sym (done.about ∙ ab)) (job-same s.about s.seen placed.0 job here is)),
    )

-- what is known of the job that a node wishes to start
pub job-known : (c w : Sitting Event Run) (v : PlacedNode) (about : About Run) (n k i : ℕ) → replayed c ≡ Some v → c.party ≡ Node n → w.party ≡ Worker k → c.about ≡ Some about → RunnableAbout c.about
    → w.about ≡ c.about → w.seen ≡ c.seen → line.is_legal parties_of births_of run_allows c.about c.seen ≡ true
    → c.own ≡ projection parties_of c.party c.seen → w.own ≡ projection parties_of w.party w.seen → is_idle_worker w ≡ true
    → WishIs v.place v.state (W.Start i)
    → (kd : Kind) × (slice_get about.setup.shape.nodes n ≡ Some kd) × Starts kd v.state.part n i × (may_start v.state.part i ≡ true) × (size_of v.state.part ≤ about.events)
    × (v.state ≡ state_of about.setup.shape n kd c.seen)
job-known c w v about n k i r p pw at valid ab seen l own wown idle q =
    let shape = about.setup.shape in
    let may : may_start v.state.part i ≡ true = (start-served c w v n k i r p pw valid ab seen l own wown idle q).0 in
    let st = stands c v about n c.seen r at p (own ∙ ap (λ (p : Party). projection parties_of p c.seen) p) in
    let told : line.is_legal parties_of births_of run_allows (Some about) c.seen ≡ true = ap (λ o. line.is_legal parties_of births_of run_allows o c.seen) (sym at) ∙ l in
    let legal = and_left (is_legal shape c.seen) (list_all (is_of_run shape about.setup.callers about.setup.workers) c.seen) (legal-run about c.seen told) in
    let state : v.state ≡ state_of shape n st.0 c.seen = ap (λ (u : PlacedNode). u.state) st.2 in
    let fits : Fits st.0 v.state.part = subst (λ (s : NodeState). Fits st.0 s.part) (sym state) (fits-along shape n st.0 st.1 c.seen legal) in
    (st.0, st.1, starts st.0 v.state.part n i fits may, may, small about c.seen n st.0 v.state state told, state)

-- the tickets of a node are few
pub tickets-few : (c : Sitting Event Run) (v : PlacedNode) (about : About Run) (n : ℕ) → replayed c ≡ Some v → c.party ≡ Node n → c.about ≡ Some about
    → line.is_legal parties_of births_of run_allows c.about c.seen ≡ true → c.own ≡ projection parties_of c.party c.seen → length (tickets_of v.state.part) ≤ about.events
tickets-few c v about n r p at l own =
    let st = stands c v about n c.seen r at p (own ∙ ap (λ (p : Party). projection parties_of p c.seen) p) in
    let told : line.is_legal parties_of births_of run_allows (Some about) c.seen ≡ true = ap (λ o. line.is_legal parties_of births_of run_allows o c.seen) (sym at) ∙ l in
    let state : v.state ≡ state_of about.setup.shape n st.0 c.seen = ap (λ (u : PlacedNode). u.state) st.2 in
    let le = small about c.seen n st.0 v.state state told in
    let t = ticket-size v.state.part in
    omega (arith, le, t)

-- the same, where the node's kind is at hand
pub job-facts : (c w : Sitting Event Run) (v : PlacedNode) (about : About Run) (n k i : ℕ) (kd : Kind) → Some kd ≡ slice_get about.setup.shape.nodes n → replayed c ≡ Some v → c.party ≡ Node n → w.party ≡ Worker k → c.about ≡ Some about
    → IsValid about.setup.shape × (list_all is_built about.setup.shape.nodes ≡ true)
    → w.about ≡ c.about → w.seen ≡ c.seen → line.is_legal parties_of births_of run_allows c.about c.seen ≡ true
    → c.own ≡ projection parties_of c.party c.seen → w.own ≡ projection parties_of w.party w.seen → is_idle_worker w ≡ true
    → WishIs v.place v.state (W.Start i)
    → Starts kd v.state.part n i × (may_start v.state.part i ≡ true) × (size_of v.state.part ≤ about.events) × (v.state ≡ state_of about.setup.shape n kd c.seen)
job-facts c w v about n k i kd here r p pw at valid ab seen l own wown idle q =
    let f = job-known c w v about n k i r p pw at (subst RunnableAbout (sym at) valid) ab seen l own wown idle q in
    let same : f.0 ≡ kd = some-same (sym f.1 ∙ sym here) in
    (subst (λ (kd : Kind). Starts kd v.state.part n i) same f.2, f.3, f.4, f.5 ∙ ap (λ kd. state_of about.setup.shape n kd c.seen) same)
  where
    some-same : {X : Type 0} {x y : X} → Some x ≡ Some y → x ≡ y
    some-same h = cc

-- ---- what finish tells

pub ended-is : (shape : Shape) (w d : Sitting Event Run) (job : Job) (outs sent : List Msg) → sent ≡ j.end_outs shape job.node outs
    → ((number : ℕ) × a.IsDone w (E.End (number_of w.party) job.node job.item.id.no number sent) d) → j.IsEnded shape w job outs d
ended-is shape w d job outs sent is h = (h.0, subst (λ (o : List Msg). a.IsDone w (E.End (number_of w.party) job.node job.item.id.no h.0 o) d) is h.1)

pub halted-is : (shape : Shape) (w d : Sitting Event Run) (job : Job) (outs sent : List Msg) (s : Stop) (number : ℕ) → sent ≡ j.end_outs shape job.node outs
    → a.IsHalted w (a.Was (E.End (number_of w.party) job.node job.item.id.no number sent)) d s → a.IsHalted w (j.Ends shape w.party job outs) d s
halted-is shape w d job outs sent s number is h =
    halted-meant w d (E.End (number_of w.party) job.node job.item.id.no number sent) (j.Ends shape w.party job outs) s h (number, λ i. E.End (number_of w.party) job.node job.item.id.no number (is i))

-- the node of a job is an input where its kind is
input-at : (shape : Shape) (n : ℕ) (k : Kind) → slice_get shape.nodes n ≡ Some k → at_node shape n is_input ≡ is_input k
input-at shape n k at = ap (is_some_and is_input) at

pub all-answers : (run : Run) (items events : ℕ) (o : Option (About Run)) (job : Job) (outs : List Msg) → o ≡ a.about_of run items events
    → ((k : Kind) × (slice_get run.shape.nodes job.node ≡ Some k) × (j.body_of k ≡ Some job.body)) → (j.is_submit job.body ≡ true → outs ≡ [])
    → (at_node run.shape job.node is_input ≡ true → length outs ≤ 1) → j.answers_about o job.node outs ≡ true
all-answers run items events o job outs is kind none few =
    ap (λ o. j.answers_about o job.node outs) is
    ∙ answers-there run.shape job.node kind.0 outs kind.1 (all-go kind.0 job.body outs kind.2 none (λ h. few (input-at run.shape job.node kind.0 kind.1 ∙ h)))

pub first-answer : (run : Run) (items events : ℕ) (o : Option (About Run)) (job : Job) (outs : List Msg) → o ≡ a.about_of run items events
    → ((k : Kind) × (slice_get run.shape.nodes job.node ≡ Some k) × (j.body_of k ≡ Some job.body))
    → at_node run.shape job.node is_input ≡ true → j.answers_about o job.node (take 1 outs) ≡ true
first-answer run items events o job outs is kind input =
    ap (λ o. j.answers_about o job.node (take 1 outs)) is
    ∙ answers-there run.shape job.node kind.0 (take 1 outs) kind.1 (first-answers kind.0 outs (sym (input-at run.shape job.node kind.0 kind.1) ∙ input))

-- a node that may answer is one of the graph
pub answers-within : (run : Run) (items events : ℕ) (o : Option (About Run)) (n : ℕ) (outs : List Msg) → o ≡ a.about_of run items events → j.answers_about o n outs ≡ true → n < length run.shape.nodes
answers-within run items events o n outs is h = by_kind (slice_get run.shape.nodes n) refl (sym (ap (λ o. j.answers_about o n outs) is) ∙ h)
  where
    by_kind : (k : Option Kind) → slice_get run.shape.nodes n ≡ k → is_some_and (λ (k : Kind). may_answer k outs) k ≡ true → n < length run.shape.nodes
    by_kind None at h = cc
    by_kind (Some k) at h = slice_get_within run.shape.nodes n k at

-- ---- what back tells

past : {X : Type 0} (xs : List X) (n : ℕ) → length xs ≤ n → slice_get xs n ≡ None
past [] n h = refl
past (x ∷ xs) zero h = absurd (omega (arith, h))
past (x ∷ xs) (suc n) h = past xs n (omega (arith, h))

-- no node that isn't there was asked
pub nobody-asked : (shape : Shape) (es : List Event) (ask : Ask) → length shape.nodes ≤ ask.node → j.is_asked shape es ask ≡ false
nobody-asked shape es ask h = ap (is_some_and (λ (k : Kind). j.submits k ask.arg && j.is_ticket (state_of shape ask.node k es).part ask.ticket ask.item)) (past shape.nodes ask.node h)

pub asked-post : (c : Sitting Event Run) (v : PlacedNode) (about : About Run) (ask : Ask) (k : Kind) → replayed c ≡ Some v → c.party ≡ Node ask.node → c.about ≡ Some about → c.own ≡ projection parties_of c.party c.seen
    → Some k ≡ slice_get about.setup.shape.nodes ask.node → j.is_asked about.setup.shape c.seen ask ≡ (j.submits k ask.arg && j.is_ticket v.state.part ask.ticket ask.item)
asked-post c v about ask k r p at own here =
    asked-at about.setup.shape c.seen ask.node v k ask (stands c v about ask.node c.seen r at p (own ∙ ap (λ (p : Party). projection parties_of p c.seen) p)) (sym here)

pub asked-ticket : (c : Sitting Event Run) (v : PlacedNode) (about : About Run) (ask : Ask) → replayed c ≡ Some v → c.party ≡ Node ask.node → c.about ≡ Some about → c.own ≡ projection parties_of c.party c.seen
    → j.is_asked about.setup.shape c.seen ask ≡ true → has_ticket v.state.part ask.ticket ≡ true
asked-ticket c v about ask r p at own h =
    let st = stands c v about ask.node c.seen r at p (own ∙ ap (λ (p : Party). projection parties_of p c.seen) p) in
    let told = sym (asked-post c v about ask st.0 r p at own (sym st.1)) ∙ h in
    ticket-there v.state.part ask.ticket ask.item (and_right (j.submits st.0 ask.arg) (j.is_ticket v.state.part ask.ticket ask.item) told)

pub took-is : (shape : Shape) (c w s d : Sitting Event Run) (ask : Ask) (outs : List Msg) → a.IsSame c w → s.party ≡ Node ask.node → s.own ≡ projection parties_of s.party s.seen → j.is_asked shape s.seen ask ≡ true
    → ((first : ℕ) × a.IsDone w (E.Back (number_of w.party) (number_of s.party) ask.ticket first outs) d × a.IsPlaced s (E.Back (number_of w.party) (number_of s.party) ask.ticket first outs) d)
    → j.IsBrought shape c ask outs T.Took d
took-is shape c w s d ask outs same p own asked h =
    let node : number_of s.party ≡ ask.node = ap number_of p in
    let party : number_of w.party ≡ number_of c.party = ap number_of same.0.party in
    let last : number_of w.party ≡ number_of d.party = ap number_of (sym h.1.party) in
    let placed = h.2 in
    let here : projection parties_of (Node ask.node) placed.0 ≡ projection parties_of (Node ask.node) s.seen =
    (λ x. projection parties_of (sym p x) placed.0) ∙ (sym placed.2 ∙ (own ∙ (λ x. projection parties_of (p x) s.seen))) in (
      h.0,
      done-on c w d (E.Back (number_of c.party) ask.node ask.ticket h.0 outs) same (subst (λ (e : Event). a.IsDone w e d) (λ x. E.Back (party x) (node x) ask.ticket h.0 outs) h.1),
      (placed.0, placed.1 ∙ (λ x. placed.0 ++ E.Back (last x) (node x) ask.ticket h.0 outs ∷ []), asked-same shape placed.0 s.seen ask here ∙ asked),
    )

pub brings-is : (shape : Shape) (c w s d : Sitting Event Run) (ask : Ask) (outs : List Msg) (z : Stop) (first : ℕ) → a.IsSame c w → s.party ≡ Node ask.node → s.own ≡ projection parties_of s.party s.seen → j.is_asked shape s.seen ask ≡ true
    → a.IsHalted w (a.Was (E.Back (number_of w.party) (number_of s.party) ask.ticket first outs)) d z → a.AtLimit z (a.IsUpTo s d)
    → a.IsHalted c (j.Brings shape c.party ask outs d.seen) d z
brings-is shape c w s d ask outs z first same p own asked h up =
    let node : number_of s.party ≡ ask.node = ap number_of p in
    let party : number_of w.party ≡ number_of c.party = ap number_of same.0.party in
    halted-limit c d (a.IsUpTo s d) (E.Back (number_of w.party) (number_of s.party) ask.ticket first outs) (j.Brings shape c.party ask outs d.seen) z
    (stopped-on c w d (a.Was (E.Back (number_of w.party) (number_of s.party) ask.ticket first outs)) z same h) up
    (λ kept up. (
      first,
      λ x. E.Back (party x) (node x) ask.ticket first outs,
      asked-same shape d.seen s.seen ask ((λ x. projection parties_of (sym p x) d.seen) ∙ (sym up.1 ∙ (own ∙ (λ x. projection parties_of (p x) s.seen)))) ∙ asked,
    ))

-- after one more look
pub brought-on : (shape : Shape) (c w d : Sitting Event Run) (ask : Ask) (outs : List Msg) (t : Took) → a.IsSame c w → c.looks < w.looks → j.IsBack shape w ask outs t d → j.IsBrought shape c ask outs t d
brought-on shape c w d ask outs T.Took same more h =
    (h.0, done-on c w d (E.Back (number_of c.party) ask.node ask.ticket h.0 outs) same (subst (λ (e : Event). a.IsDone w e d) (λ x. E.Back (number_of (same.0.party x)) ask.node ask.ticket h.0 outs) h.1), h.2)
brought-on shape c w d ask outs T.Stranger same more h = let le = h.0.0.looks in (same-on c w d same h.0, omega (arith, more, le), h.1)

pub brings-on : (shape : Shape) (c w d : Sitting Event Run) (ask : Ask) (outs : List Msg) (z : Stop) → a.IsSame c w → a.IsHalted w (j.Brings shape w.party ask outs d.seen) d z → a.IsHalted c (j.Brings shape c.party ask outs d.seen) d z
brings-on shape c w d ask outs z same h =
    subst (λ (p : Party). a.IsHalted c (j.Brings shape p ask outs d.seen) d z) same.0.party (stopped-on c w d (j.Brings shape w.party ask outs d.seen) z same h)

-- an end that was refused, after the chair had seen more
pub end-on : (c w d : Sitting Event Run) (m n i : ℕ) (outs : List Msg) (z : Stop) (back : Option Event) → a.IsSame c w → m ≡ n
    → ((first : ℕ) × a.IsHalted w (a.Was (E.End (number_of w.party) m i first outs)) d z × (back ≡ a.event_back w.kept z (E.End (number_of w.party) m i first outs)))
    → ((first : ℕ) × a.IsHalted c (a.Was (E.End (number_of c.party) n i first outs)) d z × (back ≡ a.event_back c.kept z (E.End (number_of c.party) n i first outs)))
end-on c w d m n i outs z back same node h =
    let event : E.End (number_of w.party) m i h.0 outs ≡ E.End (number_of c.party) n i h.0 outs = λ x. E.End (number_of (same.0.party x)) (node x) i h.0 outs in
    (h.0, subst (λ (e : Event). a.IsHalted c (a.Was e) d z) event (stopped-on c w d (a.Was (E.End (number_of w.party) m i h.0 outs)) z same h.1), h.2 ∙ (λ x. a.event_back (same.1 x) z (event x)))
