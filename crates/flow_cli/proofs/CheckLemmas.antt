-- From what the steps of the command `check` come to, to what it promises.
use Rattle.std.proofs.Common.{◌≡◌, ◌⊎◌, ◌∙◌, ◌<◌, ◌++◌, ℕ, Bool, true, false, not, Option, Some, None, Result, Ok, Err, List, [], ◌∷◌, length, map, take, slice_get, refl, sym, ap, subst, inl, inr, arith}
use Rattle.std.specs.Prelude.{⊤, is_some, IfSome, nat_lt, codes, decimal}
use Rattle.std.specs.List.{list_all, flat_map}
use Rattle.std.proofs.lemmas.List.{append-nil}
use Rattle.flow_item.specs.Pairs.{Pair}
use Rattle.flow_item.proofs.Tests.{and_left, and_right, both_true}
use Rattle.flow_shape.specs.declared.Kind.{Kind}
use Rattle.flow_shape.specs.declared.Kind.TheVariants as K
use Rattle.flow_shape.specs.declared.Shape.{Shape}
use Rattle.flow_shape.specs.Kinds.{may_be_sink}
use Rattle.flow_shape.specs.Wiring.{is_some_and}
use Rattle.std.proofs.lemmas.Option.{slice_get_within}
use Rattle.flow_machine.specs.Bodies.{Meanings}
use Rattle.flow_node.specs.Built.{is_built}
use Rattle.flow_doc.specs.declared.Doc.{Doc}
use Rattle.flow_doc.specs.declared.Kept.{Kept}
use Rattle.flow_doc.specs.declared.DocFault.{DocFault}
use Rattle.flow_doc.specs.declared.DocFault.TheVariants as D
use Rattle.flow_doc.specs.Fits.{doc_fits, sink_fits}
use Rattle.flow_doc.specs.Reading.{document}
use Rattle.flow_mean.specs.declared.Loose.{Loose}
use Rattle.flow_mean.specs.declared.judge.Meant.{Meant}
use Rattle.flow_mean.specs.Meaning.{meaning}
use Rattle.flow_mean.specs.Whole.{Finds, IsWhole, meant_at}
use Rattle.flow_mean.specs.declared.MeanFault.{MeanFault}
use Rattle.flow_mean.specs.declared.MeanFault.TheVariants as M
use Rattle.flow_mean.proofs.Walked.{meant-is}
use Rattle.flow_mean.specs.Determinate.{determinate, IsDeterminate}
use Rattle.flow_loop.specs.declared.WildRule.{WildRule}
use Rattle.flow_loop.specs.declared.WildRule.TheVariants.{L4}
use Rattle.flow_loop.specs.Tamed.{tamed, meets_main_rule}
use Rattle.flow_loop.proofs.Unlimited.{is_free, tamed_as_determinate}
use Rattle.flow_io.specs.Streams.{Grows, GrowsByPart}
use Rattle.flow_print.specs.declared.status.Status.{Status}
use Rattle.flow_print.specs.declared.status.Status.TheVariants as S
use Rattle.flow_report.specs.Words.{line, with_newline, lines}
use Rattle.flow_report.specs.Sinks.{name_of, pair_line, sink_lines, sinks_line, all_sink_lines, sinks_section}
use Rattle.flow_print.specs.Faults.{words_text, memory_text, fault_status}
use Rattle.flow_print.specs.Outputs.{Ending, bad_words, unread, no_memory, bad_document, bad_line, output, ending_status, IsWritten}
use Rattle.flow_work.specs.Promises.{IsFresh}
use Rattle.flow_cli.specs.declared.input.TheConstants.{OFFERED}
use Rattle.flow_cli.specs.declared.input.InputFault.{InputFault}
use Rattle.flow_cli.specs.declared.input.InputFault.TheVariants as I
use Rattle.flow_cli.specs.Plain.{IsRead, IsRefused}
use Rattle.flow_cli.specs.Steps.{Reads, IsSaid, IsEnded, fault_ending}
use Rattle.flow_cli.specs.Check.{loose_line, unless_tamed, check_lines, check_text}
use Rattle.flow_cli.specs.Checked.{KeepsChecked, IsCheckEnding, IsCheckPrinted, IsCheckCaused, due_status, IsCheckDue, IsCheckAnswer}
use Rattle.flow_cli.proofs.GenLemmas.{ended_output, ended_memory}
use Rattle.flow_cli.proofs.PlainLemmas.{says_words, says_memory, status_of, all_read, refused_all}

-- ---- the text

built_free : (k : Kind) → is_built k ≡ true → is_free k ≡ true
built_free (K.Limiter threshold by_value) h = cc
built_free (K.Buffer capacity) h = refl
built_free (K.Queue capacity) h = refl
built_free K.Priority h = refl
built_free K.Sequencer h = refl
built_free K.Overwrite h = refl
built_free K.WriteOnce h = refl
built_free (K.Function reject limit body arg) h = refl
built_free (K.Multi reject limit body arg outs) h = refl
built_free (K.Async reject limit arg) h = refl
built_free (K.Input body arg) h = refl
built_free (K.QueueJoin ports) h = refl
built_free (K.KeyJoin ports) h = refl
built_free (K.HoldJoin ports) h = refl
built_free (K.Continue body arg) h = refl
built_free K.Broadcast h = refl
built_free (K.Split outs) h = refl

all_free : (ks : List Kind) → list_all is_built ks ≡ true → list_all is_free ks ≡ true
all_free [] h = refl
all_free (k ∷ ks) h = both_true (built_free k (and_left (is_built k) _ h)) (all_free ks (and_right (is_built k) _ h))

-- without limiters a document that isn't determinate isn't tamed either
pub loose_text_is : (meanings : Meanings) (doc : Doc) (loose : Loose) → list_all is_built doc.shape.nodes ≡ true → determinate meanings doc ≡ Err loose → check_text meanings doc ≡ with_newline (loose_line loose)
loose_text_is meanings doc loose built fails =
    let wild : tamed meanings doc ≡ Err (L4, loose.at) = tamed_as_determinate doc (all_free doc.shape.nodes built) meanings ∙ ap meets_main_rule fails in
    ap (λ r. lines (check_lines meanings doc r)) fails
    ∙ ap (λ r. lines (unless_tamed meanings doc loose r)) wild
    ∙ append-nil (with_newline (loose_line loose))

pub found_loose : (meanings : Meanings) (doc : Doc) (found : Result Meant MeanFault) (loose : Loose) → found ≡ Err (M.Loose loose) → Finds meanings doc found → determinate meanings doc ≡ Err loose
found_loose meanings doc found loose is finds = subst (λ (r : Result Meant MeanFault). Finds meanings doc r) is finds

-- ---- the meaning

-- a sink is a node
sink_within : (shape : Shape) (n : ℕ) → sink_fits shape n ≡ true → n < length shape.nodes
sink_within shape n h = by_kind (slice_get shape.nodes n) refl h
  where
    by_kind : (o : Option Kind) → slice_get shape.nodes n ≡ o → is_some_and may_be_sink o ≡ true → n < length shape.nodes
    by_kind None at h = cc
    by_kind (Some k) at h = slice_get_within shape.nodes n k at

sinks_alike : (shape : Shape) (names : List (List ℕ)) (has had : ℕ → List Pair) (sinks : List ℕ) → list_all (sink_fits shape) sinks ≡ true → ((n : ℕ) → n < length shape.nodes → has n ≡ had n) → all_sink_lines names has sinks ≡ all_sink_lines names had sinks
sinks_alike shape names has had [] within same = refl
sinks_alike shape names has had (n ∷ ns) within same =
    let here : has n ≡ had n = same n (sink_within shape n (and_left (sink_fits shape n) _ within)) in
    ap (λ ps. (line (name_of names n ∷ decimal (length ps) ∷ []) ∷ map pair_line ps) ++ all_sink_lines names has ns) here
    ∙ ap (λ ls. sink_lines names had n ++ ls) (sinks_alike shape names has had ns (and_right (sink_fits shape n) _ within) same)

-- what is printed of a determinate document
pub meant_text : (meanings : Meanings) (doc : Doc) (bodies : ℕ) (meant : Meant) → doc_fits bodies doc ≡ true → IsDeterminate meanings doc → IsWhole meanings doc meant.flow
    → lines (codes "determinate" ∷ sinks_section doc.names (meant_at doc meant) doc.sinks) ≡ check_text meanings doc
meant_text meanings doc bodies meant fits determined whole =
    ap (λ ls. lines (codes "determinate" ∷ sinks_line doc.sinks ∷ ls)) (sinks_alike doc.shape doc.names (meant_at doc meant) (meaning meanings doc) doc.sinks (and_right _ (list_all (sink_fits doc.shape) doc.sinks) fits) (λ n lt. meant-is meanings doc meant n whole lt))
    ∙ sym (ap (λ r. lines (check_lines meanings doc r)) determined)

-- ---- what is said

pub ended_loose : (text told : List ℕ) (status : Status) (old new : Option (List ℕ)) → told ≡ text → IsSaid told S.Done status old new → IsEnded (output S.Done text) status old new
ended_loose text told status old new same said = ended_output text status old new (subst (λ (t : List ℕ). IsSaid t S.Done status old new) same said)

-- nothing was written before
pub no_memory_after : (ending : Ending) (status : Status) (old mid new : Option (List ℕ)) → mid ≡ old → IsSaid memory_text S.Memory status mid new → IsEnded ending status old new
no_memory_after ending status old mid new same said = ended_memory ending status old new (subst (λ (o : Option (List ℕ)). IsSaid memory_text S.Memory status o new) same said)

pub ended_as : (text other : List ℕ) (status : Status) (old new : Option (List ℕ)) → text ≡ other → IsEnded (output S.Done text) status old new → IsEnded (output S.Done other) status old new
ended_as text other status old new same e = subst (λ (t : List ℕ). IsEnded (output S.Done t) status old new) same e

module _ (printed text : List ℕ) (same : printed ≡ text) (old new : Option (List ℕ)) where
  pub meant_whole : Grows old printed new → IsEnded (output S.Done text) S.Done old new
  meant_whole g = record { last = output S.Done text; is = inl refl; written = (refl, subst (λ (t : List ℕ). Grows old t new) same g) }

  pub meant_part : GrowsByPart old printed new → IsEnded (output S.Done text) S.Write old new
  meant_part g = record { last = output S.Done text; is = inl refl; written = subst (λ (t : List ℕ). GrowsByPart old t new) same g }

  -- it was cut for want of memory, and what was written was sent on, unless that failed
  pub meant_cut : (last : Option (List ℕ)) (status : Status) → ((n : ℕ) × (0 < n) × Grows old (take n printed) new) → last ≡ new → (status ≡ S.Memory) ⊎ (status ≡ S.Write) → IsEnded (output S.Done text) status old last
  meant_cut last status g stays (inl e) = rw (e, stays) (record { last = output S.Done text; is = inl refl; written = inr (subst (λ (t : List ℕ). (n : ℕ) × (0 < n) × Grows old (take n t) new) same g) })
  meant_cut last status g stays (inr e) = rw (e, stays) (meant_part (g.0, g.2))

-- ---- what is left

module _ (shelf : List (List ℕ)) (meanings : Meanings) (asked : Option ⊤) (before after : Option (List ℕ)) (kept : Kept) where
  cause_of : (ending : Ending) → IsCheckEnding shelf meanings asked before after kept ending → IsCheckCaused shelf (ending_status ending) asked before after kept
  cause_of bad_words is = is
  cause_of unread is = tt
  cause_of no_memory is = tt
  cause_of (bad_document D.TooLong) is = is.1
  cause_of (bad_document D.Syntax) is = is.1
  cause_of (bad_document (D.Place path want)) is = (D.Place path want, refl, is.1)
  cause_of (bad_document (D.Shape fault)) is = (D.Shape fault, refl, is.1)
  cause_of (bad_document D.Memory) is = tt
  cause_of (bad_line k) is = absurd is
  cause_of (output status text) is = rw is.1 (some_of kept.doc is.2 is.3)
    where
      some_of : (o : Option Doc) (doc : Doc) → o ≡ Some doc → is_some o ≡ true
      some_of None doc e = cc
      some_of (Some d) doc e = refl

  by_bytes : (left : Option (List ℕ)) (read : Result Doc DocFault) → ((all : List ℕ) → left ≡ Some all → document OFFERED shelf all ≡ read) → IsCheckDue shelf (Some tt) left (due_status read)
  by_bytes None read told = tt
  by_bytes (Some all) read told = ap due_status (sym (told all refl))

  due_refused : (o : Option ⊤) (fault : DocFault) → is_some o ≡ true → IsRefused shelf before after fault → IsCheckDue shelf o before (fault_status fault)
  due_refused None fault some r = cc
  due_refused (Some x) fault some r = by_bytes before (Err fault) (λ all e. refused_all shelf None before after kept all fault (subst (λ (b : Option (List ℕ)). IsRefused shelf b after fault) e r))

  due_kept : (o : Option ⊤) (d : Option Doc) (doc : Doc) → is_some o ≡ true → d ≡ Some doc → IfSome d (λ x. IsRead shelf before after (Ok x)) → IsCheckDue shelf o before S.Done
  due_kept None d doc some is read = cc
  due_kept (Some x) None doc some is read = cc
  due_kept (Some x) (Some d) doc some is read = by_bytes before (Ok d) (λ all e. let s : IsRead shelf (Some all) after (Ok d) = subst (λ (b : Option (List ℕ)). IsRead shelf b after (Ok d)) e read in all_read shelf None before after kept all s.bytes (Ok d) s.taken s.whole s.is)

  due_ending : (ending : Ending) → IsCheckEnding shelf meanings asked before after kept ending → IfSome kept.doc (λ doc. IsRead shelf before after (Ok doc)) → (ending_status ending ≡ S.Read → ⊥) → (ending_status ending ≡ S.Memory) ⊎ IsCheckDue shelf asked before (ending_status ending)
  due_ending bad_words is doc never = inr (rw is refl)
  due_ending unread is doc never = absurd (never refl)
  due_ending no_memory is doc never = inl refl
  due_ending (bad_document fault) is doc never = inr (due_refused asked fault is.0 is.1)
  due_ending (bad_line k) is doc never = absurd is
  due_ending (output status text) is doc never = inr (rw is.1 (due_kept asked kept.doc is.2 is.0 is.3 doc))

  module _ (status : Status) (old new : Option (List ℕ)) where
    -- all is told by what is kept and what is printed
    pub answers_printed : KeepsChecked shelf asked before after kept → IsCheckPrinted shelf meanings asked before after kept status old new → IsCheckAnswer shelf meanings asked before after kept status old new
    answers_printed keeps printed = record {
      kept = keeps;
      printed = printed;
      cause = by_cause (status_of printed.ending status old new printed.written);
      complete = λ reads writes. by_due reads writes (status_of printed.ending status old new printed.written);
    }
      where
        by_cause : (status ≡ S.Write) ⊎ ((status ≡ S.Memory) ⊎ (status ≡ ending_status printed.ending)) → IsCheckCaused shelf status asked before after kept
        by_cause (inl e) = rw e tt
        by_cause (inr (inl e)) = rw e tt
        by_cause (inr (inr e)) = rw e (cause_of printed.ending printed.is)

        by_due : (status ≡ S.Read → ⊥) → (status ≡ S.Write → ⊥) → (status ≡ S.Write) ⊎ ((status ≡ S.Memory) ⊎ (status ≡ ending_status printed.ending)) → (status ≡ S.Memory) ⊎ IsCheckDue shelf asked before status
        by_due reads writes (inl e) = absurd (writes e)
        by_due reads writes (inr (inl e)) = inl e
        by_due reads writes (inr (inr e)) = rw e (due_ending printed.ending printed.is keeps.read (λ same. reads (e ∙ same)))

    keeps_none : kept.doc ≡ None → IsFresh kept → KeepsChecked shelf asked before after kept
    keeps_none none fresh = record { read = (rw none tt); line = λ some. absurd (unlike kept.doc none some); fresh = fresh }
      where
        unlike : (o : Option Doc) → o ≡ None → is_some o ≡ true → ⊥
        unlike None n s = cc
        unlike (Some doc) n s = cc

    -- words that are no line
    pub answers_no_line : asked ≡ None → kept.doc ≡ None → IsFresh kept → (text : List ℕ) → text ≡ words_text → IsSaid text S.Words status old new → IsCheckAnswer shelf meanings asked before after kept status old new
    answers_no_line bad none fresh text same told =
        answers_printed (keeps_none none fresh) (record { ending = bad_words; is = bad; written = says_words status old new (subst (λ (t : List ℕ). IsSaid t S.Words status old new) same told) })

    -- memory ran out before the words were read
    pub answers_unread : kept.doc ≡ None → IsFresh kept → IsSaid memory_text S.Memory status old new → IsCheckAnswer shelf meanings asked before after kept status old new
    answers_unread none fresh said = answers_printed (keeps_none none fresh) (record { ending = no_memory; is = tt; written = says_memory status old new said })

    -- the source gave no document
    pub answers_input : is_some asked ≡ true → kept.doc ≡ None → IsFresh kept → (fault : InputFault) → Reads shelf before after (Err fault) → IsEnded (fault_ending fault) status old new → IsCheckAnswer shelf meanings asked before after kept status old new
    answers_input line none fresh fault reads ended = answers_printed (keeps_none none fresh) (record { ending = ended.last; is = by_last ended.is; written = ended.written })
      where
        is_of : (f : InputFault) → Reads shelf before after (Err f) → IsCheckEnding shelf meanings asked before after kept (fault_ending f)
        is_of I.Unread r = line
        is_of (I.Bad D.TooLong) r = (line, r)
        is_of (I.Bad D.Syntax) r = (line, r)
        is_of (I.Bad (D.Place path want)) r = (line, r)
        is_of (I.Bad (D.Shape f)) r = (line, r)
        is_of (I.Bad D.Memory) r = tt

        by_last : (ended.last ≡ fault_ending fault) ⊎ (ended.last ≡ no_memory) → IsCheckEnding shelf meanings asked before after kept ended.last
        by_last (inl same) = rw same (is_of fault reads)
        by_last (inr same) = rw same tt

    -- a document was checked
    pub answers_checked : is_some asked ≡ true → (doc : Doc) → IsRead shelf before after (Ok doc) → kept.doc ≡ Some doc → IsFresh kept → IsEnded (output S.Done (check_text meanings doc)) status old new → IsCheckAnswer shelf meanings asked before after kept status old new
    answers_checked line doc read is fresh ended = answers_printed
        (record { read = rw is read; line = λ some. line; fresh = fresh })
        (record { ending = ended.last; is = by_last ended.is; written = ended.written })
      where
        by_last : (ended.last ≡ output S.Done (check_text meanings doc)) ⊎ (ended.last ≡ no_memory) → IsCheckEnding shelf meanings asked before after kept ended.last
        by_last (inl same) = rw same (line, refl, doc, is, refl)
        by_last (inr same) = rw same tt
